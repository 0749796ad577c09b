use Rattle.std.proofs.Common.{◌≡◌, Some}
use Rattle.std.specs.Prelude.{slice_get}
use Rattle.py_heap.specs.declared.heap.Object.TheVariants as object
use Rattle.py_meaning.specs.Compared.{pair_equal}
use Rattle.py_ops.proofs.Compared.{searched_at, searched_in_tuple}
use Rattle.py_ops.proofs.contained.in_ref.Goals as goal

pub returns-in-Some-List-clause-runs : goal.returns-in-Some-List-clause-runs
returns-in-Some-List-clause-runs c = λ draws told.
    let h = c.in-Some-List.ensures in
    let e : slice_get c.args.machine.now.state.heap c.args.at ≡ Some (object.List c.in-Some-List.items) = cc in
    searched_at (pair_equal c.args.left) c.args.value.now c.args.at draws c.args.machine.now _ _ e (c.in_items.ensures.runs draws told)

pub returns-in-Some-Tuple-clause-runs : goal.returns-in-Some-Tuple-clause-runs
returns-in-Some-Tuple-clause-runs c = λ draws told.
    let h = c.in-Some-Tuple.ensures in
    let e : slice_get c.args.machine.now.state.heap c.args.at ≡ Some (object.Tuple c.in-Some-Tuple.items) = cc in
    searched_in_tuple (pair_equal c.args.left) c.args.value.now c.args.at draws c.args.machine.now _ _ e (c.in_items-in-Some-Tuple.ensures.runs draws told)
