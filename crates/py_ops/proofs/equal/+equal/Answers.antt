use Rattle.std.proofs.Common.{◌≡◌, ◌∙◌, sym, Some, length, ap, arith}
use Rattle.std.specs.Prelude.{slice_get}
use Rattle.py_heap.specs.declared.heap.Object.TheVariants as object
use Rattle.py_machine.specs.Errors.{recursion_error}
use Rattle.py_meaning.specs.Acts.{run}
use Rattle.py_meaning.specs.Compared.{pair_equal}
use Rattle.py_ops.proofs.Compared.{seen, lists_at, tuples_at, dicts_at}
use Rattle.py_ops.proofs.Deeper.{deeper}
use Rattle.py_ops.proofs.equal.+equal.Goals as goal

pub pair_equal-returns-clause-runs : goal.pair_equal-returns-clause-runs
unfolding pair_equal
pair_equal-returns-clause-runs t c = λ draws told.
    rw (deeper (λ n. run (pair_equal n c.args.value.now c.args.other.now) draws c.args.machine.now) c.args.left (omega arith)) (c.one_equal.ensures.runs draws told)

pub pair_equal-returns-then-left-eq0-clause-runs : goal.pair_equal-returns-then-left-eq0-clause-runs
unfolding pair_equal
pair_equal-returns-then-left-eq0-clause-runs t c = λ draws told.
    let none : c.args.left ≡ 0 = omega arith in
    let error : c.in_ok-recursion_error.field-0 ≡ recursion_error = c.in_ok-recursion_error.ensures in
    rw error (ap (λ n. run (pair_equal n c.args.value.now c.args.other.now) draws c.args.machine.now) none)

pub refs_equal-returns-else-count-len-clause-runs : goal.refs_equal-returns-else-count-len-clause-runs
refs_equal-returns-else-count-len-clause-runs t c = λ draws told.
    let e : slice_get c.args.machine.now.state.heap c.args.a ≡ Some (object.Dict c.in-Some-Dict.pairs) = seen c.in-Some-Dict.ensures c.in-Some-Dict.field-0-is in
    let f : slice_get c.args.machine.now.state.heap c.args.b ≡ Some (object.Dict c.in-Some-Dict-object_at.others) = seen c.in-Some-Dict-object_at.ensures c.in-Some-Dict-object_at.field-0-is in
    let l : length c.in-Some-Dict.pairs ≡ length c.in-Some-Dict-object_at.others = sym c.len-count-in-Some-Dict-object_at.ensures.value ∙ c.if-count-len.false ∙ c.len.ensures.value in
    dicts_at (pair_equal c.args.left) c.args.a c.args.b draws c.args.machine.now _ _ _ e f l (c.pairs_equal.ensures.runs draws told)

pub refs_equal-returns-in-Some-List-object_at-clause-runs : goal.refs_equal-returns-in-Some-List-object_at-clause-runs
refs_equal-returns-in-Some-List-object_at-clause-runs t c = λ draws told.
    let e : slice_get c.args.machine.now.state.heap c.args.a ≡ Some (object.List c.in-Some-List.items) = seen c.in-Some-List.ensures c.in-Some-List.field-0-is in
    let f : slice_get c.args.machine.now.state.heap c.args.b ≡ Some (object.List c.in-Some-List-object_at.others) = seen c.in-Some-List-object_at.ensures c.in-Some-List-object_at.field-0-is in
    lists_at (pair_equal c.args.left) c.args.a c.args.b draws c.args.machine.now _ _ _ e f (c.sequences_equal.ensures.runs draws told)

pub refs_equal-returns-in-Some-Tuple-object_at-2-clause-runs : goal.refs_equal-returns-in-Some-Tuple-object_at-2-clause-runs
refs_equal-returns-in-Some-Tuple-object_at-2-clause-runs t c = λ draws told.
    let e : slice_get c.args.machine.now.state.heap c.args.a ≡ Some (object.Tuple c.in-Some-Tuple.items) = seen c.in-Some-Tuple.ensures c.in-Some-Tuple.field-0-is in
    let f : slice_get c.args.machine.now.state.heap c.args.b ≡ Some (object.Tuple c.in-Some-Tuple-object_at-2.others) = seen c.in-Some-Tuple-object_at-2.ensures c.in-Some-Tuple-object_at-2.field-0-is in
    tuples_at (pair_equal c.args.left) c.args.a c.args.b draws c.args.machine.now _ _ _ e f (c.sequences_equal-in-Some-Tuple-object_at-2.ensures.runs draws told)
