use Rattle.std.proofs.Common.{◌≡◌, ◌∙◌, min, Some, length, ap, arith}
use Rattle.std.specs.Prelude.{slice_get}
use Rattle.py_heap.specs.declared.heap.Object.TheVariants as object
use Rattle.py_heap.specs.Objects.{items_at}
use Rattle.py_machine.specs.Errors.{recursion_error}
use Rattle.py_meaning.specs.Acts.{run}
use Rattle.py_meaning.specs.Compared.{pair_equal, pair_ordered}
use Rattle.py_ops.proofs.Compared.{seen, ordered_at, tuples_ordered_at, ordered_end}
use Rattle.py_ops.proofs.Deeper.{deeper}
use Rattle.py_ops.proofs.order.+order.Goals as goal

pub pair_ordered-returns-clause-runs : goal.pair_ordered-returns-clause-runs
unfolding pair_ordered
pair_ordered-returns-clause-runs t c = λ draws told.
    rw (deeper (λ n. run (pair_ordered n c.args.op c.args.value.now c.args.other.now) draws c.args.machine.now) c.args.left (omega arith)) (c.values_ordered.ensures.runs draws told)

pub pair_ordered-returns-then-left-eq0-clause-runs : goal.pair_ordered-returns-then-left-eq0-clause-runs
unfolding pair_ordered
pair_ordered-returns-then-left-eq0-clause-runs t c = λ draws told.
    let none : c.args.left ≡ 0 = omega arith in
    let error : c.in_ok-recursion_error.field-0 ≡ recursion_error = c.in_ok-recursion_error.ensures in
    rw error (ap (λ n. run (pair_ordered n c.args.op c.args.value.now c.args.other.now) draws c.args.machine.now) none)

pub items_ordered-returns-clause-runs : goal.items_ordered-returns-clause-runs
items_ordered-returns-clause-runs t c = λ draws told.
    let m = c.args.machine.now in
    let k : c.loop-position.position ≡ min (length (items_at m.state.heap c.args.a)) (length (items_at m.state.heap c.args.b)) = omega arith in
    c.loop-position.invariant.runs draws ∙ rw (c.order_holds.ensures, c.cmp.ensures, ← c.requires.first, ← c.requires.second) (ordered_end (pair_equal c.args.left) (pair_ordered c.args.left) c.args.op draws c.loop-position.machine (items_at m.state.heap c.args.a) (items_at m.state.heap c.args.b) c.loop-position.position k)

pub refs_ordered-returns-in-Some-List-object_at-clause-runs : goal.refs_ordered-returns-in-Some-List-object_at-clause-runs
refs_ordered-returns-in-Some-List-object_at-clause-runs t c = λ draws told.
    let e : slice_get c.args.machine.now.state.heap c.args.a ≡ Some (object.List c.in-Some-List.items) = seen c.in-Some-List.ensures c.in-Some-List.field-0-is in
    let f : slice_get c.args.machine.now.state.heap c.args.b ≡ Some (object.List c.in-Some-List-object_at.others) = seen c.in-Some-List-object_at.ensures c.in-Some-List-object_at.field-0-is in
    ordered_at (pair_equal c.args.left) (pair_ordered c.args.left) c.args.op c.args.a c.args.b draws c.args.machine.now _ _ _ e f (c.items_ordered.ensures.runs draws told)

pub refs_ordered-returns-in-Some-Tuple-object_at-2-clause-runs : goal.refs_ordered-returns-in-Some-Tuple-object_at-2-clause-runs
refs_ordered-returns-in-Some-Tuple-object_at-2-clause-runs t c = λ draws told.
    let e : slice_get c.args.machine.now.state.heap c.args.a ≡ Some (object.Tuple c.in-Some-Tuple.items) = seen c.in-Some-Tuple.ensures c.in-Some-Tuple.field-0-is in
    let f : slice_get c.args.machine.now.state.heap c.args.b ≡ Some (object.Tuple c.in-Some-Tuple-object_at-2.others) = seen c.in-Some-Tuple-object_at-2.ensures c.in-Some-Tuple-object_at-2.field-0-is in
    tuples_ordered_at (pair_equal c.args.left) (pair_ordered c.args.left) c.args.op c.args.a c.args.b draws c.args.machine.now _ _ _ e f (c.items_ordered-in-Some-Tuple-object_at-2.ensures.runs draws told)
