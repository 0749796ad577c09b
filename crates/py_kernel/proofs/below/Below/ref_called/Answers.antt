use Rattle.std.proofs.Common.{◌≡◌, Some, rules}
use Rattle.std.specs.Prelude.{slice_get}
use Rattle.py_heap.specs.declared.heap.Object.TheVariants as object
use Rattle.py_machine.specs.Runs.{object_at}
use Rattle.py_meaning.specs.Meaning.{ref_called}
use Rattle.py_kernel.proofs.below.Below.ref_called.Goals as goal

pub returns-in_ok-function-in-Some-Function-clause-runs : goal.returns-in_ok-function-in-Some-Function-clause-runs
unfolding ref_called object_at
returns-in_ok-function-in-Some-Function-clause-runs g c = λ draws b told.
    let found : slice_get c.args.machine.now.state.heap c.args.at ≡ Some (object.Function c.in_ok-function-in-Some-Function.function) = search rules in
    rw found (c.function_called.ensures.runs draws b told)
