use Rattle.std.proofs.Common.{sym, ◌∙◌}
use Rattle.std.specs.Prelude.{slice_get}
use Rattle.py_meaning.specs.Methods.{items_in}
use Rattle.py_methods.proofs.Taken.{popped_item}
use Rattle.py_methods.proofs.lists.popped_at.Goals as goal

pub returns-in-Some-clause-runs : goal.returns-in-Some-clause-runs
returns-in-Some-clause-runs c = λ draws told.
    let m = c.args.machine.now in
    popped_item c.args.at c.args.position (items_in (slice_get m.state.heap c.args.at)) c.in-Some.item draws m _ (sym c.in_ok-found.ensures ∙ c.in-Some.is) (c.taken_out.ensures.runs draws told)
