use Rattle.std.proofs.Common.{rules, ◌≡◌, Some, true, ap, ◌∙◌}
use Rattle.std.specs.FinMap as finite
use Rattle.py_machine.proofs.notes.Notes.is_seen_bound.Goals as goal

pub returns-in-Some : goal.returns-in-Some
returns-in-Some c = λ is.
    let there : finite.get c.self.inside.seen c.args.name.now ≡ Some c.in-Some.bound.now = search rules in
    let bound : finite.get c.self.inside.seen c.args.name.now ≡ Some true = there ∙ ap (λ b. Some b) is in
    rw (← c.self.view_is) (c.self.invariant.0 c.args.name.now true bound)
