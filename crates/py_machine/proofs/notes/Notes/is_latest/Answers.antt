use Rattle.std.proofs.Common.{rules, ◌≡◌, ℕ, Some, true, subst}
use Rattle.py_machine.specs.Marked.{has_member}
use Rattle.py_machine.specs.Notes.{IsChangedIn}
use Rattle.py_machine.proofs.notes.Notes.is_latest.Goals as goal

pub returns-in-Some : goal.returns-in-Some
returns-in-Some c = λ is.
    let same : c.in-Some.last ≡ c.args.at = search rules in
    let last : has_member c.self.inside.marks.changed c.in-Some.last ≡ true =
    subst (IsChangedIn c.self.inside.marks) c.in-Some.is c.self.invariant.1 in
    rw (← c.self.view_is, ← same) last
