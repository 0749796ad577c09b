use Rattle.std.proofs.Common.{rules, ◌≡◌, true, sym, ap, subst}
use Rattle.py_machine.specs.Marked.{with_member, has_member}
use Rattle.py_machine.proofs.Noted.{Kept, number_there, kept_changed}
use Rattle.std.specs.Prelude.{Some}
use Rattle.py_machine.proofs.notes.Notes.change.Goals as goal

pub returns-then-is_latest : goal.returns-then-is_latest
returns-then-is_latest c =
    let m = c.args.self.now in
    let is : has_member m.changed c.args.at ≡ true = search rules in
    ap (λ z. record m { changed = z }) (sym (number_there m.changed c.args.at is))

pub invariant_of-self : goal.invariant_of-self
invariant_of-self c =
    let m = c.self.inside.marks in
    let same : c.insert.new.self ≡ m.changed = search rules in
    subst (λ z. Kept (record m { changed = z }) c.self.inside.seen c.self.inside.latest) (sym same) c.self.invariant

pub invariant_of-self-2 : goal.invariant_of-self-2
invariant_of-self-2 c =
    let m = c.self.inside.marks in
    let more : c.insert.new.self ≡ with_member m.changed c.args.at = search rules in
    subst (λ z. Kept (record m { changed = z }) c.self.inside.seen (Some c.args.at)) (sym more)
    (kept_changed m c.self.inside.seen c.self.inside.latest c.args.at c.self.invariant)
