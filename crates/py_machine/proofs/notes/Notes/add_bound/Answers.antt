use Rattle.std.proofs.Common.{rules, ◌≡◌, sym, subst}
use Rattle.py_machine.specs.Marked.{with_member}
use Rattle.py_machine.proofs.Noted.{Kept, kept_bound}
use Rattle.py_machine.proofs.notes.Notes.add_bound.Goals as goal

pub invariant_of-self-in_err-bind : goal.invariant_of-self-in_err-bind
invariant_of-self-in_err-bind c =
    let m = c.self.inside.marks in
    let same : c.bind.new.self ≡ m.bound = search rules in
    subst (λ z. Kept (record m { bound = z }) c.self.inside.seen c.self.inside.latest) (sym same) c.self.invariant

pub invariant_of-self-2 : goal.invariant_of-self-2
invariant_of-self-2 c =
    let m = c.self.inside.marks in
    let more : c.bind.new.self ≡ with_member m.bound c.args.name.now = search rules in
    subst (λ z. Kept (record m { bound = z }) c.self.inside.seen c.self.inside.latest) (sym more)
    (kept_bound m c.self.inside.seen c.self.inside.latest c.args.name.now c.self.invariant)
