use Rattle.std.proofs.Common.{rules, ◌≡◌, sym, subst}
use Rattle.std.specs.FinMap as finite
use Rattle.py_machine.specs.Notes.{AreMarked, IsMarked}
use Rattle.py_machine.proofs.Noted.{remembered}
use Rattle.py_machine.proofs.notes.Notes.remember.Goals as goal

pub invariant_of-self-2 : goal.invariant_of-self-2
invariant_of-self-2 c =
    let m = c.self.inside.marks in
    let more : c.put.new.self ≡ finite.insert c.self.inside.seen c.args.name.now c.args.bound = search rules in
    let is : IsMarked c.args.bound m c.args.name.now = subst (λ z. IsMarked c.args.bound z c.args.name.now) (sym c.self.view_is) c.requires in
    (subst (AreMarked m) (sym more) (remembered m c.self.inside.seen c.args.name.now c.args.bound is c.self.invariant.0), c.self.invariant.1)
