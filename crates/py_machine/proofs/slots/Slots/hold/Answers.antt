use Rattle.std.proofs.Common.{◌≡◌, rules, refl, Some, None}
use Rattle.std.specs.FinMap as finite
use Rattle.py_machine.specs.declared.frame.FrameSlot.TheVariants.{Held}
use Rattle.py_machine.proofs.Slotted.{look_some, look_none, changed}
use Rattle.py_machine.proofs.slots.Slots.hold.Goals as goal

pub returns-in-Some : goal.returns-in-Some
returns-in-Some c =
    let at : finite.get c.self.inside.numbers c.args.name.now ≡ Some c.in-Some.at.now = search rules in
    let look = look_some c.self.inside.numbers c.self.inside.values c.args.name.now c.in-Some.at.now at in
    (rw (← c.self.view_is, ← look) refl, rw (c.set.ensures, ← c.self.view_is) (changed c.self.inside.numbers c.self.inside.values c.args.name.now c.in-Some.at.now (Held c.args.value) c.self.invariant at))

pub returns-in-None : goal.returns-in-None
returns-in-None c =
    let none : finite.get c.self.inside.numbers c.args.name.now ≡ None = search rules in
    (refl, rw (← c.self.view_is) (look_none c.self.inside.numbers c.self.inside.values c.args.name.now none), refl)
