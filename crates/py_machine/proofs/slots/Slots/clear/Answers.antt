use Rattle.std.proofs.Common.{◌≡◌, rules, sym, ap, Some, None, Option, is_some}
use Rattle.std.specs.FinMap as finite
use Rattle.py_machine.specs.declared.frame.FrameSlot.{FrameSlot}
use Rattle.py_machine.specs.declared.frame.FrameSlot.TheVariants.{Empty}
use Rattle.py_machine.proofs.Slotted.{look_some, look_none, changed}
use Rattle.py_machine.proofs.slots.Slots.clear.Goals as goal

pub returns-in-Some-clause-there : goal.returns-in-Some-clause-there
returns-in-Some-clause-there c =
    let at : finite.get c.self.inside.numbers c.args.name.now ≡ Some c.in-Some.at.now = search rules in
    rw (← c.self.view_is) (ap (λ (o : Option FrameSlot). is_some o) (look_some c.self.inside.numbers c.self.inside.values c.args.name.now c.in-Some.at.now at))

pub returns-in-Some-clause-slots : goal.returns-in-Some-clause-slots
returns-in-Some-clause-slots c =
    let at : finite.get c.self.inside.numbers c.args.name.now ≡ Some c.in-Some.at.now = search rules in
    rw (c.set.ensures, ← c.self.view_is) (changed c.self.inside.numbers c.self.inside.values c.args.name.now c.in-Some.at.now Empty c.self.invariant at)

pub returns-in-None-clause-there : goal.returns-in-None-clause-there
returns-in-None-clause-there c =
    let none : finite.get c.self.inside.numbers c.args.name.now ≡ None = search rules in
    rw (← c.self.view_is) (sym (ap (λ (o : Option FrameSlot). is_some o) (look_none c.self.inside.numbers c.self.inside.values c.args.name.now none)))
