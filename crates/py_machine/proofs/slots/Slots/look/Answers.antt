use Rattle.std.proofs.Common.{◌≡◌, rules, refl, sym, ap, ◌∙◌, length, Some, None, slice_index_or}
use Rattle.std.proofs.lemmas.Option.{slice_get_read, get_or_from_slice_get}
use Rattle.std.specs.FinMap as finite
use Rattle.py_machine.specs.declared.frame.FrameSlot.TheVariants.{Empty}
use Rattle.py_machine.proofs.Slotted.{look_some, look_none}
use Rattle.py_machine.proofs.slots.Slots.look.Goals as goal

pub returns-in-Some : goal.returns-in-Some
returns-in-Some c =
    let at : finite.get c.self.inside.numbers c.args.name.now ≡ Some c.in-Some.at.now = search rules in
    let is : c.index-as_slice-at.result ≡ slice_index_or c.self.inside.values c.in-Some.at.now c.index-as_slice-at.result = search rules in
    let read = slice_get_read c.self.inside.values (length c.self.inside.values) c.in-Some.at.now c.index-as_slice-at.result refl (c.self.invariant.below c.args.name.now c.in-Some.at.now at) is in
    let slot = get_or_from_slice_get c.self.inside.values c.in-Some.at.now c.index-as_slice-at.result Empty read in
    rw (← c.self.view_is) (ap (λ x. Some x) (sym slot) ∙ look_some c.self.inside.numbers c.self.inside.values c.args.name.now c.in-Some.at.now at)

pub returns-in-None : goal.returns-in-None
returns-in-None c =
    let none : finite.get c.self.inside.numbers c.args.name.now ≡ None = search rules in
    rw (← c.self.view_is) (sym (look_none c.self.inside.numbers c.self.inside.values c.args.name.now none))
