use Rattle.std.proofs.Common.{◌≡◌, ap, ◌∙◌, replicate}
use Rattle.std.proofs.lemmas.List.{length-replicate}
use Rattle.py_machine.specs.declared.frame.FrameSlot.TheVariants.{Empty}
use Rattle.py_machine.proofs.Slotted.{filled_empty}
use native.Mathlib.Omega.{arith}
use Rattle.py_machine.proofs.slots.Slots.new.Goals as goal

made : (c : goal.After-from_vec) → c.from_vec.result ≡ replicate c.args.count Empty
made c =
    let all : c.loop-slot._slot ≡ c.args.count = omega (arith, c.loop-slot.auto._slot-end, c.loop-slot-test.false) in
    c.from_vec.ensures ∙ c.loop-slot.invariant ∙ ap (λ n. replicate n Empty) all

pub invariant_of-result : goal.invariant_of-result
invariant_of-result c = rw (made c, length-replicate c.args.count Empty) c.requires

pub returns : goal.returns
returns c = rw (made c) (filled_empty c.args.numbers c.args.count)
