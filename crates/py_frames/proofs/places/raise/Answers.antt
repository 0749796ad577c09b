use Rattle.std.proofs.Common.{◌≡◌, ◌-◌, ◌∙◌, length, reverse, arith, subst}
use Rattle.py_frames.specs.Values.{beside}
use Rattle.py_frames.proofs.Sides.{Raised, raised, beside-comm}
use Rattle.py_frames.proofs.places.raise.Goals as goal

pub returns : goal.returns
returns c =
    let e : reverse c.loop-index.long ≡ beside (reverse c.args.long.now) (reverse c.args.short.now) = raised c.args.long.now c.args.short.now c.loop-index.long (length c.args.long.now - length c.args.short.now) (omega (arith, c.requires))
    (subst (λ n. Raised c.args.long.now c.args.short.now c.loop-index.long (length c.args.long.now - length c.args.short.now) n) (omega (arith, c.loop-index-test.false, c.loop-index.auto.index-end)) c.loop-index.invariant) in
    record { longer = e; shorter = e ∙ beside-comm (reverse c.args.long.now) (reverse c.args.short.now) }
