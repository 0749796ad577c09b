use Rattle.std.proofs.Common.{◌-◌, ◌<◌, ◌≤◌, refl, arith}
use Rattle.py_blocks.specs.Source.{most}
use Rattle.py_reader.proofs.Final.{refusal_deep, refusal_shallow}
use Rattle.py_reader.proofs.read.refusal_at.Goals as goal

pub returns-then-least-deep : goal.returns-then-least-deep
returns-then-least-deep c =
    let before : most - c.args.place < c.in_ok-deep.deep = omega (arith, c.saturating_sub-least.ensures, c.if-least-deep.true) in
    refusal_deep _ _ _ _ _ _ _ _ c.requires.within (omega arith) c.in_ok-held.ensures c.in_ok-deep.ensures before refl c.start_at.ensures

pub returns : goal.returns
returns c =
    let behind : c.in_ok-deep.deep ≤ most - c.args.place = omega (arith, c.saturating_sub-least.ensures, c.if-least-deep.false) in
    refusal_shallow _ _ _ _ _ _ _ _ _ _ _ c.requires.within (omega arith) c.in_ok-held.ensures c.in_ok-deep.ensures behind c.in_ok-state.ensures c.in_ok-construct.ensures c.kind_at-token.ensures c.start_of.ensures c.refused.ensures
