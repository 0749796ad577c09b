use Rattle.std.proofs.Common.{refl}
use Rattle.std.proofs.lemmas.Bool.{false≢true}
use Rattle.part_bytes.specs.Sizing.{size_of}
use Rattle.state_judge.proofs.Agreed.{same_bits, other_bits, other_flag, like_said}
use Rattle.state_judge.proofs.judging.is_like.Goals as goal

pub returns-then-part-version : goal.returns-then-part-version
returns-then-part-version c = (
  λ t. absurd (false≢true t),
  λ said. absurd (other_flag c.args.state.now c.args.part.now c.requires.closed c.requires.part c.args.version.now c.requires.names (other_bits c.args.part.now.handle c.args.version.now.handle c.if-part-version.true) said),
)

pub returns : goal.returns
returns c =
    let s = c.args.state.now in
    let part = c.args.part.now in
    let version = c.args.version.now in
    let n = size_of part.names s in
    let flag = same_bits part.handle version.handle c.if-part-version.false in
    let like = like_said s part c.requires.closed c.requires.part version c.requires.names flag n refl in
    let is = c.has_size.ensures n c.in_ok-found.ensures in
    (λ t. like.0 (is.0 t), λ said. is.1 (like.1 said))
