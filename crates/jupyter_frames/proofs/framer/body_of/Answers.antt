use Rattle.std.proofs.Common.{arith}
use Rattle.jupyter_frames.proofs.Cutting.{cut_whole, map_ok}
use Rattle.jupyter_frames.proofs.framer.body_of.Goals as goal

pub returns : goal.returns
returns c = map_ok c.from_slice.result (λ body cut. cut_whole c.args.bytes.now body c.args.n _ (λ i. omega (arith, c.type_inv.bytes i)) c.requires.n c.requires.whole (omega arith) cut) c.from_slice.ensures
