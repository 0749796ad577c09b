use Rattle.std.proofs.Common.{◌≡◌, length}
use Rattle.part_loader.specs.Loading.{put_held}
use Rattle.part_loader.proofs.loading.put_all.Given as goal

abbrev pub invariant-loop-rest : goal.invariant-loop-rest
invariant-loop-rest l = put_held l.above.base l.rest l.values l.state ≡ put_held l.above.base l.names l.held l.initial.state

abbrev pub decreases-loop-rest : goal.decreases-loop-rest
decreases-loop-rest l = length l.rest
