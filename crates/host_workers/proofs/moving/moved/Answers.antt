use Rattle.host_workers.proofs.Leaving.{came}
use Rattle.host_workers.proofs.moving.moved.Goals as goal

pub arrived-requires : goal.arrived-requires
arrived-requires g c = came c.in-Sealed.parcel c.arrive.result c.in-Sealed.ensures.started.4 c.arrive.ensures.noted c.arrive.ensures.kept
