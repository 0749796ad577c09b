use Rattle.notebook_engine.proofs.Packed.{image_of, no_fault_in, stands_again, objects_again, only_memory}
use Rattle.notebook_engine.proofs.notebook.Notebook.unpacked.Goals as goal

pub returns-else-objects-clause-image : goal.returns-else-objects-clause-image
returns-else-objects-clause-image c = image_of c.args.bytes.now c.args.host c.in-Ok.restored c.of.result c.of.ensures.kernel c.of.ensures.history c.in-Ok.ensures.restored

pub returns-else-objects-clause-stands : goal.returns-else-objects-clause-stands
returns-else-objects-clause-stands c = λ served plan packed. (
  stands_again served plan c.args.bytes.now packed c.args.host c.in-Ok.restored c.in-Ok.ensures.restored c.of.result c.of.ensures.kernel c.of.ensures.history,
  objects_again served plan c.args.bytes.now packed c.args.host c.in-Ok.restored c.in-Ok.ensures.restored,
)

pub ran_out-requires : goal.ran_out-requires
ran_out-requires c = only_memory c.in-Err.fault (λ known. no_fault_in c.requires.0 c.requires.1 c.args.bytes.now c.requires.2 c.in-Err.fault (c.in-Err.ensures.fault known))
