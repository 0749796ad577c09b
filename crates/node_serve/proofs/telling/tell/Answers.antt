use Rattle.node_serve.proofs.Sendings.{front_told}
use Rattle.node_serve.proofs.telling.tell.Goals as goal

pub returns-in-Err-OutOfMemory : goal.returns-in-Err-OutOfMemory
returns-in-Err-OutOfMemory g c = record { tells = front_told _ _ c.args.bytes.now c.if-is_cut.false c.in-Err-OutOfMemory.ensures.err c.in-Err-OutOfMemory.ensures.faults_stay }
