use Rattle.node_serve.proofs.Closings.{none_first}
use Rattle.node_serve.proofs.closing.close_reader.Goals as goal

pub returns-in-None-clause-first : goal.returns-in-None-clause-first
returns-in-None-clause-first g c = none_first c.args.reader c.args.lease.now.entries c.in-None.is
