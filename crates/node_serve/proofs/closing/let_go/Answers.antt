use Rattle.std.proofs.Common.{sym, subst}
use Rattle.session_queues.specs.declared.shared.SharedQueues.{SharedQueues}
use Rattle.node_run.specs.Unsent.{IsReaderOf}
use Rattle.node_serve.proofs.Closings.{taken_back}
use Rattle.node_serve.proofs.closing.let_go.Goals as goal

pub close_reader-requires : goal.close_reader-requires
close_reader-requires g c = subst (λ (q : SharedQueues). IsReaderOf q c.args.session.reader) (sym c.take_back-lease.ensures.2) c.requires.reader

pub returns : goal.returns
returns g c = λ s is.
    taken_back g.F.Feed.seen g.E.Engine.meaning g.N.Name.hosts g.N.Name.gives c.args.cell.0 c.args.cell.1 s c.args.session c.take_back-lease.result c.close_reader.new.lease
    c.close_reader.ensures.same c.close_reader.ensures.first is c.take_back-lease.ensures c.let_go.ensures.waits c.let_go.ensures.legal c.let_go.ensures.fed
