use Rattle.std.proofs.Common.{refl, sym, subst}
use Rattle.session_queues.specs.declared.shared.SharedQueues.{SharedQueues}
use Rattle.node_run.specs.Unsent.{IsReaderOf, read_of}
use Rattle.node_serve.proofs.Closings.{parts_still, journal_still, taken_back}
use Rattle.node_serve.proofs.closing.close_one.Goals as goal

pub close_reader-place-requires : goal.close_reader-place-requires
close_reader-place-requires g c = subst (λ (q : SharedQueues). IsReaderOf q c.args.session.reader) (sym c.finish-lease.ensures.finished.2) c.requires.reader

pub returns-clause-run : goal.returns-clause-run
returns-clause-run g c = λ s is.
    let a = c.into_alone-served.ensures.alone in
    let journal = journal_still g.F.Feed.seen g.E.Engine.meaning g.N.Name.hosts g.N.Name.gives c.args.cell.0 c.args.cell.1 s c.args.session c.finish-lease.result.0 c.close_reader-place.new.lease c.into_alone-served.result.0.hosts c.into_alone-served.result.0.entries
    c.close_reader-place.ensures.same a.0 a.1 is c.finish-lease.ensures.finished (c.finish-lease.ensures.all c.if-not-all.false) c.is_legal.ensures c.into_alone-served.ensures.fed in
    (is.kernel, journal)

pub returns-clause-place : goal.returns-clause-place
returns-clause-place g c =
    let a = c.into_alone-served.ensures.alone in
    (refl, refl, c.close_reader-place.ensures.count, parts_still g.F.Feed.seen c.finish-lease.result.0 c.close_reader-place.new.lease (read_of c.args.session) c.into_alone-served.result.0.entries c.close_reader-place.ensures.same a.0 c.close_reader-place.ensures.first)

pub returns-then-not-all-clause-err : goal.returns-then-not-all-clause-err
returns-then-not-all-clause-err g c = λ s is.
    taken_back g.F.Feed.seen g.E.Engine.meaning g.N.Name.hosts g.N.Name.gives c.args.cell.0 c.args.cell.1 s c.args.session c.finish-lease.result.0 c.close_reader-place.new.lease
    c.close_reader-place.ensures.same c.close_reader-place.ensures.first is c.finish-lease.ensures.finished c.let_go.ensures.waits c.let_go.ensures.legal c.let_go.ensures.fed
