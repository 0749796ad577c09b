use Rattle.std.proofs.Common.{rules, ◌≡◌, ◌∷◌, length, reverse, drop, sym, subst, arith}
use Rattle.session_queues.specs.declared.shared.SharedQueues.{SharedQueues}
use Rattle.session_queues.specs.Passes.{IsPassOf}
use Rattle.host_workers.specs.Tables.{AreNumbered}
use Rattle.node_run.specs.Unsent.{IsReaderOf}
use Rattle.node_run.proofs.Seating.{last_first}
use Rattle.node_run.proofs.Serving.{next_of, some_cell, same_queues, none_left}
use Rattle.node_serve.specs.Sent.{wire}
use Rattle.node_serve.proofs.Closings.{start_closed, next_readable, next_counted, next_closed, all_closed}
use Rattle.node_serve.proofs.closing.close_all.Goals as goal

pub loop-session-init : goal.loop-session-init
loop-session-init g c =
    let same : c.into_iter-session-iterator.result.rest.items ≡ c.args.sessions.items = search rules in
    start_closed g.E.Engine.meaning g.N.Name.hosts g.N.Name.gives g.N.Name.queues (wire (g.L.Link.line c.args.link.now) (g.L.Link.faults c.args.link.now) c.args.is_cut.now) c.args.sessions.items c.into_iter-session-iterator.result.rest.items c.reverse.new.self.items c.args.cells.items c.args.suffices c.new.result.items
    same c.reverse.ensures.items c.new.ensures.items c.requires.table.0 c.requires.seated c.requires.readable c.requires.counted

pub unreachable-requires : goal.unreachable-requires
unreachable-requires g c =
    let i = c.loop-session.invariant in
    let next : c.loop-session.session-iterator.rest.items ≡ c.in-Some.session ∷ c.next.new.self.rest.items = search rules in
    let there = next_of g.N.Name.queues c.loop-session.session-iterator.rest.items c.next.new.self.rest.items c.in-Some.session i.done next i.seated in
    let some = some_cell g.N.Name.queues c.next.new.self.rest.items c.in-Some.session i.done (length c.loop-session.cells.items) there c.requires.table.1 i.long in
    let none = c.in_default.ensures.cases.0 in
    let count = c.loop-session.cells.ok.0 in
    omega (arith, some, none, count)

pub close_next-requires-clause-pass : goal.close_next-requires-clause-pass
close_next-requires-clause-pass g c =
    let i = c.loop-session.invariant in
    let cell = c.in-Some-pop.cell in
    let o = c.in-Some.session in
    let rest = c.next.new.self.rest.items in
    let next : c.loop-session.session-iterator.rest.items ≡ o ∷ rest = search rules in
    let there = next_of g.N.Name.queues c.loop-session.session-iterator.rest.items rest o i.done next i.seated in
    let turned = last_first c.loop-session.cells.items c.pop.new.self.items cell c.in-Some-pop.ensures.items in
    let numbered : AreNumbered i.done (cell ∷ reverse c.pop.new.self.items) = subst (AreNumbered i.done) turned i.numbered in
    subst (λ (q : SharedQueues). IsPassOf q o.pass) (sym (same_queues g.N.Name.queues rest o i.done cell there numbered.0 c.is_listed.ensures)) there.is_of

pub close_next-requires-clause-reader : goal.close_next-requires-clause-reader
close_next-requires-clause-reader g c =
    let i = c.loop-session.invariant in
    let cell = c.in-Some-pop.cell in
    let o = c.in-Some.session in
    let rest = c.next.new.self.rest.items in
    let next : c.loop-session.session-iterator.rest.items ≡ o ∷ rest = search rules in
    let there = next_of g.N.Name.queues c.loop-session.session-iterator.rest.items rest o i.done next i.seated in
    let turned = last_first c.loop-session.cells.items c.pop.new.self.items cell c.in-Some-pop.ensures.items in
    let numbered : AreNumbered i.done (cell ∷ reverse c.pop.new.self.items) = subst (AreNumbered i.done) turned i.numbered in
    let reader = next_readable (drop i.done g.N.Name.queues) there.left c.loop-session.session-iterator.rest.items rest o there.queue there.parts next i.readable in
    subst (λ (q : SharedQueues). IsReaderOf q o.reader) (sym (same_queues g.N.Name.queues rest o i.done cell there numbered.0 c.is_listed.ensures)) reader.0

pub close_next-requires-clause-counted : goal.close_next-requires-clause-counted
close_next-requires-clause-counted g c = λ yes.
    let next : c.loop-session.session-iterator.rest.items ≡ c.in-Some.session ∷ c.next.new.self.rest.items = search rules in
    (next_counted c.loop-session.session-iterator.rest.items c.next.new.self.rest.items c.in-Some.session next (c.loop-session.invariant.counted yes)).0

pub loop-session-preserved : goal.loop-session-preserved
loop-session-preserved g c =
    let cell = c.in-Some-pop.cell in
    let o = c.in-Some.session in
    let rest = c.next.new.self.rest.items in
    let first = wire (g.L.Link.line c.args.link.now) (g.L.Link.faults c.args.link.now) c.args.is_cut.now in
    let old = wire (g.L.Link.line c.loop-session.link) (g.L.Link.faults c.loop-session.link) c.loop-session.is_cut in
    let new = wire (g.L.Link.line c.close_next.new.link) (g.L.Link.faults c.close_next.new.link) c.close_next.new.is_cut in
    let next : c.loop-session.session-iterator.rest.items ≡ o ∷ rest = search rules in
    let parts = c.in-Some-pop.ensures.items in
    next_closed g.E.Engine.meaning g.N.Name.hosts g.N.Name.gives g.N.Name.queues first old new c.args.sessions.items c.loop-session.session-iterator.rest.items rest c.loop-session.cells.items c.pop.new.self.items
    c.args.suffices c.loop-session.closings.suffices c.close_next.new.closings.suffices c.loop-session.closings.runs.items c.close_next.new.closings.runs.items o cell c.loop-session.invariant next
    (last_first c.loop-session.cells.items c.pop.new.self.items cell parts) parts c.is_listed.ensures c.close_next.ensures.closes c.close_next.ensures.stays

pub returns : goal.returns
returns g c =
    let first = wire (g.L.Link.line c.args.link.now) (g.L.Link.faults c.args.link.now) c.args.is_cut.now in
    let now = wire (g.L.Link.line c.loop-session.link) (g.L.Link.faults c.loop-session.link) c.loop-session.is_cut in
    let count = c.loop-session.session-iterator.rest.ok.0 in
    let end = c.in-None.ensures.steps.0 in
    let none = none_left c.loop-session.session-iterator.rest.items (omega (arith, count, end)) in
    all_closed g.E.Engine.meaning g.N.Name.hosts g.N.Name.gives g.N.Name.queues first now c.args.sessions.items c.loop-session.session-iterator.rest.items c.loop-session.cells.items c.args.suffices c.loop-session.closings.suffices c.loop-session.closings.runs.items
    c.loop-session.invariant none
