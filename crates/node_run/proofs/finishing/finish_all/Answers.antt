use Rattle.std.proofs.Common.{rules, ◌≡◌, [], ◌∷◌, ◌++◌, length, reverse, if◌then◌else◌, sym, ap, ◌∙◌, subst, arith}
use Rattle.session_queues.specs.declared.shared.SharedQueues.{SharedQueues}
use Rattle.session_queues.specs.Passes.{IsPassOf}
use Rattle.host_workers.specs.Tables.{AreNumbered}
use Rattle.node_run.proofs.Seating.{last_first}
use Rattle.node_run.proofs.Serving.{start_served, next_of, some_cell, same_queues, next_served, none_left, all_served}
use Rattle.node_run.proofs.finishing.finish_all.Goals as goal

pub loop-session-init : goal.loop-session-init
loop-session-init g c =
    let same : c.into_iter-session-iterator.result.rest.items ≡ c.args.sessions.items = search rules in
    start_served g.E.Engine.meaning g.N.Name.hosts g.N.Name.gives g.N.Name.queues c.args.sessions.items c.into_iter-session-iterator.result.rest.items c.reverse.new.self.items c.args.cells.items c.new-runs.result.items
    same c.reverse.ensures.items c.new-runs.ensures.items c.requires.table.0 c.requires.seated

pub unreachable-requires : goal.unreachable-requires
unreachable-requires g c =
    let i = c.loop-session.invariant in
    let next : c.loop-session.session-iterator.rest.items ≡ c.in-Some.session ∷ c.next.new.self.rest.items = search rules in
    let there = next_of g.N.Name.queues c.loop-session.session-iterator.rest.items c.next.new.self.rest.items c.in-Some.session i.done next i.seated in
    let some = some_cell g.N.Name.queues c.next.new.self.rest.items c.in-Some.session i.done (length c.loop-session.cells.items) there c.requires.table.1 i.long in
    let none = c.in_default.ensures.cases.0 in
    let count = c.loop-session.cells.ok.0 in
    omega (arith, some, none, count)

pub finish_one-requires : goal.finish_one-requires
finish_one-requires g c =
    let i = c.loop-session.invariant in
    let cell = c.in-Some-pop.cell in
    let o = c.in-Some.session in
    let rest = c.next.new.self.rest.items in
    let next : c.loop-session.session-iterator.rest.items ≡ o ∷ rest = search rules in
    let there = next_of g.N.Name.queues c.loop-session.session-iterator.rest.items rest o i.done next i.seated in
    let turned = last_first c.loop-session.cells.items c.pop.new.self.items cell c.in-Some-pop.ensures.items in
    let numbered : AreNumbered i.done (cell ∷ reverse c.pop.new.self.items) = subst (AreNumbered i.done) turned i.numbered in
    subst (λ (q : SharedQueues). IsPassOf q o.pass) (sym (same_queues g.N.Name.queues rest o i.done cell there numbered.0 c.is_listed.ensures)) there.is_of

pub loop-session-preserved : goal.loop-session-preserved
loop-session-preserved g c =
    let cell = c.in-Some-pop.cell in
    let o = c.in-Some.session in
    let rest = c.next.new.self.rest.items in
    let runs = c.loop-session.runs.items in
    let run = c.in-Ok.run' in
    let next : c.loop-session.session-iterator.rest.items ≡ o ∷ rest = search rules in
    let parts = c.in-Some-pop.ensures.items in
    let push : c.push.new.self.items ≡ runs ++ run ∷ [] = c.push.ensures.items ∙ ap (λ b. if◌then◌else◌ b (runs ++ run ∷ []) runs) c.if-is_err.ensures.negation in
    next_served g.E.Engine.meaning g.N.Name.hosts g.N.Name.gives g.N.Name.queues c.args.sessions.items c.loop-session.session-iterator.rest.items rest c.loop-session.cells.items c.pop.new.self.items runs c.push.new.self.items o cell run
    c.loop-session.invariant next (last_first c.loop-session.cells.items c.pop.new.self.items cell parts) parts c.is_listed.ensures c.in-Ok.ensures push

pub returns : goal.returns
returns g c =
    let count = c.loop-session.session-iterator.rest.ok.0 in
    let end = c.in-None.ensures.steps.0 in
    let none = none_left c.loop-session.session-iterator.rest.items (omega (arith, count, end)) in
    all_served g.E.Engine.meaning g.N.Name.hosts g.N.Name.gives g.N.Name.queues c.args.sessions.items c.loop-session.session-iterator.rest.items c.loop-session.cells.items c.loop-session.runs.items c.loop-session.invariant none
