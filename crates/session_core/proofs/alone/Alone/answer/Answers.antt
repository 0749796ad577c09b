use Rattle.std.proofs.Common.{◌≡◌, true, false, ◌++◌, ◌∷◌, [], sym, ap, ◌∙◌, subst}
use Rattle.session_core.specs.Legal.{asked}
use Rattle.session_core.specs.Stepping.{GoesOn}
use Rattle.session_core.proofs.Stepping.{ends_legal, ends_goes_on, ends_phase, ends_asked, dead_stays, dead_served, dead_drawn}
use Rattle.session_core.specs.Feeding.{HasFed}
use Rattle.session_core.proofs.Feeding.{fed_still}
use Rattle.session_core.proofs.alone.Alone.answer.Goals as goal

pub invariant_of-result-then-dead : goal.invariant_of-result-then-dead
invariant_of-result-then-dead g c =
    let old = c.self.inside.journal.entries in
    let new = c.answer_dead.new.journal.entries in
    let ends = c.answer_dead.ensures.noted c.self.inside.hosts in
    let h = c.self.invariant in
    let is : c.self.inside.dead ≡ true = c.if-dead.true in
    let was = sym h.dead ∙ is in record {
      legal = ends_legal g.E.Engine.meaning c.self.inside.hosts old new c.args.request ends h.legal;
      phase = ends_phase g.E.Engine.meaning c.self.inside.hosts old new c.args.request ends h.phase;
      dead = is ∙ sym (dead_stays g.E.Engine.meaning c.self.inside.hosts old new c.args.request ends was);
      alive = λ alive. let never : true ≡ false = sym is ∙ alive in cc;
      counts = λ _. h.counts is ∙ ap g.E.Engine.meaning.count (sym (dead_served g.E.Engine.meaning c.self.inside.hosts old new c.args.request ends was));
    }

pub returns-then-dead-clause-answered : goal.returns-then-dead-clause-answered
returns-then-dead-clause-answered g c =
    ends_asked g.E.Engine.meaning c.self.inside.hosts c.self.inside.journal.entries c.answer_dead.new.journal.entries c.args.request (c.answer_dead.ensures.noted c.self.inside.hosts) c.self.invariant.phase
    ∙ ap (λ z. asked z.entries ++ c.args.request ∷ []) c.self.view_is

pub returns-then-dead-clause-goes_on : goal.returns-then-dead-clause-goes_on
returns-then-dead-clause-goes_on g c =
    subst (λ z. GoesOn z.entries c.answer_dead.new.journal.entries) c.self.view_is
    (ends_goes_on g.E.Engine.meaning c.self.inside.hosts c.self.inside.journal.entries c.answer_dead.new.journal.entries c.args.request (c.answer_dead.ensures.noted c.self.inside.hosts))

pub returns-then-dead-clause-fed : goal.returns-then-dead-clause-fed
returns-then-dead-clause-fed g c = λ answers h.
    let old = c.self.inside.journal.entries in
    let new = c.answer_dead.new.journal.entries in
    let ends = c.answer_dead.ensures.noted c.self.inside.hosts in
    let was = sym c.self.invariant.dead ∙ c.if-dead.true in
    fed_still answers old new _ (ends_goes_on g.E.Engine.meaning c.self.inside.hosts old new c.args.request ends)
    (dead_drawn g.E.Engine.meaning c.self.inside.hosts old new c.args.request ends was)
    (dead_stays g.E.Engine.meaning c.self.inside.hosts old new c.args.request ends was ∙ sym was)
    (subst (λ z. HasFed answers z.entries (g.F.Feed.seen c.args.feed.now)) (sym c.self.view_is) h)

pub returns-then-is_move-clause-fed : goal.returns-then-is_move-clause-fed
returns-then-is_move-clause-fed g c = λ answers h.
    let ended = c.attempt-engine.ensures.ended in
    fed_still answers c.self.inside.journal.entries c.attempt-engine.new.journal.entries _ ended.goes_on ended.drawn ended.dead
    (subst (λ z. HasFed answers z.entries (g.F.Feed.seen c.args.feed.now)) (sym c.self.view_is) h)
