use Rattle.std.proofs.Common.{◌≡◌, true, false, sym, ap, ◌∙◌, subst, ◌∷◌, []}
use Rattle.session_core.specs.Legal.{progress_of}
use Rattle.session_core.proofs.Stepping.{ends_goes_on, ends_phase, ends_owner, dead_stays, dead_served, dead_drawn}
use Rattle.session_core.proofs.Feeding.{fed_still}
use Rattle.session_gate.specs.Answered.{IsAnswered}
use Rattle.session_gate.specs.Facts.{Holds}
use Rattle.session_gate.proofs.Noting.{answered_by, answered_ends, fed_more}
use Rattle.session_gate.proofs.resident.Resident.serve.Goals as goal

-- ---- it was dead

pub invariant_of-self : goal.invariant_of-self
invariant_of-self g c = let e = g.E.Engine in let f = g.F.Feed in let i = c.self.inside in let v = c.self.view_is in
    let m = e.meaning in
    let old = i.journal.entries in
    let new = c.answer_dead.new.journal.entries in
    let r = c.args.request in
    let h = c.self.invariant in
    let noted = c.answer_dead.ensures.noted i.hosts in
    let dead : (progress_of old).dead ≡ true = sym h.kept.dead ∙ c.if-self.true in
    let stays = dead_stays m i.hosts old new r noted dead in
    answered_by m i.hosts (e.stands_for i.engine) (e.stands_for i.engine) (e.host_of i.engine) (e.host_of i.engine) (f.seen i.feed) (f.seen i.feed) i.dead i.dead i.count i.count i.kernel old new i.ends i.outlet r h noted
    (ap (λ (x : Holds g.row.E.Denot g.row.F.Denot). (progress_of x.entries).phase) v ∙ c.requires.settled)
    (subst (λ (x : Holds g.row.E.Denot g.row.F.Denot). IsAnswered x.kernel x.entries x.ends (r ∷ [])) (sym v) c.requires.owes)
    (c.if-self.true ∙ sym stays) (λ alive. let never : true ≡ false = sym c.if-self.true ∙ alive in cc)
    (λ _. h.kept.counts c.if-self.true ∙ ap m.count (sym (dead_served m i.hosts old new r noted dead)))
    (fed_still (f.seen i.feed).made old new (f.seen i.feed) (ends_goes_on m i.hosts old new r noted) (dead_drawn m i.hosts old new r noted dead) (stays ∙ sym dead) h.fed)

pub returns-then-self-clause-owes : goal.returns-then-self-clause-owes
returns-then-self-clause-owes g c = let i = c.self.inside in let v = c.self.view_is in
    answered_ends g.E.Engine.meaning i.hosts i.kernel i.journal.entries c.answer_dead.new.journal.entries i.ends c.args.request (c.answer_dead.ensures.noted i.hosts)
    (ap (λ (x : Holds g.row.E.Denot g.row.F.Denot). (progress_of x.entries).phase) v ∙ c.requires.settled)
    (subst (λ (x : Holds g.row.E.Denot g.row.F.Denot). IsAnswered x.kernel x.entries x.ends (c.args.request ∷ [])) (sym v) c.requires.owes)

pub returns-then-self-clause-settled : goal.returns-then-self-clause-settled
returns-then-self-clause-settled g c = let i = c.self.inside in let v = c.self.view_is in
    ends_phase g.E.Engine.meaning i.hosts i.journal.entries c.answer_dead.new.journal.entries c.args.request (c.answer_dead.ensures.noted i.hosts)
    (ap (λ (x : Holds g.row.E.Denot g.row.F.Denot). (progress_of x.entries).phase) v ∙ c.requires.settled)

-- ---- it died

pub invariant_of-self-then-not-serve : goal.invariant_of-self-then-not-serve
invariant_of-self-then-not-serve g c = let e = g.E.Engine in let f = g.F.Feed in let i = c.self.inside in let v = c.self.view_is in
    let m = e.meaning in
    let old = i.journal.entries in
    let new = c.serve.new.journal.entries in
    let r = c.args.request in
    let h = c.self.invariant in
    let s = c.serve.ensures in
    let failed : c.serve.result ≡ false = c.if-not-serve.true in
    answered_by m i.hosts (e.stands_for c.serve.new.engine) (e.stands_for i.engine) (e.host_of c.serve.new.engine) (e.host_of i.engine) (f.seen i.feed) (f.seen c.serve.new.feed) i.dead true i.count c.count-before.result i.kernel old new i.ends i.outlet r h (s.noted i.hosts)
    (ap (λ (x : Holds g.row.E.Denot g.row.F.Denot). (progress_of x.entries).phase) v ∙ c.requires.settled)
    (subst (λ (x : Holds g.row.E.Denot g.row.F.Denot). IsAnswered x.kernel x.entries x.ends (r ∷ [])) (sym v) c.requires.owes)
    (sym (s.dead failed)) (λ alive. let never : true ≡ false = alive in cc)
    (λ _. c.count-before.ensures (progress_of old).served (h.kept.alive c.if-self.false).0 ∙ ap m.count (sym (s.served failed)))
    (fed_more old new s.fed.0 (f.seen i.feed) (f.seen c.serve.new.feed) s.fed.1 (sym h.kept.dead ∙ c.if-self.false) s.fed.2 h.fed)

pub returns-then-not-serve-clause-owes : goal.returns-then-not-serve-clause-owes
returns-then-not-serve-clause-owes g c = let i = c.self.inside in let v = c.self.view_is in
    answered_ends g.E.Engine.meaning i.hosts i.kernel i.journal.entries c.serve.new.journal.entries i.ends c.args.request (c.serve.ensures.noted i.hosts)
    (ap (λ (x : Holds g.row.E.Denot g.row.F.Denot). (progress_of x.entries).phase) v ∙ c.requires.settled)
    (subst (λ (x : Holds g.row.E.Denot g.row.F.Denot). IsAnswered x.kernel x.entries x.ends (c.args.request ∷ [])) (sym v) c.requires.owes)

pub returns-then-not-serve-clause-settled : goal.returns-then-not-serve-clause-settled
returns-then-not-serve-clause-settled g c = let i = c.self.inside in let v = c.self.view_is in
    ends_phase g.E.Engine.meaning i.hosts i.journal.entries c.serve.new.journal.entries c.args.request (c.serve.ensures.noted i.hosts)
    (ap (λ (x : Holds g.row.E.Denot g.row.F.Denot). (progress_of x.entries).phase) v ∙ c.requires.settled)

-- ---- it ran

pub invariant_of-self-2 : goal.invariant_of-self-2
invariant_of-self-2 g c = let e = g.E.Engine in let f = g.F.Feed in let i = c.self.inside in let v = c.self.view_is in
    let m = e.meaning in
    let old = i.journal.entries in
    let new = c.serve.new.journal.entries in
    let r = c.args.request in
    let h = c.self.invariant in
    let s = c.serve.ensures in
    let ran : c.serve.result ≡ true = c.if-not-serve.false in
    answered_by m i.hosts (e.stands_for c.serve.new.engine) (e.stands_for i.engine) (e.host_of c.serve.new.engine) (e.host_of i.engine) (f.seen i.feed) (f.seen c.serve.new.feed) i.dead c.is_end-is_end.result i.count c.count-self-inside.result i.kernel old new i.ends i.outlet r h (s.noted i.hosts)
    (ap (λ (x : Holds g.row.E.Denot g.row.F.Denot). (progress_of x.entries).phase) v ∙ c.requires.settled)
    (subst (λ (x : Holds g.row.E.Denot g.row.F.Denot). IsAnswered x.kernel x.entries x.ends (r ∷ [])) (sym v) c.requires.owes)
    (c.is_end-is_end.ensures ∙ sym (s.ends ran))
    (λ _. (s.stands ran, s.host ran ∙ (h.kept.alive c.if-self.false).1 ∙ sym (ends_owner m i.hosts old new r (s.noted i.hosts))))
    (λ _. c.count-self-inside.ensures (progress_of new).served (s.stands ran))
    (fed_more old new s.fed.0 (f.seen i.feed) (f.seen c.serve.new.feed) s.fed.1 (sym h.kept.dead ∙ c.if-self.false) s.fed.2 h.fed)

pub returns-clause-owes : goal.returns-clause-owes
returns-clause-owes g c = let i = c.self.inside in let v = c.self.view_is in
    answered_ends g.E.Engine.meaning i.hosts i.kernel i.journal.entries c.serve.new.journal.entries i.ends c.args.request (c.serve.ensures.noted i.hosts)
    (ap (λ (x : Holds g.row.E.Denot g.row.F.Denot). (progress_of x.entries).phase) v ∙ c.requires.settled)
    (subst (λ (x : Holds g.row.E.Denot g.row.F.Denot). IsAnswered x.kernel x.entries x.ends (c.args.request ∷ [])) (sym v) c.requires.owes)

pub returns-clause-settled : goal.returns-clause-settled
returns-clause-settled g c = let i = c.self.inside in let v = c.self.view_is in
    ends_phase g.E.Engine.meaning i.hosts i.journal.entries c.serve.new.journal.entries c.args.request (c.serve.ensures.noted i.hosts)
    (ap (λ (x : Holds g.row.E.Denot g.row.F.Denot). (progress_of x.entries).phase) v ∙ c.requires.settled)
