use Rattle.std.proofs.Common.{◌≡◌, true, false, refl, sym, ap, ◌∙◌}
use Rattle.session_core.specs.Legal.{progress_of}
use Rattle.session_core.proofs.Stepping.{ends_legal, ends_goes_on, ends_phase, ends_owner, ends_asked}
use Rattle.session_core.proofs.Feeding.{fed_by}
use Rattle.session_core.proofs.alone.served.Goals as goal

pub invariant_of-result : goal.invariant_of-result
invariant_of-result g c =
    let old = c.args.journal.entries in
    let new = c.serve.new.journal.entries in
    let ends = c.serve.ensures.noted c.args.hosts in
    let h = c.requires.alone in
    let failed : c.serve.result ≡ false = c.if-not-serve.true in record {
      legal = ends_legal g.E.Engine.meaning c.args.hosts old new c.args.request ends h.legal;
      phase = ends_phase g.E.Engine.meaning c.args.hosts old new c.args.request ends h.phase;
      dead = sym (c.serve.ensures.dead failed);
      alive = λ alive. let never : true ≡ false = alive in cc;
      counts = λ _. c.count-before.ensures (progress_of old).served (h.alive refl).0 ∙ ap g.E.Engine.meaning.count (sym (c.serve.ensures.served failed));
    }

pub returns-then-not-serve-clause-answered : goal.returns-then-not-serve-clause-answered
returns-then-not-serve-clause-answered g c =
    ends_asked g.E.Engine.meaning c.args.hosts c.args.journal.entries c.serve.new.journal.entries c.args.request (c.serve.ensures.noted c.args.hosts) c.requires.alone.phase

pub invariant_of-result-2 : goal.invariant_of-result-2
invariant_of-result-2 g c =
    let old = c.args.journal.entries in
    let new = c.serve.new.journal.entries in
    let ends = c.serve.ensures.noted c.args.hosts in
    let h = c.requires.alone in
    let ran : c.serve.result ≡ true = c.if-not-serve.false in record {
      legal = ends_legal g.E.Engine.meaning c.args.hosts old new c.args.request ends h.legal;
      phase = ends_phase g.E.Engine.meaning c.args.hosts old new c.args.request ends h.phase;
      dead = c.is_end-is_end.ensures ∙ sym (c.serve.ensures.ends ran);
      alive = λ _. (c.serve.ensures.stands ran, c.serve.ensures.host ran ∙ (h.alive refl).1 ∙ sym (ends_owner g.E.Engine.meaning c.args.hosts old new c.args.request ends));
      counts = λ _. c.count-count.ensures (progress_of new).served (c.serve.ensures.stands ran);
    }

pub returns-clause-answered : goal.returns-clause-answered
returns-clause-answered g c =
    ends_asked g.E.Engine.meaning c.args.hosts c.args.journal.entries c.serve.new.journal.entries c.args.request (c.serve.ensures.noted c.args.hosts) c.requires.alone.phase

pub returns-then-not-serve-clause-goes_on : goal.returns-then-not-serve-clause-goes_on
returns-then-not-serve-clause-goes_on g c =
    ends_goes_on g.E.Engine.meaning c.args.hosts c.args.journal.entries c.serve.new.journal.entries c.args.request (c.serve.ensures.noted c.args.hosts)

pub returns-clause-goes_on : goal.returns-clause-goes_on
returns-clause-goes_on g c =
    ends_goes_on g.E.Engine.meaning c.args.hosts c.args.journal.entries c.serve.new.journal.entries c.args.request (c.serve.ensures.noted c.args.hosts)

pub returns-then-not-serve-clause-fed : goal.returns-then-not-serve-clause-fed
returns-then-not-serve-clause-fed g c = λ answers h.
    let fed = c.serve.ensures.fed in
    fed_by answers c.args.journal.entries c.serve.new.journal.entries fed.0 _ _ fed.1 (sym c.requires.alone.dead) fed.2 h

pub returns-clause-fed : goal.returns-clause-fed
returns-clause-fed g c = λ answers h.
    let fed = c.serve.ensures.fed in
    fed_by answers c.args.journal.entries c.serve.new.journal.entries fed.0 _ _ fed.1 (sym c.requires.alone.dead) fed.2 h
