use Rattle.std.proofs.Common.{◌≡◌, ◌++◌, ◌∷◌, [], refl, sym, ap, ◌∙◌, subst}
use Rattle.session_core.specs.declared.entry.Entry.TheVariants.{Refused, Resumed}
use Rattle.session_core.specs.Legal.{progress_of}
use Rattle.session_core.proofs.Stepping.{alive_has_no_end}
use Rattle.session_core.proofs.Going.{refused, resumed, goes_packed, goes_alive, gone, gone_held, stays}
use Rattle.session_core.proofs.steps.attempt.Goals as goal

pub returns-in-Refuse-clause-ended : goal.returns-in-Refuse-clause-ended
returns-in-Refuse-clause-ended g c =
    refused g.E.Engine.meaning c.args.hosts c.args.journal.now.entries c.refuse.new.journal.entries c.args.request c.in-Refuse.reason c.requires.settled c.refuse.ensures.entries c.in-Refuse.ensures

pub returns-in-Refuse-clause-stands : goal.returns-in-Refuse-clause-stands
returns-in-Refuse-clause-stands g c = λ alive.
    stays (g.E.Engine.stands_for c.args.engine) (g.E.Engine.host_of c.args.engine) c.args.journal.now.entries c.refuse.new.journal.entries
    (Refused (progress_of c.args.journal.now.entries).owner c.args.request c.in-Refuse.reason) c.refuse.ensures.entries refl refl (c.requires.stands alive)

pub returns-in-Stay-clause-ended : goal.returns-in-Stay-clause-ended
returns-in-Stay-clause-ended g c =
    let es = c.args.journal.now.entries in
    resumed g.E.Engine.meaning c.args.hosts es c.resume.new.journal.entries c.args.request c.requires.settled
    (c.resume.ensures ∙ ap (λ h. es ++ Resumed h c.args.request ∷ []) c.settled_owner.ensures) c.in-Stay.ensures

pub returns-in-Stay-clause-stands : goal.returns-in-Stay-clause-stands
returns-in-Stay-clause-stands g c = λ alive.
    stays (g.E.Engine.stands_for c.args.engine) (g.E.Engine.host_of c.args.engine) c.args.journal.now.entries c.resume.new.journal.entries (Resumed c.settled_owner.result c.args.request)
    c.resume.ensures refl refl (c.requires.stands alive)

pub go-requires-clause-packed : goal.go-requires-clause-packed
go-requires-clause-packed g c =
    let es = c.args.journal.now.entries in
    let p = progress_of es in
    let m = g.E.Engine.meaning in
    let goes = c.in-Go.ensures.1 in
    let alive = goes_alive m c.args.hosts p c.in-Go.packed c.in-Go.to c.args.request.ask goes in
    goes_packed m c.args.hosts p c.in-Go.packed c.in-Go.to c.args.request.ask (g.met.E.Engine.runs c.args.engine p.served (c.requires.stands (c.requires.dead ∙ alive)).0) (alive_has_no_end es) goes

pub go-requires-clause-stands : goal.go-requires-clause-stands
go-requires-clause-stands g c =
    c.requires.stands (c.requires.dead ∙ goes_alive g.E.Engine.meaning c.args.hosts (progress_of c.args.journal.now.entries) c.in-Go.packed c.in-Go.to c.args.request.ask c.in-Go.ensures.1)

pub returns-in-Go-clause-ended : goal.returns-in-Go-clause-ended
returns-in-Go-clause-ended g c =
    let es = c.args.journal.now.entries in
    gone g.E.Engine.meaning c.args.hosts es c.go.new.journal.entries c.args.request c.in-Go.again c.in-Go.to c.in-Go.packed
    (λ host. g.E.Engine.stands_for c.go.result (progress_of es).served × (g.E.Engine.host_of c.go.result ≡ host))
    c.in-Go.ensures.0 c.requires.settled c.in-Go.ensures.1 c.go.ensures

pub returns-in-Go-clause-stands : goal.returns-in-Go-clause-stands
returns-in-Go-clause-stands g c = λ _.
    let es = c.args.journal.now.entries in
    let ended = returns-in-Go-clause-ended g c in
    let held = gone_held g.E.Engine.meaning c.args.hosts es c.go.new.journal.entries c.args.request c.in-Go.again c.in-Go.to c.in-Go.packed.certified
    (λ host. g.E.Engine.stands_for c.go.result (progress_of es).served × (g.E.Engine.host_of c.go.result ≡ host)) c.go.ensures in
    (subst (g.E.Engine.stands_for c.go.result) (sym ended.served) held.0, held.1)
