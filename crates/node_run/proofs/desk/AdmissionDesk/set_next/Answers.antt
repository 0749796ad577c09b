use Rattle.std.proofs.Common.{◌≡◌, sym, ap, ◌∙◌, subst, refl, drop, ◌<◌, length, List, Some}
use Rattle.std.specs.Prelude.{slice_get, slice_set}
use Rattle.node_run.specs.declared.open_session.OpenSession.{OpenSession}
use Rattle.node_run.specs.Unsent.{HasNumbered}
use Rattle.node_run.proofs.Seating.{read_there}
use Rattle.node_run.proofs.Keeping.{alike_set, alike_length, alike_seated, numbered_readable}
use Rattle.node_run.proofs.desk.AdmissionDesk.set_next.Goals as goal

pub invariant_of-self : goal.invariant_of-self
invariant_of-self g c =
    let qs = g.N.Name.queues in
    let os = c.self.inside.sessions.items in
    let o = c.index_mut-session.result.now in
    let within : c.args.at < length os = subst (λ (l : List OpenSession). c.args.at < length l) (sym c.self.view_is) c.requires in
    let there = read_there os c.args.at o within c.index_mut-session.ensures.value in
    let p : OpenSession = record o { next = c.args.next } in
    let alike = alike_set os c.args.at o p there refl refl refl in (
      c.self.invariant.0,
      c.self.invariant.1,
      c.self.invariant.2,
      ap (λ n. drop n qs) (alike_length os (slice_set os c.args.at p) alike) ∙ c.self.invariant.3,
      alike_seated os (slice_set os c.args.at p) qs alike c.self.invariant.4,
      numbered_readable os qs c.args.at c.args.next o c.self.invariant.5 there,
    )

pub returns : goal.returns
returns g c =
    let os = c.self.inside.sessions.items in
    let o = c.index_mut-session.result.now in
    let within : c.args.at < length os = subst (λ (l : List OpenSession). c.args.at < length l) (sym c.self.view_is) c.requires in
    let there = read_there os c.args.at o within c.index_mut-session.ensures.value in
    let p : OpenSession = record o { next = c.args.next } in
    let here : HasNumbered os c.args.at c.args.next (slice_set os c.args.at p) = (o, there, refl) in
    subst (λ (l : List OpenSession). HasNumbered l c.args.at c.args.next (slice_set os c.args.at p)) c.self.view_is here
