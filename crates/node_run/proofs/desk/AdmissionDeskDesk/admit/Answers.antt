use Rattle.std.proofs.Common.{ap, ◌∙◌, sym, subst, drop, List, ◌<◌, length, arith}
use Rattle.node_run.specs.declared.open_session.OpenSession.{OpenSession}
use Rattle.node_run.specs.Admitted.{AreOpen}
use Rattle.node_run.proofs.Seating.{seated_few, admitted_seated, admitted_length, admitted_open}
use Rattle.node_run.specs.Unsent.{AreKept}
use Rattle.node_run.specs.Keeping.{kept_all}
use Rattle.node_run.proofs.Keeping.{admitted_readable, kept_admitted}
use Rattle.node_run.proofs.desk.AdmissionDeskDesk.admit.Goals as goal

pub overflow_cast-number : goal.overflow_cast-number
overflow_cast-number g c =
    let os = c.self.inside.sessions.items in
    let few = seated_few os g.N.Name.queues c.self.invariant.4 in
    let within : c.args.at < length os = subst (λ (l : List OpenSession). c.args.at < length l) (sym c.self.view_is) c.requires.at in
    let all = c.self.invariant.2 in
    omega (arith, few)

pub cell-requires : goal.cell-requires
cell-requires g c =
    let os = c.self.inside.sessions.items in
    let few = seated_few os g.N.Name.queues c.self.invariant.4 in
    let within : c.args.at < length os = subst (λ (l : List OpenSession). c.args.at < length l) (sym c.self.view_is) c.requires.at in
    let all = c.self.invariant.2 in
    omega (arith, few)

pub invariant_of-self-2 : goal.invariant_of-self-2
invariant_of-self-2 g c =
    let qs = g.N.Name.queues in
    let os = c.self.inside.sessions.items in
    let new = c.admit_to.new.sessions.items in
    let done = c.in_ok-host.ensures.ok in (
      c.self.invariant.0,
      c.self.invariant.1,
      c.self.invariant.2,
      ap (λ n. drop n qs) (admitted_length os new c.args.at c.args.request done) ∙ c.self.invariant.3,
      admitted_seated os new qs c.args.at c.cell.result.now.0 c.args.request c.self.invariant.4 c.cell.ensures.0 done,
      admitted_readable os new qs c.args.at c.cell.result.now.0 c.args.request c.self.invariant.5 c.cell.ensures.0 done,
    )

pub returns-clause-ok : goal.returns-clause-ok
returns-clause-ok g c = λ ts s are there.
    let qs = g.N.Name.queues in
    admitted_open c.self.inside.sessions.items c.admit_to.new.sessions.items qs c.args.at c.args.request ts s c.requires.frontend c.in_ok-host.ensures.ok
    (subst (λ (l : List OpenSession). AreOpen ts l qs) (sym c.self.view_is) are) there

pub returns-clause-kept : goal.returns-clause-kept
returns-clause-kept g c =
    let kept = kept_admitted c.self.inside.sessions.items c.admit_to.new.sessions.items c.args.at c.args.request c.in_ok-host.ensures.ok in
    subst (λ (l : List OpenSession). AreKept l c.admit_to.new.sessions.items) c.self.view_is kept

pub returns-in_err-host-clause-kept : goal.returns-in_err-host-clause-kept
returns-in_err-host-clause-kept g c =
    let os : List OpenSession = c.self.inside.sessions.items in
    subst (λ (l : List OpenSession). AreKept l c.admit_to.new.sessions.items) c.self.view_is (subst (AreKept os) (sym c.in_err-host.ensures.err) (kept_all os))
