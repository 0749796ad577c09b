use Rattle.std.proofs.Common.{◌≡◌, ap, ◌∙◌, sym, refl, subst, List, [], ◌∷◌, ◌++◌, length, arith}
use Rattle.std.proofs.lemmas.List.{length-append}
use Rattle.session_queues.specs.declared.shared.SharedQueues.{SharedQueues}
use Rattle.session_queues.specs.Ends.{OnOut}
use Rattle.session_gate.proofs.Keeping.{same_queues}
use Rattle.node_intake.specs.Sessions.{new_session}
use Rattle.node_run.specs.declared.open_session.OpenSession.{OpenSession}
use Rattle.node_run.specs.Admitted.{AreOpen, AreSeated}
use Rattle.node_run.proofs.Seating.{next_listed, next_left, seated_more, first_seated, open_more, open_new}
use Rattle.node_run.specs.Unsent.{AreReadable, AreKept}
use Rattle.node_run.specs.Keeping.{kept_all}
use Rattle.node_run.proofs.Keeping.{readable_more, kept_is_of, kept_is_unread, kept_more}
use Rattle.node_run.proofs.desk.AdmissionDeskDesk.open.Goals as goal

pub open-requires-2-clause-name : goal.open-requires-2-clause-name
open-requires-2-clause-name g c =
    let qs = g.N.Name.queues in
    let n = length c.self.inside.sessions.items in
    let q = c.in-Some.queues in
    let listed = next_listed n qs c.self.inside.queues.items c.pop.new.self.items q c.self.invariant.3 c.in-Some.ensures.items in
    let count = c.self.inside.sessions.ok.0 in
    let told = c.len-number.ensures in
    let same = c.reserve.ensures.len in
    let number : n ≡ c.len-number.result = omega (arith, count, told, same) in
    (same_queues qs n c.len-number.result q c.cell-cell.result.now.0 listed c.cell-cell.ensures.0 number, c.self.invariant.0)

pub kept_reader-reader-requires : goal.kept_reader-reader-requires
kept_reader-reader-requires g c =
    let qs = g.N.Name.queues in
    let n = length c.self.inside.sessions.items in
    let q = c.in-Some.queues in
    let listed = next_listed n qs c.self.inside.queues.items c.pop.new.self.items q c.self.invariant.3 c.in-Some.ensures.items in
    let count = c.self.inside.sessions.ok.0 in
    let told = c.len-number.ensures in
    let same = c.reserve.ensures.len in
    let number : n ≡ c.len-number.result = omega (arith, count, told, same) in
    ap (λ (r : OnOut). r.out_queue) c.in-Ok.ensures.1 ∙ ap (λ (z : SharedQueues). z.out) (same_queues qs n c.len-number.result q c.cell-cell.result.now.0 listed c.cell-cell.ensures.0 number)

pub invariant_of-self-in-Ok : goal.invariant_of-self-in-Ok
invariant_of-self-in-Ok g c =
    let qs = g.N.Name.queues in
    let os = c.self.inside.sessions.items in
    let old = c.self.inside.queues.items in
    let new = c.pop.new.self.items in
    let q = c.in-Some.queues in
    let parts = c.in-Some.ensures.items in
    let listed = next_listed (length os) qs old new q c.self.invariant.3 parts in
    let o : OpenSession = record { kernel = c.args.kernel; host = c.args.host; requests = 0; pass = c.in-Ok.pass; reader = c.kept_reader-reader.result; next = 1 } in
    let all : c.push_reserved.new.self.items ≡ os ++ o ∷ [] = c.push_reserved.ensures.items ∙ ap (λ l. l ++ o ∷ []) c.reserve.ensures.items in
    let first = first_seated q c.args.kernel c.args.host c.args.request c.args.channel c.in-Ok.pass c.in-Ok.ensures.0 in (
      c.self.invariant.0,
      c.open.ensures.same ∙ c.self.invariant.1,
      c.self.invariant.2,
      next_left (length os) (length c.push_reserved.new.self.items) qs old new q (ap length all ∙ length-append os (o ∷ [])) c.self.invariant.3 parts,
      subst (λ l. AreSeated l qs) (sym all) (seated_more os qs o q c.self.invariant.4 listed first.0 first.1),
      subst (λ l. AreReadable l qs) (sym all) (readable_more os qs o q c.self.invariant.5 listed (kept_is_of q c.in-Ok.reader c.kept_reader-reader.result c.in-Ok.ensures.1 c.kept_reader-reader.ensures)),
    )

pub returns-in-Ok-clause-ok : goal.returns-in-Ok-clause-ok
returns-in-Ok-clause-ok g c = λ ts are.
    let qs = g.N.Name.queues in
    let os = c.self.inside.sessions.items in
    let q = c.in-Some.queues in
    let listed = next_listed (length os) qs c.self.inside.queues.items c.pop.new.self.items q c.self.invariant.3 c.in-Some.ensures.items in
    let o : OpenSession = record { kernel = c.args.kernel; host = c.args.host; requests = 0; pass = c.in-Ok.pass; reader = c.kept_reader-reader.result; next = 1 } in
    let s = new_session c.args.kernel c.args.host c.args.request c.args.channel in
    let all : c.push_reserved.new.self.items ≡ os ++ o ∷ [] = c.push_reserved.ensures.items ∙ ap (λ l. l ++ o ∷ []) c.reserve.ensures.items in
    subst (λ l. AreOpen (ts ++ s ∷ []) l qs) (sym all)
    (open_more ts os qs s o q (subst (λ (l : List OpenSession). AreOpen ts l qs) (sym c.self.view_is) are) listed (open_new q c.args.kernel c.args.host c.args.request c.args.channel o refl refl c.in-Ok.ensures.0))

pub returns-in-Ok-clause-kept : goal.returns-in-Ok-clause-kept
returns-in-Ok-clause-kept g c =
    let os = c.self.inside.sessions.items in
    let o : OpenSession = record { kernel = c.args.kernel; host = c.args.host; requests = 0; pass = c.in-Ok.pass; reader = c.kept_reader-reader.result; next = 1 } in
    let all : c.push_reserved.new.self.items ≡ os ++ o ∷ [] = c.push_reserved.ensures.items ∙ ap (λ l. l ++ o ∷ []) c.reserve.ensures.items in
    let none = kept_is_unread c.in-Some.queues c.in-Ok.reader c.kept_reader-reader.result c.in-Ok.ensures.1 c.kept_reader-reader.ensures in
    subst (λ (l : List OpenSession). AreKept l c.push_reserved.new.self.items) c.self.view_is (subst (AreKept os) (sym all) (kept_more os o (none, refl)))

pub returns-in_err-feed-clause-kept : goal.returns-in_err-feed-clause-kept
returns-in_err-feed-clause-kept g c =
    let os : List OpenSession = c.self.inside.sessions.items in
    subst (λ (l : List OpenSession). AreKept l os) c.self.view_is (kept_all os)

pub returns-in_err-reserve-clause-kept : goal.returns-in_err-reserve-clause-kept
returns-in_err-reserve-clause-kept g c =
    let os : List OpenSession = c.self.inside.sessions.items in
    subst (λ (l : List OpenSession). AreKept l c.reserve.new.self.items) c.self.view_is (subst (AreKept os) (sym c.reserve.ensures.items) (kept_all os))

pub returns-in-Err-clause-kept : goal.returns-in-Err-clause-kept
returns-in-Err-clause-kept g c =
    let os : List OpenSession = c.self.inside.sessions.items in
    subst (λ (l : List OpenSession). AreKept l c.reserve.new.self.items) c.self.view_is (subst (AreKept os) (sym c.reserve.ensures.items) (kept_all os))
