-- What is kept of open sessions, and what is read of them.
use Rattle.std.proofs.Common.{◌≡◌, ℕ, zero, suc, ◌+◌, List, [], ◌∷◌, ◌++◌, length, Option, Some, None, refl, sym, ap, ◌∙◌, subst, arith}
use Rattle.std.specs.Prelude.{slice_get, slice_set, IfSome, MatchOption}
use Rattle.std.specs.List.{AllByRecursion}
use Rattle.session_queues.specs.declared.shared.SharedQueues.{SharedQueues}
use Rattle.session_queues.specs.Passes.{IsPassOf}
use Rattle.session_queues.specs.Ends.{OnOut, nothing_on}
use Rattle.session_core.specs.declared.request.Request.{Request}
use Rattle.session_core.specs.declared.entry.Entry.{Entry}
use Rattle.node_intake.specs.Intake.{Taken}
use Rattle.node_run.specs.declared.open_session.OpenSession.{OpenSession}
use Rattle.node_run.specs.declared.open_session.NextEntry.{NextEntry}
use Rattle.node_run.specs.Admitted.{IsOpen, AreOpen, AreSeated, with_request, HasAdmitted}
use Rattle.node_run.specs.Keeping.{kept_all}
use Rattle.node_run.specs.Unsent.{entries_of, IsUnread, AreKept, AreAlike, IsReaderOf, AreReadable, HasTaken, HasRead, HasNumbered, with_entry}
use Rattle.node_run.proofs.Seating.{none_admitted}

-- one session more
pub kept_more : (os : List OpenSession) (o : OpenSession) → IsUnread o → AreKept os (os ++ o ∷ [])
kept_more [] o is = (is, tt)
kept_more (p ∷ os) o is = ((refl, refl, refl), kept_more os o is)

kept_set : (os : List OpenSession) (at : ℕ) (o p : OpenSession) → slice_get os at ≡ Some o → p.kernel ≡ o.kernel → p.reader ≡ o.reader → p.next ≡ o.next → AreKept os (slice_set os at p)
kept_set [] at o p there kernel reader next = tt
kept_set (q ∷ os) zero o p there kernel reader next =
    let is : Some q ≡ Some o = there in
    let same : o ≡ q = cc in
    ((kernel ∙ ap (λ (z : OpenSession). z.kernel) same, reader ∙ ap (λ (z : OpenSession). z.reader) same, next ∙ ap (λ (z : OpenSession). z.next) same), kept_all os)
kept_set (q ∷ os) (suc at) o p there kernel reader next = ((refl, refl, refl), kept_set os at o p there kernel reader next)

pub kept_admitted : (os new : List OpenSession) (at : ℕ) (r : Request) → HasAdmitted os at r new → AreKept os new
kept_admitted os new at r (o, there, is) = subst (AreKept os) (sym is) (kept_set os at o (with_request o r) there refl refl refl)

-- ---- readers

pub readable_more : (os : List OpenSession) (qs : List SharedQueues) (o : OpenSession) (q : SharedQueues) → AreReadable os qs → slice_get qs (length os) ≡ Some q → IsReaderOf q o.reader → AreReadable (os ++ o ∷ []) qs
readable_more [] [] o q are listed is = cc
readable_more [] (r ∷ qs) o q are listed is =
    let there : Some r ≡ Some q = listed in
    let same : q ≡ r = cc in
    (subst (λ (z : SharedQueues). IsReaderOf z o.reader) same is, tt)
readable_more (p ∷ os) [] o q are listed is = absurd are
readable_more (p ∷ os) (r ∷ qs) o q are listed is = (are.0, readable_more os qs o q are.1 listed is)

pub readable_at : (os : List OpenSession) (qs : List SharedQueues) (at : ℕ) (o : OpenSession) (q : SharedQueues) → AreReadable os qs → slice_get os at ≡ Some o → slice_get qs at ≡ Some q → IsReaderOf q o.reader
readable_at [] qs at o q are there listed = cc
readable_at (p ∷ os) [] at o q are there listed = absurd are
readable_at (p ∷ os) (r ∷ qs) zero o q are there listed =
    let is : Some p ≡ Some o = there in
    let same : p ≡ o = cc in
    let also_is : Some r ≡ Some q = listed in
    let also : r ≡ q = cc in
    subst (λ (z : OpenSession). IsReaderOf q z.reader) same (subst (λ (z : SharedQueues). IsReaderOf z p.reader) also are.0)
readable_at (p ∷ os) (r ∷ qs) (suc at) o q are there listed = readable_at os qs at o q are.1 there listed

pub readable_set : (os : List OpenSession) (qs : List SharedQueues) (at : ℕ) (o : OpenSession) (q : SharedQueues) → AreReadable os qs → slice_get qs at ≡ Some q → IsReaderOf q o.reader → AreReadable (slice_set os at o) qs
readable_set [] qs at o q are listed is = tt
readable_set (p ∷ os) [] at o q are listed is = absurd are
readable_set (p ∷ os) (r ∷ qs) zero o q are listed is =
    let there : Some r ≡ Some q = listed in
    let same : q ≡ r = cc in
    (subst (λ (z : SharedQueues). IsReaderOf z o.reader) same is, are.1)
readable_set (p ∷ os) (r ∷ qs) (suc at) o q are listed is = (are.0, readable_set os qs at o q are.1 listed is)

pub admitted_readable : (os new : List OpenSession) (qs : List SharedQueues) (at : ℕ) (q : SharedQueues) (r : Request) → AreReadable os qs → slice_get qs at ≡ Some q → HasAdmitted os at r new → AreReadable new qs
admitted_readable os new qs at q r are listed (o, there, is) =
    subst (λ l. AreReadable l qs) (sym is) (readable_set os qs at (with_request o r) q are listed (readable_at os qs at o q are there listed))

-- ---- what reading leaves

alike_all : (os : List OpenSession) → AreAlike os os
alike_all [] = tt
alike_all (o ∷ os) = ((refl, refl, refl), alike_all os)

pub alike_set : (os : List OpenSession) (at : ℕ) (o p : OpenSession) → slice_get os at ≡ Some o → p.kernel ≡ o.kernel → p.requests ≡ o.requests → p.pass ≡ o.pass → AreAlike os (slice_set os at p)
alike_set [] at o p there kernel requests pass = tt
alike_set (q ∷ os) zero o p there kernel requests pass =
    let is : Some q ≡ Some o = there in
    let same : o ≡ q = cc in
    ((kernel ∙ ap (λ (z : OpenSession). z.kernel) same, requests ∙ ap (λ (z : OpenSession). z.requests) same, pass ∙ ap (λ (z : OpenSession). z.pass) same), alike_all os)
alike_set (q ∷ os) (suc at) o p there kernel requests pass = ((refl, refl, refl), alike_set os at o p there kernel requests pass)

pub alike_on : (os later last : List OpenSession) → AreAlike os later → AreAlike later last → AreAlike os last
alike_on [] [] last h k = k
alike_on [] (l ∷ later) last h k = absurd h
alike_on (o ∷ os) [] last h k = absurd h
alike_on (o ∷ os) (l ∷ later) [] h k = absurd k
alike_on (o ∷ os) (l ∷ later) (m ∷ last) h k = ((k.0.0 ∙ h.0.0, k.0.1 ∙ h.0.1, k.0.2 ∙ h.0.2), alike_on os later last h.1 k.1)

-- those that are open are open still
pub alike_open : (os later : List OpenSession) (ts : List Taken) (qs : List SharedQueues) → AreAlike os later → AreOpen ts os qs → AreOpen ts later qs
alike_open [] [] ts qs h are = are
alike_open [] (l ∷ later) ts qs h are = absurd h
alike_open (o ∷ os) [] ts qs h are = absurd h
alike_open (o ∷ os) (l ∷ later) [] qs h are = absurd are
alike_open (o ∷ os) (l ∷ later) (t ∷ ts) [] h are = absurd are
alike_open (o ∷ os) (l ∷ later) (t ∷ ts) (q ∷ qs) h are =
    (record { kernel = h.0.0 ∙ are.0.kernel; requests = h.0.1 ∙ are.0.requests; pass = h.0.2 ∙ are.0.pass }, alike_open os later ts qs h.1 are.1)

pub alike_seated : (os later : List OpenSession) (qs : List SharedQueues) → AreAlike os later → AreSeated os qs → AreSeated later qs
alike_seated [] [] qs h are = tt
alike_seated [] (l ∷ later) qs h are = absurd h
alike_seated (o ∷ os) [] qs h are = absurd h
alike_seated (o ∷ os) (l ∷ later) [] h are = absurd are
alike_seated (o ∷ os) (l ∷ later) (q ∷ qs) h are = (subst (IsPassOf q) (sym h.0.2) are.0, ap (λ p. p.number) h.0.2 ∙ are.1, alike_seated os later qs h.1 are.2)

pub alike_length : (os later : List OpenSession) → AreAlike os later → length later ≡ length os
alike_length [] [] h = refl
alike_length [] (l ∷ later) h = absurd h
alike_length (o ∷ os) [] h = absurd h
alike_length (o ∷ os) (l ∷ later) h = ap suc (alike_length os later h.1)

pub alike_read : (os new : List OpenSession) (at : ℕ) (next : NextEntry) → HasRead os at next new → AreAlike os new
alike_read os new at next h = subst (AreAlike os) (sym h.is) (alike_set os at h.session (record h.session { reader = Some (with_entry h.out next.entry) }) h.there refl refl refl)

pub alike_numbered : (os new : List OpenSession) (at next : ℕ) → HasNumbered os at next new → AreAlike os new
alike_numbered os new at next (o, there, is) = subst (AreAlike os) (sym is) (alike_set os at o (record o { next = next }) there refl refl refl)

-- a reader that was just made, if it is kept
pub kept_is_of : (q : SharedQueues) (made : OnOut) (kept : Option OnOut) → made ≡ nothing_on q → IfSome kept (λ r. r ≡ made) → IsReaderOf q kept
kept_is_of q made None new is = tt
kept_is_of q made (Some r) new is = ap (λ (z : OnOut). z.out_queue) (is ∙ new)

pub kept_is_unread : (q : SharedQueues) (made : OnOut) (kept : Option OnOut) → made ≡ nothing_on q → IfSome kept (λ r. r ≡ made) → entries_of kept ≡ []
kept_is_unread q made None new is = refl
kept_is_unread q made (Some r) new is = ap (λ (z : OnOut). z.entries) (is ∙ new)

-- ---- reading

has_taken : (old : Option OnOut) (e : Entry) (new : Option OnOut) → HasTaken old e new → (out : OnOut) × (old ≡ Some out) × (new ≡ Some (with_entry out e))
has_taken None e new taken = absurd taken
has_taken (Some out) e new taken = (out, refl, taken)

pub has_read : (os : List OpenSession) (at : ℕ) (o : OpenSession) (e : Entry) (reader : Option OnOut) → slice_get os at ≡ Some o → HasTaken o.reader e reader
    → HasRead os at (record { kernel = o.kernel; first = o.next; entry = e }) (slice_set os at (record o { reader = reader }))
has_read os at o e reader there taken =
    let t = has_taken o.reader e reader taken in
    record { session = o; out = t.0; there = there; is_read = t.1; kernel = refl; first = refl; is = ap (λ r. slice_set os at (record o { reader = r })) t.2 }

pub none_read : (os : List OpenSession) (at : ℕ) (o : OpenSession) (reader : Option OnOut) → slice_get os at ≡ Some o → reader ≡ o.reader → slice_set os at (record o { reader = reader }) ≡ os
none_read os at o reader there same =
    none_admitted os (slice_set os at (record o { reader = reader })) at o (record o { reader = reader }) refl there (ap (λ r. let p : OpenSession = record o { reader = r } in p) same)

-- what a call of read leaves
abbrev pub MayHaveRead : List OpenSession → ℕ → Option NextEntry → List OpenSession → Type 0
MayHaveRead os at result new = MatchOption result (new ≡ os) (λ next. HasRead os at next new)

pub may_alike : (os new : List OpenSession) (at : ℕ) (result : Option NextEntry) → MayHaveRead os at result new → AreAlike os new
may_alike os new at None same = subst (AreAlike os) (sym same) (alike_all os)
may_alike os new at (Some next) h = alike_read os new at next h

pub may_readable : (os new : List OpenSession) (qs : List SharedQueues) (at : ℕ) (q : SharedQueues) (result : Option NextEntry) → AreReadable os qs → slice_get qs at ≡ Some q → MayHaveRead os at result new → AreReadable new qs
may_readable os new qs at q None are listed same = subst (λ l. AreReadable l qs) (sym same) are
may_readable os new qs at q (Some next) are listed h =
    let old : IsReaderOf q (Some h.out) = subst (IsReaderOf q) h.is_read (readable_at os qs at h.session q are h.there listed) in
    subst (λ l. AreReadable l qs) (sym h.is) (readable_set os qs at (record h.session { reader = Some (with_entry h.out next.entry) }) q are listed old)

readable_any : (os : List OpenSession) (qs : List SharedQueues) (at : ℕ) (o p : OpenSession) → AreReadable os qs → slice_get os at ≡ Some o → p.reader ≡ o.reader → AreReadable (slice_set os at p) qs
readable_any [] qs at o p are there same = tt
readable_any (q ∷ os) [] at o p are there same = absurd are
readable_any (q ∷ os) (r ∷ qs) zero o p are there same =
    let is : Some q ≡ Some o = there in
    let also : q ≡ o = cc in
    (subst (IsReaderOf r) (ap (λ (z : OpenSession). z.reader) also ∙ sym same) are.0, are.1)
readable_any (q ∷ os) (r ∷ qs) (suc at) o p are there same = (are.0, readable_any os qs at o p are.1 there same)

pub numbered_readable : (os : List OpenSession) (qs : List SharedQueues) (at next : ℕ) (o : OpenSession) → AreReadable os qs → slice_get os at ≡ Some o → AreReadable (slice_set os at (record o { next = next })) qs
numbered_readable os qs at next o are there = readable_any os qs at o (record o { next = next }) are there refl
