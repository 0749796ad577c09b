-- Sessions that are opened one after the other, and requests that are admitted to them.
use Rattle.std.proofs.Common.{◌≡◌, ℕ, zero, suc, ◌+◌, ◌<◌, ◌≤◌, Bool, true, false, cond, List, [], ◌∷◌, ◌++◌, length, get_or, Some, refl, sym, ap, ◌∙◌, subst, eq-eqb, arith}
use Rattle.std.specs.Prelude.{slice_get, slice_set, drop}
use mathlib.Core.List.{reverse}
use Rattle.std.proofs.lemmas.List.{length-append, length-set, reverse-append}
use Rattle.std.proofs.lemmas.Option.{slice_get_read}
use Rattle.ruled_queue.specs.Rule.{knows, grown}
use Rattle.session_core.specs.declared.request.Header.{Header}
use Rattle.session_core.specs.declared.request.Channel.{Channel}
use Rattle.session_core.specs.declared.request.Request.{Request}
use Rattle.session_core.specs.Asks.{is_control}
use Rattle.session_queues.specs.declared.items.MainItem.TheVariants.{Opening, Asked}
use Rattle.session_queues.specs.declared.shared.SharedQueues.{SharedQueues}
use Rattle.session_queues.specs.Items.{number_of, frontend_of}
use Rattle.session_queues.specs.Passes.{Producer, IsPassOf, admitted_by}
use Rattle.session_queues.specs.Ends.{first_pass}
use Rattle.session_gate.specs.Answered.{as_main, as_control}
use Rattle.session_gate.proofs.Popping.{as_main_main, as_main_control, as_control_main, as_control_control}
use Rattle.node_intake.specs.Intake.{Taken}
use Rattle.node_intake.specs.Sessions.{new_session, with_more}
use Rattle.node_run.specs.declared.open_session.OpenSession.{OpenSession}
use Rattle.node_run.specs.Admitted.{pass_of, IsOpen, AreOpen, AreSeated, admitted_at, with_request, HasAdmitted}

-- ---- lists

pub drop_first : {X : Type 0} (n : ℕ) (xs : List X) (x : X) (rest : List X) → drop n xs ≡ x ∷ rest → slice_get xs n ≡ Some x
drop_first zero [] x rest is = cc
drop_first zero (y ∷ xs) x rest is = let same : y ∷ xs ≡ x ∷ rest = is in let also : y ≡ x = cc in ap Some also
drop_first (suc n) [] x rest is = cc
drop_first (suc n) (y ∷ xs) x rest is = drop_first n xs x rest is

drop_after : {X : Type 0} (n : ℕ) (xs : List X) (x : X) (rest : List X) → drop n xs ≡ x ∷ rest → drop (suc n) xs ≡ rest
drop_after zero [] x rest is = cc
drop_after zero (y ∷ xs) x rest is = let same : y ∷ xs ≡ x ∷ rest = is in let also : xs ≡ rest = cc in also
drop_after (suc n) [] x rest is = cc
drop_after (suc n) (y ∷ xs) x rest is = drop_after n xs x rest is

pub drop_rest : {X : Type 0} (n m : ℕ) (xs : List X) (x : X) (rest : List X) → m ≡ n + 1 → drop n xs ≡ x ∷ rest → drop m xs ≡ rest
drop_rest n m xs x rest more is = let same : m ≡ suc n = omega (arith, more) in ap (λ k. drop k xs) same ∙ drop_after n xs x rest is

set_same : {X : Type 0} (xs : List X) (at : ℕ) (x : X) → slice_get xs at ≡ Some x → slice_set xs at x ≡ xs
set_same [] at x there = refl
set_same (y ∷ xs) zero x there = let is : Some y ≡ Some x = there in let same : x ≡ y = cc in ap (λ z. z ∷ xs) same
set_same (y ∷ xs) (suc at) x there = ap (λ zs. y ∷ zs) (set_same xs at x there)

-- what is read at an index is there
pub read_there : {X : Type 0} (xs : List X) (at : ℕ) (x : X) → at < length xs → x ≡ get_or xs at x → slice_get xs at ≡ Some x
read_there xs at x within is = slice_get_read xs (length xs) at x refl within is

-- the last of a list is the first of its reverse
pub last_first : {X : Type 0} (old new : List X) (x : X) → old ≡ new ++ x ∷ [] → reverse old ≡ x ∷ reverse new
last_first old new x is = ap reverse is ∙ reverse-append new (x ∷ [])

-- ---- passes

pub seated_at : (os : List OpenSession) (qs : List SharedQueues) (at : ℕ) (o : OpenSession) (q : SharedQueues) → AreSeated os qs → slice_get os at ≡ Some o → slice_get qs at ≡ Some q → IsPassOf q o.pass × (o.pass.number ≡ 0)
seated_at [] qs at o q seated there listed = cc
seated_at (p ∷ os) [] at o q seated there listed = absurd seated
seated_at (p ∷ os) (r ∷ qs) zero o q seated there listed =
    let is : Some p ≡ Some o = there in
    let same : p ≡ o = cc in
    let also_is : Some r ≡ Some q = listed in
    let also : r ≡ q = cc in
    subst (λ (z : OpenSession). IsPassOf q z.pass × (z.pass.number ≡ 0)) same (subst (λ (z : SharedQueues). IsPassOf z p.pass) also seated.0, seated.1)
seated_at (p ∷ os) (r ∷ qs) (suc at) o q seated there listed = seated_at os qs at o q seated.2 there listed

pub seated_more : (os : List OpenSession) (qs : List SharedQueues) (o : OpenSession) (q : SharedQueues) → AreSeated os qs → slice_get qs (length os) ≡ Some q → IsPassOf q o.pass → o.pass.number ≡ 0 → AreSeated (os ++ o ∷ []) qs
seated_more [] [] o q seated listed of number = cc
seated_more [] (r ∷ qs) o q seated listed of number =
    let is : Some r ≡ Some q = listed in
    let same : r ≡ q = cc in
    (subst (λ (z : SharedQueues). IsPassOf z o.pass) (sym same) of, number, tt)
seated_more (p ∷ os) [] o q seated listed of number = absurd seated
seated_more (p ∷ os) (r ∷ qs) o q seated listed of number = (seated.0, seated.1, seated_more os qs o q seated.2 listed of number)

pub seated_set : (os : List OpenSession) (qs : List SharedQueues) (at : ℕ) (o : OpenSession) (q : SharedQueues) → AreSeated os qs → slice_get qs at ≡ Some q → IsPassOf q o.pass → o.pass.number ≡ 0 → AreSeated (slice_set os at o) qs
seated_set [] qs at o q seated listed of number = tt
seated_set (p ∷ os) [] at o q seated listed of number = absurd seated
seated_set (p ∷ os) (r ∷ qs) zero o q seated listed of number =
    let is : Some r ≡ Some q = listed in
    let same : r ≡ q = cc in
    (subst (λ (z : SharedQueues). IsPassOf z o.pass) (sym same) of, number, seated.2)
seated_set (p ∷ os) (r ∷ qs) (suc at) o q seated listed of number = (seated.0, seated.1, seated_set os qs at o q seated.2 listed of number)

pub seated_few : (os : List OpenSession) (qs : List SharedQueues) → AreSeated os qs → length os ≤ length qs
seated_few [] qs seated = omega arith
seated_few (o ∷ os) [] seated = absurd seated
seated_few (o ∷ os) (q ∷ qs) seated = let rest = seated_few os qs seated.2 in omega arith

-- ---- sessions

pub open_length : (ts : List Taken) (os : List OpenSession) (qs : List SharedQueues) → AreOpen ts os qs → length ts ≡ length os
open_length [] [] qs are = refl
open_length [] (o ∷ os) qs are = absurd are
open_length (s ∷ ts) [] qs are = absurd are
open_length (s ∷ ts) (o ∷ os) [] are = absurd are
open_length (s ∷ ts) (o ∷ os) (q ∷ qs) are = ap suc (open_length ts os qs are.1)

pub open_at : (ts : List Taken) (os : List OpenSession) (qs : List SharedQueues) (at : ℕ) (s : Taken) (o : OpenSession) → AreOpen ts os qs → slice_get ts at ≡ Some s → slice_get os at ≡ Some o
    → (q : SharedQueues) × (slice_get qs at ≡ Some q) × IsOpen q s o
open_at [] [] qs at s o are there also = cc
open_at [] (p ∷ os) qs at s o are there also = absurd are
open_at (t ∷ ts) [] qs at s o are there also = absurd are
open_at (t ∷ ts) (p ∷ os) [] at s o are there also = absurd are
open_at (t ∷ ts) (p ∷ os) (q ∷ qs) zero s o are there also =
    let is : Some t ≡ Some s = there in
    let same : t ≡ s = cc in
    let also_is : Some p ≡ Some o = also in
    let as_well : p ≡ o = cc in
    (q, refl, subst (λ (z : OpenSession). IsOpen q s z) as_well (subst (λ (z : Taken). IsOpen q z p) same are.0))
open_at (t ∷ ts) (p ∷ os) (q ∷ qs) (suc at) s o are there also = open_at ts os qs at s o are.1 there also

pub open_more : (ts : List Taken) (os : List OpenSession) (qs : List SharedQueues) (s : Taken) (o : OpenSession) (q : SharedQueues) → AreOpen ts os qs → slice_get qs (length os) ≡ Some q → IsOpen q s o → AreOpen (ts ++ s ∷ []) (os ++ o ∷ []) qs
open_more [] [] [] s o q are listed is = cc
open_more [] [] (r ∷ qs) s o q are listed is =
    let same_is : Some r ≡ Some q = listed in
    let same : r ≡ q = cc in
    (subst (λ (z : SharedQueues). IsOpen z s o) (sym same) is, tt)
open_more [] (p ∷ os) qs s o q are listed is = absurd are
open_more (t ∷ ts) [] qs s o q are listed is = absurd are
open_more (t ∷ ts) (p ∷ os) [] s o q are listed is = absurd are
open_more (t ∷ ts) (p ∷ os) (r ∷ qs) s o q are listed is = (are.0, open_more ts os qs s o q are.1 listed is)

pub open_set : (ts : List Taken) (os : List OpenSession) (qs : List SharedQueues) (at : ℕ) (s : Taken) (o : OpenSession) (q : SharedQueues) → AreOpen ts os qs → slice_get qs at ≡ Some q → IsOpen q s o → AreOpen (slice_set ts at s) (slice_set os at o) qs
open_set [] [] qs at s o q are listed is = tt
open_set [] (p ∷ os) qs at s o q are listed is = absurd are
open_set (t ∷ ts) [] qs at s o q are listed is = absurd are
open_set (t ∷ ts) (p ∷ os) [] at s o q are listed is = absurd are
open_set (t ∷ ts) (p ∷ os) (r ∷ qs) zero s o q are listed is =
    let same_is : Some r ≡ Some q = listed in
    let same : r ≡ q = cc in
    (subst (λ (z : SharedQueues). IsOpen z s o) (sym same) is, are.1)
open_set (t ∷ ts) (p ∷ os) (r ∷ qs) (suc at) s o q are listed is = (are.0, open_set ts os qs at s o q are.1 listed is)

pub admitted_there : (os : List OpenSession) (at : ℕ) (o : OpenSession) → slice_get os at ≡ Some o → admitted_at os at ≡ o.requests
admitted_there [] at o there = cc
admitted_there (p ∷ os) zero o there = let is : Some p ≡ Some o = there in let same : p ≡ o = cc in ap (λ (z : OpenSession). z.requests) same
admitted_there (p ∷ os) (suc at) o there = admitted_there os at o there

-- a session that was just opened
pub open_new : (q : SharedQueues) (kernel host : ℕ) (request : Header) (channel : Channel) (o : OpenSession) → o.kernel ≡ kernel → o.requests ≡ 0 → o.pass ≡ first_pass q (Opening kernel host request channel)
    → IsOpen q (new_session kernel host request channel) o
open_new q kernel host request channel o is none pass = record { kernel = is; requests = none; pass = pass }

-- ---- one request more

-- an item of the one number that the pass has
one_more : {T : Type 0} (number : T → ℕ) (n : ℕ) (l : List T) (x : T) → number x ≡ n → grown number (knows false [] ((n, l) ∷ []) 1) x ≡ knows false [] ((n, l ++ x ∷ []) ∷ []) 1
one_more number n l x is = ap (λ b. knows false [] ((n, l ++ cond b (x ∷ []) []) ∷ []) 1) (eq-eqb (number x) n is)

pass_by_kind : (q : SharedQueues) (s : Taken) (r : Request) (control : Bool) → is_control r ≡ control → r.frontend ≡ 0
    → cond control (record (pass_of q s) { control = grown frontend_of (pass_of q s).control r }) (record (pass_of q s) { main = grown number_of (pass_of q s).main (Asked r) }) ≡ pass_of q (with_more s r)
pass_by_kind q s r true control zero_is =
    let p = pass_of q s in
    let item = Opening s.kernel s.host s.request s.channel in
    ap (λ v. let w : Producer = record p { control = v } in w) (one_more frontend_of 0 (as_control s.requests) r zero_is)
    ∙ ap (λ l. let w : Producer = record p { control = knows false [] ((0, l) ∷ []) 1 } in w) (sym (as_control_control s.requests r control))
    ∙ ap (λ l. let w : Producer = record (pass_of q (with_more s r)) { main = knows false [] ((0, item ∷ l) ∷ []) 1 } in w) (sym (as_main_control s.requests r control))
pass_by_kind q s r false control zero_is =
    let p = pass_of q s in
    let item = Opening s.kernel s.host s.request s.channel in
    ap (λ v. let w : Producer = record p { main = v } in w) (one_more number_of 0 (item ∷ as_main s.requests) (Asked r) zero_is)
    ∙ ap (λ l. let w : Producer = record p { main = knows false [] ((0, item ∷ l) ∷ []) 1 } in w) (sym (as_main_main s.requests r control))
    ∙ ap (λ l. let w : Producer = record (pass_of q (with_more s r)) { control = knows false [] ((0, l) ∷ []) 1 } in w) (sym (as_control_main s.requests r control))

pass_more : (q : SharedQueues) (s : Taken) (r : Request) → r.frontend ≡ 0 → admitted_by (pass_of q s) r ≡ pass_of q (with_more s r)
pass_more q s r zero_is = pass_by_kind q s r (is_control r) refl zero_is

pub is_open_more : (q : SharedQueues) (s : Taken) (o : OpenSession) (r : Request) → IsOpen q s o → r.frontend ≡ 0 → IsOpen q (with_more s r) (with_request o r)
is_open_more q s o r is zero_is = record {
  kernel = is.kernel;
  requests = let before = is.requests in let longer = length-append s.requests (r ∷ []) in omega (arith, longer);
  pass = ap (λ p. admitted_by p r) is.pass ∙ pass_more q s r zero_is;
}

-- it is a pass of the same queues
still_by_kind : (q : SharedQueues) (p : Producer) (r : Request) (control : Bool) → IsPassOf q p → p.number ≡ 0
    → let w : Producer = cond control (record p { control = grown frontend_of p.control r }) (record p { main = grown number_of p.main (Asked r) }) in IsPassOf q w × (w.number ≡ 0)
still_by_kind q p r true of number = (of, number)
still_by_kind q p r false of number = (of, number)

pub still_seated : (q : SharedQueues) (p : Producer) (r : Request) → IsPassOf q p → p.number ≡ 0 → IsPassOf q (admitted_by p r) × ((admitted_by p r).number ≡ 0)
still_seated q p r of number = still_by_kind q p r (is_control r) of number

-- ---- what the calls of the desk leave

-- what an admission leaves is as before, if it wasn't done
pub none_admitted : (os new : List OpenSession) (at : ℕ) (o p : OpenSession) → new ≡ slice_set os at p → slice_get os at ≡ Some o → p ≡ o → new ≡ os
none_admitted os new at o p is there same = is ∙ ap (slice_set os at) same ∙ set_same os at o there

pub admitted_seated : (os new : List OpenSession) (qs : List SharedQueues) (at : ℕ) (q : SharedQueues) (r : Request) → AreSeated os qs → slice_get qs at ≡ Some q → HasAdmitted os at r new → AreSeated new qs
admitted_seated os new qs at q r seated listed (o, there, is) =
    let old = seated_at os qs at o q seated there listed in
    let now = still_seated q o.pass r old.0 old.1 in
    subst (λ l. AreSeated l qs) (sym is) (seated_set os qs at (with_request o r) q seated listed now.0 now.1)

pub admitted_length : (os new : List OpenSession) (at : ℕ) (r : Request) → HasAdmitted os at r new → length new ≡ length os
admitted_length os new at r (o, there, is) = ap length is ∙ length-set os at (with_request o r)

pub admitted_open : (os new : List OpenSession) (qs : List SharedQueues) (at : ℕ) (r : Request) (ts : List Taken) (s : Taken) → r.frontend ≡ 0 → HasAdmitted os at r new → AreOpen ts os qs → slice_get ts at ≡ Some s
    → AreOpen (slice_set ts at (with_more s r)) new qs
admitted_open os new qs at r ts s zero_is (o, there, is) are here =
    let (q, listed, open_is) = open_at ts os qs at s o are here there in
    subst (λ l. AreOpen (slice_set ts at (with_more s r)) l qs) (sym is) (open_set ts os qs at (with_more s r) (with_request o r) q are listed (is_open_more q s o r open_is zero_is))

-- the queues of the next session are the last of those that are left
pub next_listed : (n : ℕ) (qs old new : List SharedQueues) (q : SharedQueues) → drop n qs ≡ reverse old → old ≡ new ++ q ∷ [] → slice_get qs n ≡ Some q
next_listed n qs old new q is parts = drop_first n qs q (reverse new) (is ∙ last_first old new q parts)

pub next_left : (n m : ℕ) (qs old new : List SharedQueues) (q : SharedQueues) → m ≡ n + 1 → drop n qs ≡ reverse old → old ≡ new ++ q ∷ [] → drop m qs ≡ reverse new
next_left n m qs old new q more is parts = drop_rest n m qs q (reverse new) more (is ∙ last_first old new q parts)

pub first_seated : (q : SharedQueues) (kernel host : ℕ) (request : Header) (channel : Channel) (p : Producer) → p ≡ first_pass q (Opening kernel host request channel) → IsPassOf q p × (p.number ≡ 0)
first_seated q kernel host request channel p is = ((ap (λ x. x.main_queue) is, ap (λ x. x.control_queue) is), ap (λ x. x.number) is)
