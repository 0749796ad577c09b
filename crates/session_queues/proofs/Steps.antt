-- What steps leave of a pass on main and control.
use Rattle.std.proofs.Common.{◌≡◌, ℕ, ◌+◌, ◌<◌, ◌≤◌, ◌%◌, true, false, List, [], ◌∷◌, ◌++◌, refl, sym, ap, ◌∙◌, subst, inl, inr, ⊎_elim, Result, MatchResult, arith}
use Rattle.std.proofs.lemmas.Bool.{cases_lt}
use Rattle.std.specs.Prelude.{Ok, Err, Option, Some, None, MatchOption}
use Rattle.session_core.specs.declared.request.Request.{Request}
use Rattle.session_core.specs.Asks.{is_control}
use Rattle.ruled_queue.specs.declared.rule.View.{View}
use Rattle.ruled_queue.specs.Rule.{of, Keeps, knows, joined, grown, took, Took, MayPush, Waits}
use Rattle.ruled_queue.proofs.Keeping.{grow_keeps, keeps_left, cons_is_not_nil}
use Rattle.session_queues.specs.declared.items.MainItem.{MainItem}
use Rattle.session_queues.specs.Items.{number_of, is_opening, IsForMain, frontend_of, IsForControl, opens_control}
use Rattle.session_queues.specs.Passes.{Counts, KeepsAll}
use Rattle.session_queues.specs.declared.queues.Opened.{Opened}
use Rattle.session_queues.specs.declared.shared.SharedQueues.{SharedQueues}
use Rattle.session_queues.specs.Ends.{Held, opened_ends, first_pass, nothing_on, nothing_pushed}

module _ {T : Type 0} where
  -- a producer's view: it keeps this number, and counts `given` numbers as given
  abbrev pub Produces : ℕ → ℕ → View T → Type 0
  Produces n given v = (v.pops ≡ false) × ((l : List T) × Keeps n l v.lists) × (v.given ≡ given)

  pub joins : (n given : ℕ) (old other new : View T) → Produces n given old → new ≡ joined old other → Produces n (given + other.given) new
  joins n given old other new h is = subst (Produces n (given + other.given)) (sym is)
      (h.0, (h.1.0, keeps_left n h.1.0 old.lists other.lists h.1.1), ap (λ m. m + other.given) h.2)

module _ {T : Type 0} (number : T → ℕ) where
  grown_produces : (x : T) (n given : ℕ) (old : View T) → Produces n given old → Produces n given (grown number old x)
  grown_produces x n given old h = (h.0, (h.1.0 ++ of number n (x ∷ []), grow_keeps number x n h.1.0 old.lists h.1.1), h.2)

  pub admits : {Y : Type 0} → (P : Y → Type 0) (r : Result (Unit {0}) Y) (x : T) (n given : ℕ) (old new : View T) → Produces n given old
      → MatchResult r (λ _. new ≡ grown number old x) (λ y. P y × (new ≡ old)) → Produces n given new
  admits P (Ok u) x n given old new h is = subst (Produces n given) (sym is) (grown_produces x n given old h)
  admits P (Err y) x n given old new h is = subst (Produces n given) (sym is.1) h

-- a count that is right below 2^32 is so after a join
pub counts_join : (a b m n : ℕ) → Counts a m → Counts b n → Counts ((a + b) % 4294967296) (m + n)
counts_join a b m n (inl h) (inl k) = ⊎_elim (λ (lt : a + b < 4294967296). inl (omega arith)) (λ (le : 4294967296 ≤ a + b). inr (omega arith)) (cases_lt (a + b) 4294967296)
counts_join a b m n (inl h) (inr k) = inr (omega arith)
counts_join a b m n (inr h) k = inr (omega arith)

-- who keeps all numbers may push under each that was given
pub may_admit_control : (h : Held) (r : Request) → KeepsAll h.control → r.frontend < h.main.given → h.control.given ≡ h.main.given → is_control r ≡ true
    → MayPush frontend_of IsForControl opens_control h.control r
may_admit_control h r all lt same control = record {
  keeps = all.1 r.frontend (omega arith);
  fit = control;
  opening = inl refl;
}

pub popped_is : (o : MainItem) (mid new : View MainItem) (popped : Option MainItem) → mid ≡ knows true [] ((0, o ∷ []) ∷ []) 1 → Keeps 0 (o ∷ []) mid.lists
    → MatchOption popped ((new ≡ mid) × Waits number_of mid []) (λ x. Took number_of IsForMain is_opening mid x new) → new ≡ knows true (o ∷ []) ((0, o ∷ []) ∷ []) 1
popped_is o mid new None all keeps is =
    let nil : mid.popped ≡ [] = ap (λ (v : View MainItem). v.popped) all in
    absurd (cons_is_not_nil o [] (is.1.of_each 0 (o ∷ []) keeps ∙ ap (λ l. of number_of 0 (l ++ [])) nil))
popped_is o mid new (Some x) all keeps is =
    let nil : mid.popped ≡ [] = ap (λ (v : View MainItem). v.popped) all in
    let given : mid.given ≡ 1 = ap (λ (v : View MainItem). v.given) all in
    let lt = is.known (omega arith) in
    let zero : number_of x ≡ 0 = omega arith in
    let next = is.next (o ∷ []) (subst (λ n. Keeps n (o ∷ []) mid.lists) (sym zero) keeps) in
    let front : o ∷ [] ≡ x ∷ next.0 = next.1 ∙ ap (λ l. of number_of (number_of x) l ++ x ∷ next.0) nil in
    let same : o ≡ x = cc in
    is.now ∙ ap (λ v. took v x) all ∙ ap (λ y. knows true (y ∷ []) ((0, o ∷ []) ∷ []) 1) (sym same)

-- the first pass produces under number 0
pub first_produces : (o : MainItem) (v : View MainItem) (w : View Request) → v ≡ knows false [] ((0, o ∷ []) ∷ []) 1 → w ≡ knows false [] ((0, []) ∷ []) 1
    → ((v.pops ≡ false) × (w.pops ≡ false)) × ((l : List MainItem) × Keeps 0 l v.lists) × ((l : List Request) × Keeps 0 l w.lists) × (Counts 1 v.given × (w.given ≡ v.given))
first_produces o v w is also = (
  (ap (λ (u : View MainItem). u.pops) is, ap (λ (u : View Request). u.pops) also),
  (o ∷ [], subst (λ (u : View MainItem). Keeps 0 (o ∷ []) u.lists) (sym is) (inl (refl, refl))),
  ([], subst (λ (u : View Request). Keeps 0 [] u.lists) (sym also) (inl (refl, refl))),
  (inl (sym (ap (λ (u : View MainItem). u.given) is)), ap (λ (u : View Request). u.given) also ∙ sym (ap (λ (u : View MainItem). u.given) is)),
)

-- what an opening gives
abbrev pub IsOpened : SharedQueues → MainItem → Result Opened SharedQueues → Type 0
IsOpened queues o result = MatchResult result (λ (opened : Opened). (opened.ends ≡ opened_ends queues o) × (opened.pass ≡ first_pass queues o) × (opened.outlet ≡ nothing_pushed queues) × (opened.reader ≡ nothing_on queues)) (λ (back : SharedQueues). back ≡ queues)
