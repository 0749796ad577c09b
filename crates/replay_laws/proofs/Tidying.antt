-- A tidied state is the same as before, and states that are the same have equally many objects that names reach.
use Rattle.std.proofs.Common.{◌≡◌, ◌≢◌, ℕ, zero, suc, ◌+◌, ◌<◌, ◌≤◌, List, [], ◌∷◌, length, get_or, Option, Some, None, refl, sym, ap, ◌∙◌, inl, inr, subst, arith}
use Rattle.std.specs.Prelude.{All, Contains, AllPairs, slice_get}
use Rattle.std.specs.FinMap as finite
use Rattle.std.proofs.lemmas.Bool.{cases_eq}
use Rattle.std.proofs.lemmas.Option.{none-some, same_Some, slice_get_within, slice_get-get_or}
use Rattle.py_value.specs.declared.value.Value.{Value}
use Rattle.py_heap.specs.declared.heap.Object.{Object}
use Rattle.py_heap.specs.declared.state.State.{State}
use Rattle.py_heap.specs.References.{value_refs, object_refs, IsClosed}
use Rattle.py_heap.specs.Reaching.{met}
use Rattle.py_heap.proofs.Numbers.{firsts_apart}
use Rattle.py_laws.specs.Same.{Pairs, HasPair, ValuesMatch, ObjectsMatch, BothOrNone, Both, SameBy, Same, SameStates, Every}
use Rattle.py_laws.proofs.Closing.{live_value, live_object}
use Rattle.py_laws.proofs.Matching.{IsWithin, Turned}
use Rattle.py_laws.proofs.Pairing.{pair_cases, no_pair, first_pair, later_pair}
use Rattle.py_laws.proofs.Partners.{none_in, first_in, later_in, reach_partner}
use Rattle.py_laws.proofs.Sameness.{same_by_agreeing, same_by_turned, same_turned}
use Rattle.run_graph.proofs.Lists.{cons_cases}
use Rattle.linked_parts.proofs.Names.{reaches_value}
use Rattle.run_graph.proofs.Reached.{reach_from_one, reach_by_one}
use Rattle.replay_laws.specs.Tidied.{AtPosition, IsTidied, AreObjectsOf}

-- ---- the pairs of a list with its indices

pub from_position : ℕ → List ℕ → Pairs
from_position k [] = []
from_position k (a ∷ order) = (a, k) ∷ from_position (suc k) order

to_pair : (k : ℕ) (order : List ℕ) (a j : ℕ) → slice_get order j ≡ Some a → (i : ℕ) → i ≡ k + j → HasPair (from_position k order) a i
unfolding from_position
to_pair k [] a j e i f = absurd (none-some a e)
to_pair k (b ∷ order) a zero e i f =
    let g : i ≡ k = omega (arith, f) in
    subst (λ z. HasPair ((b, k) ∷ from_position (suc k) order) a z) (sym g) (subst (λ z. HasPair ((b, k) ∷ from_position (suc k) order) z k) (same_Some b a e) (first_pair b k (from_position (suc k) order)))
to_pair k (b ∷ order) a (suc j) e i f = later_pair (b, k) (from_position (suc k) order) a i (to_pair (suc k) order a j e i (omega (arith, f)))

from_pair : (k : ℕ) (order : List ℕ) (a i : ℕ) → HasPair (from_position k order) a i → (j : ℕ) × (i ≡ k + j) × (slice_get order j ≡ Some a)
unfolding from_position
from_pair k [] a i h = absurd (no_pair a i h)
from_pair k (b ∷ order) a i h = elim (pair_cases (b, k) (from_position (suc k) order) a i h) [
  | inl e ↦ (0, let f : i ≡ k = e.1 in omega (arith, f), ap (λ z. Some z) (sym e.0))
  | inr q ↦ let w = from_pair (suc k) order a i q in (suc w.0, omega (arith, w.1), w.2)
]

pub to_zero : (order : List ℕ) → IsWithin (AtPosition order) (HasPair (from_position 0 order))
to_zero order a k e = to_pair 0 order a k e k (omega arith)

pub from_zero : (order : List ℕ) → IsWithin (HasPair (from_position 0 order)) (AtPosition order)
from_zero order a k h =
    let w = from_pair 0 order a k h in
    let e : k ≡ w.0 = omega (arith, w.1) in
    subst (λ z. slice_get order z ≡ Some a) (sym e) w.2

pub tidied_same : (t u : State) → IsTidied t u → SameStates t u
tidied_same t u h = record {
  names = record { by = from_position 0 h.order; same = same_by_agreeing (AtPosition h.order) (HasPair (from_position 0 h.order)) Every t u (to_zero h.order) (from_zero h.order) h.same };
  count = sym h.count;
  meter = sym h.meter;
}

-- each reference of it is one of its objects
pub held_live : (ps : ℕ → ℕ → Type 0) (n : ℕ) → ((a b : ℕ) → ps a b → a < n) → (v : Value) (o : Option Value) → BothOrNone (ValuesMatch ps) (Some v) o → All (λ at. at < n) (value_refs v)
held_live ps n below v (Some w) h = live_value ps n below v w h
held_live ps n below v None h = absurd h

pub object_live : (ps : ℕ → ℕ → Type 0) (n : ℕ) → ((a b : ℕ) → ps a b → a < n) → (x : Object) (o : Option Object) → Both (ObjectsMatch ps) (Some x) o → All (λ at. at < n) (object_refs x)
object_live ps n below x (Some y) h = live_object ps n below x y h
object_live ps n below x None h = absurd h

module _ (t u : State) (h : IsTidied t u) where
  abbrev Positions : ℕ → ℕ → Type 0
  Positions = Turned (AtPosition h.order)

  turned : SameBy Positions Every u t
  turned = same_by_turned (AtPosition h.order) Every t u h.same

  below : (a b : ℕ) → Positions a b → a < length u.heap
  below a b p = let l = slice_get_within h.order a b p in let s = h.size in omega (arith, l, s)

  pub tidied_closed : IsClosed u
  tidied_closed = record {
    names = λ name held e. held_live Positions (length u.heap) below held (finite.get t.globals name)
        (subst (λ o. BothOrNone (ValuesMatch Positions) o (finite.get t.globals name)) e (turned.names name tt));
    objects = λ k d l.
        let at : ℕ = get_or h.order k 0 in
        let s = h.size in
        let position : AtPosition h.order at k = slice_get-get_or h.order k 0 (omega (arith, l, s)) in
        object_live Positions (length u.heap) below (get_or u.heap k d) (slice_get t.heap at)
        (subst (λ o. Both (ObjectsMatch Positions) o (slice_get t.heap at)) (slice_get-get_or u.heap k d l) (turned.objects k at position));
  }

pub tidied_objects : (t u : State) (h : IsTidied t u) → AreObjectsOf t h.order
tidied_objects t u h = record {
  reached = λ at. (
    λ c. let w = reach_from_one t h.names at ((h.reached at).0 c) in (w.0, w.2),
    λ w. (h.reached at).1 (reach_by_one t h.names w.0 at ((h.all w.0).1 (reaches_value t w.0 at w.1)) w.1),
  );
  once = subst (AllPairs (λ a b. a ≢ b)) (sym h.in_order) (firsts_apart (met t h.names h.order));
}

-- ---- lists without repeats

abbrev pub NoRepeats : List ℕ → Type 0
NoRepeats [] = Unit {0}
NoRepeats (n ∷ ns) = (¬ Contains ns n) × NoRepeats ns

pub no_repeats : (ns : List ℕ) → AllPairs (λ a b. a ≢ b) ns → NoRepeats ns
no_repeats [] a = tt
no_repeats (n ∷ ns) a = (
  λ h. let l : h.0 < length ns = h.1 in a 0 (suc h.0) n (omega arith) (omega (arith, l)) (sym h.2),
  no_repeats ns (λ i j d l m. a (suc i) (suc j) d (omega (arith, l)) (omega (arith, m))),
)

without : ℕ → List ℕ → List ℕ
without n [] = []
without n (m ∷ ms) = elim (cases_eq m n) [ inl e ↦ ms | inr k ↦ m ∷ without n ms ]

shorter : (n : ℕ) (ms : List ℕ) → Contains ms n → length ms ≡ suc (length (without n ms))
unfolding without
shorter n [] h = absurd (none_in n h)
shorter n (m ∷ ms) h = elim (cases_eq m n) as (λ c. length (m ∷ ms) ≡ suc (length {A = ℕ} (elim c [ inl e ↦ ms | inr k ↦ m ∷ without n ms ]))) [
  | inl e ↦ refl
  | inr k ↦ elim (cons_cases m ms n h) [ inl e ↦ absurd (k e) | inr l ↦ ap suc (shorter n ms l) ]
]

still_there : (n x : ℕ) (ms : List ℕ) → (x ≡ n → ⊥) → Contains ms x → Contains (without n ms) x
unfolding without
still_there n x [] k h = absurd (none_in x h)
still_there n x (m ∷ ms) k h = elim (cases_eq m n) as (λ c. Contains (elim c [ inl e ↦ ms | inr d ↦ m ∷ without n ms ]) x) [
  | inl e ↦ elim (cons_cases m ms x h) [ inl f ↦ absurd (k (sym f ∙ e)) | inr l ↦ l ]
  | inr d ↦ elim (cons_cases m ms x h) [
    | inl f ↦ subst (λ z. Contains (m ∷ without n ms) z) f (first_in m (without n ms))
    | inr l ↦ later_in m (without n ms) x (still_there n x ms k l)
  ]
]

pub no_more : (R : ℕ → ℕ → Type 0) → ((a b c : ℕ) → R a c → R b c → a ≡ b) → (xs ys : List ℕ) → NoRepeats xs → ((x : ℕ) → Contains xs x → (y : ℕ) × R x y × Contains ys y) → length xs ≤ length ys
no_more R one [] ys once f = omega arith
no_more R one (x ∷ xs) ys once f =
    let w = f x (first_in x xs) in
    let rest : length xs ≤ length (without w.0 ys) = no_more R one xs (without w.0 ys) once.1 (λ z k.
    let v = f z (later_in x xs z k) in
    (v.0, v.1, still_there w.0 v.0 ys (λ e. once.0 (subst (λ q. Contains xs q) (one z x w.0 (subst (λ q. R z q) e v.1) w.1) k)) v.2)) in
    omega (arith, rest, shorter w.0 ys w.2)

-- ---- as many objects are reached

pub at_most_as_many : (s t : State) (h : Same Every s t) (order other : List ℕ) → AreObjectsOf s order → AreObjectsOf t other → length order ≤ length other
at_most_as_many s t h order other left right =
    no_more (HasPair h.by) h.same.pairs.right order other (no_repeats order left.once) (λ a c.
    let x = (left.reached a).0 c in
    let p = reach_partner (HasPair h.by) Every s t h.same x.0 tt a x.1 in
    (p.0, p.1, (right.reached p.0).1 (x.0, p.2)))

pub as_many : (s t : State) → Same Every s t → (order other : List ℕ) → AreObjectsOf s order → AreObjectsOf t other → length order ≡ length other
as_many s t h order other left right =
    let a = at_most_as_many s t h order other left right in
    let b = at_most_as_many t s (same_turned Every s t h) other order right left in
    omega (arith, a, b)

-- a tidied state has just the objects that names reach in the first
pub tidied_size : (s t u : State) → Same Every s t → IsTidied t u → (order : List ℕ) → AreObjectsOf s order → length u.heap ≡ length order
tidied_size s t u h tidied order objects = tidied.size ∙ sym (as_many s t h order tidied.order objects (tidied_objects t u tidied))
