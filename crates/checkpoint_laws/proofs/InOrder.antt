-- The objects of a part that has a text are those that are referred to, in the order in which they are referred to first.
use Rattle.std.proofs.Common.{◌≡◌, ℕ, zero, suc, ◌+◌, ◌-◌, ◌<◌, ◌≤◌, ◌==◌, not, true, false, List, [], ◌∷◌, ◌++◌, length, Some, None, refl, sym, ap, ◌∙◌, inl, inr, arith}
use Rattle.std.specs.Prelude.{nat_lt, filter, Bool}
use Rattle.std.specs.List.{flat_map, range_with_len}
use Rattle.std.proofs.lemmas.Bool.{cases_Bool, eqb-true}
use Rattle.py_heap.specs.declared.heap.Object.{Object}
use Rattle.py_heap.specs.References.{value_refs, object_refs}
use Rattle.py_heap.specs.Reaching.{held_refs, firsts}
use Rattle.part_bytes.specs.declared.part.PartValue.{PartValue}
use Rattle.checkpoint_laws.specs.SpelledParts.{counted, AreObjects, HasPartText}
use Rattle.checkpoint_laws.proofs.Offs.{below, not_below}
use Rattle.checkpoint_laws.proofs.Counts.{some_same, counted_grows, counted_join}

-- ---- the numbers that come first, from one number on

abbrev other : ℕ → ℕ → Bool
other n m = not (m == n)

abbrev from_on : ℕ → ℕ → Bool
from_on met m = not (nat_lt m met)

drop_old : (met n : ℕ) (xs : List ℕ) → n < met → filter (from_on met) (filter (other n) xs) ≡ filter (from_on met) xs
drop_old met n [] l = refl
drop_old met n (m ∷ xs) l = elim (cases_Bool (m == n)) [
  | inl e ↦
      let same = eqb-true m n e in
      let old : nat_lt m met ≡ true = below m met (omega (arith, same, l)) in
      rw (e, old) (drop_old met n xs l)
  | inr f ↦ elim (cases_Bool (nat_lt m met)) [
    | inl t ↦ rw (f, t) (drop_old met n xs l)
    | inr g ↦ rw (f, g) (ap (λ (zs : List ℕ). m ∷ zs) (drop_old met n xs l))
  ]
]

drop_next : (met : ℕ) (xs : List ℕ) → filter (from_on met) (filter (other met) xs) ≡ filter (from_on (met + 1)) xs
drop_next met [] = refl
drop_next met (m ∷ xs) = elim (cases_Bool (m == met)) [
  | inl e ↦
      let same = eqb-true m met e in
      let old : nat_lt m (met + 1) ≡ true = below m (met + 1) (omega (arith, same)) in
      rw (e, old) (drop_next met xs)
  | inr f ↦ elim (cases_Bool (nat_lt m (met + 1))) [
    | inl t ↦ let old : nat_lt m met ≡ true = grind (arith, f, t) in rw (f, t, old) (drop_next met xs)
    | inr g ↦ let later : nat_lt m met ≡ false = grind (arith, g) in rw (f, g, later) (ap (λ (zs : List ℕ). m ∷ zs) (drop_next met xs))
  ]
]

all_from_none : (xs : List ℕ) → filter (from_on 0) xs ≡ xs
all_from_none [] = refl
all_from_none (m ∷ xs) = let later : nat_lt m 0 ≡ false = not_below m 0 (omega arith) in rw later (ap (λ (zs : List ℕ). m ∷ zs) (all_from_none xs))

one_more : (met k : ℕ) → 0 < k → met ∷ range_with_len (met + 1) (k - 1) ≡ range_with_len met k
one_more met zero l = absurd (omega arith)
one_more met (suc k) l = let less : suc k - 1 ≡ k = omega arith in ap (λ (n : ℕ). met ∷ range_with_len (met + 1) n) less

firsts_from : (ns : List ℕ) (met next : ℕ) → counted met ns ≡ Some next → filter (from_on met) (firsts ns) ≡ range_with_len met (next - met)
firsts_from [] met next e = let same = some_same met next e in let none : 0 ≡ next - met = omega (arith, same) in ap (λ (k : ℕ). range_with_len met k) none
firsts_from (n ∷ ns) met next e = elim (cases_Bool (nat_lt n met)) [
  | inl t ↦
      let rest : counted met ns ≡ Some next = rw t at e in
      rw t (drop_old met n (firsts ns) (grind (arith, t)) ∙ firsts_from ns met next rest)
  | inr f ↦ elim (cases_Bool (n == met)) [
    | inl t ↦
        let rest : counted (met + 1) ns ≡ Some next = rw (f, t) at e in
        let same = eqb-true n met t in
        let grows = counted_grows ns (met + 1) next rest in
        let size : next - (met + 1) ≡ next - met - 1 = omega (arith, grows) in
        rw f
        (ap (λ (k : ℕ). k ∷ filter (from_on met) (filter (other k) (firsts ns))) same
        ∙ (ap (λ (zs : List ℕ). met ∷ zs) (drop_next met (firsts ns) ∙ (firsts_from ns (met + 1) next rest ∙ ap (λ (k : ℕ). range_with_len (met + 1) k) size))
        ∙ one_more met (next - met) (omega (arith, grows))))
    | inr g ↦ absurd (let none : None ≡ Some next = rw (f, g) at e in cc)
  ]
]

firsts_all : (ns : List ℕ) (next : ℕ) → counted 0 ns ≡ Some next → firsts ns ≡ range_with_len 0 next
firsts_all ns next e = let all : next - 0 ≡ next = omega arith in sym (all_from_none (firsts ns)) ∙ (firsts_from ns 0 next e ∙ ap (λ (k : ℕ). range_with_len 0 k) all)

-- ---- the references of all objects

record CountedOut (n met most : ℕ) (os : List Object) : Type 0 where
  pub last : ℕ
  pub refs : counted met (flat_map object_refs os) ≡ Some last
  pub within : last ≤ most
  pub reached : n + length os ≤ last

counted_out : (n met most : ℕ) (os : List Object) → n ≤ met → met ≤ most → AreObjects n met most os → CountedOut n met most os
counted_out n met most [] l k h = record { last = met; refs = refl; within = k; reached = omega (arith, l) }
counted_out n met most (o ∷ os) l k h =
    let grows = counted_grows (object_refs o) met h.2.0 h.2.1 in
    let there = h.0 in
    let rest = counted_out (n + 1) h.2.0 most os (omega (arith, there, grows)) h.2.2 h.2.3 in
    record {
      last = rest.last;
      refs = counted_join (object_refs o) (flat_map object_refs os) met h.2.0 (Some rest.last) h.2.1 rest.refs;
      within = rest.within;
      reached = let r = rest.reached in omega (arith, r);
    }

pub in_order : (part : PartValue) → HasPartText part → firsts (flat_map (held_refs value_refs) part.values ++ flat_map object_refs part.objects) ≡ range_with_len 0 (length part.objects)
in_order part h =
    let values : List ℕ = flat_map (held_refs value_refs) part.values in
    let objects : List ℕ = flat_map object_refs part.objects in
    let out = counted_out 0 h.met (length part.objects) part.objects (omega arith) h.within h.objects in
    let all : counted 0 (values ++ objects) ≡ Some out.last = counted_join values objects 0 h.met (Some out.last) h.refs out.refs in
    let most = out.within in
    let least = out.reached in
    let size : out.last ≡ length part.objects = omega (arith, most, least) in
    firsts_all (values ++ objects) out.last all ∙ ap (λ (k : ℕ). range_with_len 0 k) size
