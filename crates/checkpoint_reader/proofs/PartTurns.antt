-- The turns of a loop that reads n items of one kind.
use Rattle.std.proofs.Common.{◌≡◌, ℕ, suc, ◌+◌, ◌-◌, ◌<◌, ◌≤◌, false, List, [], ◌∷◌, ◌++◌, Result, Ok, Err, refl, sym, ap, ◌∙◌, subst, inl, inr, arith}
use Rattle.std.specs.Prelude.{is_some, true}
use Rattle.std.proofs.lemmas.Bool.{cases_Bool}
use Rattle.py_value.specs.declared.key.Key.{Key}
use Rattle.py_value.specs.declared.value.Value.{Value}
use Rattle.py_value.specs.Keys.{same_key}
use Rattle.py_heap.specs.Dicts.{Pairs, value_under, with_pair}
use Rattle.checkpoint_reader.specs.declared.part_fault.PartFault.{PartFault}
use Rattle.checkpoint_reader.specs.declared.part_fault.PartFault.TheVariants.{OutOfMemory, Cut, BadTag, BadRef, BadKey, BadName, BadText}
use Rattle.checkpoint_reader.specs.declared.spot.Spot.{Spot}
use Rattle.checkpoint_reader.specs.PartReads.{Answer, Read, after, more, tells, told}

one_turn : {A : Type 0} (step : List A → Read A) (n i : ℕ) (before : List A) (spot : Spot) → i < n
    → more step (n - i) before spot ≡ after (step before spot) (λ a. more step (n - (i + 1)) (before ++ a ∷ []))
one_turn step n i before spot l = let e : n - i ≡ suc (n - (i + 1)) = omega arith in ap (λ (k : ℕ). more step k before spot) e

-- what was read with the first turns, and what the others then read of it
pub turn_reads : {A : Type 0} (step : List A → Read A) (n i : ℕ) (before now : List A) (a : A) (spot next : Spot) (whole : Answer (List A)) → i < n
    → more step (n - i) before spot ≡ whole → step before spot ≡ Ok (a, next) → now ≡ before ++ a ∷ [] → more step (n - (i + 1)) now next ≡ whole
turn_reads {A = A} step n i before now a spot next whole l inv e put =
    ap (λ (xs : List A). more step (n - (i + 1)) xs next) put
    ∙ (sym (one_turn step n i before spot l ∙ ap (λ (r : Answer A). after r (λ a. more step (n - (i + 1)) (before ++ a ∷ []))) e) ∙ inv)

pub turn_fails : {A : Type 0} (step : List A → Read A) (n i : ℕ) (before : List A) (spot : Spot) (fault : PartFault) (whole : Answer (List A)) → i < n
    → more step (n - i) before spot ≡ whole → step before spot ≡ Err fault → whole ≡ Err fault
turn_fails {A = A} step n i before spot fault whole l inv e =
    sym inv ∙ (one_turn step n i before spot l ∙ ap (λ (r : Answer A). after r (λ a. more step (n - (i + 1)) (before ++ a ∷ []))) e)

pub turns_end : {A : Type 0} (step : List A → Read A) (n i : ℕ) (before : List A) (spot : Spot) (whole : Answer (List A)) → n ≤ i
    → more step (n - i) before spot ≡ whole → whole ≡ Ok (before, spot)
turns_end step n i before spot whole l inv = let e : n - i ≡ 0 = omega arith in sym inv ∙ ap (λ (k : ℕ). more step k before spot) e

pub turns_begin : {A : Type 0} (step : List A → Read A) (n : ℕ) (before : List A) (spot : Spot) → before ≡ [] → more step (n - 0) before spot ≡ more step n [] spot
turns_begin {A = A} step n before spot none =
    let e : n - 0 ≡ n = omega arith in ap (λ (k : ℕ). more step k before spot) e ∙ ap (λ (xs : List A). more step n xs spot) none

-- a pair with a new key goes last
pub fresh_pair : (pairs : Pairs) (k : Key) (v : Value) → is_some (value_under pairs k) ≡ false → with_pair pairs k v ≡ pairs ++ (k, v) ∷ []
fresh_pair [] k v h = refl
fresh_pair (p ∷ pairs) k v h = elim (cases_Bool (same_key k p.0)) [
  | inl e ↦ absurd (let found : is_some (value_under (p ∷ pairs) k) ≡ true = rw e refl in cc)
  | inr e ↦
      let rest : is_some (value_under pairs k) ≡ false = rw e at h in
      rw e (ap (λ (ps : Pairs). p ∷ ps) (fresh_pair pairs k v rest))
]

abbrev pub refused : (A : Type 0) → PartFault → Result A PartFault
refused A fault = Err fault

-- whether a fault tells anything doesn't depend on what was to be read
pub tells_any : (A B : Type 0) (fault : PartFault) → tells (refused A fault) ≡ true → tells (refused B fault) ≡ true
tells_any A B OutOfMemory h = h
tells_any A B Cut h = refl
tells_any A B (BadTag at) h = refl
tells_any A B (BadRef at) h = refl
tells_any A B (BadKey at) h = refl
tells_any A B (BadName at) h = refl
tells_any A B (BadText at) h = refl

-- a turn that fails ends the loop with its fault
pub failed_turn : {A : Type 0} (step : List A → Read A) (n i : ℕ) (before : List A) (spot now : Spot) (fault : PartFault) (result : Result (List A) PartFault) (whole : Answer (List A)) → i < n
    → more step (n - i) before spot ≡ whole → result ≡ refused (List A) fault → tells result ≡ true → (tells (refused A fault) ≡ true → step before spot ≡ told (refused A fault) now)
    → whole ≡ told result now
failed_turn {A = A} step n i before spot now fault result whole l inv is t fails =
    let same : tells (refused (List A) fault) ≡ true = subst (λ (r : Result (List A) PartFault). tells r ≡ true) is t in
    let e = fails (tells_any (List A) A fault same) in
    turn_fails step n i before spot fault whole l inv e ∙ ap (λ (r : Result (List A) PartFault). told r now) (sym is)
