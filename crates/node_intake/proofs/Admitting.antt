-- Sessions that are apart, and requests that are put to them.
use Rattle.std.proofs.Common.{◌≡◌, ◌≢◌, ℕ, zero, suc, ◌+◌, ◌<◌, false, List, [], ◌∷◌, ◌++◌, length, drop, Some, None, refl, sym, ap, ◌∙◌, subst, inl, inr, arith}
use Rattle.std.specs.Prelude.{◌==◌, map, slice_get, slice_set}
use Rattle.std.proofs.lemmas.Bool.{eq-eqb, ne_eqb}
use Rattle.std.proofs.lemmas.Bool.Decides.{eqb_tells}
use Rattle.session_core.specs.declared.request.Request.{Request}
use Rattle.node_intake.specs.Intake.{Taken, session_of, with_request}
use Rattle.node_intake.specs.Sessions.{AreApart, IsAt, with_more}

-- ---- one request

others_stay : (k : ℕ) (r : Request) (xs : List Taken) → session_of k xs ≡ None → map (with_request k r) xs ≡ xs
others_stay k r [] none = refl
others_stay k r (x ∷ xs) none = elim (eqb_tells x.kernel k) [
  | inl is ↦ let some : Some x ≡ None = rw is.0 at none in cc
  | inr not ↦ rw not.0 (ap (λ zs. x ∷ zs) (others_stay k r xs (rw not.0 at none)))
]

never_none : (k : ℕ) (xs : List Taken) (at : ℕ) (s : Taken) → slice_get xs at ≡ Some s → s.kernel ≡ k → session_of k xs ≡ None → ⊥
never_none k [] at s there of none = cc
never_none k (x ∷ xs) zero s there of none = elim (eqb_tells x.kernel k) [
  | inl is ↦ let some : Some x ≡ None = rw is.0 at none in cc
  | inr not ↦ let same : x ≡ s = cc in not.1 (ap (λ (z : Taken). z.kernel) same ∙ of)
]
never_none k (x ∷ xs) (suc at) s there of none = elim (eqb_tells x.kernel k) [
  | inl is ↦ let some : Some x ≡ None = rw is.0 at none in cc
  | inr not ↦ never_none k xs at s there of (rw not.0 at none)
]

-- the request that is put to the session at an index goes to the session of its kernel
pub request_at : (k : ℕ) (r : Request) (xs : List Taken) (at : ℕ) (s : Taken) → AreApart xs → slice_get xs at ≡ Some s → s.kernel ≡ k
    → slice_set xs at (with_more s r) ≡ map (with_request k r) xs
request_at k r [] at s apart there of = cc
request_at k r (x ∷ xs) zero s apart there of =
    let same : x ≡ s = cc in
    let own : x.kernel ≡ k = ap (λ (z : Taken). z.kernel) same ∙ of in
    let rest : map (with_request k r) xs ≡ xs = others_stay k r xs (subst (λ j. session_of j xs ≡ None) own apart.0) in
    rw (eq-eqb x.kernel k own, rest) (ap (λ (z : Taken). with_more z r ∷ xs) (sym same))
request_at k r (x ∷ xs) (suc at) s apart there of = elim (eqb_tells x.kernel k) [
  | inl is ↦ absurd (never_none k xs at s there of (subst (λ j. session_of j xs ≡ None) is.1 apart.0))
  | inr not ↦ rw not.0 (ap (λ zs. x ∷ zs) (request_at k r xs at s apart.1 there of))
]

-- ---- apart they stay

none_more : (xs : List Taken) (s : Taken) (k : ℕ) → session_of k xs ≡ None → (s.kernel == k) ≡ false → session_of k (xs ++ s ∷ []) ≡ None
none_more [] s k none other = rw other refl
none_more (x ∷ xs) s k none other = elim (eqb_tells x.kernel k) [
  | inl is ↦ let some : Some x ≡ None = rw is.0 at none in cc
  | inr not ↦ rw not.0 (none_more xs s k (rw not.0 at none) other)
]

pub apart_more : (xs : List Taken) (s : Taken) → AreApart xs → session_of s.kernel xs ≡ None → AreApart (xs ++ s ∷ [])
apart_more [] s apart none = (refl, tt)
apart_more (x ∷ xs) s apart none = elim (eqb_tells x.kernel s.kernel) [
  | inl is ↦ let some : Some x ≡ None = rw is.0 at none in cc
  | inr not ↦ (none_more xs s x.kernel apart.0 (ne_eqb s.kernel x.kernel (λ e. not.1 (sym e))), apart_more xs s apart.1 (rw not.0 at none))
]

kernel_stays : (k : ℕ) (r : Request) (x : Taken) → (with_request k r x).kernel ≡ x.kernel
kernel_stays k r x = elim (eqb_tells x.kernel k) [ inl is ↦ rw is.0 refl | inr not ↦ rw not.0 refl ]

none_with : (j k : ℕ) (r : Request) (xs : List Taken) → session_of j xs ≡ None → session_of j (map (with_request k r) xs) ≡ None
none_with j k r [] none = none
none_with j k r (x ∷ xs) none = elim (eqb_tells x.kernel j) [
  | inl is ↦ let some : Some x ≡ None = rw is.0 at none in cc
  | inr not ↦ rw (kernel_stays k r x, not.0) (none_with j k r xs (rw not.0 at none))
]

pub apart_with : (k : ℕ) (r : Request) (xs : List Taken) → AreApart xs → AreApart (map (with_request k r) xs)
apart_with k r [] apart = tt
apart_with k r (x ∷ xs) apart =
    (subst (λ j. session_of j (map (with_request k r) xs) ≡ None) (sym (kernel_stays k r x)) (none_with x.kernel k r xs apart.0), apart_with k r xs apart.1)

-- ---- indices

drop_suc : (xs : List Taken) (at : ℕ) (s : Taken) → slice_get xs at ≡ Some s → drop at xs ≡ s ∷ drop (suc at) xs
drop_suc [] at s there = cc
drop_suc (x ∷ xs) zero s there = let same : x ≡ s = cc in ap (λ (z : Taken). z ∷ xs) same
drop_suc (x ∷ xs) (suc at) s there = drop_suc xs at s there

drop_there : (xs : List Taken) (at : ℕ) (s : Taken) → slice_get xs at ≡ Some s → drop at xs ≡ s ∷ drop (at + 1) xs
drop_there xs at s there = let next : suc at ≡ at + 1 = omega arith in drop_suc xs at s there ∙ ap (λ n. s ∷ drop n xs) next

there_at : (xs : List Taken) (at : ℕ) → at < length xs → (s : Taken) × (slice_get xs at ≡ Some s)
there_at [] at within = absurd (omega (arith, within))
there_at (x ∷ xs) zero within = (x, refl)
there_at (x ∷ xs) (suc at) within = there_at xs at (omega (arith, within))

-- the kernel of the session at an index
abbrev pub IsKernelAt : List Taken → ℕ → ℕ → Type 0
IsKernelAt xs at kernel = (s : Taken) → slice_get xs at ≡ Some s → kernel ≡ s.kernel

pub found_at : (k kernel : ℕ) (xs : List Taken) (at : ℕ) → at < length xs → IsKernelAt xs at kernel → kernel ≡ k → session_of k xs ≡ session_of k (drop at xs) → IsAt xs k at
found_at k kernel xs at within is own so_far =
    let there = there_at xs at within in
    let s = there.0 in
    let of : s.kernel ≡ k = sym (is s there.1) ∙ own in
    let next : session_of k (s ∷ drop (at + 1) xs) ≡ Some s = rw (eq-eqb s.kernel k of) refl in record {
      session = s;
      is_there = there.1;
      is_of = of;
      is_found = so_far ∙ ap (session_of k) (drop_there xs at s there.1) ∙ next;
    }

pub passed_at : (k kernel : ℕ) (xs : List Taken) (at : ℕ) → at < length xs → IsKernelAt xs at kernel → kernel ≢ k → session_of k xs ≡ session_of k (drop at xs) → session_of k xs ≡ session_of k (drop (at + 1) xs)
passed_at k kernel xs at within is other so_far =
    let there = there_at xs at within in
    let s = there.0 in
    let not : (s.kernel == k) ≡ false = ne_eqb s.kernel k (λ e. other (is s there.1 ∙ e)) in
    let next : session_of k (s ∷ drop (at + 1) xs) ≡ session_of k (drop (at + 1) xs) = rw not refl in
    so_far ∙ ap (session_of k) (drop_there xs at s there.1) ∙ next

within : (xs : List Taken) (at : ℕ) (s : Taken) → slice_get xs at ≡ Some s → at < length xs
within [] at s there = cc
within (x ∷ xs) zero s there = omega arith
within (x ∷ xs) (suc at) s there = let h = within xs at s there in omega (arith, h)

pub at_within : (k : ℕ) (xs : List Taken) (at : ℕ) → IsAt xs k at → at < length xs
at_within k xs at is = within xs at is.session is.is_there
