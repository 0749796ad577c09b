-- What a step that read something took off the bytes.
use Rattle.std.proofs.Common.{◌≡◌, ℕ, zero, suc, ◌+◌, ◌-◌, ◌<◌, ◌≤◌, List, [], ◌++◌, length, take, drop, Ok, Err, refl, sym, ap, ◌∙◌, subst, inl, inr, arith, All}
use Rattle.std.specs.Prelude.{nat_le, slice_index}
use Rattle.std.proofs.lemmas.Bool.{cases_Bool, cases_lt, leb-true}
use Rattle.std.proofs.lemmas.List.{append-nil, append_assoc, drop-drop, get_or_past, length-append, length-drop, length-take-le, take-append-drop}
use Rattle.std.proofs.lemmas.List.Elements.{All-drop, All-get_or, All-take}
use Rattle.checkpoint_laws.proofs.Numbers.{IsBytes}
use Rattle.checkpoint_reader.specs.declared.fault.CheckpointFault.{CheckpointFault}
use Rattle.checkpoint_reader.specs.declared.fault.CheckpointFault.TheVariants.{Cut}
use Rattle.checkpoint_reader.specs.Reads.{Answer, Read, pure, after, turns}
use Rattle.checkpoint_reader.specs.Fields.{taken}

-- ---- answers

-- what is read, and the place of the next byte
abbrev pub answer : {A : Type 0} → A → ℕ → Answer A
answer a at = Ok (a, at)

-- what an answer gives, or else these
read_or : {A : Type 0} → A → ℕ → Answer A → A × ℕ
read_or a at (Ok read) = read
read_or a at (Err fault) = (a, at)

pub same_value : {A : Type 0} (a b : A) (s t : ℕ) → answer a s ≡ answer b t → a ≡ b
unfolding read_or
same_value {A = A} a b s t e = ap (λ (r : Answer A). (read_or a s r).0) e

pub same_place : {A : Type 0} (a b : A) (s t : ℕ) → answer a s ≡ answer b t → s ≡ t
unfolding read_or
same_place {A = A} a b s t e = ap (λ (r : Answer A). (read_or a s r).1) e

-- an answer that reads nothing
abbrev pub failed : (A : Type 0) → CheckpointFault → Answer A
failed A fault = Err fault

-- a first step that was read, and the step after it
pub record Reached {A B : Type 0} (r : Answer A) (f : A → Read B) (b : B) (t : ℕ) : Type 0 where
  pub first : A
  pub mid : ℕ
  pub was : r ≡ answer first mid
  pub next : f first mid ≡ answer b t

pub reached : {A B : Type 0} (r : Answer A) (f : A → Read B) (b : B) (t : ℕ) → after r f ≡ answer b t → Reached r f b t
reached (Ok read) f b t e = record { first = read.0; mid = read.1; was = refl; next = e }
reached {B = B} (Err fault) f b t e = absurd (let no : failed B fault ≡ answer b t = e in cc)

-- the bytes are these of what was read
abbrev pub Spells : {A : Type 0} → (A → List ℕ) → A → List ℕ → Type 0
Spells s a xs = xs ≡ s a

module _ (bytes : List ℕ) where
  -- between two places there are bytes of which this is so
  pub record Ate (P : List ℕ → Type 0) (at next : ℕ) : Type 0 where
    pub xs : List ℕ
    pub is : P xs
    pub left : drop at bytes ≡ xs ++ drop next bytes
    pub end : next ≡ at + length xs

  -- this is so of what the step reads and of the bytes that it takes
  abbrev pub Eats : {A : Type 0} → Read A → (A → List ℕ → Type 0) → Type 0
  Eats {A = A} m P = (at next : ℕ) (a : A) → m at ≡ answer a next → Ate (P a) at next

  -- no bytes
  pub ate_none : (P : List ℕ → Type 0) (at next : ℕ) → at ≡ next → P [] → Ate P at next
  ate_none P at next e h = record { xs = []; is = h; left = ap (λ (n : ℕ). drop n bytes) e; end = omega (arith, e) }

  -- the same bytes, of which something else is so
  pub ate_as : (P Q : List ℕ → Type 0) (at next : ℕ) → ((xs : List ℕ) → P xs → Q xs) → Ate P at next → Ate Q at next
  ate_as P Q at next on a = record { xs = a.xs; is = on a.xs a.is; left = a.left; end = a.end }

  -- bytes, and the bytes after them
  pub ate_then : (P Q : List ℕ → Type 0) (at mid next : ℕ) (a : Ate P at mid) → Ate (λ ys. Q (a.xs ++ ys)) mid next → Ate Q at next
  ate_then P Q at mid next a b = record {
    xs = a.xs ++ b.xs;
    is = b.is;
    left = a.left ∙ (ap (λ (zs : List ℕ). a.xs ++ zs) b.left ∙ sym (append_assoc a.xs b.xs (drop next bytes)));
    end = let e = a.end in let f = b.end in let size = length-append a.xs b.xs in omega (arith, e, f, size);
  }

  -- a step and then one that knows what is so of the bytes before it
  pub eats_with : {A B : Type 0} (m : Read A) (f : A → Read B) (P : A → List ℕ → Type 0) (Q : B → List ℕ → Type 0)
      → Eats m P → ((a : A) (xs : List ℕ) → P a xs → Eats (f a) (λ b ys. Q b (xs ++ ys))) → Eats (λ at. after (m at) f) Q
  eats_with m f P Q h k = λ at next b e.
      let r = reached (m at) f b next e in
      let a = h at r.mid r.first r.was in
      ate_then (P r.first) (Q b) at r.mid next a (k r.first a.xs a.is r.mid next b r.next)

  -- a step and then another one
  pub eats_then : {A B : Type 0} (m : Read A) (f : A → Read B) (s : A → List ℕ) (Q : B → List ℕ → Type 0)
      → Eats m (Spells s) → ((a : A) → Eats (f a) (λ b ys. Q b (s a ++ ys))) → Eats (λ at. after (m at) f) Q
  eats_then {B = B} m f s Q h k = eats_with m f (Spells s) Q h (λ a xs e. subst (λ (zs : List ℕ). Eats (f a) (λ b ys. Q b (zs ++ ys))) (sym e) (k a))

  -- the same, of a step that tells more than its bytes
  pub eats_knowing : {A B : Type 0} (m : Read A) (f : A → Read B) (s : A → List ℕ) (K : A → Type 0) (Q : B → List ℕ → Type 0)
      → Eats m (λ a xs. (xs ≡ s a) × K a) → ((a : A) → K a → Eats (f a) (λ b ys. Q b (s a ++ ys))) → Eats (λ at. after (m at) f) Q
  eats_knowing {B = B} m f s K Q h k = eats_with m f (λ a xs. (xs ≡ s a) × K a) Q h (λ a xs e. subst (λ (zs : List ℕ). Eats (f a) (λ b ys. Q b (zs ++ ys))) (sym e.0) (k a e.1))

  -- a step and then what takes no bytes
  pub eats_end : {A B : Type 0} (m : Read A) (f : A → Read B) (P : A → List ℕ → Type 0) (Q : B → List ℕ → Type 0)
      → Eats m P → ((a : A) (b : B) (xs : List ℕ) (s t : ℕ) → P a xs → f a s ≡ answer b t → (s ≡ t) × Q b xs) → Eats (λ at. after (m at) f) Q
  eats_end m f P Q h k = λ at next b e.
      let r = reached (m at) f b next e in
      let a = h at r.mid r.first r.was in
      let last = k r.first b a.xs r.mid next a.is r.next in
      record { xs = a.xs; is = last.1; left = a.left ∙ ap (λ (n : ℕ). a.xs ++ drop n bytes) last.0; end = sym last.0 ∙ a.end }

  -- a step and what is made of what it reads
  pub eats_map : {A B : Type 0} (m : Read A) (g : A → B) (P : A → List ℕ → Type 0) (Q : B → List ℕ → Type 0)
      → Eats m P → ((a : A) (xs : List ℕ) → P a xs → Q (g a) xs) → Eats (λ at. after (m at) (λ a. pure (g a))) Q
  eats_map {B = B} m g P Q h k = eats_end m (λ a. pure (g a)) P Q h (λ a b xs s t p e. (same_place (g a) b s t e, subst (λ (c : B). Q c xs) (same_value (g a) b s t e) (k a xs p)))

  -- ---- turns, each of which adds to what the turns before it read

  module _ {A : Type 0} (turn : A → Read A) (text : A → List ℕ) (Good : ℕ → A → Type 0) where
    -- these bytes are what a turn adds to the text
    abbrev Adds : A → A → List ℕ → Type 0
    Adds before now xs = text now ≡ text before ++ xs

    module _ (one : (n : ℕ) (before now : A) (at next : ℕ) → Good n before → turn before at ≡ answer now next → Good (n + 1) now × Ate (Adds before now) at next) where
      pub eats_turns : (n m : ℕ) (before now : A) (at next : ℕ) → Good m before → turns turn n before at ≡ answer now next → Good (m + n) now × Ate (Adds before now) at next
      eats_turns zero m before now at next h e = (
        subst (λ (a : A). Good (m + 0) a) (same_value before now at next e) (subst (λ (k : ℕ). Good k before) (omega arith) h),
        ate_none (Adds before now) at next (same_place before now at next e) (ap text (sym (same_value before now at next e)) ∙ sym (append-nil (text before))),
      )
      eats_turns (suc n) m before now at next h e =
          let r = reached (turn before at) (λ a. turns turn n a) now next e in
          let first = one m before r.first at r.mid h r.was in
          let rest = eats_turns n (m + 1) r.first now r.mid next first.0 r.next in
          let size : m + 1 + n ≡ m + suc n = omega arith in
          let joined : (ys : List ℕ) → Adds r.first now ys → Adds before now (first.1.xs ++ ys) = λ ys k.
          k ∙ (ap (λ (zs : List ℕ). zs ++ ys) first.1.is ∙ append_assoc (text before) first.1.xs ys) in (
            subst (λ (k : ℕ). Good k now) size rest.0,
            ate_then (Adds before r.first) (Adds before now) at r.mid next first.1 (ate_as (Adds r.first now) (λ ys. Adds before now (first.1.xs ++ ys)) r.mid next joined rest.1),
          )

-- ---- the next bytes

-- the bytes that are taken are those that are read, and there are n of them
abbrev pub AreBytes : ℕ → List ℕ → List ℕ → Type 0
AreBytes n xs ys = (ys ≡ xs) × (length xs ≡ n) × IsBytes xs

pub bytes_small : (bytes : List ℕ) → All (λ b. b < 256) bytes → IsBytes bytes
bytes_small bytes h = λ k. elim (cases_lt k (length bytes)) [
  | inl l ↦ All-get_or (λ b. b < 256) bytes k 0 l h
  | inr l ↦ let past : slice_index bytes k ≡ 0 = get_or_past bytes k 0 l in omega (arith, past)
]

module _ (bytes : List ℕ) (small : All (λ b. b < 256) bytes) where
  pub eats_taken : (field n : ℕ) → Eats bytes (taken bytes field n) (AreBytes n)
  unfolding taken
  eats_taken field n at next xs e = elim (cases_Bool (nat_le (at + n) (length bytes))) [
    | inl l ↦
        let room : at + n ≤ length bytes = leb-true (at + n) (length bytes) l in
        let k : ℕ = at + n - at in
        let rest : List ℕ = drop at bytes in
        let is : answer (take k rest) (at + n) ≡ answer xs next = rw l at e in
        let got : take k rest ≡ xs = same_value (take k rest) xs (at + n) next is in
        let there : at + n ≡ next = same_place (take k rest) xs (at + n) next is in
        let left : length rest ≡ length bytes - at = length-drop at bytes in
        let long : length xs ≡ k = ap (λ (zs : List ℕ). length zs) (sym got) ∙ length-take-le k rest (omega (arith, left, room)) in
        let size : length xs ≡ n = omega (arith, long) in
        let beyond : drop k rest ≡ drop next bytes = drop-drop k at bytes ∙ ap (λ (m : ℕ). drop m bytes) (omega (arith, there)) in
        let few : IsBytes xs = subst (λ (zs : List ℕ). IsBytes zs) got (bytes_small (take k rest) (All-take (λ b. b < 256) k rest (All-drop (λ b. b < 256) at bytes small))) in
        record {
          xs = xs;
          is = (refl, size, few);
          left = sym (take-append-drop k rest) ∙ (ap (λ (zs : List ℕ). zs ++ drop k rest) got ∙ ap (λ (zs : List ℕ). xs ++ zs) beyond);
          end = omega (arith, there, size);
        }
    | inr f ↦ absurd (let no : failed (List ℕ) (Cut field) ≡ answer xs next = rw f at e in cc)
  ]
