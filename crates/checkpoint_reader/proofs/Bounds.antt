-- A cell that is read is within its bounds, and a version that is read has no handle and no size if its name was deleted.
use Rattle.std.proofs.Common.{◌≡◌, ℕ, ◌≤◌, Bool, true, false, List, length, Option, Some, None, Ok, Err, refl, sym, subst, inl, inr}
use Rattle.std.specs.Prelude.{nat_le, ◌==◌, ◌||◌, slice_get}
use Rattle.std.specs.Str.{is_utf8}
use Rattle.std.proofs.lemmas.Bool.{cases_Bool, leb-true, eqb-true}
use Rattle.graph_model.specs.declared.graph.CellRecord.{CellRecord}
use Rattle.graph_model.specs.declared.graph.Version.{Version}
use Rattle.checkpoint_bytes.specs.Sessions.{IsWithinBounds}
use Rattle.checkpoint_reader.specs.Reads.{Answer, Read, pure, place, after, ◌>>=◌}
use Rattle.checkpoint_reader.specs.declared.forms.Texts.{Texts}
use Rattle.checkpoint_reader.specs.declared.forms.Texts.TheVariants.{InPlace, Numbered}
use Rattle.checkpoint_reader.specs.Fields.{bounded, as_text_field, code_of, code_there, numbered_code, size_of, taken, code, code_by_number, code_as, four, at_most, truth, numbers, names, cell, flag, size, version}
use Rattle.checkpoint_reader.specs.Numbered.{IsEmptyIfAbsent}

-- what was read is such
abbrev pub Has : {A : Type 0} → (A → Type 0) → Answer A → Type 0
Has P (Ok read) = P read.0
Has P (Err fault) = Unit {0}

-- what is read is such, wherever it is
pub record Gives {A : Type 0} (P : A → Type 0) (m : Read A) : Type 0 where
  pub has : (at : ℕ) → Has P (m at)

module _ {A B : Type 0} (P : B → Type 0) where
  has_after : (answer : Answer A) (next : A → Read B) → ((a : A) → Gives P (next a)) → Has P (after answer next)
  has_after (Ok read) next w = (w read.0).has read.1
  has_after (Err fault) next w = tt

  then_gives : (m : Read A) (next : A → Read B) → ((a : A) → Gives P (next a)) → Gives P (m >>= next)
  then_gives m next w = record { has = λ at. has_after (m at) next w }

  has_knowing : (Q : A → Type 0) (answer : Answer A) (next : A → Read B) → Has Q answer → ((a : A) → Q a → Gives P (next a)) → Has P (after answer next)
  has_knowing Q (Ok read) next q w = (w read.0 q).has read.1
  has_knowing Q (Err fault) next q w = tt

  then_knowing : (Q : A → Type 0) (m : Read A) (next : A → Read B) → Gives Q m → ((a : A) → Q a → Gives P (next a)) → Gives P (m >>= next)
  then_knowing Q m next q w = record { has = λ at. has_knowing Q (m at) next (q.has at) w }

bounded_has : (most at n to : ℕ) → Has (λ m. m ≤ most) (bounded most at n to)
bounded_has most at n to = elim (cases_Bool (nat_le n most)) [
  | inl l ↦ rw l (leb-true n most l)
  | inr l ↦ rw l tt
]

at_most_gives : (bytes : List ℕ) (most : ℕ) → Gives (λ n. n ≤ most) (at_most bytes most)
unfolding at_most
at_most_gives bytes most = then_gives (λ n. n ≤ most) place (λ at. four bytes >>= λ n. bounded most at n)
    (λ at. then_gives (λ n. n ≤ most) (four bytes) (λ n. bounded most at n) (λ n. record { has = λ to. bounded_has most at n to }))

abbrev IsShort : List ℕ → Type 0
IsShort xs = length xs ≤ 262148

short_text : (at : ℕ) (xs : List ℕ) (to : ℕ) → IsShort xs → Has IsShort (as_text_field at xs to)
short_text at xs to l = elim (cases_Bool (is_utf8 xs)) [
  | inl u ↦ rw u l
  | inr u ↦ rw u tt
]

short_code : (at : ℕ) (xs : List ℕ) (to : ℕ) → Has IsShort (code_of at xs to)
short_code at xs to = elim (cases_Bool (nat_le (length xs) 262148)) [
  | inl l ↦ rw l (short_text at xs to (leb-true (length xs) 262148 l))
  | inr l ↦ rw l tt
]

abbrev IsShortCode : List ℕ × ℕ → Type 0
IsShortCode c = IsShort c.0

short_there : (at known n : ℕ) (t : Option (List ℕ)) (to : ℕ) → Has IsShortCode (code_there at known n t to)
short_there at known n (Some t) to = elim (cases_Bool (nat_le (length t) 262148)) [
  | inl l ↦ rw l (leb-true (length t) 262148 l)
  | inr l ↦ rw l tt
]
short_there at known n None to = tt

short_numbered : (all : List (List ℕ)) (known at n to : ℕ) → Has IsShortCode (numbered_code all known at n to)
short_numbered all known at n to = elim (cases_Bool (nat_le n known)) [
  | inl l ↦ rw l (short_there at known n (slice_get all n) to)
  | inr l ↦ rw l tt
]

-- only a part without a handle has a size
abbrev HasSizeBy : ℕ → ℕ → Type 0
HasSizeBy kind n = ((kind == 0) || (n == 0)) ≡ true

sized_by : (kind at n to : ℕ) → Has (HasSizeBy kind) (size_of kind at n to)
sized_by kind at n to = elim (cases_Bool ((kind == 0) || (n == 0))) [
  | inl e ↦ rw e e
  | inr e ↦ rw e tt
]

empty_by : (kind n : ℕ) → HasSizeBy kind n → (kind == 1) ≡ true → ((kind == 2) ≡ false) × (n ≡ 0)
empty_by kind n h e =
    let one : kind ≡ 1 = eqb-true kind 1 e in
    let none : (n == 0) ≡ true = subst (λ (k : ℕ). HasSizeBy k n) one h in
    (subst (λ (k : ℕ). (k == 2) ≡ false) (sym one) refl, eqb-true n 0 none)

module _ (bytes : List ℕ) where
  code_gives : Gives IsShort (code bytes)
  unfolding code
  code_gives = then_gives IsShort place _ (λ at. then_gives IsShort (four bytes) _ (λ n. then_gives IsShort (taken bytes at n) _ (λ xs. record { has = λ to. short_code at xs to })))

  code_number_gives : (all : List (List ℕ)) (known : ℕ) → Gives IsShortCode (code_by_number bytes all known)
  unfolding code_by_number
  code_number_gives all known = then_gives IsShortCode place _ (λ at. then_gives IsShortCode (four bytes) _ (λ n. record { has = λ to. short_numbered all known at n to }))

  code_as_gives : (texts : Texts) (known : ℕ) → Gives IsShortCode (code_as bytes texts known)
  code_as_gives InPlace known = then_knowing IsShortCode IsShort (code bytes) (λ t. pure (t, known)) code_gives (λ t short. record { has = λ to. short })
  code_as_gives (Numbered all) known = code_number_gives all known

  size_gives : (kind : ℕ) → Gives (HasSizeBy kind) (size bytes kind)
  unfolding size
  size_gives kind = then_gives (HasSizeBy kind) place _ (λ at. then_gives (HasSizeBy kind) (four bytes) _ (λ n. record { has = λ to. sized_by kind at n to }))

  abbrev Bounded : CellRecord × Bool × ℕ → Type 0
  Bounded c = IsWithinBounds c.0

  pub cell_bounded : (texts : Texts) (known : ℕ) → Gives Bounded (cell bytes texts known)
  unfolding cell
  cell_bounded texts known = then_knowing Bounded IsShortCode (code_as bytes texts known) _ (code_as_gives texts known) (λ text short.
      then_knowing Bounded (λ n. n ≤ 16777216) (at_most bytes 16777216) _ (at_most_gives bytes 16777216) (λ meter within.
      then_knowing Bounded (λ n. n ≤ 1000000) (at_most bytes 1000000) _ (at_most_gives bytes 1000000) (λ steps few.
      then_gives Bounded (truth bytes) _ (λ drew.
      then_gives Bounded (truth bytes) _ (λ rerun.
      then_gives Bounded (numbers bytes) _ (λ reads.
      then_gives Bounded (names bytes) _ (λ missing. record { has = λ to. record { code = short; meter = within; steps = few } })))))))

  abbrev Empty : Version × Bool → Type 0
  Empty x = IsEmptyIfAbsent x.0

  pub version_empty : Gives Empty (version bytes)
  unfolding version
  version_empty = then_gives Empty (four bytes) _ (λ writer.
      then_gives Empty (four bytes) _ (λ replaced.
      then_gives Empty (flag bytes) _ (λ kind.
      then_knowing Empty (HasSizeBy kind) (size bytes kind) _ (size_gives kind) (λ len told.
      then_gives Empty (names bytes) _ (λ all.
      then_gives Empty (truth bytes) _ (λ copied. record { has = λ to e. empty_by kind len told e }))))))
