-- What a step reads off bytes that are at a place.
use Rattle.std.proofs.Common.{◌≡◌, ℕ, ℤ, ◌+◌, ◌-◌, ◌<◌, ◌≤◌, ◌^◌, true, false, List, [], ◌∷◌, ◌++◌, length, take, drop, Some, Ok, Err, refl, sym, ap, ◌∙◌, subst, arith, add-zero}
use Rattle.std.specs.Prelude.{nat_lt, nat_le, slice_get, slice_index, slice_range, FitsSigned}
use Rattle.std.specs.List.{flat_map}
use Rattle.std.specs.Int.{w128, cast_signed, cast_unsigned}
use Rattle.std.proofs.lemmas.Bool.{lt-ltb, le-ltb, le-leb}
use Rattle.std.proofs.lemmas.Int.{to_z-of_z}
use Rattle.std.proofs.Math.Facts.{Fits-of_z}
use Rattle.std.proofs.lemmas.List.{append-nil, append_assoc, length-append, drop_at, take_at}
use Rattle.byteorder.specs.Endian.{big_number, big_bytes}
use Rattle.byteorder.specs.Numbers.{big_number-reads_back, length-bytes_high_first}
use Rattle.part_bytes.specs.Tables.{number_of}
use Rattle.part_bytes.specs.Texts.{four as four_bytes, sixteen as sixteen_bytes, text_bytes, by_number}
use Rattle.checkpoint_reader.specs.declared.forms.Texts.{Texts}
use Rattle.checkpoint_reader.specs.declared.forms.Texts.TheVariants.{InPlace, Numbered}
use Rattle.checkpoint_reader.specs.declared.spot.Spot.{Spot}
use Rattle.checkpoint_reader.specs.PartReads.{Answer, Read, pure, after, more}
use Rattle.checkpoint_reader.specs.PartReading.{taken, byte, four, sixteen, spelled_text, text_by_number, text, as_text, numbered_text}
use Rattle.part_bytes.specs.Plain.{IsText}
use Rattle.checkpoint_laws.proofs.Counts.{spell_of, some_same, same_counts, Counts, Goes, Room, goes_same, goes_parts, room_before}
use Rattle.checkpoint_laws.proofs.Listed.{AreListed, IsTable, KnownNext, known_next, number_there}

-- ---- tests of numbers

pub below : (a b : ℕ) → a < b → nat_lt a b ≡ true
below a b l = lt-ltb a b l

pub not_below : (a b : ℕ) → b ≤ a → nat_lt a b ≡ false
not_below a b l = le-ltb a b l

up_to : (a b : ℕ) → a ≤ b → nat_le a b ≡ true
up_to a b l = le-leb a b l

-- ---- spots, and bytes that are at a place

abbrev pub spot : ℕ → Counts → ℕ → Spot
spot at c most = record { at = at; met = c.met; most = most; known = c.known }

abbrev pub answer : {A : Type 0} → A → Spot → Answer A
answer a s = Ok (a, s)

pub record Stands (bytes : List ℕ) (at : ℕ) (xs : List ℕ) : Type 0 where
  pub front : List ℕ
  pub rest : List ℕ
  pub is : bytes ≡ front ++ (xs ++ rest)
  pub where_ : length front ≡ at

module _ (bytes : List ℕ) where
  pub stands_first : (at : ℕ) (xs ys : List ℕ) → Stands bytes at (xs ++ ys) → Stands bytes at xs
  stands_first at xs ys s = record {
    front = s.front;
    rest = ys ++ s.rest;
    is = s.is ∙ ap (λ (zs : List ℕ). s.front ++ zs) (append_assoc xs ys s.rest);
    where_ = s.where_;
  }

  pub stands_next : (at : ℕ) (xs ys : List ℕ) → Stands bytes at (xs ++ ys) → Stands bytes (at + length xs) ys
  stands_next at xs ys s = record {
    front = s.front ++ xs;
    rest = s.rest;
    is = s.is ∙ (ap (λ (zs : List ℕ). s.front ++ zs) (append_assoc xs ys s.rest) ∙ sym (append_assoc s.front xs (ys ++ s.rest)));
    where_ = length-append s.front xs ∙ ap (λ (n : ℕ). n + length xs) s.where_;
  }

  -- wherever these bytes are, the step reads just them and answers a; so many objects and texts are referred to before it, and so many after it
  abbrev pub Off : {A : Type 0} → Read A → List ℕ → A → Counts → Counts → ℕ → Type 0
  Off m xs a met next most = (at : ℕ) → Stands bytes at xs → m (spot at met most) ≡ answer a (spot (at + length xs) next most)

  pub off_pure : {A : Type 0} (a : A) (met : Counts) (most : ℕ) → Off (pure a) [] a met met most
  off_pure a met most = λ at s. ap (λ (n : ℕ). answer a (spot n met most)) (sym (add-zero at))

  pub off_then : {A B : Type 0} (m : Read A) (f : A → Read B) (xs ys : List ℕ) (a : A) (b : B) (met mid next : Counts) (most : ℕ)
      → Off m xs a met mid most → Off (f a) ys b mid next most → Off (λ s. after (m s) f) (xs ++ ys) b met next most
  off_then {A = A} m f xs ys a b met mid next most h k = λ at s.
      let first = h at (stands_first at xs ys s) in
      let second = k (at + length xs) (stands_next at xs ys s) in
      let end : at + length xs + length ys ≡ at + length (xs ++ ys) = let size = length-append xs ys in omega (arith, size) in
      ap (λ (r : Answer A). after r f) first ∙ (second ∙ ap (λ (n : ℕ). answer b (spot n next most)) end)

  -- a step and then what takes no bytes
  pub off_end : {A B : Type 0} (m : Read A) (f : A → Read B) (xs : List ℕ) (a : A) (b : B) (met mid next : Counts) (most : ℕ)
      → Off m xs a met mid most → ((at : ℕ) → f a (spot at mid most) ≡ answer b (spot at next most)) → Off (λ s. after (m s) f) xs b met next most
  off_end {A = A} m f xs a b met mid next most h k = λ at s. ap (λ (r : Answer A). after r f) (h at s) ∙ k (at + length xs)

  pub off_map : {A B : Type 0} (m : Read A) (g : A → B) (xs : List ℕ) (a : A) (met next : Counts) (most : ℕ)
      → Off m xs a met next most → Off (λ s. after (m s) (λ x. pure (g x))) xs (g a) met next most
  off_map m g xs a met next most h = off_end m (λ x. pure (g x)) xs a (g a) met next next most h (λ at. refl)

  -- steps one after the other, in either grouping
  grouped : {A B C : Type 0} (r : Answer A) (f : A → Read B) (g : B → Read C) → after (after r f) g ≡ after r (λ a s. after (f a s) g)
  grouped (Ok read) f g = refl
  grouped (Err fault) f g = refl

  pub off_grouped : {A B C : Type 0} (m : Read A) (f : A → Read B) (g : B → Read C) (xs : List ℕ) (c : C) (met next : Counts) (most : ℕ)
      → Off (λ s. after (after (m s) f) g) xs c met next most → Off (λ s. after (m s) (λ a t. after (f a t) g)) xs c met next most
  off_grouped m f g xs c met next most h = λ at s. sym (grouped (m (spot at met most)) f g) ∙ h at s

  -- ---- bytes, numbers and texts

  stands_long : (at n : ℕ) (xs : List ℕ) → Stands bytes at xs → n ≡ length xs → nat_le (at + n) (length bytes) ≡ true
  stands_long at n xs s e =
      let size : length bytes ≡ length s.front + length (xs ++ s.rest) = ap (λ (zs : List ℕ). length zs) s.is ∙ length-append s.front (xs ++ s.rest) in
      let more = length-append xs s.rest in
      let start = s.where_ in
      up_to (at + n) (length bytes) (omega (arith, size, more, start, e))

  stands_there : (at n : ℕ) (xs : List ℕ) → Stands bytes at xs → n ≡ length xs → slice_range bytes at (at + n) ≡ xs
  stands_there at n xs s e =
      let later : drop at bytes ≡ xs ++ s.rest = ap (drop at) s.is ∙ drop_at s.front (xs ++ s.rest) at s.where_ in
      ap (take (at + n - at)) later ∙ take_at xs s.rest (at + n - at) (omega (arith, e))

  pub off_taken : (n : ℕ) (xs : List ℕ) (met : Counts) (most : ℕ) → n ≡ length xs → Off (taken bytes n) xs xs met met most
  unfolding taken
  off_taken n xs met most e = λ at s.
      rw (stands_long at n xs s e, stands_there at n xs s e) (ap (λ (k : ℕ). answer xs (spot (at + k) met most)) e)

  pub off_byte : (b : ℕ) (met : Counts) (most : ℕ) → Off (byte bytes) (b ∷ []) b met met most
  unfolding byte
  off_byte b met most = off_map (taken bytes 1) (λ xs. slice_index xs 0) (b ∷ []) (b ∷ []) met met most (off_taken 1 (b ∷ []) met most refl)

  number_back : (n x : ℕ) → x < 256 ^ n → big_number n (big_bytes n x) ≡ x
  number_back n x l = ap (big_number n) (sym (append-nil (big_bytes n x))) ∙ big_number-reads_back n x [] l

  pub off_four : (n : ℕ) (met : Counts) (most : ℕ) → n < 2 ^ 32 → Off (four bytes) (four_bytes n) n met met most
  unfolding four four_bytes
  off_four n met most l = λ at s.
      off_map (taken bytes 4) (λ xs. big_number 4 xs) (big_bytes 4 n) (big_bytes 4 n) met met most (off_taken 4 (big_bytes 4 n) met most (sym (length-bytes_high_first 4 n))) at s
      ∙ ap (λ (k : ℕ). answer k (spot (at + length (big_bytes 4 n)) met most)) (number_back 4 n l)

  pub off_sixteen : (n : ℤ) (met : Counts) (most : ℕ) → FitsSigned w128 n → Off (sixteen bytes) (sixteen_bytes n) n met met most
  unfolding sixteen sixteen_bytes
  off_sixteen n met most f = λ at s.
      let x : ℕ = cast_unsigned w128 n in
      let l : x < 256 ^ 16 = (Fits-of_z f).fits in
      off_map (taken bytes 16) (λ xs. cast_signed w128 (big_number 16 xs)) (big_bytes 16 x) (big_bytes 16 x) met met most (off_taken 16 (big_bytes 16 x) met most (sym (length-bytes_high_first 16 x))) at s
      ∙ ap (λ (z : ℤ). answer z (spot (at + length (big_bytes 16 x)) met most)) (ap (cast_signed w128) (number_back 16 x l) ∙ to_z-of_z w128 n f)

  off_spelled_text : (t : List ℕ) (met : Counts) (most : ℕ) → IsText t → Off (spelled_text bytes) (text_bytes t) t met met most
  unfolding spelled_text
  off_spelled_text t met most h = λ at s.
      off_then (four bytes) (λ n r. after (taken bytes n r) (λ xs. as_text at xs)) (four_bytes (length t)) t (length t) t met met met most (off_four (length t) met most h.1)
      (off_end (taken bytes (length t)) (λ xs. as_text at xs) t t t met met met most (off_taken (length t) t met most refl) (λ k. rw h.0 refl)) at s

  -- a text that is in the table, and was referred to or is the next one
  there_is : (table : List (List ℕ)) (t : List ℕ) (at k : ℕ) (met next : Counts) (most : ℕ) → number_of table t < length table → met.met ≡ next.met → KnownNext met.known (number_of table t) next.known
      → numbered_text table at (number_of table t) (spot k met most) ≡ answer t (spot k next most)
  there_is table t at k met next most l e n =
      let there : slice_get table (number_of table t) ≡ Some t = number_there table t l in
      rw (up_to (number_of table t) met.known n.old, there)
      (ap (λ (c : ℕ). let u : Counts = record { met = met.met; known = c } in answer t (spot k u most)) n.then_
      ∙ ap (λ (c : ℕ). let u : Counts = record { met = c; known = next.known } in answer t (spot k u most)) e)

  off_text_by_number : (table : List (List ℕ)) (t : List ℕ) (met next : Counts) (most : ℕ) → AreListed table → Goes (Numbered table) met [] (t ∷ []) next → Room (Numbered table) most next
      → Off (text_by_number bytes table) (by_number table t) t met next most
  unfolding text_by_number
  off_text_by_number table t met next most ok g r = λ at s.
      let n = known_next met.known (number_of table t) next.known g.known in
      let few = ok.few in
      let room = r.known in
      let low = n.below in
      off_end (four bytes) (λ m. numbered_text table at m) (four_bytes (number_of table t)) (number_of table t) t met met next most (off_four (number_of table t) met most (omega (arith, few, room, low)))
      (λ k. there_is table t at k met next most (omega (arith, room, low)) (some_same met.met next.met g.refs) n) at s

  pub off_text : (texts : Texts) (t : List ℕ) (met next : Counts) (most : ℕ) → IsTable texts → IsText t → Goes texts met [] (t ∷ []) next → Room texts most next
      → Off (text texts bytes) (spell_of texts t) t met next most
  unfolding text
  off_text InPlace t met next most ok h g r =
      subst (λ (d : Counts). Off (spelled_text bytes) (text_bytes t) t met d most) (same_counts met next (some_same met.met next.met g.refs) (some_same met.known next.known g.known)) (off_spelled_text t met most h)
  off_text (Numbered table) t met next most ok h g r = off_text_by_number table t met next most ok g r

-- ---- items of one kind

-- each is good after those before it
abbrev pub AllGood : {A : Type 0} → (List A → A → Type 0) → List A → List A → Type 0
AllGood Good before [] = Unit {0}
AllGood Good before (x ∷ xs) = Good before x × AllGood Good (before ++ x ∷ []) xs

module _ (bytes : List ℕ) (texts : Texts) {A : Type 0} (step : List A → Read A) (spelled : A → List ℕ) (refs : A → List ℕ) (uses : A → List (List ℕ)) (Good : List A → A → Type 0) (most : ℕ)
    (one : (before : List A) (a : A) (met next : Counts) → Good before a → Goes texts met (refs a) (uses a) next → Room texts most next → Off bytes (step before) (spelled a) a met next most) where
  pub off_more : (xs before : List A) (met next : Counts) → AllGood Good before xs → Goes texts met (flat_map refs xs) (flat_map uses xs) next → Room texts most next
      → Off bytes (more step (length xs) before) (flat_map spelled xs) (before ++ xs) met next most
  off_more [] before met next h e l = λ at s.
      let same = goes_same texts met next e in
      ap (λ (n : ℕ). answer before (spot n met most)) (sym (add-zero at)) ∙ (ap (λ (ys : List A). answer ys (spot (at + 0) met most)) (sym (append-nil before)) ∙ ap (λ (c : Counts). answer (before ++ []) (spot (at + 0) c most)) same)
  off_more (x ∷ xs) before met next h e l =
      let p = goes_parts texts (refs x) (flat_map refs xs) (uses x) (flat_map uses xs) met next e in
      let first = one before x met p.mid h.0 p.first (room_before texts (flat_map refs xs) (flat_map uses xs) p.mid next most p.rest l) in
      let rest = off_more xs (before ++ x ∷ []) p.mid next h.1 p.rest l in
      λ at s. off_then bytes (step before) (λ a. more step (length xs) (before ++ a ∷ [])) (spelled x) (flat_map spelled xs) x ((before ++ x ∷ []) ++ xs) met p.mid next most first rest at s
      ∙ ap (λ (ys : List A). answer ys (spot (at + length (spelled x ++ flat_map spelled xs)) next most)) (append_assoc before (x ∷ []) xs)
