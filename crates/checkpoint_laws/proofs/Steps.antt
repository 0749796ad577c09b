-- What each step of reading reads off its bytes.
use Rattle.std.proofs.Common.{◌≡◌, ℕ, ◌+◌, ◌-◌, ◌<◌, ◌≤◌, ◌^◌, Bool, true, false, List, [], ◌∷◌, ◌++◌, length, take, drop, Some, Ok, refl, sym, ap, ◌∙◌, arith, add-zero}
use Rattle.std.specs.Prelude.{nat_le, slice_get, slice_index, slice_range}
use Rattle.std.specs.List.{flat_map, AllByRecursion}
use Rattle.std.proofs.lemmas.Bool.{le-leb}
use Rattle.std.proofs.lemmas.List.{append-nil, append_assoc, length-append, drop_at, take_at}
use Rattle.byteorder.specs.Endian.{big_number, big_bytes}
use Rattle.byteorder.specs.Numbers.{big_number-reads_back, length-bytes_high_first}
use Rattle.part_bytes.specs.declared.part.PartValue.{PartValue}
use Rattle.part_bytes.specs.Tables.{number_of}
use Rattle.part_bytes.specs.Texts.{four as four_bytes, name_bytes, text_bytes, by_number, spelled_part}
use Rattle.part_bytes.specs.Uses.{texts_of}
use Rattle.checkpoint_reader.specs.declared.forms.Texts.{Texts}
use Rattle.checkpoint_reader.specs.declared.forms.Texts.TheVariants.{InPlace, Numbered}
use Rattle.checkpoint_reader.specs.PartReading.{part_read2}
use Rattle.checkpoint_laws.specs.SpelledParts.{counted, HasPartText}
use Rattle.checkpoint_laws.proofs.Counts.{spell_of, numbers_of, some_same, AreThere}
use Rattle.checkpoint_laws.proofs.Listed.{AreListed, IsTable, known_next, number_there}
use Rattle.checkpoint_laws.proofs.Offs.{Stands, stands_first, stands_next}
use Rattle.checkpoint_laws.proofs.WholeParts.{read_back_by}
use Rattle.checkpoint_bytes.specs.Texts.{truth_byte, names_bytes}
use Rattle.checkpoint_reader.specs.Reads.{Answer, Read, pure, after, turns, one_more, many}
use Rattle.checkpoint_reader.specs.Fields.{format_of, bounded, truth_of, as_text_field, code_of, code_there, numbered_code, part_of, taken, byte, two, four, format, at_most, truth, code, code_by_number, code_as, name, numbers, names, part}
use Rattle.checkpoint_laws.specs.Spelled.{IsCode, IsName, AreNames, AreNumbers}

abbrev pub answer : {A : Type 0} → A → ℕ → Answer A
answer a at = Ok (a, at)

pub up_to : (a b : ℕ) → a ≤ b → nat_le a b ≡ true
up_to a b l = le-leb a b l

module _ (bytes : List ℕ) where
  -- wherever these bytes are, the step reads just them, as this
  abbrev pub Off : {A : Type 0} → Read A → List ℕ → A → Type 0
  Off m xs a = (at : ℕ) → Stands bytes at xs → m at ≡ answer a (at + length xs)

  pub off_pure : {A : Type 0} (a : A) → Off (pure a) [] a
  off_pure a = λ at s. ap (λ (n : ℕ). answer a n) (sym (add-zero at))

  pub off_then : {A B : Type 0} (m : Read A) (f : A → Read B) (xs ys : List ℕ) (a : A) (b : B) → Off m xs a → Off (f a) ys b → Off (λ at. after (m at) f) (xs ++ ys) b
  off_then {A = A} m f xs ys a b h k = λ at s.
      let first = h at (stands_first bytes at xs ys s) in
      let second = k (at + length xs) (stands_next bytes at xs ys s) in
      let end : at + length xs + length ys ≡ at + length (xs ++ ys) = let size = length-append xs ys in omega (arith, size) in
      ap (λ (r : Answer A). after r f) first ∙ (second ∙ ap (λ (n : ℕ). answer b n) end)

  -- a step and then what takes no bytes
  pub off_end : {A B : Type 0} (m : Read A) (f : A → Read B) (xs : List ℕ) (a : A) (b : B) → Off m xs a → ((at : ℕ) → f a at ≡ answer b at) → Off (λ at. after (m at) f) xs b
  off_end {A = A} m f xs a b h k = λ at s. ap (λ (r : Answer A). after r f) (h at s) ∙ k (at + length xs)

  pub off_map : {A B : Type 0} (m : Read A) (g : A → B) (xs : List ℕ) (a : A) → Off m xs a → Off (λ at. after (m at) (λ x. pure (g x))) xs (g a)
  off_map m g xs a h = off_end m (λ x. pure (g x)) xs a (g a) h (λ at. refl)

  -- ---- bytes, numbers, texts and names

  stands_long : (at n : ℕ) (xs : List ℕ) → Stands bytes at xs → n ≡ length xs → nat_le (at + n) (length bytes) ≡ true
  stands_long at n xs s e =
      let size : length bytes ≡ length s.front + length (xs ++ s.rest) = ap (λ (zs : List ℕ). length zs) s.is ∙ length-append s.front (xs ++ s.rest) in
      let more = length-append xs s.rest in
      let start = s.where_ in
      up_to (at + n) (length bytes) (omega (arith, size, more, start, e))

  later : (at : ℕ) (xs : List ℕ) (s : Stands bytes at xs) → drop at bytes ≡ xs ++ s.rest
  later at xs s = ap (drop at) s.is ∙ drop_at s.front (xs ++ s.rest) at s.where_

  stands_there : (at n : ℕ) (xs : List ℕ) → Stands bytes at xs → n ≡ length xs → slice_range bytes at (at + n) ≡ xs
  stands_there at n xs s e = ap (take (at + n - at)) (later at xs s) ∙ take_at xs s.rest (at + n - at) (omega (arith, e))

  pub off_taken : (field n : ℕ) (xs : List ℕ) → n ≡ length xs → Off (taken bytes field n) xs xs
  unfolding taken
  off_taken field n xs e = λ at s. rw (stands_long at n xs s e, stands_there at n xs s e) (ap (λ (k : ℕ). answer xs (at + k)) e)

  pub off_byte : (b : ℕ) → Off (byte bytes) (b ∷ []) b
  unfolding byte
  off_byte b = λ at s. off_map (taken bytes at 1) (λ xs. slice_index xs 0) (b ∷ []) (b ∷ []) (off_taken at 1 (b ∷ []) refl) at s

  number_back : (n x : ℕ) → x < 256 ^ n → big_number n (big_bytes n x) ≡ x
  number_back n x l = ap (big_number n) (sym (append-nil (big_bytes n x))) ∙ big_number-reads_back n x [] l

  pub off_four : (n : ℕ) → n < 2 ^ 32 → Off (four bytes) (four_bytes n) n
  unfolding four four_bytes
  off_four n l = λ at s.
      off_map (taken bytes at 4) (λ xs. big_number 4 xs) (big_bytes 4 n) (big_bytes 4 n) (off_taken at 4 (big_bytes 4 n) (sym (length-bytes_high_first 4 n))) at s
      ∙ ap (λ (k : ℕ). answer k (at + length (big_bytes 4 n))) (number_back 4 n l)

  -- the version of the format
  pub off_format1 : Off (format bytes) (0 ∷ 1 ∷ []) 1
  unfolding format two
  off_format1 = λ at s. ap (λ r. after (after r (λ xs. pure (big_number 2 xs))) (λ n. format_of n)) (off_taken at 2 (0 ∷ 1 ∷ []) refl at s)

  pub off_format2 : Off (format bytes) (0 ∷ 2 ∷ []) 2
  unfolding format two
  off_format2 = λ at s. ap (λ r. after (after r (λ xs. pure (big_number 2 xs))) (λ n. format_of n)) (off_taken at 2 (0 ∷ 2 ∷ []) refl at s)

  pub off_at_most : (most n : ℕ) → n ≤ most → n < 2 ^ 32 → Off (at_most bytes most) (four_bytes n) n
  unfolding at_most
  off_at_most most n l k = λ at s. off_end (four bytes) (λ m. bounded most at m) (four_bytes n) n n (off_four n k) (λ end. rw (up_to n most l) refl) at s

  pub off_truth : (b : Bool) → Off (truth bytes) (truth_byte b ∷ []) b
  unfolding truth
  off_truth true = λ at s. off_end (byte bytes) (λ b. truth_of at b) (1 ∷ []) 1 true (off_byte 1) (λ end. refl) at s
  off_truth false = λ at s. off_end (byte bytes) (λ b. truth_of at b) (0 ∷ []) 0 false (off_byte 0) (λ end. refl) at s

  off_spelled_code : (t : List ℕ) → IsCode t → Off (code bytes) (text_bytes t) t
  unfolding code
  off_spelled_code t h = λ at s.
      off_then (four bytes) (λ n r. after (taken bytes at n r) (λ xs. code_of at xs)) (four_bytes (length t)) t (length t) t (off_four (length t) (let l = h.1 in omega (arith, l)))
      (off_end (taken bytes at (length t)) (λ xs. code_of at xs) t t t (off_taken at (length t) t refl) (λ end. rw (up_to (length t) 262148 h.1, h.0) refl)) at s

  off_numbered_code : (table : List (List ℕ)) (t : List ℕ) (known next : ℕ) → AreListed table → IsCode t → counted known (number_of table t ∷ []) ≡ Some next → next ≤ length table
      → Off (code_by_number bytes table known) (by_number table t) (t, next)
  unfolding code_by_number
  off_numbered_code table t known next ok h e room = λ at s.
      let n = known_next known (number_of table t) next e in
      let few = ok.few in
      let low = n.below in
      let there : slice_get table (number_of table t) ≡ Some t = number_there table t (omega (arith, room, low)) in
      off_end (four bytes) (λ m. numbered_code table known at m) (four_bytes (number_of table t)) (number_of table t) (t, next) (off_four (number_of table t) (omega (arith, few, room, low)))
      (λ end. rw (up_to (number_of table t) known n.old, there) (rw (up_to (length t) 262148 h.1) (ap (λ (k : ℕ). answer (t, k) end) n.then_))) at s

  -- a code, and how many texts were referred to after it
  pub off_code : (texts : Texts) (t : List ℕ) (known next : ℕ) → IsTable texts → IsCode t → counted known (numbers_of texts (t ∷ [])) ≡ Some next → AreThere texts next
      → Off (code_as bytes texts known) (spell_of texts t) (t, next)
  off_code InPlace t known next ok h e room = λ at s.
      off_map (code bytes) (λ u. (u, known)) (text_bytes t) t (off_spelled_code t h) at s ∙ ap (λ (k : ℕ). answer (t, k) (at + length (text_bytes t))) (some_same known next e)
  off_code (Numbered table) t known next ok h e room = off_numbered_code table t known next ok h e room

  pub off_name : (x : List ℕ) → IsName x → Off (name bytes) (name_bytes x) x
  unfolding name
  off_name x h = λ at s.
      off_then (byte bytes) (λ n r. after (taken bytes at n r) (λ xs. as_text_field at xs)) (length x ∷ []) x (length x) x (off_byte (length x))
      (off_end (taken bytes at (length x)) (λ xs. as_text_field at xs) x x x (off_taken at (length x) x refl) (λ end. rw h.0 refl)) at s

  -- ---- items of one kind

  module _ {A : Type 0} (item : Read A) (spelled : A → List ℕ) (Good : A → Type 0) (one : (a : A) → Good a → Off item (spelled a) a) where
    pub off_turns : (xs before : List A) → AllByRecursion Good xs → Off (turns (one_more item) (length xs) before) (flat_map spelled xs) (before ++ xs)
    off_turns [] before h = λ at s. ap (λ (n : ℕ). answer before n) (sym (add-zero at)) ∙ ap (λ (ys : List A). answer ys (at + 0)) (sym (append-nil before))
    off_turns (x ∷ xs) before h = λ at s.
        off_then (one_more item before) (λ now. turns (one_more item) (length xs) now) (spelled x) (flat_map spelled xs) (before ++ x ∷ []) ((before ++ x ∷ []) ++ xs)
        (off_map item (λ a. before ++ a ∷ []) (spelled x) x (one x h.0)) (off_turns xs (before ++ x ∷ []) h.1) at s
        ∙ ap (λ (ys : List A). answer ys (at + length (spelled x ++ flat_map spelled xs))) (append_assoc before (x ∷ []) xs)

  pub off_numbers : (ns : List ℕ) → AreNumbers ns → Off (numbers bytes) (four_bytes (length ns) ++ flat_map four_bytes ns) ns
  unfolding numbers
  off_numbers ns h = off_then (four bytes) (λ n. many (four bytes) n) (four_bytes (length ns)) (flat_map four_bytes ns) (length ns) ns (off_four (length ns) h.0)
      (off_turns (four bytes) four_bytes (λ n. n < 2 ^ 32) off_four ns [] h.1)

  pub off_names : (ns : List (List ℕ)) → AreNames ns → Off (names bytes) (names_bytes ns) ns
  unfolding names
  off_names ns h = off_then (four bytes) (λ n. many (name bytes) n) (four_bytes (length ns)) (flat_map name_bytes ns) (length ns) ns (off_four (length ns) h.0)
      (off_turns (name bytes) name_bytes IsName off_name ns [] h.1)

  -- ---- a part

  -- and how many texts were referred to after it
  pub off_part : (texts : Texts) (p : PartValue) (known next : ℕ) → IsTable texts → HasPartText p → counted known (numbers_of texts (texts_of p)) ≡ Some next → AreThere texts next
      → Off (part bytes texts known) (spelled_part (spell_of texts) p) (p, next)
  unfolding part
  off_part texts p known next ok h e room = λ at s.
      let xs : List ℕ = spelled_part (spell_of texts) p in
      let front : Stands (drop at bytes) 0 xs = record { front = []; rest = s.rest; is = later at xs s; where_ = refl } in
      ap (λ r. part_of at r) (read_back_by texts ok (drop at bytes) p known next h e room front)
