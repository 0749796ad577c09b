-- Numbers, texts and names that were read, and their bytes.
use Rattle.std.proofs.Common.{◌≡◌, ℕ, zero, suc, ◌+◌, ◌<◌, ◌≤◌, ◌==◌, ◌||◌, cond, Bool, true, false, List, [], ◌∷◌, ◌++◌, length, refl, sym, ap, ◌∙◌, subst, inl, inr, arith, All}
use Rattle.std.specs.Prelude.{nat_le, slice_get, slice_index, ◌⊎◌, ◌^◌, Option, Some, None}
use Rattle.std.specs.List.{flat_map}
use Rattle.std.specs.Str.{is_utf8}
use Rattle.std.proofs.lemmas.Bool.{cases_Bool, or_cases, eqb-true, leb-true}
use Rattle.std.proofs.lemmas.Option.{slice_get_within}
use Rattle.std.proofs.lemmas.List.{flat_map_more, length-append}
use Rattle.byteorder.specs.Endian.{big_bytes, big_number}
use Rattle.byteorder.specs.Numbers.{big_from-lt}
use Rattle.part_bytes.specs.Tables.{number_of}
use Rattle.part_bytes.specs.Texts.{four as four_bytes, name_bytes, text_bytes, by_number}
use Rattle.checkpoint_reader.specs.declared.forms.Texts.{Texts}
use Rattle.checkpoint_reader.specs.declared.forms.Texts.TheVariants.{InPlace, Numbered}
use Rattle.checkpoint_reader.specs.PartReading.{known_after}
use Rattle.checkpoint_laws.specs.SpelledParts.{counted}
use Rattle.checkpoint_laws.proofs.Counts.{spell_of, numbers_of, AreThere}
use Rattle.checkpoint_laws.proofs.Listed.{AreListed, IsTable, placed, counted_next}
use Rattle.checkpoint_laws.proofs.Numbers.{bytes_back}
use Rattle.checkpoint_bytes.specs.Texts.{truth_byte, names_bytes}
use Rattle.checkpoint_reader.specs.declared.fault.CheckpointFault.TheVariants.{BadField, BadVersion}
use Rattle.checkpoint_reader.specs.Reads.{Read, pure, after, one_more, many}
use Rattle.checkpoint_reader.specs.Fields.{format_of, bounded, truth_of, as_text_field, code_of, code_there, numbered_code, size_of, taken, byte, two, four, format, at_most, truth, code, code_by_number, code_as, name, numbers, names, flag, size}
use Rattle.checkpoint_laws.proofs.Eats.{answer, same_value, same_place, failed, reached, Spells, Ate, ate_as, Eats, eats_then, eats_end, eats_map, eats_turns, AreBytes, eats_taken}

-- ---- tests of what was read

format_found : (n m s t : ℕ) → format_of n s ≡ answer m t → (s ≡ t) × (n ≡ m) × ((m ≡ 1) ⊎ (m ≡ 2))
format_found n m s t e = elim (cases_Bool ((n == 1) || (n == 2))) [
  | inl y ↦
      let is : answer n s ≡ answer m t = rw y at e in
      let same = same_value n m s t is in
      let which : (m ≡ 1) ⊎ (m ≡ 2) = elim (or_cases (n == 1) (n == 2) y) [
        | inl one ↦ inl (sym same ∙ eqb-true n 1 one)
        | inr two ↦ inr (sym same ∙ eqb-true n 2 two)
      ] in
      (same_place n m s t is, same, which)
  | inr f ↦ absurd (let no : failed ℕ (BadVersion n) ≡ answer m t = rw f at e in cc)
]

-- the two bytes of a version
two_of : (n : ℕ) → (n ≡ 1) ⊎ (n ≡ 2) → big_bytes 2 n ≡ 0 ∷ n ∷ []
two_of n (inl e) = ap (big_bytes 2) e ∙ ap (λ (k : ℕ). 0 ∷ k ∷ []) (sym e)
two_of n (inr e) = ap (big_bytes 2) e ∙ ap (λ (k : ℕ). 0 ∷ k ∷ []) (sym e)

bounded_found : (most at n m s t : ℕ) → bounded most at n s ≡ answer m t → (s ≡ t) × (n ≡ m) × (n ≤ most)
bounded_found most at n m s t e = elim (cases_Bool (nat_le n most)) [
  | inl y ↦ let is : answer n s ≡ answer m t = rw y at e in (same_place n m s t is, same_value n m s t is, leb-true n most y)
  | inr f ↦ absurd (let no : failed ℕ (BadField at) ≡ answer m t = rw f at e in cc)
]

truth_found : (at b : ℕ) (c : Bool) (s t : ℕ) → truth_of at b s ≡ answer c t → (s ≡ t) × (b ≡ truth_byte c)
truth_found at b c s t e = elim (cases_Bool (b == 0)) [
  | inl y ↦
      let is : answer false s ≡ answer c t = rw y at e in
      (same_place false c s t is, subst (λ (d : Bool). b ≡ truth_byte d) (same_value false c s t is) (eqb-true b 0 y))
  | inr f ↦ elim (cases_Bool (b == 1)) [
    | inl y ↦
        let is : answer true s ≡ answer c t = rw (f, y) at e in
        (same_place true c s t is, subst (λ (d : Bool). b ≡ truth_byte d) (same_value true c s t is) (eqb-true b 1 y))
    | inr g ↦ absurd (let no : failed Bool (BadField at) ≡ answer c t = rw (f, g) at e in cc)
  ]
]

text_found : (at : ℕ) (xs b : List ℕ) (s t : ℕ) → as_text_field at xs s ≡ answer b t → (s ≡ t) × (xs ≡ b)
text_found at xs b s t e = elim (cases_Bool (is_utf8 xs)) [
  | inl y ↦ let is : answer xs s ≡ answer b t = rw y at e in (same_place xs b s t is, same_value xs b s t is)
  | inr f ↦ absurd (let no : failed (List ℕ) (BadField at) ≡ answer b t = rw f at e in cc)
]

code_found : (at : ℕ) (xs b : List ℕ) (s t : ℕ) → code_of at xs s ≡ answer b t → (s ≡ t) × (xs ≡ b)
code_found at xs b s t e = elim (cases_Bool (nat_le (length xs) 262148)) [
  | inl y ↦ text_found at xs b s t (rw y at e)
  | inr f ↦ absurd (let no : failed (List ℕ) (BadField at) ≡ answer b t = rw f at e in cc)
]

-- so many texts were known before these, and so many after them
pub record Knows (texts : Texts) (known : ℕ) (us : List (List ℕ)) (next : ℕ) : Type 0 where
  pub counts : counted known (numbers_of texts us) ≡ Some next
  pub there : AreThere texts known → AreThere texts next

-- a code of the table
record CodeFound (table : List (List ℕ)) (known n s t : ℕ) (c : List ℕ × ℕ) : Type 0 where
  pub to : s ≡ t
  pub at : n ≡ number_of table c.0
  pub knows : Knows (Numbered table) known (c.0 ∷ []) c.1

after_within : (known n size : ℕ) → known ≤ size → n < size → known_after known n ≤ size
after_within known n size l k = elim (cases_Bool (n == known)) [
  | inl e ↦ rw e (omega (arith, k))
  | inr f ↦ rw f l
]

code_there_found : (table : List (List ℕ)) (ok : AreListed table) (known place_ n s t : ℕ) (o : Option (List ℕ)) (c : List ℕ × ℕ) → n ≤ known → slice_get table n ≡ o → code_there place_ known n o s ≡ answer c t → CodeFound table known n s t c
code_there_found table ok known p n s t None c l was e = absurd (let no : failed (List ℕ × ℕ) (BadField p) ≡ answer c t = e in cc)
code_there_found table ok known p n s t (Some x) c l was e = elim (cases_Bool (nat_le (length x) 262148)) [
  | inl y ↦
      let got : List ℕ × ℕ = (x, known_after known n) in
      let is : answer got s ≡ answer c t = rw y at e in
      let at : number_of table x ≡ n = placed table n x ok was in
      let knows : Knows (Numbered table) known (x ∷ []) (known_after known n) = record {
        counts = ap (λ (k : ℕ). counted known (k ∷ [])) at ∙ counted_next known n l;
        there = λ h. after_within known n (length table) h (slice_get_within table n x was);
      } in
      let here : CodeFound table known n s s got = record { to = refl; at = sym at; knows = knows } in
      subst (λ (k : ℕ). CodeFound table known n s k c) (same_place got c s t is) (subst (λ (d : List ℕ × ℕ). CodeFound table known n s s d) (same_value got c s t is) here)
  | inr f ↦ absurd (let no : failed (List ℕ × ℕ) (BadField p) ≡ answer c t = rw f at e in cc)
]

numbered_code_found : (table : List (List ℕ)) (ok : AreListed table) (known place_ n s t : ℕ) (c : List ℕ × ℕ) → numbered_code table known place_ n s ≡ answer c t → CodeFound table known n s t c
numbered_code_found table ok known p n s t c e = elim (cases_Bool (nat_le n known)) [
  | inl l ↦ code_there_found table ok known p n s t (slice_get table n) c (leb-true n known l) refl (rw l at e)
  | inr f ↦ absurd (let no : failed (List ℕ × ℕ) (BadField p) ≡ answer c t = rw f at e in cc)
]

size_found : (kind at n m s t : ℕ) → size_of kind at n s ≡ answer m t → (s ≡ t) × (n ≡ m)
size_found kind at n m s t e = elim (cases_Bool ((kind == 0) || (n == 0))) [
  | inl y ↦ let is : answer n s ≡ answer m t = rw y at e in (same_place n m s t is, same_value n m s t is)
  | inr f ↦ absurd (let no : failed ℕ (BadField at) ≡ answer m t = rw f at e in cc)
]

-- the byte of a kind
abbrev pub kind_of : ℕ → ℕ
kind_of k = cond (k == 1) 1 (cond (k == 2) 2 0)

same_kind : (k : ℕ) → k ≤ 2 → k ≡ kind_of k
same_kind zero l = refl
same_kind (suc zero) l = refl
same_kind (suc (suc zero)) l = refl
same_kind (suc (suc (suc k))) l = absurd (omega (arith, l))

one_of : (xs : List ℕ) → length xs ≡ 1 → xs ≡ slice_index xs 0 ∷ []
one_of [] e = absurd (omega (arith, e))
one_of (x ∷ []) e = refl
one_of (x ∷ y ∷ ys) e = absurd (omega (arith, e))

module _ (bytes : List ℕ) (small : All (λ b. b < 256) bytes) where
  -- ---- numbers

  pub eats_byte : Eats bytes (byte bytes) (Spells (λ b. b ∷ []))
  unfolding byte
  eats_byte = λ at. eats_map bytes (taken bytes at 1) (λ xs. slice_index xs 0) (AreBytes 1) (Spells (λ b. b ∷ [])) (eats_taken bytes small at 1) (λ xs ys h. h.0 ∙ one_of xs h.1) at

  eats_two : Eats bytes (two bytes) (Spells (big_bytes 2))
  unfolding two
  eats_two = λ at. eats_map bytes (taken bytes at 2) (λ xs. big_number 2 xs) (AreBytes 2) (Spells (big_bytes 2)) (eats_taken bytes small at 2) (λ xs ys h. h.0 ∙ sym (bytes_back 2 xs h.1 h.2)) at

  pub eats_four : Eats bytes (four bytes) (Spells four_bytes)
  unfolding four four_bytes
  eats_four = λ at. eats_map bytes (taken bytes at 4) (λ xs. big_number 4 xs) (AreBytes 4) (Spells four_bytes) (eats_taken bytes small at 4) (λ xs ys h. h.0 ∙ sym (bytes_back 4 xs h.1 h.2)) at

  -- and it has four bytes
  pub eats_low_four : Eats bytes (four bytes) (λ n xs. (xs ≡ four_bytes n) × (n < 2 ^ 32))
  unfolding four four_bytes
  eats_low_four = λ at. eats_map bytes (taken bytes at 4) (λ xs. big_number 4 xs) (AreBytes 4) (λ n xs. (xs ≡ big_bytes 4 n) × (n < 2 ^ 32)) (eats_taken bytes small at 4)
      (λ xs ys h. (h.0 ∙ sym (bytes_back 4 xs h.1 h.2), big_from-lt 0 4 xs h.2)) at

  pub eats_format : Eats bytes (format bytes) (λ n xs. (xs ≡ 0 ∷ n ∷ []) × ((n ≡ 1) ⊎ (n ≡ 2)))
  unfolding format
  eats_format = λ at. eats_end bytes (two bytes) (λ n. format_of n) (Spells (big_bytes 2)) (λ n xs. (xs ≡ 0 ∷ n ∷ []) × ((n ≡ 1) ⊎ (n ≡ 2))) eats_two
      (λ n m xs s t h e. let c = format_found n m s t e in (c.0, (h ∙ (ap (big_bytes 2) c.1 ∙ two_of m c.2), c.2))) at

  pub eats_at_most : (most : ℕ) → Eats bytes (at_most bytes most) (Spells four_bytes)
  unfolding at_most
  eats_at_most most = λ at. eats_end bytes (four bytes) (λ n. bounded most at n) (Spells four_bytes) (Spells four_bytes) eats_four
      (λ n m xs s t h e. let c = bounded_found most at n m s t e in (c.0, h ∙ ap four_bytes c.1)) at

  pub eats_truth : Eats bytes (truth bytes) (Spells (λ b. truth_byte b ∷ []))
  unfolding truth
  eats_truth = λ at. eats_end bytes (byte bytes) (λ b. truth_of at b) (Spells (λ b. b ∷ [])) (Spells (λ c. truth_byte c ∷ [])) eats_byte
      (λ b c xs s t h e. let d = truth_found at b c s t e in (d.0, h ∙ ap (λ (k : ℕ). k ∷ []) d.1)) at

  pub eats_flag : Eats bytes (flag bytes) (Spells (λ k. kind_of k ∷ []))
  unfolding flag
  eats_flag = λ at. eats_end bytes (byte bytes) (λ b. bounded 2 at b) (Spells (λ b. b ∷ [])) (Spells (λ k. kind_of k ∷ [])) eats_byte
      (λ b k xs s t h e. let c = bounded_found 2 at b k s t e in let l = c.2 in let same = c.1 in (c.0, h ∙ ap (λ (n : ℕ). n ∷ []) (same ∙ same_kind k (omega (arith, l, same))))) at

  pub eats_size : (kind : ℕ) → Eats bytes (size bytes kind) (Spells four_bytes)
  unfolding size
  eats_size kind = λ at. eats_end bytes (four bytes) (λ n. size_of kind at n) (Spells four_bytes) (Spells four_bytes) eats_four
      (λ n m xs s t h e. let c = size_found kind at n m s t e in (c.0, h ∙ ap four_bytes c.1)) at

  -- ---- texts and names

  eats_spelled_code : Eats bytes (code bytes) (Spells text_bytes)
  unfolding code
  eats_spelled_code = λ at. eats_then bytes (four bytes) (λ n r. after (taken bytes at n r) (λ xs. code_of at xs)) four_bytes (Spells text_bytes) eats_four
      (λ n. eats_end bytes (taken bytes at n) (λ xs. code_of at xs) (AreBytes n) (λ b ys. four_bytes n ++ ys ≡ text_bytes b) (eats_taken bytes small at n)
      (λ xs b ys s t h e.
      let c = code_found at xs b s t e in
      (c.0, ap (λ (k : ℕ). four_bytes k ++ ys) (sym h.1 ∙ ap (λ (zs : List ℕ). length zs) c.1) ∙ ap (λ (zs : List ℕ). four_bytes (length b) ++ zs) (h.0 ∙ c.1)))) at

  -- the code, and how many texts were referred to after it
  pub eats_code : (texts : Texts) (ok : IsTable texts) (known : ℕ) → Eats bytes (code_as bytes texts known) (λ c xs. (xs ≡ spell_of texts c.0) × Knows texts known (c.0 ∷ []) c.1)
  unfolding code_by_number
  eats_code InPlace ok known = eats_map bytes (code bytes) (λ t. (t, known)) (Spells text_bytes) (λ c xs. (xs ≡ text_bytes c.0) × Knows InPlace known (c.0 ∷ []) c.1) eats_spelled_code
      (λ t xs e. (e, record { counts = refl; there = λ h. h }))
  eats_code (Numbered table) ok known = λ at. eats_end bytes (four bytes) (λ n. numbered_code table known at n) (Spells four_bytes)
      (λ c xs. (xs ≡ by_number table c.0) × Knows (Numbered table) known (c.0 ∷ []) c.1) eats_four
      (λ n c xs s t h e. let f = numbered_code_found table ok known at n s t c e in (f.to, (h ∙ ap four_bytes f.at, f.knows))) at

  pub eats_name : Eats bytes (name bytes) (Spells name_bytes)
  unfolding name
  eats_name = λ at. eats_then bytes (byte bytes) (λ n r. after (taken bytes at n r) (λ xs. as_text_field at xs)) (λ n. n ∷ []) (Spells name_bytes) eats_byte
      (λ n. eats_end bytes (taken bytes at n) (λ xs. as_text_field at xs) (AreBytes n) (λ b ys. n ∷ ys ≡ name_bytes b) (eats_taken bytes small at n)
      (λ xs b ys s t h e.
      let c = text_found at xs b s t e in
      (c.0, ap (λ (k : ℕ). k ∷ ys) (sym h.1 ∙ ap (λ (zs : List ℕ). length zs) c.1) ∙ ap (λ (zs : List ℕ). length b ∷ zs) (h.0 ∙ c.1)))) at

  -- ---- n items of one kind

  module _ {A : Type 0} (item : Read A) (s : A → List ℕ) (each : Eats bytes item (Spells s)) where
    -- there are n
    abbrev AreSo : ℕ → List A → Type 0
    AreSo n xs = length xs ≡ n

    one_eaten : (n : ℕ) (before now : List A) (at next : ℕ) → AreSo n before → one_more item before at ≡ answer now next
        → AreSo (n + 1) now × Ate bytes (λ xs. flat_map s now ≡ flat_map s before ++ xs) at next
    one_eaten n before now at next h e =
        let r = reached (item at) (λ a. pure (before ++ a ∷ [])) now next e in
        let same : before ++ r.first ∷ [] ≡ now = same_value (before ++ r.first ∷ []) now r.mid next r.next in
        let there : r.mid ≡ next = same_place (before ++ r.first ∷ []) now r.mid next r.next in
        let size : length (before ++ r.first ∷ []) ≡ n + 1 = length-append before (r.first ∷ []) ∙ ap (λ (k : ℕ). k + 1) h in
        let ate : Ate bytes (Spells s r.first) at next = subst (λ (k : ℕ). Ate bytes (Spells s r.first) at k) there (each at r.mid r.first r.was) in
        let spelled : (xs : List ℕ) → xs ≡ s r.first → flat_map s now ≡ flat_map s before ++ xs = λ xs k.
        ap (flat_map s) (sym same) ∙ (sym (flat_map_more s [] before r.first) ∙ ap (λ (zs : List ℕ). flat_map s before ++ zs) (sym k)) in (
          subst (λ (ys : List A). AreSo (n + 1) ys) same size,
          ate_as bytes (Spells s r.first) (λ xs. flat_map s now ≡ flat_map s before ++ xs) at next spelled ate,
        )

    -- how many, and each of them
    abbrev pub counted_bytes : List A → List ℕ
    counted_bytes all = four_bytes (length all) ++ flat_map s all

    pub eats_counted : Eats bytes (λ at. after (four bytes at) (λ n. many item n)) (Spells counted_bytes)
    eats_counted = eats_then bytes (four bytes) (λ n. many item n) four_bytes (Spells counted_bytes) eats_four (λ n at next all e.
        let m = eats_turns bytes (one_more item) (flat_map s) AreSo one_eaten n 0 [] all at next refl e in
        let size : n ≡ length all = let k = m.0 in omega (arith, k) in
        ate_as bytes (λ ys. flat_map s all ≡ ys) (λ ys. four_bytes n ++ ys ≡ counted_bytes all) at next
        (λ ys k. ap (λ (j : ℕ). four_bytes j ++ ys) size ∙ ap (λ (zs : List ℕ). four_bytes (length all) ++ zs) (sym k)) m.1)

  pub eats_numbers : Eats bytes (numbers bytes) (Spells (λ ns. four_bytes (length ns) ++ flat_map four_bytes ns))
  unfolding numbers
  eats_numbers = eats_counted (four bytes) four_bytes eats_four

  pub eats_names : Eats bytes (names bytes) (Spells names_bytes)
  unfolding names
  eats_names = eats_counted (name bytes) name_bytes eats_name
