-- A part is read off its text.
use Rattle.std.proofs.Common.{◌≡◌, ℕ, ◌+◌, ◌<◌, ◌≤◌, ◌^◌, ◌==◌, true, false, cond, List, [], ◌∷◌, ◌++◌, length, Option, Some, Result, Ok, Err, refl, sym, ap, ◌∙◌, subst, arith}
use Rattle.std.specs.List.{flat_map, AllByRecursion}
use Rattle.std.proofs.lemmas.Bool.{ne_eqb}
use Rattle.std.proofs.lemmas.List.{append_assoc, length-append}
use Rattle.py_names.specs.Names.{is_variable}
use Rattle.py_value.specs.declared.value.Value.{Value}
use Rattle.py_heap.specs.declared.heap.Object.{Object}
use Rattle.py_heap.specs.References.{value_refs}
use Rattle.py_heap.specs.Reaching.{held_refs}
use Rattle.part_bytes.specs.declared.part.PartValue.{PartValue}
use Rattle.part_bytes.specs.Texts.{four as four_bytes, name_bytes, spelled_held, spelled_object, spelled_part, bytes_of}
use Rattle.part_bytes.specs.Uses.{held_texts, object_texts, texts_of}
use Rattle.checkpoint_reader.specs.declared.forms.Texts.{Texts}
use Rattle.checkpoint_reader.specs.declared.forms.Texts.TheVariants.{InPlace}
use Rattle.checkpoint_reader.specs.declared.part_fault.PartFault.{PartFault}
use Rattle.checkpoint_reader.specs.declared.part_fault.PartFault.TheVariants.{BadName}
use Rattle.checkpoint_reader.specs.PartReads.{Answer, Read, pure, fail, after, more}
use Rattle.checkpoint_reader.specs.PartReading.{taken, byte, four, follows, name_of, name, names, held, values, objects, part, part_read, with_size, part_read2, with_known, start}
use Rattle.checkpoint_laws.proofs.Counts.{spell_of, numbers_of, numbers_join, counted_parts, counted_grows, AreThere, there_before, Counts, Goes, Room, goes_none, goes_same}
use Rattle.checkpoint_laws.proofs.Listed.{IsTable}
use Rattle.checkpoint_laws.specs.SpelledParts.{counted, IsHeld, AreNames, HasPartText}
use Rattle.checkpoint_laws.proofs.Offs.{spot, answer, Stands, stands_first, stands_next, Off, off_then, off_end, off_byte, off_taken, off_four, off_more, AllGood}
use Rattle.checkpoint_laws.proofs.Values.{off_held, good_held}
use Rattle.checkpoint_laws.proofs.Objects.{all_objects}

abbrev pub GoodName : List (List ℕ) → List ℕ → Type 0
GoodName before name = (is_variable name ≡ true) × (follows before name ≡ true)

abbrev pub no_refs : List ℕ → List ℕ
no_refs name = []

abbrev pub no_texts : List ℕ → List (List ℕ)
no_texts name = []

good_names : (before ns : List (List ℕ)) → AreNames before ns → AllGood GoodName before ns
good_names before [] h = tt
good_names before (n ∷ ns) h = ((h.0, h.1), good_names (before ++ n ∷ []) ns h.2)

pub none_refs : (ns : List (List ℕ)) → flat_map no_refs ns ≡ []
none_refs [] = refl
none_refs (n ∷ ns) = none_refs ns

pub none_texts : (ns : List (List ℕ)) → flat_map no_texts ns ≡ []
none_texts [] = refl
none_texts (n ∷ ns) = none_texts ns

none_counted : (texts : Texts) (ns : List (List ℕ)) (met : Counts) → Goes texts met (flat_map no_refs ns) (flat_map no_texts ns) met
none_counted texts ns met =
    subst (λ (xs : List ℕ). Goes texts met xs (flat_map no_texts ns) met) (sym (none_refs ns))
    (subst (λ (ts : List (List ℕ)). Goes texts met [] ts met) (sym (none_texts ns)) (goes_none texts met met refl))

module _ (texts : Texts) (ok : IsTable texts) (bytes : List ℕ) where
  off_name : (before : List (List ℕ)) (x : List ℕ) (met : Counts) (most : ℕ) → GoodName before x → Off bytes (name bytes before) (name_bytes x) x met met most
  unfolding name
  off_name before x met most h = λ at s.
      off_then bytes (byte bytes) (λ n r. after (taken bytes n r) (λ xs. name_of at before xs)) (length x ∷ []) x (length x) x met met met most (off_byte bytes (length x) met most)
      (off_end bytes (taken bytes (length x)) (λ xs. name_of at before xs) x x x met met met most (off_taken bytes (length x) x met most refl) (λ k. rw (h.0, h.1) refl)) at s

  off_one_name : (most : ℕ) (before : List (List ℕ)) (x : List ℕ) (met next : Counts) → GoodName before x → Goes texts met (no_refs x) (no_texts x) next → Room texts most next
      → Off bytes (name bytes before) (name_bytes x) x met next most
  off_one_name most before x met next h e l = subst (λ (n : Counts). Off bytes (name bytes before) (name_bytes x) x met n most) (goes_same texts met next e) (off_name before x met most h)

  abbrev if_some : ℕ → ℕ → Read (List (List ℕ))
  if_some p n = cond (n == 0) (fail (BadName p)) (more (name bytes) n [])

  off_names : (ns : List (List ℕ)) (met : Counts) (most : ℕ) → 0 < length ns → length ns < 2 ^ 32 → Room texts most met → AreNames [] ns
      → Off bytes (names bytes) (four_bytes (length ns) ++ flat_map name_bytes ns) ns met met most
  unfolding names
  off_names ns met most some few l h = λ at s.
      let one : (length ns == 0) ≡ false = ne_eqb (length ns) 0 (λ e. omega (arith, e, some)) in
      off_then bytes (four bytes) (λ n. if_some at n) (four_bytes (length ns)) (flat_map name_bytes ns) (length ns) ns met met met most (off_four bytes (length ns) met most few)
      (λ k r. rw one (off_more bytes texts (name bytes) name_bytes no_refs no_texts GoodName most (off_one_name most) ns [] met met (good_names [] ns h) (none_counted texts ns met) l k r)) at s

  off_values : (n : ℕ) (vs : List (Option Value)) (met next : Counts) (most : ℕ) → length vs ≡ n → AllByRecursion (IsHeld (n == 1)) vs
      → Goes texts met (flat_map (held_refs value_refs) vs) (flat_map held_texts vs) next → Room texts most next
      → Off bytes (values texts bytes n) (flat_map (spelled_held (spell_of texts)) vs) vs met next most
  unfolding values
  off_values n vs met next most size h e l = λ at s.
      ap (λ (k : ℕ). more (λ before. held texts bytes (n == 1)) k [] (spot at met most)) (sym size)
      ∙ off_more bytes texts (λ before. held texts bytes (n == 1)) (spelled_held (spell_of texts)) (held_refs value_refs) held_texts (λ before o. IsHeld (n == 1) o) most
      (λ before o m k good f b. off_held texts ok bytes (n == 1) o m k most good f b) vs [] met next (good_held (n == 1) [] vs h) e l at s

  pub record PartOff (p : PartValue) (known last : ℕ) : Type 0 where
    pub next : ℕ
    pub off : part texts bytes (start known) ≡ answer p (spot (length (spelled_part (spell_of texts) p)) (record { met = next; known = last }) (length p.objects))

  pub off_part : (p : PartValue) (known last : ℕ) → HasPartText p → counted known (numbers_of texts (texts_of p)) ≡ Some last → AreThere texts last
      → Stands bytes 0 (spelled_part (spell_of texts) p) → PartOff p known last
  unfolding part
  off_part p known last h f room s =
      let by = counted_parts (numbers_of texts (flat_map held_texts p.values)) (numbers_of texts (flat_map object_texts p.objects)) known last
      (sym (ap (λ (ns : List ℕ). counted known ns) (numbers_join texts (flat_map held_texts p.values) (flat_map object_texts p.objects))) ∙ f) in
      let there : AreThere texts by.mid = there_before texts by.mid last (counted_grows (numbers_of texts (flat_map object_texts p.objects)) by.mid last by.rest) room in
      let before : AreThere texts known = there_before texts known by.mid (counted_grows (numbers_of texts (flat_map held_texts p.values)) known by.mid by.first) there in
      let n : ℕ = length p.names in
      let xs : List ℕ = four_bytes n ++ flat_map name_bytes p.names in
      let ys : List ℕ = flat_map (spelled_held (spell_of texts)) p.values in
      let zs : List ℕ = four_bytes (length p.objects) ++ flat_map (spelled_object (spell_of texts)) p.objects in
      let most : ℕ = 2 ^ 32 in
      let none : Counts = record { met = 0; known = known } in
      let mid : Counts = record { met = h.met; known = by.mid } in
      let fewer : h.met ≤ most = let a = h.within in let b = h.few_objects in omega (arith, a, b) in
      let spelled : spelled_part (spell_of texts) p ≡ (xs ++ ys) ++ zs = append_assoc (xs ++ ys) (four_bytes (length p.objects)) (flat_map (spelled_object (spell_of texts)) p.objects) in
      let stands : Stands bytes 0 ((xs ++ ys) ++ zs) = subst (λ (ws : List ℕ). Stands bytes 0 ws) spelled s in
      let front : Stands bytes 0 (xs ++ ys) = stands_first bytes 0 (xs ++ ys) zs stands in
      let first : names bytes (start known) ≡ answer p.names (spot (0 + length xs) none most) =
      off_names p.names none most h.some h.few (record { met = omega arith; known = before }) h.names 0 (stands_first bytes 0 xs ys front) in
      let second : values texts bytes n (spot (0 + length xs) none most) ≡ answer p.values (spot (0 + length xs + length ys) mid most) =
      off_values n p.values none mid most h.as_many h.values (record { refs = h.refs; known = by.first }) (record { met = fewer; known = there }) (0 + length xs) (stands_next bytes 0 xs ys front) in
      let place : 0 + length xs + length ys ≡ 0 + length (xs ++ ys) = let size = length-append xs ys in omega (arith, size) in
      let beyond : Stands bytes (0 + length xs + length ys) zs = subst (λ (k : ℕ). Stands bytes k zs) (sym place) (stands_next bytes 0 (xs ++ ys) zs stands) in
      let third = all_objects texts ok bytes p.objects mid last most (0 + length xs + length ys) h.few_objects h.within h.objects by.rest room beyond in
      let over : Counts = record { met = third.next; known = last } in
      let end : 0 + length xs + length ys + length zs ≡ length (spelled_part (spell_of texts) p) =
      let one = length-append (xs ++ ys) zs in let two = length-append xs ys in
      let all : length (spelled_part (spell_of texts) p) ≡ length ((xs ++ ys) ++ zs) = ap (λ (ws : List ℕ). length ws) spelled in omega (arith, one, two, all) in
      let last_ : List (List ℕ) → List (Option Value) → Read PartValue = λ ns vs t. after (objects texts bytes t) (λ os. let whole : PartValue = record { names = ns; values = vs; objects = os } in pure whole) in
      let middle : List (List ℕ) → Read PartValue = λ ns t. after (values texts bytes (length ns) t) (λ vs. last_ ns vs) in
      record {
        next = third.next;
        off = ap (λ (r : Answer (List (List ℕ))). after r middle) first
            ∙ (ap (λ (r : Answer (List (Option Value))). after r (λ vs. last_ p.names vs)) second
            ∙ (ap (λ (r : Answer (List Object)). after r (λ os. let whole : PartValue = record { names = p.names; values = p.values; objects = os } in pure whole)) third.off
            ∙ ap (λ (k : ℕ). answer p (spot k over (length p.objects))) end));
      }

  -- a part is read back, wherever it is in a checkpoint
  pub read_back_by : (p : PartValue) (known last : ℕ) → HasPartText p → counted known (numbers_of texts (texts_of p)) ≡ Some last → AreThere texts last
      → Stands bytes 0 (spelled_part (spell_of texts) p) → part_read2 texts known bytes ≡ Ok (p, length (spelled_part (spell_of texts) p), last)
  unfolding part_read2
  read_back_by p known last h f room s = ap with_known (off_part p known last h f room s).off

pub read_back : (p : PartValue) (rest : List ℕ) → HasPartText p → part_read (bytes_of p ++ rest) ≡ Ok (p, length (bytes_of p))
unfolding part_read
read_back p rest h =
    let stands : Stands (bytes_of p ++ rest) 0 (bytes_of p) = record { front = []; rest = rest; is = refl; where_ = refl } in
    ap with_size (off_part InPlace tt (bytes_of p ++ rest) p 0 0 h refl tt stands).off

part_in : PartValue → Result (PartValue × ℕ) PartFault → PartValue
part_in other (Ok read) = read.0
part_in other (Err fault) = other

pub one_text : (p q : PartValue) (rest more : List ℕ) → HasPartText p → HasPartText q → bytes_of p ++ rest ≡ bytes_of q ++ more → p ≡ q
unfolding part_in
one_text p q rest more h k e = ap (part_in p) (sym (read_back p rest h) ∙ (ap part_read e ∙ read_back q more k))
