-- Keys, values and pairs are read off their bytes.
use Rattle.std.proofs.Common.{◌≡◌, ℕ, ◌+◌, ◌≤◌, ◌==◌, ◌&&◌, true, false, cond, List, [], ◌∷◌, ◌++◌, length, Option, Some, None, refl, sym, ap, ◌∙◌, subst, inl, inr, arith}
use Rattle.std.specs.Prelude.{nat_lt, Bool}
use Rattle.std.specs.List.{AllByRecursion}
use Rattle.std.proofs.lemmas.Bool.{cases_Bool, eqb-true}
use Rattle.py_value.specs.declared.key.Key.{Key}
use Rattle.py_value.specs.declared.key.Key.TheVariants as the_key
use Rattle.py_value.specs.declared.value.Builtin.{Builtin}
use Rattle.py_value.specs.declared.value.Builtin.TheVariants as the_builtin
use Rattle.py_value.specs.declared.value.Value.{Value}
use Rattle.py_value.specs.declared.value.Value.TheVariants as the_value
use Rattle.py_value.specs.Keys.{value_of}
use Rattle.py_value.specs.Values.{builtin_number}
use Rattle.py_heap.specs.Dicts.{Pairs, value_under}
use Rattle.py_heap.specs.References.{value_refs, pair_refs}
use Rattle.py_heap.specs.Reaching.{held_refs}
use Rattle.part_bytes.specs.Texts.{four as four_bytes, sixteen as sixteen_bytes, spelled_value, spelled_held, spelled_pair}
use Rattle.part_bytes.specs.Uses.{value_texts, held_texts, pair_texts}
use Rattle.checkpoint_reader.specs.declared.forms.Texts.{Texts}
use Rattle.checkpoint_reader.specs.PartReads.{Answer, Read, pure, after}
use Rattle.checkpoint_reader.specs.PartReading.{byte, four, sixteen, text, referred_to, builtin_of, builtin_at, key_by, reference, builtin, value_by, value, held, pair, pair_with}
use Rattle.checkpoint_laws.specs.SpelledParts.{counted, IsValue, IsHeld, ArePairs}
use Rattle.checkpoint_laws.proofs.Counts.{spell_of, no_numbers, some_same, same_counts, Counts, Goes, Room, goes_same, goes_parts, room_before}
use Rattle.checkpoint_laws.proofs.Listed.{IsTable}
use Rattle.checkpoint_laws.proofs.Offs.{spot, answer, Stands, stands_first, Off, off_then, off_end, off_map, off_grouped, off_byte, off_four, off_sixteen, off_text, below, AllGood}

builtin_back : (f : Builtin) → builtin_of (builtin_number f) ≡ Some f
builtin_back the_builtin.Print = refl
builtin_back the_builtin.Len = refl
builtin_back the_builtin.Str = refl
builtin_back the_builtin.Repr = refl
builtin_back the_builtin.Int = refl
builtin_back the_builtin.Range = refl
builtin_back the_builtin.Draw = refl
builtin_back the_builtin.Handle = refl
builtin_back the_builtin.Tell = refl

-- a value's bytes begin with its tag, which isn't that of no value
record Tagged (spell : List ℕ → List ℕ) (v : Value) : Type 0 where
  pub tag : ℕ
  pub body : List ℕ
  pub is : spelled_value spell v ≡ tag ∷ body
  pub other : (tag == 7) ≡ false

tagged : (spell : List ℕ → List ℕ) (v : Value) → Tagged spell v
tagged spell the_value.Nothing = record { tag = 0; body = []; is = refl; other = refl }
tagged spell (the_value.Bool false) = record { tag = 1; body = []; is = refl; other = refl }
tagged spell (the_value.Bool true) = record { tag = 2; body = []; is = refl; other = refl }
tagged spell (the_value.Number n) = record { tag = 3; body = sixteen_bytes n; is = refl; other = refl }
tagged spell (the_value.Text t) = record { tag = 4; body = spell t; is = refl; other = refl }
tagged spell (the_value.Ref n) = record { tag = 5; body = four_bytes n; is = refl; other = refl }
tagged spell (the_value.Builtin f) = record { tag = 6; body = builtin_number f ∷ []; is = refl; other = refl }

abbrev pub GoodPair : Pairs → Key × Value → Type 0
GoodPair before p = IsValue (value_of p.0) × (value_under before p.0 ≡ None) × IsValue p.1

module _ (texts : Texts) (ok : IsTable texts) (bytes : List ℕ) where
  -- ---- by the tag

  abbrev KeyBy : ℕ → Read Key
  KeyBy p s = after (byte bytes s) (λ tag. key_by texts bytes p tag)

  -- a key without a text
  off_plain_key : (p tag : ℕ) (k : Key) (met next : Counts) (most : ℕ) → met ≡ next → ((s : Counts) (at : ℕ) → key_by texts bytes p tag (spot at s most) ≡ answer k (spot at s most))
      → Off bytes (KeyBy p) (tag ∷ []) k met next most
  off_plain_key p tag k met next most same h = off_end bytes (byte bytes) (λ b. key_by texts bytes p b) (tag ∷ []) tag k met met next most (off_byte bytes tag met most)
      (λ at. h met at ∙ ap (λ (c : Counts). answer k (spot at c most)) same)

  pub off_key_by : (p : ℕ) (k : Key) (met next : Counts) (most : ℕ) → IsValue (value_of k) → Goes texts met [] (value_texts (value_of k)) next → Room texts most next
      → Off bytes (KeyBy p) (spelled_value (spell_of texts) (value_of k)) k met next most
  unfolding key_by
  off_key_by p the_key.Nothing met next most h e l = off_plain_key p 0 the_key.Nothing met next most (goes_same texts met next e) (λ s at. refl)
  off_key_by p (the_key.Bool false) met next most h e l = off_plain_key p 1 (the_key.Bool false) met next most (goes_same texts met next e) (λ s at. refl)
  off_key_by p (the_key.Bool true) met next most h e l = off_plain_key p 2 (the_key.Bool true) met next most (goes_same texts met next e) (λ s at. refl)
  off_key_by p (the_key.Number n) met next most h e l = off_then bytes (byte bytes) (λ tag. key_by texts bytes p tag) (3 ∷ []) (sixteen_bytes n) 3 (the_key.Number n) met met next most (off_byte bytes 3 met most)
      (off_end bytes (sixteen bytes) (λ m. pure (the_key.Number m)) (sixteen_bytes n) n (the_key.Number n) met met next most (off_sixteen bytes n met most h)
      (λ at. ap (λ (c : Counts). answer (the_key.Number n) (spot at c most)) (goes_same texts met next e)))
  off_key_by p (the_key.Text t) met next most h e l = off_then bytes (byte bytes) (λ tag. key_by texts bytes p tag) (4 ∷ []) (spell_of texts t) 4 (the_key.Text t) met met next most (off_byte bytes 4 met most)
      (off_map bytes (text texts bytes) the_key.Text (spell_of texts t) t met next most (off_text bytes texts t met next most ok h e l))

  referred : (p n : ℕ) (met next : Counts) (most at : ℕ) → Goes texts met (n ∷ []) [] next → next.met ≤ most → referred_to p n (spot at met most) ≡ answer (the_value.Ref n) (spot at next most)
  referred p n met next most at g l =
      let e = g.refs in
      let known : met.known ≡ next.known = some_same met.known next.known (sym (ap (λ (ns : List ℕ). counted met.known ns) (no_numbers texts)) ∙ g.known) in
      elim (cases_Bool (nat_lt n met.met)) [
        | inl t ↦ let same = some_same met.met next.met (rw t at e) in rw t (ap (λ (c : Counts). answer (the_value.Ref n) (spot at c most)) (same_counts met next same known))
        | inr f ↦ elim (cases_Bool (n == met.met)) [
          | inl t ↦
              let same = some_same (met.met + 1) next.met (rw (f, t) at e) in
              let equal = eqb-true n met.met t in
              let room = below n most (omega (arith, same, equal, l)) in
              let new : n + 1 ≡ next.met = omega (arith, same, equal) in
              let u : Counts = record { met = n + 1; known = met.known } in
              rw (f, t, room) (ap (λ (c : Counts). answer (the_value.Ref n) (spot at c most)) (same_counts u next new known))
          | inr g ↦ absurd (let none : None ≡ Some next.met = rw (f, g) at e in cc)
        ]
      ]

  abbrev By : ℕ → Read Value
  By p s = after (byte bytes s) (λ tag. value_by texts bytes p tag)

  off_value_by : (p : ℕ) (v : Value) (met next : Counts) (most : ℕ) → IsValue v → Goes texts met (value_refs v) (value_texts v) next → Room texts most next
      → Off bytes (By p) (spelled_value (spell_of texts) v) v met next most
  unfolding value_by key_by reference builtin
  off_value_by p the_value.Nothing met next most h e l = off_end bytes (byte bytes) (λ tag. value_by texts bytes p tag) (0 ∷ []) 0 the_value.Nothing met met next most (off_byte bytes 0 met most)
      (λ at. ap (λ (c : Counts). answer the_value.Nothing (spot at c most)) (goes_same texts met next e))
  off_value_by p (the_value.Bool false) met next most h e l = off_end bytes (byte bytes) (λ tag. value_by texts bytes p tag) (1 ∷ []) 1 (the_value.Bool false) met met next most (off_byte bytes 1 met most)
      (λ at. ap (λ (c : Counts). answer (the_value.Bool false) (spot at c most)) (goes_same texts met next e))
  off_value_by p (the_value.Bool true) met next most h e l = off_end bytes (byte bytes) (λ tag. value_by texts bytes p tag) (2 ∷ []) 2 (the_value.Bool true) met met next most (off_byte bytes 2 met most)
      (λ at. ap (λ (c : Counts). answer (the_value.Bool true) (spot at c most)) (goes_same texts met next e))
  off_value_by p (the_value.Number n) met next most h e l = off_then bytes (byte bytes) (λ tag. value_by texts bytes p tag) (3 ∷ []) (sixteen_bytes n) 3 (the_value.Number n) met met next most (off_byte bytes 3 met most)
      (off_end bytes (λ s. after (sixteen bytes s) (λ m. pure (the_key.Number m))) (λ k. pure (value_of k)) (sixteen_bytes n) (the_key.Number n) (the_value.Number n) met met next most
      (off_map bytes (sixteen bytes) the_key.Number (sixteen_bytes n) n met met most (off_sixteen bytes n met most h))
      (λ at. ap (λ (c : Counts). answer (the_value.Number n) (spot at c most)) (goes_same texts met next e)))
  off_value_by p (the_value.Text t) met next most h e l = off_then bytes (byte bytes) (λ tag. value_by texts bytes p tag) (4 ∷ []) (spell_of texts t) 4 (the_value.Text t) met met next most (off_byte bytes 4 met most)
      (off_end bytes (λ s. after (text texts bytes s) (λ u. pure (the_key.Text u))) (λ k. pure (value_of k)) (spell_of texts t) (the_key.Text t) (the_value.Text t) met next next most
      (off_map bytes (text texts bytes) the_key.Text (spell_of texts t) t met next most (off_text bytes texts t met next most ok h e l))
      (λ at. refl))
  off_value_by p (the_value.Ref n) met next most h e l = off_then bytes (byte bytes) (λ tag. value_by texts bytes p tag) (5 ∷ []) (four_bytes n) 5 (the_value.Ref n) met met next most (off_byte bytes 5 met most)
      (off_end bytes (four bytes) (λ m. referred_to p m) (four_bytes n) n (the_value.Ref n) met met next most (off_four bytes n met most h) (λ at. referred p n met next most at e l.met))
  off_value_by p (the_value.Builtin f) met next most h e l = off_then bytes (byte bytes) (λ tag. value_by texts bytes p tag) (6 ∷ []) (builtin_number f ∷ []) 6 (the_value.Builtin f) met met next most (off_byte bytes 6 met most)
      (λ at s. off_end bytes (byte bytes) (λ b. builtin_at at (builtin_of b)) (builtin_number f ∷ []) (builtin_number f) (the_value.Builtin f) met met next most (off_byte bytes (builtin_number f) met most)
      (λ k. rw (builtin_back f) (ap (λ (c : Counts). answer (the_value.Builtin f) (spot k c most)) (goes_same texts met next e))) at s)

  pub off_value : (v : Value) (met next : Counts) (most : ℕ) → IsValue v → Goes texts met (value_refs v) (value_texts v) next → Room texts most next
      → Off bytes (value texts bytes) (spelled_value (spell_of texts) v) v met next most
  unfolding value
  off_value v met next most h e l = λ at s. off_value_by at v met next most h e l at s

  -- ---- what a name has

  abbrev if_none : Bool → ℕ → ℕ → Read (Option Value)
  if_none alone p tag = cond ((tag == 7) && alone) (pure None) (λ s. after (value_by texts bytes p tag s) (λ v. pure (Some v)))

  pub off_held : (alone : Bool) (o : Option Value) (met next : Counts) (most : ℕ) → IsHeld alone o → Goes texts met (held_refs value_refs o) (held_texts o) next → Room texts most next
      → Off bytes (held texts bytes alone) (spelled_held (spell_of texts) o) o met next most
  unfolding held
  off_held alone None met next most h e l = λ at s.
      off_end bytes (byte bytes) (λ tag. if_none alone at tag) (7 ∷ []) 7 None met met next most (off_byte bytes 7 met most)
      (λ k. rw h (ap (λ (c : Counts). let none : Option Value = None in answer none (spot k c most)) (goes_same texts met next e))) at s
  off_held alone (Some v) met next most h e l = λ at s.
      let t = tagged (spell_of texts) v in
      let stands : Stands bytes at ((t.tag ∷ []) ++ t.body) = subst (λ (xs : List ℕ). Stands bytes at xs) t.is s in
      let first : byte bytes (spot at met most) ≡ answer t.tag (spot (at + 1) met most) = off_byte bytes t.tag met most at (stands_first bytes at (t.tag ∷ []) t.body stands) in
      let end : Answer Value = answer v (spot (at + length (spelled_value (spell_of texts) v)) next most) in
      let whole : after (byte bytes (spot at met most)) (λ tag. value_by texts bytes at tag) ≡ end = off_value_by at v met next most h e l at s in
      let by_tag : value_by texts bytes at t.tag (spot (at + 1) met most) ≡ end = sym (ap (λ (r : Answer ℕ). after r (λ tag. value_by texts bytes at tag)) first) ∙ whole in
      ap (λ (r : Answer ℕ). after r (λ tag. if_none alone at tag)) first
      ∙ rw t.other (ap (λ (r : Answer Value). after r (λ w. let some : Read (Option Value) = pure (Some w) in some)) by_tag)

  -- ---- pairs

  pub off_pair : (before : Pairs) (p : Key × Value) (met next : Counts) (most : ℕ) → GoodPair before p → Goes texts met (pair_refs p) (pair_texts p) next → Room texts most next
      → Off bytes (pair texts bytes before) (spelled_pair (spell_of texts) p) p met next most
  unfolding pair
  off_pair before p met next most h e l = λ at s.
      let by = goes_parts texts [] (value_refs p.1) (value_texts (value_of p.0)) (value_texts p.1) met next e in
      let key : List ℕ = spelled_value (spell_of texts) (value_of p.0) in
      let held_ : List ℕ = spelled_value (spell_of texts) p.1 in
      off_grouped bytes (byte bytes) (λ tag. key_by texts bytes at tag) (λ k. pair_with texts bytes at before k) (key ++ held_) p met next most
      (off_then bytes (λ t. after (byte bytes t) (λ tag. key_by texts bytes at tag)) (λ k. pair_with texts bytes at before k) key held_ p.0 p met by.mid next most
      (off_key_by at p.0 met by.mid most h.0 by.first (room_before texts (value_refs p.1) (value_texts p.1) by.mid next most by.rest l))
      (λ k r. rw h.1 (off_map bytes (value texts bytes) (λ v. let q : Key × Value = (p.0, v) in q) held_ p.1 by.mid next most (off_value p.1 by.mid next most h.2 by.rest l) k r))) at s

pub good_pairs : (before pairs : Pairs) → ArePairs before pairs → AllGood GoodPair before pairs
good_pairs before [] h = tt
good_pairs before (p ∷ pairs) h = ((h.0, h.1, h.2), good_pairs (before ++ p ∷ []) pairs h.3)

pub good_items : (before items : List Value) → AllByRecursion IsValue items → AllGood (λ before v. IsValue v) before items
good_items before [] h = tt
good_items before (v ∷ items) h = (h.0, good_items (before ++ v ∷ []) items h.1)

pub good_held : (alone : Bool) (before held : List (Option Value)) → AllByRecursion (IsHeld alone) held → AllGood (λ before o. IsHeld alone o) before held
good_held alone before [] h = tt
good_held alone before (o ∷ held) h = (h.0, good_held alone (before ++ o ∷ []) held h.1)
