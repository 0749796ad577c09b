-- Objects are read off their bytes.
use Rattle.std.proofs.Common.{◌≡◌, ℕ, ◌+◌, ◌<◌, ◌≤◌, ◌^◌, List, [], ◌∷◌, ◌++◌, length, Some, Result, refl, sym, ap, ◌∙◌, arith, add-zero}
use Rattle.std.specs.List.{flat_map, AllByRecursion}
use Rattle.std.proofs.lemmas.List.{append-nil, append_assoc, length-append}
use Rattle.py_tree.specs.declared.statements.Def.{Def}
use Rattle.py_reader.specs.declared.fault.SyntaxFault.{SyntaxFault}
use Rattle.py_reader.specs.DefinitionVerdict.{verdict_alone}
use Rattle.py_value.specs.declared.key.Key.{Key}
use Rattle.py_value.specs.declared.value.Value.{Value}
use Rattle.py_heap.specs.declared.heap.Object.{Object}
use Rattle.py_heap.specs.declared.heap.Object.TheVariants as the_object
use Rattle.py_heap.specs.declared.heap.SequenceKind.{SequenceKind}
use Rattle.py_heap.specs.declared.heap.SequenceKind.TheVariants as sequences
use Rattle.py_heap.specs.Sequences.{sequence}
use Rattle.py_heap.specs.References.{value_refs, pair_refs, object_refs}
use Rattle.part_bytes.specs.Texts.{four as four_bytes, spelled_value, spelled_pair, spelled_object}
use Rattle.part_bytes.specs.Uses.{value_texts, pair_texts, object_texts}
use Rattle.checkpoint_reader.specs.declared.forms.Texts.{Texts}
use Rattle.checkpoint_reader.specs.PartReads.{Answer, Read, pure, after, more}
use Rattle.checkpoint_reader.specs.PartReading.{byte, four, text, function_of, value, pair, list_or_tuple, dict, function, content, object_by, object, bounded, objects}
use Rattle.checkpoint_laws.specs.SpelledParts.{counted, IsValue, IsObject, AreObjects}
use Rattle.checkpoint_laws.proofs.Counts.{spell_of, numbers_of, no_numbers, numbers_join, some_same, counted_grows, counted_parts, AreThere, there_before, Counts, Goes, Room}
use Rattle.checkpoint_laws.proofs.Listed.{IsTable}
use Rattle.checkpoint_laws.proofs.Offs.{spot, answer, Stands, stands_first, stands_next, Off, off_then, off_end, off_map, off_byte, off_four, off_text, off_more, below, not_below}
use Rattle.checkpoint_laws.proofs.Values.{off_value, off_pair, GoodPair, good_items, good_pairs}

module _ (texts : Texts) (ok : IsTable texts) (bytes : List ℕ) where
  -- the texts that come after these objects are referred to in their order
  off_sequence : (kind : SequenceKind) (items : List Value) (met next : Counts) (most : ℕ) → (length items < 2 ^ 32) × AllByRecursion IsValue items
      → Goes texts met (flat_map value_refs items) (flat_map value_texts items) next → Room texts most next
      → Off bytes (list_or_tuple texts bytes kind) (four_bytes (length items) ++ flat_map (spelled_value (spell_of texts)) items) (sequence kind items) met next most
  unfolding list_or_tuple
  off_sequence kind items met next most h e l = off_then bytes (four bytes) (λ n s. after (more (λ before. value texts bytes) n [] s) (λ items. pure (sequence kind items)))
      (four_bytes (length items)) (flat_map (spelled_value (spell_of texts)) items) (length items) (sequence kind items) met met next most (off_four bytes (length items) met most h.0)
      (off_map bytes (more (λ before. value texts bytes) (length items) []) (sequence kind) (flat_map (spelled_value (spell_of texts)) items) items met next most
      (off_more bytes texts (λ before. value texts bytes) (spelled_value (spell_of texts)) value_refs value_texts (λ before v. IsValue v) most (λ before v m n good f k. off_value texts ok bytes v m n most good f k)
      items [] met next (good_items [] items h.1) e l))

  off_dict : (pairs : List (Key × Value)) (met next : Counts) (most : ℕ) → IsObject (the_object.Dict pairs) → Goes texts met (flat_map pair_refs pairs) (flat_map pair_texts pairs) next → Room texts most next
      → Off bytes (dict texts bytes) (four_bytes (length pairs) ++ flat_map (spelled_pair (spell_of texts)) pairs) (the_object.Dict pairs) met next most
  unfolding dict
  off_dict pairs met next most h e l = off_then bytes (four bytes) (λ n s. after (more (pair texts bytes) n [] s) (λ pairs. pure (the_object.Dict pairs)))
      (four_bytes (length pairs)) (flat_map (spelled_pair (spell_of texts)) pairs) (length pairs) (the_object.Dict pairs) met met next most (off_four bytes (length pairs) met most h.0)
      (off_map bytes (more (pair texts bytes) (length pairs) []) the_object.Dict (flat_map (spelled_pair (spell_of texts)) pairs) pairs met next most
      (off_more bytes texts (pair texts bytes) (spelled_pair (spell_of texts)) pair_refs pair_texts GoodPair most (λ before p m n good f k. off_pair texts ok bytes before p m n most good f k)
      pairs [] met next (good_pairs [] pairs h.1) e l))

  off_function : (def : Def) (met next : Counts) (most : ℕ) → IsObject (the_object.Function def) → Goes texts met [] (def.source ∷ []) next → Room texts most next
      → Off bytes (function texts bytes) (spell_of texts def.source) (the_object.Function def) met next most
  unfolding function
  off_function def met next most h e l = λ at s.
      off_end bytes (text texts bytes) (λ source. function_of at (verdict_alone source)) (spell_of texts def.source) def.source (the_object.Function def) met next next most
      (off_text bytes texts def.source met next most ok h.0 e l)
      (λ k. ap (λ (r : Result Def SyntaxFault). function_of at r (spot k next most)) h.1) at s

  abbrev Tagged : ℕ → ℕ → Read Object
  Tagged n p s = after (byte bytes s) (λ tag. object_by texts bytes n p tag)

  off_object_by : (n p : ℕ) (o : Object) (met next : Counts) (most : ℕ) → n < met.met → IsObject o → Goes texts met (object_refs o) (object_texts o) next → Room texts most next
      → Off bytes (Tagged n p) (spelled_object (spell_of texts) o) o met next most
  unfolding object_by content
  off_object_by n p (the_object.List items) met next most b h e l =
      off_then bytes (byte bytes) (λ tag. object_by texts bytes n p tag) (16 ∷ []) (four_bytes (length items) ++ flat_map (spelled_value (spell_of texts)) items) 16 (the_object.List items) met met next most (off_byte bytes 16 met most)
      (λ at s. rw (below n met.met b) (off_sequence sequences.List items met next most h e l at s))
  off_object_by n p (the_object.Tuple items) met next most b h e l =
      off_then bytes (byte bytes) (λ tag. object_by texts bytes n p tag) (19 ∷ []) (four_bytes (length items) ++ flat_map (spelled_value (spell_of texts)) items) 19 (the_object.Tuple items) met met next most (off_byte bytes 19 met most)
      (λ at s. rw (below n met.met b) (off_sequence sequences.Tuple items met next most h e l at s))
  off_object_by n p (the_object.Dict pairs) met next most b h e l =
      off_then bytes (byte bytes) (λ tag. object_by texts bytes n p tag) (17 ∷ []) (four_bytes (length pairs) ++ flat_map (spelled_pair (spell_of texts)) pairs) 17 (the_object.Dict pairs) met met next most (off_byte bytes 17 met most)
      (λ at s. rw (below n met.met b) (off_dict pairs met next most h e l at s))
  off_object_by n p (the_object.Function def) met next most b h e l =
      off_then bytes (byte bytes) (λ tag. object_by texts bytes n p tag) (18 ∷ []) (spell_of texts def.source) 18 (the_object.Function def) met met next most (off_byte bytes 18 met most)
      (λ at s. rw (below n met.met b) (off_function def met next most h e l at s))
  off_object_by n p (the_object.Handle name uses) met next most b h e l = absurd h

  off_object : (before : List Object) (o : Object) (met next : Counts) (most : ℕ) → length before < met.met → IsObject o → Goes texts met (object_refs o) (object_texts o) next → Room texts most next
      → Off bytes (object texts bytes before) (spelled_object (spell_of texts) o) o met next most
  unfolding object
  off_object before o met next most b h e l = λ at s. off_object_by (length before) at o met next most b h e l at s

  -- these objects after those before them, each referred to before it: they are read, and no more are referred to than there are; so many texts
  -- are, of those that are there
  record ReadOff (os before : List Object) (met : Counts) (last most : ℕ) : Type 0 where
    pub next : ℕ
    pub off : Off bytes (more (object texts bytes) (length os) before) (flat_map (spelled_object (spell_of texts)) os) (before ++ os) met (record { met = next; known = last }) most

  off_objects : (os before : List Object) (n last most : ℕ) (met : Counts) → n ≡ length before → AreObjects n met.met most os
      → counted met.known (numbers_of texts (flat_map object_texts os)) ≡ Some last → AreThere texts last → ReadOff os before met last most
  off_objects [] before n last most met e h f r =
      let same : met.known ≡ last = some_same met.known last (sym (ap (λ (ns : List ℕ). counted met.known ns) (no_numbers texts)) ∙ f) in
      record {
        next = met.met;
        off = λ at s. ap (λ (k : ℕ). answer before (spot k met most)) (sym (add-zero at)) ∙ (ap (λ (os : List Object). answer os (spot (at + 0) met most)) (sym (append-nil before))
            ∙ ap (λ (k : ℕ). let u : Counts = record { met = met.met; known = k } in answer (before ++ []) (spot (at + 0) u most)) same);
      }
  off_objects (o ∷ os) before n last most met e h f r =
      let by = counted_parts (numbers_of texts (object_texts o)) (numbers_of texts (flat_map object_texts os)) met.known last
      (sym (ap (λ (ns : List ℕ). counted met.known ns) (numbers_join texts (object_texts o) (flat_map object_texts os))) ∙ f) in
      let mid : Counts = record { met = h.2.0; known = by.mid } in
      let goes : Goes texts met (object_refs o) (object_texts o) mid = record { refs = h.2.1; known = by.first } in
      let there : AreThere texts by.mid = there_before texts by.mid last (counted_grows (numbers_of texts (flat_map object_texts os)) by.mid last by.rest) r in
      let size : n + 1 ≡ length (before ++ o ∷ []) = let one = length-append before (o ∷ []) in omega (arith, one, e) in
      let rest = off_objects os (before ++ o ∷ []) (n + 1) last most mid size h.2.3 by.rest r in
      let room : length before < met.met = let b = h.0 in omega (arith, e, b) in
      let end : Counts = record { met = rest.next; known = last } in
      record {
        next = rest.next;
        off = λ at s. off_then bytes (object texts bytes before) (λ a. more (object texts bytes) (length os) (before ++ a ∷ [])) (spelled_object (spell_of texts) o) (flat_map (spelled_object (spell_of texts)) os) o ((before ++ o ∷ []) ++ os)
            met mid end most
            (off_object before o met mid most room h.1 goes (record { met = h.2.2; known = there })) rest.off at s
            ∙ ap (λ (xs : List Object). answer xs (spot (at + length (spelled_object (spell_of texts) o ++ flat_map (spelled_object (spell_of texts)) os)) end most)) (append_assoc before (o ∷ []) os);
      }

  -- the objects after their number, which bounds what may be referred to from then on
  pub record AllOff (os : List Object) (met : Counts) (last most at : ℕ) : Type 0 where
    pub next : ℕ
    pub off : objects texts bytes (spot at met most) ≡ answer os (spot (at + length (four_bytes (length os) ++ flat_map (spelled_object (spell_of texts)) os)) (record { met = next; known = last }) (length os))

  pub all_objects : (os : List Object) (met : Counts) (last most at : ℕ) → length os < 2 ^ 32 → met.met ≤ length os → AreObjects 0 met.met (length os) os
      → counted met.known (numbers_of texts (flat_map object_texts os)) ≡ Some last → AreThere texts last
      → Stands bytes at (four_bytes (length os) ++ flat_map (spelled_object (spell_of texts)) os) → AllOff os met last most at
  unfolding objects
  all_objects os met last most at few l h f r s =
      let n : ℕ = length os in
      let head : List ℕ = four_bytes n in
      let tail : List ℕ = flat_map (spelled_object (spell_of texts)) os in
      let rest = off_objects os [] 0 last n met refl h f r in
      let end_ : Counts = record { met = rest.next; known = last } in
      let step : ℕ → Read (List Object) = λ k t. after (bounded at k t) (λ m. more (object texts bytes) m []) in
      let first : four bytes (spot at met most) ≡ answer n (spot (at + length head) met most) = off_four bytes n met most few at (stands_first bytes at head tail s) in
      let second : more (object texts bytes) n [] (spot (at + length head) met n) ≡ answer os (spot (at + length head + length tail) end_ n) = rest.off (at + length head) (stands_next bytes at head tail s) in
      let opened : step n (spot (at + length head) met most) ≡ answer os (spot (at + length head + length tail) end_ n) = rw (not_below n met.met l) second in
      let end : at + length head + length tail ≡ at + length (head ++ tail) = let size = length-append head tail in omega (arith, size) in
      record {
        next = rest.next;
        off = ap (λ (r : Answer ℕ). after r step) first ∙ (opened ∙ ap (λ (k : ℕ). answer os (spot k end_ n)) end);
      }
