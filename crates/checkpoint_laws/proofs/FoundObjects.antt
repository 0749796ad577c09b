-- Objects that were read, and their bytes.
use Rattle.std.proofs.Common.{◌≡◌, ℕ, zero, suc, ◌+◌, ◌<◌, ◌≤◌, ◌^◌, true, List, [], ◌∷◌, ◌++◌, length, Some, Result, Ok, Err, refl, sym, ap, ◌∙◌, subst, inl, inr, arith}
use Rattle.std.specs.Prelude.{nat_lt, ◌==◌}
use Rattle.std.specs.List.{flat_map, AllByRecursion}
use Rattle.std.proofs.lemmas.Bool.{cases_Bool, eqb-true, ltb-true, ltb-false}
use Rattle.std.proofs.lemmas.List.{append-nil, append_assoc, length-append}
use Rattle.py_tree.specs.declared.statements.Def.{Def}
use Rattle.py_tree.specs.declared.statements.Stmt.{Stmt}
use Rattle.py_tree.specs.declared.statements.Stmt.TheOpen.{Def-F}
use Rattle.py_tree.specs.declared.statements.Stmt.TheViews.{out-roll-Def}
use Rattle.py_tree.specs.declared.statements.Arm.{Arm}
use Rattle.py_grammar.specs.Trees.{tree_params, tree_block}
use Rattle.py_reader.specs.declared.fault.SyntaxFault.{SyntaxFault}
use Rattle.py_reader.specs.DefinitionVerdict.{verdict_alone}
use Rattle.py_reader.specs.Definitions.{DefinitionVerdict}
use Rattle.py_reader.specs.Definitions as functions
use Rattle.py_reader.proofs.MeantAlone.{means}
use Rattle.py_value.specs.declared.key.Key.{Key}
use Rattle.py_value.specs.declared.value.Value.{Value}
use Rattle.py_heap.specs.declared.heap.Object.{Object}
use Rattle.py_heap.specs.declared.heap.Object.TheVariants as the_object
use Rattle.py_heap.specs.declared.heap.SequenceKind.{SequenceKind}
use Rattle.py_heap.specs.declared.heap.SequenceKind.TheVariants as sequences
use Rattle.py_heap.specs.Sequences.{sequence}
use Rattle.py_heap.specs.References.{value_refs, pair_refs, object_refs}
use Rattle.part_bytes.specs.Texts.{four as four_bytes, spelled_value, spelled_pair, spelled_object}
use Rattle.part_bytes.specs.Uses.{value_texts, pair_texts, object_texts}
use Rattle.checkpoint_reader.specs.declared.forms.Texts.{Texts}
use Rattle.checkpoint_reader.specs.declared.part_fault.PartFault.TheVariants.{BadTag, BadRef, BadText}
use Rattle.checkpoint_reader.specs.declared.spot.Spot.{Spot}
use Rattle.checkpoint_reader.specs.PartReads.{pure, after, more}
use Rattle.checkpoint_reader.specs.PartReading.{byte, four, text, function_of, value, pair, list_or_tuple, dict, function, is_object_tag, content, object_by, object, bounded, objects}
use Rattle.part_bytes.specs.Plain.{IsText}
use Rattle.checkpoint_laws.specs.SpelledParts.{counted, IsValue, IsObject, AreObjects}
use Rattle.checkpoint_laws.proofs.Counts.{spell_of, numbers_of, some_same, AreThere, Counts, goes_same}
use Rattle.checkpoint_laws.proofs.Listed.{IsTable}
use Rattle.checkpoint_laws.proofs.Numbers.{IsBytes}
use Rattle.checkpoint_laws.proofs.Offs.{answer, Stands}
use Rattle.checkpoint_laws.proofs.Values.{GoodPair}
use Rattle.checkpoint_laws.proofs.Found.{same_value, same_spot, failed, reached, stands_join, counts_of, Ate, ate_to, ate_then, ate_none, ate_is, byte_found, four_found, text_found, many_found}
use Rattle.checkpoint_laws.proofs.FoundValues.{After, after_whole, value_found, pair_found, items_good, pairs_good}

-- the text of a function that was read is its source
pub has_text : (code : List ℕ) (def : Def) → DefinitionVerdict code (Ok def) → def.source ≡ code
has_text _ _ (functions.whole {code} {tokens} {called} {takes} {block} l e is start shallow end) =
    ap (λ (x : Def-F Stmt Arm Def). x.source) (out-roll-Def (record { name = called; params = tree_params takes; body = tree_block block; source = code }))

-- what a source was read as
record Defined (source : List ℕ) (o : Object) (s t : Spot) : Type 0 where
  pub def : Def
  pub is : o ≡ the_object.Function def
  pub read : verdict_alone source ≡ Ok def
  pub spot_ : s ≡ t

defined : (p : ℕ) (source : List ℕ) (r : Result Def SyntaxFault) (o : Object) (s t : Spot) → verdict_alone source ≡ r → function_of p r s ≡ answer o t → Defined source o s t
defined p source (Ok def) o s t e h = record { def = def; is = sym (same_value (the_object.Function def) o s t h); read = e; spot_ = same_spot (the_object.Function def) o s t h }
defined p source (Err fault) o s t e h = absurd (let no : failed Object (BadText p) ≡ answer o t = h in cc)

module _ (texts : Texts) (ok : IsTable texts) (bytes : List ℕ) (small : IsBytes bytes) where
  -- an object after its tag
  abbrev FoundObject : ℕ → Spot → Spot → Object → Type 0
  FoundObject tag s t o = IsObject o × After texts bytes tag (spelled_object (spell_of texts) o) (object_refs o) (object_texts o) s t

  -- the byte of a list or a tuple
  abbrev tag_of : SequenceKind → ℕ
  tag_of sequences.List = 16
  tag_of sequences.Tuple = 19

  abbrev items_of : List Value → List ℕ
  items_of items = four_bytes (length items) ++ flat_map (spelled_value (spell_of texts)) items

  found_as : (kind : SequenceKind) (tag : ℕ) (items : List Value) (s t : Spot) → tag ≡ tag_of kind → (length items < 2 ^ 32) × AllByRecursion IsValue items
      → Ate texts bytes (items_of items) (flat_map value_refs items) (flat_map value_texts items) s t → FoundObject tag s t (sequence kind items)
  found_as sequences.List tag items s t e good ate = (good, record { body = items_of items; is = ap (λ (k : ℕ). k ∷ items_of items) (sym e); ate = ate })
  found_as sequences.Tuple tag items s t e good ate = (good, record { body = items_of items; is = ap (λ (k : ℕ). k ∷ items_of items) (sym e); ate = ate })

  sequence_found : (kind : SequenceKind) (tag : ℕ) (s t : Spot) (o : Object) → tag ≡ tag_of kind → list_or_tuple texts bytes kind s ≡ answer o t → FoundObject tag s t o
  unfolding list_or_tuple
  sequence_found kind tag s t o e h =
      let r = reached (four bytes s) (λ n u. after (more (λ before. value texts bytes) n [] u) (λ items. pure (sequence kind items))) o t h in
      let n = four_found texts bytes small s r.mid r.first r.was in
      let q = reached (more (λ before. value texts bytes) r.first [] r.mid) (λ items. pure (sequence kind items)) o t r.next in
      let m = many_found texts bytes (λ before. value texts bytes) (spelled_value (spell_of texts)) value_refs value_texts (λ before v. IsValue v) (λ before u w v k. value_found texts ok bytes small u w v k) r.first [] q.first r.mid q.mid q.was in
      let items : List Value = m.xs in
      let is : sequence kind items ≡ o = ap (λ (vs : List Value). sequence kind vs) (sym m.is) ∙ same_value (sequence kind q.first) o q.mid t q.next in
      let size : r.first ≡ length items = sym m.size in
      let whole : Ate texts bytes (items_of items) (flat_map value_refs items) (flat_map value_texts items) s t =
      ate_is texts bytes (four_bytes r.first ++ flat_map (spelled_value (spell_of texts)) items) (items_of items) (flat_map value_refs items) (flat_map value_texts items) s q.mid t
      (ap (λ (k : ℕ). four_bytes k ++ flat_map (spelled_value (spell_of texts)) items) size) (same_spot (sequence kind q.first) o q.mid t q.next)
      (ate_then texts bytes (four_bytes r.first) (flat_map (spelled_value (spell_of texts)) items) [] (flat_map value_refs items) [] (flat_map value_texts items) s r.mid q.mid n.1 m.ate) in
      subst (λ (w : Object). FoundObject tag s t w) is
      (found_as kind tag items s t e (subst (λ (k : ℕ). k < 2 ^ 32) size n.0, items_good [] items m.good) whole)

  abbrev pairs_of : List (Key × Value) → List ℕ
  pairs_of pairs = four_bytes (length pairs) ++ flat_map (spelled_pair (spell_of texts)) pairs

  dict_found : (tag : ℕ) (s t : Spot) (o : Object) → tag ≡ 17 → dict texts bytes s ≡ answer o t → FoundObject tag s t o
  unfolding dict
  dict_found tag s t o e h =
      let r = reached (four bytes s) (λ n u. after (more (pair texts bytes) n [] u) (λ pairs. pure (the_object.Dict pairs))) o t h in
      let n = four_found texts bytes small s r.mid r.first r.was in
      let q = reached (more (pair texts bytes) r.first [] r.mid) (λ pairs. pure (the_object.Dict pairs)) o t r.next in
      let m = many_found texts bytes (pair texts bytes) (spelled_pair (spell_of texts)) pair_refs pair_texts GoodPair (λ before u w p k. pair_found texts ok bytes small before u w p k) r.first [] q.first r.mid q.mid q.was in
      let pairs : List (Key × Value) = m.xs in
      let is : the_object.Dict pairs ≡ o = ap (λ (ps : List (Key × Value)). the_object.Dict ps) (sym m.is) ∙ same_value (the_object.Dict q.first) o q.mid t q.next in
      let size : r.first ≡ length pairs = sym m.size in
      let whole : Ate texts bytes (pairs_of pairs) (flat_map pair_refs pairs) (flat_map pair_texts pairs) s t =
      ate_is texts bytes (four_bytes r.first ++ flat_map (spelled_pair (spell_of texts)) pairs) (pairs_of pairs) (flat_map pair_refs pairs) (flat_map pair_texts pairs) s q.mid t
      (ap (λ (k : ℕ). four_bytes k ++ flat_map (spelled_pair (spell_of texts)) pairs) size) (same_spot (the_object.Dict q.first) o q.mid t q.next)
      (ate_then texts bytes (four_bytes r.first) (flat_map (spelled_pair (spell_of texts)) pairs) [] (flat_map pair_refs pairs) [] (flat_map pair_texts pairs) s r.mid q.mid n.1 m.ate) in
      subst (λ (w : Object). FoundObject tag s t w) is
      ((subst (λ (k : ℕ). k < 2 ^ 32) size n.0, pairs_good [] pairs m.good), record { body = pairs_of pairs; is = ap (λ (k : ℕ). k ∷ pairs_of pairs) (sym e); ate = whole })

  function_found : (tag : ℕ) (s t : Spot) (o : Object) → tag ≡ 18 → function texts bytes s ≡ answer o t → FoundObject tag s t o
  unfolding function
  function_found tag s t o e h =
      let r = reached (text texts bytes s) (λ source. function_of s.at (verdict_alone source)) o t h in
      let x = text_found bytes small texts ok s r.mid r.first r.was in
      let d = defined s.at r.first (verdict_alone r.first) o r.mid t refl r.next in
      let source : r.first ≡ d.def.source = sym (has_text r.first d.def (subst (DefinitionVerdict r.first) d.read (means r.first))) in
      let body : List ℕ = spell_of texts d.def.source in
      let there : Ate texts bytes (spell_of texts r.first) [] (r.first ∷ []) s t = ate_is texts bytes (spell_of texts r.first) (spell_of texts r.first) [] (r.first ∷ []) s r.mid t refl d.spot_ x.1 in
      let whole : Ate texts bytes body [] (d.def.source ∷ []) s t = subst (λ (xs : List ℕ). Ate texts bytes (spell_of texts xs) [] (xs ∷ []) s t) source there in
      let good : IsObject (the_object.Function d.def) = (subst (λ (xs : List ℕ). IsText xs) source x.0, subst (λ (xs : List ℕ). verdict_alone xs ≡ Ok d.def) source d.read) in
      subst (λ (w : Object). FoundObject tag s t w) (sym d.is) (good, record { body = body; is = ap (λ (k : ℕ). k ∷ body) (sym e); ate = whole })

  content_found : (tag : ℕ) (s t : Spot) (o : Object) → is_object_tag tag ≡ true → content texts bytes tag s ≡ answer o t → FoundObject tag s t o
  unfolding content
  content_found tag s t o known h = elim (cases_Bool (tag == 16)) [
    | inl e ↦ sequence_found sequences.List tag s t o (eqb-true tag 16 e) (rw e at h)
    | inr f ↦ elim (cases_Bool (tag == 17)) [
      | inl e ↦ dict_found tag s t o (eqb-true tag 17 e) (rw (f, e) at h)
      | inr g ↦ elim (cases_Bool (tag == 18)) [
        | inl e ↦ function_found tag s t o (eqb-true tag 18 e) (rw (f, g, e) at h)
        | inr d ↦
            let last : (tag == 19) ≡ true = rw (f, g, d) at known in
            sequence_found sequences.Tuple tag s t o (eqb-true tag 19 last) (rw (f, g, d) at h)
      ]
    ]
  ]

  object_by_found : (n p tag : ℕ) (s t : Spot) (o : Object) → object_by texts bytes n p tag s ≡ answer o t → (n < s.met) × FoundObject tag s t o
  unfolding object_by
  object_by_found n p tag s t o h = elim (cases_Bool (is_object_tag tag)) [
    | inl e ↦ elim (cases_Bool (nat_lt n s.met)) [
      | inl l ↦ (ltb-true n s.met l, content_found tag s t o e (rw (e, l) at h))
      | inr l ↦ absurd (let no : failed Object (BadRef p) ≡ answer o t = rw (e, l) at h in cc)
    ]
    | inr e ↦ absurd (let no : failed Object (BadTag p) ≡ answer o t = rw e at h in cc)
  ]

  object_found : (before : List Object) (s t : Spot) (o : Object) → object texts bytes before s ≡ answer o t
      → (length before < s.met) × IsObject o × Ate texts bytes (spelled_object (spell_of texts) o) (object_refs o) (object_texts o) s t
  unfolding object
  object_found before s t o h =
      let r = reached (byte bytes s) (λ tag. object_by texts bytes (length before) s.at tag) o t h in
      let a = byte_found texts bytes s r.mid r.first r.was in
      let f = object_by_found (length before) s.at r.first r.mid t o r.next in
      let same : r.mid.met ≡ s.met = sym (some_same s.met r.mid.met a.goes.refs) in
      (subst (λ (m : ℕ). length before < m) same f.0, f.1.0, after_whole texts bytes r.first (spelled_object (spell_of texts) o) (object_refs o) (object_texts o) s r.mid t a f.1.1)

  -- n objects
  record Objects (n : ℕ) (before all : List Object) (s t : Spot) : Type 0 where
    pub xs : List Object
    pub size : length xs ≡ n
    pub is : all ≡ before ++ xs
    pub good : AreObjects (length before) s.met s.most xs
    pub ate : Ate texts bytes (flat_map (spelled_object (spell_of texts)) xs) (flat_map object_refs xs) (flat_map object_texts xs) s t

  objects_from : (n : ℕ) (before all : List Object) (s t : Spot) → s.met ≤ s.most → more (object texts bytes) n before s ≡ answer all t → Objects n before all s t
  objects_from zero before all s t l e = record {
    xs = [];
    size = refl;
    is = sym (same_value before all s t e) ∙ sym (append-nil before);
    good = tt;
    ate = ate_none texts bytes s t (same_spot before all s t e);
  }
  objects_from (suc n) before all s t l e =
      let r = reached (object texts bytes before s) (λ o. more (object texts bytes) n (before ++ o ∷ [])) all t e in
      let first = object_found before s r.mid r.first r.was in
      let a = first.2 in
      let room : r.mid.met ≤ s.most = a.within l in
      let most : r.mid.most ≡ s.most = a.most in
      let within : r.mid.met ≤ r.mid.most = omega (arith, room, most) in
      let rest = objects_from n (before ++ r.first ∷ []) all r.mid t within r.next in
      let number : length (before ++ r.first ∷ []) ≡ length before + 1 = length-append before (r.first ∷ []) in
      let numbered : AreObjects (length before + 1) r.mid.met r.mid.most rest.xs = subst (λ (k : ℕ). AreObjects k r.mid.met r.mid.most rest.xs) number rest.good in
      let good : AreObjects (length before + 1) r.mid.met s.most rest.xs = subst (λ (m : ℕ). AreObjects (length before + 1) r.mid.met m rest.xs) most numbered in
      record {
        xs = r.first ∷ rest.xs;
        size = let k = rest.size in omega (arith, k);
        is = rest.is ∙ append_assoc before (r.first ∷ []) rest.xs;
        good = (first.0, first.1, (r.mid.met, a.goes.refs, room, good));
        ate = ate_then texts bytes (spelled_object (spell_of texts) r.first) (flat_map (spelled_object (spell_of texts)) rest.xs) (object_refs r.first) (flat_map object_refs rest.xs) (object_texts r.first) (flat_map object_texts rest.xs)
            s r.mid t a rest.ate;
      }

  abbrev objects_of : List Object → List ℕ
  objects_of os = four_bytes (length os) ++ flat_map (spelled_object (spell_of texts)) os

  -- the objects after their number
  pub record AllObjects (os : List Object) (s t : Spot) : Type 0 where
    pub few : length os < 2 ^ 32
    pub within : s.met ≤ length os
    pub good : AreObjects 0 s.met (length os) os
    pub stands : s.at ≤ length bytes → Stands bytes s.at (objects_of os)
    pub end : t.at ≡ s.at + length (objects_of os)
    pub known : counted s.known (numbers_of texts (flat_map object_texts os)) ≡ Some t.known
    pub there : AreThere texts s.known → AreThere texts t.known

  pub objects_found : (os : List Object) (s t : Spot) → objects texts bytes s ≡ answer os t → AllObjects os s t
  unfolding objects
  objects_found os s t h =
      let r = reached (four bytes s) (λ k u. after (bounded s.at k u) (λ m. more (object texts bytes) m [])) os t h in
      let n = four_found texts bytes small s r.mid r.first r.was in
      elim (cases_Bool (nat_lt r.first r.mid.met)) [
        | inl e ↦ absurd (let no : failed (List Object) (BadRef s.at) ≡ answer os t = rw e at r.next in cc)
        | inr e ↦
            let u : Spot = record r.mid { most = r.first } in
            let rest : more (object texts bytes) r.first [] u ≡ answer os t = rw e at r.next in
            let a = n.1 in
            let counts : counts_of s ≡ counts_of r.mid = goes_same texts (counts_of s) (counts_of r.mid) a.goes in
            let same : r.mid.met ≡ s.met = ap (λ (c : Counts). c.met) (sym counts) in
            let known : r.mid.known ≡ s.known = ap (λ (c : Counts). c.known) (sym counts) in
            let bound : r.mid.met ≤ r.first = ltb-false r.first r.mid.met e in
            let o = objects_from r.first [] os u t bound rest in
            let size : r.first ≡ length os = sym o.size ∙ ap (λ (xs : List Object). length xs) (sym o.is) in
            let met : AreObjects 0 s.met r.first o.xs = subst (λ (m : ℕ). AreObjects 0 m r.first o.xs) same o.good in
            let most : AreObjects 0 s.met (length os) o.xs = subst (λ (m : ℕ). AreObjects 0 s.met m o.xs) size met in
            let xs : List ℕ = four_bytes r.first in
            let ys : List ℕ = flat_map (spelled_object (spell_of texts)) o.xs in
            let spelled : xs ++ ys ≡ objects_of os = ap (λ (k : ℕ). four_bytes k ++ ys) size ∙ ap (λ (zs : List Object). four_bytes (length os) ++ flat_map (spelled_object (spell_of texts)) zs) (sym o.is) in
            let b = o.ate in
            let end : t.at ≡ s.at + length (xs ++ ys) = let one = a.end in let two = b.end in let all = length-append xs ys in omega (arith, one, two, all) in
            let texts_ : counted s.known (numbers_of texts (flat_map object_texts o.xs)) ≡ Some t.known = subst (λ (k : ℕ). counted k (numbers_of texts (flat_map object_texts o.xs)) ≡ Some t.known) known b.goes.known in
            record {
              few = subst (λ (k : ℕ). k < 2 ^ 32) size n.0;
              within = omega (arith, bound, same, size);
              good = subst (λ (zs : List Object). AreObjects 0 s.met (length os) zs) (sym o.is) most;
              stands = λ l. subst (λ (zs : List ℕ). Stands bytes s.at zs) spelled (stands_join bytes s.at r.mid.at xs ys a.end (a.stands l) (b.stands (ate_to texts bytes xs [] [] s r.mid a l)));
              end = end ∙ ap (λ (zs : List ℕ). s.at + length zs) spelled;
              known = subst (λ (zs : List Object). counted s.known (numbers_of texts (flat_map object_texts zs)) ≡ Some t.known) (sym o.is) texts_;
              there = λ h. b.there (a.there h);
            }
      ]
