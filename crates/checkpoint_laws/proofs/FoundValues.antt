-- Keys, values and pairs that were read, and their bytes.
use Rattle.std.proofs.Common.{◌≡◌, ℕ, ◌+◌, ◌<◌, ◌≤◌, true, false, cond, List, [], ◌∷◌, ◌++◌, Option, Some, None, refl, sym, ap, ◌∙◌, subst, inl, inr, arith}
use Rattle.std.specs.Prelude.{nat_lt, ◌==◌, ◌&&◌, Bool, is_some}
use Rattle.std.specs.List.{AllByRecursion}
use Rattle.std.proofs.lemmas.Bool.{cases_Bool, eqb-true, ltb-true, and_parts}
use Rattle.std.proofs.lemmas.List.{append-nil}
use Rattle.py_value.specs.declared.key.Key.{Key}
use Rattle.py_value.specs.declared.key.Key.TheVariants as the_key
use Rattle.py_value.specs.declared.value.Builtin.{Builtin}
use Rattle.py_value.specs.declared.value.Builtin.TheVariants as the_builtin
use Rattle.py_value.specs.declared.value.Value.{Value}
use Rattle.py_value.specs.declared.value.Value.TheVariants as the_value
use Rattle.py_value.specs.Keys.{value_of}
use Rattle.py_value.specs.Values.{builtin_number}
use Rattle.py_heap.specs.Dicts.{Pairs, value_under}
use Rattle.py_heap.specs.References.{value_refs, pair_refs}
use Rattle.py_heap.specs.Reaching.{held_refs}
use Rattle.part_bytes.specs.Texts.{four as four_bytes, sixteen as sixteen_bytes, spelled_value, spelled_held, spelled_pair}
use Rattle.part_bytes.specs.Uses.{value_texts, held_texts, pair_texts}
use Rattle.checkpoint_reader.specs.declared.forms.Texts.{Texts}
use Rattle.checkpoint_reader.specs.declared.part_fault.PartFault.TheVariants.{BadTag, BadRef, BadKey}
use Rattle.checkpoint_reader.specs.declared.spot.Spot.{Spot}
use Rattle.checkpoint_reader.specs.PartReads.{Read, pure, after}
use Rattle.checkpoint_reader.specs.PartReading.{byte, four, sixteen, text, referred_to, builtin_of, builtin_at, key_by, reference, builtin, value_by, value, held, pair, pair_with}
use Rattle.checkpoint_laws.specs.SpelledParts.{counted, IsValue, IsHeld, ArePairs}
use Rattle.checkpoint_laws.proofs.Numbers.{IsBytes}
use Rattle.checkpoint_laws.proofs.Counts.{spell_of, no_numbers, AreThere, Goes}
use Rattle.checkpoint_laws.proofs.Listed.{IsTable}
use Rattle.checkpoint_laws.proofs.Offs.{answer, AllGood}
use Rattle.checkpoint_laws.proofs.Values.{GoodPair}
use Rattle.checkpoint_laws.proofs.Found.{same_value, same_spot, failed, reached, counts_of, Ate, ate_then, ate_none, ate_as, ate_is, byte_found, four_found, sixteen_found, text_found}

module _ (texts : Texts) (bytes : List ℕ) where
  -- what comes after a tag
  pub record After (tag : ℕ) (xs ns : List ℕ) (us : List (List ℕ)) (s t : Spot) : Type 0 where
    pub body : List ℕ
    pub is : xs ≡ tag ∷ body
    pub ate : Ate texts bytes body ns us s t

  pub after_whole : (tag : ℕ) (xs ns : List ℕ) (us : List (List ℕ)) (s u t : Spot) → Ate texts bytes (tag ∷ []) [] [] s u → After tag xs ns us u t → Ate texts bytes xs ns us s t
  after_whole tag xs ns us s u t a b = ate_is texts bytes (tag ∷ b.body) xs ns us s t t (sym b.is) refl (ate_then texts bytes (tag ∷ []) b.body [] ns [] us s u t a b.ate)

  abbrev FoundKey : ℕ → Spot → Spot → Key → Type 0
  FoundKey tag s t k = IsValue (value_of k) × After tag (spelled_value (spell_of texts) (value_of k)) [] (value_texts (value_of k)) s t

  abbrev FoundValue : ℕ → Spot → Spot → Value → Type 0
  FoundValue tag s t v = IsValue v × After tag (spelled_value (spell_of texts) v) (value_refs v) (value_texts v) s t

tagged_as : (tag n : ℕ) (xs : List ℕ) → tag ≡ n → n ∷ xs ≡ tag ∷ xs
tagged_as tag n xs e = ap (λ (m : ℕ). m ∷ xs) (sym e)

key_refs : (k : Key) → value_refs (value_of k) ≡ []
key_refs the_key.Nothing = refl
key_refs (the_key.Bool truth) = refl
key_refs (the_key.Number n) = refl
key_refs (the_key.Text t) = refl

builtin_found : (b : ℕ) (f : Builtin) → builtin_of b ≡ Some f → b ≡ builtin_number f
builtin_found b f e = elim (cases_Bool (b == 0)) [
  | inl t ↦ let n = eqb-true b 0 t in let same : Some the_builtin.Print ≡ Some f = rw t at e in let g : the_builtin.Print ≡ f = cc in subst (λ (h : Builtin). b ≡ builtin_number h) g n
  | inr r0 ↦ elim (cases_Bool (b == 1)) [
    | inl t ↦ let n = eqb-true b 1 t in let same : Some the_builtin.Len ≡ Some f = rw (r0, t) at e in let g : the_builtin.Len ≡ f = cc in subst (λ (h : Builtin). b ≡ builtin_number h) g n
    | inr r1 ↦ elim (cases_Bool (b == 2)) [
      | inl t ↦ let n = eqb-true b 2 t in let same : Some the_builtin.Str ≡ Some f = rw (r0, r1, t) at e in let g : the_builtin.Str ≡ f = cc in subst (λ (h : Builtin). b ≡ builtin_number h) g n
      | inr r2 ↦ elim (cases_Bool (b == 3)) [
        | inl t ↦ let n = eqb-true b 3 t in let same : Some the_builtin.Repr ≡ Some f = rw (r0, r1, r2, t) at e in let g : the_builtin.Repr ≡ f = cc in subst (λ (h : Builtin). b ≡ builtin_number h) g n
        | inr r3 ↦ elim (cases_Bool (b == 4)) [
          | inl t ↦ let n = eqb-true b 4 t in let same : Some the_builtin.Int ≡ Some f = rw (r0, r1, r2, r3, t) at e in let g : the_builtin.Int ≡ f = cc in subst (λ (h : Builtin). b ≡ builtin_number h) g n
          | inr r4 ↦ elim (cases_Bool (b == 5)) [
            | inl t ↦ let n = eqb-true b 5 t in let same : Some the_builtin.Range ≡ Some f = rw (r0, r1, r2, r3, r4, t) at e in let g : the_builtin.Range ≡ f = cc in subst (λ (h : Builtin). b ≡ builtin_number h) g n
            | inr r5 ↦ elim (cases_Bool (b == 6)) [
              | inl t ↦ let n = eqb-true b 6 t in let same : Some the_builtin.Draw ≡ Some f = rw (r0, r1, r2, r3, r4, r5, t) at e in let g : the_builtin.Draw ≡ f = cc in subst (λ (h : Builtin). b ≡ builtin_number h) g n
              | inr r6 ↦ elim (cases_Bool (b == 7)) [
                | inl t ↦ let n = eqb-true b 7 t in let same : Some the_builtin.Handle ≡ Some f = rw (r0, r1, r2, r3, r4, r5, r6, t) at e in let g : the_builtin.Handle ≡ f = cc in subst (λ (h : Builtin). b ≡ builtin_number h) g n
                | inr r7 ↦ elim (cases_Bool (b == 8)) [
                  | inl t ↦ let n = eqb-true b 8 t in let same : Some the_builtin.Tell ≡ Some f = rw (r0, r1, r2, r3, r4, r5, r6, r7, t) at e in let g : the_builtin.Tell ≡ f = cc in subst (λ (h : Builtin). b ≡ builtin_number h) g n
                  | inr r8 ↦ absurd (let none : None ≡ Some f = rw (r0, r1, r2, r3, r4, r5, r6, r7, r8) at e in cc)
                ]
              ]
            ]
          ]
        ]
      ]
    ]
  ]
]

none_of : {A : Type 0} (o : Option A) → is_some o ≡ false → o ≡ None
none_of None e = refl
none_of (Some a) e = absurd (let no : true ≡ false = e in cc)

-- a number of an object that was read
record Referred (n : ℕ) (v : Value) (s t : Spot) : Type 0 where
  pub is : v ≡ the_value.Ref n
  pub at : t.at ≡ s.at
  pub known : t.known ≡ s.known
  pub refs : counted s.met (n ∷ []) ≡ Some t.met
  pub most : t.most ≡ s.most
  pub within : s.met ≤ s.most → t.met ≤ s.most

referred_found : (p n : ℕ) (s t : Spot) (v : Value) → referred_to p n s ≡ answer v t → Referred n v s t
referred_found p n s t v h = elim (cases_Bool (nat_lt n s.met)) [
  | inl e ↦
      let is : answer (the_value.Ref n) s ≡ answer v t = rw e at h in
      let there : s ≡ t = same_spot (the_value.Ref n) v s t is in
      record {
        is = sym (same_value (the_value.Ref n) v s t is);
        at = ap (λ (u : Spot). u.at) (sym there);
        known = ap (λ (u : Spot). u.known) (sym there);
        refs = rw e (ap (λ (u : Spot). Some u.met) there);
        most = ap (λ (u : Spot). u.most) (sym there);
        within = λ l. subst (λ (u : Spot). u.met ≤ s.most) there l;
      }
  | inr f ↦ elim (cases_Bool ((n == s.met) && nat_lt n s.most)) [
    | inl e ↦
        let parts = and_parts (n == s.met) (nat_lt n s.most) e in
        let u : Spot = record s { met = n + 1 } in
        let is : answer (the_value.Ref n) u ≡ answer v t = rw (f, e) at h in
        let there : u ≡ t = same_spot (the_value.Ref n) v u t is in
        let equal : n ≡ s.met = eqb-true n s.met parts.0 in
        let room : n < s.most = ltb-true n s.most parts.1 in
        let most : n + 1 ≤ s.most = omega (arith, room) in
        let next : s.met + 1 ≡ n + 1 = omega (arith, equal) in
        record {
          is = sym (same_value (the_value.Ref n) v u t is);
          at = ap (λ (w : Spot). w.at) (sym there);
          known = ap (λ (w : Spot). w.known) (sym there);
          refs = rw (f, parts.0) (ap (λ (m : ℕ). Some m) next ∙ ap (λ (w : Spot). Some w.met) there);
          most = ap (λ (w : Spot). w.most) (sym there);
          within = λ l. subst (λ (w : Spot). w.met ≤ s.most) there most;
        }
    | inr g ↦ absurd (let no : failed Value (BadRef p) ≡ answer v t = rw (f, g) at h in cc)
  ]
]

builtin_value : (p b : ℕ) (o : Option Builtin) (s t : Spot) (v : Value) → builtin_of b ≡ o → builtin_at p o s ≡ answer v t → (f : Builtin) × (b ≡ builtin_number f) × (v ≡ the_value.Builtin f) × (s ≡ t)
builtin_value p b None s t v e h = absurd (let no : failed Value (BadTag p) ≡ answer v t = h in cc)
builtin_value p b (Some f) s t v e h = (f, builtin_found b f e, sym (same_value (the_value.Builtin f) v s t h), same_spot (the_value.Builtin f) v s t h)

module _ (texts : Texts) (ok : IsTable texts) (bytes : List ℕ) (small : IsBytes bytes) where
  -- a key that is all of its tag
  bare_key : (tag n : ℕ) (s t : Spot) (k l : Key) → tag ≡ n → spelled_value (spell_of texts) (value_of k) ≡ n ∷ [] → value_texts (value_of k) ≡ [] → IsValue (value_of k) → pure k s ≡ answer l t → FoundKey texts bytes tag s t l
  bare_key tag n s t k l e is none good h =
      let rest : Ate texts bytes [] [] (value_texts (value_of k)) s t = ate_as texts bytes [] [] [] [] [] (value_texts (value_of k)) s t t refl refl (sym none) refl (ate_none texts bytes s t (same_spot k l s t h)) in
      subst (λ (m : Key). FoundKey texts bytes tag s t m) (same_value k l s t h) (good, record { body = []; is = is ∙ tagged_as tag n [] e; ate = rest })

  number_key : (tag : ℕ) (s t : Spot) (k : Key) → tag ≡ 3 → after (sixteen bytes s) (λ n. pure (the_key.Number n)) ≡ answer k t → FoundKey texts bytes tag s t k
  number_key tag s t k e h =
      let r = reached (sixteen bytes s) (λ n. pure (the_key.Number n)) k t h in
      let f = sixteen_found texts bytes small s r.mid r.first r.was in
      let g : Ate texts bytes (sixteen_bytes r.first) [] [] s t = ate_is texts bytes (sixteen_bytes r.first) (sixteen_bytes r.first) [] [] s r.mid t refl (same_spot (the_key.Number r.first) k r.mid t r.next) f.1 in
      subst (λ (m : Key). FoundKey texts bytes tag s t m) (same_value (the_key.Number r.first) k r.mid t r.next)
      (f.0, record { body = sixteen_bytes r.first; is = tagged_as tag 3 (sixteen_bytes r.first) e; ate = g })

  text_key : (tag : ℕ) (s t : Spot) (k : Key) → tag ≡ 4 → after (text texts bytes s) (λ x. pure (the_key.Text x)) ≡ answer k t → FoundKey texts bytes tag s t k
  text_key tag s t k e h =
      let r = reached (text texts bytes s) (λ x. pure (the_key.Text x)) k t h in
      let f = text_found bytes small texts ok s r.mid r.first r.was in
      let g : Ate texts bytes (spell_of texts r.first) [] (r.first ∷ []) s t =
      ate_is texts bytes (spell_of texts r.first) (spell_of texts r.first) [] (r.first ∷ []) s r.mid t refl (same_spot (the_key.Text r.first) k r.mid t r.next) f.1 in
      subst (λ (m : Key). FoundKey texts bytes tag s t m) (same_value (the_key.Text r.first) k r.mid t r.next)
      (f.0, record { body = spell_of texts r.first; is = tagged_as tag 4 (spell_of texts r.first) e; ate = g })

  pub key_found : (p tag : ℕ) (s t : Spot) (k : Key) → key_by texts bytes p tag s ≡ answer k t → FoundKey texts bytes tag s t k
  unfolding key_by
  key_found p tag s t k h = elim (cases_Bool (tag == 0)) [
    | inl e ↦ bare_key tag 0 s t the_key.Nothing k (eqb-true tag 0 e) refl refl tt (rw e at h)
    | inr f0 ↦ elim (cases_Bool (tag == 1)) [
      | inl e ↦ bare_key tag 1 s t (the_key.Bool false) k (eqb-true tag 1 e) refl refl tt (rw (f0, e) at h)
      | inr f1 ↦ elim (cases_Bool (tag == 2)) [
        | inl e ↦ bare_key tag 2 s t (the_key.Bool true) k (eqb-true tag 2 e) refl refl tt (rw (f0, f1, e) at h)
        | inr f2 ↦ elim (cases_Bool (tag == 3)) [
          | inl e ↦ number_key tag s t k (eqb-true tag 3 e) (rw (f0, f1, f2, e) at h)
          | inr f3 ↦ elim (cases_Bool (tag == 4)) [
            | inl e ↦ text_key tag s t k (eqb-true tag 4 e) (rw (f0, f1, f2, f3, e) at h)
            | inr f4 ↦ absurd (let no : failed Key (BadTag p) ≡ answer k t = rw (f0, f1, f2, f3, f4) at h in cc)
          ]
        ]
      ]
    ]
  ]

  -- ---- references and built-in functions

  reference_found : (p tag : ℕ) (s t : Spot) (v : Value) → tag ≡ 5 → reference bytes p s ≡ answer v t → FoundValue texts bytes tag s t v
  unfolding reference
  reference_found p tag s t v e h =
      let r = reached (four bytes s) (λ n. referred_to p n) v t h in
      let f = four_found texts bytes small s r.mid r.first r.was in
      let g = referred_found p r.first r.mid t v r.next in
      let goes : Goes texts (counts_of r.mid) (r.first ∷ []) [] (counts_of t) = record {
        refs = g.refs;
        known = ap (λ (ns : List ℕ). counted r.mid.known ns) (no_numbers texts) ∙ ap (λ (k : ℕ). Some k) (sym g.known);
      } in
      let ate : Ate texts bytes [] (r.first ∷ []) [] r.mid t = record {
        stands = λ l. (ate_none texts bytes r.mid r.mid refl).stands l;
        end = let f = g.at in omega (arith, f);
        goes = goes;
        most = g.most;
        within = g.within;
        there = λ h. subst (AreThere texts) (sym g.known) h;
      } in
      let whole : Ate texts bytes (four_bytes r.first) (r.first ∷ []) [] s t = ate_is texts bytes (four_bytes r.first ++ []) (four_bytes r.first) (r.first ∷ []) [] s t t (append-nil (four_bytes r.first)) refl
      (ate_then texts bytes (four_bytes r.first) [] [] (r.first ∷ []) [] [] s r.mid t f.1 ate) in
      subst (λ (w : Value). FoundValue texts bytes tag s t w) (sym g.is) (f.0, record { body = four_bytes r.first; is = tagged_as tag 5 (four_bytes r.first) e; ate = whole })

  builtin_value_found : (tag : ℕ) (s t : Spot) (v : Value) → tag ≡ 6 → builtin bytes s ≡ answer v t → FoundValue texts bytes tag s t v
  unfolding builtin
  builtin_value_found tag s t v e h =
      let r = reached (byte bytes s) (λ b. builtin_at s.at (builtin_of b)) v t h in
      let g = builtin_value s.at r.first (builtin_of r.first) r.mid t v refl r.next in
      let a : Ate texts bytes (builtin_number g.0 ∷ []) [] [] s t = ate_is texts bytes (r.first ∷ []) (builtin_number g.0 ∷ []) [] [] s r.mid t (ap (λ (c : ℕ). c ∷ []) g.1) g.3 (byte_found texts bytes s r.mid r.first r.was) in
      subst (λ (w : Value). FoundValue texts bytes tag s t w) (sym g.2) (tt, record { body = builtin_number g.0 ∷ []; is = tagged_as tag 6 (builtin_number g.0 ∷ []) e; ate = a })

  -- ---- values

  -- a key is a value
  key_value : (tag : ℕ) (s t : Spot) (k : Key) → FoundKey texts bytes tag s t k → FoundValue texts bytes tag s t (value_of k)
  key_value tag s t k f = (f.0, subst (λ (ns : List ℕ). After texts bytes tag (spelled_value (spell_of texts) (value_of k)) ns (value_texts (value_of k)) s t) (sym (key_refs k)) f.1)

  pub value_by_found : (p tag : ℕ) (s t : Spot) (v : Value) → value_by texts bytes p tag s ≡ answer v t → FoundValue texts bytes tag s t v
  unfolding value_by
  value_by_found p tag s t v h = elim (cases_Bool (tag == 5)) [
    | inl e ↦ reference_found p tag s t v (eqb-true tag 5 e) (rw e at h)
    | inr f ↦ elim (cases_Bool (tag == 6)) [
      | inl e ↦ builtin_value_found tag s t v (eqb-true tag 6 e) (rw (f, e) at h)
      | inr g ↦
          let key : after (key_by texts bytes p tag s) (λ k. pure (value_of k)) ≡ answer v t = rw (f, g) at h in
          let r = reached (key_by texts bytes p tag s) (λ k. pure (value_of k)) v t key in
          let k = key_value tag s r.mid r.first (key_found p tag s r.mid r.first r.was) in
          let there : FoundValue texts bytes tag s t (value_of r.first) = subst (λ (u : Spot). FoundValue texts bytes tag s u (value_of r.first)) (same_spot (value_of r.first) v r.mid t r.next) k in
          subst (λ (w : Value). FoundValue texts bytes tag s t w) (same_value (value_of r.first) v r.mid t r.next) there
    ]
  ]

  abbrev AteValue : Value → Spot → Spot → Type 0
  AteValue v s t = Ate texts bytes (spelled_value (spell_of texts) v) (value_refs v) (value_texts v) s t

  pub value_found : (s t : Spot) (v : Value) → value texts bytes s ≡ answer v t → IsValue v × Ate texts bytes (spelled_value (spell_of texts) v) (value_refs v) (value_texts v) s t
  unfolding value
  value_found s t v h =
      let r = reached (byte bytes s) (λ tag. value_by texts bytes s.at tag) v t h in
      let f = value_by_found s.at r.first r.mid t v r.next in
      (f.0, after_whole texts bytes r.first (spelled_value (spell_of texts) v) (value_refs v) (value_texts v) s r.mid t (byte_found texts bytes s r.mid r.first r.was) f.1)

  abbrev if_none : Bool → ℕ → ℕ → Read (Option Value)
  if_none alone p tag = cond ((tag == 7) && alone) (pure None) (λ s. after (value_by texts bytes p tag s) (λ v. pure (Some v)))

  abbrev AteHeld : Option Value → Spot → Spot → Type 0
  AteHeld o s t = Ate texts bytes (spelled_held (spell_of texts) o) (held_refs value_refs o) (held_texts o) s t

  pub held_found : (alone : Bool) (s t : Spot) (o : Option Value) → held texts bytes alone s ≡ answer o t
      → IsHeld alone o × Ate texts bytes (spelled_held (spell_of texts) o) (held_refs value_refs o) (held_texts o) s t
  unfolding held
  held_found alone s t o h =
      let r = reached (byte bytes s) (λ tag. if_none alone s.at tag) o t h in
      let a = byte_found texts bytes s r.mid r.first r.was in
      let none : Option Value = None in
      elim (cases_Bool ((r.first == 7) && alone)) [
        | inl e ↦
            let parts = and_parts (r.first == 7) alone e in
            let is : answer none r.mid ≡ answer o t = rw e at r.next in
            let b : Ate texts bytes (7 ∷ []) [] [] s t = ate_is texts bytes (r.first ∷ []) (7 ∷ []) [] [] s r.mid t (ap (λ (c : ℕ). c ∷ []) (eqb-true r.first 7 parts.0)) (same_spot none o r.mid t is) a in
            subst (λ (q : Option Value). IsHeld alone q × AteHeld q s t) (same_value none o r.mid t is) (parts.1, b)
        | inr f ↦
            let some : after (value_by texts bytes s.at r.first r.mid) (λ v. pure (Some v)) ≡ answer o t = rw f at r.next in
            let q = reached (value_by texts bytes s.at r.first r.mid) (λ v. pure (Some v)) o t some in
            let v = value_by_found s.at r.first r.mid q.mid q.first q.was in
            let b : AteValue q.first s q.mid = after_whole texts bytes r.first (spelled_value (spell_of texts) q.first) (value_refs q.first) (value_texts q.first) s r.mid q.mid a v.1 in
            let there : AteValue q.first s t = subst (λ (u : Spot). AteValue q.first s u) (same_spot (Some q.first) o q.mid t q.next) b in
            subst (λ (w : Option Value). IsHeld alone w × AteHeld w s t) (same_value (Some q.first) o q.mid t q.next) (v.0, there)
      ]

  -- ---- pairs

  abbrev AtePair : Key × Value → Spot → Spot → Type 0
  AtePair p s t = Ate texts bytes (spelled_pair (spell_of texts) p) (pair_refs p) (pair_texts p) s t

  pub pair_found : (before : Pairs) (s t : Spot) (p : Key × Value) → pair texts bytes before s ≡ answer p t
      → GoodPair before p × Ate texts bytes (spelled_pair (spell_of texts) p) (pair_refs p) (pair_texts p) s t
  unfolding pair
  pair_found before s t p h =
      let r = reached (byte bytes s) (λ tag u. after (key_by texts bytes s.at tag u) (λ k. pair_with texts bytes s.at before k)) p t h in
      let q = reached (key_by texts bytes s.at r.first r.mid) (λ k. pair_with texts bytes s.at before k) p t r.next in
      let k = key_found s.at r.first r.mid q.mid q.first q.was in
      let kv : Value = value_of q.first in
      let key : Ate texts bytes (spelled_value (spell_of texts) kv) [] (value_texts kv) s q.mid =
      after_whole texts bytes r.first (spelled_value (spell_of texts) kv) [] (value_texts kv) s r.mid q.mid (byte_found texts bytes s r.mid r.first r.was) k.1 in
      elim (cases_Bool (is_some (value_under before q.first))) [
        | inl e ↦ absurd (let no : failed (Key × Value) (BadKey s.at) ≡ answer p t = rw e at q.next in cc)
        | inr e ↦
            let rest : after (value texts bytes q.mid) (λ v. let both : Read (Key × Value) = pure (q.first, v) in both) ≡ answer p t = rw e at q.next in
            let w = reached (value texts bytes q.mid) (λ v. let both : Read (Key × Value) = pure (q.first, v) in both) p t rest in
            let v = value_found q.mid w.mid w.first w.was in
            let both : Key × Value = (q.first, w.first) in
            let whole : AtePair both s w.mid = ate_then texts bytes (spelled_value (spell_of texts) kv) (spelled_value (spell_of texts) w.first) [] (value_refs w.first) (value_texts kv) (value_texts w.first) s q.mid w.mid key v.1 in
            let there : AtePair both s t = subst (λ (u : Spot). AtePair both s u) (same_spot both p w.mid t w.next) whole in
            subst (λ (z : Key × Value). GoodPair before z × AtePair z s t) (same_value both p w.mid t w.next) ((k.0, none_of (value_under before q.first) e, v.0), there)
      ]

-- ---- lists of these

pub items_good : (before items : List Value) → AllGood (λ before v. IsValue v) before items → AllByRecursion IsValue items
items_good before [] h = tt
items_good before (v ∷ items) h = (h.0, items_good (before ++ v ∷ []) items h.1)

pub held_good : (alone : Bool) (before held : List (Option Value)) → AllGood (λ before o. IsHeld alone o) before held → AllByRecursion (IsHeld alone) held
held_good alone before [] h = tt
held_good alone before (o ∷ held) h = (h.0, held_good alone (before ++ o ∷ []) held h.1)

pub pairs_good : (before pairs : Pairs) → AllGood GoodPair before pairs → ArePairs before pairs
pairs_good before [] h = tt
pairs_good before (p ∷ pairs) h = (h.0.0, h.0.1, h.0.2, pairs_good (before ++ p ∷ []) pairs h.1)
