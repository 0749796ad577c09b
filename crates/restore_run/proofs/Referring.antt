-- What is read of a part is valid: it refers to its own objects, there are as many values as names, its names are such as a program may
-- bind, no dict has a key twice, and a function is what its text is read as.
use Rattle.std.proofs.Common.{◌≡◌, ℕ, zero, suc, ◌+◌, ◌<◌, ◌≤◌, Bool, true, false, List, [], ◌∷◌, ◌++◌, length, Option, Some, None, Result, Ok, Err, refl, sym, ap, ◌∙◌, subst, inl, inr, arith}
use Rattle.std.specs.Prelude.{◌==◌, ◌&&◌, IsTrue, nat_lt, nat_le, if◌then◌else◌, is_some, All, slice_get}
use Rattle.std.specs.Str.{is_utf8}
use Rattle.std.specs.List.{flat_map, IsDistinct}
use Rattle.std.proofs.lemmas.Bool.{cases_Bool, and_parts, eqb-true, ltb-true, ltb-false}
use Rattle.std.proofs.lemmas.List.{length-append}
use Rattle.std.proofs.lemmas.List.Elements.{All-nil, All-cons, All-append, All-weaker, All-head, All-tail}
use Rattle.py_names.specs.Names.{is_variable}
use Rattle.py_tree.specs.declared.statements.Def.{Def}
use Rattle.py_reader.specs.declared.fault.SyntaxFault.{SyntaxFault}
use Rattle.py_reader.specs.DefinitionVerdict.{verdict_alone}
use Rattle.py_reader.specs.Definitions.{DefinitionVerdict}
use Rattle.py_reader.proofs.MeantAlone.{means}
use Rattle.reader_laws.specs.Texts.{IsItsText}
use Rattle.py_value.specs.declared.key.Key.{Key}
use Rattle.py_value.specs.declared.key.Key.TheVariants as the_key
use Rattle.py_value.specs.Keys.{value_of, same_key}
use Rattle.py_value.specs.declared.value.Builtin.{Builtin}
use Rattle.py_value.specs.declared.value.Value.{Value}
use Rattle.py_value.specs.declared.value.Value.TheVariants as the_value
use Rattle.py_heap.specs.declared.heap.Object.{Object}
use Rattle.py_heap.specs.declared.heap.Object.TheVariants as the_object
use Rattle.py_heap.specs.declared.heap.SequenceKind.{SequenceKind}
use Rattle.py_heap.specs.declared.heap.SequenceKind.TheVariants as sequences
use Rattle.py_heap.specs.Sequences.{sequence}
use Rattle.py_heap.specs.Dicts.{Pairs, HasNoKeyTwice, value_under, with_pair}
use Rattle.py_heap.specs.References.{value_refs, pair_refs, object_refs, AreLive}
use Rattle.py_heap.specs.Reaching.{held_refs}
use Rattle.py_heap.specs.Valid.{IsValidObject}
use Rattle.py_heap.proofs.Pairs.{with_pair_distinct}
use Rattle.part_bytes.specs.declared.part.PartValue.{PartValue}
use Rattle.checkpoint_reader.specs.declared.part_fault.PartFault.{PartFault}
use Rattle.checkpoint_reader.specs.declared.part_fault.PartFault.TheVariants.{BadTag, BadRef, BadKey, BadName, BadText}
use Rattle.checkpoint_reader.specs.declared.forms.Texts.{Texts}
use Rattle.checkpoint_reader.specs.declared.forms.Texts.TheVariants.{InPlace, Numbered}
use Rattle.checkpoint_reader.specs.declared.spot.Spot.{Spot}
use Rattle.checkpoint_reader.specs.PartReads.{Answer, Read, pure, fail, place, after, ◌>>=◌, more}
use Rattle.checkpoint_laws.proofs.FoundObjects.{has_text}
use Rattle.checkpoint_reader.specs.PartReading.{follows, name_of, name, text_there, numbered_text, referred_to, builtin_of, builtin_at, function_of, is_object_tag, bounded, taken, byte, four, sixteen, spelled_text, text_by_number, text, key_by, reference, builtin, value_by, value, held, pair_with, pair, list_or_tuple, dict, function, content, object_by, object, objects, names, values, part, start, with_known, part_read2}

-- ---- from one spot to another

record Step (s t : Spot) : Type 0 where
  pub up : s.met ≤ t.met
  pub most : t.most ≡ s.most
  pub within : s.met ≤ s.most → t.met ≤ t.most

step_same : (s : Spot) → Step s s
step_same s = record { up = omega arith; most = refl; within = λ l. l }

step_then : (s u t : Spot) → Step s u → Step u t → Step s t
step_then s u t a b = record {
  up = let x = a.up in let y = b.up in omega (arith, x, y);
  most = b.most ∙ a.most;
  within = λ l. b.within (a.within l);
}

-- what was read is such, by how many objects were referred to by then
abbrev Ends : {A : Type 0} → (A → ℕ → Type 0) → Spot → Answer A → Type 0
Ends P s (Ok read) = Step s read.1 × P read.0 read.1.met
Ends P s (Err fault) = Unit {0}

abbrev Any : {A : Type 0} → A → ℕ → Type 0
Any a n = Unit {0}

record Refers {A : Type 0} (P : A → ℕ → Type 0) (m : Read A) : Type 0 where
  pub ends : (s : Spot) → Ends P s (m s)

ends_from : {A : Type 0} (P : A → ℕ → Type 0) (s u : Spot) (answer : Answer A) → Step s u → Ends P u answer → Ends P s answer
ends_from P s u (Ok read) a e = (step_then s u read.1 a e.0, e.1)
ends_from P s u (Err fault) a e = tt

module _ {A B : Type 0} (Q : A → ℕ → Type 0) (P : B → ℕ → Type 0) where
  after_ends : (s : Spot) (answer : Answer A) (next : A → Read B) → Ends Q s answer → ((a : A) (t : Spot) → Q a t.met → Ends P t (next a t)) → Ends P s (after answer next)
  after_ends s (Ok read) next e w = ends_from P s read.1 (next read.0 read.1) e.0 (w read.0 read.1 e.1)
  after_ends s (Err fault) next e w = tt

  then_by : (m : Read A) (next : A → Read B) → Refers Q m → ((a : A) (t : Spot) → Q a t.met → Ends P t (next a t)) → Refers P (m >>= next)
  then_by m next p w = record { ends = λ s. after_ends s (m s) next (p.ends s) w }

  then_pure : (m : Read A) (f : A → B) → Refers Q m → ((a : A) (n : ℕ) → Q a n → P (f a) n) → Refers P (m >>= λ a. pure (f a))
  then_pure m f p w = then_by m (λ a. pure (f a)) p (λ a t q. (step_same t, w a t.met q))

then_any : {A B : Type 0} (P : B → ℕ → Type 0) (m : Read A) (next : A → Read B) → Refers {A = A} Any m → ((a : A) → Refers P (next a)) → Refers P (m >>= next)
then_any P m next p w = then_by Any P m next p (λ a t q. (w a).ends t)

pure_refers : {A : Type 0} (P : A → ℕ → Type 0) (a : A) → ((n : ℕ) → P a n) → Refers P (pure a)
pure_refers P a h = record { ends = λ s. (step_same s, h s.met) }

fail_refers : {A : Type 0} (P : A → ℕ → Type 0) (fault : PartFault) → Refers P (fail {A = A} fault)
fail_refers P fault = record { ends = λ s. tt }

place_refers : Refers {A = ℕ} Any place
place_refers = record { ends = λ s. (step_same s, tt) }

refers_if : {A : Type 0} (P : A → ℕ → Type 0) (b : Bool) (x y : Read A) → Refers P x → Refers P y → Refers P (if b then x else y)
refers_if P true x y p q = p
refers_if P false x y p q = q

refers_known : {A : Type 0} (P : A → ℕ → Type 0) (b : Bool) (x y : Read A) → (b ≡ true → Refers P x) → (b ≡ false → Refers P y) → Refers P (if b then x else y)
refers_known P true x y p q = p refl
refers_known P false x y p q = q refl

ends_weaker : {A : Type 0} (P Q : A → ℕ → Type 0) → ((a : A) (n : ℕ) → P a n → Q a n) → (s : Spot) (answer : Answer A) → Ends P s answer → Ends Q s answer
ends_weaker P Q w s (Ok read) e = (e.0, w read.0 read.1.met e.1)
ends_weaker P Q w s (Err fault) e = tt

refers_weaker : {A : Type 0} (P Q : A → ℕ → Type 0) (m : Read A) → ((a : A) (n : ℕ) → P a n → Q a n) → Refers P m → Refers Q m
refers_weaker P Q m w p = record { ends = λ s. ends_weaker P Q w s (m s) (p.ends s) }

ends_if : {A : Type 0} (P : A → ℕ → Type 0) (s : Spot) (b : Bool) (x y : Answer A) → Ends P s x → Ends P s y → Ends P s (if b then x else y)
ends_if P s true x y p q = p
ends_if P s false x y p q = q

-- ---- n items of one kind, which make up a list of one kind

abbrev AreSuch : {A : Type 0} → (A → ℕ → Type 0) → (List A → Type 0) → ℕ → List A → ℕ → Type 0
AreSuch R G count xs k = All (λ x. R x k) xs × (length xs ≡ count) × G xs

module _ {A : Type 0} (R : A → ℕ → Type 0) (G : List A → Type 0) (up : (a : A) (m n : ℕ) → m ≤ n → R a m → R a n) (none : G []) (step : List A → Read A)
    (each : (before : List A) → G before → Refers (λ a n. R a n × G (before ++ a ∷ [])) (step before)) where
  next_ends : (count n : ℕ) (before : List A) (s : Spot) (answer : Answer A) → Ends (λ a k. R a k × G (before ++ a ∷ [])) s answer → All (λ x. R x s.met) before
      → ((a : A) (t : Spot) → All (λ x. R x t.met) (before ++ a ∷ []) → G (before ++ a ∷ []) → Ends (AreSuch R G count) t (more step n (before ++ a ∷ []) t))
      → Ends (AreSuch R G count) s (after answer (λ a. more step n (before ++ a ∷ [])))
  next_ends count n before s (Ok read) d h rest =
      let now : All (λ x. R x read.1.met) (before ++ read.0 ∷ []) = All-append (λ x. R x read.1.met) before (read.0 ∷ [])
      (All-weaker (λ x. R x s.met) (λ x. R x read.1.met) (λ x r. up x s.met read.1.met d.0.up r) before h)
      (All-cons (λ x. R x read.1.met) read.0 [] d.1.0 (All-nil (λ x. R x read.1.met))) in
      ends_from (AreSuch R G count) s read.1 (more step n (before ++ read.0 ∷ []) read.1) d.0 (rest read.0 read.1 now d.1.1)
  next_ends count n before s (Err fault) d h rest = tt

  more_ends : (n : ℕ) (before : List A) (s : Spot) → All (λ x. R x s.met) before → G before → (count : ℕ) → count ≡ length before + n → Ends (AreSuch R G count) s (more step n before s)
  more_ends zero before s h g count e = (step_same s, (h, omega (arith, e), g))
  more_ends (suc n) before s h g count e = next_ends count n before s (step before s) ((each before g).ends s) h
      (λ a t now good. let size = length-append before (a ∷ []) in more_ends n (before ++ a ∷ []) t now good count (omega (arith, e, size)))

  more_refers : (n : ℕ) → Refers (AreSuch R G n) (more step n [])
  more_refers n = record { ends = λ s. more_ends n [] s (All-nil (λ x. R x s.met)) none n (omega arith) }

-- of any list
abbrev Anything : {A : Type 0} → List A → Type 0
Anything xs = Unit {0}

module _ {A : Type 0} (R : A → ℕ → Type 0) (up : (a : A) (m n : ℕ) → m ≤ n → R a m → R a n) (step : List A → Read A) (each : (before : List A) → Refers R (step before)) where
  each_any : (before : List A) → Anything before → Refers (λ a n. R a n × Anything (before ++ a ∷ [])) (step before)
  each_any before g = refers_weaker R (λ a n. R a n × Anything (before ++ a ∷ [])) (step before) (λ a n r. (r, tt)) (each before)

  each_refers : (n : ℕ) → Refers (AreSuch R Anything n) (more step n [])
  each_refers n = more_refers R Anything up tt step each_any n

-- ---- values and objects

abbrev AreBelow : List ℕ → ℕ → Type 0
AreBelow refs n = All (λ a. a < n) refs

below_up : (refs : List ℕ) (m n : ℕ) → m ≤ n → AreBelow refs m → AreBelow refs n
below_up refs m n l h = All-weaker (λ a. a < m) (λ a. a < n) (λ a k. omega (arith, l, k)) refs h

abbrev OfValue : Value → ℕ → Type 0
OfValue v n = AreBelow (value_refs v) n

abbrev OfHeld : Option Value → ℕ → Type 0
OfHeld o n = AreBelow (held_refs value_refs o) n

abbrev OfPair : Key × Value → ℕ → Type 0
OfPair p n = AreBelow (pair_refs p) n

abbrev OfObject : Object → ℕ → Type 0
OfObject o n = AreBelow (object_refs o) n × IsValidObject IsItsText o

object_up : (o : Object) (m n : ℕ) → m ≤ n → OfObject o m → OfObject o n
object_up o m n l h = (below_up (object_refs o) m n l h.0, h.1)

abbrev OfName : List ℕ → ℕ → Type 0
OfName x n = IsTrue (is_variable x)

all_below : {A : Type 0} (refs : A → List ℕ) (n : ℕ) (xs : List A) → All (λ x. AreBelow (refs x) n) xs → AreBelow (flat_map refs xs) n
all_below refs n [] h = All-nil (λ a. a < n)
all_below refs n (x ∷ xs) h =
    All-append (λ a. a < n) (refs x) (flat_map refs xs) (All-head (λ y. AreBelow (refs y) n) x xs h) (all_below refs n xs (All-tail (λ y. AreBelow (refs y) n) x xs h))

key_refs : (k : Key) (n : ℕ) → OfValue (value_of k) n
key_refs the_key.Nothing n = All-nil (λ a. a < n)
key_refs (the_key.Bool truth) n = All-nil (λ a. a < n)
key_refs (the_key.Number number) n = All-nil (λ a. a < n)
key_refs (the_key.Text chars) n = All-nil (λ a. a < n)

-- a key that isn't there goes last
put_last : (pairs : Pairs) (k : Key) (v : Value) → is_some (value_under pairs k) ≡ false → with_pair pairs k v ≡ pairs ++ (k, v) ∷ []
put_last [] k v e = refl
put_last (p ∷ pairs) k v e = elim (cases_Bool (same_key k p.0)) [
  | inl t ↦ absurd (let no : true ≡ false = rw t at e in cc)
  | inr f ↦ rw f (ap (λ (ps : Pairs). p ∷ ps) (put_last pairs k v (rw f at e)))
]

still_distinct : (pairs : Pairs) (k : Key) (v : Value) → HasNoKeyTwice pairs → is_some (value_under pairs k) ≡ false → HasNoKeyTwice (pairs ++ (k, v) ∷ [])
still_distinct pairs k v h e = subst HasNoKeyTwice (put_last pairs k v e) (with_pair_distinct pairs k v h)

its_text : (source : List ℕ) (def : Def) → verdict_alone source ≡ Ok def → IsItsText def
its_text source def e =
    let same : source ≡ def.source = sym (has_text source def (subst (DefinitionVerdict source) e (means source))) in
    subst (λ (xs : List ℕ). verdict_alone xs ≡ Ok def) same e

-- ---- the steps

module _ (bytes : List ℕ) where
  taken_ends : (n : ℕ) (s : Spot) → Ends {A = List ℕ} Any s (taken bytes n s)
  unfolding taken
  taken_ends n s = elim (cases_Bool (nat_le (s.at + n) (length bytes))) [
    | inl e ↦ rw e (record { up = omega arith; most = refl; within = λ l. l }, tt)
    | inr e ↦ rw e tt
  ]

  taken_refers : (n : ℕ) → Refers {A = List ℕ} Any (taken bytes n)
  taken_refers n = record { ends = λ s. taken_ends n s }

  byte_refers : Refers {A = ℕ} Any (byte bytes)
  unfolding byte
  byte_refers = then_any Any (taken bytes 1) _ (taken_refers 1) (λ xs. pure_refers Any _ (λ n. tt))

  four_refers : Refers {A = ℕ} Any (four bytes)
  unfolding four
  four_refers = then_any Any (taken bytes 4) _ (taken_refers 4) (λ xs. pure_refers Any _ (λ n. tt))

  sixteen_refers : Refers Any (sixteen bytes)
  unfolding sixteen
  sixteen_refers = then_any Any (taken bytes 16) _ (taken_refers 16) (λ xs. pure_refers Any _ (λ n. tt))

  spelled_text_refers : Refers {A = List ℕ} Any (spelled_text bytes)
  unfolding spelled_text
  spelled_text_refers = then_any Any place _ place_refers (λ at. then_any Any (four bytes) _ four_refers (λ n. then_any Any (taken bytes n) _ (taken_refers n)
      (λ xs. refers_if Any (is_utf8 xs) (pure xs) (fail (BadText at)) (pure_refers Any xs (λ n. tt)) (fail_refers Any (BadText at)))))

  there_ends : (at n : ℕ) (o : Option (List ℕ)) (s : Spot) → Ends {A = List ℕ} Any s (text_there at n o s)
  there_ends at n (Some t) s = (record { up = omega arith; most = refl; within = λ l. l }, tt)
  there_ends at n None s = tt

  numbered_text_refers : (table : List (List ℕ)) (at n : ℕ) → Refers {A = List ℕ} Any (numbered_text table at n)
  numbered_text_refers table at n = record { ends = λ s. ends_if Any s (nat_le n s.known) (text_there at n (slice_get table n) s) (Err (BadRef at)) (there_ends at n (slice_get table n) s) tt }

  text_by_number_refers : (table : List (List ℕ)) → Refers {A = List ℕ} Any (text_by_number bytes table)
  unfolding text_by_number
  text_by_number_refers table = then_any Any place _ place_refers (λ at. then_any Any (four bytes) _ four_refers (λ n. numbered_text_refers table at n))

  text_refers : (texts : Texts) → Refers {A = List ℕ} Any (text texts bytes)
  unfolding text
  text_refers InPlace = spelled_text_refers
  text_refers (Numbered table) = text_by_number_refers table

  name_refers : (before : List (List ℕ)) → Refers OfName (name bytes before)
  unfolding name
  name_refers before = then_any OfName place _ place_refers (λ at. then_any OfName (byte bytes) _ byte_refers (λ n. then_any OfName (taken bytes n) _ (taken_refers n)
      (λ xs. refers_known OfName (is_variable xs && follows before xs) (pure xs) (fail (BadName at))
      (λ e. pure_refers OfName xs (λ k. (and_parts (is_variable xs) (follows before xs) e).0)) (λ e. fail_refers OfName (BadName at)))))

  abbrev AreVariables : List (List ℕ) → ℕ → Type 0
  AreVariables ns k = All (λ x. IsTrue (is_variable x)) ns

  all_names_refer : (n : ℕ) → Refers AreVariables (more (name bytes) n [])
  all_names_refer n = refers_weaker (AreSuch OfName Anything n) AreVariables (more (name bytes) n []) (λ ns k h. h.0) (each_refers OfName (λ x i j l h. h) (name bytes) name_refers n)

  names_refer : Refers AreVariables (names bytes)
  unfolding names
  names_refer = then_any AreVariables place _ place_refers (λ at. then_any AreVariables (four bytes) _ four_refers (λ n.
      refers_if AreVariables (n == 0) (fail (BadName at)) (more (name bytes) n []) (fail_refers AreVariables (BadName at)) (all_names_refer n)))

  one_below : (a n : ℕ) → a < n → AreBelow (a ∷ []) n
  one_below a n l = All-cons (λ b. b < n) a [] l (All-nil (λ b. b < n))

  referred_ends : (at n : ℕ) (s : Spot) → Ends OfValue s (referred_to at n s)
  referred_ends at n s = elim (cases_Bool (nat_lt n s.met)) [
    | inl e ↦ rw e (step_same s, one_below n s.met (ltb-true n s.met e))
    | inr e ↦ elim (cases_Bool ((n == s.met) && nat_lt n s.most)) [
      | inl f ↦
          let p = and_parts (n == s.met) (nat_lt n s.most) f in
          let same = eqb-true n s.met p.0 in
          let room = ltb-true n s.most p.1 in
          rw (e, f) (record { up = omega (arith, same); most = refl; within = λ l. omega (arith, room) }, one_below n (n + 1) (omega arith))
      | inr f ↦ rw (e, f) tt
    ]
  ]

  reference_refers : (at : ℕ) → Refers OfValue (reference bytes at)
  unfolding reference
  reference_refers at = then_any OfValue (four bytes) _ four_refers (λ n. record { ends = λ s. referred_ends at n s })

  builtin_at_refers : (at : ℕ) (f : Option Builtin) → Refers OfValue (builtin_at at f)
  builtin_at_refers at (Some f) = pure_refers OfValue (the_value.Builtin f) (λ n. All-nil (λ a. a < n))
  builtin_at_refers at None = fail_refers OfValue (BadTag at)

  builtin_refers : Refers OfValue (builtin bytes)
  unfolding builtin
  builtin_refers = then_any OfValue place _ place_refers (λ at. then_any OfValue (byte bytes) _ byte_refers (λ b. builtin_at_refers at (builtin_of b)))

  module _ (texts : Texts) where
    key_refers : (at tag : ℕ) → Refers {A = Key} Any (key_by texts bytes at tag)
    unfolding key_by
    key_refers at tag = refers_if Any (tag == 0) _ _ (pure_refers Any the_key.Nothing (λ n. tt)) (refers_if Any (tag == 1) _ _ (pure_refers Any (the_key.Bool false) (λ n. tt))
        (refers_if Any (tag == 2) _ _ (pure_refers Any (the_key.Bool true) (λ n. tt))
        (refers_if Any (tag == 3) _ _ (then_any Any (sixteen bytes) _ sixteen_refers (λ n. pure_refers Any (the_key.Number n) (λ k. tt)))
        (refers_if Any (tag == 4) _ _ (then_any Any (text texts bytes) _ (text_refers texts) (λ t. pure_refers Any (the_key.Text t) (λ k. tt))) (fail_refers Any (BadTag at))))))

    value_by_refers : (at tag : ℕ) → Refers OfValue (value_by texts bytes at tag)
    unfolding value_by
    value_by_refers at tag = refers_if OfValue (tag == 5) _ _ (reference_refers at) (refers_if OfValue (tag == 6) _ _ builtin_refers
        (then_any OfValue (key_by texts bytes at tag) _ (key_refers at tag) (λ k. pure_refers OfValue (value_of k) (λ n. key_refs k n))))

    value_refers : Refers OfValue (value texts bytes)
    unfolding value
    value_refers = then_any OfValue place _ place_refers (λ at. then_any OfValue (byte bytes) _ byte_refers (λ tag. value_by_refers at tag))

    held_refers : (alone : Bool) → Refers OfHeld (held texts bytes alone)
    unfolding held
    held_refers alone = then_any OfHeld place _ place_refers (λ at. then_any OfHeld (byte bytes) _ byte_refers (λ tag.
        refers_if OfHeld ((tag == 7) && alone) _ _ (pure_refers OfHeld None (λ n. All-nil (λ a. a < n)))
        (then_pure OfValue OfHeld (value_by texts bytes at tag) (λ v. Some v) (value_by_refers at tag) (λ v n q. q))))

    abbrev OfNext : Pairs → Key × Value → ℕ → Type 0
    OfNext before p n = OfPair p n × HasNoKeyTwice (before ++ p ∷ [])

    pair_with_refers : (at : ℕ) (before : Pairs) (k : Key) → HasNoKeyTwice before → Refers (OfNext before) (pair_with texts bytes at before k)
    pair_with_refers at before k twice = refers_known (OfNext before) (is_some (value_under before k)) (fail (BadKey at)) (value texts bytes >>= λ v. pure (k, v))
        (λ e. fail_refers (OfNext before) (BadKey at))
        (λ e. then_pure OfValue (OfNext before) (value texts bytes) (λ v. (k, v)) value_refers (λ v n q. (q, still_distinct before k v twice e)))

    pair_refers : (before : Pairs) → HasNoKeyTwice before → Refers (OfNext before) (pair texts bytes before)
    unfolding pair
    pair_refers before twice = then_any (OfNext before) place _ place_refers (λ at. then_any (OfNext before) (byte bytes) _ byte_refers (λ tag.
        then_any (OfNext before) (key_by texts bytes at tag) _ (key_refers at tag) (λ k. pair_with_refers at before k twice)))

    abbrev ItemsSo : List Value → ℕ → Type 0
    ItemsSo xs k = All (λ v. OfValue v k) xs

    items_refer : (n : ℕ) → Refers ItemsSo (more (λ before. value texts bytes) n [])
    items_refer n = refers_weaker (AreSuch OfValue Anything n) ItemsSo (more (λ before. value texts bytes) n []) (λ vs k h. h.0)
        (each_refers OfValue (λ v i j l h. below_up (value_refs v) i j l h) (λ before. value texts bytes) (λ before. value_refers) n)

    sequence_so : (kind : SequenceKind) (items : List Value) (k : ℕ) → AreBelow (flat_map value_refs items) k → OfObject (sequence kind items) k
    sequence_so sequences.List items k q = (q, tt)
    sequence_so sequences.Tuple items k q = (q, tt)

    sequence_refers : (kind : SequenceKind) → Refers OfObject (list_or_tuple texts bytes kind)
    unfolding list_or_tuple
    sequence_refers kind = then_any OfObject (four bytes) _ four_refers (λ n.
        then_pure ItemsSo OfObject (more (λ before. value texts bytes) n []) (λ items. sequence kind items) (items_refer n) (λ items k q. sequence_so kind items k (all_below value_refs k items q)))

    nothing_twice : HasNoKeyTwice []
    unfolding IsDistinct
    nothing_twice = tt

    abbrev EntriesSo : Pairs → ℕ → Type 0
    EntriesSo xs k = All (λ p. OfPair p k) xs × HasNoKeyTwice xs

    pairs_refer : (n : ℕ) → Refers EntriesSo (more (pair texts bytes) n [])
    pairs_refer n = refers_weaker (AreSuch OfPair HasNoKeyTwice n) EntriesSo (more (pair texts bytes) n []) (λ ps k h. (h.0, h.2))
        (more_refers OfPair HasNoKeyTwice (λ p i j l h. below_up (pair_refs p) i j l h) nothing_twice (pair texts bytes) pair_refers n)

    dict_refers : Refers OfObject (dict texts bytes)
    unfolding dict
    dict_refers = then_any OfObject (four bytes) _ four_refers (λ n.
        then_pure EntriesSo OfObject (more (pair texts bytes) n []) (λ pairs. the_object.Dict pairs) (pairs_refer n) (λ pairs k q. (all_below pair_refs k pairs q.0, q.1)))

    function_of_refers : (at : ℕ) (source : List ℕ) (verdict : Result Def SyntaxFault) → verdict_alone source ≡ verdict → Refers OfObject (function_of at verdict)
    function_of_refers at source (Ok def) e = record { ends = λ s. (step_same s, (All-nil (λ a. a < s.met), its_text source def e)) }
    function_of_refers at source (Err fault) e = record { ends = λ s. tt }

    function_refers : Refers OfObject (function texts bytes)
    unfolding function
    function_refers = then_any OfObject place _ place_refers (λ at. then_any OfObject (text texts bytes) _ (text_refers texts) (λ source. function_of_refers at source (verdict_alone source) refl))

    content_refers : (tag : ℕ) → Refers OfObject (content texts bytes tag)
    unfolding content
    content_refers tag = refers_if OfObject (tag == 16) _ _ (sequence_refers sequences.List) (refers_if OfObject (tag == 17) _ _ dict_refers
        (refers_if OfObject (tag == 18) _ _ function_refers (sequence_refers sequences.Tuple)))

    object_by_refers : (n at tag : ℕ) → Refers OfObject (object_by texts bytes n at tag)
    unfolding object_by
    object_by_refers n at tag = record {
      ends = λ s. ends_if OfObject s (is_object_tag tag) (if nat_lt n s.met then content texts bytes tag s else Err (BadRef at)) (Err (BadTag at))
          (ends_if OfObject s (nat_lt n s.met) (content texts bytes tag s) (Err (BadRef at)) ((content_refers tag).ends s) tt) tt;
    }

    object_refers : (before : List Object) → Refers OfObject (object texts bytes before)
    unfolding object
    object_refers before = then_any OfObject place _ place_refers (λ at. then_any OfObject (byte bytes) _ byte_refers (λ tag. object_by_refers (length before) at tag))

    -- ---- the objects, among which all references are

    abbrev AreClosed : Spot → Answer (List Object) → Type 0
    AreClosed s (Ok read) = (s.met ≤ read.1.met) × All (λ o. OfObject o read.1.met) read.0 × (read.1.met ≤ length read.0)
    AreClosed s (Err fault) = Unit {0}

    abbrev ObjectsSo : ℕ → List Object → ℕ → Type 0
    ObjectsSo count xs k = All (λ o. OfObject o k) xs × (length xs ≡ count)

    all_objects_refer : (n : ℕ) → Refers (ObjectsSo n) (more (object texts bytes) n [])
    all_objects_refer n = refers_weaker (AreSuch OfObject Anything n) (ObjectsSo n) (more (object texts bytes) n []) (λ os k h. (h.0, h.1)) (each_refers OfObject object_up (object texts bytes) object_refers n)

    closed_by : (s u : Spot) (n : ℕ) (answer : Answer (List Object)) → s.met ≤ u.met → u.met ≤ n → u.most ≡ n → Ends (ObjectsSo n) u answer → AreClosed s answer
    closed_by s u n (Ok read) l room most e =
        let step = e.0 in
        let end = step.within (omega (arith, room, most)) in
        let same = step.most in
        let size = e.1.1 in
        let up = step.up in
        (omega (arith, l, up), e.1.0, omega (arith, end, same, most, size))
    closed_by s u n (Err fault) l room most e = tt

    from_four : (s : Spot) (at : ℕ) (answer : Answer ℕ) → Ends {A = ℕ} Any s answer → AreClosed s (after answer (λ n. bounded at n >>= λ m. more (object texts bytes) m []))
    from_four s at (Ok read) e = elim (cases_Bool (nat_lt read.0 read.1.met)) [
      | inl f ↦ rw f tt
      | inr f ↦
          let u : Spot = record read.1 { most = read.0 } in
          let room = ltb-false read.0 read.1.met f in
          rw f (closed_by s u read.0 (more (object texts bytes) read.0 [] u) e.0.up room refl ((all_objects_refer read.0).ends u))
    ]
    from_four s at (Err fault) e = tt

    objects_closed : (s : Spot) → AreClosed s (objects texts bytes s)
    unfolding objects
    objects_closed s = from_four s s.at (four bytes s) (four_refers.ends s)

    abbrev ValuesSo : ℕ → List (Option Value) → ℕ → Type 0
    ValuesSo count xs k = All (λ o. OfHeld o k) xs × (length xs ≡ count)

    values_refer : (n : ℕ) → Refers (ValuesSo n) (values texts bytes n)
    unfolding values
    values_refer n = refers_weaker (AreSuch OfHeld Anything n) (ValuesSo n) (values texts bytes n) (λ vs k h. (h.0, h.1))
        (each_refers OfHeld (λ o i j l h. below_up (held_refs value_refs o) i j l h) (λ before. held texts bytes (n == 1)) (λ before. held_refers (n == 1)) n)

-- ---- the part

pub record IsOfItself (p : PartValue) : Type 0 where
  pub as_many : length p.values ≡ length p.names
  pub values : All (λ o. AreLive p.objects (held_refs value_refs o)) p.values
  pub objects : All (λ o. AreLive p.objects (object_refs o)) p.objects
  pub variables : All (λ x. IsTrue (is_variable x)) p.names
  pub valid : All (IsValidObject IsItsText) p.objects

abbrev IsWhole : Answer PartValue → Type 0
IsWhole (Ok read) = IsOfItself read.0
IsWhole (Err fault) = Unit {0}

module _ (texts : Texts) (bytes : List ℕ) where
  whole_by : (ns : List (List ℕ)) (vs : List (Option Value)) (s : Spot) (answer : Answer (List Object)) → All (λ x. IsTrue (is_variable x)) ns → length vs ≡ length ns → All (λ o. OfHeld o s.met) vs
      → AreClosed bytes texts s answer → IsWhole (after answer (λ os. pure (record { names = ns; values = vs; objects = os })))
  whole_by ns vs s (Ok read) named size h c =
      let l = c.0 in
      let m = c.2 in
      record {
        as_many = size;
        values = All-weaker (λ o. OfHeld o s.met) (λ o. AreLive read.0 (held_refs value_refs o)) (λ o k. below_up (held_refs value_refs o) s.met (length read.0) (omega (arith, l, m)) k) vs h;
        objects = All-weaker (λ o. OfObject o read.1.met) (λ o. AreLive read.0 (object_refs o)) (λ o k. below_up (object_refs o) read.1.met (length read.0) m k.0) read.0 c.1;
        variables = named;
        valid = All-weaker (λ o. OfObject o read.1.met) (IsValidObject IsItsText) (λ o k. k.1) read.0 c.1;
      }
  whole_by ns vs s (Err fault) named size h c = tt

  whole_after : (ns : List (List ℕ)) (s : Spot) (answer : Answer (List (Option Value))) → All (λ x. IsTrue (is_variable x)) ns → Ends (ValuesSo bytes texts (length ns)) s answer
      → IsWhole (after answer (λ vs. objects texts bytes >>= λ os. pure (record { names = ns; values = vs; objects = os })))
  whole_after ns s (Ok read) named e = whole_by ns read.0 read.1 (objects texts bytes read.1) named e.1.1 e.1.0 (objects_closed bytes texts read.1)
  whole_after ns s (Err fault) named e = tt

  whole_from : (s : Spot) (answer : Answer (List (List ℕ))) → Ends (AreVariables bytes) s answer
      → IsWhole (after answer (λ ns. values texts bytes (length ns) >>= λ vs. objects texts bytes >>= λ os. pure (record { names = ns; values = vs; objects = os })))
  whole_from s (Ok read) e = whole_after read.0 read.1 (values texts bytes (length read.0) read.1) e.1 ((values_refer bytes texts (length read.0)).ends read.1)
  whole_from s (Err fault) e = tt

  whole : (known : ℕ) → IsWhole (part texts bytes (start known))
  unfolding part
  whole known = whole_from (start known) (names bytes (start known)) ((names_refer bytes).ends (start known))

  part_in : PartValue → Result (PartValue × ℕ × ℕ) PartFault → PartValue
  part_in p (Ok read) = read.0
  part_in p (Err fault) = p

  sized : (answer : Answer PartValue) (read : PartValue × ℕ × ℕ) → IsWhole answer → with_known answer ≡ Ok read → IsOfItself read.0
  unfolding part_in
  sized (Ok here) read w e = let same : here.0 ≡ read.0 = ap (part_in read.0) e in subst IsOfItself same w
  sized (Err fault) read w e = absurd (let is = e in cc)

  pub read_of_itself : (known : ℕ) (read : PartValue × ℕ × ℕ) → part_read2 texts known bytes ≡ Ok read → IsOfItself read.0
  unfolding part_read2
  read_of_itself known read e = sized (part texts bytes (start known)) read (whole known) e
