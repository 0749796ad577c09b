-- A part has no more bytes than there are.
use Rattle.std.proofs.Common.{◌≡◌, ℕ, zero, suc, ◌+◌, ◌≤◌, Bool, true, false, List, [], ◌∷◌, ◌++◌, length, Option, Some, None, Result, Ok, Err, ap, subst, inl, inr, arith}
use Rattle.std.specs.Prelude.{◌==◌, ◌&&◌, nat_lt, nat_le, if◌then◌else◌, is_some, slice_get}
use Rattle.std.specs.Str.{is_utf8}
use Rattle.std.proofs.lemmas.Bool.{cases_Bool, leb-true}
use Rattle.py_tree.specs.declared.statements.Def.{Def}
use Rattle.py_reader.specs.declared.fault.SyntaxFault.{SyntaxFault}
use Rattle.py_reader.specs.DefinitionVerdict.{verdict_alone}
use Rattle.py_names.specs.Names.{is_variable}
use Rattle.py_value.specs.declared.key.Key.{Key}
use Rattle.py_value.specs.declared.key.Key.TheVariants as the_key
use Rattle.py_value.specs.Keys.{value_of}
use Rattle.py_value.specs.declared.value.Builtin.{Builtin}
use Rattle.py_value.specs.declared.value.Value.{Value}
use Rattle.py_value.specs.declared.value.Value.TheVariants as the_value
use Rattle.py_heap.specs.declared.heap.Object.{Object}
use Rattle.py_heap.specs.Dicts.{Pairs, value_under}
use Rattle.part_bytes.specs.declared.part.PartValue.{PartValue}
use Rattle.checkpoint_reader.specs.declared.part_fault.PartFault.{PartFault}
use Rattle.checkpoint_reader.specs.declared.part_fault.PartFault.TheVariants.{BadTag, BadRef, BadKey, BadName, BadText}
use Rattle.py_heap.specs.declared.heap.SequenceKind.{SequenceKind}
use Rattle.py_heap.specs.declared.heap.SequenceKind.TheVariants as sequences
use Rattle.checkpoint_reader.specs.declared.forms.Texts.{Texts}
use Rattle.checkpoint_reader.specs.declared.forms.Texts.TheVariants.{InPlace, Numbered}
use Rattle.checkpoint_reader.specs.declared.spot.Spot.{Spot}
use Rattle.checkpoint_reader.specs.PartReads.{Answer, Read, pure, fail, place, after, ◌>>=◌, more}
use Rattle.checkpoint_reader.specs.PartReading.{follows, text_there, numbered_text, referred_to, builtin_of, builtin_at, function_of, is_object_tag, bounded, taken, byte, four, sixteen, spelled_text, text_by_number, text, name, key_by, reference, builtin, value_by, value, held, pair_with, pair, list_or_tuple, dict, function, content, object_by, object, objects, names, values, part, start, with_known, part_read2}

module _ (bytes : List ℕ) where
  -- an answer that goes on goes on within the bytes
  abbrev Ends : {A : Type 0} → Answer A → Type 0
  Ends (Ok read) = read.1.at ≤ length bytes
  Ends (Err fault) = Unit {0}

  record Within {A : Type 0} (m : Read A) : Type 0 where
    pub ends : (spot : Spot) → spot.at ≤ length bytes → Ends (m spot)

  pure_within : {A : Type 0} (a : A) → Within (pure a)
  pure_within a = record { ends = λ spot h. h }

  fail_within : {A : Type 0} (fault : PartFault) → Within (fail {A = A} fault)
  fail_within fault = record { ends = λ spot h. tt }

  place_within : Within place
  place_within = record { ends = λ spot h. h }

  ends_if : {A : Type 0} (b : Bool) (x y : Answer A) → Ends x → Ends y → Ends (if b then x else y)
  ends_if true x y p q = p
  ends_if false x y p q = q

  within_if : {A : Type 0} (b : Bool) {x y : Read A} → Within x → Within y → Within (if b then x else y)
  within_if true p q = p
  within_if false p q = q

  ends_after : {A B : Type 0} (answer : Answer A) (next : A → Read B) → Ends answer → ((a : A) → Within (next a)) → Ends (after answer next)
  ends_after (Ok read) next e w = (w read.0).ends read.1 e
  ends_after (Err fault) next e w = tt

  then_within : {A B : Type 0} {m : Read A} {next : A → Read B} → Within m → ((a : A) → Within (next a)) → Within (m >>= next)
  then_within {m = m} {next = next} p w = record { ends = λ spot h. ends_after (m spot) next (p.ends spot h) w }

  more_within : {A : Type 0} (step : List A → Read A) → ((before : List A) → Within (step before)) → (n : ℕ) (before : List A) → Within (more step n before)
  more_within step w zero before = record { ends = λ spot h. h }
  more_within step w (suc n) before = then_within {m = step before} {next = λ a. more step n (before ++ a ∷ [])} (w before) (λ a. more_within step w n (before ++ a ∷ []))

  taken_ends : (n : ℕ) (spot : Spot) → Ends (taken bytes n spot)
  unfolding taken
  taken_ends n spot = elim (cases_Bool (nat_le (spot.at + n) (length bytes))) [
    | inl e ↦ rw e (leb-true (spot.at + n) (length bytes) e)
    | inr e ↦ rw e tt
  ]

  taken_within : (n : ℕ) → Within (taken bytes n)
  taken_within n = record { ends = λ spot h. taken_ends n spot }

  byte_within : Within (byte bytes)
  unfolding byte
  byte_within = then_within (taken_within 1) (λ xs. pure_within _)

  four_within : Within (four bytes)
  unfolding four
  four_within = then_within (taken_within 4) (λ xs. pure_within _)

  sixteen_within : Within (sixteen bytes)
  unfolding sixteen
  sixteen_within = then_within (taken_within 16) (λ xs. pure_within _)

  spelled_text_within : Within (spelled_text bytes)
  unfolding spelled_text
  spelled_text_within = then_within place_within (λ at. then_within four_within (λ n. then_within (taken_within n) (λ xs. within_if (is_utf8 xs) (pure_within xs) (fail_within (BadText at)))))

  there_ends : (at n : ℕ) (o : Option (List ℕ)) (spot : Spot) → spot.at ≤ length bytes → Ends (text_there at n o spot)
  there_ends at n (Some t) spot h = h
  there_ends at n None spot h = tt

  numbered_text_within : (table : List (List ℕ)) (at n : ℕ) → Within (numbered_text table at n)
  numbered_text_within table at n = record {
    ends = λ spot h. ends_if {A = List ℕ} (nat_le n spot.known) (text_there at n (slice_get table n) spot) (Err (BadRef at)) (there_ends at n (slice_get table n) spot h) tt;
  }

  text_by_number_within : (table : List (List ℕ)) → Within (text_by_number bytes table)
  unfolding text_by_number
  text_by_number_within table = then_within place_within (λ at. then_within four_within (λ n. numbered_text_within table at n))

  text_within : (texts : Texts) → Within (text texts bytes)
  unfolding text
  text_within InPlace = spelled_text_within
  text_within (Numbered table) = text_by_number_within table

  name_within : (before : List (List ℕ)) → Within (name bytes before)
  unfolding name
  name_within before = then_within place_within (λ at. then_within byte_within (λ n. then_within (taken_within n) (λ xs. within_if (is_variable xs && follows before xs) (pure_within xs) (fail_within (BadName at)))))

  names_within : Within (names bytes)
  unfolding names
  names_within = then_within place_within (λ at. then_within four_within (λ n. within_if (n == 0) (fail_within (BadName at)) (more_within (name bytes) name_within n [])))

  referred_within : (at n : ℕ) → Within (referred_to at n)
  referred_within at n = record {
    ends = λ spot h. ends_if {A = Value} (nat_lt n spot.met) (Ok (the_value.Ref n, spot))
        (if (n == spot.met) && nat_lt n spot.most then Ok (the_value.Ref n, record spot { met = n + 1 }) else Err (BadRef at)) h
        (ends_if {A = Value} ((n == spot.met) && nat_lt n spot.most) (Ok (the_value.Ref n, record spot { met = n + 1 })) (Err (BadRef at)) h tt);
  }

  reference_within : (at : ℕ) → Within (reference bytes at)
  unfolding reference
  reference_within at = then_within four_within (λ n. referred_within at n)

  builtin_at_within : (at : ℕ) (f : Option Builtin) → Within (builtin_at at f)
  builtin_at_within at (Some f) = pure_within (the_value.Builtin f)
  builtin_at_within at None = fail_within (BadTag at)

  builtin_within : Within (builtin bytes)
  unfolding builtin
  builtin_within = then_within place_within (λ at. then_within byte_within (λ b. builtin_at_within at (builtin_of b)))

  module _ (texts : Texts) where
    key_within : (at tag : ℕ) → Within (key_by texts bytes at tag)
    unfolding key_by
    key_within at tag = within_if (tag == 0) (pure_within the_key.Nothing) (within_if (tag == 1) (pure_within (the_key.Bool false)) (within_if (tag == 2) (pure_within (the_key.Bool true))
        (within_if (tag == 3) (then_within sixteen_within (λ n. pure_within (the_key.Number n)))
        (within_if (tag == 4) (then_within (text_within texts) (λ t. pure_within (the_key.Text t))) (fail_within (BadTag at))))))

    value_by_within : (at tag : ℕ) → Within (value_by texts bytes at tag)
    unfolding value_by
    value_by_within at tag = within_if (tag == 5) (reference_within at) (within_if (tag == 6) builtin_within (then_within (key_within at tag) (λ k. pure_within (value_of k))))

    value_within : Within (value texts bytes)
    unfolding value
    value_within = then_within place_within (λ at. then_within byte_within (λ tag. value_by_within at tag))

    held_within : (alone : Bool) → Within (held texts bytes alone)
    unfolding held
    held_within alone = then_within place_within (λ at. then_within byte_within (λ tag. within_if ((tag == 7) && alone) (pure_within None) (then_within (value_by_within at tag) (λ v. pure_within (Some v)))))

    pair_with_within : (at : ℕ) (before : Pairs) (k : Key) → Within (pair_with texts bytes at before k)
    pair_with_within at before k = within_if (is_some (value_under before k)) (fail_within (BadKey at)) (then_within value_within (λ v. pure_within (k, v)))

    pair_within : (before : Pairs) → Within (pair texts bytes before)
    unfolding pair
    pair_within before = then_within place_within (λ at. then_within byte_within (λ tag. then_within (key_within at tag) (λ k. pair_with_within at before k)))

    sequence_within : (kind : SequenceKind) → Within (list_or_tuple texts bytes kind)
    unfolding list_or_tuple
    sequence_within kind = then_within four_within (λ n. then_within (more_within (λ before. value texts bytes) (λ before. value_within) n []) (λ items. pure_within _))

    dict_within : Within (dict texts bytes)
    unfolding dict
    dict_within = then_within four_within (λ n. then_within (more_within (pair texts bytes) pair_within n []) (λ pairs. pure_within _))

    function_of_within : (at : ℕ) (verdict : Result Def SyntaxFault) → Within (function_of at verdict)
    function_of_within at (Ok def) = record { ends = λ spot h. h }
    function_of_within at (Err fault) = record { ends = λ spot h. tt }

    function_within : Within (function texts bytes)
    unfolding function
    function_within = then_within place_within (λ at. then_within (text_within texts) (λ source. function_of_within at (verdict_alone source)))

    content_within : (tag : ℕ) → Within (content texts bytes tag)
    unfolding content
    content_within tag = within_if (tag == 16) (sequence_within sequences.List) (within_if (tag == 17) dict_within (within_if (tag == 18) function_within (sequence_within sequences.Tuple)))

    object_by_within : (n at tag : ℕ) → Within (object_by texts bytes n at tag)
    unfolding object_by
    object_by_within n at tag = record {
      ends = λ spot h. ends_if {A = Object} (is_object_tag tag) (if nat_lt n spot.met then content texts bytes tag spot else Err (BadRef at)) (Err (BadTag at))
          (ends_if {A = Object} (nat_lt n spot.met) (content texts bytes tag spot) (Err (BadRef at)) ((content_within tag).ends spot h) tt) tt;
    }

    object_within : (before : List Object) → Within (object texts bytes before)
    unfolding object
    object_within before = then_within place_within (λ at. then_within byte_within (λ tag. object_by_within (length before) at tag))

    bounded_within : (at n : ℕ) → Within (bounded at n)
    bounded_within at n = record { ends = λ spot h. ends_if {A = ℕ} (nat_lt n spot.met) (Err (BadRef at)) (Ok (n, record spot { most = n })) tt h }

    objects_within : Within (objects texts bytes)
    unfolding objects
    objects_within = then_within place_within (λ at. then_within four_within (λ n. then_within (bounded_within at n) (λ m. more_within (object texts bytes) object_within m [])))

    values_within : (n : ℕ) → Within (values texts bytes n)
    unfolding values
    values_within n = more_within (λ before. held texts bytes (n == 1)) (λ before. held_within (n == 1)) n []

    whole_within : Within (part texts bytes)
    unfolding part
    whole_within = then_within names_within (λ ns. then_within (values_within (length ns)) (λ vs. then_within objects_within (λ os. pure_within _)))

abbrev size_of : Result (PartValue × ℕ × ℕ) PartFault → ℕ
size_of (Ok read) = read.1
size_of (Err fault) = 0

size_within : (bytes : List ℕ) (answer : Answer PartValue) (read : PartValue × ℕ × ℕ) → Ends bytes answer → with_known answer ≡ Ok read → read.1 ≤ length bytes
size_within bytes (Ok here) read h e = let same : here.1.at ≡ read.1 = ap size_of e in subst (λ k. k ≤ length bytes) same h
size_within bytes (Err fault) read h e = absurd (let is = e in cc)

pub part_within : (texts : Texts) (known : ℕ) (bytes : List ℕ) (read : PartValue × ℕ × ℕ) → part_read2 texts known bytes ≡ Ok read → read.1 ≤ length bytes
unfolding part_read2
part_within texts known bytes read e = size_within bytes (part texts bytes (start known)) read ((whole_within bytes texts).ends (start known) (omega arith)) e
