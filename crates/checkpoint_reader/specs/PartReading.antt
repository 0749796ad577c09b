-- How bytes are read as a part, as a definition that computes: of both versions of the format, which differ in how a text is read.
use Rattle.std.specs.Prelude.{ℕ, ℤ, ◌+◌, ◌-◌, ◌^◌, ◌==◌, ◌&&◌, ◌||◌, nat_lt, nat_le, Bool, true, false, if◌then◌else◌, List, [], length, slice_get, slice_index, slice_range, Option, Some, None, is_some, Result, Ok, Err}
use Rattle.std.specs.Int.{w128, cast_signed}
use Rattle.std.specs.Str.{is_utf8}
use Rattle.std.specs.Ordering.{nat_cmp, is_lt}
use Rattle.std.specs.Cmp.Lexicographic.{slice_cmp}
use Rattle.byteorder.specs.Endian.{big_number}
use Rattle.py_names.specs.Names.{is_variable}
use Rattle.py_tree.specs.declared.statements.Def.{Def}
use Rattle.py_reader.specs.declared.fault.SyntaxFault.{SyntaxFault}
use Rattle.py_reader.specs.DefinitionVerdict.{verdict_alone}
use Rattle.py_value.specs.declared.key.Key.{Key}
use Rattle.py_value.specs.declared.key.Key.TheVariants as the_key
use Rattle.py_value.specs.declared.value.Builtin.{Builtin}
use Rattle.py_value.specs.declared.value.Builtin.TheVariants as the_builtin
use Rattle.py_value.specs.declared.value.Value.{Value}
use Rattle.py_value.specs.declared.value.Value.TheVariants as the_value
use Rattle.py_value.specs.Keys.{value_of}
use Rattle.py_heap.specs.declared.heap.Object.{Object}
use Rattle.py_heap.specs.declared.heap.Object.TheVariants as the_object
use Rattle.py_heap.specs.declared.heap.SequenceKind.{SequenceKind}
use Rattle.py_heap.specs.declared.heap.SequenceKind.TheVariants as sequences
use Rattle.py_heap.specs.Sequences.{sequence}
use Rattle.py_heap.specs.Dicts.{Pairs, value_under}
use Rattle.part_bytes.specs.declared.part.PartValue.{PartValue}
use Rattle.checkpoint_reader.specs.declared.part_fault.PartFault.{PartFault}
use Rattle.checkpoint_reader.specs.declared.part_fault.PartFault.TheVariants.{Cut, BadTag, BadRef, BadKey, BadName, BadText}
use Rattle.checkpoint_reader.specs.declared.forms.Texts.{Texts}
use Rattle.checkpoint_reader.specs.declared.forms.Texts.TheVariants.{InPlace, Numbered}
use Rattle.checkpoint_reader.specs.declared.spot.Spot.{Spot}
use Rattle.checkpoint_reader.specs.PartReads.{Read, pure, fail, place, ◌>>=◌, more}

-- ---- what is made of bytes that were read; a place is that of the field

abbrev pub as_text : ℕ → List ℕ → Read (List ℕ)
as_text at xs = if is_utf8 xs then pure xs else fail (BadText at)

-- how many texts were referred to after this one, if `known` were before
abbrev pub known_after : ℕ → ℕ → ℕ
known_after known n = if n == known then n + 1 else known

abbrev pub text_there : ℕ → ℕ → Option (List ℕ) → Read (List ℕ)
text_there at n (Some t) spot = Ok (t, record spot { known = known_after spot.known n })
text_there at n None spot = Err (BadRef at)

-- the text of that number, which was referred to before or is the next one
abbrev pub numbered_text : List (List ℕ) → ℕ → ℕ → Read (List ℕ)
numbered_text table at n spot = if nat_le n spot.known then text_there at n (slice_get table n) spot else Err (BadRef at)

abbrev pub stands_after : Option (List ℕ) → List ℕ → Bool
stands_after None name = true
stands_after (Some last) name = is_lt (slice_cmp nat_cmp last name)

-- the name is after the last of the names, by the bytes
unfoldable pub follows : List (List ℕ) → List ℕ → Bool
follows names name = stands_after (slice_get names (length names - 1)) name

abbrev pub name_of : ℕ → List (List ℕ) → List ℕ → Read (List ℕ)
name_of at before xs = if is_variable xs && follows before xs then pure xs else fail (BadName at)

-- the number of an object that was referred to before, or of the next one
abbrev pub referred_to : ℕ → ℕ → Read Value
referred_to at n spot = if nat_lt n spot.met then Ok (the_value.Ref n, spot)
    else (if (n == spot.met) && nat_lt n spot.most then Ok (the_value.Ref n, record spot { met = n + 1 }) else Err (BadRef at))

-- the built-in function with that byte
abbrev pub builtin_of : ℕ → Option Builtin
builtin_of b = if b == 0 then Some the_builtin.Print else (if b == 1 then Some the_builtin.Len else (if b == 2 then Some the_builtin.Str
    else (if b == 3 then Some the_builtin.Repr else (if b == 4 then Some the_builtin.Int else (if b == 5 then Some the_builtin.Range
    else (if b == 6 then Some the_builtin.Draw else (if b == 7 then Some the_builtin.Handle else (if b == 8 then Some the_builtin.Tell else None))))))))

abbrev pub builtin_at : ℕ → Option Builtin → Read Value
builtin_at at (Some f) = pure (the_value.Builtin f)
builtin_at at None = fail (BadTag at)

abbrev pub function_of : ℕ → Result Def SyntaxFault → Read Object
function_of at (Ok def) = pure (the_object.Function def)
function_of at (Err fault) = fail (BadText at)

abbrev pub is_object_tag : ℕ → Bool
is_object_tag tag = (tag == 16) || ((tag == 17) || ((tag == 18) || (tag == 19)))

-- a number of objects, which are no fewer than were referred to; from here on no more may be referred to
abbrev pub bounded : ℕ → ℕ → Read ℕ
bounded at n spot = if nat_lt n spot.met then Err (BadRef at) else Ok (n, record spot { most = n })

-- ---- the steps

module _ (bytes : List ℕ) where
  -- the next bytes
  unfoldable pub taken : ℕ → Read (List ℕ)
  taken n spot = if nat_le (spot.at + n) (length bytes) then Ok (slice_range bytes spot.at (spot.at + n), record spot { at = spot.at + n }) else Err Cut

  unfoldable pub byte : Read ℕ
  byte = do
    xs ← taken 1
    pure (slice_index xs 0)

  unfoldable pub four : Read ℕ
  four = do
    xs ← taken 4
    pure (big_number 4 xs)

  unfoldable pub sixteen : Read ℤ
  sixteen = do
    xs ← taken 16
    pure (cast_signed w128 (big_number 16 xs))

  -- a text after its length
  unfoldable pub spelled_text : Read (List ℕ)
  spelled_text = do
    at ← place
    n ← four
    xs ← taken n
    as_text at xs

  -- a text by its number in a table
  unfoldable pub text_by_number : List (List ℕ) → Read (List ℕ)
  text_by_number table = do
    at ← place
    n ← four
    numbered_text table at n

  abbrev pub text_as : Texts → Read (List ℕ)
  text_as InPlace = spelled_text
  text_as (Numbered table) = text_by_number table

  -- a name, after those before it
  unfoldable pub name : List (List ℕ) → Read (List ℕ)
  name before = do
    at ← place
    n ← byte
    xs ← taken n
    name_of at before xs

  unfoldable pub names : Read (List (List ℕ))
  names = do
    at ← place
    n ← four
    if n == 0 then fail (BadName at) else more name n []

  unfoldable pub reference : ℕ → Read Value
  reference at = do
    n ← four
    referred_to at n

  unfoldable pub builtin : Read Value
  builtin = do
    at ← place
    b ← byte
    builtin_at at (builtin_of b)

module _ (texts : Texts) (bytes : List ℕ) where
  unfoldable pub text : Read (List ℕ)
  text = text_as bytes texts

  -- a key with this tag, which is at that place
  unfoldable pub key_by : ℕ → ℕ → Read Key
  key_by at tag = if tag == 0 then pure the_key.Nothing else (if tag == 1 then pure (the_key.Bool false) else (if tag == 2 then pure (the_key.Bool true)
      else (if tag == 3 then (sixteen bytes >>= λ n. pure (the_key.Number n)) else (if tag == 4 then (text >>= λ t. pure (the_key.Text t)) else fail (BadTag at)))))

  unfoldable pub value_by : ℕ → ℕ → Read Value
  value_by at tag = if tag == 5 then reference bytes at else (if tag == 6 then builtin bytes else (key_by at tag >>= λ k. pure (value_of k)))

  unfoldable pub value : Read Value
  value = do
    at ← place
    tag ← byte bytes
    value_by at tag

  -- what a name has; only a name that is alone may have no value
  unfoldable pub held : Bool → Read (Option Value)
  held alone = do
    at ← place
    tag ← byte bytes
    if (tag == 7) && alone then pure None else (value_by at tag >>= λ v. pure (Some v))

  abbrev pub pair_with : ℕ → Pairs → Key → Read (Key × Value)
  pair_with at before k = if is_some (value_under before k) then fail (BadKey at) else (value >>= λ v. pure (k, v))

  -- a pair whose key is none of those before it
  unfoldable pub pair : Pairs → Read (Key × Value)
  pair before = do
    at ← place
    tag ← byte bytes
    k ← key_by at tag
    pair_with at before k

  unfoldable pub list_or_tuple : SequenceKind → Read Object
  list_or_tuple kind = do
    n ← four bytes
    items ← more (λ before. value) n []
    pure (sequence kind items)

  unfoldable pub dict : Read Object
  dict = do
    n ← four bytes
    pairs ← more pair n []
    pure (the_object.Dict pairs)

  unfoldable pub function : Read Object
  function = do
    at ← place
    source ← text
    function_of at (verdict_alone source)

  unfoldable pub content : ℕ → Read Object
  content tag = if tag == 16 then list_or_tuple sequences.List else (if tag == 17 then dict else (if tag == 18 then function else list_or_tuple sequences.Tuple))

  -- an object of that number, if it was referred to
  unfoldable pub object_by : ℕ → ℕ → ℕ → Read Object
  object_by n at tag spot = if is_object_tag tag then (if nat_lt n spot.met then content tag spot else Err (BadRef at)) else Err (BadTag at)

  unfoldable pub object : List Object → Read Object
  object before = do
    at ← place
    tag ← byte bytes
    object_by (length before) at tag

  unfoldable pub objects : Read (List Object)
  objects = do
    at ← place
    n ← four bytes
    m ← bounded at n
    more object m []

  unfoldable pub values : ℕ → Read (List (Option Value))
  values n = more (λ before. held (n == 1)) n []

  unfoldable pub part : Read PartValue
  part = do
    ns ← names bytes
    vs ← values (length ns)
    os ← objects
    pure (record { names = ns; values = vs; objects = os })

-- ---- the whole

-- at the first byte no object was referred to, and as many may be as four bytes can number; so many texts were
abbrev pub start : ℕ → Spot
start known = record { at = 0; met = 0; most = 2 ^ 32; known = known }

abbrev pub with_size : Result (PartValue × Spot) PartFault → Result (PartValue × ℕ) PartFault
with_size (Ok read) = Ok (read.0, read.1.at)
with_size (Err fault) = Err fault

-- version 1: the part and the number of its bytes, or the first fault in the text
unfoldable pub part_read : List ℕ → Result (PartValue × ℕ) PartFault
part_read bytes = with_size (part InPlace bytes (start 0))

abbrev pub with_known : Result (PartValue × Spot) PartFault → Result (PartValue × ℕ × ℕ) PartFault
with_known (Ok read) = Ok (read.0, read.1.at, read.1.known)
with_known (Err fault) = Err fault

-- a part in a checkpoint of either version, before which so many texts were referred to: the part, the number of its bytes, and how many texts
-- were referred to after it; or the first fault
unfoldable pub part_read2 : Texts → ℕ → List ℕ → Result (PartValue × ℕ × ℕ) PartFault
part_read2 texts known bytes = with_known (part texts bytes (start known))
