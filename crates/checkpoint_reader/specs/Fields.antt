-- How bytes are read as the fields of a checkpoint of either version of the format, in their order and up to the end of the bytes. The place of
-- a fault is that of the field. In version 2 texts are read once, in a table, and then by their numbers: `known` is how many were referred to
-- by then.
use Rattle.std.specs.Prelude.{ℕ, ◌+◌, ◌==◌, ◌&&◌, ◌||◌, not, nat_eq, nat_le, Bool, true, false, if◌then◌else◌, codes, List, [], ◌∷◌, ◌++◌, length, drop, slice_get, slice_index, slice_range, Option, Some, None, Result, Ok, Err}
use Rattle.std.specs.List.{starts_with}
use Rattle.std.specs.Str.{is_utf8}
use Rattle.std.specs.Cmp.Lexicographic.{pointwise}
use Rattle.byteorder.specs.Endian.{big_number}
use Rattle.py_value.specs.declared.value.Value.{Value}
use Rattle.graph_model.specs.declared.graph.CellRecord.{CellRecord}
use Rattle.graph_model.specs.declared.graph.Version.{Version}
use Rattle.part_bytes.specs.declared.part.PartValue.{PartValue}
use Rattle.part_bytes.specs.Tables.{has_text}
use Rattle.part_bytes.specs.Texts.{bytes_of}
use Rattle.checkpoint_reader.specs.declared.forms.Texts.{Texts}
use Rattle.checkpoint_reader.specs.declared.forms.Texts.TheVariants.{InPlace, Numbered}
use Rattle.checkpoint_reader.specs.declared.part_fault.PartFault.{PartFault}
use Rattle.checkpoint_reader.specs.PartReading.{known_after, part_read2}
use Rattle.checkpoint_reader.specs.declared.fields.Listed.{Listed}
use Rattle.checkpoint_reader.specs.declared.fields.Table.{Table}
use Rattle.checkpoint_reader.specs.declared.fields.Cells.{Cells}
use Rattle.checkpoint_reader.specs.declared.fields.Versions.{Versions}
use Rattle.checkpoint_reader.specs.declared.fields.Fields.{Fields}
use Rattle.checkpoint_reader.specs.declared.fault.CheckpointFault.TheVariants.{BadMagic, BadVersion, Cut, Part, Trailing, BadField}
use Rattle.checkpoint_reader.specs.Reads.{Answer, Read, pure, fail, place, ◌>>=◌, turns, many}

-- ---- what is made of what was read

abbrev pub letters : List ℕ
letters = codes "ENCK"

-- the bytes begin with the letters, or are too few and begin the letters
abbrev pub begins : List ℕ → Bool
begins bytes = starts_with nat_eq bytes letters || starts_with nat_eq letters bytes

abbrev pub format_of : ℕ → Read ℕ
format_of n = if (n == 1) || (n == 2) then pure n else fail (BadVersion n)

abbrev pub bounded : ℕ → ℕ → ℕ → Read ℕ
bounded most at n = if nat_le n most then pure n else fail (BadField at)

abbrev pub truth_of : ℕ → ℕ → Read Bool
truth_of at b = if b == 0 then pure false else (if b == 1 then pure true else fail (BadField at))

abbrev pub as_text_field : ℕ → List ℕ → Read (List ℕ)
as_text_field at xs = if is_utf8 xs then pure xs else fail (BadField at)

-- the texts so far and one more, which is none of them
abbrev pub listed_after : ℕ → Listed → List ℕ → Read Listed
listed_after at before xs = if is_utf8 xs && not (has_text before.texts xs) then pure (record { texts = before.texts ++ xs ∷ []; places = before.places ++ at ∷ [] })
    else fail (BadField at)

abbrev pub code_of : ℕ → List ℕ → Read (List ℕ)
code_of at xs = if nat_le (length xs) 262148 then as_text_field at xs else fail (BadField at)

abbrev pub code_there : ℕ → ℕ → ℕ → Option (List ℕ) → Read (List ℕ × ℕ)
code_there at known n (Some t) = if nat_le (length t) 262148 then pure (t, known_after known n) else fail (BadField at)
code_there at known n None = fail (BadField at)

-- the text of that number as a code, if it was referred to before or is the next one
abbrev pub numbered_code : List (List ℕ) → ℕ → ℕ → ℕ → Read (List ℕ × ℕ)
numbered_code table known at n = if nat_le n known then code_there at known n (slice_get table n) else fail (BadField at)

-- only a part without a handle has a size
abbrev pub size_of : ℕ → ℕ → ℕ → Read ℕ
size_of flag at n = if (flag == 0) || (n == 0) then pure n else fail (BadField at)

-- a part, and how many texts were referred to after it
abbrev pub part_of : ℕ → Result (PartValue × ℕ × ℕ) PartFault → Answer (PartValue × ℕ)
part_of at (Ok read) = Ok ((read.0, read.2), at + read.1)
part_of at (Err fault) = Err (Part at fault)

-- the numbers, and this one if it is marked
abbrev pub marked : List ℕ → ℕ → Bool → List ℕ
marked numbers n mark = if mark then numbers ++ n ∷ [] else numbers

-- the cells, and one more with whether it is run again and how many texts were referred to after it
abbrev pub with_cell : Cells → CellRecord × Bool × ℕ → Cells
with_cell before cell = record {
  records = before.records ++ cell.0 ∷ [];
  rerun = marked before.rerun (length before.records + 1) cell.1;
  known = cell.2;
}

abbrev pub with_version : Versions → Version → Versions
with_version before x = record before { records = before.records ++ x ∷ [] }

abbrev pub has_no_value : List (Option Value) → Bool
has_no_value [] = false
has_no_value (None ∷ values) = true
has_no_value (Some v ∷ values) = false

abbrev pub is_same : List (List ℕ) → List (List ℕ) → Bool
is_same xs ys = pointwise (pointwise nat_eq) xs ys

-- an absent name's part has no value; any other part has one, and its text in version 1 is as long as the version's size
abbrev pub is_otherwise : Version → PartValue → Bool
is_otherwise x part = if x.absent then not (has_no_value part.values) else (has_no_value part.values || not (length (bytes_of part) == x.size))

-- a copied version is replaced or holds a handle, or its part isn't as the version says
abbrev pub is_unlike : Version → PartValue → Bool
is_unlike x part = not (x.replaced == 0) || (x.handle || (not (is_same part.names x.names) || is_otherwise x part))

-- the number that was found before, or else this one if it is found
abbrev pub first_found : Option ℕ → ℕ → Bool → Option ℕ
first_found (Some m) n found = Some m
first_found None n found = if found then Some n else None

-- the versions, and one more that is copied, with its part and how many texts were referred to after it
abbrev pub with_copy : Versions → Version → PartValue × ℕ → Versions
with_copy before x copy = record {
  records = before.records ++ x ∷ [];
  copied = before.copied ++ (length before.records + 1) ∷ [];
  parts = before.parts ++ copy.0 ∷ [];
  unlike = first_found before.unlike (length before.records + 1) (is_unlike x copy.0);
  known = copy.1;
}

abbrev pub none_listed : Listed
none_listed = record { texts = []; places = [] }

abbrev pub no_table : Table
no_table = record { texts = InPlace; places = [] }

abbrev pub table_of : Listed → Table
table_of listed = record { texts = Numbered listed.texts; places = listed.places }

abbrev pub no_cells : Cells
no_cells = record { records = []; rerun = []; known = 0 }

abbrev pub no_versions : ℕ → Versions
no_versions known = record { records = []; copied = []; parts = []; unlike = None; known = known }

-- no text is left to which nothing refers; or there is one at this place
abbrev pub all_used : Option ℕ → Fields → Read Fields
all_used None read = pure read
all_used (Some unused) read = fail (BadField unused)

-- ---- the steps

module _ (bytes : List ℕ) where
  -- the next bytes, of the field at that place
  unfoldable pub taken : ℕ → ℕ → Read (List ℕ)
  taken field n at = if nat_le (at + n) (length bytes) then Ok (slice_range bytes at (at + n), at + n) else Err (Cut field)

  unfoldable pub byte : Read ℕ
  byte = do
    at ← place
    xs ← taken at 1
    pure (slice_index xs 0)

  unfoldable pub two : Read ℕ
  two = do
    at ← place
    xs ← taken at 2
    pure (big_number 2 xs)

  unfoldable pub four : Read ℕ
  four = do
    at ← place
    xs ← taken at 4
    pure (big_number 4 xs)

  -- with fewer than four bytes that begin the letters, the letters are cut
  unfoldable pub magic : Read (List ℕ)
  magic = if begins bytes then taken 0 4 else fail BadMagic

  unfoldable pub format : Read ℕ
  format = do
    n ← two
    format_of n

  -- a number in four bytes that isn't above a bound
  unfoldable pub at_most : ℕ → Read ℕ
  at_most most = do
    at ← place
    n ← four
    bounded most at n

  unfoldable pub truth : Read Bool
  truth = do
    at ← place
    b ← byte
    truth_of at b

  -- the next text of the table
  unfoldable pub next_text : Listed → Read Listed
  next_text before = do
    at ← place
    n ← four
    xs ← taken at n
    listed_after at before xs

  -- the texts of version 2; none in version 1
  unfoldable pub table : ℕ → Read Table
  table version = if version == 1 then pure no_table else (four >>= λ n. turns next_text n none_listed >>= λ listed. pure (table_of listed))

  -- a code after its length
  unfoldable pub code : Read (List ℕ)
  code = do
    at ← place
    n ← four
    xs ← taken at n
    code_of at xs

  -- a code by its number, and how many texts were referred to after it
  unfoldable pub code_by_number : List (List ℕ) → ℕ → Read (List ℕ × ℕ)
  code_by_number all known = do
    at ← place
    n ← four
    numbered_code all known at n

  abbrev pub code_as : Texts → ℕ → Read (List ℕ × ℕ)
  code_as InPlace known = code >>= λ t. pure (t, known)
  code_as (Numbered all) known = code_by_number all known

  unfoldable pub name : Read (List ℕ)
  name = do
    at ← place
    n ← byte
    xs ← taken at n
    as_text_field at xs

  unfoldable pub numbers : Read (List ℕ)
  numbers = do
    n ← four
    many four n

  unfoldable pub names : Read (List (List ℕ))
  names = do
    n ← four
    many name n

  -- a cell, whether the plan runs it again, and how many texts were referred to after it
  unfoldable pub cell : Texts → ℕ → Read (CellRecord × Bool × ℕ)
  cell texts known = do
    text ← code_as texts known
    meter ← at_most 16777216
    steps ← at_most 1000000
    drew ← truth
    rerun ← truth
    reads ← numbers
    missing ← names
    pure (record { code = text.0; meter = meter; steps = steps; drew = drew; reads = reads; missing = missing }, rerun, text.1)

  -- 0 for a part without a handle, 1 for a name that was deleted, 2 for a part with a handle
  unfoldable pub flag : Read ℕ
  flag = do
    at ← place
    b ← byte
    bounded 2 at b

  unfoldable pub size : ℕ → Read ℕ
  size kind = do
    at ← place
    n ← four
    size_of kind at n

  -- a version, and whether the plan copies it
  unfoldable pub version : Read (Version × Bool)
  version = do
    writer ← four
    replaced ← four
    kind ← flag
    len ← size kind
    all ← names
    copied ← truth
    pure (record { names = all; writer = writer; replaced = replaced; absent = kind == 1; handle = kind == 2; size = len }, copied)

  -- a part, and how many texts were referred to after it
  unfoldable pub part : Texts → ℕ → Read (PartValue × ℕ)
  part texts known at = part_of at (part_read2 texts known (drop at bytes))

  unfoldable pub next_cell : Texts → Cells → Read Cells
  next_cell texts before = cell texts before.known >>= λ c. pure (with_cell before c)

  unfoldable pub kept : Texts → Versions → Version → Bool → Read Versions
  kept texts before x copied = if copied then (part texts before.known >>= λ copy. pure (with_copy before x copy)) else pure (with_version before x)

  unfoldable pub next_version : Texts → Versions → Read Versions
  next_version texts before = version >>= λ x. kept texts before x.0 x.1

  unfoldable pub cells : Texts → Read Cells
  cells texts = do
    n ← four
    turns (next_cell texts) n no_cells

  unfoldable pub versions : Texts → ℕ → Read Versions
  versions texts known = do
    n ← four
    turns (next_version texts) n (no_versions known)

  -- no byte is left
  unfoldable pub ended : Fields → Read Fields
  ended read at = if at == length bytes then Ok (read, at) else Err (Trailing at)

  unfoldable pub fields : Read Fields
  fields = do
    _ ← magic
    version ← format
    count ← four
    meter ← at_most 16777216
    listed ← table version
    all_cells ← cells listed.texts
    all_versions ← versions listed.texts all_cells.known
    read ← all_used (slice_get listed.places all_versions.known) (record { count = count; meter = meter; cells = all_cells; versions = all_versions })
    ended read
