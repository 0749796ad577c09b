-- The text of what is read as a checkpoint, in both versions.
use Rattle.std.specs.Prelude.{ℕ, ◌+◌, ◌==◌, cond, if◌then◌else◌, List, [], ◌∷◌, ◌++◌, length, slice_range}
use Rattle.std.specs.List.{flat_map}
use Rattle.byteorder.specs.Endian.{big_number}
use Rattle.graph_model.specs.declared.graph.Version.{Version}
use Rattle.part_bytes.specs.declared.part.PartValue.{PartValue}
use Rattle.part_bytes.specs.Tables.{with_texts}
use Rattle.part_bytes.specs.Texts.{four, text_bytes, by_number, spelled_part}
use Rattle.part_bytes.specs.Uses.{texts_of}
use Rattle.checkpoint_bytes.specs.Texts.{lists, plain_version_bytes, each_from, head_bytes, table_bytes, cells_bytes, codes_of}
use Rattle.checkpoint_reader.specs.declared.fields.Versions.{Versions}
use Rattle.checkpoint_reader.specs.declared.fields.Fields.{Fields}
use Rattle.checkpoint_reader.specs.Judging.{plan_of}

-- ---- with each text spelled so

module _ (spell : List ℕ → List ℕ) where
  -- the part of version n, if it is one of the copied versions, whose parts these are
  abbrev pub part_bytes : List ℕ → List PartValue → ℕ → List ℕ
  part_bytes [] parts n = []
  part_bytes (v ∷ copied) [] n = []
  part_bytes (v ∷ copied) (part ∷ parts) n = cond (v == n) (spelled_part spell part) (part_bytes copied parts n)

  -- version n, whether it is copied, and then its part
  abbrev pub version_bytes : Versions → ℕ → Version → List ℕ
  version_bytes all n version = plain_version_bytes (lists all.copied n) version ++ part_bytes all.copied all.parts n

  -- the cells, and the versions from version 1 on
  abbrev pub body_bytes : Fields → List ℕ
  body_bytes read = cells_bytes spell (plan_of read) read.cells.records
      ++ (four (length read.versions.records) ++ each_from (version_bytes read.versions) 1 read.versions.records)

-- ---- the texts

-- the texts of the codes and of the parts, once each, in the order in which they come first
abbrev pub table_in : Fields → List (List ℕ)
table_in read = with_texts [] (codes_of read.cells.records ++ flat_map texts_of read.versions.parts)

-- ---- the text

abbrev pub fields_text1 : Fields → List ℕ
fields_text1 read = head_bytes 1 read.count read.meter ++ body_bytes text_bytes read

abbrev pub fields_text2 : Fields → List ℕ
fields_text2 read = head_bytes 2 read.count read.meter ++ (table_bytes (table_in read) ++ body_bytes (by_number (table_in read)) read)

-- in version 1, or else in version 2
abbrev pub fields_text : ℕ → Fields → List ℕ
fields_text version read = if version == 1 then fields_text1 read else fields_text2 read

-- the version of the format that bytes say
abbrev pub version_in : List ℕ → ℕ
version_in bytes = big_number 2 (slice_range bytes 4 6)
