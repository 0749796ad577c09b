-- The bytes of a checkpoint, in both versions of the format: they differ in the head, in the table of texts, and in how a text is spelled.
use Rattle.std.specs.Prelude.{ℕ, ◌+◌, ◌==◌, Bool, true, false, cond, codes, List, [], ◌∷◌, ◌++◌, length, map}
use Rattle.std.specs.List.{flat_map, list_any}
use Rattle.graph_model.specs.declared.graph.CellRecord.{CellRecord}
use Rattle.graph_model.specs.declared.graph.Version.{Version}
use Rattle.graph_model.specs.declared.graph.Graph.{Graph}
use Rattle.graph_model.specs.declared.plan.Plan.{Plan}
use Rattle.py_heap.specs.declared.state.State.{State}
use Rattle.part_bytes.specs.Parts.{part_of}
use Rattle.part_bytes.specs.Tables.{with_texts}
use Rattle.part_bytes.specs.Texts.{four, name_bytes, text_bytes, by_number, spelled_part}
use Rattle.part_bytes.specs.Uses.{part_texts}

abbrev pub truth_byte : Bool → ℕ
truth_byte false = 0
truth_byte true = 1

-- the number is in the list
abbrev pub lists : List ℕ → ℕ → Bool
lists numbers n = list_any (λ m. m == n) numbers

-- what items give, one after the other, which are numbered from n on
abbrev pub each_from : {A B : Type 0} → (ℕ → A → List B) → ℕ → List A → List B
each_from of n [] = []
each_from of n (x ∷ xs) = of n x ++ each_from of (n + 1) xs

-- ---- names, heads and tables

-- how many names, and the names
abbrev pub names_bytes : List (List ℕ) → List ℕ
names_bytes names = four (length names) ++ flat_map name_bytes names

-- four letters, the version of the format, and the session's count and meter
abbrev pub head_bytes : ℕ → ℕ → ℕ → List ℕ
head_bytes version count meter = codes "ENCK" ++ 0 ∷ version ∷ [] ++ four count ++ four meter

-- how many texts, and the texts
abbrev pub table_bytes : List (List ℕ) → List ℕ
table_bytes table = four (length table) ++ flat_map text_bytes table

-- 1 for a name without a value, 2 for a part with a handle, 0 for another part
abbrev pub kind_byte : Version → ℕ
kind_byte version = cond version.absent 1 (cond version.handle 2 0)

-- a version, and whether the plan copies it
abbrev pub plain_version_bytes : Bool → Version → List ℕ
plain_version_bytes copied version = four version.writer ++ four version.replaced ++ kind_byte version ∷ []
    ++ four version.size ++ names_bytes version.names ++ truth_byte copied ∷ []

-- ---- cells and versions, with each text spelled so

module _ (spell : List ℕ → List ℕ) where
  -- a cell's code, meter and steps, whether it drew, and whether the plan runs it again
  abbrev pub cell_head_bytes : Bool → CellRecord → List ℕ
  cell_head_bytes rerun cell = spell cell.code ++ four cell.meter ++ four cell.steps ++ truth_byte cell.drew ∷ truth_byte rerun ∷ []

  -- a cell, with the versions that it read and the names that it missed
  abbrev pub cell_bytes : Bool → CellRecord → List ℕ
  cell_bytes rerun cell = cell_head_bytes rerun cell ++ four (length cell.reads) ++ flat_map four cell.reads ++ names_bytes cell.missing

  -- after a version that is copied, its part
  abbrev pub version_bytes : State → Bool → Version → List ℕ
  version_bytes s copied version = plain_version_bytes copied version ++ cond copied (spelled_part spell (part_of s version.names)) []

  -- how many cells, and the cells, from cell 1 on
  abbrev pub cells_bytes : Plan → List CellRecord → List ℕ
  cells_bytes plan cells = four (length cells) ++ each_from (λ n cell. cell_bytes (lists plan.rerun n) cell) 1 cells

  -- how many versions, and the versions, from version 1 on
  abbrev pub versions_bytes : State → Plan → List Version → List ℕ
  versions_bytes s plan versions = four (length versions) ++ each_from (λ n version. version_bytes s (lists plan.copied n) version) 1 versions

-- ---- the texts

-- the codes of the cells
abbrev pub codes_of : List CellRecord → List (List ℕ)
codes_of cells = map (λ cell. cell.code) cells

-- the texts of the part of a version, if the plan copies it
abbrev pub copied_texts : State → Plan → ℕ → Version → List (List ℕ)
copied_texts s plan n version = cond (lists plan.copied n) (part_texts s version.names) []

-- the texts to which a checkpoint refers, in the order of its bytes and as often as they come: the codes, and then those of the parts
-- that the plan copies
abbrev pub uses : State → Graph → Plan → List (List ℕ)
uses s graph plan = codes_of graph.cells ++ each_from (copied_texts s plan) 1 graph.versions

-- each of them once, in the order of first use
abbrev pub table_of : State → Graph → Plan → List (List ℕ)
table_of s graph plan = with_texts [] (uses s graph plan)

-- ---- the text

-- version 1: the head; the cells; the versions
abbrev pub checkpoint_text1 : State → Graph → Plan → List ℕ
checkpoint_text1 s graph plan = head_bytes 1 s.count s.meter ++ cells_bytes text_bytes plan graph.cells ++ versions_bytes text_bytes s plan graph.versions

-- version 2 with this table
abbrev pub text_with : List (List ℕ) → State → Graph → Plan → List ℕ
text_with table s graph plan = head_bytes 2 s.count s.meter ++ table_bytes table ++ cells_bytes (by_number table) plan graph.cells
    ++ versions_bytes (by_number table) s plan graph.versions

-- version 2: the head; the table of texts; the cells; the versions
abbrev pub checkpoint_text : State → Graph → Plan → List ℕ
checkpoint_text s graph plan = text_with (table_of s graph plan) s graph plan
