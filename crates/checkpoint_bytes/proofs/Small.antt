-- The texts of a small checkpoint.
use Rattle.std.proofs.Common.{◌≡◌, List, [], ◌∷◌, ◌++◌, Option, ap}
use Rattle.std.specs.Prelude.{ℕ, true, false, codes}
use Rattle.std.specs.Option.{option_map}
use Rattle.py_value.specs.declared.value.Value.{Value}
use Rattle.part_bytes.specs.declared.part.PartValue.{PartValue}
use Rattle.part_bytes.specs.Texts.{four, sixteen, by_number, spelled_part, part_text}
use Rattle.part_bytes.specs.Tables.{with_texts}
use Rattle.part_bytes.specs.Uses.{texts_of}
use Rattle.part_bytes.specs.Parts.{order, number_in, numbered}
use Rattle.part_bytes.specs.Examples.{two_in_x_bytes}
use Rattle.part_bytes.proofs.Small.{has_two, small_text}
use Rattle.graph_model.specs.declared.graph.Version.{Version}
use Rattle.checkpoint_bytes.specs.Texts.{head_bytes, table_bytes, cells_bytes, plain_version_bytes, checkpoint_text, checkpoint_text1}
use Rattle.checkpoint_bytes.specs.Examples.{small_state, small_graph, small_plan, small_bytes, small_bytes1}

-- ---- version 1

-- what comes before the part, and the part
abbrev with_part : List ℕ → List ℕ
with_part part =
    69 ∷ 78 ∷ 67 ∷ 75 ∷ 0 ∷ 1 ∷ 0 ∷ 0 ∷ 0 ∷ 1 ∷ 0 ∷ 0 ∷ 0 ∷ 0 ∷ 0 ∷ 0 ∷ 0 ∷ 1
    ∷ 0 ∷ 0 ∷ 0 ∷ 5 ∷ 120 ∷ 32 ∷ 61 ∷ 32 ∷ 50 ∷ 0 ∷ 0 ∷ 0 ∷ 0 ∷ 0 ∷ 0 ∷ 0 ∷ 2 ∷ 0 ∷ 0 ∷ 0 ∷ 0 ∷ 0 ∷ 0 ∷ 0 ∷ 0 ∷ 0 ∷ 0
    ∷ 0 ∷ 0 ∷ 0 ∷ 1
    ∷ 0 ∷ 0 ∷ 0 ∷ 1 ∷ 0 ∷ 0 ∷ 0 ∷ 0 ∷ 0 ∷ 0 ∷ 0 ∷ 0 ∷ 27 ∷ 0 ∷ 0 ∷ 0 ∷ 1 ∷ 1 ∷ 120 ∷ 1 ∷ part ++ []

same_part : part_text small_state (codes "x" ∷ []) ≡ two_in_x_bytes
unfolding order four sixteen
same_part = small_text

pub small_checkpoint1 : checkpoint_text1 small_state small_graph small_plan ≡ small_bytes1
unfolding four order sixteen
small_checkpoint1 = ap with_part same_part

-- ---- version 2, by what `x` has

abbrev the_part : Option Value → PartValue
the_part held = record { names = codes "x" ∷ []; values = option_map (numbered (number_in [])) held ∷ []; objects = [] }

abbrev the_table : Option Value → List (List ℕ)
the_table held = with_texts [] (codes "x = 2" ∷ (texts_of (the_part held) ++ []))

abbrev the_version : Version
the_version = record { names = codes "x" ∷ []; writer = 1; replaced = 0; absent = false; handle = false; size = 27 }

abbrev the_whole : Option Value → List ℕ
the_whole held = head_bytes 2 1 0 ++ table_bytes (the_table held) ++ cells_bytes (by_number (the_table held)) small_plan small_graph.cells
    ++ (four 1 ++ ((plain_version_bytes true the_version ++ spelled_part (by_number (the_table held)) (the_part held)) ++ []))

pub small_checkpoint : checkpoint_text small_state small_graph small_plan ≡ small_bytes
unfolding four order sixteen
small_checkpoint = ap the_whole has_two
