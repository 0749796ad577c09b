-- What the command `plan` says of the bytes of a checkpoint, and its status.
use Rattle.std.specs.Prelude.{◌≡◌, ◌⊎◌, ℕ, codes, List, [], ◌++◌, Ok, Err}
use Rattle.std.specs.Fmt.{decimal}
use Rattle.graph_model.specs.declared.graph.Graph.{Graph}
use Rattle.graph_model.specs.declared.graph.GraphFault.{GraphFault}
use Rattle.graph_model.specs.declared.graph.GraphFault.TheVariants.{BadWriter, BadRead, TwoActive, BadNames}
use Rattle.graph_model.specs.declared.plan.Weights.{Weights}
use Rattle.graph_model.specs.declared.plan.Certified.{Certified}
use Rattle.graph_model.specs.Graphs.{IsFirstStuck}
use Rattle.graph_model.specs.Plans.{AreAdmitted}
use Rattle.graph_model.specs.Networks.{IsCertified}
use Rattle.plan_model.specs.declared.feasibility.Item.{Item}
use Rattle.plan_model.specs.declared.feasibility.Item.TheVariants as item
use Rattle.plan_model.specs.declared.weights.WeightFault.TheVariants.{TooMuch}
use Rattle.plan_model.specs.Weighing.{IsWeightFault}
use Rattle.checkpoint_commands.specs.Lines.{new_line, plan_lines}
use Rattle.checkpoint_reader.specs.declared.checkpoint.Checkpoint.{Checkpoint}
use Rattle.checkpoint_reader.specs.declared.fault.CheckpointFault.{CheckpointFault}
use Rattle.checkpoint_reader.specs.declared.fault.CheckpointFault.TheVariants as fault
use Rattle.checkpoint_reader.specs.Fields.{fields}
use Rattle.checkpoint_reader.specs.Judging.{IsAnswer}

abbrev pub at_byte : ℕ → List ℕ
at_byte at = codes "bad checkpoint at " ++ decimal at ++ new_line

abbrev pub in_version : ℕ → List ℕ
in_version v = codes "bad checkpoint in version " ++ decimal v ++ new_line

abbrev pub in_cell : ℕ → List ℕ
in_cell c = codes "bad checkpoint in cell " ++ decimal c ++ new_line

abbrev pub graph_line : GraphFault → List ℕ
graph_line (BadWriter v) = in_version v
graph_line (BadRead c) = in_cell c
graph_line (TwoActive v) = in_version v
graph_line (BadNames v) = in_version v

abbrev pub item_line : Item → List ℕ
item_line (item.Version v) = in_version v
item_line (item.Cell c) = in_cell c

-- the first thing that is wrong: a byte, a version or a cell; a fault in a part is at the part's first byte
abbrev pub fault_line : CheckpointFault → List ℕ
fault_line fault.OutOfMemory = []
fault_line fault.BadMagic = at_byte 0
fault_line (fault.BadVersion n) = at_byte 4
fault_line (fault.Cut at) = at_byte at
fault_line (fault.Part at f) = at_byte at
fault_line (fault.Graph f) = graph_line f
fault_line (fault.PlanDisagrees i) = item_line i
fault_line (fault.Trailing at) = at_byte at
fault_line (fault.BadField at) = at_byte at

abbrev pub too_much_line : ℕ → List ℕ
too_much_line sum = codes "too much " ++ decimal sum ++ new_line

abbrev pub stuck_line : ℕ → ℕ → List ℕ
stuck_line v c = codes "stuck v" ++ decimal v ++ codes " c" ++ decimal c ++ new_line

-- 0 with the lines of a certified plan, if the weights are admitted, so that no plan costs less; 6 if they sum to 2^63 or more, or
-- else if a pair is stuck
abbrev pub IsPlanned : Graph → Weights → ℕ → List ℕ → Type 0
IsPlanned g w status text = ((status ≡ 0) × AreAdmitted g w × (c : Certified) × IsCertified g w c × (text ≡ plan_lines g c))
    ⊎ ((status ≡ 6) × (sum : ℕ) × IsWeightFault g w (TooMuch sum) × (text ≡ too_much_line sum))
    ⊎ ((status ≡ 6) × AreAdmitted g w × (v : ℕ) × (cell : ℕ) × IsFirstStuck g v cell × (text ≡ stuck_line v cell))

-- what is said of the graph of a checkpoint; or 7, if the bytes are none
abbrev pub IsSaid : List ℕ → Weights → ℕ → List ℕ → Type 0
IsSaid bytes w status text = ((k : Checkpoint) × IsAnswer (fields bytes 0) (Ok k) × IsPlanned k.graph w status text)
    ⊎ ((status ≡ 7) × (f : CheckpointFault) × IsAnswer (fields bytes 0) (Err f) × (text ≡ fault_line f))
