-- What the counts and numbers of a checkpoint's text can say.
use Rattle.std.specs.Prelude.{◌≡◌, ℕ, ◌+◌, ◌<◌, ◌^◌, true, All, length, slice_index_or}
use Rattle.graph_model.specs.declared.graph.CellRecord.{CellRecord}
use Rattle.graph_model.specs.declared.graph.Version.{Version}
use Rattle.graph_model.specs.declared.graph.Graph.{Graph}
use Rattle.graph_model.specs.declared.plan.Plan.{Plan}
use Rattle.py_heap.specs.declared.state.State.{State}
use Rattle.part_bytes.specs.Plain.{IsText, IsPlainPart}
use Rattle.checkpoint_bytes.specs.Texts.{lists, table_of}

-- its code is a text, and it read and missed fewer than 2^32
pub record IsPlainCell (x : CellRecord) : Type 0 where
  pub code : IsText x.code
  pub few_reads : length x.reads < 2 ^ 32
  pub few_missing : length x.missing < 2 ^ 32

pub record IsPlainVersion (x : Version) : Type 0 where
  pub size : x.size < 2 ^ 32
  pub few_names : length x.names < 2 ^ 32

-- the part of the version is plain if the plan copies it
abbrev pub IsPlainIfCopied : State → Plan → ℕ → Version → Type 0
IsPlainIfCopied s p v x = lists p.copied v ≡ true → IsPlainPart s x.names

pub record IsPlainCheckpoint (s : State) (g : Graph) (p : Plan) : Type 0 where
  pub count : s.count < 2 ^ 32
  pub texts : length (table_of s g p) < 2 ^ 32
  pub cells : All IsPlainCell g.cells
  pub versions : All IsPlainVersion g.versions
  -- the parts that are copied, by the indexes of their versions
  pub parts : (k : ℕ) (d : Version) → k < length g.versions → IsPlainIfCopied s p (k + 1) (slice_index_or g.versions k d)
