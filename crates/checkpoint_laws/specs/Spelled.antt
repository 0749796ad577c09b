-- Which graphs, plans and states have a text as a checkpoint.
use Rattle.std.specs.Prelude.{Contains, map, slice_get, ◌-◌, Option, Some, None, ◌≡◌, ℕ, ◌+◌, ◌<◌, ◌≤◌, ◌^◌, ◌⊎◌, Bool, true, false, List, [], ◌∷◌, length}
use Rattle.std.specs.List.{AllByRecursion}
use Rattle.std.specs.Str.{is_utf8}
use Rattle.graph_model.specs.declared.graph.CellRecord.{CellRecord}
use Rattle.graph_model.specs.declared.graph.Version.{Version}
use Rattle.graph_model.specs.declared.graph.Graph.{Graph}
use Rattle.graph_model.specs.declared.plan.Plan.{Plan}
use Rattle.graph_model.specs.Graphs.{VersionAt}
use Rattle.py_heap.specs.declared.state.State.{State}
use Rattle.part_bytes.specs.declared.part.PartValue.{PartValue}
use Rattle.part_bytes.specs.Parts.{part_of}
use Rattle.checkpoint_bytes.specs.Texts.{table_of}
use Rattle.checkpoint_laws.specs.SpelledParts.{HasPartText}
use Rattle.checkpoint_reader.specs.declared.checkpoint.Checkpoint.{Checkpoint}
use Rattle.checkpoint_reader.specs.Fields.{is_unlike}

abbrev pub IsCode : List ℕ → Type 0
IsCode text = (is_utf8 text ≡ true) × (length text ≤ 262148)

abbrev pub IsName : List ℕ → Type 0
IsName name = (is_utf8 name ≡ true) × (length name < 256)

abbrev pub AreNames : List (List ℕ) → Type 0
AreNames names = (length names < 2 ^ 32) × AllByRecursion IsName names

abbrev pub AreNumbers : List ℕ → Type 0
AreNumbers numbers = (length numbers < 2 ^ 32) × AllByRecursion (λ n. n < 2 ^ 32) numbers

pub record IsCellRecord (x : CellRecord) : Type 0 where
  pub code : IsCode x.code
  pub meter : x.meter ≤ 16777216
  pub steps : x.steps ≤ 1000000
  pub reads : AreNumbers x.reads
  pub missing : AreNames x.missing

-- only a part without a handle has a size
pub record IsVersion (x : Version) : Type 0 where
  pub writer : x.writer < 2 ^ 32
  pub replaced : x.replaced < 2 ^ 32
  pub kinds : x.absent ≡ true → x.handle ≡ false
  pub size : x.size < 2 ^ 32
  pub none : (x.absent ≡ true) ⊎ (x.handle ≡ true) → x.size ≡ 0
  pub names : AreNames x.names

-- this is so of each version that the plan copies
abbrev pub EachCopied : Graph → Plan → (Version → Type 0) → Type 0
EachCopied g p P = (v : ℕ) (x : Version) → Contains p.copied v → VersionAt g v x → P x

-- in version 1
pub record HasText1 (s : State) (g : Graph) (p : Plan) : Type 0 where
  pub count : s.count < 2 ^ 32
  pub meter : s.meter ≤ 16777216
  pub few_cells : length g.cells < 2 ^ 32
  pub cells : AllByRecursion IsCellRecord g.cells
  pub few_versions : length g.versions < 2 ^ 32
  pub versions : AllByRecursion IsVersion g.versions
  pub parts : EachCopied g p (λ x. HasPartText (part_of s x.names))

-- in version 2, if there are fewer than 2^32 texts
pub record HasText (s : State) (g : Graph) (p : Plan) : Type 0 where
  pub one : HasText1 s g p
  pub texts : length (table_of s g p) < 2 ^ 32

-- ---- the checkpoint that it is read as

-- the part of a version, as the state has it
abbrev pub part_in : State → Option Version → PartValue
part_in s None = record { names = []; values = []; objects = [] }
part_in s (Some x) = part_of s x.names

abbrev pub part_at : State → Graph → ℕ → PartValue
part_at s g v = part_in s (slice_get g.versions (v - 1))

-- a copied version is as its part
abbrev pub IsLike : State → Version → Type 0
IsLike s x = is_unlike x (part_of s x.names) ≡ false

-- the session's count and meter, its graph, the plan, and the part of each version that the plan copies
abbrev pub checkpoint_for : State → Graph → Plan → Checkpoint
checkpoint_for s g p = record { count = s.count; meter = s.meter; graph = g; plan = p; parts = map (part_at s g) p.copied }
