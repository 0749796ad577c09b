-- The history graph of a run: what each cell read, missed and wrote. (Li et al., ElasticNotebook: the application history
-- graph.) It is told by whole states before and after each cell, and by what the marks of the cell report.
use Rattle.std.specs.Prelude.{◌≡◌, ℕ, suc, ◌<◌, ◌≤◌, ◌⊎◌, ◌↔◌, Bool, true, false, List, [], ◌∷◌, Contains, length}
use Rattle.flow_model.specs.First.{IsFirst}
use Rattle.nb_outside.specs.declared.feed.Drawn.{Drawn}
use Rattle.py_heap.specs.declared.state.State.{State}
use Rattle.py_heap.specs.Reaching.{Reach}
use Rattle.py_machine.specs.declared.marks.Marks.{Marks}
use Rattle.py_machine.specs.Marked.{IsIn}
use Rattle.py_machine.specs.Runs.{Name}
use Rattle.graph_model.specs.declared.graph.CellRecord.{CellRecord}
use Rattle.graph_model.specs.declared.graph.Version.{Version}
use Rattle.graph_model.specs.declared.graph.Graph.{Graph}
use Rattle.graph_model.specs.Graphs.{CellAt, VersionAt}
use Rattle.graph_model.specs.Faults.{TextBelow, Ascends, ComesBefore, Never}
use Rattle.linked_parts.specs.Parts.{HasValue, HasNone, IsPart}
use Rattle.run_graph.specs.Parts.{HasHandle}

-- a run of cells, numbered from 1: the state after each, which after none is the state that it began with, and what each did
pub record Run : Type 0 where
  pub cells : ℕ
  pub state : ℕ → State
  pub marks : ℕ → Marks
  -- its code, as it is recorded
  pub code : ℕ → List ℕ
  pub steps : ℕ → ℕ
  -- the draws that it took
  pub draws : ℕ → List Drawn
  -- the session's count as it began
  pub counts : ℕ → ℕ
  -- after the cell, the length of the text of the part with these names, or 0
  pub size : ℕ → List Name → ℕ

-- ---- what a cell did. Each of these speaks of the cell after cell c, so c is also the number of cells before it

-- it looked the name up, found or not, before it bound or deleted it
abbrev pub Looks : Run → ℕ → Name → Type 0
Looks r c x = IsIn (r.marks (suc c)).looked x

-- it bound or deleted the name
abbrev pub Binds : Run → ℕ → Name → Type 0
Binds r c x = IsIn (r.marks (suc c)).bound x

-- it changed the object
abbrev pub Changes : Run → ℕ → ℕ → Type 0
Changes r c at = IsIn (r.marks (suc c)).changed at

-- ---- what a cell writes

-- the part is as it was: none of its names was bound or deleted, no object of it was changed, and it was a part before
pub record IsKept (r : Run) (c : ℕ) (names : List Name) : Type 0 where
  pub names_stay : (x : Name) → Contains names x → ¬ Binds r c x
  pub objects_stay : (at : ℕ) → Reach (r.state (suc c)) names at → ¬ Changes r c at
  pub before : IsPart (r.state c) names

-- a name of the part was bound or deleted, or an object of it was changed, or it was no part before
abbrev pub IsWritten : Run → ℕ → List Name → Type 0
IsWritten r c names =
    ((x : Name) × Contains names x × Binds r c x)
    ⊎ ((at : ℕ) × Reach (r.state (suc c)) names at × Changes r c at)
    ⊎ (¬ IsPart (r.state c) names)

-- the name was bound or deleted, and has no value now
abbrev pub IsDeleted : Run → ℕ → Name → Type 0
IsDeleted r c x = Binds r c x × HasNone (r.state (suc c)) x

-- the version is what the cell left: a part that it wrote, or one name that it deleted
abbrev pub IsLeft : Run → ℕ → Version → Type 0
IsLeft r c x =
    ((x.absent ≡ false) × IsPart (r.state (suc c)) x.names × IsWritten r c x.names)
    ⊎ ((x.absent ≡ true) × (name : Name) × (x.names ≡ name ∷ []) × IsDeleted r c name)

-- some version has this writer, these names and this mark
abbrev pub IsAVersion : Graph → ℕ → List Name → Bool → Type 0
IsAVersion g w names absent = (v : ℕ) × (x : Version) × VersionAt g v x × (x.writer ≡ w) × (x.names ≡ names) × (x.absent ≡ absent)

-- the version tells of its part after cell c whether a handle is in it, and how long its text is
abbrev pub IsWeighed : Run → ℕ → Version → Type 0
IsWeighed r c x = ((x.handle ≡ true) ↔ HasHandle (r.state c) x.names) × (x.size ≡ r.size c x.names)

-- ---- versions that hold

-- version v, which is x, was written by cell c or before, and no cell up to c replaced it
pub record HoldsAfter (g : Graph) (c v : ℕ) (x : Version) : Type 0 where
  pub at : VersionAt g v x
  pub written : x.writer ≤ c
  pub stands : (x.replaced ≡ 0) ⊎ (c < x.replaced)

-- a cell after the writer of x, of number w, wrote a version of one of its names
abbrev pub Rewrites : Graph → Version → ℕ → Type 0
Rewrites g x w = (x.writer < w) × (u : ℕ) × (y : Version) × (name : Name) × VersionAt g u y × (y.writer ≡ w) × Contains x.names name × Contains y.names name

-- replaced by the first such cell, or by none
abbrev pub IsReplacedFirst : Graph → Version → Type 0
IsReplacedFirst g x = ((x.replaced ≡ 0) × Never (Rewrites g x)) ⊎ IsFirst (Rewrites g x) x.replaced

-- ---- what a cell reads and misses

-- the cell after cell c read version v, which held as it began: it looked one of its names up, or it bound one of them and
-- the version has two or more
abbrev pub IsRead : Run → Graph → ℕ → ℕ → Type 0
IsRead r g c v = (x : Version) × HoldsAfter g c v x × (name : Name) × Contains x.names name
    × (Looks r c name ⊎ (Binds r c name × (1 < length x.names)))

-- it looked the name up, and no earlier cell had bound it
abbrev pub IsMissed : Run → ℕ → Name → Type 0
IsMissed r c name = Looks r c name × ((e : ℕ) → e < c → ¬ Binds r e name)

-- it looked the name up, and no version of the graph has it
abbrev pub IsUnwritten : Run → Graph → ℕ → Name → Type 0
IsUnwritten r g c name = Looks r c name × ((v : ℕ) (y : Version) → VersionAt g v y → ¬ Contains y.names name)

-- the record of the cell after cell c, with these names as the missed ones
pub record IsRecordWith (Missed : Name → Type 0) (r : Run) (g : Graph) (c : ℕ) (x : CellRecord) : Type 0 where
  pub code : x.code ≡ r.code (suc c)
  pub meter : x.meter ≡ (r.state c).meter
  pub steps : x.steps ≡ r.steps (suc c)
  pub drew : x.drew ≡ (r.marks (suc c)).drew
  pub reads_ascend : Ascends (λ m n. m < n) x.reads
  pub reads : (v : ℕ) → Contains x.reads v ↔ IsRead r g c v
  pub missing_ascends : Ascends TextBelow x.missing
  pub missing : (name : Name) → Contains x.missing name ↔ Missed name

abbrev pub IsRecord : Run → Graph → ℕ → CellRecord → Type 0
IsRecord r g c x = IsRecordWith (IsMissed r c) r g c x

-- ---- the graph

-- g is the history graph of the run
pub record IsHistory (r : Run) (g : Graph) : Type 0 where
  -- a record for each cell
  pub cells : length g.cells ≡ r.cells
  pub records : (c : ℕ) (x : CellRecord) → CellAt g (suc c) x → IsRecord r g c x
  -- each version is what its writer left, in the order of the writers, and for one writer by the least name
  pub versions : (v : ℕ) (x : Version) → VersionAt g v x → (c : ℕ) × (x.writer ≡ suc c) × (c < r.cells) × IsLeft r c x
  pub order : (v : ℕ) (x y : Version) → VersionAt g v x → VersionAt g (suc v) y → ComesBefore x y
  pub replaced : (v : ℕ) (x : Version) → VersionAt g v x → IsReplacedFirst g x
  pub weights : (v : ℕ) (x : Version) → VersionAt g v x → IsWeighed r x.writer x
  -- each name that has a value after a cell is in a part, and the cell kept that part or wrote it
  pub parts : (c : ℕ) (x : Name) → c < r.cells → HasValue (r.state (suc c)) x
      → (names : List Name) × Contains names x × IsPart (r.state (suc c)) names × (IsKept r c names ⊎ IsAVersion g (suc c) names false)
  -- each name that a cell deleted is a version
  pub deleted : (c : ℕ) (x : Name) → c < r.cells → IsDeleted r c x → IsAVersion g (suc c) (x ∷ []) true
