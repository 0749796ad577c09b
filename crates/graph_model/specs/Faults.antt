-- What is wrong with a graph, walk by walk.
use Rattle.std.specs.Prelude.{◌≡◌, ◌≢◌, ℕ, ◌-◌, ◌<◌, ◌≤◌, ◌⊎◌, false, true, List, [], ◌∷◌, Contains, length, ◌^◌}
use Rattle.std.specs.Ordering.{nat_cmp}
use Rattle.std.specs.Cmp.Lexicographic.{slice_cmp}
use Rattle.std.specs.declared.cmp.Ordering.TheVariants.{Less}
use Rattle.py_names.specs.Names.{is_identifier, is_variable}
use Rattle.flow_model.specs.First.{IsFirst}
use Rattle.graph_model.specs.declared.graph.CellRecord.{CellRecord}
use Rattle.graph_model.specs.declared.graph.Version.{Version}
use Rattle.graph_model.specs.declared.graph.Graph.{Graph}
use Rattle.graph_model.specs.declared.graph.GraphFault.{GraphFault}
use Rattle.graph_model.specs.declared.graph.GraphFault.TheVariants.{BadWriter, BadRead, TwoActive, BadNames}
use Rattle.graph_model.specs.Graphs.{CellAt, VersionAt}

-- x comes before y, by the bytes
abbrev pub TextBelow : List ℕ → List ℕ → Type 0
TextBelow x y = slice_cmp nat_cmp x y ≡ Less

-- each item but the last comes before the next
abbrev pub Ascends : {X : Type 0} → (X → X → Type 0) → List X → Type 0
Ascends Below [] = Unit {0}
Ascends Below (x ∷ []) = Unit {0}
Ascends Below (x ∷ y ∷ more) = Below x y × Ascends Below (y ∷ more)

-- the first of the names
abbrev pub least_name : List (List ℕ) → List ℕ
least_name [] = []
least_name (name ∷ names) = name

-- some name is none that a program may bind
abbrev pub HasNoVariable : List (List ℕ) → Type 0
HasNoVariable names = (name : List ℕ) × Contains names name × (is_variable name ≡ false)

-- some name is no identifier
abbrev pub HasNoIdentifier : List (List ℕ) → Type 0
HasNoIdentifier names = (name : List ℕ) × Contains names name × (is_identifier name ≡ false)

-- a version has no name, or one that isn't as it should be
abbrev pub NamesAreBad : Version → Type 0
NamesAreBad x = (x.names ≡ []) ⊎ (¬ Ascends TextBelow x.names) ⊎ HasNoVariable x.names ⊎ ((x.absent ≡ true) × (1 < length x.names))

abbrev pub HasBadNames : Graph → ℕ → Type 0
HasBadNames g v = (x : Version) × VersionAt g v x × NamesAreBad x

-- x comes before y: its writer does, or they have one writer and its least name does
abbrev pub ComesBefore : Version → Version → Type 0
ComesBefore x y = (x.writer < y.writer) ⊎ ((x.writer ≡ y.writer) × TextBelow (least_name x.names) (least_name y.names))

-- a version has no writer among this number of cells, or is replaced, but by none of the later ones
abbrev pub CellsAreBad : ℕ → Version → Type 0
CellsAreBad cells x = (x.writer ≡ 0) ⊎ (cells < x.writer) ⊎ ((x.replaced ≢ 0) × ((x.replaced ≤ x.writer) ⊎ (cells < x.replaced)))

-- version v, which is x, doesn't come after the version before it
abbrev pub StandsOutOfOrder : Graph → ℕ → Version → Type 0
StandsOutOfOrder g v x = (y : Version) × VersionAt g (v - 1) y × (¬ ComesBefore y x)

abbrev pub HasBadWriter : Graph → ℕ → Type 0
HasBadWriter g v = (x : Version) × VersionAt g v x × (CellsAreBad (length g.cells) x ⊎ StandsOutOfOrder g v x)

-- version u has this name
abbrev pub HasName : Graph → List ℕ → ℕ → Type 0
HasName g name u = (y : Version) × VersionAt g u y × Contains y.names name

-- u is the next version after v with this name
abbrev pub IsNextWith : Graph → ℕ → List ℕ → ℕ → Type 0
IsNextWith g v name u = IsFirst (λ n. (v < n) × HasName g name n) u

-- version v is not replaced exactly by the first later cell that wrote one of its names, or shares a name with a version of
-- its own writer
abbrev pub IsTwoActive : Graph → ℕ → Type 0
IsTwoActive g v = (x : Version) × VersionAt g v x ×
    (((name : List ℕ) × (u : ℕ) × (y : Version) × Contains x.names name × IsNextWith g v name u × VersionAt g u y × (y.writer ≢ x.replaced))
    ⊎ ((x.replaced ≢ 0) × (name : List ℕ) × Contains x.names name × ((u : ℕ) (y : Version) → VersionAt g u y → y.writer ≡ x.replaced → ¬ Contains y.names name))
    ⊎ ((name : List ℕ) × (u : ℕ) × (y : Version) × (u ≢ v) × Contains x.names name × VersionAt g u y × (y.writer ≡ x.writer) × Contains y.names name))

-- cell c can't have read version v
abbrev pub CannotRead : Graph → ℕ → ℕ → Type 0
CannotRead g c v = ((y : Version) → ¬ VersionAt g v y) ⊎ ((y : Version) × VersionAt g v y × ((c ≤ y.writer) ⊎ ((y.replaced ≢ 0) × (y.replaced < c))))

-- cell c can't have read some version of these
abbrev pub ReadsAreBad : Graph → ℕ → List ℕ → Type 0
ReadsAreBad g c reads = (v : ℕ) × Contains reads v × CannotRead g c v

-- a cell before c wrote the name
abbrev pub WrittenBefore : Graph → ℕ → List ℕ → Type 0
WrittenBefore g c name = (u : ℕ) × (y : Version) × VersionAt g u y × Contains y.names name × (y.writer < c)

-- a cell before c wrote some name of these
abbrev pub MissesAreBad : Graph → ℕ → List (List ℕ) → Type 0
MissesAreBad g c names = (name : List ℕ) × Contains names name × WrittenBefore g c name

-- a list of versions that cell c read is not as it should be
abbrev pub HasWrongReads : Graph → ℕ → List ℕ → Type 0
HasWrongReads g c reads = (¬ Ascends (λ m n. m < n) reads) ⊎ ReadsAreBad g c reads

-- a list of names that cell c missed is not as it should be
abbrev pub HasWrongMisses : Graph → ℕ → List (List ℕ) → Type 0
HasWrongMisses g c names = (¬ Ascends TextBelow names) ⊎ HasNoIdentifier names ⊎ MissesAreBad g c names

-- cell c read what wasn't there, or missed what was
abbrev pub RecordIsBad : Graph → ℕ → CellRecord → Type 0
RecordIsBad g c x = HasWrongReads g c x.reads ⊎ HasWrongMisses g c x.missing

abbrev pub HasBadRead : Graph → ℕ → Type 0
HasBadRead g c = (x : CellRecord) × CellAt g c x × RecordIsBad g c x

abbrev pub Never : (ℕ → Type 0) → Type 0
Never P = (n : ℕ) → ¬ P n

-- four walks, the first three over the versions and the last over the cells: the fault is that of the first walk that
-- meets one, at the least number
abbrev pub IsFault : Graph → GraphFault → Type 0
IsFault g (BadNames v) = IsFirst (HasBadNames g) v
IsFault g (BadWriter v) = Never (HasBadNames g) × IsFirst (HasBadWriter g) v
IsFault g (TwoActive v) = Never (HasBadNames g) × Never (HasBadWriter g) × IsFirst (IsTwoActive g) v
IsFault g (BadRead c) = Never (HasBadNames g) × Never (HasBadWriter g) × Never (IsTwoActive g) × IsFirst (HasBadRead g) c

-- a graph without a fault, with fewer than 2^32 cells and versions
pub record IsGraph (g : Graph) : Type 0 where
  pub cells : length g.cells < 2 ^ 32
  pub versions : length g.versions < 2 ^ 32
  pub names : Never (HasBadNames g)
  pub writers : Never (HasBadWriter g)
  pub replacements : Never (IsTwoActive g)
  pub reads : Never (HasBadRead g)
