-- What a graph keeps that need not be the history of a run, as one that was read from bytes.
use Rattle.std.specs.Prelude.{◌≡◌, ℕ, suc, true, false, List, Contains}
use Rattle.py_names.specs.Names.{is_identifier, is_variable}
use Rattle.py_heap.specs.References.{IsClosed}
use Rattle.py_machine.specs.Runs.{Name}
use Rattle.graph_model.specs.declared.graph.Version.{Version}
use Rattle.graph_model.specs.declared.graph.Graph.{Graph}
use Rattle.graph_model.specs.Graphs.{IsActive}
use Rattle.py_laws.specs.Same.{Same}
use Rattle.linked_parts.specs.Parts.{HasValue, HasNone, IsPart}
use Rattle.run_graph.specs.Histories.{Run, Looks, Binds, IsWeighed}
use Rattle.run_graph.specs.Soundness.{Spares}

-- the active versions are the parts of the state after cell c, with their handles and the lengths of their texts; the others
-- are absent names
pub record Fits (r : Run) (c : ℕ) (g : Graph) : Type 0 where
  pub are_parts : (v : ℕ) (x : Version) → IsActive g v x → x.absent ≡ false → IsPart (r.state c) x.names
  pub all_parts : (name : Name) → HasValue (r.state c) name → (v : ℕ) × (x : Version) × IsActive g v x × (x.absent ≡ false) × Contains x.names name
  pub are_absent : (v : ℕ) (x : Version) → IsActive g v x → x.absent ≡ true → (name : Name) → Contains x.names name → HasNone (r.state c) name
  pub weights : (v : ℕ) (x : Version) → IsActive g v x → IsWeighed r c x

-- closed states that are the same over some names have one length of the text of their part
pub record TellsParts (r : Run) : Type 0 where
  pub alike : (c d : ℕ) (names : List Name) → IsClosed (r.state c) → IsClosed (r.state d) → Same (Contains names) (r.state c) (r.state d)
      → r.size c names ≡ r.size d names

-- what the meaning gives of the one cell after cell c
pub record IsStep (r : Run) (c : ℕ) : Type 0 where
  pub spares : Spares r c
  pub closed : IsClosed (r.state (suc c))
  pub bound : (x : Name) → Binds r c x → is_variable x ≡ true
  pub looked : (x : Name) → Looks r c x → is_identifier x ≡ true
