-- The versions that a cell reads, one version that holds after the other.
use Rattle.std.proofs.Common.{◌≡◌, ℕ, ◌+◌, ◌<◌, ◌≤◌, List, [], ◌∷◌, ◌++◌, length, get_or, take}
use Rattle.std.specs.Prelude.{Contains, ◌↔◌}
use Rattle.py_machine.specs.declared.marks.Marks.{Marks}
use Rattle.graph_model.specs.declared.graph.Version.{Version}
use Rattle.graph_model.specs.declared.graph.Graph.{Graph}
use Rattle.graph_model.specs.Graphs.{IsActive}
use Rattle.graph_model.proofs.Lookups.{of_version}
use Rattle.history_graph.specs.Active.{AreActive, AreThose}
use Rattle.history_graph.specs.Touched.{AreTouched, Reads}
use Rattle.history_graph.proofs.Listing.{Ascend, those_push, those_skip, those_all}

module _ (g : Graph) (marks : Marks) (active : List ℕ) (i v : ℕ) (a : Ascend active) (l : i < length active) (is : v ≡ get_or active i v) (reads : List ℕ)
    (h : AreThose (Reads g marks) (take i active) reads) (x : Version) (at : IsActive g v x) where
  pub reads_push : AreTouched marks x.names → AreThose (Reads g marks) (take (i + 1) active) (reads ++ v ∷ [])
  reads_push t = those_push (Reads g marks) active i v a l is reads h (x, at.0, (at.1, t))

  pub reads_skip : ¬ AreTouched marks x.names → AreThose (Reads g marks) (take (i + 1) active) reads
  reads_skip n =
      those_skip (Reads g marks) active i v a l is reads h (λ k. n (of_version (λ (y : Version). AreTouched marks y.names) g v x k.0 at.0 k.1 k.2.1))

pub reads_all : (g : Graph) (marks : Marks) (active : List ℕ) (i : ℕ) (reads : List ℕ) → AreActive g active → length active ≤ i → AreThose (Reads g marks) (take i active) reads
    → (v : ℕ) → Contains reads v ↔ Reads g marks v
reads_all g marks active i reads is l h =
    let k = those_all (Reads g marks) active i reads l h in
    λ v. (λ c. ((k.those v).0 c).1, λ r. (k.those v).1 ((is.holds v).1 (r.0, (r.1, r.2.0)), r))
