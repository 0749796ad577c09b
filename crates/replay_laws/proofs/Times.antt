-- The names that cells bound are those of the versions that hold; and a version that holds is the same from cell to cell.
use Rattle.std.proofs.Common.{ℕ, ◌<◌, ◌≤◌, inl, inr, subst, arith}
use Rattle.std.specs.Prelude.{Contains}
use Rattle.std.proofs.lemmas.Bool.{cases_Bool}
use Rattle.py_machine.specs.Runs.{Name}
use Rattle.py_laws.specs.Same.{Same}
use Rattle.py_laws.proofs.Partners.{one_in}
use Rattle.py_laws.proofs.Sameness.{same_through, same_turned}
use Rattle.graph_model.specs.declared.graph.Version.{Version}
use Rattle.graph_model.specs.declared.graph.Graph.{Graph}
use Rattle.linked_parts.specs.Parts.{HasNone, Apart}
use Rattle.run_graph.specs.Histories.{Run, Binds, HoldsAfter, IsHistory}
use Rattle.run_graph.specs.Soundness.{IsRun}
use Rattle.linked_parts.proofs.Names.{none_reaches}
use Rattle.run_graph.proofs.Reached.{reach_from_one, has_value}
use Rattle.run_graph.proofs.Kept.{part_apart}
use Rattle.run_graph.proofs.Holding.{the_parts}
use Rattle.run_graph.proofs.Checking.{named_bound}
use Rattle.run_graph.proofs.Standing.{stands}

module _ (r : Run) (run : IsRun r) (g : Graph) (h : IsHistory r g) where
  module _ (c : ℕ) (l : c ≤ r.cells) where
    -- a name of a version that holds was bound
    pub bound_of : (v : ℕ) (x : Version) → HoldsAfter g c v x → (name : Name) → Contains x.names name → (e : ℕ) × (e < c) × Binds r e name
    bound_of v x k name p =
        let w = named_bound r run g h v x k.at name p in
        (w.0, let m = w.1 in let n = k.written in omega (arith, m, n), w.2)

    -- a name that was bound is one of a version that holds
    pub held_of : (name : Name) (e : ℕ) → e < c → Binds r e name → (v : ℕ) × (x : Version) × HoldsAfter g c v x × Contains x.names name
    held_of name e less b = elim (has_value (r.state c) name) [
      | inl value ↦ let w = (the_parts r run g h c l).all_parts name value in (w.0, w.1, w.2, w.4)
      | inr none ↦ let w = (the_parts r run g h c l).all_deleted name e less b none in (w.0, w.1, w.2, w.4)
    ]

    -- a version that holds is apart
    pub held_apart : (v : ℕ) (x : Version) → HoldsAfter g c v x → Apart (r.state c) x.names
    held_apart v x k = elim (cases_Bool x.absent) [
      | inr there ↦ part_apart (r.state c) x.names ((the_parts r run g h c l).are_parts v x k there)
      | inl gone ↦ λ at q z out rz.
          let d = (the_parts r run g h c l).are_deleted v x k gone in
          let w = reach_from_one (r.state c) x.names at q in
          none_reaches (r.state c) w.0 (subst (HasNone (r.state c)) (one_in d.0 w.0 (subst (λ ns. Contains ns w.0) d.1 w.1)) d.2) at w.2
    ]

  -- it is the same after two cells after which it holds
  pub same_at : (b c : ℕ) → b ≤ r.cells → c ≤ r.cells → (v : ℕ) (x : Version) → HoldsAfter g b v x → HoldsAfter g c v x → Same (Contains x.names) (r.state b) (r.state c)
  same_at b c l m v x j k =
      same_through (Contains x.names) (r.state b) (r.state x.writer) (r.state c)
      (same_turned (Contains x.names) (r.state x.writer) (r.state b) (stands r run g h b l v x j)) (stands r run g h c m v x k)
