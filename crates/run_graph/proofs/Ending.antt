-- The active versions of a history are the parts of the last state.
use Rattle.std.proofs.Common.{ℕ, inl, inr, subst, arith}
use Rattle.std.specs.Prelude.{Contains}
use Rattle.py_laws.proofs.Partners.{one_in}
use Rattle.graph_model.specs.declared.graph.Version.{Version}
use Rattle.graph_model.specs.declared.graph.Graph.{Graph}
use Rattle.graph_model.specs.Graphs.{IsActive}
use Rattle.linked_parts.specs.Parts.{HasNone}
use Rattle.run_graph.specs.Histories.{Run, HoldsAfter, IsHistory}
use Rattle.run_graph.specs.Soundness.{IsRun, AreTheParts}
use Rattle.run_graph.specs.Fitting.{Fits, TellsParts}
use Rattle.run_graph.proofs.Holding.{writer_within, the_parts}
use Rattle.run_graph.proofs.Standing.{stands}
use Rattle.run_graph.proofs.Weighing.{weighed_later}

module _ (r : Run) (run : IsRun r) (g : Graph) (h : IsHistory r g) where
  holds : (v : ℕ) (x : Version) → IsActive g v x → HoldsAfter g r.cells v x
  holds v x active = record { at = active.0; written = (writer_within r run g h v x active.0).1; stands = inl active.1 }

  active : (v : ℕ) (x : Version) → HoldsAfter g r.cells v x → IsActive g v x
  active v x k = (
    k.at,
    elim (h.replaced v x k.at) [
      | inl a ↦ a.0
      | inr f ↦
          let l = (writer_within r run g h f.0.1 f.0.2 f.0.4).1 in
          let e = f.0.5 in
          elim k.stands [ inl z ↦ z | inr more ↦ let none : ⊥ = omega (arith, l, e, more) in absurd none ]
    ],
  )

  abbrev last : AreTheParts r g r.cells
  last = the_parts r run g h r.cells (omega arith)

  pub fits : TellsParts r → Fits r r.cells g
  fits tells = record {
    are_parts = λ v x a there. last.are_parts v x (holds v x a) there;
    all_parts = λ name value. let w = last.all_parts name value in (w.0, w.1, active w.0 w.1 w.2, w.3, w.4);
    are_absent = λ v x a gone name p. let d = last.are_deleted v x (holds v x a) gone in
        subst (HasNone (r.state r.cells)) (one_in d.0 name (subst (λ ns. Contains ns name) d.1 p)) d.2;
    weights = λ v x a.
        let same = stands r run g h r.cells (omega arith) v x (holds v x a) in
        weighed_later r x.writer r.cells x same (tells.alike x.writer r.cells x.names (run.closed x.writer) (run.closed r.cells) same) (h.weights v x a.0);
  }
