-- A graph with a stuck pair has no feasible plan.
use Rattle.std.proofs.Common.{ℕ, sym, ◌∙◌, subst, inl, inr}
use Rattle.std.specs.Prelude.{Contains}
use Rattle.std.proofs.lemmas.Bool.{false≢true}
use Rattle.graph_model.specs.declared.graph.Version.{Version}
use Rattle.graph_model.specs.declared.graph.Graph.{Graph}
use Rattle.graph_model.specs.declared.plan.Plan.{Plan}
use Rattle.graph_model.specs.Graphs.{VersionAt, Needs, IsStuck, writer, before}
use Rattle.graph_model.specs.Plans.{IsFeasible}
use Rattle.graph_model.proofs.Lookups.{same_version}

-- if the writer of a version runs again, so does each cell that the version needs
needs_run : (g : Graph) (p : Plan) (v : ℕ) (x : Version) (c : ℕ) → IsFeasible g p → VersionAt g v x → Contains p.rerun x.writer → Needs g v c → Contains p.rerun c
needs_run g p v x c f at r (writer y aty) = subst (λ (z : Version). Contains p.rerun z.writer) (same_version g v x y at aty) r
needs_run g p v x c f at r (before d w n o) = f.closed d w (needs_run g p v x d f at r n) o

pub stuck_forbids : (g : Graph) (v c : ℕ) (p : Plan) → IsStuck g v c → IsFeasible g p → ⊥
stuck_forbids g v c p s f = elim (f.covered v s.version s.active) [
  | inl k ↦ false≢true (sym (f.no_handle v s.version k s.active.0) ∙ s.handle)
  | inr r ↦ false≢true (sym (f.no_draw c s.cell (needs_run g p v s.version c f s.active.0 r s.needed) s.at) ∙ s.drew)
]
