-- The parts that are read are copies of the session's versions.
use Rattle.std.proofs.Common.{◌≡◌, ℕ, List, [], ◌∷◌, map, sym, ap, ◌∙◌, subst, inl, inr, arith}
use Rattle.std.specs.Prelude.{Contains}
use Rattle.std.proofs.lemmas.Bool.{cases_eq, eq-eqb, ne_eqb}
use Rattle.py_heap.specs.declared.state.State.{State}
use Rattle.py_heap.specs.References.{IsClosed}
use Rattle.py_laws.specs.Same.{Same}
use Rattle.graph_model.specs.declared.graph.Version.{Version}
use Rattle.graph_model.specs.declared.graph.Graph.{Graph}
use Rattle.graph_model.specs.declared.plan.Plan.{Plan}
use Rattle.graph_model.specs.Graphs.{VersionAt}
use Rattle.run_graph.proofs.Lists.{cons_cases}
use Rattle.part_bytes.specs.declared.part.PartValue.{PartValue}
use Rattle.part_bytes.specs.Parts.{part_of}
use Rattle.part_loader.specs.Loading.{state_of}
use Rattle.part_copies.proofs.Copied.{copy_closed, copy_same}
use Rattle.checkpoint_laws.specs.Spelled.{part_in, part_at, checkpoint_for}
use Rattle.replay_laws.specs.Copies.{AreCopies}
use Rattle.restore_run.specs.Restoring.{part_for, copies}

-- the part beside a number of the list
beside : (f : ℕ → PartValue) (ns : List ℕ) (v : ℕ) → Contains ns v → part_for ns (map f ns) v ≡ f v
beside f [] v c = absurd (let l = c.1 in omega (arith, l))
beside f (n ∷ ns) v c = elim (cases_eq n v) [
  | inl e ↦ rw (eq-eqb n v e) (ap f e)
  | inr d ↦ elim (cons_cases n ns v c) [
    | inl e ↦ absurd (d e)
    | inr more ↦ rw (ne_eqb n v d) (beside f ns v more)
  ]
]

module _ (s : State) (g : Graph) (p : Plan) (closed : IsClosed s) where
  copy_is : (v : ℕ) (x : Version) → Contains p.copied v → VersionAt g v x → copies (checkpoint_for s g p) v ≡ state_of (part_of s x.names)
  copy_is v x c at = ap state_of (beside (part_at s g) p.copied v c ∙ ap (λ o. part_in s o) at.1)

  pub are_copies : AreCopies g p s (copies (checkpoint_for s g p))
  are_copies v x c at present movable =
      let same = sym (copy_is v x c at) in
      (subst IsClosed same (copy_closed s x.names closed), subst (λ (t : State). Same (Contains x.names) s t) same (copy_same s x.names closed))
