-- What a feasible plan copies of a session can be moved.
use Rattle.std.proofs.Common.{◌≡◌, ℕ, suc, ◌+◌, ◌-◌, ◌<◌, ◌==◌, true, false, List, [], ◌∷◌, length, get_or, Some, sym, ap, ◌∙◌, subst, inl, inr, arith}
use Rattle.std.specs.Prelude.{Contains, slice_get}
use Rattle.std.specs.List.{list_any}
use Rattle.std.proofs.lemmas.Bool.{false≢true, or_cases, eqb-true}
use Rattle.std.proofs.lemmas.Option.{get_or_from_slice_get}
use Rattle.py_heap.specs.declared.state.State.{State}
use Rattle.graph_model.specs.declared.graph.Version.{Version}
use Rattle.graph_model.specs.declared.graph.Graph.{Graph}
use Rattle.graph_model.specs.declared.plan.Plan.{Plan}
use Rattle.graph_model.specs.Plans.{NamesOf, IsFeasible}
use Rattle.part_bytes.specs.Sizing.{holds_handle}
use Rattle.checkpoint_bytes.specs.Texts.{lists}
use Rattle.checkpoint_bytes.specs.Sessions.{AreVersionsOf, IsMovableIfCopied}

of_listed : (ns : List ℕ) (n : ℕ) → lists ns n ≡ true → Contains ns n
of_listed [] n h = absurd (false≢true h)
of_listed (m ∷ ns) n h = elim (or_cases (m == n) (list_any (λ k. k == n) ns) h) [
  | inl e ↦ (0, omega arith, eqb-true m n e)
  | inr more ↦ let w = of_listed ns n more in (suc w.0, let l : w.0 < length ns = w.1 in omega arith, w.2)
]

pub copied_moves : (s : State) (g : Graph) (p : Plan) → AreVersionsOf s g → NamesOf g p → IsFeasible g p → (k : ℕ) (d : Version) → k < length g.versions → IsMovableIfCopied s p (k + 1) (get_or g.versions k d)
copied_moves s g p are names feasible k d low listed =
    let in_plan : Contains p.copied (k + 1) = of_listed p.copied (k + 1) listed in
    let held = names.copied (k + 1) in_plan in
    let here : k + 1 - 1 ≡ k = omega arith in
    let at : slice_get g.versions k ≡ Some held.0 = subst (λ (i : ℕ). slice_get g.versions i ≡ Some held.0) here held.1.0.1 in
    subst (λ (y : Version). holds_handle y.names s ≡ false) (sym (get_or_from_slice_get g.versions k held.0 d at))
    (sym (are.handles (k + 1) held.0 held.1) ∙ feasible.no_handle (k + 1) held.0 in_plan held.1.0)
