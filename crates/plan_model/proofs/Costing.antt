-- A feasible plan costs no more than all finite weights.
use Rattle.std.proofs.Common.{◌≡◌, ℕ, ◌+◌, ◌-◌, ◌<◌, ◌≤◌, false, cond, length, Option, Some, None, ap, ◌∙◌, inl, inr, arith}
use Rattle.std.specs.Prelude.{sum_by, slice_get, ◌==◌, filter}
use Rattle.std.proofs.lemmas.Bool.{cases_Bool, cond-true, cond-false, eq-eqb}
use Rattle.std.proofs.lemmas.Option.{slice_get-get_or}
use Rattle.graph_model.specs.declared.graph.CellRecord.{CellRecord}
use Rattle.graph_model.specs.declared.graph.Version.{Version}
use Rattle.graph_model.specs.declared.graph.Graph.{Graph}
use Rattle.graph_model.specs.declared.plan.Plan.{Plan}
use Rattle.graph_model.specs.declared.plan.Weights.{Weights}
use Rattle.graph_model.specs.Graphs.{CellAt, VersionAt}
use Rattle.graph_model.specs.Plans.{NamesOf, IsFeasible, copy_cost, rerun_cost, copy_weight, rerun_weight, finite_copy, finite_rerun, total_weight, cost}
use Rattle.graph_model.specs.Networks.{count_up}
use Rattle.graph_model.proofs.Lookups.{version_within, cell_within}
use Rattle.plan_model.proofs.Listing.{is_in, is_in-has, rising_filter, sum-filter, sum-le, sum-places}

-- the finite weight at a number
abbrev pub finite_copy_at : Graph → Weights → ℕ → ℕ
finite_copy_at g w v = elim (slice_get g.versions (v - 1)) [ None ↦ 0 | Some x ↦ finite_copy w x ]

abbrev pub finite_rerun_at : Graph → Weights → ℕ → ℕ
finite_rerun_at g w c = elim (slice_get g.cells (c - 1)) [ None ↦ 0 | Some x ↦ finite_rerun w x ]

-- a plan's versions and cells, among all
pub copied_filter : (g : Graph) (p : Plan) → NamesOf g p → filter (is_in p.copied) (count_up 1 (length g.versions)) ≡ p.copied
copied_filter g p n = rising_filter p.copied 1 (length g.versions) n.copied_ascends (λ v c.
    let a = n.copied v c in let w = version_within g v a.0 a.1.0 in let l : 0 < v = w.0 in let h : v ≤ length g.versions = w.1 in (omega arith, omega arith))

pub rerun_filter : (g : Graph) (p : Plan) → NamesOf g p → filter (is_in p.rerun) (count_up 1 (length g.cells)) ≡ p.rerun
rerun_filter g p n = rising_filter p.rerun 1 (length g.cells) n.rerun_ascends (λ c m.
    let a = n.rerun c m in let w = cell_within g c a.0 a.1 in let l : 0 < c = w.0 in let h : c ≤ length g.cells = w.1 in (omega arith, omega arith))

-- the value of what a list has at an index, and 0 past its end
abbrev pub at_option : {X : Type 0} → (X → ℕ) → Option X → ℕ
at_option f None = 0
at_option f (Some x) = f x

pub copy_cost_at : (g : Graph) (w : Weights) (v : ℕ) (x : Version) → VersionAt g v x → copy_cost g w v ≡ copy_weight w x
copy_cost_at g w v x at = ap (at_option (copy_weight w)) at.1

pub rerun_cost_at : (g : Graph) (w : Weights) (c : ℕ) (x : CellRecord) → CellAt g c x → rerun_cost g w c ≡ rerun_weight w x
rerun_cost_at g w c x at = ap (at_option (rerun_weight w)) at.1

pub finite_copy_is : (g : Graph) (w : Weights) (v : ℕ) (x : Version) → VersionAt g v x → x.replaced ≡ 0 → x.handle ≡ false → finite_copy_at g w v ≡ copy_weight w x
finite_copy_is g w v x at r h =
    ap (at_option (finite_copy w)) at.1 ∙ (cond-true (x.replaced == 0) (cond x.handle 0 (copy_weight w x)) 0 (eq-eqb x.replaced 0 r) ∙ cond-false x.handle 0 (copy_weight w x) h)

pub finite_rerun_is : (g : Graph) (w : Weights) (c : ℕ) (x : CellRecord) → CellAt g c x → x.drew ≡ false → finite_rerun_at g w c ≡ rerun_weight w x
finite_rerun_is g w c x at d = ap (at_option (finite_rerun w)) at.1 ∙ cond-false x.drew 0 (rerun_weight w x) d

pub copies_within : (g : Graph) (w : Weights) (p : Plan) → NamesOf g p → IsFeasible g p → sum_by (copy_cost g w) p.copied ≤ sum_by (finite_copy w) g.versions
copies_within g w p n f =
    let V = count_up 1 (length g.versions) in
    let a = ap (sum_by (copy_cost g w)) (copied_filter g p n) in
    let b = sum-filter (copy_cost g w) (is_in p.copied) V in
    let c = sum-le (λ v. cond (is_in p.copied v) (copy_cost g w v) 0) (finite_copy_at g w) V (λ v m. elim (cases_Bool (is_in p.copied v)) [
      | inl t ↦
          let h = is_in-has p.copied v t in
          let x = n.copied v h in
          let u = cond-true (is_in p.copied v) (copy_cost g w v) 0 t in
          let q = copy_cost_at g w v x.0 x.1.0 in
          let r = finite_copy_is g w v x.0 x.1.0 x.1.1 (f.no_handle v x.0 h x.1.0) in
          omega (arith, u, q, r)
      | inr t ↦ let u = cond-false (is_in p.copied v) (copy_cost g w v) 0 t in omega (arith, u)
    ]) in
    let d = sum-places (finite_copy w) (finite_copy_at g w) g.versions 1 (λ k d l.
    let e : 1 + k - 1 ≡ k = omega arith in
    ap (at_option (finite_copy w)) (ap (λ (j : ℕ). slice_get g.versions j) e ∙ slice_get-get_or g.versions k d l)) in
    omega (arith, a, b, c, d)

pub reruns_within : (g : Graph) (w : Weights) (p : Plan) → NamesOf g p → IsFeasible g p → sum_by (rerun_cost g w) p.rerun ≤ sum_by (finite_rerun w) g.cells
reruns_within g w p n f =
    let C = count_up 1 (length g.cells) in
    let a = ap (sum_by (rerun_cost g w)) (rerun_filter g p n) in
    let b = sum-filter (rerun_cost g w) (is_in p.rerun) C in
    let c = sum-le (λ v. cond (is_in p.rerun v) (rerun_cost g w v) 0) (finite_rerun_at g w) C (λ v m. elim (cases_Bool (is_in p.rerun v)) [
      | inl t ↦
          let h = is_in-has p.rerun v t in
          let x = n.rerun v h in
          let u = cond-true (is_in p.rerun v) (rerun_cost g w v) 0 t in
          let q = rerun_cost_at g w v x.0 x.1 in
          let r = finite_rerun_is g w v x.0 x.1 (f.no_draw v x.0 h x.1) in
          omega (arith, u, q, r)
      | inr t ↦ let u = cond-false (is_in p.rerun v) (rerun_cost g w v) 0 t in omega (arith, u)
    ]) in
    let d = sum-places (finite_rerun w) (finite_rerun_at g w) g.cells 1 (λ k d l.
    let e : 1 + k - 1 ≡ k = omega arith in
    ap (at_option (finite_rerun w)) (ap (λ (j : ℕ). slice_get g.cells j) e ∙ slice_get-get_or g.cells k d l)) in
    omega (arith, a, b, c, d)

pub cost_within : (g : Graph) (w : Weights) (p : Plan) → NamesOf g p → IsFeasible g p → cost g w p ≤ total_weight g w
cost_within g w p n f =
    let a = copies_within g w p n f in
    let b = reruns_within g w p n f in
    omega (arith, a, b)
