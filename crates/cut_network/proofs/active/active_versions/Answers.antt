use Rattle.std.proofs.Common.{◌≡◌, ℕ, ◌+◌, ◌++◌, List, [], ◌∷◌, Vec, Global, length, sym, ap, ◌∙◌, arith}
use Rattle.graph_model.specs.Networks.{is_active_at, count_up}
use Rattle.std.specs.Prelude.{filter}
use Rattle.cut_network.proofs.Rising.{filter-next_yes, filter-next_no, length-actives}
use Rattle.cut_network.proofs.active.active_versions.Goals.{then-is_active+in_ok-push, else-is_active}
use Rattle.cut_network.proofs.active.active_versions.Goals as goal

pub loop-before-preserved : goal.loop-before-preserved
loop-before-preserved c =
    let p = is_active_at c.args.graph.now in
    let k = c.loop-before.before in
    let items : Vec ℕ Global → List ℕ = λ v. v.items in
    elim c.if-is_active.branch [
      | then-is_active+in_ok-push w ↦
          let t = sym (c.is_active.ensures.numbered (omega arith)) ∙ w.if-is_active.true in
          ap items w.active-is ∙ (w.in_ok-push.ensures.items ∙ (ap (λ (xs : List ℕ). xs ++ (k + 1) ∷ []) c.loop-before.invariant ∙ sym (filter-next_yes p k t)))
      | else-is_active w ↦
          let t = sym (c.is_active.ensures.numbered (omega arith)) ∙ w.if-is_active.false in
          ap items w.active-is ∙ (c.loop-before.invariant ∙ sym (filter-next_no p k t))
    ]

pub returns-clause-few : goal.returns-clause-few
returns-clause-few c =
    let e : c.loop-before.before ≡ length c.args.graph.now.versions = omega arith in
    let l = length-actives c.args.graph.now in
    let s = ap length (c.loop-before.invariant ∙ ap (λ (n : ℕ). filter (is_active_at c.args.graph.now) (count_up 1 n)) e) in
    omega arith
