use Rattle.std.proofs.Common.{◌≡◌, ℕ, ◌+◌, ◌<◌, List, [], length, get_or, take, sym, ◌∙◌, subst, arith}
use Rattle.std.proofs.lemmas.Bool.{false≢true}
use Rattle.history_graph.specs.Sets.{Names, Has, IsWithThose}
use Rattle.history_graph.proofs.Adding.{those_more, those_skip, place_is}
use Rattle.history_graph.proofs.sets.add_those.Goals as goal
use Rattle.history_graph.proofs.sets.add_those.Goals.{then-is_in+in_ok-copy+in_ok-bind, else-is_in}

pub loop-name-preserved : goal.loop-name-preserved
loop-name-preserved c =
    let names = c.args.names.now in
    let those = c.args.those.now in
    let i = c.loop-name.name-index in
    let l : i < length names = omega arith in
    let e : get_or names i [] ≡ c.name-item.result = place_is names i c.name-item.result [] l c.name-item.is in
    elim c.if-is_in.branch [
      | then-is_in+in_ok-copy+in_ok-bind w ↦
          let t : Has those c.name-item.result = sym c.is_in.ensures ∙ w.if-is_in.true in
          subst (λ (s : Names). IsWithThose c.args.set.now (take (i + 1) names) those s) (sym (w.set-is ∙ w.in_ok-bind.ensures.ok))
          (those_more names i w.in_ok-copy.field-0 l (e ∙ sym w.in_ok-copy.ensures) c.args.set.now c.loop-name.set those
          (subst (λ (x : List ℕ). Has those x) (sym w.in_ok-copy.ensures) t) c.loop-name.invariant)
      | else-is_in w ↦
          subst (λ (s : Names). IsWithThose c.args.set.now (take (i + 1) names) those s) (sym w.set-is)
          (those_skip names i c.name-item.result l e c.args.set.now c.loop-name.set those (λ h. false≢true (sym w.if-is_in.false ∙ (c.is_in.ensures ∙ h))) c.loop-name.invariant)
    ]
