use Rattle.std.proofs.Common.{◌≡◌, ℕ, ◌+◌, ◌<◌, List, [], length, get_or, take, not, ap, sym, ◌∙◌, subst, arith}
use Rattle.std.specs.FinMap as finite
use Rattle.linked_parts.specs.Parts.{HasNone}
use Rattle.history_graph.specs.Left.{Heads, AddsGone}
use Rattle.history_graph.proofs.Adding.{place_is, none_of, some_of}
use Rattle.history_graph.proofs.Heading.{adds_more, adds_skip}
use Rattle.history_graph.proofs.heads.add_gone.Goals as goal
use Rattle.history_graph.proofs.heads.add_gone.Goals.{then-is_none+in_ok-copy+in_ok-bind, else-is_none}

pub loop-name-preserved : goal.loop-name-preserved
loop-name-preserved c =
    let names = c.args.names.now in
    let s = c.args.state.now in
    let i = c.loop-name.name-index in
    let name = c.name-item.result in
    let l : i < length names = omega arith in
    let e : get_or names i [] ≡ name = place_is names i name [] l c.name-item.is in
    elim c.if-is_none.branch [
      | then-is_none+in_ok-copy+in_ok-bind w ↦
          let none : HasNone s name = none_of c.look.result (finite.get s.globals name) c.look.ensures (c.is_none.ensures ∙ ap not w.if-is_none.true) in
          subst (λ (h : Heads). AddsGone s (take (i + 1) names) c.args.heads.now h) (sym (w.heads-is ∙ w.in_ok-bind.ensures.ok))
          (adds_more s names i w.in_ok-copy.field-0 l (e ∙ sym w.in_ok-copy.ensures) c.args.heads.now c.loop-name.heads c.loop-name.invariant
          (subst (λ (x : List ℕ). HasNone s x) (sym w.in_ok-copy.ensures) none))
      | else-is_none w ↦
          subst (λ (h : Heads). AddsGone s (take (i + 1) names) c.args.heads.now h) (sym w.heads-is)
          (adds_skip s names i name l e c.args.heads.now c.loop-name.heads c.loop-name.invariant
          (some_of c.look.result (finite.get s.globals name) c.look.ensures (c.is_none.ensures ∙ ap not w.if-is_none.false)))
    ]
