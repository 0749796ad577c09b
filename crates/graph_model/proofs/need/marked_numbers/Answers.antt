use Rattle.std.proofs.Common.{ℕ, Vec, Global, ◌+◌, List, sym, ap, ◌∙◌, subst}
use Rattle.std.proofs.lemmas.Bool.{false≢true}
use Rattle.graph_model.proofs.Needing.{NumbersSo, numbers_more, numbers_same}
use Rattle.graph_model.proofs.need.marked_numbers.Goals as goal
use Rattle.graph_model.proofs.need.marked_numbers.Goals.{then-mark+in_ok-push, else-mark}

pub loop-c-preserved : goal.loop-c-preserved
loop-c-preserved c =
    let P : List ℕ → Type 0 = λ numbers. NumbersSo c.args.marks.now numbers (c.loop-c.c + 1) in
    elim c.if-mark.branch [
      | then-mark+in_ok-push w ↦
          subst P (sym (ap (λ (v : Vec ℕ Global). v.items) w.numbers-is ∙ w.in_ok-push.ensures.items)) (numbers_more _ _ _ c.loop-c.invariant w.if-mark.true)
      | else-mark w ↦
          subst P (sym (ap (λ (v : Vec ℕ Global). v.items) w.numbers-is)) (numbers_same _ _ _ c.loop-c.invariant (λ m. false≢true (sym w.if-mark.false ∙ m)))
    ]
