use Rattle.std.proofs.Common.{◌≡◌, ℕ, ◌+◌, ◌<◌, List, length, get_or, sym, ◌∙◌, subst, arith}
use Rattle.std.specs.FinMap as finite
use Rattle.std.proofs.lemmas.Bool.{false≢true}
use borrow.Author.Count.{below_more}
use Rattle.history_graph.proofs.Adding.{place_is}
use Rattle.state_judge.specs.Agreeing.{IsLoose}
use Rattle.state_judge.proofs.Agreed.{named_not_loose, unnamed_loose, valued, first_of_loose, none_loose}
use Rattle.state_judge.proofs.judging.first_loose.Goals as goal

pub returns-then-not-is_in : goal.returns-then-not-is_in
returns-then-not-is_in c =
    let g = c.args.graph.now in
    let s = c.args.state.now in
    let names = c.as_slice-name-items.result.now in
    let are : names ≡ finite.keys s.globals = c.as_slice-name-items.ensures ∙ c.in_ok-names.ensures in
    let i = c.loop-name.name-index in
    let x = c.name-item.result in
    let l : i < length names = omega arith in
    let loose : IsLoose g s x = unnamed_loose g s c.in_ok-active.active c.in_ok-active.ensures x (valued g s names are i x l c.name-item.is) (λ h. false≢true (c.if-not-is_in.ensures ∙ h)) in
    first_of_loose g s names are i x c.in_ok-copy.field-0 l c.name-item.is c.in_ok-copy.ensures c.loop-name.invariant loose

pub loop-name-preserved : goal.loop-name-preserved
loop-name-preserved c =
    let g = c.args.graph.now in
    let s = c.args.state.now in
    let names = c.as_slice-name-items.result.now in
    let i = c.loop-name.name-index in
    let x = c.name-item.result in
    let l : i < length names = omega arith in
    let fine : ¬ IsLoose g s x = named_not_loose g s c.in_ok-active.active c.in_ok-active.ensures x (sym c.if-not-is_in.ensures) in
    let here : (d : List ℕ) → ¬ IsLoose g s (get_or names i d) = λ d. subst (λ (y : List ℕ). ¬ IsLoose g s y) (sym (place_is names i x d l c.name-item.is)) fine in
    let all : (k : ℕ) → k < i + 1 → (d : List ℕ) → ¬ IsLoose g s (get_or names k d) = below_more (λ k. (d : List ℕ) → ¬ IsLoose g s (get_or names k d)) i (λ k l d. c.loop-name.invariant k d l) here in
    λ k d m. all k m d

pub returns : goal.returns
returns c =
    let s = c.args.state.now in
    let names = c.as_slice-name-items.result.now in
    let are : names ≡ finite.keys s.globals = c.as_slice-name-items.ensures ∙ c.in_ok-names.ensures in
    none_loose c.args.graph.now s names are c.loop-name.name-index (omega arith) c.loop-name.invariant
