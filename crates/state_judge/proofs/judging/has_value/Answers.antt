use Rattle.std.proofs.Common.{ℕ, ◌+◌, ◌<◌, List, get_or, refl, sym, subst, arith}
use Rattle.std.proofs.lemmas.Bool.{false≢true}
use borrow.Author.Count.{below_more}
use Rattle.linked_parts.specs.Parts.{HasValue}
use Rattle.history_graph.proofs.Adding.{place_is}
use Rattle.state_judge.proofs.Agreed.{value_of, no_value}
use Rattle.state_judge.proofs.judging.has_value.Goals as goal

pub returns-then-is_some : goal.returns-then-is_some
returns-then-is_some c = (
  λ t. (c.name-item.result, (c.loop-name.name-index, c.loop-name-test.true, sym c.name-item.is), value_of c.args.state.now c.name-item.result c.look.result c.look.ensures (sym c.if-is_some.ensures)),
  λ h. refl,
)

pub loop-name-preserved : goal.loop-name-preserved
loop-name-preserved c =
    let names = c.args.names.now in
    let i = c.loop-name.name-index in
    let x = c.name-item.result in
    let none : ¬ HasValue c.args.state.now x = no_value c.args.state.now x c.look.result c.look.ensures (sym c.if-is_some.ensures) in
    let here : (d : List ℕ) → ¬ HasValue c.args.state.now (get_or names i d) = λ d. subst (λ (y : List ℕ). ¬ HasValue c.args.state.now y) (sym (place_is names i x d c.loop-name-test.true c.name-item.is)) none in
    let all : (k : ℕ) → k < i + 1 → (d : List ℕ) → ¬ HasValue c.args.state.now (get_or names k d) = below_more (λ k. (d : List ℕ) → ¬ HasValue c.args.state.now (get_or names k d)) i (λ k l d. c.loop-name.invariant k d l) here in
    λ k d l. all k l d

pub returns : goal.returns
returns c = (
  λ t. absurd (false≢true t),
  λ (name, (i, l, e), v). absurd (c.loop-name.invariant i name (omega (arith, l)) (subst (HasValue c.args.state.now) (sym e) v)),
)
