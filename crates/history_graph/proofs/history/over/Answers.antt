use Rattle.std.proofs.Common.{ℕ, List, length, sym, ap, ◌∙◌, subst}
use Rattle.std.specs.FinMap as finite
use Rattle.std.proofs.lemmas.Bool.{false≢true}
use Rattle.graph_model.specs.declared.graph.Graph.{Graph}
use Rattle.history_graph.specs.Texts.{HasManyTexts}
use Rattle.history_graph.proofs.Told.{none_first}
use Rattle.history_graph.proofs.history.over.Goals as goal

pub returns-then-branch : goal.returns-then-branch
returns-then-branch c =
    let g = c.args.kept.now in
    let s = c.args.state.now in (
      none_first (length g.cells) (length g.versions) c.args.news (length (finite.keys s.globals)) c.len.result c.len-2.result c.len-3.result c.first_over-first.result
          (c.len.ensures ∙ ap (λ (z : Graph). length z.cells) c.graph-graph.ensures) (c.len-2.ensures ∙ ap (λ (z : Graph). length z.versions) c.graph-graph.ensures)
          (c.len-3.ensures ∙ ap (λ (xs : List (List ℕ)). length xs) c.in_ok-names.ensures) (sym c.is_some.ensures ∙ c.if-is_some.false) c.first_over-first.ensures,
      subst (λ (z : Graph). HasManyTexts z s c.args.code.now) c.graph-graph.ensures (c.in_ok-are_many.ensures.0 c.if-branch.true),
    )

pub returns : goal.returns
returns c =
    let g = c.args.kept.now in
    let s = c.args.state.now in (
      none_first (length g.cells) (length g.versions) c.args.news (length (finite.keys s.globals)) c.len.result c.len-2.result c.len-3.result c.first_over-first.result
          (c.len.ensures ∙ ap (λ (z : Graph). length z.cells) c.graph-graph.ensures) (c.len-2.ensures ∙ ap (λ (z : Graph). length z.versions) c.graph-graph.ensures)
          (c.len-3.ensures ∙ ap (λ (xs : List (List ℕ)). length xs) c.in_ok-names.ensures) (sym c.is_some.ensures ∙ c.if-is_some.false) c.first_over-first.ensures,
      λ m. false≢true (sym c.if-branch.false ∙ c.in_ok-are_many.ensures.1 (subst (λ (z : Graph). HasManyTexts z s c.args.code.now) (sym c.graph-graph.ensures) m)),
    )
