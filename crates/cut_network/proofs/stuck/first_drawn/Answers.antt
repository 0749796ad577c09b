use Rattle.std.proofs.Common.{get_or, sym, ◌∙◌, arith}
use Rattle.std.proofs.lemmas.Bool.{false≢true}
use Rattle.std.proofs.lemmas.List.{get_or_default}
use Rattle.graph_model.proofs.Walking.{none_more, none_contained}
use Rattle.cut_network.specs.Drawn.{HasDrawn}
use Rattle.cut_network.proofs.Sticking.{first_at}
use Rattle.cut_network.proofs.stuck.first_drawn.Goals as goal

pub returns-then-has_drawn : goal.returns-then-has_drawn
returns-then-has_drawn c = first_at (HasDrawn c.args.graph.now) c.args.cells.now c.loop-c.c-index c.requires c.loop-c-test.true c.loop-c.invariant (c.has_drawn.ensures.0 c.if-has_drawn.true)

pub loop-c-preserved : goal.loop-c-preserved
loop-c-preserved c =
    let cells = c.args.cells.now in
    let i = c.loop-c.c-index in
    none_more (HasDrawn c.args.graph.now) cells i (get_or cells i 0) c.loop-c-test.true (get_or_default cells i 0 _ c.loop-c-test.true) c.loop-c.invariant (λ p. false≢true (sym c.if-has_drawn.false ∙ c.has_drawn.ensures.1 p))

pub returns : goal.returns
returns c = λ n h. none_contained (HasDrawn c.args.graph.now) c.args.cells.now (λ k d l p. c.loop-c.invariant k d (omega arith) p) n h.0 h.1
