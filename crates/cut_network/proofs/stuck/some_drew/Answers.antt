use Rattle.std.proofs.Common.{sym, ◌∙◌, arith}
use Rattle.std.proofs.lemmas.Bool.{false≢true}
use Rattle.graph_model.proofs.Walking.{never_start, never_more}
use Rattle.graph_model.proofs.Lookups.{cell_within}
use Rattle.cut_network.specs.Drawn.{HasDrawn}
use Rattle.cut_network.proofs.stuck.some_drew.Goals as goal

pub loop-before-init : goal.loop-before-init
loop-before-init c = never_start (HasDrawn c.args.graph.now) (λ h. let p = h.1.0 in omega arith)

pub loop-before-preserved : goal.loop-before-preserved
loop-before-preserved c = never_more (HasDrawn c.args.graph.now) c.loop-before.before c.loop-before.invariant (λ p. false≢true (sym c.if-has_drawn.false ∙ c.has_drawn.ensures.1 p))

pub returns : goal.returns
returns c = λ e n h.
    let w = cell_within c.args.graph.now n h.0 h.1 in
    c.loop-before.invariant n (omega arith) h
