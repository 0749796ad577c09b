use Rattle.std.proofs.Common.{ℕ, get_or, sym, ◌∙◌, arith}
use Rattle.std.proofs.lemmas.Bool.{false≢true}
use Rattle.std.proofs.lemmas.List.{get_or_default}
use Rattle.graph_model.specs.Marks.{IsMarked, WroteOld}
use Rattle.graph_model.proofs.Walking.{none_more, none_contained}
use Rattle.cut_network.proofs.stuck.some_marked.Goals as goal

pub loop-v-preserved : goal.loop-v-preserved
loop-v-preserved c =
    let reads = c.args.reads.now in
    let i = c.loop-v.v-index in
    let P : ℕ → Type 0 = λ v. (w : ℕ) × WroteOld c.args.graph.now v w × IsMarked c.args.marks.now w in
    none_more P reads i (get_or reads i 0) c.loop-v-test.true (get_or_default reads i 0 _ c.loop-v-test.true) c.loop-v.invariant
    (λ p. false≢true (sym c.if-writer_marked.false ∙ c.writer_marked.ensures p.0 p.1 p.2))

pub returns : goal.returns
returns c = λ w o m.
    let P : ℕ → Type 0 = λ v. (w : ℕ) × WroteOld c.args.graph.now v w × IsMarked c.args.marks.now w in
    absurd (none_contained P c.args.reads.now (λ k d l p. c.loop-v.invariant k d (omega arith) p) o.0 o.1 (w, o.2, m))
