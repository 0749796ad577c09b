use Rattle.std.proofs.Common.{ℕ, ◌+◌, List, Vec, Global, sym, ap, ◌∙◌, subst}
use Rattle.cut_network.proofs.Writing.{WritersSo, writers_more, writers_same, writers_all}
use Rattle.cut_network.proofs.writers.writers_among.Goals.{in-Some+in_ok-push, in_default}
use Rattle.cut_network.proofs.writers.writers_among.Goals as goal

pub loop-v-preserved : goal.loop-v-preserved
loop-v-preserved c =
    let items : Vec ℕ Global → List ℕ = λ v. v.items in
    let P : List ℕ → Type 0 = λ xs. WritersSo c.args.graph.now c.args.reads.now xs (c.loop-v.v-index + 1) in
    elim c.match-old_writer.branch [
      | in-Some+in_ok-push w ↦
          subst P (sym (ap items w.writers-is ∙ w.in_ok-push.ensures.items)) (writers_more c.args.graph.now c.args.reads.now c.loop-v.writers.items c.loop-v.v-index _ c.loop-v.invariant w.in-Some.ensures)
      | in_default w ↦
          subst P (sym (ap items w.writers-is)) (writers_same c.args.graph.now c.args.reads.now c.loop-v.writers.items c.loop-v.v-index c.loop-v.invariant w.in_default.ensures)
    ]

pub returns : goal.returns
returns c = writers_all c.args.graph.now c.args.reads.now c.loop-v.writers.items c.loop-v.v-index c.loop-v-test.false c.loop-v.auto.v-index-end c.loop-v.invariant
