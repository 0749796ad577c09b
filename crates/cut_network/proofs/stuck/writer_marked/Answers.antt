use Rattle.std.proofs.Common.{ℕ, subst}
use Rattle.graph_model.specs.Marks.{IsMarked}
use Rattle.graph_model.proofs.Needing.{same_old_writer}
use Rattle.cut_network.proofs.stuck.writer_marked.Goals as goal

pub returns-in-Some : goal.returns-in-Some
returns-in-Some c = λ w o m.
    let P : ℕ → Type 0 = λ n. IsMarked c.args.marks.now n in
    c.has_mark.ensures.1 (subst P (same_old_writer c.args.graph.now c.args.v w c.in-Some.writer o c.in-Some.ensures) m)
