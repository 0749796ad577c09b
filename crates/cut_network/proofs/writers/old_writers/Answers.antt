use Rattle.std.proofs.Common.{ℕ, List, sym, subst}
use Rattle.graph_model.specs.Marks.{WroteOldOf}
use Rattle.cut_network.proofs.Writing.{old_writers_are}
use Rattle.cut_network.proofs.writers.old_writers.Goals as goal

pub returns : goal.returns
returns c =
    let g = c.args.graph.now in
    let x = c.in-Some.cell.now in
    let writers = c.in_ok-writers-in-Some.writers.items in
    old_writers_are g c.requires.graph c.args.c x writers c.sort_once.new.numbers.items c.in-Some.ensures
    (λ w. let P : List ℕ → Type 0 = λ reads. WroteOldOf g reads w in
    let h = c.in_ok-writers-in-Some.ensures w in
    (λ k. subst P c.as_slice.ensures (h.0 k), λ o. h.1 (subst P (sym c.as_slice.ensures) o)))
    c.sort_once.ensures.ascends c.sort_once.ensures.members
