use Rattle.std.proofs.Common.{ℕ, List, [], sym, ap, subst, ◌∙◌}
use Rattle.std.specs.FinMap as finite
use Rattle.py_heap.specs.Numbering.{Numbers, AreNumbersOf}
use Rattle.py_heap.proofs.Numbering.{none_numbered, front_more}
use Rattle.py_heap.proofs.function.numbers_of.Goals as goal

pub loop-at-init : goal.loop-at-init
loop-at-init c = subst (λ (m : Numbers). AreNumbersOf [] m) (sym c.new-numbers.ensures) none_numbered

pub loop-at-preserved : goal.loop-at-preserved
loop-at-preserved c =
    front_more c.args.names.now c.loop-at.at c.index-names-at.result c.loop-at.numbers c.bind.new.self c.loop-at-test.true c.index-names-at.is c.loop-at.invariant
    (c.in_ok-bind.ensures.ok ∙ ap (λ (name : List ℕ). finite.insert c.loop-at.numbers name c.loop-at.at) c.in_ok-copy.ensures)
