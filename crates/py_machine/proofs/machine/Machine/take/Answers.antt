use Rattle.std.proofs.Common.{ap}
use Rattle.nb_outside.specs.declared.feed.Drawn.TheVariants.{Failed}
use Rattle.std.specs.Prelude.{true}
use Rattle.py_machine.proofs.Drawing.{set_last, begins_before, fed_next}
use Rattle.py_machine.proofs.machine.Machine.take.Goals as goal

pub returns-clause-takes : goal.returns-clause-takes
returns-clause-takes g c =
    let same = set_last c.args.self.now.drawn c.push.new.self c.set.new.self Failed c.draw-draw.result c.len-at.result c.in_ok-push.ensures.ok c.len-at.ensures c.set.ensures in
    rw (c.draw.ensures) (ap (λ z. record c.args.self.now { drawn = z; marks = record c.args.self.now.marks { drew = true } }) same)

pub returns-clause-fed : goal.returns-clause-fed
returns-clause-fed g c =
    let same = set_last c.args.self.now.drawn c.push.new.self c.set.new.self Failed c.draw-draw.result c.len-at.result c.in_ok-push.ensures.ok c.len-at.ensures c.set.ensures in
    λ start f. rw same (fed_next start _ _ c.args.self.now.drawn c.draw-draw.result f c.draw-draw.ensures)

pub returns-clause-grows : goal.returns-clause-grows
returns-clause-grows g c =
    let same = set_last c.args.self.now.drawn c.push.new.self c.set.new.self Failed c.draw-draw.result c.len-at.result c.in_ok-push.ensures.ok c.len-at.ensures c.set.ensures in
    λ draws b. begins_before c.args.self.now (record c.args.self.now { drawn = c.set.new.self; marks = record c.args.self.now.marks { drew = true } }) c.draw-draw.result draws (ap (λ z. record c.args.self.now { drawn = z; marks = record c.args.self.now.marks { drew = true } }) same) b
