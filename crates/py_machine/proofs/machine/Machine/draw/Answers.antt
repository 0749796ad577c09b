use Rattle.std.proofs.Common.{◌∙◌, refl}
use Rattle.py_machine.proofs.Drawing.{draw_taken}
use Rattle.py_machine.proofs.machine.Machine.draw.Goals as goal

pub returns-in-Word-clause-runs : goal.returns-in-Word-clause-runs
returns-in-Word-clause-runs g c = λ draws b told.
    let is = c.in-Word.is in let takes = c.in_ok-word.ensures.takes in
    draw_taken c.args.self.now c.take.new.self c.in_ok-word.field-0 draws takes b ∙ rw (takes, is) refl

pub returns-in-Failed-clause-runs : goal.returns-in-Failed-clause-runs
returns-in-Failed-clause-runs g c = λ draws b told.
    let is = c.in-Failed.is in let takes = c.in_ok-word.ensures.takes in
    draw_taken c.args.self.now c.take.new.self c.in_ok-word.field-0 draws takes b ∙ rw (takes, is) refl
