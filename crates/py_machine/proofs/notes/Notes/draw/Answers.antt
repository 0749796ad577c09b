use Rattle.py_machine.proofs.Noted.{kept_drew}
use Rattle.py_machine.proofs.notes.Notes.draw.Goals as goal

pub invariant_of-self : goal.invariant_of-self
invariant_of-self c = kept_drew c.self.inside.marks c.self.inside.seen c.self.inside.latest c.self.invariant
