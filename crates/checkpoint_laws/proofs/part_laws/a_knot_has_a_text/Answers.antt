use Rattle.checkpoint_laws.proofs.Knot.{knot_part, knot_text}
use Rattle.checkpoint_laws.proofs.part_laws.a_knot_has_a_text.Goals as goal

pub returns-clause-part : goal.returns-clause-part
returns-clause-part c = knot_part

pub returns-clause-text : goal.returns-clause-text
returns-clause-text c = knot_text
