use Rattle.std.proofs.lemmas.Bool.{false≢true}
use Rattle.plan_model.proofs.feasibility.lacks_writer.Goals as goal

pub returns-in-None : goal.returns-in-None
returns-in-None c = (λ e. absurd (false≢true e), λ h. absurd (c.in-None.ensures h.0 h.1))
