use Rattle.session_core.proofs.Headline.{replied}
use Rattle.session_core.proofs.laws.each_reply_is_of_a_kernel_that_never_moved.Goals as goal

pub returns : goal.returns
returns g _ = replied g.E.Engine.meaning
