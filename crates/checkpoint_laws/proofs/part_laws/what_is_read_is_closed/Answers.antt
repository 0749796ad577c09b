use Rattle.checkpoint_laws.proofs.FoundWhole.{read_is_text}
use Rattle.checkpoint_laws.proofs.Closed.{closed_part}
use Rattle.checkpoint_laws.proofs.part_laws.what_is_read_is_closed.Goals as goal

pub returns : goal.returns
returns c = λ bytes part size h e. closed_part part (read_is_text bytes part size h e).0
