use Rattle.checkpoint_laws.proofs.FoundWhole.{read_is_text}
use Rattle.checkpoint_laws.proofs.part_laws.what_is_read_has_a_text.Goals as goal

pub returns : goal.returns
returns c = λ bytes part size h e. read_is_text bytes part size h e
