use Rattle.std.proofs.Common.{ap}
use Rattle.part_bytes.specs.Texts.{bytes_of}
use Rattle.replay_laws.proofs.PartsAlike.{one_part}
use Rattle.replay_laws.proofs.part_laws.same_states_have_one_text.Goals as goal

pub returns-clause-part : goal.returns-clause-part
returns-clause-part c = λ names s t closed other same. one_part names s t closed other same

pub returns-clause-text : goal.returns-clause-text
returns-clause-text c = λ names s t closed other same. ap bytes_of (one_part names s t closed other same)
