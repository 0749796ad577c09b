use Rattle.session_texts.proofs.Plainness.{plain_at}
use Rattle.session_texts.proofs.laws.states_of_sessions_are_plain.Goals as goal

pub returns : goal.returns
returns c = λ cells n codes words. plain_at cells n codes words
