use Rattle.session_texts.proofs.Tokens.{constants_plain}
use Rattle.session_texts.proofs.laws.constants_of_codes_are_plain.Goals as goal

pub returns : goal.returns
returns c = λ code body u e. constants_plain code body u e
