use Rattle.every_history.proofs.Linking.{part_with}
use Rattle.every_history.proofs.laws.each_name_is_in_a_part.Goals as goal

pub returns : goal.returns
returns c = λ s x closed v. part_with s closed x v
