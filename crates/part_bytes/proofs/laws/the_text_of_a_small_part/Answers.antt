use Rattle.part_bytes.proofs.Small.{small_text}
use Rattle.part_bytes.proofs.laws.the_text_of_a_small_part.Goals as goal

pub returns : goal.returns
returns c = small_text
