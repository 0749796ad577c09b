use Rattle.made_command.proofs.Asked.{node_alone, all_shell}
use Rattle.made_command.proofs.laws.the_stream_opens_one_session.Goals as goal

pub returns : goal.returns
returns c = record { alone = node_alone; shell = all_shell }
