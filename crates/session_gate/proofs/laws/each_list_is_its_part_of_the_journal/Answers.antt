use Rattle.session_gate.proofs.Gathered.{main_all, control_all, main_none, control_none}
use Rattle.session_gate.proofs.laws.each_list_is_its_part_of_the_journal.Goals as goal

pub returns-clause-main : goal.returns-clause-main
returns-clause-main c = main_all

pub returns-clause-control : goal.returns-clause-control
returns-clause-control c = control_all

pub returns-clause-no_other_on_main : goal.returns-clause-no_other_on_main
returns-clause-no_other_on_main c = main_none

pub returns-clause-no_other_on_control : goal.returns-clause-no_other_on_control
returns-clause-no_other_on_control c = control_none
