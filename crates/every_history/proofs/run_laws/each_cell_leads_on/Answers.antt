use Rattle.every_history.proofs.Leading.{led_on}
use Rattle.every_history.proofs.run_laws.each_cell_leads_on.Goals as goal

pub returns : goal.returns
returns c = led_on
