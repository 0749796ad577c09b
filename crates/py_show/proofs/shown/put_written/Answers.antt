use Rattle.py_show.proofs.Alike.{written}
use Rattle.py_show.proofs.Ending.{puts_run}
use Rattle.py_show.proofs.shown.put_written.Goals as goal

pub returns : goal.returns
returns c = puts_run c.args.out.now c.args.steps.now c.write_first.result c.write_first.new.out c.write_first.new.steps
    (written c.args.state.now c.args.left c.args.value.now) c.write_first.ensures
