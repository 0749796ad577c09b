use Rattle.py_show.proofs.Alike.{repr}
use Rattle.py_show.proofs.Ending.{puts_run}
use Rattle.py_show.proofs.shown.put_repr.Goals as goal

pub returns : goal.returns
returns c = puts_run c.args.out.now c.args.steps.now c.show_first.result c.show_first.new.out c.show_first.new.steps
    (repr c.args.state.now c.args.left c.args.value.now) c.show_first.ensures
