use Rattle.py_show.proofs.Limiting.{pushed_within}
use Rattle.py_show.proofs.limited.Limited.push_str.Goals as goal

pub invariant_of-self-2 : goal.invariant_of-self-2
invariant_of-self-2 c = let longer = c.in_ok-self-inside.ensures in rw longer (pushed_within c.replace-text.result c.args.more.now)
