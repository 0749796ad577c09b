use Rattle.py_kernel.proofs.run.+run.Given as goal

abbrev pub decreases-eval : goal.decreases-eval
decreases-eval g l = l.left

abbrev pub decreases-exec : goal.decreases-exec
decreases-exec g l = l.left
