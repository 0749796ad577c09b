use Rattle.std.proofs.Common.{◌≡◌, map}
use Rattle.py_frames.specs.Targets.{target_of}
use Rattle.py_frames.proofs.seeing.all_targets.Given as goal

abbrev pub invariant-loop-tree : goal.invariant-loop-tree
invariant-loop-tree l = l.targets ≡ map target_of l.yielded
