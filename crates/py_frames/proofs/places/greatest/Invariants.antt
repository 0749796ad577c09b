use Rattle.std.proofs.Common.{◌≡◌, max, drop}
use Rattle.py_frames.specs.Forced.{greatest}
use Rattle.py_frames.proofs.places.greatest.Given as goal

abbrev pub invariant-loop-place : goal.invariant-loop-place
invariant-loop-place l = max l.most (greatest (drop l.place-index l.places)) ≡ greatest l.places
