-- What each run keeps: a relation from the machine before to the machine after.
use Rattle.std.specs.Prelude.{List}
use Rattle.nb_outside.specs.declared.feed.Drawn.{Drawn}
use Rattle.py_machine.specs.declared.machine.Machine.{Machine}
use Rattle.py_machine.specs.Runs.{Computation, Outcome}

abbrev pub Keeps : (Machine → Machine → Type 0) → {A : Type 0} → Computation A → Type 0
Keeps R p = (draws : List Drawn) (m : Machine) → R m (p draws m).1

-- the same of a run that takes no draws
abbrev pub Leaves : (Machine → Machine → Type 0) → {A : Type 0} → (Machine → Outcome A) → Type 0
Leaves R p = (m : Machine) → R m (p m).1
