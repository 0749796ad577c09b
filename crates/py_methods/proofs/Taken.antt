-- An item that is taken out of a list.
use Rattle.std.proofs.Common.{◌≡◌, ℕ, List, Some}
use Rattle.std.specs.Prelude.{slice_get}
use Rattle.nb_outside.specs.declared.feed.Drawn.{Drawn}
use Rattle.py_value.specs.declared.value.Value.{Value}
use Rattle.py_machine.specs.declared.machine.Machine.{Machine}
use Rattle.py_machine.specs.Runs.{Outcome}
use Rattle.py_meaning.specs.Acts.{run}
use Rattle.py_meaning.specs.Methods.{popped_at, taken_out}

pub popped_item : (a position : ℕ) (items : List Value) (held : Value) (draws : List Drawn) (m : Machine) (o : Outcome Value) → slice_get items position ≡ Some held → run (taken_out a (Some position) held) draws m ≡ o → run (popped_at a items (Some position)) draws m ≡ o
popped_item a position items held draws m o e h = rw e h
