-- A state of a session, and what each operation makes of it.
use Rattle.std.specs.Prelude.{ℕ, ◌+◌, ◌-◌, ◌^◌, min, List, [], ◌∷◌, ◌++◌, slice_set}
use Rattle.std.specs.FinMap as finite
use Rattle.py_value.specs.declared.value.Value.{Value}
use Rattle.py_heap.specs.declared.heap.Object.{Object}
use Rattle.py_heap.specs.declared.heap.Object.TheVariants as object
use Rattle.py_heap.specs.declared.state.State.{State}
use Rattle.py_heap.specs.Dicts.{Pairs}
use Rattle.py_heap.specs.Objects.{name_at}

-- no names and no objects, and count and meter at 0
abbrev pub empty : State
empty = record { globals = finite.empty; heap = []; count = 0; meter = 0 }

-- this name has this value, and the others are as they were
abbrev pub with_name : State → List ℕ → Value → State
with_name s name value = record s { globals = finite.insert s.globals name value }

-- this name has no value, and the others are as they were
abbrev pub without_name : State → List ℕ → State
without_name s name = record s { globals = finite.remove s.globals name }

-- one object more, after all others
abbrev pub with_object : State → Object → State
with_object s new = record s { heap = s.heap ++ new ∷ [] }

-- at this address there is this object, and each other object is as it was
abbrev pub with_object_at : State → ℕ → Object → State
with_object_at s at new = record s { heap = slice_set s.heap at new }

-- the list at this address has these items
abbrev pub with_items : State → ℕ → List Value → State
with_items s at items = with_object_at s at (object.List items)

-- the dict at this address has these pairs
abbrev pub with_pairs : State → ℕ → Pairs → State
with_pairs s at pairs = with_object_at s at (object.Dict pairs)

-- the handle at this address has this count of uses
abbrev pub with_uses : State → ℕ → ℕ → State
with_uses s at uses = with_object_at s at (object.Handle (name_at s.heap at) uses)

-- one more, as far as 64 bits go
abbrev pub raised : ℕ → ℕ
raised uses = min (uses + 1) (2 ^ 64 - 1)
