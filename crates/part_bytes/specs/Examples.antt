-- A small part.
use Rattle.std.specs.Prelude.{ℕ, pos, List, [], ◌∷◌, codes}
use Rattle.py_value.specs.declared.value.Value.TheVariants as value
use Rattle.py_heap.specs.declared.state.State.{State}
use Rattle.py_heap.specs.States.{empty, with_name}

-- `x` is 2
abbrev pub two_in_x : State
two_in_x = with_name empty (codes "x") (value.Number (pos 2))

-- one name of one byte; a number, which is 2; no objects
abbrev pub two_in_x_bytes : List ℕ
two_in_x_bytes = 0 ∷ 0 ∷ 0 ∷ 1 ∷ 1 ∷ 120 ∷ 3 ∷ 0 ∷ 0 ∷ 0 ∷ 0 ∷ 0 ∷ 0 ∷ 0 ∷ 0 ∷ 0 ∷ 0 ∷ 0 ∷ 0 ∷ 0 ∷ 0 ∷ 0 ∷ 2 ∷ 0 ∷ 0 ∷ 0 ∷ 0 ∷ []
