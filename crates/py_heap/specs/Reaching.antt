-- The objects that names reach, and the order in which they are reached first.
use Rattle.std.specs.Prelude.{ℕ, ◌==◌, ◌↔◌, not, List, [], ◌∷◌, ◌++◌, Contains, Option, Some, None, slice_get, filter}
use Rattle.std.specs.List.{flat_map}
use Rattle.std.specs.FinMap as finite
use Rattle.py_heap.specs.declared.state.State.{State}
use Rattle.py_heap.specs.References.{value_refs, object_refs}

-- the addresses in what an option has, if it has something
abbrev pub held_refs : {A : Type 0} → (A → List ℕ) → Option A → List ℕ
held_refs refs None = []
held_refs refs (Some held) = refs held

-- the addresses in the value of a name
abbrev pub name_refs : State → List ℕ → List ℕ
name_refs s name = held_refs value_refs (finite.get s.globals name)

-- the addresses in the object at an address, in order
abbrev pub refs_at : State → ℕ → List ℕ
refs_at s at = held_refs object_refs (slice_get s.heap at)

-- the least set that holds each address in the value of one of the names and, with each address, those in its object
pub data Reach (s : State) (names : List (List ℕ)) : ℕ → Type 0 where
  named : (name : List ℕ) (at : ℕ) → Contains names name → Contains (name_refs s name) at → Reach s names at
  held : (from at : ℕ) → Reach s names from → Contains (refs_at s from) at → Reach s names at

-- each number once, where it comes first
abbrev pub firsts : List ℕ → List ℕ
firsts [] = []
firsts (n ∷ ns) = n ∷ filter (λ m. not (m == n)) (firsts ns)

-- the addresses that a search meets, each as often as it is met: those in the values of the names, in the order of the names, and
-- then those in each object that it found, in the order in which it found them
abbrev pub met : State → List (List ℕ) → List ℕ → List ℕ
met s names found = flat_map (name_refs s) names ++ flat_map (refs_at s) found

-- the list has the addresses that the names reach, and no others
abbrev pub IsListOf : State → List (List ℕ) → List ℕ → Type 0
IsListOf s names found = (at : ℕ) → Contains found at ↔ Reach s names at
