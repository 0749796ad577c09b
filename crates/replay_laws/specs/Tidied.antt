-- The end of a restoration: the objects that no name reaches are dropped, and the others are numbered anew.
use Rattle.std.specs.Prelude.{◌≡◌, ◌≢◌, ◌↔◌, ℕ, List, Contains, AllPairs, Some, length, slice_get}
use Rattle.py_heap.specs.declared.state.State.{State}
use Rattle.py_heap.specs.Reaching.{IsListOf, firsts, met}
use Rattle.py_machine.specs.Runs.{Name}
use Rattle.py_laws.specs.Same.{SameBy, Every}
use Rattle.graph_model.specs.Faults.{TextBelow, Ascends}
use Rattle.linked_parts.specs.Parts.{HasValue, Reaches}

-- the address has this index in the list
abbrev pub AtPosition : List ℕ → ℕ → ℕ → Type 0
AtPosition order at k = slice_get order k ≡ Some at

-- u is t with the objects that names reach alone, numbered from 0 in the order in which the ascending names reach them first
pub record IsTidied (t u : State) : Type 0 where
  pub names : List Name
  pub ascends : Ascends TextBelow names
  pub all : (x : Name) → Contains names x ↔ HasValue t x
  pub order : List ℕ
  pub reached : IsListOf t names order
  pub in_order : order ≡ firsts (met t names order)
  -- each object is at its index, and there are no others
  pub same : SameBy (AtPosition order) Every t u
  pub size : length u.heap ≡ length order
  pub count : u.count ≡ t.count
  pub meter : u.meter ≡ t.meter

-- the list has the objects that names reach, none of them twice
pub record AreObjectsOf (s : State) (order : List ℕ) : Type 0 where
  pub reached : (at : ℕ) → Contains order at ↔ ((x : Name) × Reaches s x at)
  pub once : AllPairs (λ a b. a ≢ b) order
