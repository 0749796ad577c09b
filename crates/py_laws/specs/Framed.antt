-- What a cell does from two states that are the same over the names that it looks up.
use Rattle.std.specs.Prelude.{◌≡◌, ℕ, ◌<◌, ◌≤◌, ◌⊎◌, true, List, [], ◌∷◌, Contains, Option, length, slice_get}
use Rattle.std.specs.FinMap as finite
use Rattle.nb_outside.specs.declared.feed.Drawn.{Drawn}
use Rattle.py_heap.specs.declared.state.State.{State}
use Rattle.py_heap.specs.Reaching.{Reach}
use Rattle.py_machine.specs.declared.machine.Machine.{Machine}
use Rattle.py_machine.specs.Marked.{IsIn}
use Rattle.py_machine.specs.Runs.{Name, Outcome}
use Rattle.py_laws.specs.Same.{Pairs, HasPair, SameBy, SameStates}

-- one of these names, or one that the run bound or unbound
abbrev pub OrBound : (Name → Type 0) → Machine → Name → Type 0
OrBound named m name = named name ⊎ IsIn m.marks.bound name

-- a run from a state changes no name but those that it bound or unbound; each object that it changed was reached from one
-- of these names or is new; it changes no old object but those that it reports, and not the count
pub record Spares (names : List Name) (s : State) (m : Machine) : Type 0 where
  pub values : (name : Name) → (IsIn m.marks.bound name → ⊥) → finite.get m.state.globals name ≡ finite.get s.globals name
  pub reached : (at : ℕ) → IsIn m.marks.changed at → Reach s names at ⊎ (length s.heap ≤ at)
  pub objects : (at : ℕ) → at < length s.heap → (IsIn m.marks.changed at → ⊥) → slice_get m.state.heap at ≡ slice_get s.heap at
  pub count : m.state.count ≡ s.count
  -- what one of these names, or of those bound or unbound, reaches at the end was reached from these names, or is new
  pub fenced : (name : Name) → OrBound (Contains names) m name → (at : ℕ) → Reach m.state (name ∷ []) at → Reach s names at ⊎ (length s.heap ≤ at)

-- two runs from two states do the same but for the addresses of objects, and spare what lies outside the names
pub record Framed (names : List Name) (s t : State) (o u : Outcome (Option (List ℕ))) : Type 0 where
  -- the same result or error (so both ask for a draw or neither), printed text, steps, end meter and draws
  pub result : o.0 ≡ u.0
  pub printed : o.1.printed ≡ u.1.printed
  pub steps : o.1.steps ≡ u.1.steps
  pub meter : o.1.state.meter ≡ u.1.state.meter
  pub drawn : o.1.drawn ≡ u.1.drawn
  -- the same names looked up, the same bound or unbound, and the same answer on draws
  pub looked : o.1.marks.looked ≡ u.1.marks.looked
  pub bound : o.1.marks.bound ≡ u.1.marks.bound
  pub drew : o.1.marks.drew ≡ u.1.marks.drew
  -- end states that are the same over the names and those bound, by pairs that pair what was changed
  pub pairs : Pairs
  pub states : SameBy (HasPair pairs) (OrBound (Contains names) o.1) o.1.state u.1.state
  pub changed : (a : ℕ) → IsIn o.1.marks.changed a → (b : ℕ) × HasPair pairs a b × IsIn u.1.marks.changed b
  pub changed_back : (b : ℕ) → IsIn u.1.marks.changed b → (a : ℕ) × HasPair pairs a b × IsIn o.1.marks.changed a
  -- neither changes what lies outside
  pub left : Spares names s o.1
  pub right : Spares names t u.1

-- and each pair is of objects that the names reached, or of new ones
pub record FramedWithin (names : List Name) (s t : State) (o u : Outcome (Option (List ℕ))) : Type 0 where
  pub framed : Framed names s t o u
  pub within : (a b : ℕ) → HasPair framed.pairs a b → (Reach s names a × Reach t names b) ⊎ ((length s.heap ≤ a) × (length t.heap ≤ b))

-- a cell that drew is given the same draws
abbrev pub Agree : Outcome (Option (List ℕ)) → List Drawn → List Drawn → Type 0
Agree o draws others = o.1.marks.drew ≡ true → draws ≡ others

-- two runs do the same but for the addresses of objects, and end in states that are the same
pub record Renamed (o u : Outcome (Option (List ℕ))) : Type 0 where
  pub result : o.0 ≡ u.0
  pub printed : o.1.printed ≡ u.1.printed
  pub steps : o.1.steps ≡ u.1.steps
  pub drawn : o.1.drawn ≡ u.1.drawn
  pub looked : o.1.marks.looked ≡ u.1.marks.looked
  pub bound : o.1.marks.bound ≡ u.1.marks.bound
  pub drew : o.1.marks.drew ≡ u.1.marks.drew
  pub states : SameStates o.1.state u.1.state
