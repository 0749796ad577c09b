-- The events of a trace, the marks that report it, and its report in plain words.
use Rattle.std.specs.Prelude.{◌≡◌, ℕ, Bool, true, false, cond, List, [], ◌∷◌, is_some, ◌⊎◌}
use Rattle.std.specs.declared.cmp.Ordering.{Ordering}
use Rattle.std.specs.FinMap as finite
use Rattle.py_machine.specs.declared.marks.Marks.{Marks}

abbrev pub Name : Type 0
Name = List ℕ

-- what a cell does that its report speaks of: a name is looked up (found or not), bound or unbound; the object at an address
-- is changed; a draw is taken
pub data Event : Type 0 where
  Look : Name → Event
  Bind : Name → Event
  Unbind : Name → Event
  Change : ℕ → Event
  Drew : Event

-- ---- sets

abbrev pub SetOf : {K : Type 0} → (K → K → Ordering) → Type 0
SetOf R = finite.FinMap R (Unit {0})

abbrev pub with_member : {K : Type 0} {R : K → K → Ordering} → SetOf R → K → SetOf R
with_member s x = finite.insert s x tt

abbrev pub has_member : {K : Type 0} {R : K → K → Ordering} → SetOf R → K → Bool
has_member s x = is_some (finite.get s x)

-- it is in the set
pub record IsIn {K : Type 0} {R : K → K → Ordering} (s : SetOf R) (x : K) : Type 0 where
  pub is : has_member s x ≡ true

-- ---- marks

abbrev pub no_marks : Marks
no_marks = record { looked = finite.empty; bound = finite.empty; changed = finite.empty; drew = false }

-- one event more: a look at a name that is bound or unbound by now isn't reported
abbrev pub noted : Event → Marks → Marks
noted (Look name) k = record k { looked = cond (has_member k.bound name) k.looked (with_member k.looked name) }
noted (Bind name) k = record k { bound = with_member k.bound name }
noted (Unbind name) k = record k { bound = with_member k.bound name }
noted (Change at) k = record k { changed = with_member k.changed at }
noted Drew k = record k { drew = true }

-- the marks after a trace
abbrev pub reported : Marks → List Event → Marks
reported k [] = k
reported k (e ∷ trace) = reported (noted e k) trace

-- ---- the report of a trace, in plain words

-- the name is bound or unbound
abbrev pub IsBound : Name → List Event → Type 0
IsBound name [] = ⊥
IsBound name (Look other ∷ trace) = IsBound name trace
IsBound name (Bind other ∷ trace) = (name ≡ other) ⊎ IsBound name trace
IsBound name (Unbind other ∷ trace) = (name ≡ other) ⊎ IsBound name trace
IsBound name (Change at ∷ trace) = IsBound name trace
IsBound name (Drew ∷ trace) = IsBound name trace

-- the name is looked up, found or not, before it is bound or unbound
abbrev pub IsLooked : Name → List Event → Type 0
IsLooked name [] = ⊥
IsLooked name (Look other ∷ trace) = (name ≡ other) ⊎ IsLooked name trace
IsLooked name (Bind other ∷ trace) = (name ≡ other → ⊥) × IsLooked name trace
IsLooked name (Unbind other ∷ trace) = (name ≡ other → ⊥) × IsLooked name trace
IsLooked name (Change at ∷ trace) = IsLooked name trace
IsLooked name (Drew ∷ trace) = IsLooked name trace

-- the object at the address is changed
abbrev pub IsChanged : ℕ → List Event → Type 0
IsChanged at [] = ⊥
IsChanged at (Look name ∷ trace) = IsChanged at trace
IsChanged at (Bind name ∷ trace) = IsChanged at trace
IsChanged at (Unbind name ∷ trace) = IsChanged at trace
IsChanged at (Change other ∷ trace) = (at ≡ other) ⊎ IsChanged at trace
IsChanged at (Drew ∷ trace) = IsChanged at trace

-- a draw is taken
abbrev pub IsDrew : List Event → Type 0
IsDrew [] = ⊥
IsDrew (Look name ∷ trace) = IsDrew trace
IsDrew (Bind name ∷ trace) = IsDrew trace
IsDrew (Unbind name ∷ trace) = IsDrew trace
IsDrew (Change at ∷ trace) = IsDrew trace
IsDrew (Drew ∷ trace) = Unit {0}
