-- What is remembered beside the marks of a cell, of names and objects that come again.
use Rattle.std.specs.Prelude.{◌≡◌, ℕ, Bool, true, false, Option, Some, None}
use Rattle.std.specs.Ordering.{nat_cmp}
use Rattle.std.specs.Cmp.Lexicographic.{slice_cmp}
use Rattle.std.specs.FinMap as finite
use Rattle.py_machine.specs.declared.marks.Marks.{Marks}
use Rattle.py_machine.specs.Marked.{Name, has_member}

abbrev pub Seen : Type 0
Seen = finite.FinMap (slice_cmp nat_cmp) Bool

-- the name is bound or unbound; or it is looked up before that
abbrev pub IsMarked : Bool → Marks → Name → Type 0
IsMarked true marks name = has_member marks.bound name ≡ true
IsMarked false marks name = has_member marks.looked name ≡ true

-- each name that is remembered is marked as is remembered of it
abbrev pub AreMarked : Marks → Seen → Type 0
AreMarked marks seen = (name : Name) (bound : Bool) → finite.get seen name ≡ Some bound → IsMarked bound marks name

-- the object that is remembered, if there is one, is marked as changed
abbrev pub IsChangedIn : Marks → Option ℕ → Type 0
IsChangedIn marks None = Unit {0}
IsChangedIn marks (Some at) = has_member marks.changed at ≡ true
