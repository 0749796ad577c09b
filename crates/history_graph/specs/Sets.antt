-- Sets of names and numbers, by their tests.
use Rattle.std.specs.Prelude.{◌↔◌, ◌⊎◌, IsTrue, List, Contains}
use Rattle.std.specs.declared.cmp.Ordering.{Ordering}
use Rattle.std.specs.Ordering.{nat_cmp}
use Rattle.std.specs.Cmp.Lexicographic.{slice_cmp}
use Rattle.py_machine.specs.Marked.{Name, SetOf, has_member}

abbrev pub Names : Type 0
Names = SetOf (slice_cmp nat_cmp)

-- it is in the set
abbrev pub Has : {K : Type 0} {R : K → K → Ordering} → SetOf R → K → Type 0
Has s x = IsTrue (has_member s x)

-- one of the names is in the set
abbrev pub HasOneOf : Names → List Name → Type 0
HasOneOf s names = (x : Name) × Contains names x × Has s x

-- the set with these names
abbrev pub IsWith : Names → List Name → Names → Type 0
IsWith old names now = (x : Name) → Has now x ↔ (Has old x ⊎ Contains names x)

-- the set with those of these names that are in another
abbrev pub IsWithThose : Names → List Name → Names → Names → Type 0
IsWithThose old names those now = (x : Name) → Has now x ↔ (Has old x ⊎ (Contains names x × Has those x))
