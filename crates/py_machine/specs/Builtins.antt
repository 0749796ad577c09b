-- The built-in functions by their names.
use Rattle.std.specs.Prelude.{ℕ, List, Option, Some, None, codes, if◌then◌else◌}
use Rattle.py_names.specs.Names.{same_text}
use Rattle.py_value.specs.declared.value.Builtin.{Builtin}
use Rattle.py_value.specs.declared.value.Builtin.TheVariants as builtin

-- the built-in function of this name
unfoldable pub builtin_named : List ℕ → Option Builtin
builtin_named name =
    if same_text name (codes "print") then Some builtin.Print
    else if same_text name (codes "len") then Some builtin.Len
    else if same_text name (codes "str") then Some builtin.Str
    else if same_text name (codes "repr") then Some builtin.Repr
    else if same_text name (codes "int") then Some builtin.Int
    else if same_text name (codes "range") then Some builtin.Range
    else if same_text name (codes "draw") then Some builtin.Draw
    else if same_text name (codes "handle") then Some builtin.Handle
    else if same_text name (codes "tell") then Some builtin.Tell
    else None
