-- The keys of a dict, and when two are the same: a truth value is the number 1 or 0.
use Rattle.std.specs.Prelude.{ℕ, ℤ, pos, Bool, true, false, List, [], ◌++◌, ◌==◌, Option, Some, None}
use Rattle.std.specs.Ordering.{on, int_eq, eq_of_both}
use Rattle.std.specs.Cmp.Lexicographic.{pointwise}
use Rattle.std.specs.Hash as fed
use Rattle.py_value.specs.declared.key.Key.{Key}
use Rattle.py_value.specs.declared.key.Key.TheVariants as key
use Rattle.py_value.specs.declared.value.Value.{Value}
use Rattle.py_value.specs.declared.value.Value.TheVariants as value

-- the key with a value; objects and built-in functions are no keys
abbrev pub key_of : Value → Option Key
key_of value.Nothing = Some key.Nothing
key_of (value.Bool b) = Some (key.Bool b)
key_of (value.Number n) = Some (key.Number n)
key_of (value.Text t) = Some (key.Text t)
key_of (value.Ref at) = None
key_of (value.Builtin f) = None

-- the value that a key is, as it is spelled
abbrev pub value_of : Key → Value
value_of key.Nothing = value.Nothing
value_of (key.Bool b) = value.Bool b
value_of (key.Number n) = value.Number n
value_of (key.Text t) = value.Text t

abbrev pub kind : Key → ℕ
kind key.Nothing = 0
kind (key.Bool b) = 1
kind (key.Number n) = 1
kind (key.Text t) = 2

abbrev pub number : Key → ℤ
number key.Nothing = pos 0
number (key.Bool true) = pos 1
number (key.Bool false) = pos 0
number (key.Number n) = n
number (key.Text t) = pos 0

abbrev pub text : Key → List ℕ
text key.Nothing = []
text (key.Bool b) = []
text (key.Number n) = []
text (key.Text t) = t

-- of one kind, with one number and one text
abbrev pub same_key : Key → Key → Bool
same_key = eq_of_both (on kind ◌==◌) (eq_of_both (on number int_eq) (on text (pointwise ◌==◌)))

abbrev pub hashed : Key → fed.HashWrites
hashed k = fed.u8 (kind k) ++ (fed.i128 (number k) ++ fed.str (text k))
