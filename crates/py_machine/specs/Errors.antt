-- The errors that a run may raise, and their texts. (Python language reference: built-in exceptions.)
use Rattle.std.specs.Prelude.{ℕ, Bool, true, false, cond, nat_lt, List, ◌++◌, codes}
use Rattle.std.specs.Fmt.{decimal}
use Rattle.py_tree.specs.declared.expressions.Op.{Op}
use Rattle.py_tree.specs.declared.expressions.Op.TheVariants as op
use Rattle.py_heap.specs.declared.heap.SequenceKind.{SequenceKind}
use Rattle.py_heap.specs.declared.heap.SequenceKind.TheVariants as sequence
use Rattle.py_machine.specs.declared.error.ErrorKind.{ErrorKind}
use Rattle.py_machine.specs.declared.error.ErrorKind.TheVariants as error
use Rattle.py_machine.specs.declared.error.PyError.{PyError}
use Rattle.py_machine.specs.declared.kind.ValueKind.{ValueKind}
use Rattle.py_machine.specs.declared.kind.ValueKind.TheVariants as kind

-- the names of errors, as replies say them
abbrev pub error_name : ErrorKind → List ℕ
error_name error.Syntax = codes "SyntaxError"
error_name error.Name = codes "NameError"
error_name error.UnboundLocal = codes "UnboundLocalError"
error_name error.Type = codes "TypeError"
error_name error.Attribute = codes "AttributeError"
error_name error.Overflow = codes "OverflowError"
error_name error.Recursion = codes "RecursionError"
error_name error.StepLimit = codes "StepLimitError"
error_name error.Memory = codes "MemoryError"
error_name error.ZeroDivision = codes "ZeroDivisionError"
error_name error.Value = codes "ValueError"
error_name error.Index = codes "IndexError"
error_name error.Key = codes "KeyError"
error_name error.Runtime = codes "RuntimeError"

-- numbers end at 128 bits
abbrev pub overflow_error : PyError
overflow_error = record { kind = error.Overflow; text = codes "number past 128 bits" }

-- levels end at 800
abbrev pub recursion_error : PyError
recursion_error = record { kind = error.Recursion; text = codes "maximum recursion depth exceeded" }

-- steps end at 1,000,000
abbrev pub step_limit_error : PyError
step_limit_error = record { kind = error.StepLimit; text = codes "1000000 steps" }

-- units end at 16,777,216
abbrev pub memory_error : PyError
memory_error = record { kind = error.Memory; text = codes "meter spent" }

-- a name that has no value
abbrev pub name_error : List ℕ → PyError
name_error name = record { kind = error.Name; text = (codes "name '" ++ name) ++ codes "' is not defined" }

-- a local that isn't bound by now
abbrev pub unbound_error : List ℕ → PyError
unbound_error name = record { kind = error.UnboundLocal; text = (codes "cannot access local variable '" ++ name) ++ codes "' where it is not associated with a value" }

-- ---- errors that name kinds

abbrev pub kind_name : ValueKind → List ℕ
kind_name kind.Nothing = codes "NoneType"
kind_name kind.Bool = codes "bool"
kind_name kind.Number = codes "int"
kind_name kind.Text = codes "str"
kind_name kind.List = codes "list"
kind_name kind.Tuple = codes "tuple"
kind_name kind.Dict = codes "dict"
kind_name kind.Function = codes "function"
kind_name kind.Handle = codes "handle"
kind_name kind.Builtin = codes "builtin_function_or_method"

abbrev pub op_text : Op → List ℕ
op_text op.Plus = codes "+"
op_text op.Minus = codes "-"
op_text op.Times = codes "*"
op_text op.Floor = codes "//"
op_text op.Mod = codes "%"
op_text op.Equal = codes "=="
op_text op.NotEqual = codes "!="
op_text op.Less = codes "<"
op_text op.AtMost = codes "<="
op_text op.More = codes ">"
op_text op.AtLeast = codes ">="
op_text op.In = codes "in"
op_text op.NotIn = codes "not in"

abbrev pub kinds_text : ValueKind → ValueKind → List ℕ
kinds_text left right = (((codes "'" ++ kind_name left) ++ codes "' and '") ++ kind_name right) ++ codes "'"

-- an operator between values of these kinds
abbrev pub unsupported_operands : Op → ValueKind → ValueKind → PyError
unsupported_operands o left right = record {
  kind = error.Type;
  text = ((codes "unsupported operand type(s) for " ++ op_text o) ++ codes ": ") ++ kinds_text left right;
}

abbrev pub sign_text : Bool → List ℕ
sign_text true = codes "-"
sign_text false = codes "+"

-- a sign before a value of this kind
abbrev pub bad_operand : Bool → ValueKind → PyError
bad_operand minus operand = record {
  kind = error.Type;
  text = (((codes "bad operand type for unary " ++ sign_text minus) ++ codes ": '") ++ kind_name operand) ++ codes "'";
}

-- an order of values of these kinds
abbrev pub not_ordered : Op → ValueKind → ValueKind → PyError
not_ordered o left right = record {
  kind = error.Type;
  text = ((codes "'" ++ op_text o) ++ codes "' not supported between instances of ") ++ kinds_text left right;
}

-- a value of this kind holds nothing that `in` could find
abbrev pub not_searched : ValueKind → PyError
not_searched kind = record { kind = error.Type; text = (codes "argument of type '" ++ kind_name kind) ++ codes "' is not iterable" }

-- a value of this kind is looked for in a text
abbrev pub not_in_text : ValueKind → PyError
not_in_text kind = record { kind = error.Type; text = codes "'in <string>' requires string as left operand, not " ++ kind_name kind }

-- a value of this kind is no key of a dict
abbrev pub unhashable : ValueKind → PyError
unhashable kind = record { kind = error.Type; text = (codes "unhashable type: '" ++ kind_name kind) ++ codes "'" }

-- a call of the function of this name
abbrev pub wrong_number : List ℕ → PyError
wrong_number name = record { kind = error.Type; text = (codes "wrong number of arguments for " ++ name) ++ codes "()" }

abbrev pub wrong_argument : List ℕ → PyError
wrong_argument name = record { kind = error.Type; text = (codes "wrong argument for " ++ name) ++ codes "()" }

-- a divisor that is 0
abbrev pub division_error : PyError
division_error = record { kind = error.ZeroDivision; text = codes "division by zero" }

-- a call of a value of this kind
abbrev pub not_callable : ValueKind → PyError
not_callable kind = record { kind = error.Type; text = (codes "'" ++ kind_name kind) ++ codes "' object is not callable" }

-- a method that values of this kind don't have
abbrev pub no_attribute : ValueKind → List ℕ → PyError
no_attribute kind name = record {
  kind = error.Attribute;
  text = (((codes "'" ++ kind_name kind) ++ codes "' object has no attribute '") ++ name) ++ codes "'";
}

-- ---- items

-- a value of this kind has no items
abbrev pub not_subscriptable : ValueKind → PyError
not_subscriptable kind = record { kind = error.Type; text = (codes "'" ++ kind_name kind) ++ codes "' object is not subscriptable" }

-- a `for` over a value of this kind
abbrev pub not_iterable : ValueKind → PyError
not_iterable kind = record { kind = error.Type; text = (codes "'" ++ kind_name kind) ++ codes "' object is not iterable" }

-- an item of a value of this kind is assigned to, or deleted
abbrev pub no_item_assignment : ValueKind → PyError
no_item_assignment kind = record { kind = error.Type; text = (codes "'" ++ kind_name kind) ++ codes "' object does not support item assignment" }

abbrev pub no_item_deletion : ValueKind → PyError
no_item_deletion kind = record { kind = error.Type; text = (codes "'" ++ kind_name kind) ++ codes "' object does not support item deletion" }

-- an index, or a bound of a slice, that is no number
abbrev pub not_an_index : PyError
not_an_index = record { kind = error.Type; text = codes "indices must be integers" }

-- an index past the ends
abbrev pub index_text : SequenceKind → List ℕ
index_text sequence.List = codes "list index out of range"
index_text sequence.Tuple = codes "tuple index out of range"

abbrev pub no_index : SequenceKind → PyError
no_index kind = record { kind = error.Index; text = index_text kind }

abbrev pub no_text_index : PyError
no_text_index = record { kind = error.Index; text = codes "string index out of range" }

abbrev pub no_assigned_index : PyError
no_assigned_index = record { kind = error.Index; text = codes "list assignment index out of range" }

abbrev pub no_popped_index : PyError
no_popped_index = record { kind = error.Index; text = codes "pop index out of range" }

abbrev pub popped_empty : PyError
popped_empty = record { kind = error.Index; text = codes "pop from empty list" }

-- a key that a dict doesn't have, by what it shows
abbrev pub no_key : List ℕ → PyError
no_key shown = record { kind = error.Key; text = shown }

-- a dict that a `for` goes over has more pairs or fewer than at its start
abbrev pub changed_size : PyError
changed_size = record { kind = error.Runtime; text = codes "dictionary changed size during iteration" }

-- ---- unpacking

-- a value of this kind has nothing to unpack
abbrev pub not_unpacked : ValueKind → PyError
not_unpacked kind = record { kind = error.Type; text = (codes "cannot unpack non-iterable " ++ kind_name kind) ++ codes " object" }

-- fewer values than targets
abbrev pub not_enough : ℕ → ℕ → PyError
not_enough wanted got = record {
  kind = error.Value;
  text = codes "not enough values to unpack (expected " ++ (decimal wanted ++ (codes ", got " ++ (decimal got ++ codes ")")));
}

-- more values than targets
abbrev pub too_many : ℕ → PyError
too_many wanted = record { kind = error.Value; text = (codes "too many values to unpack (expected " ++ decimal wanted) ++ codes ")" }

-- another number of values than of targets
abbrev pub wrong_count : ℕ → ℕ → PyError
wrong_count wanted got = cond (nat_lt got wanted) (not_enough wanted got) (too_many wanted)

-- ---- calls of built-in functions and methods

-- `range` anywhere but as the source of a `for`
abbrev pub range_elsewhere : PyError
range_elsewhere = record { kind = error.Type; text = codes "range() stands only as the source of a for" }

abbrev pub zero_range_step : PyError
zero_range_step = record { kind = error.Value; text = codes "range() arg 3 must not be zero" }

-- a text that spells no number, by what it shows
abbrev pub invalid_literal : List ℕ → PyError
invalid_literal shown = record { kind = error.Value; text = codes "invalid literal for int() with base 10: " ++ shown }

abbrev pub empty_separator : PyError
empty_separator = record { kind = error.Value; text = codes "empty separator" }
