-- Which construct outside the grammar a token begins, by the forms that are open before it.
use Rattle.std.specs.Prelude.{◌≡◌, ℕ, List, ◌∷◌, take, slice_get, Option, Some, None}
use Rattle.py_token.specs.declared.kinds.Kind.{Kind}
use Rattle.py_grammar.specs.declared.constructs.Construct.{Construct}
use Rattle.py_grammar.specs.declared.constructs.Construct.TheVariants.{Word as Word_, Comprehension, Set, Is, Attribute, ChainedAssignment, KeywordArgument, Default, NestedFunction}
use Rattle.py_token.specs.declared.kinds.Keyword.TheVariants as k
use Rattle.py_grammar.specs.Words.{not_word, for_word, none_word, def_word, as_word, assert_word, async_word, await_word, class_word, except_word, finally_word, from_word, import_word, lambda_word, nonlocal_word, raise_word, try_word, with_word, yield_word, assign_sign, open_parenthesis, close_brace, comma}
use Rattle.py_grammar.specs.Expressions.{Expression, Exprs, compares_none, compares_not_none}
use Rattle.py_grammar.specs.Readings.{in_display, in_dict, in_call, Opened, opened, Reading, has, has_none, has_not_none, after_is, after_is_not, after_method, compares_of, expression_of, whole}
use Rattle.py_grammar.specs.Statements.{IsFailing}
use Rattle.py_grammar.specs.States.{Outer, Purpose, assigning, State, line, in_simple, in_test, has_params, after_colon, StandsAt, state_stands}

-- a keyword that no rule has
abbrev pub ruleless : Kind → Option Construct
ruleless as_word = Some (Word_ k.As)
ruleless assert_word = Some (Word_ k.Assert)
ruleless async_word = Some (Word_ k.Async)
ruleless await_word = Some (Word_ k.Await)
ruleless class_word = Some (Word_ k.Class)
ruleless except_word = Some (Word_ k.Except)
ruleless finally_word = Some (Word_ k.Finally)
ruleless from_word = Some (Word_ k.From)
ruleless import_word = Some (Word_ k.Import)
ruleless lambda_word = Some (Word_ k.Lambda)
ruleless nonlocal_word = Some (Word_ k.Nonlocal)
ruleless raise_word = Some (Word_ k.Raise)
ruleless try_word = Some (Word_ k.Try)
ruleless with_word = Some (Word_ k.With)
ruleless yield_word = Some (Word_ k.Yield)
ruleless _ = None

abbrev pub first_of : Option Construct → Option Construct → Option Construct
first_of None other = other
first_of (Some c) other = Some c

-- ---- after a whole expression

-- `,` after the first expression in braces
abbrev pub comma_begins : List Opened → Option Expression → Option Construct
comma_begins (opened u w (in_dict None) ∷ os) (Some a) = Some Set
comma_begins _ _ = None

-- `for` in the args of a call or display
abbrev pub for_begins : List Opened → Option Expression → Option Construct
for_begins (opened u w (in_display es) ∷ os) (Some a) = Some Comprehension
for_begins (opened u w (in_call f es) ∷ os) (Some a) = Some Comprehension
for_begins _ _ = None

-- `}` after the first expression in braces
abbrev pub brace_begins : List Opened → Option Expression → Option Construct
brace_begins (opened u w (in_dict None) ∷ os) (Some a) = Some Set
brace_begins _ _ = None

-- `=` in the args of a call or display
abbrev pub equals_begins : List Opened → Option Expression → Option Construct
equals_begins (opened u w (in_display es) ∷ os) (Some a) = Some KeywordArgument
equals_begins (opened u w (in_call f es) ∷ os) (Some a) = Some KeywordArgument
equals_begins _ _ = None

abbrev pub behind_whole : List Opened → Option Expression → Kind → Option Construct
behind_whole os a comma = comma_begins os a
behind_whole os a for_word = for_begins os a
behind_whole os a close_brace = brace_begins os a
behind_whole os a assign_sign = equals_begins os a
behind_whole os a _ = None

-- ---- elsewhere

-- anything but `None`
abbrev pub not_none : Kind → Option Construct
not_none none_word = None
not_none _ = Some Is

-- anything but `None` and `not`
abbrev pub not_none_or_not : Kind → Option Construct
not_none_or_not none_word = None
not_none_or_not not_word = None
not_none_or_not _ = Some Is

abbrev pub no_call : Kind → Option Construct
no_call open_parenthesis = None
no_call _ = Some Attribute

abbrev pub outside_reading : Reading → Kind → Option Construct
outside_reading (has os u w p) t = behind_whole os (expression_of u (compares_of w p)) t
outside_reading (has_none os u c) t = behind_whole os (expression_of u (compares_none c)) t
outside_reading (has_not_none os u c) t = behind_whole os (expression_of u (compares_not_none c)) t
outside_reading (after_is os u c) t = not_none_or_not t
outside_reading (after_is_not os u c) t = not_none t
outside_reading (after_method os u w p n) t = no_call t
outside_reading _ t = None

-- `=` after `targets = exprs`
abbrev pub chained_by : Purpose → Option Exprs → Option Construct
chained_by (assigning ts) (Some a) = Some ChainedAssignment
chained_by _ _ = None

abbrev pub chained : Purpose → Option Exprs → Kind → Option Construct
chained u a assign_sign = chained_by u a
chained u a _ = None

abbrev pub default_at : Kind → Option Construct
default_at assign_sign = Some Default
default_at _ = None

-- `def` where a statement of a block begins
abbrev pub nested : List Outer → Kind → Option Construct
nested (o ∷ os) def_word = Some NestedFunction
nested _ _ = None

abbrev pub inline_function : Kind → Option Construct
inline_function def_word = Some NestedFunction
inline_function _ = None

abbrev pub outside_state : State → Kind → Option Construct
outside_state (line os before) t = nested os t
outside_state (in_simple os at u r) t = first_of (chained u (whole r) t) (outside_reading r t)
outside_state (in_test os before lead r) t = outside_reading r t
outside_state (has_params before n ns) t = default_at t
outside_state (after_colon os o) t = inline_function t
outside_state _ t = None

-- the construct outside the grammar that the token begins when these forms are open, if any
abbrev pub outside : State → Kind → Option Construct
outside s t = first_of (ruleless t) (outside_state s t)

-- the failing token, and the construct that it begins, if any
pub record Fails (tokens : List Kind) (place : ℕ) (construct : Option Construct) : Type 0 where
  pub failing : IsFailing tokens place
  pub open_forms : State
  pub stand : state_stands open_forms
  pub before_it : StandsAt (take place tokens) open_forms
  pub token : Kind
  pub is_token : slice_get tokens place ≡ Some token
  pub begins_construct : outside open_forms token ≡ construct
