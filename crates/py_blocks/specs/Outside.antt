-- Which construct outside the grammar a token begins, on what the program holds.
use Rattle.std.specs.Prelude.{Bool, true, false, ◌&&◌, if◌then◌else◌, List, [], ◌∷◌, Option, Some, None}
use Rattle.py_token.specs.declared.kinds.Kind.{Kind}
use Rattle.py_token.specs.declared.kinds.Kind.TheVariants as t
use Rattle.py_token.specs.declared.kinds.Keyword.{Keyword}
use Rattle.py_token.specs.declared.kinds.Keyword.TheVariants as k
use Rattle.py_token.specs.declared.kinds.Symbol.TheVariants as s
use Rattle.py_grammar.specs.declared.constructs.Construct.{Construct}
use Rattle.py_grammar.specs.declared.constructs.Construct.TheVariants.{Word as Word_, ChainedAssignment, Default, NestedFunction}
use Rattle.py_grammar.specs.Outside.{first_of}
use Rattle.py_frames.specs.Constructs.{construct, may_end}
use Rattle.py_blocks.specs.Steps.{Reading}
use Rattle.py_blocks.specs.declared.state.Outer.{Outer}
use Rattle.py_blocks.specs.declared.state.Purpose.{Purpose}
use Rattle.py_blocks.specs.declared.state.Purpose.TheVariants as purpose
use Rattle.py_blocks.specs.declared.state.State.{State}
use Rattle.py_blocks.specs.declared.state.State.TheVariants as h

-- a keyword that no rule has
unfoldable pub ruleless_word : Keyword → Option Construct
ruleless_word k.As = Some (Word_ k.As)
ruleless_word k.Assert = Some (Word_ k.Assert)
ruleless_word k.Async = Some (Word_ k.Async)
ruleless_word k.Await = Some (Word_ k.Await)
ruleless_word k.Class = Some (Word_ k.Class)
ruleless_word k.Except = Some (Word_ k.Except)
ruleless_word k.Finally = Some (Word_ k.Finally)
ruleless_word k.From = Some (Word_ k.From)
ruleless_word k.Import = Some (Word_ k.Import)
ruleless_word k.Lambda = Some (Word_ k.Lambda)
ruleless_word k.Nonlocal = Some (Word_ k.Nonlocal)
ruleless_word k.Raise = Some (Word_ k.Raise)
ruleless_word k.Try = Some (Word_ k.Try)
ruleless_word k.With = Some (Word_ k.With)
ruleless_word k.Yield = Some (Word_ k.Yield)
ruleless_word _ = None

abbrev pub ruleless : Kind → Option Construct
ruleless (t.Keyword word) = ruleless_word word
ruleless _ = None

-- `=` after `targets = exprs`, if they may end
abbrev pub chained_by : Purpose → Bool → Option Construct
chained_by (purpose.Assigning x) true = Some ChainedAssignment
chained_by _ _ = None

abbrev pub chained : Purpose → Bool → Kind → Option Construct
chained u may (t.Symbol s.Assign) = chained_by u may
chained u may _ = None

abbrev pub default_at : Kind → Option Construct
default_at (t.Symbol s.Assign) = Some Default
default_at _ = None

abbrev pub inline_function : Kind → Option Construct
inline_function (t.Keyword k.Def) = Some NestedFunction
inline_function _ = None

-- `def` where a statement of a block begins
abbrev pub nested : List Outer → Kind → Option Construct
nested [] t = None
nested (o ∷ os) t = inline_function t

abbrev pub in_simple : Purpose → Reading → Kind → Option Construct
in_simple u r t = first_of (chained u (may_end r) t) (construct r t)

abbrev pub outside_state : State → Kind → Option Construct
outside_state (h.Line os done last) t = nested os t
outside_state (h.InSimple x u r) t = in_simple u r t
outside_state (h.InTest x r) t = construct r t
outside_state (h.HasParams b n ps) t = default_at t
outside_state (h.AfterColon os o) t = inline_function t
outside_state _ t = None

-- the construct outside the grammar that the token begins, if any
abbrev pub outside : State → Kind → Option Construct
outside state t = first_of (ruleless t) (outside_state state t)
