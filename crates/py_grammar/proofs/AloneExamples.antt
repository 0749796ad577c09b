-- Small texts, read alone by hand.
use Rattle.std.proofs.Common.{◌≡◌, ℕ, zero, suc, List, [], ◌∷◌, Option, Some, None, refl}
use Rattle.py_token.specs.declared.kinds.Kind.{Kind}
use Rattle.py_token.specs.declared.kinds.Kind.TheVariants as t
use Rattle.std.specs.Prelude.{pos}
use Rattle.py_grammar.specs.declared.constructs.Construct.{Construct}
use Rattle.py_grammar.specs.declared.constructs.Construct.TheVariants.{NestedFunction}
use Rattle.py_grammar.specs.Words.{if_word, pass_word, return_word, def_word, assign_sign, open_parenthesis, close_parenthesis, colon}
use Rattle.py_grammar.specs.Statements.{word, pass_, no_params, inline}
use Rattle.py_grammar.specs.States.{State, done, start}
use Rattle.py_grammar.specs.Outside.{outside}
use Rattle.py_grammar.specs.Alone.{alone}
use Rattle.py_grammar.specs.AloneMachine.{step_alone, run_alone}

-- where the machine stops, and the construct that begins there
stops_from : ℕ → State → List Kind → Option (ℕ × Option Construct)
stops_from n s [] = None
stops_from n s (k ∷ ks) = elim (step_alone s k) [ None ↦ Some (n, outside s k) | Some u ↦ stops_from (suc n) u ks ]

stops : List Kind → Option (ℕ × Option Construct)
stops tokens = stops_from zero start tokens

abbrev f : List ℕ
f = 102 ∷ []

abbrev x : List ℕ
x = 120 ∷ []

-- def f(): pass
abbrev function : List Kind → List Kind
function rest = def_word ∷ t.Name f ∷ open_parenthesis ∷ close_parenthesis ∷ colon ∷ pass_word ∷ t.Newline ∷ rest

one : run_alone start (function (t.End ∷ [])) ≡ Some (done (alone f no_params (inline (word pass_))))
one = refl

-- no text
empty : stops (t.End ∷ []) ≡ Some (0, None)
unfolding stops stops_from
empty = refl

-- x = 1
assignment : stops (t.Name x ∷ assign_sign ∷ t.Number (pos 1) ∷ t.Newline ∷ t.End ∷ []) ≡ Some (0, None)
unfolding stops stops_from
assignment = refl

-- def f(): pass / x
more : stops (function (t.Name x ∷ t.Newline ∷ t.End ∷ [])) ≡ Some (7, None)
unfolding stops stops_from
more = refl

-- def f(): pass / def f(): pass
second : stops (function (function (t.End ∷ []))) ≡ Some (7, None)
unfolding stops stops_from
second = refl

-- def f(): / if x: return / def, which is in the block
nested : stops (def_word ∷ t.Name f ∷ open_parenthesis ∷ close_parenthesis ∷ colon ∷ t.Newline ∷ t.Indent ∷ if_word ∷ t.Name x ∷ colon ∷ return_word ∷ t.Newline ∷ def_word ∷ []) ≡ Some (12, Some NestedFunction)
unfolding stops stops_from
nested = refl
