-- A construct outside the grammar begins where the forms say.
use Rattle.std.proofs.Common.{ℕ, ◌≡◌, Bool, true, false, List, [], ◌∷◌, Option, Some, None, is_some, refl, ap, ◌∙◌}
use Rattle.py_token.specs.declared.kinds.Kind.{Kind}
use Rattle.py_token.specs.declared.kinds.Kind.TheVariants as t
use Rattle.py_token.specs.declared.kinds.Keyword.TheVariants as k
use Rattle.py_grammar.specs.Words.{def_word, assign_sign}
use Rattle.py_grammar.specs.declared.constructs.Construct.{Construct}
use Rattle.py_grammar.specs.Expressions.{Exprs}
use Rattle.py_grammar.specs.Readings as r
use Rattle.py_grammar.specs.Readings.{whole}
use Rattle.py_grammar.specs.Open.{spell_reading}
use Rattle.py_grammar.specs.Statements.{Targets}
use Rattle.py_grammar.specs.States as m
use Rattle.py_grammar.specs.States.{showing, giving, deleting, assigning, augmenting, line, in_simple, in_test, has_params, after_colon}
use Rattle.py_grammar.specs.Outside as g
use Rattle.py_grammar.specs.Outside.{first_of}
use Rattle.py_frames.specs.Held.{held}
use Rattle.py_frames.specs.Constructs.{construct, may_end}
use Rattle.py_frames.proofs.Begins.{reading-begins, reading-may}
use Rattle.py_blocks.specs.Blocks.{Texts}
use Rattle.py_blocks.specs.Held.{held_outers, held_purpose, held_state}
use Rattle.py_blocks.specs.Outside.{ruleless_word, ruleless, chained_by, chained, default_at, inline_function, nested, outside_state, outside}

module _ (place : ℕ → ℕ) where
  ruleless-same : (t : Kind) → ruleless t ≡ g.ruleless t
  unfolding ruleless_word
  ruleless-same (t.Keyword k.As) = refl
  ruleless-same (t.Keyword k.Assert) = refl
  ruleless-same (t.Keyword k.Async) = refl
  ruleless-same (t.Keyword k.Await) = refl
  ruleless-same (t.Keyword k.Class) = refl
  ruleless-same (t.Keyword k.Except) = refl
  ruleless-same (t.Keyword k.Finally) = refl
  ruleless-same (t.Keyword k.From) = refl
  ruleless-same (t.Keyword k.Import) = refl
  ruleless-same (t.Keyword k.Lambda) = refl
  ruleless-same (t.Keyword k.Nonlocal) = refl
  ruleless-same (t.Keyword k.Raise) = refl
  ruleless-same (t.Keyword k.Try) = refl
  ruleless-same (t.Keyword k.With) = refl
  ruleless-same (t.Keyword k.Yield) = refl
  ruleless-same t = refl

  assigned-same : (b : Bool) (w : Option Exprs) (ts : Targets) (rest : List Kind) → b ≡ is_some w → chained_by (held_purpose place (assigning ts) rest) b ≡ g.chained_by (assigning ts) w
  assigned-same b None ts rest same = ap (chained_by (held_purpose place (assigning ts) rest)) same
  assigned-same b (Some a) ts rest same = ap (chained_by (held_purpose place (assigning ts) rest)) same

  chained-same : (u : m.Purpose) (x : r.Reading) (t : Kind) (rest more : List Kind) → chained (held_purpose place u more) (may_end (held place x rest)) t ≡ g.chained u (whole x) t
  chained-same showing x assign_sign rest more = refl
  chained-same giving x assign_sign rest more = refl
  chained-same deleting x assign_sign rest more = refl
  chained-same (assigning ts) x assign_sign rest more = assigned-same (may_end (held place x rest)) (whole x) ts more (reading-may place x rest)
  chained-same (augmenting to by) x assign_sign rest more = refl
  chained-same u x t rest more = refl

  default_at-same : (t : Kind) → default_at t ≡ g.default_at t
  default_at-same assign_sign = refl
  default_at-same t = refl

  inline_function-same : (t : Kind) → inline_function t ≡ g.inline_function t
  inline_function-same def_word = refl
  inline_function-same t = refl

  nested-same : (texts : Texts) (os : List m.Outer) (t : Kind) (rest : List Kind) → nested (held_outers place texts os rest) t ≡ g.nested os t
  nested-same texts [] t rest = refl
  nested-same texts (o ∷ os) def_word rest = refl
  nested-same texts (o ∷ os) t rest = refl

  in_simple-same : (u : m.Purpose) (x : r.Reading) (t : Kind) (rest more : List Kind) → first_of (chained (held_purpose place u more) (may_end (held place x rest)) t) (construct (held place x rest) t) ≡ first_of (g.chained u (whole x) t) (g.outside_reading x t)
  in_simple-same u x t rest more = ap (λ c. first_of c (construct (held place x rest) t)) (chained-same u x t rest more) ∙ ap (first_of (g.chained u (whole x) t)) (reading-begins place x t rest)

  state-same : (texts : Texts) (s : m.State) (t : Kind) (rest : List Kind) → outside_state (held_state place texts s rest) t ≡ g.outside_state s t
  state-same texts (line os before) t rest = nested-same texts os t _
  state-same texts (in_simple os at u x) t rest = in_simple-same u x t rest _
  state-same texts (in_test os before l x) t rest = reading-begins place x t rest
  state-same texts (has_params before n ns) t rest = default_at-same t
  state-same texts (after_colon os o) t rest = inline_function-same t
  state-same texts _ t rest = refl

  pub outside-same : (texts : Texts) (s : m.State) (t : Kind) (rest : List Kind) → outside (held_state place texts s rest) t ≡ g.outside s t
  outside-same texts s t rest = ap (λ c. first_of c (outside_state (held_state place texts s rest) t)) (ruleless-same t) ∙ ap (first_of (g.ruleless t)) (state-same texts s t rest)
