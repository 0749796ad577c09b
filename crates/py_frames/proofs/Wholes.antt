-- What ends is the form that has been read.
use Rattle.std.proofs.Common.{◌≡◌, ℕ, zero, suc, List, [], ◌∷◌, Option, Some, None, refl, ap, ◌∙◌, sym}
use Rattle.py_token.specs.declared.kinds.Kind.{Kind}
use Rattle.py_grammar.specs.Expressions.{Expression, Ors, Ands, Compares, compares_none, compares_not_none, function, method, Exprs, spell_expression, spell_compares}
use Rattle.py_grammar.specs.Readings as r
use Rattle.py_grammar.specs.Readings.{Picked, picked, Upper, upper, related, added, scaled, Lower, lower, no_lower, Opened, opened, listed, in_call, wants, has, has_none, has_not_none, compares_of, expression_of, exprs_after, exprs_at, if_begun, whole}
use Rattle.py_frames.specs.Values.{closes}
use Rattle.py_frames.specs.Steps.{with_both}
use Rattle.py_frames.specs.Held.{value_expression, value_compares, frames_opened, above, around, held, value_if}
use Rattle.py_frames.specs.Ends.{ended, ended_at, ended_after}
use Rattle.py_frames.proofs.Targets.{none-after, start-test, start-or, start-and, start-not, start-relation, start-sum, start-product, start-signs}
use Rattle.py_frames.proofs.Stepped.{ends-2, ends-2-test, whole_of}
use Rattle.py_frames.proofs.Closed.{compares-end}

module _ (place : ℕ → ℕ) where
  -- ---- after a whole expression

  after-ended : (os : List Opened) (a : Expression) (rest : List Kind) → ended_after (frames_opened place os (spell_expression a rest)) (value_expression place a rest) ≡ value_if place (exprs_after os (Some a)) rest
  after-ended [] a rest = refl
  after-ended (listed es ∷ []) a rest = refl
  after-ended (listed es ∷ listed xs ∷ os) a rest = refl
  after-ended (listed es ∷ opened u w b ∷ os) a rest = refl
  after-ended (opened u w (in_call (function p) xs) ∷ os) a rest = refl
  after-ended (opened u w (in_call (method p n) xs) ∷ os) a rest = refl
  after-ended (opened u w _ ∷ os) a rest = refl

  compared-ended : (os : List Opened) (ps : List Picked) (test o : Option Ors) (a : Option Ands) (n : ℕ) (c : Compares) (rest : List Kind)
      → with_both (closes 2 (above place os (upper ps test o a n) (spell_compares c rest)) (value_compares place c rest)) ended_after ≡ value_if place (exprs_after os (expression_of (upper ps test o a n) c)) rest
  compared-ended os ps None o a n c rest = ap (λ b. with_both b ended_after) (ends-2 place os ps o a n c rest) ∙ after-ended os (whole_of place ps o a n c) rest
  compared-ended os ps (Some y) o a n c rest = ap (λ b. with_both b ended_after) (ends-2-test place os ps y o a n c rest) ∙ ap (λ x. value_if place x rest) (sym (none-after place os))

  -- ---- after a comma

  at-ended : (os : List Opened) (rest : List Kind) → ended_at (frames_opened place os rest) ≡ value_if place (exprs_at os) rest
  at-ended [] rest = refl
  at-ended (listed es ∷ []) rest = refl
  at-ended (listed es ∷ listed xs ∷ os) rest = refl
  at-ended (listed es ∷ opened u w b ∷ os) rest = refl
  at-ended (opened u w (in_call (function p) xs) ∷ os) rest = refl
  at-ended (opened u w (in_call (method p n) xs) ∷ os) rest = refl
  at-ended (opened u w _ ∷ os) rest = refl

  unended : (z : Option Exprs) (rest : List Kind) → z ≡ None → None ≡ value_if place z rest
  unended z rest e = ap (λ z. value_if place z rest) (sym e)

  wants-ended : (os : List Opened) (u : Upper) (w : Lower) (rest : List Kind) → ended_at (around place os u w rest) ≡ value_if place (if_begun u w (exprs_at os)) rest
  wants-ended os (upper [] None None None zero) (lower None None None []) rest = at-ended os rest
  wants-ended os (upper (picked a test ∷ ps) None None None zero) (lower None None None []) rest = refl
  wants-ended os (upper ps (Some test) None None zero) (lower None None None []) rest = unended _ rest (start-test place ps test None None zero no_lower (exprs_at os))
  wants-ended os (upper ps test (Some o) None zero) (lower None None None []) rest = unended _ rest (start-or place ps test o None zero no_lower (exprs_at os))
  wants-ended os (upper ps test o (Some a) zero) (lower None None None []) rest = unended _ rest (start-and place ps test o a zero no_lower (exprs_at os))
  wants-ended os (upper ps test o a (suc n)) (lower None None None []) rest = unended _ rest (start-not place ps test o a n no_lower (exprs_at os))
  wants-ended os u (lower (Some (related c s)) None None []) rest = unended _ rest (start-relation place u (related c s) None None [] (exprs_at os))
  wants-ended os u (lower y (Some (added c s)) None []) rest = unended _ rest (start-sum place u y (added c s) None [] (exprs_at os))
  wants-ended os u (lower y a (Some (scaled c s)) []) rest = unended _ rest (start-product place u y a (scaled c s) [] (exprs_at os))
  wants-ended os u (lower y a m (s ∷ ss)) rest = unended _ rest (start-signs place u y a m s ss (exprs_at os))

  pub reading-ended : (x : r.Reading) (rest : List Kind) → ended (held place x rest) ≡ value_if place (whole x) rest
  reading-ended (wants os u w) rest = wants-ended os u w rest
  reading-ended (has os (upper ps test o a n) w p) rest = ap (λ b. with_both b ended_after) (compares-end place 2 refl refl refl refl w p rest (above place os (upper ps test o a n))) ∙ compared-ended os ps test o a n (compares_of w p) rest
  reading-ended (has_none os (upper ps test o a n) c) rest = compared-ended os ps test o a n (compares_none c) rest
  reading-ended (has_not_none os (upper ps test o a n) c) rest = compared-ended os ps test o a n (compares_not_none c) rest
  reading-ended _ rest = refl
