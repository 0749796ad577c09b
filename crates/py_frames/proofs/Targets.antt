-- What may be assigned to is seen where the forms are targets.
use Rattle.std.proofs.Common.{◌≡◌, ℕ, zero, suc, List, [], ◌∷◌, Option, Some, None, refl, ap, ◌∙◌, sym}
use Rattle.py_token.specs.declared.kinds.Kind.{Kind}
use Rattle.py_grammar.specs.Expressions.{Expression, Ors, Ands, Compares, compares_none, compares_not_none, Additive, function, method, Exprs, spell_expression, spell_compares}
use Rattle.py_grammar.specs.Readings as r
use Rattle.py_grammar.specs.Readings.{Picked, picked, Upper, upper, Related, related, Added, added, Scaled, scaled, Lower, lower, no_lower, Opened, opened, listed, in_call, wants, has, has_none, has_not_none, compares_of, expression_of, exprs_after, exprs_at, if_begun, whole}
use Rattle.py_frames.specs.Values.{closes}
use Rattle.py_frames.specs.Steps.{with_both}
use Rattle.py_frames.specs.Held.{value_expression, value_compares, frames_opened, above, around, held, seen_if}
use Rattle.py_frames.specs.Targets.{sight, sight_at, sight_after}
use Rattle.py_frames.proofs.Stepped.{ends-2, ends-2-test, whole_of}
use Rattle.py_frames.proofs.Closed.{compares-end}

module _ (place : ℕ → ℕ) where
  -- ---- after a whole expression

  after-seen : (os : List Opened) (a : Expression) (rest : List Kind) → sight_after (frames_opened place os (spell_expression a rest)) (value_expression place a rest) ≡ seen_if place (exprs_after os (Some a)) rest
  after-seen [] a rest = refl
  after-seen (listed es ∷ []) a rest = refl
  after-seen (listed es ∷ listed xs ∷ os) a rest = refl
  after-seen (listed es ∷ opened u w b ∷ os) a rest = refl
  after-seen (opened u w (in_call (function p) xs) ∷ os) a rest = refl
  after-seen (opened u w (in_call (method p n) xs) ∷ os) a rest = refl
  after-seen (opened u w _ ∷ os) a rest = refl

  pub none-after : (os : List Opened) → exprs_after os None ≡ None
  none-after [] = refl
  none-after (listed es ∷ []) = refl
  none-after _ = refl

  compared-seen : (os : List Opened) (ps : List Picked) (test o : Option Ors) (a : Option Ands) (n : ℕ) (c : Compares) (rest : List Kind)
      → with_both (closes 2 (above place os (upper ps test o a n) (spell_compares c rest)) (value_compares place c rest)) sight_after ≡ seen_if place (exprs_after os (expression_of (upper ps test o a n) c)) rest
  compared-seen os ps None o a n c rest = ap (λ b. with_both b sight_after) (ends-2 place os ps o a n c rest) ∙ after-seen os (whole_of place ps o a n c) rest
  compared-seen os ps (Some y) o a n c rest = ap (λ b. with_both b sight_after) (ends-2-test place os ps y o a n c rest) ∙ ap (λ x. seen_if place x rest) (sym (none-after os))

  -- ---- after a comma

  at-seen : (os : List Opened) (rest : List Kind) → sight_at (frames_opened place os rest) ≡ seen_if place (exprs_at os) rest
  at-seen [] rest = refl
  at-seen (listed es ∷ []) rest = refl
  at-seen (listed es ∷ listed xs ∷ os) rest = refl
  at-seen (listed es ∷ opened u w b ∷ os) rest = refl
  at-seen (opened u w (in_call (function p) xs) ∷ os) rest = refl
  at-seen (opened u w (in_call (method p n) xs) ∷ os) rest = refl
  at-seen (opened u w _ ∷ os) rest = refl

  pub start-test : (ps : List Picked) (b : Ors) (o : Option Ors) (a : Option Ands) (n : ℕ) (w : Lower) (z : Option Exprs) → if_begun (upper ps (Some b) o a n) w z ≡ None
  start-test [] b o a n w z = refl
  start-test _ b o a n w z = refl

  pub start-or : (ps : List Picked) (test : Option Ors) (b : Ors) (a : Option Ands) (n : ℕ) (w : Lower) (z : Option Exprs) → if_begun (upper ps test (Some b) a n) w z ≡ None
  start-or [] None b a n w z = refl
  start-or _ _ b a n w z = refl

  pub start-and : (ps : List Picked) (test o : Option Ors) (b : Ands) (n : ℕ) (w : Lower) (z : Option Exprs) → if_begun (upper ps test o (Some b) n) w z ≡ None
  start-and [] None None b n w z = refl
  start-and _ _ _ b n w z = refl

  pub start-not : (ps : List Picked) (test o : Option Ors) (a : Option Ands) (n : ℕ) (w : Lower) (z : Option Exprs) → if_begun (upper ps test o a (suc n)) w z ≡ None
  start-not [] None None None n w z = refl
  start-not _ _ _ _ n w z = refl

  pub start-relation : (u : Upper) (b : Related) (x : Option Added) (m : Option Scaled) (ss : List Additive) (z : Option Exprs) → if_begun u (lower (Some b) x m ss) z ≡ None
  start-relation (upper [] None None None zero) b x m ss z = refl
  start-relation _ b x m ss z = refl

  pub start-sum : (u : Upper) (y : Option Related) (b : Added) (m : Option Scaled) (ss : List Additive) (z : Option Exprs) → if_begun u (lower y (Some b) m ss) z ≡ None
  start-sum (upper [] None None None zero) None b m ss z = refl
  start-sum _ _ b m ss z = refl

  pub start-product : (u : Upper) (y : Option Related) (x : Option Added) (b : Scaled) (ss : List Additive) (z : Option Exprs) → if_begun u (lower y x (Some b) ss) z ≡ None
  start-product (upper [] None None None zero) None None b ss z = refl
  start-product _ _ _ b ss z = refl

  pub start-signs : (u : Upper) (y : Option Related) (x : Option Added) (m : Option Scaled) (s : Additive) (ss : List Additive) (z : Option Exprs) → if_begun u (lower y x m (s ∷ ss)) z ≡ None
  start-signs (upper [] None None None zero) None None None s ss z = refl
  start-signs _ _ _ _ s ss z = refl

  unseen : (z : Option Exprs) (rest : List Kind) → z ≡ None → None ≡ seen_if place z rest
  unseen z rest e = ap (λ z. seen_if place z rest) (sym e)

  wants-seen : (os : List Opened) (u : Upper) (w : Lower) (rest : List Kind) → sight_at (around place os u w rest) ≡ seen_if place (if_begun u w (exprs_at os)) rest
  wants-seen os (upper [] None None None zero) (lower None None None []) rest = at-seen os rest
  wants-seen os (upper (picked a test ∷ ps) None None None zero) (lower None None None []) rest = refl
  wants-seen os (upper ps (Some test) None None zero) (lower None None None []) rest = unseen _ rest (start-test ps test None None zero no_lower (exprs_at os))
  wants-seen os (upper ps test (Some o) None zero) (lower None None None []) rest = unseen _ rest (start-or ps test o None zero no_lower (exprs_at os))
  wants-seen os (upper ps test o (Some a) zero) (lower None None None []) rest = unseen _ rest (start-and ps test o a zero no_lower (exprs_at os))
  wants-seen os (upper ps test o a (suc n)) (lower None None None []) rest = unseen _ rest (start-not ps test o a n no_lower (exprs_at os))
  wants-seen os u (lower (Some (related c s)) None None []) rest = unseen _ rest (start-relation u (related c s) None None [] (exprs_at os))
  wants-seen os u (lower y (Some (added c s)) None []) rest = unseen _ rest (start-sum u y (added c s) None [] (exprs_at os))
  wants-seen os u (lower y a (Some (scaled c s)) []) rest = unseen _ rest (start-product u y a (scaled c s) [] (exprs_at os))
  wants-seen os u (lower y a m (s ∷ ss)) rest = unseen _ rest (start-signs u y a m s ss (exprs_at os))

  pub reading-seen : (x : r.Reading) (rest : List Kind) → sight (held place x rest) ≡ seen_if place (whole x) rest
  reading-seen (wants os u w) rest = wants-seen os u w rest
  reading-seen (has os (upper ps test o a n) w p) rest = ap (λ b. with_both b sight_after) (compares-end place 2 refl refl refl refl w p rest (above place os (upper ps test o a n))) ∙ compared-seen os ps test o a n (compares_of w p) rest
  reading-seen (has_none os (upper ps test o a n) c) rest = compared-seen os ps test o a n (compares_none c) rest
  reading-seen (has_not_none os (upper ps test o a n) c) rest = compared-seen os ps test o a n (compares_not_none c) rest
  reading-seen _ rest = refl
