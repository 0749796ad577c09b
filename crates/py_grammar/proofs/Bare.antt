-- Where nothing has been read of an expression.
use Rattle.std.proofs.Common.{◌≡◌, ℕ, zero, suc, IsTrue, List, [], ◌∷◌, Option, Some, None, refl, ap, ◌∙◌}
use Rattle.std.proofs.lemmas.Bool.{false≢true}
use Rattle.py_grammar.specs.Expressions.{Ors, Ands, Additive}
use Rattle.py_grammar.specs.Readings.{Picked, Upper, upper, Related, Added, Scaled, Lower, lower, no_upper, no_lower, Reading, wants, has, has_none, has_not_none, after_is, after_is_not, after_not, after_dot, after_method, begun, no_upper_part, bare}
use Rattle.py_grammar.specs.States.{is_begun}

-- nothing is before
bare_upper : (ps : List Picked) (test o : Option Ors) (a : Option Ands) (n : ℕ) → IsTrue (no_upper_part (upper ps test o a n)) → upper ps test o a n ≡ no_upper
bare_upper [] None None None zero h = refl
bare_upper _ test o a (suc n) h = absurd (false≢true h)
bare_upper _ test o (Some a) zero h = absurd (false≢true h)
bare_upper _ test (Some o) None zero h = absurd (false≢true h)
bare_upper _ (Some test) None None zero h = absurd (false≢true h)
bare_upper (p ∷ ps) None None None zero h = absurd (false≢true h)

bare_lower : (r : Option Related) (a : Option Added) (m : Option Scaled) (ss : List Additive) (u : Upper) → IsTrue (bare u (lower r a m ss)) → (lower r a m ss ≡ no_lower) × IsTrue (no_upper_part u)
bare_lower None None None [] u h = (refl, h)
bare_lower r a m (s ∷ ss) u h = absurd (false≢true h)
bare_lower r a (Some m) [] u h = absurd (false≢true h)
bare_lower r (Some a) None [] u h = absurd (false≢true h)
bare_lower (Some r) None None [] u h = absurd (false≢true h)

pub bare_is : (u : Upper) (w : Lower) → IsTrue (bare u w) → (u ≡ no_upper) × (w ≡ no_lower)
bare_is (upper ps test o a n) (lower r b m ss) h =
    let k = bare_lower r b m ss (upper ps test o a n) h in
    (bare_upper ps test o a n k.1, k.0)

pub begun_is : (r : Reading) → IsTrue (is_begun r) → r ≡ begun
begun_is (wants [] u w) h = let k = bare_is u w h in ap (λ x. wants [] x w) k.0 ∙ ap (wants [] no_upper) k.1
begun_is (wants (o ∷ os) u w) h = absurd (false≢true h)
begun_is (has os u w p) h = absurd (false≢true h)
begun_is (has_none os u c) h = absurd (false≢true h)
begun_is (has_not_none os u c) h = absurd (false≢true h)
begun_is (after_is os u c) h = absurd (false≢true h)
begun_is (after_is_not os u c) h = absurd (false≢true h)
begun_is (after_not os u c) h = absurd (false≢true h)
begun_is (after_dot os u w p) h = absurd (false≢true h)
begun_is (after_method os u w p n) h = absurd (false≢true h)
