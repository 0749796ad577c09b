-- What binds tightly ends in the frames as it does in the forms.
use Rattle.std.proofs.Common.{◌≡◌, ℕ, zero, suc, ◌<◌, true, false, if◌then◌else◌, nat_le, List, [], ◌∷◌, Option, Some, None, refl, ap, ◌∙◌, arith}
use Rattle.py_token.specs.declared.kinds.Kind.{Kind}
use Rattle.py_grammar.specs.Expressions.{Expression, conditional, Ors, Ands, Negation, negated, Sums, Products, Additive, Signed, unsigned, signed, Primary, spell_expression, spell_ors, spell_ands, spell_negation, spell_compares, spell_sums, spell_products, spell_signed, spell_primary}
use Rattle.py_grammar.specs.Readings.{Picked, picked, Upper, upper, Related, related, Added, added, Scaled, scaled, Lower, lower, Opened, opened, listed, in_group, in_display, in_dict, in_pair, in_call, in_index, in_slice, add_signs, add_scaled, add_added, add_related, add_nots, add_and, add_or, add_picked, compares_of}
use Rattle.py_grammar.specs.Expressions.{function, method}
use Rattle.py_grammar.specs.Open.{spell_picked, front_or, front_and, nots, front_related, front_added, front_scaled, signs, spell_lower}
use Rattle.py_frames.specs.declared.frames.Value.{Value}
use Rattle.py_frames.specs.declared.frames.Frame.{Frame}
use Rattle.py_frames.specs.Values.{level, close, closes}
use Rattle.py_frames.specs.Held.{value_expression, value_ors, value_ands, value_negation, value_compares, value_sums, value_products, value_signed, value_primary, frames_signs, frames_scaled, frames_added, frames_related, frames_nots, frames_and, frames_or, frames_test, frames_picked, frames_lower, frames_opened, above}

module _ (place : ℕ → ℕ) where
  -- ---- the innermost frame binds, or it doesn't

  pub closes-pops : (k : ℕ) (f : Frame) (fs : List Frame) (v : Value) → nat_le k (level f.hole) ≡ true → closes k (f ∷ fs) v ≡ closes k fs (close f v)
  closes-pops k f fs v e = ap (λ b. if b then closes k fs (close f v) else (f ∷ fs, v)) e

  -- how tightly the innermost frame binds
  abbrev pub leads : List Frame → ℕ
  leads [] = 0
  leads (f ∷ fs) = level f.hole

  pub closes-stays : (k : ℕ) (fs : List Frame) (v : Value) → nat_le k (leads fs) ≡ false → closes k fs v ≡ (fs, v)
  closes-stays k [] v e = refl
  closes-stays k (f ∷ fs) v e = ap (λ b. if b then closes k fs (close f v) else (f ∷ fs, v)) e

  -- ---- each layer, before what it spells

  pub signs-close : (k : ℕ) → nat_le k 9 ≡ true → (ss : List Additive) (a : Signed) (rest : List Kind) (around : List Kind → List Frame)
      → closes k (frames_signs place ss (spell_signed a rest) (around (signs ss (spell_signed a rest)))) (value_signed place a rest) ≡ closes k (around (spell_signed (add_signs ss a) rest)) (value_signed place (add_signs ss a) rest)
  signs-close k e [] a rest around = refl
  signs-close k e (s ∷ ss) a rest around = rw e (signs-close k e ss (signed s a) rest around)

  pub scaled-close : (k : ℕ) → nat_le k 8 ≡ true → (m : Option Scaled) (a : Signed) (rest : List Kind) (around : List Kind → List Frame)
      → closes k (frames_scaled place m (spell_signed a rest) (around (front_scaled m (spell_signed a rest)))) (value_signed place a rest) ≡ closes k (around (spell_products (add_scaled m a) rest)) (value_products place (add_scaled m a) rest)
  scaled-close k e None a rest around = refl
  scaled-close k e (Some (scaled b s)) a rest around = rw e refl

  pub added-close : (k : ℕ) → nat_le k 7 ≡ true → (x : Option Added) (a : Products) (rest : List Kind) (around : List Kind → List Frame)
      → closes k (frames_added place x (spell_products a rest) (around (front_added x (spell_products a rest)))) (value_products place a rest) ≡ closes k (around (spell_sums (add_added x a) rest)) (value_sums place (add_added x a) rest)
  added-close k e None a rest around = refl
  added-close k e (Some (added b s)) a rest around = rw e refl

  pub related-close : (k : ℕ) → nat_le k 6 ≡ true → (x : Option Related) (a : Sums) (rest : List Kind) (around : List Kind → List Frame)
      → closes k (frames_related place x (spell_sums a rest) (around (front_related x (spell_sums a rest)))) (value_sums place a rest) ≡ closes k (around (spell_compares (add_related x a) rest)) (value_compares place (add_related x a) rest)
  related-close k e None a rest around = refl
  related-close k e (Some (related b s)) a rest around = rw e refl

  pub nots-close : (k : ℕ) → nat_le k 5 ≡ true → (n : ℕ) (a : Negation) (rest : List Kind) (around : List Kind → List Frame)
      → closes k (frames_nots place n (spell_negation a rest) (around (nots n (spell_negation a rest)))) (value_negation place a rest) ≡ closes k (around (spell_negation (add_nots n a) rest)) (value_negation place (add_nots n a) rest)
  nots-close k e zero a rest around = refl
  nots-close k e (suc n) a rest around = rw e (nots-close k e n (negated a) rest around)

  pub and-close : (k : ℕ) → nat_le k 4 ≡ true → (x : Option Ands) (a : Negation) (rest : List Kind) (around : List Kind → List Frame)
      → closes k (frames_and place x (spell_negation a rest) (around (front_and x (spell_negation a rest)))) (value_negation place a rest) ≡ closes k (around (spell_ands (add_and x a) rest)) (value_ands place (add_and x a) rest)
  and-close k e None a rest around = refl
  and-close k e (Some b) a rest around = rw e refl

  pub or-close : (k : ℕ) → nat_le k 3 ≡ true → (x : Option Ors) (a : Ands) (rest : List Kind) (around : List Kind → List Frame)
      → closes k (frames_or place x (spell_ands a rest) (around (front_or x (spell_ands a rest)))) (value_ands place a rest) ≡ closes k (around (spell_ors (add_or x a) rest)) (value_ors place (add_or x a) rest)
  or-close k e None a rest around = refl
  or-close k e (Some b) a rest around = rw e refl

  pub picked-close : (k : ℕ) → nat_le k 2 ≡ true → (ps : List Picked) (a : Expression) (rest : List Kind) (around : List Kind → List Frame)
      → closes k (frames_picked place ps (spell_expression a rest) (around (spell_picked ps (spell_expression a rest)))) (value_expression place a rest) ≡ closes k (around (spell_expression (add_picked ps a) rest)) (value_expression place (add_picked ps a) rest)
  picked-close k e [] a rest around = refl
  picked-close k e (picked b test ∷ ps) a rest around = rw e (picked-close k e ps (conditional b test a) rest around)

  -- ---- an operand, up to its product, its sum and its comparison

  abbrev pub beyond_signs : Lower → List Kind → (List Kind → List Frame) → List Frame
  beyond_signs (lower x a m ss) rest fs = frames_scaled place m rest (frames_added place a (front_scaled m rest) (frames_related place x (front_added a (front_scaled m rest)) (fs (front_related x (front_added a (front_scaled m rest))))))

  pub signed-ends : (k : ℕ) → nat_le k 9 ≡ true → (x : Option Related) (a : Option Added) (m : Option Scaled) (ss : List Additive) (p : Primary) (rest : List Kind) (around : List Kind → List Frame)
      → closes k (frames_lower place (lower x a m ss) (spell_primary p rest) (around (spell_lower (lower x a m ss) (spell_primary p rest)))) (value_primary place p rest)
      ≡ closes k (frames_scaled place m (spell_signed (add_signs ss (unsigned p)) rest) (frames_added place a (front_scaled m (spell_signed (add_signs ss (unsigned p)) rest)) (frames_related place x (front_added a (front_scaled m (spell_signed (add_signs ss (unsigned p)) rest))) (around (front_related x (front_added a (front_scaled m (spell_signed (add_signs ss (unsigned p)) rest)))))))) (value_signed place (add_signs ss (unsigned p)) rest)
  signed-ends k e x a m ss p rest around = signs-close k e ss (unsigned p) rest (λ more. frames_scaled place m more (frames_added place a (front_scaled m more) (frames_related place x (front_added a (front_scaled m more)) (around (front_related x (front_added a (front_scaled m more)))))))

  pub product-ends : (k : ℕ) → nat_le k 9 ≡ true → nat_le k 8 ≡ true → (x : Option Related) (a : Option Added) (m : Option Scaled) (ss : List Additive) (p : Primary) (rest : List Kind) (around : List Kind → List Frame)
      → closes k (frames_lower place (lower x a m ss) (spell_primary p rest) (around (spell_lower (lower x a m ss) (spell_primary p rest)))) (value_primary place p rest)
      ≡ closes k (frames_added place a (spell_products (add_scaled m (add_signs ss (unsigned p))) rest) (frames_related place x (front_added a (spell_products (add_scaled m (add_signs ss (unsigned p))) rest)) (around (front_related x (front_added a (spell_products (add_scaled m (add_signs ss (unsigned p))) rest)))))) (value_products place (add_scaled m (add_signs ss (unsigned p))) rest)
  product-ends k e f x a m ss p rest around = signed-ends k e x a m ss p rest around ∙ scaled-close k f m (add_signs ss (unsigned p)) rest (λ more. frames_added place a more (frames_related place x (front_added a more) (around (front_related x (front_added a more)))))

  pub sum-ends : (k : ℕ) → nat_le k 9 ≡ true → nat_le k 8 ≡ true → nat_le k 7 ≡ true → (x : Option Related) (a : Option Added) (m : Option Scaled) (ss : List Additive) (p : Primary) (rest : List Kind) (around : List Kind → List Frame)
      → closes k (frames_lower place (lower x a m ss) (spell_primary p rest) (around (spell_lower (lower x a m ss) (spell_primary p rest)))) (value_primary place p rest)
      ≡ closes k (frames_related place x (spell_sums (add_added a (add_scaled m (add_signs ss (unsigned p)))) rest) (around (front_related x (spell_sums (add_added a (add_scaled m (add_signs ss (unsigned p)))) rest)))) (value_sums place (add_added a (add_scaled m (add_signs ss (unsigned p)))) rest)
  sum-ends k e f g x a m ss p rest around = product-ends k e f x a m ss p rest around ∙ added-close k g a (add_scaled m (add_signs ss (unsigned p))) rest (λ more. frames_related place x more (around (front_related x more)))

  pub compares-end : (k : ℕ) → nat_le k 9 ≡ true → nat_le k 8 ≡ true → nat_le k 7 ≡ true → nat_le k 6 ≡ true → (w : Lower) (p : Primary) (rest : List Kind) (around : List Kind → List Frame)
      → closes k (frames_lower place w (spell_primary p rest) (around (spell_lower w (spell_primary p rest)))) (value_primary place p rest) ≡ closes k (around (spell_compares (compares_of w p) rest)) (value_compares place (compares_of w p) rest)
  compares-end k e f g i (lower x a m ss) p rest around = sum-ends k e f g x a m ss p rest around ∙ related-close k i x (add_added a (add_scaled m (add_signs ss (unsigned p)))) rest around

  -- ---- what doesn't bind so tightly

  abbrev pub Below : ℕ → List Frame → Type 0
  Below k fs = leads fs < k

  pub opened-below : (os : List Opened) (rest : List Kind) → Below 1 (frames_opened place os rest)
  opened-below [] rest = omega arith
  opened-below (opened u w in_group ∷ os) rest = omega arith
  opened-below (opened u w (in_display es) ∷ os) rest = omega arith
  opened-below (opened u w (in_dict ps) ∷ os) rest = omega arith
  opened-below (opened u w (in_pair ps a) ∷ os) rest = omega arith
  opened-below (opened u w (in_call (function p) es) ∷ os) rest = omega arith
  opened-below (opened u w (in_call (method p n) es) ∷ os) rest = omega arith
  opened-below (opened u w (in_index p) ∷ os) rest = omega arith
  opened-below (opened u w (in_slice p b) ∷ os) rest = omega arith
  opened-below (listed es ∷ os) rest = omega arith

  pub less-more : (x k n : ℕ) → x < k → k < n → x < n
  less-more x k n a b = omega arith

  pub picked-below : (ps : List Picked) (rest : List Kind) (fs : List Frame) → Below 1 fs → Below 3 (frames_picked place ps rest fs)
  picked-below [] rest fs b = less-more _ _ _ b (omega arith)
  picked-below (picked a test ∷ ps) rest fs b = omega arith

  pub test-below : (x : Option Ors) (rest : List Kind) (fs : List Frame) → Below 3 fs → Below 3 (frames_test place x rest fs)
  test-below None rest fs b = b
  test-below (Some a) rest fs b = omega arith

  pub or-below : (x : Option Ors) (rest : List Kind) (fs : List Frame) → Below 3 fs → Below 4 (frames_or place x rest fs)
  or-below None rest fs b = less-more _ _ _ b (omega arith)
  or-below (Some a) rest fs b = omega arith

  pub and-below : (x : Option Ands) (rest : List Kind) (fs : List Frame) → Below 4 fs → Below 5 (frames_and place x rest fs)
  and-below None rest fs b = less-more _ _ _ b (omega arith)
  and-below (Some a) rest fs b = omega arith

  pub nots-below : (n : ℕ) (rest : List Kind) (fs : List Frame) → Below 5 fs → Below 6 (frames_nots place n rest fs)
  nots-below zero rest fs b = less-more _ _ _ b (omega arith)
  nots-below (suc n) rest fs b = omega arith

  pub related-below : (x : Option Related) (rest : List Kind) (fs : List Frame) → Below 6 fs → Below 7 (frames_related place x rest fs)
  related-below None rest fs b = less-more _ _ _ b (omega arith)
  related-below (Some (related c s)) rest fs b = omega arith

  pub added-below : (x : Option Added) (rest : List Kind) (fs : List Frame) → Below 7 fs → Below 8 (frames_added place x rest fs)
  added-below None rest fs b = less-more _ _ _ b (omega arith)
  added-below (Some (added c s)) rest fs b = omega arith

  pub scaled-below : (x : Option Scaled) (rest : List Kind) (fs : List Frame) → Below 8 fs → Below 9 (frames_scaled place x rest fs)
  scaled-below None rest fs b = less-more _ _ _ b (omega arith)
  scaled-below (Some (scaled c s)) rest fs b = omega arith

  pub chosen-below : (ps : List Picked) (test : Option Ors) (os : List Opened) (rest more under : List Kind) → Below 3 (frames_test place test rest (frames_picked place ps more (frames_opened place os under)))
  chosen-below ps test os rest more under = test-below test _ _ (picked-below ps _ _ (opened-below os under))

  pub above-below : (os : List Opened) (u : Upper) (rest : List Kind) → Below 6 (above place os u rest)
  above-below os (upper ps test o a n) rest = nots-below n _ _ (and-below a _ _ (or-below o _ _ (chosen-below ps test os _ _ _)))
