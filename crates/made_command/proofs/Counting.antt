-- Counts that are added one after the other.
use Rattle.std.proofs.Common.{◌≡◌, ℕ, zero, suc, ◌+◌, ◌<◌, ◌≤◌, List, [], ◌∷◌, length, drop, get_or, refl, sym, ap, ◌∙◌, arith}
use Rattle.std.proofs.Math.Seq.{drop-cons}
use Rattle.made_command.specs.declared.counts.Counts.{Counts}
use Rattle.made_command.specs.Counting.{nothing, both, cap, capped}

abbrev made : ℕ → ℕ → ℕ → ℕ → Counts
made c e m p = record { cells = c; errors = e; moves = m; printed = p }

same : (a b c d x y z w : ℕ) → a ≡ x → b ≡ y → c ≡ z → d ≡ w → made a b c d ≡ made x y z w
same a b c d x y z w p q r s = ap (λ (n : ℕ). made n b c d) p ∙ (ap (λ (n : ℕ). made x n c d) q ∙ (ap (λ (n : ℕ). made x y n d) r ∙ ap (λ (n : ℕ). made x y z n) s))

sum_again : (a b c : ℕ) → (a + b) + c ≡ a + (b + c)
sum_again a b c = omega arith

cap_first : (a b : ℕ) → cap (cap a + b) ≡ cap (a + b)
cap_first a b = omega arith

cap_again : (a : ℕ) → cap (cap a) ≡ cap a
cap_again a = omega arith

none_added : (a : ℕ) → a + 0 ≡ a
none_added a = omega arith

both_again : (a b c : Counts) → both (both a b) c ≡ both a (both b c)
both_again a b c = same _ _ _ _ _ _ _ _ (sum_again a.cells b.cells c.cells) (sum_again a.errors b.errors c.errors) (sum_again a.moves b.moves c.moves) (sum_again a.printed b.printed c.printed)

capped_both : (a b : Counts) → capped (both (capped a) b) ≡ capped (both a b)
capped_both a b = same _ _ _ _ _ _ _ _ (cap_first a.cells b.cells) (cap_first a.errors b.errors) (cap_first a.moves b.moves) (cap_first a.printed b.printed)

capped_again : (a : Counts) → capped (capped a) ≡ capped a
capped_again a = same _ _ _ _ _ _ _ _ (cap_again a.cells) (cap_again a.errors) (cap_again a.moves) (cap_again a.printed)

capped_none : (a : Counts) → capped (both a nothing) ≡ capped a
capped_none a = ap capped (same _ _ _ _ _ _ _ _ (none_added a.cells) (none_added a.errors) (none_added a.moves) (none_added a.printed))

-- on the way: these are counted, and those are left of all
pub record CountsSoFar (now left all : Counts) : Type 0 where
  pub adds : capped (both now left) ≡ capped all
  pub fits : now ≡ capped now

first_added : (a : ℕ) → 0 + a ≡ a
first_added a = omega arith

none_first : (a : Counts) → both nothing a ≡ a
none_first a = same _ _ _ _ _ _ _ _ (first_added a.cells) (first_added a.errors) (first_added a.moves) (first_added a.printed)

pub none_counted : (now all : Counts) → now ≡ capped nothing → CountsSoFar now all all
none_counted now all is = record {
  adds = ap (λ (c : Counts). capped (both c all)) is ∙ (capped_both nothing all ∙ ap capped (none_first all));
  fits = is ∙ (sym (capped_again nothing) ∙ ap capped (sym is));
}

pub one_counted : (now one left all new : Counts) → CountsSoFar now (both one left) all → new ≡ capped (both now one) → CountsSoFar new left all
one_counted now one left all new so is = record {
  adds = ap (λ (c : Counts). capped (both c left)) is ∙ (capped_both (both now one) left ∙ (ap capped (both_again now one left) ∙ so.adds));
  fits = is ∙ (sym (capped_again (both now one)) ∙ ap capped (sym is));
}

swapped : (a b : ℕ) → a + b ≡ b + a
swapped a b = omega arith

turned : (a b : Counts) → both a b ≡ both b a
turned a b = same _ _ _ _ _ _ _ _ (swapped a.cells b.cells) (swapped a.errors b.errors) (swapped a.moves b.moves) (swapped a.printed b.printed)

-- one that is capped already
pub capped_counted : (now one left all new : Counts) → CountsSoFar now (both one left) all → new ≡ capped (both now (capped one)) → CountsSoFar new left all
capped_counted now one left all new so is = one_counted now one left all new so (is ∙ (ap capped (turned now (capped one)) ∙ (capped_both one now ∙ ap capped (turned one now))))

pub all_counted : (now all : Counts) → CountsSoFar now nothing all → now ≡ capped all
all_counted now all so = so.fits ∙ (sym (capped_none now) ∙ so.adds)

-- ---- a list from a place on

pub next_dropped : {X : Type 0} (xs : List X) (i : ℕ) (x : X) → i < length xs → x ≡ get_or xs i x → drop i xs ≡ x ∷ drop (i + 1) xs
next_dropped {X} xs i x within is =
    let next : suc i ≡ i + 1 = omega arith in
    drop-cons xs i x within ∙ (ap (λ (y : X). y ∷ drop (suc i) xs) (sym is) ∙ ap (λ (j : ℕ). x ∷ drop j xs) next)

pub none_dropped : {X : Type 0} (xs : List X) (i : ℕ) → length xs ≤ i → drop i xs ≡ []
none_dropped [] zero past = refl
none_dropped [] (suc i) past = refl
none_dropped (x ∷ xs) zero past = absurd (omega (arith, past))
none_dropped (x ∷ xs) (suc i) past = none_dropped xs i (omega (arith, past))
