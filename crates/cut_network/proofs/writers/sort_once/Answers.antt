use Rattle.std.proofs.Common.{ℕ, List, sym, subst}
use Rattle.std.proofs.lemmas.List.Filters.{dedup_is}
use Rattle.std.proofs.lemmas.List.Kept.{Contains-dedup_nat, Contains-from_dedup}
use Rattle.std.proofs.lemmas.Map.Keys.{IsStrictlyIncreasing-dedup}
use Rattle.std.proofs.lemmas.List.Sorted.{Contains-permutation, IsPermutation-sym}
use Rattle.std.specs.List.{Contains}
use Rattle.std.specs.Prelude.{nat_eq}
use Rattle.plan_model.proofs.Ascents.{Rises}
use Rattle.cut_network.proofs.Rising.{rising-from_increasing}
use Rattle.cut_network.proofs.writers.sort_once.Goals as goal

pub returns-clause-ascends : goal.returns-clause-ascends
returns-clause-ascends c =
    subst Rises (sym (dedup_is nat_eq c.sort_unstable.new.self.items c.dedup.new.self.items c.dedup.ensures.filtered))
    (rising-from_increasing _ (IsStrictlyIncreasing-dedup c.sort_unstable.new.self.items c.sort_unstable.ensures.sorted))

pub returns-clause-members : goal.returns-clause-members
returns-clause-members c = λ n.
    let old = c.args.numbers.now.items in
    let sorted = c.sort_unstable.new.self.items in
    let P : List ℕ → Type 0 = λ xs. Contains xs n in
    let e = dedup_is nat_eq sorted c.dedup.new.self.items c.dedup.ensures.filtered in (
      λ h. Contains-permutation sorted old n (IsPermutation-sym old sorted c.sort_unstable.ensures.permutation) (Contains-from_dedup nat_eq sorted n (subst P e h)),
      λ h. subst P (sym e) (Contains-dedup_nat sorted n (Contains-permutation old sorted n c.sort_unstable.ensures.permutation h)),
    )
