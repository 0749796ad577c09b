use Rattle.std.proofs.Common.{◌≡◌, ℕ, ◌+◌, ◌<◌, List, [], ◌∷◌, ◌++◌, length, get_or, set, slice_index, Option, Some, None, refl, sym, ap, ◌∙◌, subst, arith}
use Rattle.std.proofs.lemmas.List.{get_or_default}
use Rattle.linked_parts.specs.Labels.{IsOwner, AreOwnedUnder}
use Rattle.linked_parts.proofs.Partings.{AreListed, listed_free, listed_more}
use Rattle.linked_parts.proofs.listing.objects_by_label.Goals as goal
use Rattle.linked_parts.proofs.listing.objects_by_label.Goals.{in-Some+in_ok-push, in_default}

none_of : (o : Option ℕ) → ((x : ℕ) → o ≡ Some x → ⊥) → o ≡ None
none_of None n = refl
none_of (Some x) n = absurd (n x refl)

pub loop-at-preserved : goal.loop-at-preserved
loop-at-preserved c =
    let labels = c.args.labels.now in
    let owners = c.args.owners.now in
    let at = c.loop-at.at in
    let lists = c.loop-at.lists.items in
    let i = c.loop-at.invariant in
    elim c.match-owners-at.branch [
      | in-Some+in_ok-push w ↦
          let owner = w.in-Some.owner in
          let is : IsOwner owners at owner = w.in-Some.is in
          let label : ℕ = slice_index labels owner in
          let label_in : label < length labels = c.requires.labels owner (c.requires.within at owner is) in
          let read : get_or lists label [] ≡ w.index_mut.result.now =
          get_or_default lists label [] w.index_mut.result.now (omega (arith, i.size, label_in)) ∙ sym w.index_mut.ensures.value in
          let pushed : w.push.new.self ≡ get_or lists label [] ++ at ∷ [] = w.in_ok-push.ensures.ok ∙ ap (λ (ns : List ℕ). ns ++ at ∷ []) (sym read) in
          listed_more labels owners at lists i owner c.match-owners-at.lists.items is label_in
          (ap (λ ls. ls.items) w.lists-is ∙ ap (λ (ns : List ℕ). set lists label ns) pushed)
      | in_default w ↦ subst (λ ls. AreListed labels owners (at + 1) ls.items) (sym w.lists-is)
          (listed_free labels owners at lists i (none_of (get_or owners at None) w.in_default.not-Some))
    ]

pub returns-clause-each : goal.returns-clause-each
returns-clause-each c =
    let at : c.loop-at.at ≡ length c.args.owners.now = omega arith in
    λ label l. subst (λ (ls : List (List ℕ)). AreOwnedUnder c.args.labels.now c.args.owners.now (length c.args.owners.now) label (get_or ls label [])) (sym c.from_vec.ensures)
    (subst (λ (n : ℕ). AreOwnedUnder c.args.labels.now c.args.owners.now n label (get_or c.loop-at.lists.items label [])) at (c.loop-at.invariant.each label l))
