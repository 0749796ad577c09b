use Rattle.std.proofs.Common.{◌≡◌, ◌≤◌, ℕ, List, set, slice_index, refl, sym, ◌⊎◌, inl, inr, subst, arith}
use Rattle.linked_parts.specs.Labels.{IsForest, Joined, Joins, IsShortened}
use Rattle.linked_parts.proofs.Joining.{joined_within, shortened_on, joins_under}
use Rattle.linked_parts.proofs.classes.Classes.join.Goals as goal

pub root-second-requires-clause-within : goal.root-second-requires-clause-within
root-second-requires-clause-within c = omega (arith, c.root-first.ensures.classes.size, c.requires.b)

pub set-requires : goal.set-requires
set-requires c =
    let mid = c.root-first.ensures.classes in
    let two = c.root-second.ensures.classes in
    let l = (joined_within c.root-first.new.self.parents mid.forest _ _ c.root-second.ensures.joined).1 in
    omega (arith, two.size, l)

pub set-requires-2 : goal.set-requires-2
set-requires-2 c =
    let mid = c.root-first.ensures.classes in
    let two = c.root-second.ensures.classes in
    let l = (joined_within c.args.self.now.parents c.requires.forest _ _ c.root-first.ensures.joined).1 in
    omega (arith, mid.size, two.size, l)

-- one of the two roots is put under the other
under : (old one two now : List ℕ) (a b first second high low : ℕ) → IsForest old → IsShortened old one → IsShortened one two → Joined old a first → Joined one b second
    → slice_index one first ≡ first → slice_index two second ≡ second → now ≡ set two high low → low ≤ high
    → ((high ≡ second) × (low ≡ first)) ⊎ ((high ≡ first) × (low ≡ second)) → Joins old a b now
under old one two now a b first second high low f mid last ja jb rf rs made le w =
    let first_in = (joined_within old f a first ja).1 in
    subst (Joins old a b) (sym made)
    (joins_under old two a b first second f (shortened_on old one two mid last) ja (mid.only b second jb)
    (last.roots first (let size = mid.size in omega (arith, size, first_in)) rf) rs high low le w)

pub returns-then-first-second : goal.returns-then-first-second
returns-then-first-second c = under _ _ _ _ _ _ c.root-first.result c.root-second.result _ _ c.requires.forest c.root-first.ensures.classes c.root-second.ensures.classes
    c.root-first.ensures.joined c.root-second.ensures.joined c.root-first.ensures.root c.root-second.ensures.root c.set.ensures (omega arith) (inl (refl, refl))

pub returns : goal.returns
returns c = under _ _ _ _ _ _ c.root-first.result c.root-second.result _ _ c.requires.forest c.root-first.ensures.classes c.root-second.ensures.classes
    c.root-first.ensures.joined c.root-second.ensures.joined c.root-first.ensures.root c.root-second.ensures.root c.set-2.ensures (omega arith) (inr (refl, refl))
