-- What is seen of a feed, and what draws make of it.
use Rattle.std.specs.Prelude.{◌≡◌, ℕ, ◌<◌, ◌≤◌, List, [], ◌∷◌, ◌++◌, replicate, Contains, Option, Some, None}
use Rattle.nb_outside.specs.declared.feed.Drawn.{Drawn}
use Rattle.nb_outside.specs.declared.feed.Drawn.TheVariants.{Failed}
use Rattle.nb_outside.specs.Counts.{HasRisen}

-- the answers that a feed was made with and those left, if it tells them, and its count of faults
pub record Seen : Type 0 where
  pub made : Option (List Drawn)
  pub left : Option (List Drawn)
  pub faults : ℕ

-- a draw gives the first of the answers left, and Failed if none is left; a feed that doesn't tell goes on not telling
abbrev pub IsNext : Option (List Drawn) → Drawn → Option (List Drawn) → Type 0
IsNext None drawn left = left ≡ None
IsNext (Some []) drawn left = (drawn ≡ Failed) × (left ≡ Some [])
IsNext (Some (next ∷ more)) drawn left = (drawn ≡ next) × (left ≡ Some more)

-- what one draw does to a feed
pub record Gives (old : Seen) (drawn : Drawn) (new : Seen) : Type 0 where
  pub made : new.made ≡ old.made
  pub left : IsNext old.left drawn new.left
  pub faults : old.faults ≤ new.faults
  pub failed : drawn ≡ Failed → HasRisen old.faults new.faults

-- all the answers that it was made with are left, if it tells
abbrev pub HasAll : Seen → Type 0
HasAll seen = seen.left ≡ seen.made

-- these draws are the first of the answers, and after them Failed alone, which comes only if no answer is left
pub record AreFirst (answers drawn left : List Drawn) : Type 0 where
  pub given : List Drawn
  pub failures : ℕ
  pub answers_are : answers ≡ given ++ left
  pub drawn_are : drawn ≡ given ++ replicate failures Failed
  pub none_left : 0 < failures → left ≡ []

-- of a feed with these answers left these draws were taken; a feed that doesn't tell goes on not telling
abbrev pub AreTaken : Option (List Drawn) → List Drawn → Option (List Drawn) → Type 0
AreTaken None drawn left = left ≡ None
AreTaken (Some answers) drawn left = (more : List Drawn) × (left ≡ Some more) × AreFirst answers drawn more

-- since a feed was seen as at the start, just these draws were taken from it
pub record Fed (start : Seen) (drawn : List Drawn) (now : Seen) : Type 0 where
  pub made : now.made ≡ start.made
  pub left : AreTaken start.left drawn now.left
  pub faults : start.faults ≤ now.faults
  pub failed : Contains drawn Failed → HasRisen start.faults now.faults
