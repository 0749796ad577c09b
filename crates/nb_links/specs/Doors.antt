-- What comes at a door, and what is taken back.
use Rattle.std.specs.Prelude.{◌≡◌, ℕ, suc, ◌<◌, List, ◌∷◌, [], ◌++◌, length, Option, Some, None}
use Rattle.nb_links.specs.Lines.{Line, IsFresh}

-- how many links came, and those that were taken back, in order
pub record Passed (L : Type 0) : Type 0 where
  pub came : ℕ
  pub back : List L

module _ {L : Type 0} where
  -- one link more came
  abbrev pub Comes : Option (Passed L) → Option (Passed L) → Type 0
  Comes None new = new ≡ None
  Comes (Some passed) new = new ≡ Some (record passed { came = suc passed.came })

  -- fewer links were taken back than came, if that is told
  abbrev pub IsOut : Option (Passed L) → Type 0
  IsOut None = Unit {0}
  IsOut (Some passed) = length passed.back < passed.came

  -- this link was taken back after the others
  abbrev pub TakesBack : Option (Passed L) → Option (Passed L) → L → Type 0
  TakesBack None new link = new ≡ None
  TakesBack (Some passed) new link = new ≡ Some (record passed { back = passed.back ++ link ∷ [] })

  -- over a door that tells, a link that tells comes fresh, and has met no fault
  abbrev pub ComesFresh : Option (Passed L) → Option Line → ℕ → Type 0
  ComesFresh None line faults = Unit {0}
  ComesFresh (Some passed) None faults = Unit {0}
  ComesFresh (Some passed) (Some line) faults = IsFresh line × (faults ≡ 0)
