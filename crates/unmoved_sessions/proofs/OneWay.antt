-- What a session serves is determined by what was served before, and by what its feed gives.
use Rattle.std.proofs.Common.{◌≡◌, ℕ, List, ◌++◌}
use Rattle.nb_outside.specs.declared.feed.Drawn.{Drawn}
use Rattle.graph_model.specs.declared.graph.Graph.{Graph}
use Rattle.graph_model.specs.declared.plan.Tally.{Tally}
use Rattle.session_core.specs.declared.request.Ask.{Ask}
use Rattle.session_core.specs.Meanings.{Served, Meaning, more}

pub record IsOneWay (meaning : Meaning) : Type 0 where
  -- an ask takes the same draws, if they begin one list
  pub served : (run : List Served) (ask : Ask) (d e x y : List Drawn) → meaning.IsRun (more run ask d) → meaning.IsRun (more run ask e) → d ++ x ≡ e ++ y → d ≡ e
  -- it may be served, or it passes a number; and that is one number
  pub fits : (run : List Served) (ask : Ask) (d e x y : List Drawn) (which : Tally) → meaning.IsRun (more run ask d) → meaning.Passes run ask e which → d ++ x ≡ e ++ y → ⊥
  pub full : (run : List Served) (ask : Ask) (d e x y : List Drawn) (w v : Tally) → meaning.Passes run ask d w → meaning.Passes run ask e v → d ++ x ≡ e ++ y → (d ≡ e) × (w ≡ v)
  pub graph : (run : List Served) (g h : Graph) → meaning.IsGraph run g → meaning.IsGraph run h → g ≡ h
  pub objects : (run : List Served) (n m : ℕ) → meaning.HasObjects run n → meaning.HasObjects run m → n ≡ m
