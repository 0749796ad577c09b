-- A journal that says what a session says that never moves.
use Rattle.std.specs.Prelude.{◌≡◌, ℕ, true, false, ◌⊎◌, List, [], ◌∷◌}
use Rattle.nb_outside.specs.declared.feed.Drawn.{Drawn}
use Rattle.run_graph.specs.RunLists as runs
use Rattle.session_core.specs.declared.request.Ask.TheVariants.{Execute}
use Rattle.session_core.specs.declared.request.Request.{Request}
use Rattle.session_core.specs.declared.entry.Entry.{Entry}
use Rattle.session_core.specs.declared.entry.Entry.TheVariants.{Ran}
use Rattle.notebook_meaning.specs.Cells.{with_ask, unmoved}
use Rattle.notebook_meaning.specs.Lists.{MayServe}
use Rattle.notebook_meaning.specs.Answers.{answer_after}
use Rattle.unmoved_sessions.specs.Cells.{DiesAt, StaysDead}

-- After these cells the entry answers the request on this host as a session that never moves does, under just the draws that the
-- cell takes; and these are the cells then.
pub record IsAnswered (host : ℕ) (cells : List runs.ListedCell) (r : Request) (e : Entry) (next : List runs.ListedCell) : Type 0 where
  pub code : List ℕ
  pub draws : List Drawn
  pub asks : r.ask ≡ Execute code false true
  pub takes : MayServe cells r.ask draws
  pub says : e ≡ Ran host r draws (answer_after cells r.ask draws)
  pub leaves : next ≡ with_ask cells r.ask draws

-- one entry answers each request, in order, each after the cells before it
abbrev pub AreAnswered : ℕ → List runs.ListedCell → List Request → List Entry → Type 0
AreAnswered host cells [] [] = Unit {0}
AreAnswered host cells [] (e ∷ es) = ⊥
AreAnswered host cells (r ∷ rs) [] = ⊥
AreAnswered host cells (r ∷ rs) (e ∷ es) = (next : List runs.ListedCell) × IsAnswered host cells r e next × AreAnswered host next rs es

-- the same, until it dies at one of the requests and is dead at the later ones, with the count that it had
abbrev pub AreAnsweredUntilDeath : ℕ → List runs.ListedCell → List Request → List Entry → Type 0
AreAnsweredUntilDeath host cells [] [] = Unit {0}
AreAnsweredUntilDeath host cells [] (e ∷ es) = ⊥
AreAnsweredUntilDeath host cells (r ∷ rs) [] = ⊥
AreAnsweredUntilDeath host cells (r ∷ rs) (e ∷ es) = ((next : List runs.ListedCell) × IsAnswered host cells r e next × AreAnsweredUntilDeath host next rs es)
    ⊎ (DiesAt host (unmoved cells).count r e × StaysDead host (unmoved cells).count rs es)
