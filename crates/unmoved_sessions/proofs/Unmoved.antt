-- The answers of a notebook to cells are those of a session that never moves.
use Rattle.std.proofs.Common.{◌≡◌, ℕ, List, [], ◌∷◌, Option, inl, inr, subst}
use Rattle.std.specs.List.{AllByRecursion}
use Rattle.nb_outside.specs.declared.feed.Drawn.{Drawn}
use Rattle.run_graph.specs.RunLists as runs
use Rattle.session_core.specs.declared.request.Channel.{Channel}
use Rattle.session_core.specs.declared.request.Header.{Header}
use Rattle.session_core.specs.declared.request.Request.{Request}
use Rattle.session_core.specs.declared.entry.Entry.{Entry}
use Rattle.session_core.specs.declared.entry.Entry.TheVariants.{Opened}
use Rattle.session_core.specs.Meanings.{Served, more}
use Rattle.node_intake.specs.Intake.{Taken}
use Rattle.node_run.specs.Journals.{IsJournalOf}
use Rattle.notebook_meaning.specs.Cells.{cells_of, unmoved}
use Rattle.notebook_meaning.specs.Notebooks.{notebooks}
use Rattle.notebook_meaning.proofs.Lists.{cells_of_more, last_may}
use Rattle.unmoved_sessions.specs.Cells.{AsksCell, IsNoDeath, DiesAt}
use Rattle.unmoved_sessions.specs.Answered.{AreAnswered, AreAnsweredUntilDeath}
use Rattle.unmoved_sessions.proofs.Ran.{AllRan, journal_ran}

pub until_death : (host : ℕ) (served : List Served) (rs : List Request) (es : List Entry) → AllByRecursion AsksCell rs → AllRan notebooks host served rs es
    → AreAnsweredUntilDeath host (cells_of served) rs es
until_death host served [] [] cells ran = tt
until_death host served [] (e ∷ es) cells ran = ran
until_death host served (r ∷ rs) [] cells ran = ran
until_death host served (r ∷ rs) (e ∷ es) ((code, is), cells) (inl (draws, says, run, ran)) =
    inl (
      cells_of (more served r.ask draws),
      record {
        code = code;
        draws = draws;
        asks = is;
        takes = last_may served r.ask draws run;
        says = says;
        leaves = cells_of_more served r.ask draws;
      },
      until_death host (more served r.ask draws) rs es cells ran,
    )
until_death host served (r ∷ rs) (e ∷ es) cells (inr dies) = inr dies

-- if nothing dies
no_death : (host count : ℕ) (r : Request) (e : Entry) → DiesAt host count r e → IsNoDeath e → ⊥
no_death host count r e (cause, is) none = subst IsNoDeath is none

pub without_death : (host : ℕ) (cells : List runs.ListedCell) (rs : List Request) (es : List Entry) → AreAnsweredUntilDeath host cells rs es → AllByRecursion IsNoDeath es
    → AreAnswered host cells rs es
without_death host cells [] [] answered none = tt
without_death host cells [] (e ∷ es) answered none = answered
without_death host cells (r ∷ rs) [] answered none = answered
without_death host cells (r ∷ rs) (e ∷ es) (inl (next, answered, later)) none = (next, answered, without_death host next rs es later none.1)
without_death host cells (r ∷ rs) (e ∷ es) (inr (dies, dead)) none = absurd (no_death host (unmoved cells).count r e dies none.0)

pub none_later : (host : ℕ) (header : Header) (channel : Channel) (es entries : List Entry) → es ≡ Opened host header channel ∷ entries → AllByRecursion IsNoDeath es → AllByRecursion IsNoDeath entries
none_later host header channel es entries is none = (subst (AllByRecursion IsNoDeath) is none).1

-- ---- a session

pub session_answered : (hosts : ℕ) (answers : Option (List Drawn)) (s : Taken) (es : List Entry) → IsJournalOf notebooks hosts answers s es → AllByRecursion AsksCell s.requests
    → (entries : List Entry) × (es ≡ Opened s.host s.request s.channel ∷ entries) × AreAnsweredUntilDeath s.host [] s.requests entries
session_answered hosts answers s es is cells =
    let begins = is.begins in (
      begins.0,
      begins.1,
      until_death s.host [] s.requests begins.0 cells
          (journal_ran notebooks hosts s.host s.request s.channel s.requests es begins.0 is.legal begins.1 is.main is.control cells),
    )
