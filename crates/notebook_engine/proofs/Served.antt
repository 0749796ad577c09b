-- A list of asks that a notebook goes on with.
use Rattle.std.proofs.Common.{◌≡◌, ℕ, Bool, true, false, List, [], Err, not, ◌&&◌, refl, ap, sym, ◌∙◌, subst, arith}
use Rattle.std.specs.Str.{IsUtf8}
use Rattle.nb_outside.specs.declared.feed.Drawn.{Drawn}
use Rattle.py_heap.specs.States.{empty}
use Rattle.graph_model.specs.declared.plan.Tally.{Tally}
use Rattle.run_graph.specs.RunLists.{ListedCell}
use Rattle.every_history.specs.Reading.{read}
use Rattle.history_graph.proofs.Beginning.{begun_parts}
use Rattle.part_bytes.specs.Sizing.{size_of}
use Rattle.replay_laws.proofs.GoingOn.{begins_so}
use Rattle.session_core.specs.declared.request.Ask.{Ask}
use Rattle.session_core.specs.declared.request.Ask.TheVariants.{Execute, Shutdown}
use Rattle.session_core.specs.declared.engine.RunFault.{RunFault}
use Rattle.session_core.specs.declared.engine.RunFault.TheVariants as fault
use Rattle.session_core.specs.declared.reply.Reply.{Reply}
use Rattle.session_core.specs.declared.reply.Done.{Done}
use Rattle.session_core.specs.Engines.{RunsOn}
use Rattle.session_core.specs.Meanings.{Served, more, HasNoEnd}
use Rattle.notebook_meaning.specs.Cells.{recorded, cell_of, with_ask, cells_of}
use Rattle.notebook_meaning.specs.Lists.{MayServe, Fills, IsRunOfAsks}
use Rattle.notebook_meaning.specs.Answers.{answer_after}
use Rattle.notebook_meaning.specs.Notebooks.{notebooks}
use Rattle.notebook_meaning.proofs.Lists.{cells_of_more, goes_on}
use Rattle.notebook_engine.specs.declared.session.Session.{Session}
use Rattle.notebook_engine.specs.Holding.{HoldsCells, StandsForAsks, PassesWith, HasRun}

-- a session in the empty state, with no history
pub opened_holds : (n : Session) → n.kernel.state ≡ empty → n.history ≡ record { graph = record { cells = []; versions = [] }; parts = record { list = [] } } → HoldsCells n []
opened_holds n s h =
    let z : Session = record n { kernel = record n.kernel { state = empty }; history = record { graph = record { cells = []; versions = [] }; parts = record { list = [] } } } in
    let base : HoldsCells z [] = record {
      session = begins_so read size_of;
      parts = begun_parts;
      few_cells = omega arith;
      few_versions = omega arith;
      codes = tt;
    } in
    subst (λ history. HoldsCells (record n { history = history }) []) (sym h)
    (subst (λ state. HoldsCells (record n { kernel = record n.kernel { state = state }; history = record { graph = record { cells = []; versions = [] }; parts = record { list = [] } } }) []) (sym s) base)

-- a shutdown: a restart begins anew, and else all stays
pub shut_holds : (n now : Session) (cells : List ListedCell) (restart : Bool) → HoldsCells n cells → (restart ≡ true → HoldsCells now []) → (restart ≡ false → now ≡ n) → HoldsCells now (with_ask cells (Shutdown restart) [])
shut_holds n now cells true h anew stays = anew refl
shut_holds n now cells false h anew stays = subst (λ (m : Session). HoldsCells m cells) (sym (stays refl)) h

pub served_stands : (n now : Session) (served : List Served) (ask : Ask) (draws : List Drawn) → StandsForAsks n served → HasNoEnd served → MayServe (cells_of served) ask draws
    → HoldsCells now (with_ask (cells_of served) ask draws) → StandsForAsks now (more served ask draws)
served_stands n now served ask draws stands no_end may holds =
    (goes_on served ask draws stands.0 no_end may, subst (λ cells. HoldsCells now cells) (sym (cells_of_more served ask draws)) holds)

-- ---- what is answered

module _ (n : Session) (served : List Served) (stands : StandsForAsks n served) (no_end : HasNoEnd served) where
  abbrev Cells : List ListedCell
  Cells = cells_of served

  -- a cell
  module _ (now : Session) (silent store : Bool) (text : List ℕ) (utf8 : IsUtf8 text) (draws : List Drawn) (reply : Reply)
      (ran : HasRun now Cells silent text (cell_of text silent store draws) reply) where
    may_execute : MayServe Cells (Execute text silent store) draws
    may_execute = (utf8, ran.may)

    executed_reply : (reply ≡ answer_after Cells (Execute text silent store) draws) × IsRunOfAsks (more served (Execute text silent store) draws)
    executed_reply = (ran.reply_is, goes_on served (Execute text silent store) draws stands.0 no_end may_execute)

    executed_stands : StandsForAsks now (more served (Execute text silent store) draws)
    executed_stands = served_stands n now served (Execute text silent store) draws stands no_end may_execute ran.holds

  pub cell_reply : (now : Session) (ask : Ask) (silent store counted : Bool) (code text : List ℕ) (utf8 : IsUtf8 text) (draws : List Drawn) (reply : Reply)
      → ask ≡ Execute code silent store → text ≡ code → counted ≡ (not silent && store)
      → HasRun now Cells silent text (record { code = recorded text; draws = draws; counted = counted }) reply
      → (reply ≡ answer_after Cells ask draws) × IsRunOfAsks (more served ask draws)
  cell_reply now ask silent store counted code text utf8 draws reply is same raises ran =
      subst (λ (a : Ask). (reply ≡ answer_after Cells a draws) × IsRunOfAsks (more served a draws)) (sym (is ∙ ap (λ (z : List ℕ). Execute z silent store) (sym same)))
      (executed_reply now silent store text utf8 draws reply (subst (λ (b : Bool). HasRun now Cells silent text (record { code = recorded text; draws = draws; counted = b }) reply) raises ran))

  pub cell_stands : (now : Session) (ask : Ask) (silent store counted : Bool) (code text : List ℕ) (utf8 : IsUtf8 text) (draws : List Drawn) (reply : Reply)
      → ask ≡ Execute code silent store → text ≡ code → counted ≡ (not silent && store)
      → HasRun now Cells silent text (record { code = recorded text; draws = draws; counted = counted }) reply
      → StandsForAsks now (more served ask draws)
  cell_stands now ask silent store counted code text utf8 draws reply is same raises ran =
      subst (λ (a : Ask). StandsForAsks now (more served a draws)) (sym (is ∙ ap (λ (z : List ℕ). Execute z silent store) (sym same)))
      (executed_stands now silent store text utf8 draws reply (subst (λ (b : Bool). HasRun now Cells silent text (record { code = recorded text; draws = draws; counted = b }) reply) raises ran))

  fault_runs : (silent store counted : Bool) (code text : List ℕ) (utf8 : IsUtf8 text) (f : RunFault) → text ≡ code → counted ≡ (not silent && store)
      → ((which : Tally) (draws : List Drawn) → f ≡ fault.TooMany which draws → PassesWith n (record { code = recorded text; draws = draws; counted = counted }) which)
      → RunsOn notebooks served (Execute code silent store) (Err f)
  fault_runs silent store counted code text utf8 fault.OutOfMemory same raises passes = tt
  fault_runs silent store counted code text utf8 (fault.TooMany which draws) same raises passes =
      subst (λ (z : List ℕ). IsUtf8 z × Fills Cells (cell_of z silent store draws) which) same
      (utf8, subst (λ (b : Bool). Fills Cells (record { code = recorded text; draws = draws; counted = b }) which) raises (passes which draws refl Cells stands.1))

  pub cell_fails : (ask : Ask) (silent store counted : Bool) (code text : List ℕ) (utf8 : IsUtf8 text) (f : RunFault) → ask ≡ Execute code silent store → text ≡ code
      → counted ≡ (not silent && store)
      → ((which : Tally) (draws : List Drawn) → f ≡ fault.TooMany which draws → PassesWith n (record { code = recorded text; draws = draws; counted = counted }) which)
      → RunsOn notebooks served ask (Err f)
  cell_fails ask silent store counted code text utf8 f is same raises passes = subst (λ (a : Ask). RunsOn notebooks served a (Err f)) (sym is) (fault_runs silent store counted code text utf8 f same raises passes)

  -- an ask for which nothing is drawn
  pub told_reply : (ask : Ask) (reply : Reply) (done : Done) → done ≡ record { reply = reply; draws = [] } → MayServe Cells ask [] → reply ≡ answer_after Cells ask []
      → (done.reply ≡ answer_after Cells ask done.draws) × IsRunOfAsks (more served ask done.draws)
  told_reply ask reply done is may answer =
      subst (λ (d : Done). (d.reply ≡ answer_after Cells ask d.draws) × IsRunOfAsks (more served ask d.draws)) (sym is) (answer, goes_on served ask [] stands.0 no_end may)

  pub told_stands : (now : Session) (ask : Ask) (reply : Reply) (done : Done) → done ≡ record { reply = reply; draws = [] } → MayServe Cells ask []
      → HoldsCells now (with_ask Cells ask []) → StandsForAsks now (more served ask done.draws)
  told_stands now ask reply done is may holds = subst (λ (d : Done). StandsForAsks now (more served ask d.draws)) (sym is) (served_stands n now served ask [] stands no_end may holds)
