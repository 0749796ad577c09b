use Rattle.std.proofs.Common.{sym, subst}
use Rattle.std.proofs.lemmas.List.Elements.{All-nil}
use Rattle.py_heap.specs.declared.state.State.{State}
use Rattle.py_heap.specs.States.{empty}
use Rattle.every_history.proofs.Valid.{empty_valid}
use Rattle.checkpoint_bytes.specs.Sessions.{IsWithinBounds}
use Rattle.history_graph.specs.declared.history.History.{History}
use Rattle.history_graph.proofs.Beginning.{no_graph, no_parts, begun}
use Rattle.restore_run.specs.Usable.{IsUsableSession}
use Rattle.notebook_engine.proofs.Served.{opened_holds}
use Rattle.notebook_engine.proofs.session.Session.new.Goals as goal

pub returns-clause-holds : goal.returns-clause-holds
returns-clause-holds c = opened_holds (record { kernel = c.new.result; history = c.new-2.result }) c.new.ensures.state c.new-2.ensures.nothing

pub returns-clause-usable : goal.returns-clause-usable
returns-clause-usable c =
    let base : IsUsableSession empty (record { graph = no_graph; parts = no_parts }) = record { valid = empty_valid; history = begun; cells = All-nil IsWithinBounds } in
    subst (λ (s : State). IsUsableSession s c.new-2.result) (sym c.new.ensures.state) (subst (λ (h : History). IsUsableSession empty h) (sym c.new-2.ensures.nothing) base)
