use Rattle.std.proofs.Common.{ℕ, sym, subst}
use Rattle.py_heap.specs.declared.state.State.{State}
use Rattle.history_graph.specs.Histories.{HistoryView}
use Rattle.state_judge.specs.Agreeing.{IsStateJudged}
use Rattle.state_judge.specs.declared.judging.Disagreement.{Disagreement}
use Rattle.state_judge.specs.declared.judging.Disagreement.TheVariants as judge
use Rattle.restore_run.specs.Usable.{IsUsableSession}
use Rattle.restore_run.proofs.Lasting.{agreed_lasts}
use Rattle.restore_run.proofs.run.restored.Goals as goal

pub returns-in-Err-Unlike-clause-fault : goal.returns-in-Err-Unlike-clause-fault
returns-in-Err-Unlike-clause-fault c = subst (λ (v : ℕ). IsStateJudged c.args.graph c.args.state (judge.Unlike v)) (sym c.in-Err-Unlike.v-is)
    (subst (λ (f : Disagreement). IsStateJudged c.args.graph c.args.state f) c.in-Err-Unlike.field-0-is c.in-Err-Unlike.ensures.fault)

pub returns-clause-usable : goal.returns-clause-usable
returns-clause-usable c =
    let lasts = agreed_lasts c.args.state c.args.graph c.in_ok-parts.parts c.requires.valid c.requires.graph c.requires.cells c.requires.absent c.in_ok-parts.ensures c.in-Ok.ensures.agrees c.in-Ok.ensures.none_loose in
    subst (λ (s : State). IsUsableSession s c.of-2.result) (sym c.of.ensures.state)
    (subst (λ (h : HistoryView). IsUsableSession c.args.state h) (sym c.of-2.ensures) lasts)
