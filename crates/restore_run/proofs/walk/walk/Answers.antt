use Rattle.std.proofs.Common.{ℕ, ◌+◌, ◌∙◌, List, ap, sym, subst, arith}
use Rattle.std.specs.Prelude.{slice_get}
use Rattle.std.proofs.lemmas.Result.{err_from_is_err_and}
use Rattle.py_heap.specs.declared.state.State.{State}
use Rattle.graph_model.specs.declared.graph.Graph.{Graph}
use Rattle.part_bytes.specs.declared.part.PartValue.{PartValue}
use Rattle.reader_laws.specs.Valid.{IsValidState}
use Rattle.every_history.specs.Reading.{read}
use Rattle.every_history.proofs.Valid.{empty_valid}
use Rattle.replay_laws.specs.Walks.{begins, Passes}
use Rattle.restore_run.specs.Restoring.{IsWalked}
use Rattle.restore_run.proofs.Walking.{first_between, between_at, cell_at, walked_on}
use Rattle.restore_run.proofs.Passing.{stopped}
use Rattle.restore_run.proofs.walk.walk.Goals as goal

pub loop-index-init : goal.loop-index-init
loop-index-init g c = record {
  walked = subst (λ (s : State). IsWalked g.k 0 s) (sym c.new-state.ensures) begins;
  between = first_between g.k c.requires.0;
  valid = subst IsValidState (sym c.new-state.ensures) empty_valid;
  left = λ i l. ap (λ (ps : List PartValue). slice_get ps i) c.requires.1.1.1;
}

pub pass-requires : goal.pass-requires
pass-requires g c = (
  c.requires.0,
  (
    c.requires.1.1.0,
    (
      cell_at g.k.graph c.as_slice-cells.result.now c.loop-index.index c.index-cells-index.result (c.as_slice-cells.ensures ∙ ap (λ (q : Graph). q.cells) c.requires.1.0) c.loop-index-test.true
          c.index-cells-index.is,
      subst IsValidState (sym c.of-kernel.ensures.state) c.loop-index.invariant.valid,
    ),
  ),
)

pub give_back-requires : goal.give_back-requires
give_back-requires g c = (
  c.requires.0,
  (
    c.requires.1.0,
    (
      c.requires.1.1.0,
      (
        c.loop-index.invariant.left,
        (
          between_at g.k c.loop-index.index c.loop-index.next c.loop-index.invariant.between,
          (omega arith, subst IsValidState (sym c.into_state-state.ensures) c.in_ok-pass.ensures.valid),
        ),
      ),
    ),
  ),
)

pub returns-in_err-pass-clause-fault : goal.returns-in_err-pass-clause-fault
returns-in_err-pass-clause-fault g c =
    let p = err_from_is_err_and c.from_residual.result c.from_residual.ensures.1 in
    let at = cell_at g.k.graph c.as_slice-cells.result.now c.loop-index.index c.index-cells-index.result (c.as_slice-cells.ensures ∙ ap (λ (q : Graph). q.cells) c.requires.1.0) c.loop-index-test.true c.index-cells-index.is in
    let walked : IsWalked g.k c.loop-index.index c.of-kernel.result.state = subst (λ (s : State). IsWalked g.k c.loop-index.index s) (sym c.of-kernel.ensures.state) c.loop-index.invariant.walked in
    rw (p.1, p.2) (stopped g.k c.loop-index.index c.of-kernel.result.state c.index-cells-index.result c.in_err-pass.field-0.0 walked at c.in_err-pass.ensures.fault)

pub loop-index-preserved : goal.loop-index-preserved
loop-index-preserved g c =
    let walked : IsWalked g.k c.loop-index.index c.of-kernel.result.state = subst (λ (s : State). IsWalked g.k c.loop-index.index s) (sym c.of-kernel.ensures.state) c.loop-index.invariant.walked in
    let mid : State = c.into_state-state.result in
    record {
      walked = walked_on g.k c.loop-index.index c.of-kernel.result.state mid c.give_back.new.state walked
          (subst (λ (s : State). Passes read g.k.graph g.k.plan (c.loop-index.index + 1) c.of-kernel.result.state s) (sym c.into_state-state.ensures) c.in_ok-pass.ensures.passes) c.in_ok-next.ensures.gives;
      between = c.in_ok-next.ensures.between;
      valid = c.in_ok-next.ensures.valid;
      left = c.in_ok-next.ensures.left;
    }
