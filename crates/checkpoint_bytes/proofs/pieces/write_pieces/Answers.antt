use Rattle.std.proofs.Common.{◌≡◌, ◌+◌, ◌<◌, ◌^◌, ◌++◌, ℕ, List, length, get_or, sym, ap, ◌∙◌, subst}
use Rattle.std.specs.Prelude.{All}
use Rattle.graph_model.specs.declared.graph.CellRecord.{CellRecord}
use Rattle.graph_model.specs.declared.graph.Version.{Version}
use Rattle.checkpoint_bytes.specs.Plain.{IsPlainCell, IsPlainVersion, IsPlainIfCopied}
use Rattle.checkpoint_bytes.specs.Sessions.{IsMovableIfCopied}
use Rattle.checkpoint_bytes.specs.Texts as spec
use Rattle.checkpoint_bytes.proofs.Copied.{copied_moves}
use Rattle.checkpoint_bytes.proofs.Whole.{front_of_table, front_of_cells, front_of_versions, all_is_written, front_of_all}
use Rattle.checkpoint_bytes.proofs.Written.{map_ok, map_err, on_ok, on_err}
use Rattle.checkpoint_bytes.proofs.pieces.write_pieces.Goals as goal

pub put_versions-requires-clause-movable : goal.put_versions-requires-clause-movable
put_versions-requires-clause-movable g c =
    subst (λ (xs : List Version). (k : ℕ) (d : Version) → k < length xs → IsMovableIfCopied c.args.state.now c.args.plan.now (k + 1) (get_or xs k d)) (sym c.as_slice-versions.ensures)
    (copied_moves c.args.state.now c.args.graph.now c.args.plan.now c.requires.session.versions c.requires.names c.requires.feasible)

pub returns-in_err-put_table-clause-err : goal.returns-in_err-put_table-clause-err
returns-in_err-put_table-clause-err g c =
    let begun = c.in_ok-write_head.ensures.bytes ∙ ap (λ (zs : List ℕ). zs ++ spec.head_bytes 2 c.args.state.now.count c.args.state.now.meter) c.new-held.ensures in
    on_err c.from_residual-in_err-put_table.result (front_of_table c.args.state.now c.args.graph.now c.args.plan.now c.write_head.new.out c.in_ok-texts.texts c.as_slice-cells.result.now c.as_slice-versions.result.now begun c.in_ok-texts.ensures c.as_slice-cells.ensures c.as_slice-versions.ensures (g.K.Sink.written c.args.sink.now) (g.K.Sink.written c.put_table.new.sink) c.in_err-put_table.ensures.err)

pub returns-in_err-put_cells-clause-err : goal.returns-in_err-put_cells-clause-err
returns-in_err-put_cells-clause-err g c =
    let begun = c.in_ok-write_head.ensures.bytes ∙ ap (λ (zs : List ℕ). zs ++ spec.head_bytes 2 c.args.state.now.count c.args.state.now.meter) c.new-held.ensures in
    on_err c.from_residual-in_err-put_cells.result (front_of_cells c.args.state.now c.args.graph.now c.args.plan.now c.write_head.new.out c.in_ok-texts.texts c.as_slice-cells.result.now c.as_slice-versions.result.now begun c.in_ok-texts.ensures c.as_slice-cells.ensures c.as_slice-versions.ensures
    (g.K.Sink.written c.args.sink.now) (g.K.Sink.written c.put_table.new.sink) c.put_table.new.held c.in_ok-put_table.ensures.ok (g.K.Sink.written c.put_cells.new.sink) c.in_err-put_cells.ensures.err)

pub returns-in_err-put_versions-clause-err : goal.returns-in_err-put_versions-clause-err
returns-in_err-put_versions-clause-err g c =
    let begun = c.in_ok-write_head.ensures.bytes ∙ ap (λ (zs : List ℕ). zs ++ spec.head_bytes 2 c.args.state.now.count c.args.state.now.meter) c.new-held.ensures in
    on_err c.from_residual-in_err-put_versions.result (front_of_versions c.args.state.now c.args.graph.now c.args.plan.now c.write_head.new.out c.in_ok-texts.texts c.as_slice-cells.result.now c.as_slice-versions.result.now begun c.in_ok-texts.ensures c.as_slice-cells.ensures c.as_slice-versions.ensures
    (g.K.Sink.written c.args.sink.now) (g.K.Sink.written c.put_table.new.sink) c.put_table.new.held c.in_ok-put_table.ensures.ok (g.K.Sink.written c.put_cells.new.sink) c.put_cells.new.held c.in_ok-put_cells.ensures.ok (g.K.Sink.written c.put_versions.new.sink) c.in_err-put_versions.ensures.err)

pub returns-clause-ok : goal.returns-clause-ok
returns-clause-ok g c =
    let begun = c.in_ok-write_head.ensures.bytes ∙ ap (λ (zs : List ℕ). zs ++ spec.head_bytes 2 c.args.state.now.count c.args.state.now.meter) c.new-held.ensures in
    map_ok c.flush.result c.flush.ensures.ok (all_is_written c.args.state.now c.args.graph.now c.args.plan.now c.write_head.new.out c.in_ok-texts.texts c.as_slice-cells.result.now c.as_slice-versions.result.now begun c.in_ok-texts.ensures c.as_slice-cells.ensures c.as_slice-versions.ensures
    (g.K.Sink.written c.args.sink.now) (g.K.Sink.written c.put_table.new.sink) c.put_table.new.held c.in_ok-put_table.ensures.ok (g.K.Sink.written c.put_cells.new.sink) c.put_cells.new.held c.in_ok-put_cells.ensures.ok (g.K.Sink.written c.put_versions.new.sink) c.put_versions.new.held c.in_ok-put_versions.ensures.ok (g.K.Sink.written c.flush.new.sink))

pub returns-clause-err : goal.returns-clause-err
returns-clause-err g c =
    let begun = c.in_ok-write_head.ensures.bytes ∙ ap (λ (zs : List ℕ). zs ++ spec.head_bytes 2 c.args.state.now.count c.args.state.now.meter) c.new-held.ensures in
    map_err c.flush.result c.flush.ensures.err (front_of_all c.args.state.now c.args.graph.now c.args.plan.now c.write_head.new.out c.in_ok-texts.texts c.as_slice-cells.result.now c.as_slice-versions.result.now begun c.in_ok-texts.ensures c.as_slice-cells.ensures c.as_slice-versions.ensures
    (g.K.Sink.written c.args.sink.now) (g.K.Sink.written c.put_table.new.sink) c.put_table.new.held c.in_ok-put_table.ensures.ok (g.K.Sink.written c.put_cells.new.sink) c.put_cells.new.held c.in_ok-put_cells.ensures.ok (g.K.Sink.written c.put_versions.new.sink) c.put_versions.new.held c.in_ok-put_versions.ensures.ok (g.K.Sink.written c.flush.new.sink))

pub returns-clause-plain : goal.returns-clause-plain
returns-clause-plain g c = on_ok c.flush.result record {
  count = c.in_ok-write_head.ensures.few;
  texts = subst (λ (ts : List (List ℕ)). length ts < 2 ^ 32) c.in_ok-texts.ensures c.in_ok-put_table.ensures.few;
  cells = subst (All IsPlainCell) c.as_slice-cells.ensures c.in_ok-put_cells.ensures.plain;
  versions = subst (All IsPlainVersion) c.as_slice-versions.ensures c.in_ok-put_versions.ensures.plain;
  parts = subst (λ (xs : List Version). (k : ℕ) (d : Version) → k < length xs → IsPlainIfCopied c.args.state.now c.args.plan.now (k + 1) (get_or xs k d)) c.as_slice-versions.ensures c.in_ok-put_versions.ensures.parts;
}
