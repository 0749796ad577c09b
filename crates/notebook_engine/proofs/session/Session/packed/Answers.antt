use Rattle.std.proofs.Common.{ap, ◌∙◌, Err, All, sym, subst}
use Rattle.py_heap.specs.declared.state.State.{State}
use Rattle.graph_model.specs.declared.graph.Graph.{Graph}
use Rattle.graph_model.specs.Faults.{IsGraph}
use Rattle.every_history.specs.Reading.{read}
use Rattle.checkpoint_bytes.specs.Plain.{IsPlainCheckpoint}
use Rattle.checkpoint_bytes.specs.Sessions.{IsWithinBounds, TellsOf}
use Rattle.checkpoint_bytes.specs.Texts.{checkpoint_text}
use Rattle.part_bytes.specs.Sizing.{size_of}
use Rattle.replay_laws.specs.Sessions.{StandsFor}
use Rattle.notebook_meaning.specs.Cells.{cells_of}
use Rattle.notebook_meaning.specs.Notebooks.{IsGraphOf}
use Rattle.notebook_meaning.proofs.Written.{text_alike, has_text}
use Rattle.notebook_engine.proofs.Packed.{graph_of, stuck_packs}
use Rattle.notebook_engine.proofs.session.Session.packed.Goals as goal

pub plan-requires-clause-graph : goal.plan-requires-clause-graph
plan-requires-clause-graph c = subst IsGraph (sym c.graph-graph.ensures) c.requires.history.tells.graph

pub stuck-requires : goal.stuck-requires
stuck-requires c = (c.in-Err-Stuck.cell, c.plan.ensures.stuck c.in-Err-Stuck.version c.in-Err-Stuck.cell (c.in-Err-Stuck.is ∙ ap (λ f. Err f) c.in-Err-Stuck.field-0-is))

pub returns-in-Err-Stuck : goal.returns-in-Err-Stuck
returns-in-Err-Stuck c = λ served h.
    let of = subst (λ (g : Graph). IsGraphOf (cells_of served) g) (sym c.graph-graph.ensures) (graph_of c.args.self.now (cells_of served) h.1) in
    stuck_packs served c.args.weights.now c.graph-graph.result.now c.in-Err-Stuck.version c.in-Err-Stuck.cell c.stuck.result of c.in_default.ensures
    (c.plan.ensures.stuck c.in-Err-Stuck.version c.in-Err-Stuck.cell (c.in-Err-Stuck.is ∙ ap (λ f. Err f) c.in-Err-Stuck.field-0-is)) c.stuck.ensures

pub returns-in-Ok-write_checkpoint : goal.returns-in-Ok-write_checkpoint
returns-in-Ok-write_checkpoint c = λ served h.
    let n = c.args.self.now in
    let cells = cells_of served in
    let g = c.graph-graph.result.now in
    let of = subst (λ (k : Graph). IsGraphOf cells k) (sym c.graph-graph.ensures) (graph_of n cells h.1) in
    let session = subst (λ (k : Graph). StandsFor read size_of cells k n.kernel.state) (sym c.graph-graph.ensures) h.1.session in
    let made = c.in-Ok.ensures.certified in
    let p = c.in-Ok.certified.plan in
    let plain : IsPlainCheckpoint n.kernel.state g p = subst (λ (s : State). IsPlainCheckpoint s g p) c.state.ensures c.in-Ok-write_checkpoint.ensures.plain in (
      g,
      of,
      c.in_default.ensures,
      c.in-Ok.ensures.never_stuck,
      made,
      record {
        graph = g;
        is_graph = of;
        has_text = has_text cells h.1.codes g of n.kernel.state session p made.names made.feasible plain;
        text = c.in-Ok-write_checkpoint.ensures.bytes ∙ (ap (λ (s : State). checkpoint_text s g p) c.state.ensures ∙ text_alike cells g n.kernel.state session p);
      },
    )

pub write_checkpoint-requires-clause-session : goal.write_checkpoint-requires-clause-session
write_checkpoint-requires-clause-session c =
    subst (λ (s : State). TellsOf c.graph-graph.result.now s) (sym c.state.ensures) (subst (λ (g : Graph). TellsOf g c.args.self.now.kernel.state) (sym c.graph-graph.ensures) c.requires.history.tells)

pub write_checkpoint-requires-clause-cells : goal.write_checkpoint-requires-clause-cells
write_checkpoint-requires-clause-cells c = subst (λ (g : Graph). All IsWithinBounds g.cells) (sym c.graph-graph.ensures) c.requires.cells
