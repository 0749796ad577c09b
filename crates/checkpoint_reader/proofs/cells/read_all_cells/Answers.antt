use Rattle.std.proofs.Common.{refl}
use Rattle.checkpoint_reader.specs.Fields as spec
use Rattle.checkpoint_reader.proofs.Turns.{turn_goes}
use Rattle.checkpoint_reader.proofs.Growing.{cells_turn, all_cells}
use Rattle.checkpoint_reader.proofs.cells.read_all_cells.Goals as goal

pub loop-index-preserved : goal.loop-index-preserved
loop-index-preserved c =
    let e = c.in_ok-cells.ensures refl in (
      cells_turn c.args.texts.now c.args.bytes.now c.loop-index.index _ _ _ _ c.loop-index.invariant.0 e,
      turn_goes (spec.next_cell c.args.bytes.now c.args.texts.now) c.args.count c.loop-index.index _ _ _ _ _ c.loop-index-test.true c.loop-index.invariant.1 e,
    )

pub returns-clause-sound : goal.returns-clause-sound
returns-clause-sound c = all_cells c.args.count c.loop-index.index c.loop-index.cells c.loop-index-test.false c.loop-index.auto.index-end c.loop-index.invariant.0
