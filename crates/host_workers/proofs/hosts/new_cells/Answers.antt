use Rattle.std.proofs.Common.{slice_get, sym, ap, ◌∙◌}
use Rattle.std.proofs.lemmas.Option.{slice_get_read}
use Rattle.host_workers.proofs.hosts.new_cells.Goals as goal

pub with_cell-requires-clause-listed : goal.with_cell-requires-clause-listed
with_cell-requires-clause-listed g c =
    ap (λ l. slice_get l c.loop-number.number) c.requires.0
    ∙ slice_get_read c.args.queues.now 256 c.loop-number.number c.index-queues-number.result (sym c.requires.1) c.loop-number-test.true c.index-queues-number.is
