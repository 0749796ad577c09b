use Rattle.std.proofs.Common.{refl}
use Rattle.history_graph.proofs.record.record_of.Goals as goal

pub returns : goal.returns
returns c = record {
  code = c.in_ok-new.ensures;
  meter = refl;
  steps = refl;
  drew = refl;
  reads_ascend = c.in_ok-reads.ensures.ascends;
  reads = c.in_ok-reads.ensures.reads;
  missing_ascends = c.in_ok-missing.ensures.ascends;
  missing = c.in_ok-missing.ensures.missing;
}
