use Rattle.std.proofs.Common.{ℕ, ◌<◌, ◌≤◌, ◌-◌, length, take}
use Rattle.graph_model.specs.declared.graph.Version.{Version}
use Rattle.reader_laws.specs.Valid.{IsValidState}
use Rattle.replay_laws.specs.Walks.{GivesAllBack}
use Rattle.restore_run.specs.Restoring.{copies}
use Rattle.restore_run.specs.Walking.{CopiedAt, AreLeft}
use Rattle.restore_run.proofs.walk.give_back.Given as goal

abbrev pub invariant-loop-next : goal.invariant-loop-next
invariant-loop-next g l = record {
  gave : GivesAllBack (copies g.k) g.k.graph l.number (take l.next g.k.plan.copied) l.initial.state l.state;
  before : (i v : ℕ) (x : Version) → i < l.next → CopiedAt g.k i v x → x.writer ≤ l.number;
  on : l.from ≤ l.next;
  within : l.next ≤ length g.k.plan.copied;
  valid : IsValidState l.state;
  left : AreLeft g.k l.next l.parts;
}

abbrev pub decreases-loop-next : goal.decreases-loop-next
decreases-loop-next g l = length g.k.plan.copied - l.next

abbrev pub ghost-give_next : goal.ghost-give_next
ghost-give_next g a = g.k
