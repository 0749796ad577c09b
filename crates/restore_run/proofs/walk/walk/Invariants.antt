use Rattle.reader_laws.specs.Valid.{IsValidState}
use Rattle.restore_run.specs.Restoring.{IsWalked}
use Rattle.restore_run.specs.Walking.{IsBetween, AreLeft}
use Rattle.restore_run.proofs.walk.walk.Given as goal

abbrev pub invariant-loop-index : goal.invariant-loop-index
invariant-loop-index g l = record {
  walked : IsWalked g.k l.index l.state;
  between : IsBetween g.k l.index l.next;
  valid : IsValidState l.state;
  left : AreLeft g.k l.next l.left;
}

abbrev pub ghost-pass : goal.ghost-pass
ghost-pass g a = g.k

abbrev pub ghost-give_back : goal.ghost-give_back
ghost-give_back g a = g.k
