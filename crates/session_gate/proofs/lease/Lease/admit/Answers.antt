use Rattle.std.proofs.Common.{sym, subst}
use Rattle.session_gate.specs.Facts.{Holds, IsWhole}
use Rattle.session_gate.proofs.lease.Lease.admit.Goals as goal

pub admit-requires-clause-whole : goal.admit-requires-clause-whole
admit-requires-clause-whole g c = subst (λ (h : Holds g.row.E.Denot g.row.F.Denot). IsWhole h) (sym c.self.view_is) c.requires.whole
