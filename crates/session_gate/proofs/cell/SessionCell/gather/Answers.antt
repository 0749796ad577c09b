use Rattle.std.proofs.Common.{sym, ap, ◌∙◌, subst}
use Rattle.session_queues.specs.Ends.{gathered}
use Rattle.session_gate.specs.Facts.{Holds, IsWhole}
use Rattle.session_gate.proofs.Keeping.{whole}
use Rattle.session_gate.proofs.cell.SessionCell.gather.Goals as goal

pub returns-clause-whole : goal.returns-clause-whole
returns-clause-whole g c = λ holds.
    subst (λ (h : Holds g.row.E.Denot g.row.F.Denot). IsWhole h)
    (sym (c.join.ensures ∙ ap (λ (h : Holds g.row.E.Denot g.row.F.Denot). record h { ends = gathered h.ends c.args.pass }) c.make_way.ensures.same))
    (whole c.args.lease c.args.pass c.requires.lease.4 holds)
