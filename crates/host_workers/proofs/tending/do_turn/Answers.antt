use Rattle.std.proofs.Common.{sym, ap, ◌∙◌, subst}
use Rattle.session_gate.specs.Facts.{Holds}
use Rattle.host_workers.specs.Turns.{IsSameSession}
use Rattle.host_workers.proofs.Holding.{turned_tenure, tenure_from}
use Rattle.host_workers.proofs.tending.do_turn.Goals as goal

pub returns-in-Ran : goal.returns-in-Ran
returns-in-Ran g c = turned_tenure g.F.Feed.seen g.E.Engine.meaning c.args.lease c.turn.new.lease c.turn.result c.in-Ran.is c.turn.ensures.turned c.turn.ensures.same

pub returns-in-Move : goal.returns-in-Move
returns-in-Move g c = let seen = g.F.Feed.seen in let old = c.args.lease in let out = c.publish.ensures.same in
    tenure_from seen g.E.Engine.meaning old c.publish.new.self c.set_out.result
    (ap (λ (h : Holds g.row.E.Denot g.row.F.Denot). h.entries) out ∙ c.in-Move.ensures.turned.0.0)
    (subst (λ (h : Holds g.row.E.Denot g.row.F.Denot). IsSameSession seen old h) (sym out) c.turn.ensures.same)
    c.set_out.ensures
