use Rattle.std.proofs.Common.{ap, ◌∙◌, subst}
use Rattle.session_core.specs.Legal.{progress_of}
use Rattle.session_core.specs.Stepping.{IsVerdict}
use Rattle.session_gate.specs.Facts.{Holds}
use Rattle.session_gate.proofs.resident.Resident.judge.Goals as goal

pub judge-requires-clause-settled : goal.judge-requires-clause-settled
judge-requires-clause-settled g c = ap (λ (h : Holds g.row.E.Denot g.row.F.Denot). (progress_of h.entries).phase) c.self.view_is ∙ c.requires.settled

pub judge-requires-clause-dead : goal.judge-requires-clause-dead
judge-requires-clause-dead g c = c.self.invariant.kept.dead

pub judge-requires-clause-stands : goal.judge-requires-clause-stands
judge-requires-clause-stands g c = λ alive. (c.self.invariant.kept.alive alive).0

pub returns : goal.returns
returns g c = subst (λ (h : Holds g.row.E.Denot g.row.F.Denot). IsVerdict g.E.Engine.meaning h.hosts (progress_of h.entries) c.args.request.now c.judge.result) c.self.view_is c.judge.ensures
