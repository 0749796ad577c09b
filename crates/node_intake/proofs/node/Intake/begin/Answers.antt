use Rattle.std.proofs.Common.{refl}
use Rattle.node_intake.specs.Sessions.{new_session}
use Rattle.node_intake.proofs.Standing.{map_ok, opened_more, kept_same}
use Rattle.node_intake.proofs.node.Intake.begin.Goals as goal

pub returns-clause-node : goal.returns-clause-node
returns-clause-node g c =
    map_ok c.open.result (λ opens node stands none. opened_more g.D.Desk.holds c.args.self.now _ (new_session c.args.kernel c.args.host c.args.header c.args.channel) node opens refl stands none) c.open.ensures.ok

pub returns-clause-kept : goal.returns-clause-kept
returns-clause-kept g c = kept_same g.D.Desk.keeps c.args.self.now _ c.open.ensures.kept refl
