use Rattle.std.proofs.Common.{refl}
use Rattle.node_intake.proofs.Standing.{map_ok, asked_more, kept_same}
use Rattle.node_intake.proofs.node.Intake.admit.Goals as goal

pub returns-clause-node : goal.returns-clause-node
returns-clause-node g c =
    map_ok c.admit.result (λ admits node stands is. asked_more g.D.Desk.holds c.args.self.now _ c.args.kernel c.args.at c.args.request node admits refl stands is) c.admit.ensures.ok

pub returns-clause-kept : goal.returns-clause-kept
returns-clause-kept g c = kept_same g.D.Desk.keeps c.args.self.now _ c.admit.ensures.kept refl
