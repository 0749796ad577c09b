use Rattle.std.proofs.Common.{sym, ◌∙◌}
use Rattle.std.proofs.lemmas.Bool.{false≢true}
use Rattle.cut_network.proofs.Sticking.{stuck_marked}
use Rattle.cut_network.proofs.stuck.may_stick.Goals as goal

pub returns-in-Some : goal.returns-in-Some
returns-in-Some c = λ f d s. false≢true (sym f ∙ c.has_mark.ensures.1 (stuck_marked c.args.graph.now c.args.v d c.in-Some.version.now c.args.marks.now c.in-Some.ensures s c.requires))
