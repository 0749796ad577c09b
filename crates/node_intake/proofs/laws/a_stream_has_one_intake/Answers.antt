use Rattle.std.proofs.Common.{◌∙◌, sym, ap}
use Rattle.node_intake.specs.Intake.{node_of}
use Rattle.node_intake.proofs.laws.a_stream_has_one_intake.Goals as goal

pub returns : goal.returns
returns c = λ hosts bytes node other first second.
    let same = c.a_stream_has_one_cutting.ensures first.bodies second.bodies first.rest second.rest first.are_bodies second.are_bodies first.is_rest second.is_rest (sym first.is_stream ∙ second.is_stream) in
    first.is_node ∙ ap (λ bodies. node_of hosts bodies first.rest) same.0 ∙ ap (λ rest. node_of hosts second.bodies rest) same.1 ∙ sym second.is_node
