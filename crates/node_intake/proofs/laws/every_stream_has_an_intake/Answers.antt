use Rattle.std.proofs.Common.{refl}
use Rattle.node_intake.specs.Intake.{node_of}
use Rattle.node_intake.proofs.laws.every_stream_has_an_intake.Goals as goal

pub returns : goal.returns
returns c = λ hosts bytes all.
    let cut = c.every_stream_has_a_cutting.ensures bytes all in (
      node_of hosts cut.bodies cut.rest,
      record {
        bodies = cut.bodies;
        rest = cut.rest;
        are_bodies = cut.are_bodies;
        is_rest = cut.is_rest;
        is_stream = cut.is_stream;
        is_node = refl;
      },
    )
