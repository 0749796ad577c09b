use Rattle.std.proofs.Common.{length, refl, ap, arith}
use Rattle.std.proofs.lemmas.List.{length-drop}
use Rattle.checkpoint_reader.proofs.Sizes.{part_within}
use Rattle.checkpoint_reader.proofs.versions.read_next_part.Goals as goal

pub overflow_add-spot : goal.overflow_add-spot
overflow_add-spot c =
    let within = part_within c.args.texts.now c.args.known c.rest_of.result.now (c.in-Ok.part, c.in-Ok.size, c.in-Ok.known) (c.in-Ok.ensures refl) in
    let rest = ap length c.rest_of.ensures in
    let left = length-drop c.args.spot.now c.args.bytes.now in
    omega arith
