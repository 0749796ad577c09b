use Rattle.std.proofs.Common.{◌≡◌, ◌++◌, map}
use Rattle.replay_laws.specs.Copies.{higher_object}
use Rattle.part_loader.proofs.loading.add_objects.Given as goal

abbrev pub invariant-loop-object : goal.invariant-loop-object
invariant-loop-object l = (l.state.heap ≡ l.initial.state.heap ++ map (higher_object l.above.base) l.yielded) × (l.state ≡ record l.initial.state { heap = l.state.heap })
