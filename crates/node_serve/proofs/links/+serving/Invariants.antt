use Rattle.std.proofs.Common.{◌+◌, ◌*◌}
use Rattle.node_serve.proofs.links.+serving.Given as goal

abbrev pub decreases-serve_beside-join_mut+arg3 : goal.decreases-serve_beside-join_mut+arg3
decreases-serve_beside-join_mut+arg3 g l = 8 * l.left + 1

abbrev pub decreases-serve_beside : goal.decreases-serve_beside
decreases-serve_beside g l = 8 * l.left + 2

abbrev pub decreases-serve_next : goal.decreases-serve_next
decreases-serve_next g l = 8 * l.links
