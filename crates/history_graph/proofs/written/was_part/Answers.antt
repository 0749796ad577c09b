use Rattle.std.proofs.Common.{sym, arith}
use Rattle.std.proofs.lemmas.Bool.{false≢true}
use Rattle.history_graph.proofs.Adding.{headed_list}
use Rattle.history_graph.proofs.Least.{was_found, was_none}
use Rattle.history_graph.proofs.written.was_part.Goals as goal

pub returns-in-Some : goal.returns-in-Some
returns-in-Some c = λ s are.
    let names = c.args.names.now in
    let m = headed_list names c.least-item.result (omega arith) c.least-item.is in
    was_found s c.args.parts.now are c.args.index.now c.requires names c.least-item.result m.0 m.1 c.in-Some.n.now (sym c.in-Some.ensures) c.has_names.result c.has_names.ensures

pub returns-in-None : goal.returns-in-None
returns-in-None c = λ s are.
    let names = c.args.names.now in
    let m = headed_list names c.least-item.result (omega arith) c.least-item.is in (
      λ t. absurd (false≢true t),
      λ w. absurd (was_none s c.args.parts.now are c.args.index.now c.requires names c.least-item.result m.0 m.1 (sym c.in-None.ensures) w),
    )
