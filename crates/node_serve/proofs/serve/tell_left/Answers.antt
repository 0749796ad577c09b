use Rattle.std.proofs.Common.{◌≡◌, true, take, sym, subst}
use Rattle.node_run.specs.Ends.{errors_after}
use Rattle.node_serve.specs.Units.{error_units}
use Rattle.node_serve.specs.Sent.{wire, SendsOn}
use Rattle.node_serve.proofs.Ending.{when_ok, left_short, left_told}
use Rattle.node_serve.proofs.serve.tell_left.Goals as goal

pub returns-then-is_err-clause-sends : goal.returns-then-is_err-clause-sends
returns-then-is_err-clause-sends g c = left_short (wire (g.L.Link.line c.args.link.now) (g.L.Link.faults c.args.link.now) c.args.is_cut.now) c.args.end c.args.broken c.args.errors.now c.args.told

pub returns-clause-sends : goal.returns-clause-sends
returns-clause-sends g c =
    let old = wire (g.L.Link.line c.args.link.now) (g.L.Link.faults c.args.link.now) c.args.is_cut.now in
    let new = wire (g.L.Link.line c.tell_errors.new.link) (g.L.Link.faults c.tell_errors.new.link) c.tell_errors.new.is_cut in
    let shown = c.as_slice.result.now in
    let all = c.push_broken.new.errors in
    let are : all ≡ errors_after c.args.end c.args.broken c.args.errors.now = when_ok (all ≡ errors_after c.args.end c.args.broken c.args.errors.now) c.push_broken.result c.push_broken.ensures c.if-is_err.ensures.negation in
    let sends = subst (λ b. SendsOn true b old new (error_units 1 (take c.args.told shown)) (error_units 1 shown)) (sym c.is_ok.ensures.value) c.tell_errors.ensures.sends in
    left_told c.is_ok.result old new c.args.end c.args.broken c.args.errors.now all shown c.args.told c.requires.few are c.as_slice.ensures sends
