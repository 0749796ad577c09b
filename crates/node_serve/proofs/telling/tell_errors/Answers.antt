use Rattle.std.proofs.Common.{◌+◌, true, false, refl}
use Rattle.node_serve.specs.Sent.{wire}
use Rattle.node_serve.proofs.Passing.{errors_on, errors_done, errors_short}
use Rattle.node_serve.proofs.telling.tell_errors.Goals as goal

pub loop-at-init : goal.loop-at-init
loop-at-init g c = λ start taken lists others s. s

pub loop-at-preserved : goal.loop-at-preserved
loop-at-preserved g c =
    let first = wire (g.L.Link.line c.args.link.now) (g.L.Link.faults c.args.link.now) c.args.is_cut.now in
    let old = wire (g.L.Link.line c.loop-at.link) (g.L.Link.faults c.loop-at.link) c.loop-at.is_cut in
    let new = wire (g.L.Link.line c.tell_error.new.link) (g.L.Link.faults c.tell_error.new.link) c.tell_error.new.is_cut in
    errors_on true first old new c.args.errors.now c.args.told c.loop-at.at (c.loop-at.at + 1) (c.loop-at.at + 1) c.index-errors-at.result c.index-errors-at.is c.loop-at-test.true refl refl c.in-Ok.ensures.tells c.loop-at.invariant

pub returns-in-Err : goal.returns-in-Err
returns-in-Err g c =
    let first = wire (g.L.Link.line c.args.link.now) (g.L.Link.faults c.args.link.now) c.args.is_cut.now in
    let old = wire (g.L.Link.line c.loop-at.link) (g.L.Link.faults c.loop-at.link) c.loop-at.is_cut in
    let new = wire (g.L.Link.line c.tell_error.new.link) (g.L.Link.faults c.tell_error.new.link) c.tell_error.new.is_cut in
    record {
      sends = errors_short first new c.args.errors.now c.args.told (c.loop-at.at + 1)
          (errors_on false first old new c.args.errors.now c.args.told c.loop-at.at (c.loop-at.at + 1) (c.loop-at.at + 1) c.index-errors-at.result c.index-errors-at.is c.loop-at-test.true refl refl c.in-Err.ensures.tells c.loop-at.invariant);
    }

pub returns : goal.returns
returns g c =
    let first = wire (g.L.Link.line c.args.link.now) (g.L.Link.faults c.args.link.now) c.args.is_cut.now in
    let old = wire (g.L.Link.line c.loop-at.link) (g.L.Link.faults c.loop-at.link) c.loop-at.is_cut in
    record { sends = errors_done first old c.args.errors.now c.args.told c.loop-at.at c.loop-at-test.false c.loop-at.invariant }
