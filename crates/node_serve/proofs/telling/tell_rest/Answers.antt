use Rattle.std.proofs.Common.{◌+◌, true, false, refl}
use Rattle.node_serve.specs.Sent.{wire}
use Rattle.node_serve.proofs.Passing.{entries_on, number_on, entries_done, entries_short}
use Rattle.node_serve.proofs.telling.tell_rest.Goals as goal

pub loop-at-init : goal.loop-at-init
loop-at-init g c = ((λ start taken lists others s. s), c.requires.next)

pub loop-at-preserved : goal.loop-at-preserved
loop-at-preserved g c =
    let first = wire (g.L.Link.line c.args.link.now) (g.L.Link.faults c.args.link.now) c.args.is_cut.now in
    let old = wire (g.L.Link.line c.loop-at.link) (g.L.Link.faults c.loop-at.link) c.loop-at.is_cut in
    let new = wire (g.L.Link.line c.tell_entry.new.link) (g.L.Link.faults c.tell_entry.new.link) c.tell_entry.new.is_cut in
    let e = c.index-entries-at.result in (
      entries_on true first old new c.args.kernel c.args.entries.now c.args.place c.loop-at.at (c.loop-at.at + 1) c.loop-at.running e c.index-entries-at.is c.loop-at-test.true refl c.loop-at.invariant.1 c.in-Ok.ensures.tells c.loop-at.invariant.0,
      number_on c.args.entries.now c.loop-at.at (c.loop-at.at + 1) c.loop-at.running c.in-Ok.after e c.index-entries-at.is c.loop-at-test.true refl c.loop-at.invariant.1 c.in-Ok.ensures.next,
    )

pub returns-in-Err : goal.returns-in-Err
returns-in-Err g c =
    let first = wire (g.L.Link.line c.args.link.now) (g.L.Link.faults c.args.link.now) c.args.is_cut.now in
    let old = wire (g.L.Link.line c.loop-at.link) (g.L.Link.faults c.loop-at.link) c.loop-at.is_cut in
    let new = wire (g.L.Link.line c.tell_entry.new.link) (g.L.Link.faults c.tell_entry.new.link) c.tell_entry.new.is_cut in
    record {
      sends = entries_short first new c.args.kernel c.args.entries.now c.args.place (c.loop-at.at + 1)
          (entries_on false first old new c.args.kernel c.args.entries.now c.args.place c.loop-at.at (c.loop-at.at + 1) c.loop-at.running c.index-entries-at.result c.index-entries-at.is c.loop-at-test.true refl c.loop-at.invariant.1 c.in-Err.ensures.tells c.loop-at.invariant.0);
    }

pub returns : goal.returns
returns g c =
    let first = wire (g.L.Link.line c.args.link.now) (g.L.Link.faults c.args.link.now) c.args.is_cut.now in
    let old = wire (g.L.Link.line c.loop-at.link) (g.L.Link.faults c.loop-at.link) c.loop-at.is_cut in
    record { sends = entries_done first old c.args.kernel c.args.entries.now c.args.place c.loop-at.at c.loop-at-test.false c.loop-at.invariant.0 }
