use Rattle.std.proofs.Common.{◌≡◌, ◌+◌, ◌≤◌, List, true, false, length, take, sym, ap, ◌∙◌, subst}
use Rattle.session_core.specs.declared.entry.Entry.{Entry}
use Rattle.node_run.specs.Unsent.{read_of, frames_in}
use Rattle.node_serve.specs.Units.{entry_units, read_units, run_units}
use Rattle.node_serve.specs.Sent.{wire, SendsOn}
use Rattle.node_serve.proofs.Sendings.{sends_as}
use Rattle.node_serve.proofs.Closings.{first_read, place_within, units_read, short_before, short_between}
use Rattle.node_serve.proofs.closing.close_and_tell.Goals as goal

pub tell_rest-requires-clause-place : goal.tell_rest-requires-clause-place
tell_rest-requires-clause-place g c =
    let o = c.args.session in
    let p = c.in-Ok.ensures.place in
    subst (λ (es : List Entry). c.in-Ok.closed.place ≤ length es) (sym c.entries.ensures) (place_within (read_of o) c.in-Ok.closed.served.entries p.3.0 c.in-Ok.closed.place p.3.1 p.2)

pub tell_rest-requires-clause-next : goal.tell_rest-requires-clause-next
tell_rest-requires-clause-next g c =
    let o = c.args.session in
    let p = c.in-Ok.ensures.place in
    let first = first_read (read_of o) c.in-Ok.closed.served.entries p.3.0 c.in-Ok.closed.place p.3.1 p.2 in
    subst (λ (es : List Entry). c.in-Ok.closed.next ≡ 1 + frames_in (take c.in-Ok.closed.place es)) (sym c.entries.ensures)
    (p.1 ∙ c.requires.counted ∙ ap (λ es. 1 + frames_in es) (sym first))

pub returns-in-Ok-tell_rest-clause-ok : goal.returns-in-Ok-tell_rest-clause-ok
returns-in-Ok-tell_rest-clause-ok g c =
    let closed = c.in-Ok.closed in
    let o = c.args.session in
    let p = c.in-Ok.ensures.place in
    let es = c.entries.result.now in
    let old = wire (g.L.Link.line c.args.link.now) (g.L.Link.faults c.args.link.now) c.args.is_cut.now in
    let new = wire (g.L.Link.line c.tell_rest.new.link) (g.L.Link.faults c.tell_rest.new.link) c.tell_rest.new.is_cut in
    sends_as true true old new (read_units o) (entry_units closed.kernel 1 (take closed.place es)) (entry_units closed.kernel 1 es) (run_units (closed.kernel, closed.served))
    (units_read o closed.kernel closed.place es p.3.0 p.0 (c.entries.ensures ∙ p.3.1) p.2) (ap (entry_units closed.kernel 1) c.entries.ensures) c.in-Ok-tell_rest.ensures.sends

pub returns-in-Err-tell_rest-clause-err : goal.returns-in-Err-tell_rest-clause-err
returns-in-Err-tell_rest-clause-err g c = λ s is.
    let closed = c.in-Ok.closed in
    let p = c.in-Ok.ensures.place in
    let es = c.entries.result.now in
    let old = wire (g.L.Link.line c.args.link.now) (g.L.Link.faults c.args.link.now) c.args.is_cut.now in
    let new = wire (g.L.Link.line c.tell_rest.new.link) (g.L.Link.faults c.tell_rest.new.link) c.tell_rest.new.is_cut in
    let run = c.in-Ok.ensures.run s is in
    short_between g.E.Engine.meaning g.N.Name.hosts g.N.Name.gives old new c.args.cell.0 s c.args.session closed.kernel closed.place closed.served.entries p.3.0 is p.0 p.3.1 p.2 run.1
    (subst (λ (xs : List Entry). SendsOn true false old new (entry_units closed.kernel 1 (take closed.place xs)) (entry_units closed.kernel 1 xs)) c.entries.ensures c.in-Err-tell_rest.ensures.sends)

pub returns-in-Err-clause-err : goal.returns-in-Err-clause-err
returns-in-Err-clause-err g c = λ s is.
    short_before g.E.Engine.meaning g.N.Name.hosts g.N.Name.gives (wire (g.L.Link.line c.args.link.now) (g.L.Link.faults c.args.link.now) c.args.is_cut.now) c.args.cell.0 s c.args.session is (c.in-Err.ensures.err s is)
