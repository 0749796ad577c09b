use Rattle.std.proofs.Common.{cond, false, [], ◌∷◌, ◌++◌, sym, ap, ◌∙◌, subst}
use Rattle.node_serve.specs.Sent.{wire}
use Rattle.node_serve.specs.Closing.{Closes}
use Rattle.node_serve.proofs.Closings.{closes_served, closes_short, closes_let_go}
use Rattle.node_serve.proofs.closing.close_next.Goals as goal

pub returns-then-not-closings-clause-closes : goal.returns-then-not-closings-clause-closes
returns-then-not-closings-clause-closes g c = λ s is.
    closes_let_go g.E.Engine.meaning g.N.Name.hosts g.N.Name.gives (wire (g.L.Link.line c.args.link.now) (g.L.Link.faults c.args.link.now) c.args.is_cut.now) c.args.cell.0 s c.args.session c.args.closings.now.suffices c.args.closings.now.runs.items c.if-not-closings.true is (c.let_go.ensures s is)

pub returns-in-Ok-clause-closes : goal.returns-in-Ok-clause-closes
returns-in-Ok-clause-closes g c = λ s is.
    let old = wire (g.L.Link.line c.args.link.now) (g.L.Link.faults c.args.link.now) c.args.is_cut.now in
    let new = wire (g.L.Link.line c.close_and_tell.new.link) (g.L.Link.faults c.close_and_tell.new.link) c.close_and_tell.new.is_cut in
    let runs = c.args.closings.now.runs.items in
    let run = c.in-Ok.run' in
    subst (λ b. Closes g.E.Engine.meaning g.N.Name.hosts g.N.Name.gives old new s c.args.session b c.is_ok-closings.result runs c.push.new.self.items) (sym c.if-not-closings.false)
    (closes_served g.E.Engine.meaning g.N.Name.hosts g.N.Name.gives old new s c.args.session run c.is_ok-closings.result runs c.push.new.self.items (c.in-Ok.ensures.run s is) c.in-Ok.ensures.ok
    (c.push.ensures.items ∙ ap (λ b. cond b (runs ++ run ∷ []) runs) (sym c.is_ok-closings.ensures.value)))

pub returns-in-Err-clause-closes : goal.returns-in-Err-clause-closes
returns-in-Err-clause-closes g c = λ s is.
    let old = wire (g.L.Link.line c.args.link.now) (g.L.Link.faults c.args.link.now) c.args.is_cut.now in
    let new = wire (g.L.Link.line c.close_and_tell.new.link) (g.L.Link.faults c.close_and_tell.new.link) c.close_and_tell.new.is_cut in
    let runs = c.args.closings.now.runs.items in
    subst (λ b. Closes g.E.Engine.meaning g.N.Name.hosts g.N.Name.gives old new s c.args.session b false runs runs) (sym c.if-not-closings.false)
    (closes_short g.E.Engine.meaning g.N.Name.hosts g.N.Name.gives old new s c.args.session runs (c.in-Err.ensures.err s is))
