use Rattle.std.proofs.Common.{◌≡◌, List, ◌∷◌, map, take, true, refl, sym, subst}
use Rattle.node_intake.specs.Intake.{Taken, Node, no_sessions, with_frames}
use Rattle.node_run.specs.Admitted.{AreOpen}
use Rattle.node_run.specs.Ends.{errors_after}
use Rattle.node_serve.specs.Units.{error_units, run_units}
use Rattle.node_serve.specs.Sent.{wire, IsSending}
use Rattle.node_serve.specs.Closing.{AreClosed}
use Rattle.node_serve.proofs.Ending.{all_told, reported, stopped_fed}
use Rattle.node_serve.proofs.serve.close_fed.Goals as goal

pub returns-then-not-suffices : goal.returns-then-not-suffices
returns-then-not-suffices g c = record {
  told = λ start fed.
      let mid = wire (g.L.Link.line c.args.link.now) (g.L.Link.faults c.args.link.now) c.args.is_cut.now in
      let later = wire (g.L.Link.line c.tell_left-suffices.new.link) (g.L.Link.faults c.tell_left-suffices.new.link) c.tell_left-suffices.new.is_cut in
      let now = wire (g.L.Link.line c.close_all-closings.new.link) (g.L.Link.faults c.close_all-closings.new.link) c.close_all-closings.new.is_cut in
      let f = c.args.fed in
      stopped_fed g.E.Engine.meaning g.N.Name.hosts g.N.Name.gives g.N.Name.queues start mid later now f.sessions.items f.errors f.broken f.end f.told c.tell_left-suffices.result c.close_all-closings.result.suffices c.close_all-closings.result.runs.items
      fed c.tell_left-suffices.ensures.sends c.close_all-closings.ensures;
}

pub returns : goal.returns
returns g c = record {
  told = λ start fed.
      let m = g.E.Engine.meaning in
      let hosts = g.N.Name.hosts in
      let gives = g.N.Name.gives in
      let mid = wire (g.L.Link.line c.args.link.now) (g.L.Link.faults c.args.link.now) c.args.is_cut.now in
      let later = wire (g.L.Link.line c.tell_left-suffices.new.link) (g.L.Link.faults c.tell_left-suffices.new.link) c.tell_left-suffices.new.is_cut in
      let now = wire (g.L.Link.line c.close_all-closings.new.link) (g.L.Link.faults c.close_all-closings.new.link) c.close_all-closings.new.is_cut in
      let f = c.args.fed in
      let sessions = f.sessions.items in
      let all = c.tell_left-suffices.new.errors in
      let b = c.tell_left-suffices.result in
      let runs = c.close_all-closings.result.runs.items in
      let node : Node = with_frames hosts no_sessions fed.took.bodies in
      let closes : (ts : List Taken) → AreOpen ts sessions g.N.Name.queues → AreClosed m hosts gives later now ts sessions b true runs =
      λ ts are. subst (λ x. AreClosed m hosts gives later now ts sessions b x runs) c.if-not-suffices.false (c.close_all-closings.ensures ts are) in
      let own = closes node.sessions fed.took.node.0 in
      let are : all ≡ errors_after f.end f.broken f.errors = c.tell_left-suffices.ensures.errors (own.served refl).0 in
      let s = all_told m hosts gives start mid later now fed.taken (error_units 1 (take f.told f.errors)) (error_units 1 (errors_after f.end f.broken f.errors)) node.sessions sessions b runs c.tell_left-suffices.ensures.sends own fed.sending in
      let sent = subst (λ es. IsSending (record start { cut = mid.cut }) now fed.taken (error_units 1 es ∷ map run_units runs)) (sym are) s in
      reported m hosts gives g.N.Name.queues start mid now sessions f.errors all f.broken f.end f.told c.end_after.result c.link_end.result runs fed are c.end_after.ensures c.link_end.ensures (λ ts is. ((closes ts is).served refl).1) sent;
}
