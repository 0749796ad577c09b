use Rattle.std.proofs.Common.{ap, ◌∙◌, sym, subst, drop, List, ◌<◌, length, arith}
use Rattle.node_run.specs.declared.open_session.OpenSession.{OpenSession}
use Rattle.node_run.proofs.Seating.{seated_few}
use Rattle.node_run.proofs.Keeping.{may_alike, alike_length, alike_seated, may_readable}
use Rattle.node_run.proofs.desk.AdmissionDesk.read.Goals as goal

pub overflow_cast-seat : goal.overflow_cast-seat
overflow_cast-seat g c =
    let os = c.self.inside.sessions.items in
    let few = seated_few os g.N.Name.queues c.self.invariant.4 in
    let within : c.args.at < length os = subst (λ (l : List OpenSession). c.args.at < length l) (sym c.self.view_is) c.requires in
    let all = c.self.invariant.2 in
    omega (arith, few)

pub cell-cell-requires : goal.cell-cell-requires
cell-cell-requires g c =
    let os = c.self.inside.sessions.items in
    let few = seated_few os g.N.Name.queues c.self.invariant.4 in
    let within : c.args.at < length os = subst (λ (l : List OpenSession). c.args.at < length l) (sym c.self.view_is) c.requires in
    let all = c.self.invariant.2 in
    omega (arith, few)

pub invariant_of-self : goal.invariant_of-self
invariant_of-self g c =
    let qs = g.N.Name.queues in
    let os = c.self.inside.sessions.items in
    let new = c.read_at.new.sessions.items in
    let alike = may_alike os new c.args.at c.read_at.result c.read_at.ensures in (
      c.self.invariant.0,
      c.self.invariant.1,
      c.self.invariant.2,
      ap (λ n. drop n qs) (alike_length os new alike) ∙ c.self.invariant.3,
      alike_seated os new qs alike c.self.invariant.4,
      may_readable os new qs c.args.at c.cell-cell.result.now.0 c.read_at.result c.self.invariant.5 c.cell-cell.ensures.0 c.read_at.ensures,
    )
