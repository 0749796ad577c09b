use Rattle.std.proofs.Common.{◌≡◌, ℕ, suc, ◌-◌, subst, arith}
use Rattle.node_serve.specs.Doors.{LinksServed}
use Rattle.node_serve.proofs.Doors.{one_more}
use Rattle.node_serve.proofs.links.+serving.Goals as goal

pub serve_next-returns-then-is_served-clause-links : goal.serve_next-returns-then-is_served-clause-links
serve_next-returns-then-is_served-clause-links g t c =
    let both = c.serve_beside-is_served in
    let same : suc (c.args.links - 1) ≡ c.args.links = omega (arith, c.if-links-eq0.false) in
    subst (λ (n : ℕ). LinksServed g.E.Engine.meaning g.D.Link.Link.line g.D.Link.Link.faults n both.result.1 (g.D.Door.passed c.args.door.now) (g.D.Door.passed c.close_link.new.self)) same
    (one_more g.E.Engine.meaning g.D.Link.Link.line g.D.Link.Link.faults (g.D.Door.passed c.args.door.now) (g.D.Door.passed c.next_link.new.self) (g.D.Door.passed both.new.door) (g.D.Door.passed c.close_link.new.self)
    c.in-Came.link both.new.link (c.args.links - 1) both.result.1 both.result.1 c.in-Came.ensures.came.0 c.in-Came.ensures.came.2 both.ensures.links c.close_link.ensures.back (λ e. e) (λ n. n) (λ n. both.ensures.served c.if-is_served.true))
