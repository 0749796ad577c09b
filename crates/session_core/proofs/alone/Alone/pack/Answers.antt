use Rattle.std.proofs.Common.{◌≡◌, false, sym, ◌∙◌, subst}
use Rattle.session_core.specs.Engines.{Packs}
use Rattle.session_core.specs.Legal.{progress_of}
use Rattle.session_core.proofs.Stepping.{alive_has_no_end}
use Rattle.session_core.proofs.alone.Alone.pack.Goals as goal

pub returns : goal.returns
returns g c =
    let es = c.self.inside.journal.entries in
    let h = c.self.invariant in
    let is : c.self.inside.dead ≡ false = c.if-self.false in
    let alive : (progress_of es).dead ≡ false = sym h.dead ∙ is in
    subst (λ z. ((progress_of z.entries).dead ≡ false) × Packs g.E.Engine.meaning (progress_of z.entries).served c.args.weights.now c.pack.result) c.self.view_is
    (alive, c.pack.ensures (progress_of es).served (h.alive is).0 (alive_has_no_end es alive))
