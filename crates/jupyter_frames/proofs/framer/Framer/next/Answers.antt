use Rattle.std.proofs.Common.{◌+◌, sym, ap, ◌∙◌, arith}
use Rattle.jupyter_frames.specs.Framing.{place_after}
use Rattle.jupyter_frames.proofs.Cutting.{held_is, next_is}
use Rattle.jupyter_frames.proofs.framer.Framer.next.Goals as goal

pub returns-in-Ok : goal.returns-in-Ok
returns-in-Ok c =
    let items = c.self.inside.bytes.items in
    let at = c.self.inside.at in
    let n = c.length_said-length.result in
    let cut = c.in-Ok.ensures in
    let some = c.if-length-eq0.false in
    let few = c.if-length-gt-MOST.false in
    let count = cut.0 in (
      (omega (arith, count), omega (arith, count)),
      sym (ap (λ h. h.bytes) c.self.view_is) ∙ next_is items _ c.in-Ok.body at n (held_is c.deref.result.now items at c.deref.ensures.value) cut.1,
      c.saturating_add-self-inside.ensures ∙ ap (λ h. place_after h.place (4 + n)) c.self.view_is ∙ ap (λ m. place_after c.args.self.now.place (4 + m)) (sym count),
    )
