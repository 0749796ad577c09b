use Rattle.std.proofs.Common.{ap, ◌∙◌, length, arith}
use Rattle.std.proofs.lemmas.List.{length-drop}
use Rattle.jupyter_frames.proofs.framer.Framer.held_at.Goals as goal

pub returns-then-self-len : goal.returns-then-self-len
returns-then-self-len c =
    let items = c.self.inside.bytes.items in
    let less = c.if-self-len.true in (
      λ none. let l = ap length (ap (λ h. h.bytes) c.self.view_is ∙ none) in omega (arith, l, length-drop c.self.inside.at items, less, c.len.ensures),
      ap (λ h. h.place) c.self.view_is,
    )
