use Rattle.std.proofs.Common.{◌≡◌, ◌<◌, ◌^◌, List, ℕ, IfOk, length, refl, ap, subst, ◌∙◌, arith}
use Rattle.std.specs.Prelude.{SomeIff}
use Rattle.part_bytes.specs.Texts.{part_text}
use Rattle.part_bytes.specs.Sizing.{size_of}
use Rattle.state_judge.proofs.Agreed.{handled_size, plain_size}
use Rattle.state_judge.proofs.judging.size_of_part.Goals as goal

pub returns-then-part : goal.returns-then-part
returns-then-part c =
    subst (λ (n : ℕ). (n < 2 ^ 32) × (0 ≡ n)) (handled_size c.args.state.now c.args.part.now c.requires.closed c.requires.part c.if-part.true) (omega arith, refl)

pub returns : goal.returns
returns c =
    let s = c.args.state.now in
    let same : length (part_text s c.as_slice.result.now) ≡ size_of c.args.part.now.names s =
    ap (λ (names : List (List ℕ)). length (part_text s names)) c.as_slice.ensures
    ∙ plain_size s c.args.part.now c.requires.closed c.requires.part c.if-part.false in
    subst (λ (n : ℕ). IfOk c.part_len.result (λ size. SomeIff size (n < 2 ^ 32) n)) same c.part_len.ensures
