use Rattle.std.proofs.Common.{◌≡◌, length, ap, ◌∙◌, arith}
use Rattle.std.specs.Prelude.{take, drop, min}
use Rattle.std.proofs.lemmas.List.{take_min, drop_min}
use Rattle.reply_frames.proofs.lists.take_chunk.Goals as goal

pub returns : goal.returns
returns c =
    let items = c.args.items.now.items in
    let is : c.min-most.result ≡ min 4096 (length items) = c.min-most.ensures ∙ ap (min 4096) (c.len.ensures ∙ omega (arith, c.args.items.now.ok.0)) in (
      ap (λ v. v.items) c.replace.ensures.value ∙ c.in_ok-more.ensures.items ∙ ap (λ n. take n items) is ∙ take_min 4096 items,
      ap (λ v. v.items) c.replace.ensures.after ∙ c.in_ok-more.ensures.tail ∙ ap (λ n. drop n items) is ∙ drop_min 4096 items,
    )
