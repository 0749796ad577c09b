use Rattle.std.proofs.Common.{List, ℕ, get_or, sym, ap, ◌∙◌}
use Rattle.std.proofs.lemmas.Grind.{get_or_default_zero}
use Rattle.part_bytes.specs.Tables.{with_texts}
use Rattle.part_bytes.specs.Gathering.{object_texts_at}
use Rattle.part_bytes.proofs.Tables.{uses_more, uses_all, texts_here}
use Rattle.part_bytes.proofs.texts.add_objects.Goals as goal

pub loop-at-preserved : goal.loop-at-preserved
loop-at-preserved c =
    let at : ℕ = get_or c.args.found.now c.loop-at.at-index 0 in
    uses_more (object_texts_at c.args.state.now) c.args.texts.now _ _ c.args.found.now c.loop-at.at-index at c.loop-at-test.true (sym (get_or_default_zero c.args.found.now c.loop-at.at-index at c.loop-at-test.true)) c.loop-at.invariant
    (c.in_ok-add_object.ensures ∙ ap (λ (ts : List (List ℕ)). with_texts c.loop-at.texts ts) (texts_here c.args.state.now at c.get.result.now c.get.ensures))

pub returns : goal.returns
returns c = uses_all (object_texts_at c.args.state.now) c.args.texts.now _ c.args.found.now c.loop-at.at-index c.loop-at-test.false c.loop-at.invariant
