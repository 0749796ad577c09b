use Rattle.std.proofs.Common.{Err, refl, ap, ◌∙◌}
use Rattle.std.proofs.lemmas.Result.{err_from_is_err_and}
use Rattle.checkpoint_reader.specs.PartReading as spec
use Rattle.checkpoint_reader.proofs.PartTurns.{turn_reads, failed_turn, turns_end, turns_begin}
use Rattle.checkpoint_reader.proofs.part_values.read_values.Goals as goal

pub loop-index-init : goal.loop-index-init
loop-index-init c = turns_begin (λ before. spec.value c.args.texts.now c.args.bytes.now) c.args.count _ c.args.spot.now c.new-all.ensures

pub loop-index-preserved : goal.loop-index-preserved
loop-index-preserved c = turn_reads (λ before. spec.value c.args.texts.now c.args.bytes.now) c.args.count c.loop-index.index _ _ _ _ _ _ c.loop-index-test.true c.loop-index.invariant (c.in_ok-next.ensures refl) c.in_ok-push.ensures.ok

pub returns-in_err-next : goal.returns-in_err-next
returns-in_err-next c = λ t.
    let p = err_from_is_err_and c.from_residual.result c.from_residual.ensures.1 in
    failed_turn (λ before. spec.value c.args.texts.now c.args.bytes.now) c.args.count c.loop-index.index _ _ _ c.in_err-next.field-0.0 c.from_residual.result _ c.loop-index-test.true c.loop-index.invariant
    (p.1 ∙ ap (λ z. Err z) p.2) t c.in_err-next.ensures

pub returns : goal.returns
returns c = λ t. turns_end (λ before. spec.value c.args.texts.now c.args.bytes.now) c.args.count c.loop-index.index _ _ _ c.loop-index-test.false c.loop-index.invariant
