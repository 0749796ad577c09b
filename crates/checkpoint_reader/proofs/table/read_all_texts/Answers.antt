use Rattle.std.proofs.Common.{Err, refl, ap, ◌∙◌}
use Rattle.std.proofs.lemmas.Result.{err_from_is_err_and}
use Rattle.checkpoint_reader.specs.Fields as spec
use Rattle.checkpoint_reader.proofs.Turns.{turn_goes, failed_turn}
use Rattle.checkpoint_reader.proofs.table.read_all_texts.Goals as goal

pub loop-index-preserved : goal.loop-index-preserved
loop-index-preserved c = record {
  seen = c.in_ok-listed.ensures.seen;
  turns = turn_goes (spec.next_text c.args.bytes.now) c.args.count c.loop-index.index _ _ _ _ _ c.loop-index-test.true c.loop-index.invariant.turns (c.in_ok-listed.ensures.exact refl);
}

pub returns-in_err-listed : goal.returns-in_err-listed
returns-in_err-listed c = λ t.
    let p = err_from_is_err_and c.from_residual.result c.from_residual.ensures.1 in
    failed_turn (spec.next_text c.args.bytes.now) c.args.count c.loop-index.index _ _ _ c.in_err-listed.field-0.0 c.from_residual.result _ c.loop-index-test.true c.loop-index.invariant.turns
    (p.1 ∙ ap (λ z. Err z) p.2) t c.in_err-listed.ensures.exact
