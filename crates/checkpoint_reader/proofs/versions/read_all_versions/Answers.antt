use Rattle.std.proofs.Common.{Err, refl, ap, ◌∙◌}
use Rattle.std.proofs.lemmas.Result.{err_from_is_err_and}
use Rattle.checkpoint_reader.specs.Fields as spec
use Rattle.checkpoint_reader.proofs.Turns.{turn_goes, failed_turn}
use Rattle.checkpoint_reader.proofs.Growing.{versions_turn, all_versions}
use Rattle.checkpoint_reader.proofs.versions.read_all_versions.Goals as goal

pub loop-index-preserved : goal.loop-index-preserved
loop-index-preserved c =
    let e = c.in_ok-versions.ensures refl in (
      versions_turn c.args.texts.now c.args.bytes.now c.loop-index.index _ _ _ _ c.loop-index.invariant.0 e,
      turn_goes (spec.next_version c.args.bytes.now c.args.texts.now) c.args.count c.loop-index.index _ _ _ _ _ c.loop-index-test.true c.loop-index.invariant.1 e,
    )

pub returns-clause-sound : goal.returns-clause-sound
returns-clause-sound c = all_versions c.args.count c.loop-index.index c.loop-index.versions c.loop-index-test.false c.loop-index.auto.index-end c.loop-index.invariant.0

pub returns-in_err-versions-clause-exact : goal.returns-in_err-versions-clause-exact
returns-in_err-versions-clause-exact c = λ t.
    let p = err_from_is_err_and c.from_residual.result c.from_residual.ensures.1 in
    failed_turn (spec.next_version c.args.bytes.now c.args.texts.now) c.args.count c.loop-index.index _ _ _ c.in_err-versions.field-0.0 c.from_residual.result _ c.loop-index-test.true c.loop-index.invariant.1
    (p.1 ∙ ap (λ z. Err z) p.2) t c.in_err-versions.ensures
