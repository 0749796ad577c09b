use Rattle.std.proofs.Common.{◌==◌, Err, refl, ap, ◌∙◌}
use Rattle.std.proofs.lemmas.Result.{err_from_is_err_and}
use Rattle.checkpoint_reader.proofs.WholeParts.{whole_read, objects_failed}
use Rattle.checkpoint_reader.proofs.part.read_whole.Goals as goal

pub returns-in_err-objects : goal.returns-in_err-objects
returns-in_err-objects c = λ t.
    let p = err_from_is_err_and c.from_residual-in_err-objects.result c.from_residual-in_err-objects.ensures.1 in
    objects_failed c.args.texts.now c.args.bytes.now c.args.spot.now c.read_names.new.spot c.read_all_held.new.spot c.in_ok-names.names c.in_ok-values.values c.len-count.result (c.len-count.result == 1)
    (c.in_ok-names.ensures refl) c.len-count.ensures refl (c.in_ok-values.ensures refl) c.read_objects.new.spot c.in_err-objects.field-0.0 c.from_residual-in_err-objects.result
    (p.1 ∙ ap (λ z. Err z) p.2) t c.in_err-objects.ensures

pub returns : goal.returns
returns c = λ t.
    whole_read c.args.texts.now c.args.bytes.now c.args.spot.now c.read_names.new.spot c.read_all_held.new.spot c.in_ok-names.names c.in_ok-values.values c.len-count.result (c.len-count.result == 1)
    (c.in_ok-names.ensures refl) c.len-count.ensures refl (c.in_ok-values.ensures refl) c.in_ok-objects.objects c.read_objects.new.spot (c.in_ok-objects.ensures refl)
