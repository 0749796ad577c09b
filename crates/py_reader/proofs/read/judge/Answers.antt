use Rattle.std.proofs.Common.{false, length, Ok, Err, ap, sym, subst, ◌∙◌}
use Rattle.py_reader.specs.Gives.{Gives}
use Rattle.py_reader.specs.Verdict.{verdict}
use Rattle.py_reader.proofs.Final.{handed_on, early_cell, gives_whole, refused_cell}
use Rattle.py_reader.proofs.Scanned.{whole_scan, refused_scan}
use Rattle.py_reader.proofs.read.judge.Goals as goal

pub returns-in_err-tokens : goal.returns-in_err-tokens
returns-in_err-tokens c = subst (λ r. Gives r (verdict c.args.code.now)) (handed_on c.from_residual.result _ c.from_residual.ensures.1) (early_cell c.args.code.now c.in_err-tokens.field-0.0 c.in_err-tokens.ensures)

pub returns-in_err-body-in-Whole : goal.returns-in_err-body-in-Whole
returns-in_err-body-in-Whole c = subst (λ r. Gives r (verdict c.args.code.now)) (handed_on c.from_residual-in_err-body-in-Whole.result _ c.from_residual-in_err-body-in-Whole.ensures.1)
    (gives_whole c.args.code.now c.as_slice-all.result.now _ (Err c.in_err-body-in-Whole.field-0.0) (c.in_ok-tokens.ensures ∙ ap Ok (sym c.as_slice-all.ensures))
    (whole_scan false c.args.code.now c.as_slice-all.result.now (length c.as_slice-all.result.now) _ _ c.in_ok-reader.ensures c.in-Whole.is) c.in_err-body-in-Whole.ensures)

pub returns-in-Whole : goal.returns-in-Whole
returns-in-Whole c = gives_whole c.args.code.now c.as_slice-all.result.now _ (Ok c.in_ok-body-in-Whole.body) (c.in_ok-tokens.ensures ∙ ap Ok (sym c.as_slice-all.ensures))
    (whole_scan false c.args.code.now c.as_slice-all.result.now (length c.as_slice-all.result.now) _ _ c.in_ok-reader.ensures c.in-Whole.is) c.in_ok-body-in-Whole.ensures

pub returns : goal.returns
returns c = refused_cell c.args.code.now c.as_slice-all.result.now _ _ (c.in_ok-tokens.ensures ∙ ap Ok (sym c.as_slice-all.ensures))
    (refused_scan false c.args.code.now c.as_slice-all.result.now _ _ _ c.in_ok-reader.ensures c.in-Refused.is) c.in_ok-fault-in-Refused.ensures
