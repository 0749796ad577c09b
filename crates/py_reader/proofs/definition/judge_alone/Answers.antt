use Rattle.std.proofs.Common.{true, length, Ok, ap, sym, subst, ◌∙◌}
use Rattle.py_reader.specs.Gives.{Answers}
use Rattle.py_reader.specs.DefinitionVerdict.{verdict_alone}
use Rattle.py_reader.proofs.Final.{handed_on, early_alone, are_function, gives_function, refused_alone}
use Rattle.py_reader.proofs.Scanned.{whole_scan, refused_scan}
use Rattle.py_reader.proofs.definition.judge_alone.Goals as goal

pub returns-in_err-tokens : goal.returns-in_err-tokens
returns-in_err-tokens c = subst (λ r. Answers r (verdict_alone c.args.source.now)) (handed_on c.from_residual.result _ c.from_residual.ensures.1) (early_alone c.args.source.now c.in_err-tokens.field-0.0 c.in_err-tokens.ensures)

pub whole_alone-requires-clause-function : goal.whole_alone-requires-clause-function
whole_alone-requires-clause-function c = are_function c.args.source.now c.as_slice-all.result.now _ (c.in_ok-tokens.ensures ∙ ap Ok (sym c.as_slice-all.ensures))
    (whole_scan true c.args.source.now c.as_slice-all.result.now (length c.as_slice-all.result.now) _ _ c.in_ok-reader.ensures c.in-Whole.is)

pub whole_alone-requires-clause-read : goal.whole_alone-requires-clause-read
whole_alone-requires-clause-read c = whole_scan true c.args.source.now c.as_slice-all.result.now (length c.as_slice-all.result.now) _ _ c.in_ok-reader.ensures c.in-Whole.is

pub returns-in-Whole : goal.returns-in-Whole
returns-in-Whole c = gives_function c.args.source.now c.as_slice-all.result.now _ (c.in_ok-tokens.ensures ∙ ap Ok (sym c.as_slice-all.ensures))
    (are_function c.args.source.now c.as_slice-all.result.now _ (c.in_ok-tokens.ensures ∙ ap Ok (sym c.as_slice-all.ensures))
    (whole_scan true c.args.source.now c.as_slice-all.result.now (length c.as_slice-all.result.now) _ _ c.in_ok-reader.ensures c.in-Whole.is)) c.whole_alone.ensures

pub returns : goal.returns
returns c = refused_alone c.args.source.now c.as_slice-all.result.now _ _ (c.in_ok-tokens.ensures ∙ ap Ok (sym c.as_slice-all.ensures))
    (refused_scan true c.args.source.now c.as_slice-all.result.now _ _ _ c.in_ok-reader.ensures c.in-Refused.is) c.in_ok-fault-in-Refused.ensures
