use Rattle.std.proofs.Common.{◌≡◌, [], ◌∷◌, ◌∙◌, subst}
use Rattle.py_reader.specs.Scans.{GivesFunction}
use Rattle.py_reader.proofs.Final.{handed_on}
use Rattle.py_reader.proofs.WholeAlone.{is_later, is_refused, is_more, built_is, last_is, is_whole}
use Rattle.py_reader.proofs.definition.whole_alone.Goals as goal

pub returns-then-start_of-gt0 : goal.returns-then-start_of-gt0
returns-then-start_of-gt0 c = is_later _ _ _ c.start_of.ensures c.if-start_of-gt0.true

pub returns-in_err-body : goal.returns-in_err-body
returns-in_err-body c = subst (GivesFunction c.args.code.now c.args.tokens.now) (handed_on c.from_residual.result _ c.from_residual.ensures.1)
    (is_refused c.args.code.now c.args.tokens.now _ c.in_err-body.field-0.0 c.start_of.ensures c.if-start_of-gt0.false c.in_err-body.ensures)

pub returns-then-at-code : goal.returns-then-at-code
returns-then-at-code c = is_more _ _ _ _ _ c.start_of.ensures c.if-start_of-gt0.false c.in_ok-body.ensures c.end_of_words-at.ensures c.if-at-code.true

pub unreachable-requires : goal.unreachable-requires
unreachable-requires c =
    let clash : _ ∷ [] ≡ [] = built_is _ _ _ _ _ c.requires.function c.utf8.code c.start_of.ensures c.if-start_of-gt0.false c.in_ok-body.ensures c.end_of_words-at.ensures c.if-at-code.false ∙ c.in_default.ensures.0 in
    cc

pub unreachable-requires-in_default-last : goal.unreachable-requires-in_default-last
unreachable-requires-in_default-last c = c.in_default-last.not-Function _
    (last_is _ _ _ _ _ _ _ c.requires.function c.utf8.code c.start_of.ensures c.if-start_of-gt0.false c.in_ok-body.ensures c.end_of_words-at.ensures c.if-at-code.false c.in-Some.ensures)

pub returns : goal.returns
returns c = is_whole _ _ _ _ _ _ _ _ c.utf8.code c.start_of.ensures c.if-start_of-gt0.false c.in_ok-body.ensures c.end_of_words-at.ensures c.if-at-code.false c.in-Some.ensures c.in-Function.is
