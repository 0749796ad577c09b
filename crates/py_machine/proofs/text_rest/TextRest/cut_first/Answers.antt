use Rattle.std.proofs.Common.{◌-◌, List, Some, drop, length, sym, ap, ◌∙◌}
use Rattle.std.specs.Prelude.{ℕ}
use Rattle.py_machine.specs.Rests.{first_cut}
use Rattle.py_machine.proofs.Resting.{cut_after_first, first_fits, left_fits, cut_there, cut_is}
use Rattle.py_machine.proofs.text_rest.TextRest.cut_first.Goals as goal

pub range-requires-clause-end_boundary : goal.range-requires-clause-end_boundary
range-requires-clause-end_boundary c = cut_after_first c.self.inside.text c.as_str-rest.result.now c.next.new.self.rest.now c.self.inside.place c.in-Some.first c.len_utf8-width.result c.len_utf8-width.ensures.value (c.as_str-rest.ensures ∙ sym c.self.view_is) c.as_str-rest.utf8 (sym c.chars.ensures.rest ∙ c.in-Some.ensures.steps.0)

pub overflow_sub-left : goal.overflow_sub-left
overflow_sub-left c = first_fits c.self.inside.text c.as_str-rest.result.now c.next.new.self.rest.now c.self.inside.place c.in-Some.first c.len_utf8-width.result c.len_utf8-width.ensures.value (c.as_str-rest.ensures ∙ sym c.self.view_is) c.as_str-rest.utf8 (sym c.chars.ensures.rest ∙ c.in-Some.ensures.steps.0)

pub overflow_sub-place : goal.overflow_sub-place
overflow_sub-place c = left_fits c.self.inside.text c.as_str-rest.result.now c.next.new.self.rest.now c.self.inside.place c.in-Some.first c.len_utf8-width.result c.len_utf8-width.ensures.value (c.as_str-rest.ensures ∙ sym c.self.view_is) c.as_str-rest.utf8 (sym c.chars.ensures.rest ∙ c.in-Some.ensures.steps.0) c.len.result c.len.ensures c.self.invariant.0

pub invariant_of-result : goal.invariant_of-result
invariant_of-result c = cut_there c.self.inside.text c.as_str-rest.result.now c.next.new.self.rest.now c.self.inside.place c.in-Some.first c.len_utf8-width.result c.len_utf8-width.ensures.value (c.as_str-rest.ensures ∙ sym c.self.view_is) c.as_str-rest.utf8 (sym c.chars.ensures.rest ∙ c.in-Some.ensures.steps.0) c.len.result c.len.ensures c.self.invariant.0

pub returns : goal.returns
returns c =
    ap (λ (bs : List ℕ). Some (bs, drop (c.len.result - (length c.as_str-rest.result.now - c.len_utf8-width.result)) c.self.inside.text)) (c.in_ok-character.ensures ∙ c.range.ensures.value)
    ∙ (cut_is c.self.inside.text c.as_str-rest.result.now c.next.new.self.rest.now c.self.inside.place c.in-Some.first c.len_utf8-width.result c.len_utf8-width.ensures.value (c.as_str-rest.ensures ∙ sym c.self.view_is) c.as_str-rest.utf8 (sym c.chars.ensures.rest ∙ c.in-Some.ensures.steps.0) c.len.result c.len.ensures c.self.invariant.0
    ∙ ap first_cut c.as_str-rest.ensures)
