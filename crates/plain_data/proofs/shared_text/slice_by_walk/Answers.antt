use Rattle.std.proofs.Common.{◌-◌, drop, ◌∙◌, arith}
use Rattle.std.specs.Str.{chars}
use Rattle.plain_data.proofs.Characters.{shorter, front, front_boundary, walked}
use Rattle.plain_data.proofs.shared_text.slice_by_walk.Goals as goal

pub overflow_sub-rest : goal.overflow_sub-rest
overflow_sub-rest c =
    let cs = drop c.args.from (chars c.args.text.now) in
    let n = c.args.to - c.args.from in
    let is_after = walked cs n _ _ c.past_chars-rest.utf8 c.past_chars-rest.ensures c.past_chars-after.ensures in
    let e = shorter cs n _ _ c.past_chars-rest.ensures is_after in
    omega arith

pub range-requires-clause-end_boundary : goal.range-requires-clause-end_boundary
range-requires-clause-end_boundary c =
    let cs = drop c.args.from (chars c.args.text.now) in
    let n = c.args.to - c.args.from in
    let is_after = walked cs n _ _ c.past_chars-rest.utf8 c.past_chars-rest.ensures c.past_chars-after.ensures in
    front_boundary cs n _ _ c.past_chars-rest.ensures is_after c.past_chars-after.utf8

pub returns : goal.returns
returns c =
    let cs = drop c.args.from (chars c.args.text.now) in
    let n = c.args.to - c.args.from in
    let is_after = walked cs n _ _ c.past_chars-rest.utf8 c.past_chars-rest.ensures c.past_chars-after.ensures in
    c.range.ensures.value ∙ front cs n _ _ c.past_chars-rest.ensures is_after
