use Rattle.std.proofs.Common.{◌≤◌, length, ◌∙◌, arith}
use Rattle.std.proofs.lemmas.Str.{IsCharBoundary-from_ascii}
use Rattle.plain_data.proofs.Characters.{within_ascii, ascii_slice}
use Rattle.plain_data.proofs.shared_text.slice_ascii.Goals as goal

pub range-requires-clause-start_boundary : goal.range-requires-clause-start_boundary
range-requires-clause-start_boundary c _ =
    let w : c.args.to ≤ length c.args.text.now = within_ascii c.args.text.now c.args.from c.args.to c.requires.order c.requires.within c.requires.ascii in
    IsCharBoundary-from_ascii c.args.text.now c.args.from c.requires.ascii (omega (arith, c.requires.order))

pub range-requires-clause-end_boundary : goal.range-requires-clause-end_boundary
range-requires-clause-end_boundary c = IsCharBoundary-from_ascii c.args.text.now c.args.to c.requires.ascii
    (within_ascii c.args.text.now c.args.from c.args.to c.requires.order c.requires.within c.requires.ascii)

pub returns : goal.returns
returns c = c.range.ensures.value ∙ ascii_slice c.args.text.now c.args.from c.args.to c.requires.order c.requires.within c.requires.ascii
