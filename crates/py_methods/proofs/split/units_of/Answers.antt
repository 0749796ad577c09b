use Rattle.std.proofs.Common.{◌≡◌, ◌+◌, arith}
use Rattle.py_meaning.specs.Operators.{sequence_units}
use Rattle.py_meaning.specs.Texts.{split_at}
use Rattle.py_meaning.specs.Methods.{as_texts}
use Rattle.py_methods.proofs.Pieces.{one_unit_more, last_units, still_text}
use Rattle.py_methods.proofs.split.units_of.Goals as goal

pub split_once-requires-text-self : goal.split_once-requires-text-self
split_once-requires-text-self c κs = c.loop-piece.invariant.utf8

pub loop-piece-preserved : goal.loop-piece-preserved
loop-piece-preserved c =
    let p = c.in-Some.ensures.cases in
    let e = one_unit_more c.args.separator.now c.loop-piece.rest.now c.in-Some.piece.now c.in-Some.more.now c.requires p in
    record {
      units = omega arith;
      bound = omega arith;
      utf8 = still_text c.args.separator.now c.loop-piece.rest.now c.in-Some.piece.now c.in-Some.more.now c.loop-piece.invariant.utf8 p;
    }

pub returns : goal.returns
returns c =
    let e = last_units c.args.separator.now c.loop-piece.rest.now c.in_default.ensures.cases in
    let same : sequence_units (as_texts (split_at c.args.separator.now c.args.text.now)) ≡ (c.loop-piece.units + 1) + c.bytes-last.result = omega arith in
    rw same c.within.ensures
