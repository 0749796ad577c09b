use Rattle.std.proofs.Common.{arith}
use Rattle.py_methods.proofs.Pieces.{one_more, last_one, shorter, still_text}
use Rattle.py_methods.proofs.split.count_of.Goals as goal

pub split_once-requires-text-self : goal.split_once-requires-text-self
split_once-requires-text-self c κs = c.loop-more.invariant.utf8

pub returns : goal.returns
returns c = let e = last_one c.args.separator.now c.loop-more.rest.now c.in_default.ensures.cases in omega arith

pub loop-more-preserved : goal.loop-more-preserved
loop-more-preserved c =
    let p = c.in-Some.ensures.cases in
    let e = one_more c.args.separator.now c.loop-more.rest.now c.in-Some.field-0-0.now c.in-Some.more.now c.requires p in
    let f = shorter c.args.separator.now c.loop-more.rest.now c.in-Some.field-0-0.now c.in-Some.more.now c.requires p in
    record {
      count = omega arith;
      bound = omega arith;
      utf8 = still_text c.args.separator.now c.loop-more.rest.now c.in-Some.field-0-0.now c.in-Some.more.now c.loop-more.invariant.utf8 p;
    }
