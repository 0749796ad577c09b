use Rattle.std.proofs.Common.{◌<◌, length, ◌∙◌, arith}
use Rattle.py_meaning.specs.Texts.{split_at}
use Rattle.py_meaning.specs.Methods.{as_texts}
use Rattle.py_methods.proofs.Pieces.{turn, last_turn, still_text, one_more, last_one, more_than}
use Rattle.py_methods.proofs.split.pieces.Goals as goal

pub split_once-requires-text-self : goal.split_once-requires-text-self
split_once-requires-text-self c κs = c.loop-piece.invariant.utf8

pub loop-piece-preserved : goal.loop-piece-preserved
loop-piece-preserved c =
    let p = c.in-Some.ensures.cases in
    let made = c.in_ok-from_str.ensures in
    let pushed = c.in_ok-push.ensures.ok in
    record {
      list = rw (pushed, made) (turn c.loop-piece.all c.args.separator.now c.loop-piece.rest.now c.in-Some.piece.now c.in-Some.more.now c.requires p ∙ c.loop-piece.invariant.list);
      utf8 = still_text c.args.separator.now c.loop-piece.rest.now c.in-Some.piece.now c.in-Some.more.now c.loop-piece.invariant.utf8 p;
    }

pub returns-then-len-most : goal.returns-then-len-most
returns-then-len-most c =
    let separator = c.args.separator.now in
    let rest = as_texts (split_at separator c.loop-piece.rest.now) in
    let e = one_more separator c.loop-piece.rest.now c.in-Some.piece.now c.in-Some.more.now c.requires c.in-Some.ensures.cases in
    let some : 0 < length rest = omega arith in
    more_than c.args.most c.loop-piece.all rest (as_texts (split_at separator c.args.text.now)) c.loop-piece.invariant.list (omega arith) some

pub returns-then-len-most-2 : goal.returns-then-len-most-2
returns-then-len-most-2 c =
    let separator = c.args.separator.now in
    let rest = as_texts (split_at separator c.loop-piece.rest.now) in
    let e = last_one separator c.loop-piece.rest.now c.in_default.ensures.cases in
    let some : 0 < length rest = omega arith in
    more_than c.args.most c.loop-piece.all rest (as_texts (split_at separator c.args.text.now)) c.loop-piece.invariant.list (omega arith) some

pub returns : goal.returns
returns c =
    let made = c.in_ok-from_str-2.ensures in
    let pushed = c.in_ok-push-2.ensures.ok in
    let none = c.in_default.ensures.cases in
    rw (pushed, made) (last_turn c.loop-piece.all c.args.separator.now c.loop-piece.rest.now none ∙ c.loop-piece.invariant.list)
