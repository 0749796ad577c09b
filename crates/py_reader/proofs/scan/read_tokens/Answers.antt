use Rattle.std.proofs.Common.{◌≡◌, ◌∙◌, arith}
use Rattle.py_reader.proofs.Scanned.{none_is_read, one_more, stops, all_read, refused_is}
use Rattle.py_reader.proofs.scan.read_tokens.Goals as goal

pub loop-index-init : goal.loop-index-init
loop-index-init c = (omega arith, none_is_read c.args.alone c.args.code.now c.args.tokens.now _ c.start-reader.ensures)

pub loop-index-preserved : goal.loop-index-preserved
loop-index-preserved c = (omega arith, one_more _ _ _ _ _ _ c.loop-index.invariant.1 c.kind_at-token.ensures ∙ c.in-Ok.ensures)

pub returns-in-Err-Refused : goal.returns-in-Err-Refused
returns-in-Err-Refused c = (omega arith, stops _ _ _ _ _ _ c.loop-index.invariant.1 c.kind_at-token.ensures (refused_is c.in-Err-Refused.field-0 _ c.in-Err-Refused.field-0-is c.in-Err-Refused.ensures))

pub returns : goal.returns
returns c =
    let whole : c.loop-index.index ≡ c.args.count = omega arith in
    all_read c.args.alone c.args.code.now c.args.tokens.now c.loop-index.index c.args.count c.loop-index.reader whole c.loop-index.invariant.1
