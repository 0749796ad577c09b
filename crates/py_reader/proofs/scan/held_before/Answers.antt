use Rattle.py_reader.proofs.Scanned.{no_refusal, whole_scan}
use Rattle.py_reader.proofs.scan.held_before.Goals as goal

pub unreachable-requires : goal.unreachable-requires
unreachable-requires c = no_refusal c.args.alone c.args.code.now c.args.tokens.now _ c.args.place _ c.in_ok-reader.ensures c.in-Refused.is c.requires.stops

pub returns : goal.returns
returns c = whole_scan c.args.alone c.args.code.now c.args.tokens.now c.args.place _ _ c.in_ok-reader.ensures c.in-Whole.is
