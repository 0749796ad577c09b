use Rattle.std.proofs.Common.{Ok, refl, sym, subst, arith}
use Rattle.py_reader.specs.Scans.{GivesStatements}
use Rattle.py_reader.proofs.Final.{statements_deep, statements_shallow, statements_none}
use Rattle.py_reader.proofs.read.statements.Goals as goal

pub returns-in_default : goal.returns-in_default
returns-in_default c = subst (λ body. GivesStatements c.args.alone c.args.code.now c.args.tokens.now (Ok body)) (sym c.new.ensures) (statements_none _ _ _ _ _ c.requires refl c.in_default.not-End)

pub returns-then-deep-gt0 : goal.returns-then-deep-gt0
returns-then-deep-gt0 c = statements_deep _ _ _ _ _ _ _ _ (omega arith) c.requires c.in-End.is c.reach-deep.ensures c.if-deep-gt0.true refl c.start_at-at.ensures

pub returns : goal.returns
returns c = statements_shallow _ _ _ _ _ _ (omega arith) c.requires c.in-End.is c.reach-deep.ensures c.if-deep-gt0.false
