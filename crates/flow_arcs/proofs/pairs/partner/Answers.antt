use Rattle.std.proofs.Common.{sym, arith}
use Rattle.flow_arcs.proofs.Partners.{partner_even, partner_odd, partner_back}
use Rattle.flow_arcs.proofs.pairs.partner.Goals as goal

pub returns-then-arc-eq0-clause-value : goal.returns-then-arc-eq0-clause-value
returns-then-arc-eq0-clause-value c = sym (partner_even c.args.arc c.if-arc-eq0.true)

pub returns-then-arc-eq0-clause-back : goal.returns-then-arc-eq0-clause-back
returns-then-arc-eq0-clause-back c = partner_back c.args.arc _ (sym (partner_even c.args.arc c.if-arc-eq0.true))

pub returns-else-arc-eq0-clause-value : goal.returns-else-arc-eq0-clause-value
returns-else-arc-eq0-clause-value c = let e = partner_odd c.args.arc c.if-arc-eq0.false in omega arith

pub returns-else-arc-eq0-clause-back : goal.returns-else-arc-eq0-clause-back
returns-else-arc-eq0-clause-back c = partner_back c.args.arc _ (let e = partner_odd c.args.arc c.if-arc-eq0.false in omega arith)
