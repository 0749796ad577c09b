use Rattle.std.proofs.Common.{sym, ◌∙◌}
use Rattle.py_kernel.proofs.Extending.{to_list, to_other}
use Rattle.py_kernel.proofs.statements.refs_added.Goals as goal

pub returns-then-is_list-clause-runs : goal.returns-then-is_list-clause-runs
returns-then-is_list-clause-runs c = λ draws told.
    let found = to_list c.args.a c.args.b draws c.args.machine.now (sym c.is_list.ensures ∙ c.if-is_list.true) in
    found.1 ∙ c.list_added.ensures.runs found.0 draws told

pub returns-else-is_list-clause-runs : goal.returns-else-is_list-clause-runs
returns-else-is_list-clause-runs c = λ draws told.
    to_other c.args.a c.args.b draws c.args.machine.now (sym c.is_list.ensures ∙ c.if-is_list.false) ∙ c.binary.ensures.runs draws told
