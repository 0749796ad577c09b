use Rattle.std.proofs.Common.{OnOk, subst}
use Rattle.py_kernel.specs.Kernels.{KernelView}
use Rattle.py_kernel.proofs.Staying.{StaysValid, stays_valid}
use Rattle.py_kernel.proofs.kernel.Kernel.run_cell.Goals as goal

pub returns-clause-valid : goal.returns-clause-valid
returns-clause-valid g c =
    subst (λ (k : KernelView). OnOk c.run_cell.result (StaysValid c.args.body.now k.state c.run_cell.new.state)) c.self.view_is
    (stays_valid c.args.body.now c.self.inside.state c.run_cell.new.state c.run_cell.result c.run_cell.ensures.state)
