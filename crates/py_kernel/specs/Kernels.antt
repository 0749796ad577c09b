-- What contracts see of a kernel.
use Rattle.std.specs.Prelude.{ℕ}
use Rattle.py_heap.specs.declared.state.State.{State}

-- the state of a session, and the host on which its handles are open
pub record KernelView : Type 0 where
  pub state : State
  pub host : ℕ
