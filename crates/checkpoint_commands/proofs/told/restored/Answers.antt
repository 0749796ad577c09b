use Rattle.std.proofs.Common.{refl, ap, ◌∙◌, inl}
use Rattle.py_heap.specs.declared.state.State.{State}
use Rattle.checkpoint_commands.specs.Told.{state_lines}
use Rattle.checkpoint_commands.proofs.told.restored.Goals as goal

pub returns-in_ok-text-in-Ok : goal.returns-in_ok-text-in-Ok
returns-in_ok-text-in-Ok c = inl (c.in-Ok.restored, c.in-Ok.ensures.restored, refl, c.in_ok-text-in-Ok.ensures ∙ ap (λ (s : State). state_lines s) c.state.ensures)
