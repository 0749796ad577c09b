use Rattle.std.proofs.Common.{All, sym, subst, ◌∙◌}
use Rattle.py_machine.specs.Slots.{HasSlot}
use Rattle.py_machine.specs.declared.frame.Frame.{Frame}
use Rattle.py_builtins.proofs.Calls.{slots_kept, held_step}
use Rattle.py_builtins.proofs.frames.with_held.Goals as goal

pub loop-name-preserved : goal.loop-name-preserved
loop-name-preserved c = record {
  held = c.loop-name.invariant.held
      ∙ held_step c.loop-name.frame c.hold.new.frame c.args.names.now c.loop-name.rest.now c.loop-name.name-index c.name-item.result c.value-item.result c.in_ok-copy-in-len1-up.field-0
      c.loop-name-test.true c.name-item.is c.in-len1-up.len_at_least c.value-item.is c.in_ok-copy-in-len1-up.ensures c.hold.ensures;
  slots = subst (λ (f : Frame). All (HasSlot f.slots) c.args.names.now) (sym c.hold.ensures) (slots_kept _ _ _ _ c.loop-name.invariant.slots);
}
