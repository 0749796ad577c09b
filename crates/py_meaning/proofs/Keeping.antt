-- A relation that each least change of a machine keeps, and that composes, holds over every act, so over each cell.
use Rattle.std.proofs.Common.{◌≡◌, ℕ, List, ◌++◌, length, Option, Some, None, Result, Ok, Err, refl}
use Rattle.std.specs.Prelude.{slice_get}
use Rattle.std.specs.FinMap as finite
use Rattle.nb_outside.specs.declared.feed.Drawn.{Drawn}
use Rattle.nb_outside.specs.declared.feed.Drawn.TheVariants as answer
use Rattle.py_value.specs.declared.value.Builtin.{Builtin}
use Rattle.py_value.specs.declared.value.Value.{Value}
use Rattle.py_heap.specs.declared.heap.Object.{Object}
use Rattle.py_heap.specs.States.{with_name, without_name, with_object, with_object_at}
use Rattle.py_machine.specs.declared.frame.Change.{Change}
use Rattle.py_machine.specs.declared.frame.Frame.{Frame}
use Rattle.py_machine.specs.declared.frame.FrameSlot.{FrameSlot}
use Rattle.py_machine.specs.declared.frame.FrameSlot.TheVariants.{Empty, Held}
use Rattle.py_machine.specs.declared.machine.Machine.{Machine}
use Rattle.py_machine.specs.Builtins.{builtin_named}
use Rattle.py_machine.specs.Changes.{changed_in}
use Rattle.py_machine.specs.Marked as event
use Rattle.py_machine.specs.Runs.{Name, Outcome, Stop, after, marked, slot, with_slot, built_in, found, looked, met, sought, bound, unbound, replaced, drawn, taken}
use Rattle.py_machine.specs.Runs as runs
use Rattle.py_meaning.specs.Acts.{Act, run, pure, fail, chain, step, charge, look, seek, bind, unbind, is_local, enter, leave, add, object_at, change, write, draw}
use Rattle.py_meaning.specs.Kept.{Keeps, Leaves}

-- what the relation has to hold over
pub record IsKept (R : Machine → Machine → Type 0) : Type 0 where
  pub same : (m : Machine) → R m m
  pub trans : (a b c : Machine) → R a b → R b c → R a c
  pub steps : Leaves R runs.step
  pub charges : (n : ℕ) → Leaves R (runs.charge n)
  pub looks : (name : Name) (m : Machine) → R m (marked (event.Look name) m)
  pub binds : (name : Name) (held : Value) (m : Machine) → R m (marked (event.Bind name) (record m { state = with_name m.state name held }))
  pub unbinds : (name : Name) (m : Machine) → R m (marked (event.Unbind name) (record m { state = without_name m.state name }))
  pub frames : (frame : Option Frame) (m : Machine) → R m (record m { frame = frame })
  pub adds : (new : Object) (m : Machine) → R m (record m { state = with_object m.state new })
  pub changes : (at : ℕ) (c : Change) (new : Object) (m : Machine) → changed_in c (slice_get m.state.heap at) ≡ Some new
      → R m (marked (event.Change at) (record m { state = with_object_at m.state at new }))
  pub writes : (bytes : List ℕ) (m : Machine) → R m (record m { printed = m.printed ++ bytes })
  pub draws : (d : Drawn) (m : Machine) → R m (drawn d m)

module _ (R : Machine → Machine → Type 0) (k : IsKept R) where
  after_keeps : {A B : Type 0} (r : Result A Stop) (m n : Machine) (f : A → Machine → Outcome B) → R m n → ((a : A) → Leaves R (f a)) → R m (after r n f).1
  after_keeps (Ok a) m n f h g = k.trans m n _ h (g a n)
  after_keeps (Err e) m n f h g = h

  built_in_keeps : (name : Name) (b : Option Builtin) (m n : Machine) → R m n → R m (built_in name b n).1
  built_in_keeps name (Some b) m n h = h
  built_in_keeps name None m n h = h

  found_keeps : (name : Name) (o : Option Value) (m n : Machine) → R m n → R m (found name o n).1
  found_keeps name (Some held) m n h = h
  found_keeps name None m n h = built_in_keeps name (builtin_named name) m n h

  looked_keeps : (name : Name) (o : Option FrameSlot) (m : Machine) → R m (looked name o m).1
  looked_keeps name (Some (Held held)) m = k.same m
  looked_keeps name (Some Empty) m = k.same m
  looked_keeps name None m = found_keeps name (finite.get m.state.globals name) m _ (k.looks name m)

  look_keeps : (name : Name) → Leaves R (runs.look name)
  unfolding runs.look
  look_keeps name m = looked_keeps name (slot m.frame name) m

  met_keeps : (name : Name) (o : Option Value) (m n : Machine) → R m n → R m (met name o n).1
  met_keeps name (Some held) m n h = h
  met_keeps name None m n h = h

  sought_keeps : (name : Name) (o : Option FrameSlot) (m : Machine) → R m (sought name o m).1
  sought_keeps name (Some (Held held)) m = k.same m
  sought_keeps name (Some Empty) m = k.same m
  sought_keeps name None m = met_keeps name (finite.get m.state.globals name) m _ (k.looks name m)

  seek_keeps : (name : Name) → Leaves R (runs.seek name)
  unfolding runs.seek
  seek_keeps name m = sought_keeps name (slot m.frame name) m

  bound_keeps : (name : Name) (held : Value) (o : Option FrameSlot) (m : Machine) → R m (bound name held o m)
  bound_keeps name held (Some old) m = k.frames (with_slot name (Held held) m.frame) m
  bound_keeps name held None m = k.binds name held m

  bind_keeps : (name : Name) (held : Value) → Leaves R (runs.bind name held)
  unfolding runs.bind
  bind_keeps name held m = bound_keeps name held (slot m.frame name) m

  unbound_keeps : (name : Name) (o : Option FrameSlot) (m : Machine) → R m (unbound name o m)
  unbound_keeps name (Some old) m = k.frames (with_slot name Empty m.frame) m
  unbound_keeps name None m = k.unbinds name m

  unbind_keeps : (name : Name) → Leaves R (runs.unbind name)
  unfolding runs.unbind
  unbind_keeps name m = unbound_keeps name (slot m.frame name) m

  is_local_keeps : (name : Name) → Leaves R (runs.is_local name)
  unfolding runs.is_local
  is_local_keeps name = k.same

  enter_keeps : (new : Frame) → Leaves R (runs.enter new)
  unfolding runs.enter
  enter_keeps new m = k.frames (Some new) m

  leave_keeps : (outer : Option Frame) → Leaves R (runs.leave outer)
  unfolding runs.leave
  leave_keeps outer m = k.frames outer m

  add_keeps : (new : Object) → Leaves R (runs.add new)
  unfolding runs.add
  add_keeps new m = k.adds new m

  object_at_keeps : (at : ℕ) → Leaves R (runs.object_at at)
  unfolding runs.object_at
  object_at_keeps at = k.same

  replaced_keeps : (at : ℕ) (c : Change) (new : Option Object) (m : Machine) → changed_in c (slice_get m.state.heap at) ≡ new → R m (replaced at new m)
  replaced_keeps at c None m e = k.same m
  replaced_keeps at c (Some new) m e = k.changes at c new m e

  change_keeps : (at : ℕ) (c : Change) → Leaves R (runs.change at c)
  unfolding runs.change
  change_keeps at c m = replaced_keeps at c (changed_in c (slice_get m.state.heap at)) m refl

  write_keeps : (bytes : List ℕ) → Leaves R (runs.write bytes)
  unfolding runs.write
  write_keeps bytes m = k.writes bytes m

  taken_keeps : (o : Option Drawn) (m : Machine) → R m (taken o m).1
  taken_keeps None m = k.same m
  taken_keeps (Some (answer.Word word)) m = k.draws (answer.Word word) m
  taken_keeps (Some answer.Failed) m = k.draws answer.Failed m

  draw_keeps : Keeps R runs.draw
  unfolding runs.draw
  draw_keeps draws m = taken_keeps (slice_get draws (length m.drawn)) m

  pub run_keeps : {A : Type 0} (p : Act A) → Keeps R (run p)
  run_keeps (pure a) draws = k.same
  run_keeps (fail e) draws = k.same
  run_keeps (chain p f) draws = λ m. after_keeps (run p draws m).0 m (run p draws m).1 (λ a. run (f a) draws) (run_keeps p draws m) (λ a. run_keeps (f a) draws)
  run_keeps step draws = k.steps
  run_keeps (charge n) draws = k.charges n
  run_keeps (look name) draws = look_keeps name
  run_keeps (seek name) draws = seek_keeps name
  run_keeps (bind name held) draws = bind_keeps name held
  run_keeps (unbind name) draws = unbind_keeps name
  run_keeps (is_local name) draws = is_local_keeps name
  run_keeps (enter new) draws = enter_keeps new
  run_keeps (leave outer) draws = leave_keeps outer
  run_keeps (add new) draws = add_keeps new
  run_keeps (object_at at) draws = object_at_keeps at
  run_keeps (change at c) draws = change_keeps at c
  run_keeps (write bytes) draws = write_keeps bytes
  run_keeps draw draws = draw_keeps draws
