-- The least acts of a cell, and acts after one another; what each does to a machine, and its trace.
use Rattle.std.specs.Prelude.{ℕ, Bool, true, false, List, [], ◌∷◌, ◌++◌, length, slice_get, Option, Some, None, Result, Ok, Err}
use Rattle.nb_outside.specs.declared.feed.Drawn.{Drawn}
use Rattle.py_value.specs.declared.value.Value.{Value}
use Rattle.py_value.specs.declared.value.Value.TheVariants as value
use Rattle.py_heap.specs.declared.heap.Object.{Object}
use Rattle.py_machine.specs.declared.error.PyError.{PyError}
use Rattle.py_machine.specs.declared.frame.Change.{Change}
use Rattle.py_machine.specs.declared.frame.Frame.{Frame}
use Rattle.py_machine.specs.declared.frame.FrameSlot.{FrameSlot}
use Rattle.py_machine.specs.declared.kind.ValueKind.{ValueKind}
use Rattle.py_machine.specs.declared.machine.Machine.{Machine}
use Rattle.py_machine.specs.Marked.{Event}
use Rattle.py_machine.specs.Marked as event
use Rattle.py_machine.specs.Changes.{changed_in, list_in, object_kind, plain_kind}
use Rattle.py_machine.specs.Runs.{Name, Computation, Stop, after, slot}
use Rattle.py_machine.specs.Runs as runs

pub data Act : Type 0 → Type 1 where
  pure : {A : Type 0} → A → Act A
  fail : {A : Type 0} → PyError → Act A
  chain : {A B : Type 0} → Act A → (A → Act B) → Act B
  step : Act (Unit {0})
  charge : ℕ → Act (Unit {0})
  look : Name → Act Value
  seek : Name → Act (Unit {0})
  bind : Name → Value → Act (Unit {0})
  unbind : Name → Act (Unit {0})
  is_local : Name → Act Bool
  enter : Frame → Act (Option Frame)
  leave : Option Frame → Act (Unit {0})
  add : Object → Act ℕ
  object_at : ℕ → Act (Option Object)
  change : ℕ → Change → Act (Unit {0})
  write : List ℕ → Act (Unit {0})
  draw : Act ℕ

infixl 10 ◌>>=◌
abbrev pub ◌>>=◌ : {A B : Type 0} → Act A → (A → Act B) → Act B
p >>= f = chain p f

infixl 10 ◌>>◌
abbrev pub ◌>>◌ : {A B : Type 0} → Act A → Act B → Act B
p >> q = chain p (λ _. q)

-- the first if the test holds, and the second if it doesn't
abbrev pub choose : {A : Type 0} → Bool → Act A → Act A → Act A
choose true p q = p
choose false p q = q

abbrev pub run : {A : Type 0} → Act A → Computation A
run (pure a) = λ draws. runs.give a
run (fail e) = λ draws. runs.raise e
run (chain p f) = λ draws m. after (run p draws m).0 (run p draws m).1 (λ a. run (f a) draws)
run step = λ draws. runs.step
run (charge n) = λ draws. runs.charge n
run (look name) = λ draws. runs.look name
run (seek name) = λ draws. runs.seek name
run (bind name held) = λ draws. runs.bind name held
run (unbind name) = λ draws. runs.unbind name
run (is_local name) = λ draws. runs.is_local name
run (enter new) = λ draws. runs.enter new
run (leave outer) = λ draws. runs.leave outer
run (add new) = λ draws. runs.add new
run (object_at at) = λ draws. runs.object_at at
run (change at c) = λ draws. runs.change at c
run (write bytes) = λ draws. runs.write bytes
run draw = runs.draw

-- ---- programs of acts on objects

-- the items of the list at an address, if there is one
unfoldable pub list_at : ℕ → Act (Option (List Value))
list_at at = object_at at >>= (λ object. pure (list_in object))

-- the kind of a value
unfoldable pub kind_of : Value → Act ValueKind
kind_of (value.Ref at) = object_at at >>= (λ object. pure (object_kind object))
kind_of held = pure (plain_kind held)

-- ---- the trace of an act: its events in order

abbrev pub later : {A : Type 0} → Result A Stop → Machine → (A → Machine → List Event) → List Event
later (Ok a) m next = next a m
later (Err e) m next = []

-- a local's look or change is no event
abbrev pub if_global : Option FrameSlot → Event → List Event
if_global (Some old) e = []
if_global None e = e ∷ []

abbrev pub if_changed : Option Object → Event → List Event
if_changed None e = []
if_changed (Some new) e = e ∷ []

abbrev pub if_drawn : Option Drawn → List Event
if_drawn None = []
if_drawn (Some d) = event.Drew ∷ []

abbrev pub trace : {A : Type 0} → Act A → List Drawn → Machine → List Event
trace (pure a) draws m = []
trace (fail e) draws m = []
trace (chain p f) draws m = trace p draws m ++ later (run p draws m).0 (run p draws m).1 (λ a. trace (f a) draws)
trace step draws m = []
trace (charge n) draws m = []
trace (look name) draws m = if_global (slot m.frame name) (event.Look name)
trace (seek name) draws m = if_global (slot m.frame name) (event.Look name)
trace (bind name held) draws m = if_global (slot m.frame name) (event.Bind name)
trace (unbind name) draws m = if_global (slot m.frame name) (event.Unbind name)
trace (is_local name) draws m = []
trace (enter new) draws m = []
trace (leave outer) draws m = []
trace (add new) draws m = []
trace (object_at at) draws m = []
trace (change at c) draws m = if_changed (changed_in c (slice_get m.state.heap at)) (event.Change at)
trace (write bytes) draws m = []
trace draw draws m = if_drawn (slice_get draws (length m.drawn))
