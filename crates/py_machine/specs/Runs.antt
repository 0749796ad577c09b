-- What a run gives and leaves, and the least runs.
use Rattle.std.specs.Prelude.{◌≡◌, ℕ, ◌+◌, Bool, true, false, cond, nat_lt, nat_le, List, [], ◌∷◌, ◌++◌, length, slice_get, is_some, Option, Some, None, Result, Ok, Err}
use Rattle.std.specs.FinMap as finite
use Rattle.nb_outside.specs.declared.feed.Drawn.{Drawn}
use Rattle.nb_outside.specs.declared.feed.Drawn.TheVariants as answer
use Rattle.nb_outside.specs.Feeds.{Seen, Fed}
use Rattle.py_value.specs.declared.value.Builtin.{Builtin}
use Rattle.py_value.specs.declared.value.Value.{Value}
use Rattle.py_value.specs.declared.value.Value.TheVariants as value
use Rattle.py_heap.specs.declared.heap.Object.{Object}
use Rattle.py_heap.specs.declared.state.State.{State}
use Rattle.py_heap.specs.States.{with_name, without_name, with_object, with_object_at}
use Rattle.py_machine.specs.declared.error.PyError.{PyError}
use Rattle.py_machine.specs.declared.error.Fault.{Fault}
use Rattle.py_machine.specs.declared.error.Fault.TheVariants.{OutOfMemory, DrawFailed, Raised}
use Rattle.py_machine.specs.declared.frame.Change.{Change}
use Rattle.py_machine.specs.declared.frame.Frame.{Frame}
use Rattle.py_machine.specs.declared.frame.FrameSlot.{FrameSlot}
use Rattle.py_machine.specs.declared.frame.FrameSlot.TheVariants.{Empty, Held}
use Rattle.py_machine.specs.declared.machine.Machine.{Machine}
use Rattle.py_machine.specs.Marked.{Event, noted, no_marks}
use Rattle.py_machine.specs.Marked as event
use Rattle.py_machine.specs.Changes.{changed_in}
use Rattle.py_machine.specs.Errors.{name_error, unbound_error, step_limit_error, memory_error}
use Rattle.py_machine.specs.Builtins.{builtin_named}

abbrev pub Name : Type 0
Name = List ℕ

-- why a run ends early: an error, a draw that failed, or a draw when none is left
pub data Stop : Type 0 where
  raised : PyError → Stop
  draw_failed : Stop
  asks : Stop

-- what a run gives, and the machine after it: an error leaves what was done before
abbrev pub Outcome : Type 0 → Type 0
Outcome A = Result A Stop × Machine

-- a run takes all the draws of its cell; those that it drew already are in the machine
abbrev pub Computation : Type 0 → Type 0
Computation A = List Drawn → Machine → Outcome A

-- goes on if there is a value
abbrev pub after : {A B : Type 0} → Result A Stop → Machine → (A → Machine → Outcome B) → Outcome B
after (Ok a) m next = next a m
after (Err e) m next = (Err e, m)

abbrev pub give : {A : Type 0} → A → Machine → Outcome A
give a m = (Ok a, m)

abbrev pub raise : {A : Type 0} → PyError → Machine → Outcome A
raise e m = (Err (raised e), m)

-- ---- steps and the meter

-- one step more, up to 1,000,000
unfoldable pub step : Machine → Outcome (Unit {0})
step m = cond (nat_lt m.steps 1000000) (Ok tt, record m { steps = m.steps + 1 }) (raise step_limit_error m)

-- this many units more on the meter, up to 16,777,216
unfoldable pub charge : ℕ → Machine → Outcome (Unit {0})
charge n m = cond (nat_le (m.state.meter + n) 16777216) (Ok tt, record m { state = record m.state { meter = m.state.meter + n } }) (raise memory_error m)

-- ---- names: a local's is in the frame, and any other is the session's; what is done to a session's is noted

abbrev pub marked : Event → Machine → Machine
marked e m = record m { marks = noted e m.marks }

-- what the frame has for a name, if that is a local
abbrev pub slot : Option Frame → Name → Option FrameSlot
slot None name = None
slot (Some frame) name = finite.get frame.slots name

abbrev pub with_slot : Name → FrameSlot → Option Frame → Option Frame
with_slot name new None = None
with_slot name new (Some frame) = Some (record { slots = finite.insert frame.slots name new })

-- a built-in function, if the name is one's
abbrev pub built_in : Name → Option Builtin → Machine → Outcome Value
built_in name (Some builtin) = give (value.Builtin builtin)
built_in name None = raise (name_error name)

abbrev pub found : Name → Option Value → Machine → Outcome Value
found name (Some held) = give held
found name None = built_in name (builtin_named name)

abbrev pub looked : Name → Option FrameSlot → Machine → Outcome Value
looked name (Some (Held held)) m = give held m
looked name (Some Empty) m = raise (unbound_error name) m
looked name None m = found name (finite.get m.state.globals name) (marked (event.Look name) m)

-- the value of a name: a local's, or else a global's, or else a built-in function; a look at no local is noted, found or not
unfoldable pub look : Name → Machine → Outcome Value
look name m = looked name (slot m.frame name) m

abbrev pub met : Name → Option Value → Machine → Outcome (Unit {0})
met name (Some held) = give tt
met name None = raise (name_error name)

abbrev pub sought : Name → Option FrameSlot → Machine → Outcome (Unit {0})
sought name (Some (Held held)) m = give tt m
sought name (Some Empty) m = raise (unbound_error name) m
sought name None m = met name (finite.get m.state.globals name) (marked (event.Look name) m)

-- a local or a global has a value; a look at no local is noted, found or not
unfoldable pub seek : Name → Machine → Outcome (Unit {0})
seek name m = sought name (slot m.frame name) m

abbrev pub bound : Name → Value → Option FrameSlot → Machine → Machine
bound name held (Some old) m = record m { frame = with_slot name (Held held) m.frame }
bound name held None m = marked (event.Bind name) (record m { state = with_name m.state name held })

-- this local, or else this global, has this value
unfoldable pub bind : Name → Value → Machine → Outcome (Unit {0})
bind name held m = (Ok tt, bound name held (slot m.frame name) m)

abbrev pub unbound : Name → Option FrameSlot → Machine → Machine
unbound name (Some old) m = record m { frame = with_slot name Empty m.frame }
unbound name None m = marked (event.Unbind name) (record m { state = without_name m.state name })

-- this local, or else this global, has no value
unfoldable pub unbind : Name → Machine → Outcome (Unit {0})
unbind name m = (Ok tt, unbound name (slot m.frame name) m)

-- whether a name is a local of the call that runs
unfoldable pub is_local : Name → Machine → Outcome Bool
is_local name m = (Ok (is_some (slot m.frame name)), m)

-- ---- frames

-- a call has this frame; the frame outside is given back
unfoldable pub enter : Frame → Machine → Outcome (Option Frame)
enter new m = (Ok m.frame, record m { frame = Some new })

-- a call is over, and the frame outside counts again
unfoldable pub leave : Option Frame → Machine → Outcome (Unit {0})
leave outer m = (Ok tt, record m { frame = outer })

-- ---- objects

-- a new object takes the least unused address
unfoldable pub add : Object → Machine → Outcome ℕ
add new m = (Ok (length m.state.heap), record m { state = with_object m.state new })

-- the object at an address, if there is one
unfoldable pub object_at : ℕ → Machine → Outcome (Option Object)
object_at at m = (Ok (slice_get m.state.heap at), m)

abbrev pub replaced : ℕ → Option Object → Machine → Machine
replaced at None m = m
replaced at (Some new) m = marked (event.Change at) (record m { state = with_object_at m.state at new })

-- the object at an address is changed; if it isn't of the change's kind, or none is there, nothing changes
unfoldable pub change : ℕ → Change → Machine → Outcome (Unit {0})
change at c m = (Ok tt, replaced at (changed_in c (slice_get m.state.heap at)) m)

-- ---- output

-- these bytes after those printed so far
unfoldable pub write : List ℕ → Machine → Outcome (Unit {0})
write bytes m = (Ok tt, record m { printed = m.printed ++ bytes })

-- ---- draws

abbrev pub drawn : Drawn → Machine → Machine
drawn d m = record m { drawn = m.drawn ++ d ∷ []; marks = noted event.Drew m.marks }

-- the next draw's word, or an end if it failed
abbrev pub taken : Option Drawn → Machine → Outcome ℕ
taken None m = (Err asks, m)
taken (Some (answer.Word word)) m = (Ok word, drawn (answer.Word word) m)
taken (Some answer.Failed) m = (Err draw_failed, drawn answer.Failed m)

-- the first of the draws after those that were taken
unfoldable pub draw : Computation ℕ
draw draws m = taken (slice_get draws (length m.drawn)) m

-- ---- the start

-- a cell begins with the state of its session, and with no step, nothing printed or drawn and no mark, in no call
abbrev pub start : State → Machine
start s = record { state = s; steps = 0; printed = []; drawn = []; marks = no_marks; frame = None }

-- ---- what a function ensures: the outcome, unless memory runs out

-- whether a result tells how a run ended
abbrev pub tells : {A : Type 0} → Result A Fault → Bool
tells (Ok a) = true
tells (Err OutOfMemory) = false
tells (Err DrawFailed) = true
tells (Err (Raised e)) = true

abbrev pub told : {A : Type 0} → Result A Fault → Result A Stop
told (Ok a) = Ok a
told (Err OutOfMemory) = Err asks
told (Err DrawFailed) = Err draw_failed
told (Err (Raised e)) = Err (raised e)

-- a least run that doesn't draw
abbrev pub Is : {A : Type 0} → Outcome A → Result A Fault → Machine → Type 0
Is outcome result new = tells result ≡ true → outcome ≡ (told result, new)

-- draws that begin with these
pub record Begins (drawn draws : List Drawn) : Type 0 where
  pub rest : List Drawn
  pub is : draws ≡ drawn ++ rest

-- a run, under all draws that begin with those that were recorded
abbrev pub Runs : {A : Type 0} → Computation A → Machine → Result A Fault → Machine → Type 0
Runs run old result new = (draws : List Drawn) → Begins new.drawn draws → tells result ≡ true → run draws old ≡ (told result, new)

-- a run that doesn't draw
abbrev pub Still : {A : Type 0} → Computation A → Machine → Result A Fault → Machine → Type 0
Still run old result new = (draws : List Drawn) → tells result ≡ true → run draws old ≡ (told result, new)

-- what was recorded stays recorded
abbrev pub Grows : Machine → Machine → Type 0
Grows old new = (draws : List Drawn) → Begins new.drawn draws → Begins old.drawn draws

-- what is recorded beside a feed stays just what was taken from it
abbrev pub Feeding : List Drawn → Seen → List Drawn → Seen → Type 0
Feeding old seen new now = (start : Seen) → Fed start old seen → Fed start new now

-- a loop's invariant: what is left to run from a later machine gives what all gives from the first
abbrev pub LeadsTo : {A : Type 0} → Computation A → Machine → Computation A → Machine → Type 0
LeadsTo all old left new = (draws : List Drawn) → Begins new.drawn draws → all draws old ≡ left draws new
