-- Machines as they are while a cell runs from a valid state, and acts that keep them so.
use Rattle.std.specs.Prelude.{ℕ, ◌<◌, Bool, IsTrue, List, [], ◌∷◌, length, Option, Some, None, Ok, Err}
use Rattle.std.specs.FinMap as finite
use Rattle.nb_outside.specs.declared.feed.Drawn.{Drawn}
use Rattle.py_tree.specs.declared.statements.Def.{Def}
use Rattle.py_value.specs.declared.value.Value.{Value}
use Rattle.py_heap.specs.declared.heap.Object.{Object}
use Rattle.py_heap.specs.References.{value_refs, AreLive}
use Rattle.py_heap.specs.Valid.{IsValidBy}
use Rattle.py_machine.specs.declared.frame.Frame.{Frame}
use Rattle.py_machine.specs.declared.frame.FrameSlot.{FrameSlot}
use Rattle.py_machine.specs.declared.frame.FrameSlot.TheVariants.{Empty, Held}
use Rattle.py_machine.specs.declared.machine.Machine.{Machine}
use Rattle.py_machine.specs.declared.method.BoundMethod.{BoundMethod}
use Rattle.py_machine.specs.declared.method.BoundMethod.TheVariants as bound
use Rattle.py_machine.specs.Marked.{IsIn}
use Rattle.py_machine.specs.Runs.{Outcome}
use Rattle.py_meaning.specs.Acts.{Act, run}
use Rattle.py_laws.specs.Allowed.{AreAllowedBy}

-- the value of a local, if it has one, names an object if it is a reference
abbrev pub IsLiveSlot : List Object → Option FrameSlot → Type 0
IsLiveSlot heap (Some (Held held)) = AreLive heap (value_refs held)
IsLiveSlot heap (Some Empty) = Unit {0}
IsLiveSlot heap None = Unit {0}

abbrev pub IsLiveFrame : List Object → Option Frame → Type 0
IsLiveFrame heap None = Unit {0}
IsLiveFrame heap (Some frame) = (name : List ℕ) → IsLiveSlot heap (finite.get frame.slots name)

-- its state is valid, its locals refer to objects, and what is marked as changed is an object
pub record IsSound (test : Def → Bool) (m : Machine) : Type 0 where
  pub state : IsValidBy test m.state
  pub frame : IsLiveFrame m.state.heap m.frame
  pub changed : (at : ℕ) → IsIn m.marks.changed at → at < length m.state.heap

-- an act that has these addresses leaves a sound machine, if the machine was sound and the addresses are of objects
abbrev pub KeepsSound : (Def → Bool) → List ℕ → {A : Type 0} → Act A → Type 0
KeepsSound test refs p = (draws : List Drawn) (m : Machine) → AreLive m.state.heap refs → IsSound test m → IsSound test (run p draws m).1

abbrev pub IsLiveOutcome : Outcome Value → Type 0
IsLiveOutcome (Ok held, m) = AreLive m.state.heap (value_refs held)
IsLiveOutcome (Err e, m) = Unit {0}

-- and the value that it gives, if that is a reference, names an object
pub record GivesSound (test : Def → Bool) (refs : List ℕ) (p : Act Value) : Type 0 where
  pub keeps : KeepsSound test refs p
  pub live : (draws : List Drawn) (m : Machine) → AreLive m.state.heap refs → IsSound test m → IsLiveOutcome (run p draws m)

-- the address in a method of a list or a dict
abbrev pub method_refs : BoundMethod → List ℕ
method_refs (bound.List method at) = at ∷ []
method_refs (bound.Dict method at) = at ∷ []
method_refs (bound.Text method text) = []

-- functions that pass the test have bodies that bind only names that a program may bind, and define only such functions
abbrev pub BodiesPass : (Def → Bool) → Type 0
BodiesPass test = (def : Def) → IsTrue (test def) → AreAllowedBy test def.body
