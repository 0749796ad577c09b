-- Machines in which all is plain, and acts that keep them so and give what is of a kind.
use Rattle.std.proofs.Common.{◌≡◌, ℕ, ◌+◌, ◌≤◌, Bool, true, false, List, length, Option, Some, None, Result, Ok, Err, arith}
use Rattle.std.specs.Prelude.{slice_get}
use Rattle.std.specs.FinMap as finite
use Rattle.nb_outside.specs.declared.feed.Drawn.{Drawn}
use Rattle.py_value.specs.declared.value.Value.{Value}
use Rattle.py_heap.specs.declared.heap.Object.{Object}
use Rattle.py_machine.specs.declared.error.PyError.{PyError}
use Rattle.py_machine.specs.declared.frame.Frame.{Frame}
use Rattle.py_machine.specs.declared.frame.FrameSlot.{FrameSlot}
use Rattle.py_machine.specs.declared.frame.FrameSlot.TheVariants.{Empty, Held}
use Rattle.py_machine.specs.declared.machine.Machine.{Machine}
use Rattle.py_machine.specs.Runs.{Stop, after}
use Rattle.py_meaning.specs.Acts.{Act, run, pure, fail, chain, choose}
use Rattle.part_bytes.specs.Plain.{IsPlain}
use Rattle.plain_states.specs.Plain.{AreWords, HoldsPlain, items_in}

-- units that are paid and not yet used, and steps that are taken for a look to come
pub record Credit : Type 0 where
  pub units : ℕ
  pub looks : ℕ

abbrev pub none : Credit
none = record { units = 0; looks = 0 }

abbrev pub paid : ℕ → Credit
paid n = record { units = n; looks = 0 }

abbrev pub one_look : Credit
one_look = record { units = 0; looks = 1 }

abbrev pub IsPlainSlot : Option FrameSlot → Type 0
IsPlainSlot (Some (Held held)) = IsPlain held
IsPlainSlot (Some Empty) = Unit {0}
IsPlainSlot None = Unit {0}

pub record IsPlainFrame (f : Frame) : Type 0 where
  pub slots : (x : List ℕ) → IsPlainSlot (finite.get f.slots x)

abbrev pub IfFrame : Option Frame → Type 0
IfFrame None = Unit {0}
IfFrame (Some f) = IsPlainFrame f

-- names, locals and objects hold what is plain; items and objects are paid for, and looks have their steps
pub record IsPlainMachine (k : Credit) (m : Machine) : Type 0 where
  pub names : (name : List ℕ) (held : Value) → finite.get m.state.globals name ≡ Some held → IsPlain held
  pub frame : IfFrame m.frame
  pub objects : (at : ℕ) (held : Object) → slice_get m.state.heap at ≡ Some held → HoldsPlain held × (items_in held + k.units ≤ m.state.meter)
  pub few : length m.state.heap + k.units ≤ m.state.meter
  pub meter : m.state.meter ≤ 16777216
  pub looked : finite.len m.marks.looked + k.looks ≤ m.steps

-- after an error nothing is left of the credit
abbrev pub EndsWith : Credit → {A : Type 0} → (A → Type 0) → Result A Stop → Machine → Type 0
EndsWith j V (Ok a) m = IsPlainMachine j m × V a
EndsWith j V (Err e) m = IsPlainMachine none m

pub record Gives (k j : Credit) {A : Type 0} (V : A → Type 0) (p : Act A) : Type 0 where
  pub ends : (draws : List Drawn) (m : Machine) → AreWords draws → IsPlainMachine k m → EndsWith j V (run p draws m).0 (run p draws m).1

abbrev pub Any : {A : Type 0} → A → Type 0
Any a = Unit {0}

-- with no credit before and after
abbrev pub Plainly : {A : Type 0} → (A → Type 0) → Act A → Type 0
Plainly V p = Gives none none V p

pub without_credit : (k : Credit) (m : Machine) → IsPlainMachine k m → IsPlainMachine none m
without_credit k m h = record {
  names = h.names;
  frame = h.frame;
  objects = λ at held e. let w = h.objects at held e in (w.0, omega (arith, w.1));
  few = omega (arith, h.few);
  meter = h.meter;
  looked = omega (arith, h.looked);
}

after_ends : {A B : Type 0} (j l : Credit) (V : A → Type 0) (W : B → Type 0) (draws : List Drawn) (r : Result A Stop) (m : Machine) (f : A → Act B)
    → AreWords draws → EndsWith j V r m → ((a : A) → V a → Gives j l W (f a)) → EndsWith l W (after r m (λ a. run (f a) draws)).0 (after r m (λ a. run (f a) draws)).1
after_ends j l V W draws (Ok a) m f words h k = (k a h.1).ends draws m words h.0
after_ends j l V W draws (Err e) m f words h k = h

pub next : {k j l : Credit} {A B : Type 0} {V : A → Type 0} {W : B → Type 0} {p : Act A} {f : A → Act B}
    → Gives k j V p → ((a : A) → V a → Gives j l W (f a)) → Gives k l W (chain p f)
next {j = j} {l = l} {V = V} {W = W} {p = p} {f = f} h k = record {
  ends = λ draws m words plain. after_ends j l V W draws (run p draws m).0 (run p draws m).1 f words (h.ends draws m words plain) k;
}

pub give : {k : Credit} {A : Type 0} (V : A → Type 0) (a : A) → V a → Gives k k V (pure a)
give V a v = record { ends = λ draws m words plain. (plain, v) }

pub fails : {k j : Credit} {A : Type 0} {V : A → Type 0} (e : PyError) → Gives k j V (fail e)
fails {k = k} e = record { ends = λ draws m words plain. without_credit k m plain }

pub chosen : {k j : Credit} {A : Type 0} {V : A → Type 0} (b : Bool) (p q : Act A) → Gives k j V p → Gives k j V q → Gives k j V (choose b p q)
chosen true p q h l = h
chosen false p q h l = l
