-- A run that ends by a failed draw has recorded one, and draws after those that a run takes change nothing.
use Rattle.std.proofs.Common.{◌≡◌, ℕ, zero, suc, Bool, true, false, cond, List, [], ◌∷◌, ◌++◌, length, Option, Some, None, Result, Ok, Err, refl, sym, arith}
use Rattle.std.proofs.lemmas.List.{append-nil}
use Rattle.std.proofs.lemmas.List.Elements.{Contains-append_right}
use Rattle.std.specs.Prelude.{Contains, slice_get}
use Rattle.std.specs.FinMap as finite
use Rattle.nb_outside.specs.declared.feed.Drawn.{Drawn}
use Rattle.nb_outside.specs.declared.feed.Drawn.TheVariants as answer
use Rattle.nb_outside.specs.Counts.{HasRisen}
use Rattle.nb_outside.specs.Feeds.{Seen, Fed}
use Rattle.py_value.specs.declared.value.Builtin.{Builtin}
use Rattle.py_value.specs.declared.value.Value.{Value}
use Rattle.py_value.specs.declared.value.Value.TheVariants as value
use Rattle.py_machine.specs.declared.error.Fault.{Fault}
use Rattle.py_machine.specs.declared.error.Fault.TheVariants as fault
use Rattle.py_machine.specs.declared.error.PyError.{PyError}
use Rattle.py_machine.specs.declared.frame.FrameSlot.{FrameSlot}
use Rattle.py_machine.specs.declared.frame.FrameSlot.TheVariants.{Empty, Held}
use Rattle.py_machine.specs.declared.machine.Machine.{Machine}
use Rattle.py_machine.specs.Builtins.{builtin_named}
use Rattle.py_machine.specs.Errors.{name_error, unbound_error, step_limit_error, memory_error}
use Rattle.py_machine.specs.Runs.{Name, Outcome, Stop, raised, draw_failed, asks, Runs, after, slot, built_in, found, looked, met, sought, taken}
use Rattle.py_machine.specs.Runs as runs
use Rattle.py_meaning.specs.Acts.{Act, run, pure, fail, chain, step, charge, look, seek, bind, unbind, is_local, enter, leave, add, object_at, change, write, draw}
use Rattle.py_meaning.specs.Cells.{Asks}

-- if a run ends by a failed draw, one is recorded
pub record TellsFailed {A : Type 0} (o : Outcome A) : Type 0 where
  pub tells : o.0 ≡ Err draw_failed → Contains o.1.drawn answer.Failed

ok_tells : {A : Type 0} (a : A) (m : Machine) → TellsFailed (Ok a, m)
ok_tells a m = record { tells = λ x. absurd (let none : ⊥ = cc x in none) }

raised_tells : {A : Type 0} (e : PyError) (m : Machine) → TellsFailed {A = A} (Err (raised e), m)
raised_tells e m = record { tells = λ x. absurd (let none : ⊥ = cc x in none) }

after_tells : {A B : Type 0} (r : Result A Stop) (m : Machine) (f : A → Machine → Outcome B) → TellsFailed (r, m) → ((a : A) → TellsFailed (f a m)) → TellsFailed (after r m f)
after_tells (Ok a) m f h k = k a
after_tells (Err e) m f h k = record { tells = λ x. h.tells (let y : e ≡ draw_failed = cc in rw y refl) }

cond_tells : {A : Type 0} (b : Bool) (o u : Outcome A) → TellsFailed o → TellsFailed u → TellsFailed (cond b o u)
cond_tells true o u h k = h
cond_tells false o u h k = k

step_tells : (m : Machine) → TellsFailed (runs.step m)
unfolding runs.step
step_tells m = cond_tells _ _ _ (ok_tells tt _) (raised_tells step_limit_error m)

charge_tells : (n : ℕ) (m : Machine) → TellsFailed (runs.charge n m)
unfolding runs.charge
charge_tells n m = cond_tells _ _ _ (ok_tells tt _) (raised_tells memory_error m)

built_in_tells : (name : Name) (b : Option Builtin) (m : Machine) → TellsFailed (built_in name b m)
built_in_tells name (Some b) m = ok_tells (value.Builtin b) m
built_in_tells name None m = raised_tells (name_error name) m

found_tells : (name : Name) (o : Option Value) (m : Machine) → TellsFailed (found name o m)
found_tells name (Some held) m = ok_tells held m
found_tells name None m = built_in_tells name (builtin_named name) m

looked_tells : (name : Name) (o : Option FrameSlot) (m : Machine) → TellsFailed (looked name o m)
looked_tells name (Some (Held held)) m = ok_tells held m
looked_tells name (Some Empty) m = raised_tells (unbound_error name) m
looked_tells name None m = found_tells name (finite.get m.state.globals name) _

look_tells : (name : Name) (m : Machine) → TellsFailed (runs.look name m)
unfolding runs.look
look_tells name m = looked_tells name (slot m.frame name) m

met_tells : (name : Name) (o : Option Value) (m : Machine) → TellsFailed (met name o m)
met_tells name (Some held) m = ok_tells tt m
met_tells name None m = raised_tells (name_error name) m

sought_tells : (name : Name) (o : Option FrameSlot) (m : Machine) → TellsFailed (sought name o m)
sought_tells name (Some (Held held)) m = ok_tells tt m
sought_tells name (Some Empty) m = raised_tells (unbound_error name) m
sought_tells name None m = met_tells name (finite.get m.state.globals name) _

seek_tells : (name : Name) (m : Machine) → TellsFailed (runs.seek name m)
unfolding runs.seek
seek_tells name m = sought_tells name (slot m.frame name) m

taken_tells : (o : Option Drawn) (m : Machine) → TellsFailed (taken o m)
taken_tells None m = record { tells = λ x. absurd (let none : ⊥ = cc x in none) }
taken_tells (Some (answer.Word word)) m = ok_tells word _
taken_tells (Some answer.Failed) m = record { tells = λ x. Contains-append_right m.drawn (answer.Failed ∷ []) answer.Failed (0, omega arith, refl) }

draw_tells : (draws : List Drawn) (m : Machine) → TellsFailed (runs.draw draws m)
unfolding runs.draw
draw_tells draws m = taken_tells (slice_get draws (length m.drawn)) m

pub run_tells : {A : Type 0} (p : Act A) (draws : List Drawn) (m : Machine) → TellsFailed (run p draws m)
unfolding runs.bind runs.unbind runs.is_local runs.enter runs.leave runs.add runs.object_at runs.change runs.write
run_tells (pure a) draws m = ok_tells a m
run_tells (fail e) draws m = raised_tells e m
run_tells (chain p f) draws m = after_tells (run p draws m).0 (run p draws m).1 (λ a. run (f a) draws) (run_tells p draws m) (λ a. run_tells (f a) draws (run p draws m).1)
run_tells step draws m = step_tells m
run_tells (charge n) draws m = charge_tells n m
run_tells (look name) draws m = look_tells name m
run_tells (seek name) draws m = seek_tells name m
run_tells (bind name held) draws m = ok_tells tt _
run_tells (unbind name) draws m = ok_tells tt _
run_tells (is_local name) draws m = ok_tells _ m
run_tells (enter new) draws m = ok_tells m.frame _
run_tells (leave outer) draws m = ok_tells tt _
run_tells (add new) draws m = ok_tells (length m.state.heap) _
run_tells (object_at at) draws m = ok_tells (slice_get m.state.heap at) m
run_tells (change at c) draws m = ok_tells tt _
run_tells (write bytes) draws m = ok_tells tt _
run_tells draw draws m = draw_tells draws m

-- and then the feed's faults rose
pub failed_rises : {A : Type 0} (p : Act A) (m n : Machine) (r : Result A Fault) (s t : Seen) → r ≡ Err fault.DrawFailed → Runs (run p) m r n → Fed s n.drawn t → HasRisen s.faults t.faults
failed_rises p m n r s t e h f =
    let o : run p n.drawn m ≡ (Err draw_failed, n) = (rw e at h) n.drawn (record { rest = []; is = sym (append-nil n.drawn) }) refl in
    f.failed (rw o at ((run_tells p n.drawn m).tells (rw o refl)))

-- ---- more draws

get_more : (xs ys : List Drawn) (k : ℕ) (d : Drawn) → slice_get xs k ≡ Some d → slice_get (xs ++ ys) k ≡ Some d
get_more [] ys k d e = absurd (cc)
get_more (x ∷ xs) ys zero d e = e
get_more (x ∷ xs) ys (suc k) d e = get_more xs ys k d e

taken_more : (o u : Option Drawn) (m : Machine) → (¬ Asks (taken o m)) → ((d : Drawn) → o ≡ Some d → u ≡ Some d) → taken u m ≡ taken o m
taken_more None u m h k = absurd (h refl)
taken_more (Some d) u m h k = let e = k d refl in rw e refl

draw_more : (draws more : List Drawn) (m : Machine) → (¬ Asks (runs.draw draws m)) → runs.draw (draws ++ more) m ≡ runs.draw draws m
unfolding runs.draw
draw_more draws more m h = taken_more (slice_get draws (length m.drawn)) (slice_get (draws ++ more) (length m.drawn)) m h (get_more draws more (length m.drawn))

asks_after : {A B : Type 0} (r : Result A Stop) (m : Machine) (f : A → Machine → Outcome B) → (¬ Asks (after r m f)) → ¬ Asks (r, m)
asks_after (Ok a) m f h x = absurd (cc)
asks_after (Err e) m f h x = h (let y : e ≡ asks = cc in rw y refl)

after_more : {A B : Type 0} (o u : Outcome A) (f g : A → Machine → Outcome B) → o ≡ u → ((a : A) (n : Machine) → (¬ Asks (f a n)) → g a n ≡ f a n) → (¬ Asks (after u.0 u.1 f)) → after o.0 o.1 g ≡ after u.0 u.1 f
after_more o (Ok a, n) f g e k h = rw e (k a n h)
after_more o (Err x, n) f g e k h = rw e refl

pub more_draws : {A : Type 0} (p : Act A) (draws more : List Drawn) (m : Machine) → (¬ Asks (run p draws m)) → run p (draws ++ more) m ≡ run p draws m
more_draws (pure a) draws more m h = refl
more_draws (fail e) draws more m h = refl
more_draws (chain p f) draws more m h =
    after_more (run p (draws ++ more) m) (run p draws m) (λ a. run (f a) draws) (λ a. run (f a) (draws ++ more))
    (more_draws p draws more m (asks_after (run p draws m).0 (run p draws m).1 (λ a. run (f a) draws) h)) (λ a. more_draws (f a) draws more) h
more_draws step draws more m h = refl
more_draws (charge n) draws more m h = refl
more_draws (look name) draws more m h = refl
more_draws (seek name) draws more m h = refl
more_draws (bind name held) draws more m h = refl
more_draws (unbind name) draws more m h = refl
more_draws (is_local name) draws more m h = refl
more_draws (enter new) draws more m h = refl
more_draws (leave outer) draws more m h = refl
more_draws (add new) draws more m h = refl
more_draws (object_at at) draws more m h = refl
more_draws (change at c) draws more m h = refl
more_draws (write bytes) draws more m h = refl
more_draws draw draws more m h = draw_more draws more m h
