-- What a value shows, by how the function ended that puts it.
use Rattle.std.proofs.Common.{◌≡◌, ℕ, Bool, true, false, cond, List, [], length, Some, None, Result, Ok, Err, refl, sym, ap, ◌∙◌, subst}
use Rattle.std.specs.Prelude.{nat_le, codes, IfOk}
use Rattle.py_heap.specs.Valid.{meter_limit}
use Rattle.py_heap.specs.declared.state.State.{State}
use Rattle.py_machine.specs.declared.error.Fault.{Fault}
use Rattle.py_machine.specs.declared.error.Fault.TheVariants.{DrawFailed, Raised}
use Rattle.py_machine.specs.declared.error.PyError.{PyError}
use Rattle.py_machine.specs.Errors.{error_name}
use Rattle.py_machine.specs.Runs.{Computation, Stop, raised, draw_failed, asks, start, tells}
use Rattle.py_show.specs.Limits.{Limit, limited}
use Rattle.py_show.specs.Uses.{put_told, limited_text, PutsRun}
use Rattle.py_show.proofs.Ending.{empty_limited}
use Rattle.checkpoint_commands.specs.Told.{text_in}

held_by : (b : Bool) (text known : List ℕ) → cond b (Some text) None ≡ Some known → cond b text (codes "MemoryError") ≡ known
held_by true text known e = cc
held_by false text known e = cc

long_by : (b : Bool) (text : List ℕ) → cond b (Some text) None ≡ None → cond b text (codes "MemoryError") ≡ codes "MemoryError"
long_by true text e = cc
long_by false text e = refl

held_text : (text known : List ℕ) → limited text ≡ Some known → text_in (Ok text) ≡ known
unfolding limited
held_text text known e = held_by (nat_le (length text) meter_limit) text known e

long_text : (text : List ℕ) → limited text ≡ None → text_in (Ok text) ≡ codes "MemoryError"
unfolding limited
long_text text e = long_by (nat_le (length text) meter_limit) text e

-- ---- by the end of the function

told_held : (o : Result (List ℕ) Stop) (known : List ℕ) → limited_text [] o ≡ Ok (Some known) → text_in o ≡ known
told_held (Ok text) known e = held_text text known (cc)
told_held (Err stop) known e = cc

told_long : (o : Result (List ℕ) Stop) → limited_text [] o ≡ Ok None → text_in o ≡ codes "MemoryError"
told_long (Ok text) e = long_text text (cc)
told_long (Err stop) e = cc

told_raised : (o : Result (List ℕ) Stop) (error : PyError) → limited_text [] o ≡ Err (raised error) → text_in o ≡ error_name error.kind
told_raised (Ok text) error e = cc
told_raised (Err (raised other)) error e = ap (λ (x : PyError). error_name x.kind) (let same : other ≡ error = cc in same)
told_raised (Err draw_failed) error e = cc
told_raised (Err asks) error e = cc

told_failed : (o : Result (List ℕ) Stop) → limited_text [] o ≡ Err draw_failed → text_in o ≡ codes "OSError"
told_failed (Ok text) e = cc
told_failed (Err (raised other)) e = cc
told_failed (Err draw_failed) e = refl
told_failed (Err asks) e = cc

-- from no steps and an empty output on
module _ (go : Computation (List ℕ)) (s : State) (old new : Limit) (now : ℕ) (empty : old ≡ Some []) where
  ends : (result : Result (Unit {0}) Fault) → PutsRun go s old 0 result new now → tells result ≡ true → limited_text [] (go [] (start s)).0 ≡ put_told result new
  ends result puts t = ap (λ o. o.0) (puts [] [] (start s) refl refl (empty_limited ∙ sym empty) t)

  pub shown_held : (known : List ℕ) → PutsRun go s old 0 (Ok tt) new now → new ≡ Some known → text_in (go [] (start s)).0 ≡ known
  shown_held known puts e = told_held (go [] (start s)).0 known (ends (Ok tt) puts refl ∙ ap (λ text. Ok text) e)

  pub shown_long : PutsRun go s old 0 (Ok tt) new now → new ≡ None → text_in (go [] (start s)).0 ≡ codes "MemoryError"
  shown_long puts e = told_long (go [] (start s)).0 (ends (Ok tt) puts refl ∙ ap (λ text. Ok text) e)

  pub shown_raised : (error : PyError) → PutsRun go s old 0 (Err (Raised error)) new now → text_in (go [] (start s)).0 ≡ error_name error.kind
  shown_raised error puts = told_raised (go [] (start s)).0 error (ends (Err (Raised error)) puts refl)

  pub shown_failed : PutsRun go s old 0 (Err DrawFailed) new now → text_in (go [] (start s)).0 ≡ codes "OSError"
  shown_failed puts = told_failed (go [] (start s)).0 (ends (Err DrawFailed) puts refl)

-- a text that is the same
pub as_shown : {E : Type 0} (r : Result (List ℕ) E) (made shown : List ℕ) → shown ≡ made → IfOk r (λ text. text ≡ made) → IfOk r (λ text. text ≡ shown)
as_shown r made shown e h = subst (λ (z : List ℕ). IfOk r (λ text. text ≡ z)) (sym e) h
