-- A run that doesn't draw, and doesn't ask, is the same under any draws.
use Rattle.std.proofs.Common.{◌≡◌, Bool, true, false, List, length, Option, Some, None, Result, Ok, Err, refl, sym, ◌∙◌, subst, inl, inr}
use Rattle.std.proofs.lemmas.Bool.{cases_Bool}
use Rattle.std.specs.Prelude.{Contains, slice_get}
use Rattle.nb_outside.specs.declared.feed.Drawn.{Drawn}
use Rattle.nb_outside.specs.declared.feed.Drawn.TheVariants as answer
use Rattle.py_tree.specs.declared.statements.Stmt.{Stmt}
use Rattle.py_heap.specs.declared.state.State.{State}
use Rattle.py_machine.specs.declared.machine.Machine.{Machine}
use Rattle.py_machine.specs.Marked.{IsIn}
use Rattle.py_machine.specs.Runs.{Name, Outcome, Stop, asks, start, after, taken}
use Rattle.py_machine.specs.Runs as runs
use Rattle.py_meaning.specs.Acts.{Act, run, pure, fail, chain, step, charge, look, seek, bind, unbind, is_local, enter, leave, add, object_at, change, write, draw}
use Rattle.py_meaning.specs.Cells.{Asks, outcome}
use Rattle.py_meaning.specs.Meaning.{cell}
use Rattle.py_laws.specs.Same.{Same}
use Rattle.py_laws.specs.Framed.{Agree, Framed}
use Rattle.py_laws.proofs.Sparing.{Spared, spared}
use Rattle.py_laws.proofs.Framing.{framed}

-- it ends, and without a draw
pub record Undrawn {A : Type 0} (o : Outcome A) : Type 0 where
  pub told : Asks o → ⊥
  pub none : o.1.marks.drew ≡ false

false_or : (b : Bool) → (b ≡ true → ⊥) → b ≡ false
false_or true h = absurd (h refl)
false_or false h = refl

undrawn_before : {A B : Type 0} (draws : List Drawn) (r : Result A Stop) (m : Machine) (f : A → Act B) → Undrawn (after r m (λ a. run (f a) draws)) → Undrawn (r, m)
undrawn_before draws (Ok a) m f u =
    let s : Spared m (run (f a) draws m).1 = spared (f a) draws m in
    let end = u.none in
    record { told = λ x. absurd (let no : ⊥ = cc x in no); none = false_or m.marks.drew (λ e. let drew = s.marks.drew e in let no : ⊥ = cc (drew, end) in no) }
undrawn_before draws (Err e) m f u = record { told = λ x. u.told (let y : e ≡ asks = cc in rw y refl); none = u.none }

after_same : {A B : Type 0} (o u : Outcome A) (f g : A → Machine → Outcome B) → o ≡ u → ((a : A) (n : Machine) → Undrawn (f a n) → g a n ≡ f a n) → Undrawn (after u.0 u.1 f) → after o.0 o.1 g ≡ after u.0 u.1 f
after_same o (Ok a, n) f g e k h = rw e (k a n h)
after_same o (Err x, n) f g e k h = rw e refl

taken_same : (o u : Option Drawn) (m : Machine) → Undrawn (taken o m) → taken u m ≡ taken o m
taken_same None u m h = absurd (h.told refl)
taken_same (Some (answer.Word word)) u m h = let none = h.none in absurd (let no : ⊥ = cc none in no)
taken_same (Some answer.Failed) u m h = let none = h.none in absurd (let no : ⊥ = cc none in no)

draw_same : (draws others : List Drawn) (m : Machine) → Undrawn (runs.draw draws m) → runs.draw others m ≡ runs.draw draws m
unfolding runs.draw
draw_same draws others m h = taken_same (slice_get draws (length m.drawn)) (slice_get others (length m.drawn)) m h

pub same_run : {A : Type 0} (p : Act A) (draws others : List Drawn) (m : Machine) → Undrawn (run p draws m) → run p others m ≡ run p draws m
same_run (pure a) draws others m h = refl
same_run (fail e) draws others m h = refl
same_run (chain p f) draws others m h =
    after_same (run p others m) (run p draws m) (λ a. run (f a) draws) (λ a. run (f a) others)
    (same_run p draws others m (undrawn_before draws (run p draws m).0 (run p draws m).1 f h)) (λ a. same_run (f a) draws others) h
same_run step draws others m h = refl
same_run (charge n) draws others m h = refl
same_run (look name) draws others m h = refl
same_run (seek name) draws others m h = refl
same_run (bind name held) draws others m h = refl
same_run (unbind name) draws others m h = refl
same_run (is_local name) draws others m h = refl
same_run (enter new) draws others m h = refl
same_run (leave outer) draws others m h = refl
same_run (add new) draws others m h = refl
same_run (object_at at) draws others m h = refl
same_run (change at c) draws others m h = refl
same_run (write bytes) draws others m h = refl
same_run draw draws others m h = draw_same draws others m h

-- ---- the frame law with other draws for the other run, but for a cell that drew

pub framed_agreeing : (names : List Name) (body : List Stmt) (draws others : List Drawn) (s t : State) → Same (Contains names) s t → s.meter ≡ t.meter
    → ((name : Name) → IsIn (outcome body s draws).1.marks.looked name → Contains names name) → (Asks (outcome body s draws) → ⊥) → Agree (outcome body s draws) draws others
    → Framed names s t (outcome body s draws) (outcome body t others)
framed_agreeing names body draws others s t same meters looks told agree =
    let law = framed names body draws s t same meters looks in
    elim (cases_Bool (outcome body s draws).1.marks.drew) [
      | inl drew ↦ subst (λ z. Framed names s t (outcome body s draws) (outcome body t z)) (agree drew) law
      | inr none ↦
          subst (λ z. Framed names s t (outcome body s draws) z)
          (sym (same_run (cell body) draws others (start t) (record { told = λ x. told (law.result ∙ x); none = sym law.drew ∙ none }))) law
    ]
