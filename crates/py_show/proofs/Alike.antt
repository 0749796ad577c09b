-- What is put on a state is what the meaning gives, as far as the limit.
use Rattle.std.proofs.Common.{◌≡◌, ℕ, zero, suc, ◌+◌, Bool, true, false, cond, List, [], ◌∷◌, ◌++◌, Option, Some, None, Result, Ok, Err, refl, sym, ap, subst, ◌∙◌, append_assoc}
use Rattle.std.specs.Prelude.{codes, nat_lt, slice_get}
use Rattle.std.proofs.lemmas.List.{append-nil}
use Rattle.nb_outside.specs.declared.feed.Drawn.{Drawn}
use Rattle.py_value.specs.declared.key.Key.{Key}
use Rattle.py_value.specs.declared.value.Value.{Value}
use Rattle.py_value.specs.declared.value.Value.TheVariants as value
use Rattle.py_value.specs.Keys.{value_of}
use Rattle.py_heap.specs.declared.heap.Object.{Object}
use Rattle.py_heap.specs.declared.heap.Object.TheVariants as object
use Rattle.py_heap.specs.declared.heap.SequenceKind.{SequenceKind}
use Rattle.py_heap.specs.declared.heap.SequenceKind.TheVariants as sequences
use Rattle.py_heap.specs.declared.state.State.{State}
use Rattle.py_heap.specs.Dicts.{Pairs}
use Rattle.py_heap.specs.Searches.{has}
use Rattle.py_machine.specs.declared.error.PyError.{PyError}
use Rattle.py_machine.specs.declared.machine.Machine.{Machine}
use Rattle.py_machine.specs.Errors.{recursion_error, step_limit_error}
use Rattle.py_machine.specs.Runs.{Outcome, Stop, raised, raise}
use Rattle.py_machine.specs.Runs as runs
use Rattle.py_meaning.specs.Acts.{Act, chain, pure, fail, choose, run}
use Rattle.py_meaning.specs.Acts as act
use Rattle.py_meaning.specs.Meaning.{Inner}
use Rattle.py_meaning.specs.Meaning as kernel
use Rattle.py_meaning.specs.Shown as spec
use Rattle.py_meaning.specs.Shown.{Shows, plain_text, open_text, function_text, handle_text}
use Rattle.py_show.specs.Limits.{Limit, limited, pushed}
use Rattle.py_show.specs.OnState.{Ending, Puts, ◌>>◌, puts, fails, one_step, stepped}
use Rattle.py_show.specs.OnState as on
use Rattle.py_show.specs.Uses.{limited_after}
use Rattle.py_show.proofs.Limiting.{limited_more, limited_shift}

-- an ending on a machine, of which the steps alone change
abbrev pub on_machine : {A : Type 0} → Machine → Ending A → Outcome A
on_machine m ending = (ending.0, record m { steps = ending.1 })

-- a run and what is put, whatever bytes come before
pub record Alike (state : State) (p : List ℕ → Act (List ℕ)) (s : Puts) : Type 0 where
  pub on : (before text : List ℕ) (draws : List Drawn) (m : Machine) → m.state ≡ state
      → limited_after before (run (p text) draws m) ≡ on_machine m (s (limited (before ++ text)) m.steps)

-- the same for a run that begins with no text
pub record Written (state : State) (p : Act (List ℕ)) (s : Puts) : Type 0 where
  pub on : (before : List ℕ) (draws : List Drawn) (m : Machine) → m.state ≡ state
      → limited_after before (run p draws m) ≡ on_machine m (s (limited before) m.steps)

-- one after the other; the second may come after other bytes
joined : (before outer : List ℕ) (r : Result (List ℕ) Stop) (n : Machine) (q : Result Limit Stop) (k : ℕ) (m : Machine)
    (next : List ℕ → Machine → Outcome (List ℕ)) (t : Puts)
    → limited_after before (r, n) ≡ on_machine m (q, k)
    → ((a : List ℕ) (u : Machine) → u.state ≡ m.state → limited_after outer (next a u) ≡ on_machine u (t (limited (before ++ a)) u.steps))
    → limited_after outer (runs.after r n next) ≡ on_machine m (on.after q k t)
joined before outer (Ok a) n (Ok text) k m next t h g =
    let first : ◌≡◌ {A = Result Limit Stop} (Ok (limited (before ++ a))) (Ok text) = ap (λ (z : Outcome Limit). z.0) h in
    let same : limited (before ++ a) ≡ text = cc first in
    let machine : n ≡ record m { steps = k } = ap (λ (z : Outcome Limit). z.1) h in
    subst (λ u. limited_after outer (next a u) ≡ on_machine m (t text k)) (sym machine)
    (g a (record m { steps = k }) refl ∙ ap (λ z. on_machine m (t z k)) same)
joined before outer (Ok a) n (Err e) k m next t h g =
    let first : ◌≡◌ {A = Result Limit Stop} (Ok (limited (before ++ a))) (Err e) = ap (λ (z : Outcome Limit). z.0) h in
    absurd (let no : ⊥ = cc first in no)
joined before outer (Err e) n (Ok text) k m next t h g =
    let first : ◌≡◌ {A = Result Limit Stop} (Err e) (Ok text) = ap (λ (z : Outcome Limit). z.0) h in
    absurd (let no : ⊥ = cc first in no)
joined before outer (Err e) n (Err f) k m next t h g = h

pub chained : {state : State} {p q : List ℕ → Act (List ℕ)} {s t : Puts} → Alike state p s → Alike state q t → Alike state (λ text. chain (p text) q) (s >> t)
chained {p = p} {q = q} {s = s} {t = t} first second = record {
  on = λ before text draws m e. joined before before (run (p text) draws m).0 (run (p text) draws m).1
      (s (limited (before ++ text)) m.steps).0 (s (limited (before ++ text)) m.steps).1 m (λ a. run (q a) draws) t
      (first.on before text draws m e) (λ a u f. second.on before a draws u (f ∙ e));
}

-- bytes at the end
pub put : {state : State} (more : List ℕ) → Alike state (λ text. pure (text ++ more)) (puts more)
put more = record { on = λ before text draws m e. ap (λ z. on_machine m (Ok z, m.steps)) (limited_shift before text more) }

-- after more bytes
pub after_put : {state : State} {p : List ℕ → Act (List ℕ)} {s : Puts} (more : List ℕ) → Alike state p s → Alike state (λ text. p (text ++ more)) (puts more >> s)
after_put {s = s} more first = record {
  on = λ before text draws m e. first.on before (text ++ more) draws m e ∙ ap (λ z. on_machine m (s z m.steps)) (limited_shift before text more);
}

-- a step by its test
abbrev step_run : Bool → Machine → Outcome (Unit {0})
step_run b m = cond b (Ok tt, record m { steps = m.steps + 1 }) (raise step_limit_error m)

abbrev step_on : Bool → ℕ → Ending (Unit {0})
step_on b k = cond b (Ok tt, k + 1) (Err (raised step_limit_error), k)

steps_by : (b : Bool) (before : List ℕ) (x : Limit) (m : Machine) (next : Machine → Outcome (List ℕ)) (t : Puts)
    → ((u : Machine) → u.state ≡ m.state → limited_after before (next u) ≡ on_machine u (t x u.steps))
    → limited_after before (runs.after (step_run b m).0 (step_run b m).1 (λ _. next)) ≡ on_machine m (on.after (step_on b m.steps).0 (step_on b m.steps).1 (λ _. t x))
steps_by true before x m next t g = g (record m { steps = m.steps + 1 }) refl
steps_by false before x m next t g = refl

stepping : (before : List ℕ) (x : Limit) (m : Machine) (next : Machine → Outcome (List ℕ)) (t : Puts)
    → ((u : Machine) → u.state ≡ m.state → limited_after before (next u) ≡ on_machine u (t x u.steps))
    → limited_after before (runs.after (runs.step m).0 (runs.step m).1 (λ _. next)) ≡ on_machine m (stepped t x m.steps)
unfolding runs.step one_step
stepping before x m next t g = steps_by (nat_lt m.steps 1000000) before x m next t g

pub after_step : {state : State} {p : List ℕ → Act (List ℕ)} {s : Puts} → Alike state p s → Alike state (λ text. chain act.step (λ _. p text)) (stepped s)
after_step {p = p} {s = s} first = record {
  on = λ before text draws m e. stepping before (limited (before ++ text)) m (run (p text) draws) s (λ u f. first.on before text draws u (f ∙ e));
}

pub written_step : {state : State} {p : Act (List ℕ)} {s : Puts} → Written state p s → Written state (chain act.step (λ _. p)) (stepped s)
written_step {p = p} {s = s} first = record {
  on = λ before draws m e. stepping before (limited before) m (run p draws) s (λ u f. first.on before draws u (f ∙ e));
}

pub failed : {state : State} (e : PyError) → Alike state (λ text. fail e) (fails e)
failed e = record { on = λ before text draws m f. refl }

-- a look at an object
pub looked : {state : State} {s : Puts} (at : ℕ) (p : Option Object → List ℕ → Act (List ℕ)) → Alike state (p (slice_get state.heap at)) s
    → Alike state (λ text. chain (act.object_at at) (λ object. p object text)) s
unfolding runs.object_at
looked {s = s} at p first = record {
  on = λ before text draws m e.
      subst (λ (st : State). limited_after before (run (p (slice_get st.heap at) text) draws m) ≡ on_machine m (s (limited (before ++ text)) m.steps)) (sym e)
      (first.on before text draws m e);
}

pub chosen : {state : State} {p q : List ℕ → Act (List ℕ)} {s t : Puts} (b : Bool) → Alike state p s → Alike state q t → Alike state (λ text. choose b (p text) (q text)) (cond b s t)
chosen true first second = first
chosen false first second = second

-- what shows a value after no text puts it after any
from_empty : {state : State} {p : List ℕ → Act (List ℕ)} {t : Puts} → Alike state p t → Written state (p []) t
from_empty {t = t} first = record {
  on = λ before draws m e. first.on before [] draws m e ∙ ap (λ z. on_machine m (t (limited z) m.steps)) (append-nil before);
}

-- what shows the items of lists, tuples and dicts
pub record Below (state : State) (below : Shows) (s : List ℕ → Value → Puts) : Type 0 where
  pub at : (path : List ℕ) (held : Value) → Alike state (λ text. below path text held) (s path held)

module _ {state : State} {below : Shows} {s : List ℕ → Value → Puts} (b : Below state below s) where
  more_items : (end path : List ℕ) (items : List Value) → Alike state (λ text. spec.more_items below end path text items) (on.more_items state s end path items)
  more_items end path [] = put end
  more_items end path (item ∷ items) = chained (after_put (codes ", ") (b.at path item)) (more_items end path items)

  all_items : (end path : List ℕ) (items : List Value) → Alike state (λ text. spec.all_items below end path text items) (on.all_items state s end path items)
  all_items end path [] = put end
  all_items end path (item ∷ items) = chained (b.at path item) (more_items end path items)

  sequence : (kind : SequenceKind) (path : List ℕ) (at : ℕ) (items : List Value) → Alike state (λ text. spec.sequence_text below kind path text at items) (on.sequence_shown state s kind path at items)
  sequence kind path at items = after_put (spec.opening kind) (all_items (spec.closing kind items) (path ++ at ∷ []) items)

  pair : (path : List ℕ) (p : Key × Value) → Alike state (λ text. spec.pair_text below path text p) (on.pair_shown state s path p)
  pair path p = chained (b.at path (value_of p.0)) (after_put (codes ": ") (b.at path p.1))

  more_pairs : (path : List ℕ) (pairs : Pairs) → Alike state (λ text. spec.more_pairs below path text pairs) (on.more_pairs state s path pairs)
  more_pairs path [] = put (codes "}")
  more_pairs path (p ∷ pairs) = chained (after_put (codes ", ") (pair path p)) (more_pairs path pairs)

  all_pairs : (path : List ℕ) (pairs : Pairs) → Alike state (λ text. spec.all_pairs below path text pairs) (on.all_pairs state s path pairs)
  all_pairs path [] = put (codes "}")
  all_pairs path (p ∷ pairs) = chained (pair path p) (more_pairs path pairs)

  object_alike : (path : List ℕ) (at : ℕ) (o : Option Object) → Alike state (λ text. spec.object_shown below path text at o) (on.object_shown state s path at o)
  object_alike path at (Some (object.List items)) = sequence sequences.List path at items
  object_alike path at (Some (object.Tuple items)) = sequence sequences.Tuple path at items
  object_alike path at (Some (object.Dict pairs)) = after_put (codes "{") (all_pairs (path ++ at ∷ []) pairs)
  object_alike path at (Some (object.Function def)) = put (function_text def.name)
  object_alike path at (Some (object.Handle name uses)) = put (handle_text name)
  object_alike path at None = put (plain_text (value.Ref at))

  ref : (path : List ℕ) (at : ℕ) → Alike state (λ text. spec.object_text below path text at) (on.ref_shown state s path at)
  unfolding spec.object_text on.ref_shown
  ref path at = looked at (λ o text. choose (has path at) (pure (text ++ open_text o)) (spec.object_shown below path text at o))
      (chosen (has path at) (put (open_text (slice_get state.heap at))) (object_alike path at (slice_get state.heap at)))

  held : (path : List ℕ) (v : Value) → Alike state (λ text. spec.value_text below path text v) (on.value_shown state s path v)
  held path value.Nothing = put (plain_text value.Nothing)
  held path (value.Bool truth) = put (plain_text (value.Bool truth))
  held path (value.Number number) = put (plain_text (value.Number number))
  held path (value.Text text) = put (plain_text (value.Text text))
  held path (value.Ref at) = ref path at
  held path (value.Builtin builtin) = put (plain_text (value.Builtin builtin))

  str : (v : Value) → Written state (spec.str_text below v) (on.str_shown state s v)
  str value.Nothing = from_empty (held [] value.Nothing)
  str (value.Bool truth) = from_empty (held [] (value.Bool truth))
  str (value.Number number) = from_empty (held [] (value.Number number))
  str (value.Text text) = record { on = λ before draws m e. ap (λ z. on_machine m (Ok z, m.steps)) (sym (limited_more before text)) }
  str (value.Ref at) = from_empty (held [] (value.Ref at))
  str (value.Builtin builtin) = from_empty (held [] (value.Builtin builtin))

-- at every level
pub shown : (state : State) (n : ℕ) → Below state (spec.shown n) (on.shown state n)
unfolding spec.shown on.shown
shown state zero = record { at = λ path v. failed recursion_error }
shown state (suc n) = record { at = λ path v. after_step (held (shown state n) path v) }

pub written : (state : State) (n : ℕ) (v : Value) → Written state (spec.written n v) (on.written state n v)
unfolding spec.written on.written
written state zero v = record { on = λ before draws m e. refl }
written state (suc n) v = written_step (str (shown state n) v)

pub repr : (state : State) (n : ℕ) (v : Value) → Written state (spec.shown n [] [] v) (on.shown state n [] v)
repr state n v = from_empty ((shown state n).at [] v)

-- a line of texts
regroup : (before text word : List ℕ) → ((before ++ text) ++ codes " ") ++ word ≡ before ++ ((text ++ codes " ") ++ word)
regroup before text word = ap (λ z. z ++ word) (append_assoc before text (codes " ")) ∙ append_assoc before (text ++ codes " ") word

words : (state : State) (inner : Inner) (values : List Value) → Alike state (λ text. kernel.words inner text values) (on.words state inner.left values)
words state inner [] = put (codes "\n")
words state inner (v ∷ values) = record {
  on = λ before text draws m e.
      joined ((before ++ text) ++ codes " ") before (run (spec.written inner.left v) draws m).0 (run (spec.written inner.left v) draws m).1
      (on.written state inner.left v (pushed (limited (before ++ text)) (codes " ")) m.steps).0
      (on.written state inner.left v (pushed (limited (before ++ text)) (codes " ")) m.steps).1
      m (λ word. run (kernel.words inner ((text ++ codes " ") ++ word) values) draws) (on.words state inner.left values)
      ((written state inner.left v).on ((before ++ text) ++ codes " ") draws m e
      ∙ ap (λ z. on_machine m (on.written state inner.left v z m.steps)) (sym (limited_more (before ++ text) (codes " "))))
      (λ word u f. (words state inner values).on before ((text ++ codes " ") ++ word) draws u (f ∙ e)
      ∙ ap (λ z. on_machine u (on.words state inner.left values (limited z) u.steps)) (sym (regroup before text word)));
}

pub line : (state : State) (inner : Inner) (values : List Value) → Written state (kernel.line inner values) (on.line state inner.left values)
line state inner [] = record { on = λ before draws m e. ap (λ z. on_machine m (Ok z, m.steps)) (sym (limited_more before (codes "\n"))) }
line state inner (v ∷ values) = record {
  on = λ before draws m e.
      joined before before (run (spec.written inner.left v) draws m).0 (run (spec.written inner.left v) draws m).1
      (on.written state inner.left v (limited before) m.steps).0 (on.written state inner.left v (limited before) m.steps).1
      m (λ word. run (kernel.words inner word values) draws) (on.words state inner.left values)
      ((written state inner.left v).on before draws m e)
      (λ word u f. (words state inner values).on before word draws u (f ∙ e));
}
