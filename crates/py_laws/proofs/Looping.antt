-- The bound of a loop's turns changes nothing: a turn that goes on takes a step, or leaves the machine just as it was.
use Rattle.std.proofs.Common.{◌≡◌, ℕ, zero, suc, ◌+◌, ◌<◌, ◌≤◌, ◌⊎◌, inl, inr, Bool, true, false, cond, List, [], ◌∷◌, Option, Some, None, Ok, Err, refl, sym, ap, ◌∙◌, subst, arith}
use Rattle.std.specs.Prelude.{nat_lt}
use Rattle.std.proofs.lemmas.Bool.Decides.{nat_tests}
use Rattle.nb_outside.specs.declared.feed.Drawn.{Drawn}
use Rattle.py_tree.specs.declared.expressions.Expr.{Expr, out-Expr}
use Rattle.py_tree.specs.declared.expressions.Expr.TheOpen.{Expr-F}
use Rattle.py_tree.specs.declared.expressions.Literal.{Literal}
use Rattle.py_tree.specs.declared.expressions.Literal.TheVariants as literal
use Rattle.py_tree.specs.declared.expressions.Op.{Op}
use Rattle.py_tree.specs.declared.expressions.Operand.{Operand}
use Rattle.py_tree.specs.declared.expressions.Pair.{Pair}
use Rattle.py_tree.specs.declared.expressions.Relation.{Relation}
use Rattle.py_tree.specs.declared.expressions.Target.{Target}
use Rattle.py_tree.specs.declared.expressions.Target.TheVariants as target
use Rattle.py_tree.specs.declared.statements.Arm.{Arm}
use Rattle.py_tree.specs.declared.statements.Def.{Def}
use Rattle.py_tree.specs.declared.statements.Stmt.{Stmt, out-Stmt}
use Rattle.py_tree.specs.declared.statements.Stmt.TheOpen.{Stmt-F}
use Rattle.py_value.specs.declared.value.Value.{Value}
use Rattle.py_value.specs.declared.value.Value.TheVariants as value
use Rattle.py_machine.specs.declared.error.PyError.{PyError}
use Rattle.py_machine.specs.declared.frame.Flow.{Flow}
use Rattle.py_machine.specs.declared.frame.Flow.TheVariants as flow
use Rattle.py_machine.specs.declared.iteration.Iteration.{Iteration}
use Rattle.py_machine.specs.declared.machine.Machine.{Machine}
use Rattle.py_machine.specs.Errors.{step_limit_error}
use Rattle.py_machine.specs.Runs.{Name, Outcome, after, raise}
use Rattle.py_machine.specs.Runs as runs
use Rattle.py_meaning.specs.Acts.{Act, ◌>>=◌, ◌>>◌, run, pure, fail, chain, step, choose, object_at}
use Rattle.py_meaning.specs.Truth.{truth_of}
use Rattle.py_meaning.specs.Iterating.{Next, advance}
use Rattle.py_meaning.specs.Meaning.{literal_value, names_given, delete, define, after_turn, most_turns, Inner, block, display, operands, sum, sign, negation, conditional, any_of, disjunction, all_of, conjunction, relations, comparison, dict_display, index, slice, method, call, expression, assign, augment, augment_item, augment_at, delete_item, deleted, return, turns, repeat, turn, rounds, for_each, statement, level}
use Rattle.py_meaning.proofs.Growing.{Rises, rises}
use Rattle.py_laws.specs.Loops.{RunAlike, while_turn, for_turn}

-- ---- steps that are taken

-- more steps, within their limit
pub record Later (m n : Machine) : Type 0 where
  pub more : m.steps < n.steps
  pub few : n.steps ≤ 1000000

-- a run that gives a value ends later
abbrev EndsLater : {A : Type 0} → Machine → Outcome A → Type 0
EndsLater m (Ok a, n) = Later m n
EndsLater m (Err e, n) = Unit {0}

-- or with the machine that it began with
abbrev EndsSoon : {A : Type 0} → Machine → Outcome A → Type 0
EndsSoon m (Ok a, n) = (n ≡ m) ⊎ Later m n
EndsSoon m (Err e, n) = Unit {0}

record Takes {A : Type 0} (p : Act A) : Type 0 where
  takes : (draws : List Drawn) (m : Machine) → EndsLater m (run p draws m)

record Moves {A : Type 0} (p : Act A) : Type 0 where
  moves : (draws : List Drawn) (m : Machine) → EndsSoon m (run p draws m)

soon : {A : Type 0} (m : Machine) (o : Outcome A) → EndsLater m o → EndsSoon m o
soon m (Ok a, n) h = inr h
soon m (Err e, n) h = tt

takes_moves : {A : Type 0} (p : Act A) → Takes p → Moves p
takes_moves p h = record { moves = λ draws m. soon m (run p draws m) (h.takes draws m) }

later_still : {A : Type 0} (m n : Machine) (o : Outcome A) → Later m n → Rises n o.1 → EndsLater m o
later_still m n (Ok a, x) h r = record { more = omega (arith, h.more, r.steps); few = r.few_steps h.few }
later_still m n (Err e, x) h r = tt

later_after : {A B : Type 0} (m : Machine) (o : Outcome A) (f : A → Machine → Outcome B) → EndsLater m o → ((a : A) (n : Machine) → Rises n (f a n).1) → EndsLater m (after o.0 o.1 f)
later_after m (Ok a, n) f h g = later_still m n (f a n) h (g a n)
later_after m (Err e, n) f h g = tt

soon_after : {A B : Type 0} (m : Machine) (o : Outcome A) (f : A → Machine → Outcome B) → EndsSoon m o → ((a : A) (n : Machine) → Rises n (f a n).1) → ((a : A) (n : Machine) → EndsSoon n (f a n)) → EndsSoon m (after o.0 o.1 f)
soon_after m (Ok a, n) f (inl e) g h = subst (λ (x : Machine). EndsSoon x (f a n)) e (h a n)
soon_after m (Ok a, n) f (inr l) g h = soon m (f a n) (later_still m n (f a n) l (g a n))
soon_after m (Err e, n) f h g k = tt

takes_first : {A B : Type 0} (p : Act A) (f : A → Act B) → Takes p → Takes (chain p f)
takes_first p f h = record { takes = λ draws m. later_after m (run p draws m) (λ a. run (f a) draws) (h.takes draws m) (λ a n. rises (f a) draws n) }

moves_on : {A B : Type 0} (p : Act A) (f : A → Act B) → Moves p → ((a : A) → Moves (f a)) → Moves (chain p f)
moves_on p f h g = record { moves = λ draws m. soon_after m (run p draws m) (λ a. run (f a) draws) (h.moves draws m) (λ a n. rises (f a) draws n) (λ a n. (g a).moves draws n) }

step_later : (m : Machine) (b : Bool) → b ≡ nat_lt m.steps 1000000 → EndsLater m (cond b (Ok tt, record m { steps = m.steps + 1 }) (raise {A = Unit {0}} step_limit_error m))
step_later m true e = record { more = omega arith; few = grind (arith, nat_tests) }
step_later m false e = tt

step_takes : Takes step
unfolding runs.step
step_takes = record { takes = λ draws m. step_later m (nat_lt m.steps 1000000) refl }

takes_step : {A : Type 0} (f : Unit {0} → Act A) → Takes (chain step f)
takes_step f = takes_first step f step_takes

steps_first : {A : Type 0} (f : Unit {0} → Act A) → Moves (chain step f)
steps_first f = takes_moves (chain step f) (takes_step f)

pure_moves : {A : Type 0} (a : A) → Moves (pure a)
pure_moves a = record { moves = λ draws m. inl refl }

fail_takes : {A : Type 0} (e : PyError) → Takes (fail {A = A} e)
fail_takes e = record { takes = λ draws m. tt }

choose_moves : {A : Type 0} (b : Bool) (p q : Act A) → Moves p → Moves q → Moves (choose b p q)
choose_moves true p q h k = h
choose_moves false p q h k = k

object_at_moves : (at : ℕ) → Moves (object_at at)
unfolding runs.object_at
object_at_moves at = record { moves = λ draws m. inl refl }

truth_moves : (held : Value) → Moves (truth_of held)
unfolding truth_of
truth_moves (value.Ref at) = moves_on (object_at at) _ (object_at_moves at) (λ object. pure_moves _)
truth_moves value.Nothing = pure_moves _
truth_moves (value.Bool truth) = pure_moves _
truth_moves (value.Number n) = pure_moves _
truth_moves (value.Text text) = pure_moves _
truth_moves (value.Builtin builtin) = pure_moves _

-- ---- expressions and statements

literal_takes : (constant : Literal) → Takes (literal_value constant)
unfolding literal_value
literal_takes literal.Nothing = takes_step _
literal_takes (literal.Bool truth) = takes_step _
literal_takes (literal.Number n) = takes_step _
literal_takes (literal.Text text) = takes_step _

module _ (inner : Inner) where
  module _ (evals : (e : Expr) → Moves (inner.eval e)) where
    any_moves : (e : Expr) (more : List Expr) → Moves (any_of inner e more)
    any_moves e [] = evals e
    any_moves e (next ∷ more) = moves_on _ _ (evals e) (λ held. moves_on _ _ (truth_moves held) (λ truth. choose_moves truth _ _ (pure_moves held) (steps_first _)))

    or_moves : (es : List Expr) → Moves (disjunction inner es)
    or_moves [] = pure_moves _
    or_moves (e ∷ more) = any_moves e more

    all_moves : (e : Expr) (more : List Expr) → Moves (all_of inner e more)
    all_moves e [] = evals e
    all_moves e (next ∷ more) = moves_on _ _ (evals e) (λ held. moves_on _ _ (truth_moves held) (λ truth. choose_moves truth _ _ (steps_first _) (pure_moves held)))

    and_moves : (es : List Expr) → Moves (conjunction inner es)
    and_moves [] = pure_moves _
    and_moves (e ∷ more) = all_moves e more

    relations_move : (left : Value) (rest : List Relation) → Moves (relations inner left rest)
    relations_move left [] = pure_moves _
    relations_move left (r ∷ more) = takes_moves _ (takes_first _ _ (takes_step _))

    operands_move : (total : Value) (rest : List Operand) → Moves (operands inner total rest)
    operands_move total [] = pure_moves total
    operands_move total (operand ∷ more) = takes_moves _ (takes_first _ _ (takes_first _ _ (takes_step _)))

    expression_moves : (x : Expr-F Expr Relation Operand Pair) → Moves (expression inner x)
    unfolding display sum sign negation conditional comparison dict_display index slice method call
    expression_moves (Expr-F.Name name) = steps_first _
    expression_moves (Expr-F.Literal constant) = takes_moves _ (literal_takes constant)
    expression_moves (Expr-F.ListOf es) = steps_first _
    expression_moves (Expr-F.TupleOf es) = steps_first _
    expression_moves (Expr-F.Conditional test first second) = steps_first _
    expression_moves (Expr-F.Or es) = or_moves es
    expression_moves (Expr-F.And es) = and_moves es
    expression_moves (Expr-F.Not e) = steps_first _
    expression_moves (Expr-F.Compare first rest) = moves_on _ _ (evals first) (λ left. relations_move left rest)
    expression_moves (Expr-F.Sum first rest) = moves_on _ _ (evals first) (λ total. operands_move total rest)
    expression_moves (Expr-F.Product first rest) = moves_on _ _ (evals first) (λ total. operands_move total rest)
    expression_moves (Expr-F.Sign minus e) = takes_moves _ (takes_first _ _ (takes_step _))
    expression_moves (Expr-F.Call callee args) = steps_first _
    expression_moves (Expr-F.Method on name args) = steps_first _
    expression_moves (Expr-F.DictOf pairs) = steps_first _
    expression_moves (Expr-F.Index e at) = steps_first _
    expression_moves (Expr-F.Slice e from to) = steps_first _

  deleted_takes : (into : Target) → Takes (deleted inner into)
  unfolding delete delete_item
  deleted_takes (target.Name name) = takes_first _ _ (takes_first _ _ (takes_step _))
  deleted_takes (target.Item on at) = takes_step _

  augment_takes : (into : Target) (o : Op) (e : Expr) → Takes (augment_at inner into o e)
  unfolding augment augment_item
  augment_takes (target.Name name) o e = takes_step _
  augment_takes (target.Item on at) o e = takes_step _

  return_takes : (e : Option Expr) → Takes (return inner e)
  return_takes None = takes_step _
  return_takes (Some e) = takes_first _ _ (takes_step _)

  statement_takes : (x : Stmt-F Stmt Arm Def) → Takes (statement inner x)
  unfolding assign define repeat for_each
  statement_takes Stmt-F.Pass = takes_step _
  statement_takes Stmt-F.Break = takes_step _
  statement_takes Stmt-F.Continue = takes_step _
  statement_takes (Stmt-F.Return e) = return_takes e
  statement_takes (Stmt-F.Global names) = takes_step _
  statement_takes (Stmt-F.Delete into) = deleted_takes into
  statement_takes (Stmt-F.Assign targets comma e) = takes_step _
  statement_takes (Stmt-F.Augment into o e) = augment_takes into o e
  statement_takes (Stmt-F.Expression e) = takes_first _ _ (takes_step _)
  statement_takes (Stmt-F.If tests other) = takes_step _
  statement_takes (Stmt-F.While test body) = takes_step _
  statement_takes (Stmt-F.For names comma source body) = takes_first _ _ (takes_step _)
  statement_takes (Stmt-F.Function def) = takes_step _

  block_moves : ((s : Stmt) → Takes (inner.exec s)) → (body : List Stmt) → Moves (block inner body)
  block_moves execs [] = pure_moves _
  block_moves execs (s ∷ more) = takes_moves _ (takes_first _ _ (execs s))

evals_at : (k : ℕ) (e : Expr) → Moves ((level k).eval e)
unfolding level
evals_at zero e = takes_moves _ (fail_takes _)
evals_at (suc k) e = expression_moves (level k) (evals_at k) (out-Expr e)

execs_at : (k : ℕ) (s : Stmt) → Takes ((level k).exec s)
unfolding level
execs_at zero s = fail_takes _
execs_at (suc k) s = statement_takes (level k) (out-Stmt s)

-- ---- what a `while` does

after_same : {A B : Type 0} (o : Outcome A) (f g : A → Machine → Outcome B) → ((a : A) (n : Machine) → o ≡ (Ok a, n) → f a n ≡ g a n) → after o.0 o.1 f ≡ after o.0 o.1 g
after_same (Ok a, n) f g h = h a n refl
after_same (Err e, n) f g h = refl

module _ (inner : Inner) (test : Expr) (body : List Stmt) (draws : List Drawn) where
  -- a turn by itself: where the test fails, it ends as if by `break`
  abbrev once : Act Flow
  once = inner.eval test >>= (λ held. truth_of held >>= (λ truth. choose truth (block inner body) (pure flow.Break)))

  -- what a loop does from the end of a turn on
  abbrev whole : Outcome Flow → Act Flow → Outcome Flow
  whole o more = after o.0 o.1 (λ ended. run (after_turn ended more) draws)

  abbrev kept : Act Flow → Bool → Act Flow
  kept more truth = choose truth (block inner body >>= (λ ended. after_turn ended more)) (pure flow.Next)

  whole_choice : (more : Act Flow) (o : Outcome Bool) → after o.0 o.1 (λ truth. run (kept more truth) draws) ≡ whole (after o.0 o.1 (λ truth. run (choose truth (block inner body) (pure flow.Break)) draws)) more
  whole_choice more (Ok true, n) = refl
  whole_choice more (Ok false, n) = refl
  whole_choice more (Err e, n) = refl

  whole_turn : (more : Act Flow) (o : Outcome Value) → after o.0 o.1 (λ held. run (truth_of held >>= kept more) draws) ≡ whole (after o.0 o.1 (λ held. run (truth_of held >>= (λ truth. choose truth (block inner body) (pure flow.Break))) draws)) more
  whole_turn more (Ok held, n) = whole_choice more (run (truth_of held) draws n)
  whole_turn more (Err e, n) = refl

  turn_is : (more : Act Flow) (m : Machine) → run (while_turn inner test body more) draws m ≡ whole (run once draws m) more
  turn_is more m = whole_turn more (run (inner.eval test) draws m)

  turns_are : (n : ℕ) (m : Machine) → run (turns inner (suc n) test body) draws m ≡ whole (run once draws m) (turns inner n test body)
  unfolding turns
  turns_are n m = turn_is (turns inner n test body) m

  none_left : (m : Machine) → run (turns inner zero test body) draws m ≡ raise step_limit_error m
  unfolding turns
  none_left m = refl

  -- a turn that goes on and leaves the machine as it was is made again and again
  stuck : (m x : Machine) (ended : Flow) → ((more : Act Flow) → after_turn ended more ≡ more) → run once draws m ≡ (Ok ended, x) → x ≡ m → (n : ℕ) → run (turns inner n test body) draws m ≡ raise step_limit_error m
  stuck m x ended again e same zero = none_left m
  stuck m x ended again e same (suc n) =
      turns_are n m ∙ (ap (λ (o : Outcome Flow). whole o (turns inner n test body)) e
      ∙ (ap (λ (p : Act Flow). run p draws x) (again (turns inner n test body)) ∙ (ap (run (turns inner n test body) draws) same ∙ stuck m x ended again e same n)))

  goes_same : (n j : ℕ) (m x : Machine) (ended : Flow) → ((more : Act Flow) → after_turn ended more ≡ more) → run once draws m ≡ (Ok ended, x) → (x ≡ m) ⊎ Later m x → ((y : Machine) → Later m y → run (turns inner n test body) draws y ≡ run (turns inner j test body) draws y)
      → run (turns inner n test body) draws x ≡ run (turns inner j test body) draws x
  goes_same n j m x ended again e (inl same) rest =
      ap (run (turns inner n test body) draws) same ∙ (stuck m x ended again e same n ∙ (sym (stuck m x ended again e same j) ∙ sym (ap (run (turns inner j test body) draws) same)))
  goes_same n j m x ended again e (inr later) rest = rest x later

  whole_same : (n j : ℕ) (m : Machine) (o : Outcome Flow) → run once draws m ≡ o → EndsSoon m o → ((y : Machine) → Later m y → run (turns inner n test body) draws y ≡ run (turns inner j test body) draws y)
      → whole o (turns inner n test body) ≡ whole o (turns inner j test body)
  whole_same n j m (Ok flow.Next, x) e h rest = goes_same n j m x flow.Next (λ more. refl) e h rest
  whole_same n j m (Ok flow.Continue, x) e h rest = goes_same n j m x flow.Continue (λ more. refl) e h rest
  whole_same n j m (Ok flow.Break, x) e h rest = refl
  whole_same n j m (Ok (flow.Return held), x) e h rest = refl
  whole_same n j m (Err stop, x) e h rest = refl

  module _ (evals : (e : Expr) → Moves (inner.eval e)) (execs : (s : Stmt) → Takes (inner.exec s)) where
    once_moves : Moves once
    once_moves = moves_on _ _ (evals test) (λ held. moves_on _ _ (truth_moves held) (λ truth. choose_moves truth _ _ (block_moves inner execs body) (pure_moves flow.Break)))

    from_rest : (n j : ℕ) (m : Machine) → ((y : Machine) → Later m y → run (turns inner n test body) draws y ≡ run (turns inner j test body) draws y)
        → run (turns inner (suc n) test body) draws m ≡ run (turns inner (suc j) test body) draws m
    from_rest n j m rest = turns_are n m ∙ (whole_same n j m (run once draws m) refl (once_moves.moves draws m) rest ∙ sym (turns_are j m))

    -- two bounds past the steps that are left
    turns_same : (n j : ℕ) (m : Machine) → 1000000 ≤ n + m.steps → 1000000 ≤ j + m.steps → run (turns inner (suc n) test body) draws m ≡ run (turns inner (suc j) test body) draws m
    turns_same zero j m h k = from_rest zero j m (λ y l. absurd (omega (arith, l.more, l.few)))
    turns_same (suc n) zero m h k = from_rest (suc n) zero m (λ y l. absurd (omega (arith, l.more, l.few)))
    turns_same (suc n) (suc j) m h k = from_rest (suc n) (suc j) m (λ y l. turns_same n j y (omega (arith, l.more)) (omega (arith, l.more)))

-- ---- what a `for` does

others_take : (names : List Name) (comma : Bool) (held : Value) → Takes (step >> names_given comma names held)
others_take names comma held = takes_step _

rises_to : {A : Type 0} (p : Act A) (draws : List Drawn) (m n : Machine) (a : A) → run p draws m ≡ (Ok a, n) → Rises m n
rises_to {A = A} p draws m n a e = subst (λ (o : Outcome A). Rises m o.1) e (rises p draws m)

ends_later : {A : Type 0} (p : Act A) → Takes p → (draws : List Drawn) (m n : Machine) (a : A) → run p draws m ≡ (Ok a, n) → Later m n
ends_later {A = A} p h draws m n a e = subst (λ (o : Outcome A). EndsLater m o) e (h.takes draws m)

module _ (inner : Inner) (names : List Name) (comma : Bool) (body : List Stmt) (draws : List Drawn) where
  module _ (f g : Iteration → Act Flow) where
    flow_same : (ended : Flow) (rest : Iteration) (y : Machine) → run (f rest) draws y ≡ run (g rest) draws y → run (after_turn ended (f rest)) draws y ≡ run (after_turn ended (g rest)) draws y
    flow_same flow.Next rest y h = h
    flow_same flow.Continue rest y h = h
    flow_same flow.Break rest y h = refl
    flow_same (flow.Return held) rest y h = refl

    passes : (m x y : Machine) → m.steps ≤ x.steps → Later x y → Later m y
    passes m x y h l = record { more = omega (arith, l.more); few = l.few }

    passes_on : (m y z : Machine) → Later m y → Rises y z → Later m z
    passes_on m y z l r = record { more = omega (arith, l.more, r.steps); few = r.few_steps l.few }

    block_same : (m y : Machine) (rest : Iteration) → Later m y → ((rest : Iteration) (y : Machine) → Later m y → run (f rest) draws y ≡ run (g rest) draws y)
        → run (block inner body >>= (λ ended. after_turn ended (f rest))) draws y ≡ run (block inner body >>= (λ ended. after_turn ended (g rest))) draws y
    block_same m y rest l h =
        after_same (run (block inner body) draws y) (λ ended. run (after_turn ended (f rest)) draws) (λ ended. run (after_turn ended (g rest)) draws)
        (λ ended z e. flow_same ended rest z (h rest z (passes_on m y z l (rises_to (block inner body) draws y z ended e))))

    next_same : (m x : Machine) (next : Next) → m.steps ≤ x.steps → ((rest : Iteration) (y : Machine) → Later m y → run (f rest) draws y ≡ run (g rest) draws y)
        → run (turn inner names comma next (λ rest. block inner body >>= (λ ended. after_turn ended (f rest)))) draws x ≡ run (turn inner names comma next (λ rest. block inner body >>= (λ ended. after_turn ended (g rest)))) draws x
    next_same m x None s h = refl
    next_same m x (Some next) s h =
        after_same (run (step >> names_given comma names next.0) draws x) (λ u. run (block inner body >>= (λ ended. after_turn ended (f next.1))) draws) (λ u. run (block inner body >>= (λ ended. after_turn ended (g next.1))) draws)
        (λ u y e. block_same m y next.1 (passes m x y s (ends_later (step >> names_given comma names next.0) (others_take names comma next.0) draws x y u e)) h)

    for_same : (from : Iteration) (m : Machine) → ((rest : Iteration) (y : Machine) → Later m y → run (f rest) draws y ≡ run (g rest) draws y)
        → run (for_turn inner names comma body from f) draws m ≡ run (for_turn inner names comma body from g) draws m
    for_same from m h =
        after_same (run (advance from) draws m) (λ next. run (turn inner names comma next (λ rest. block inner body >>= (λ ended. after_turn ended (f rest)))) draws) (λ next. run (turn inner names comma next (λ rest. block inner body >>= (λ ended. after_turn ended (g rest)))) draws)
        (λ next x e. next_same m x next (rises_to (advance from) draws m x next e).steps h)

  rounds_are : (n : ℕ) (from : Iteration) (m : Machine) → run (rounds inner (suc n) names comma body from) draws m ≡ run (for_turn inner names comma body from (rounds inner n names comma body)) draws m
  unfolding rounds
  rounds_are n from m = refl

  rounds_from : (n j : ℕ) (from : Iteration) (m : Machine) → ((rest : Iteration) (y : Machine) → Later m y → run (rounds inner n names comma body rest) draws y ≡ run (rounds inner j names comma body rest) draws y)
      → run (rounds inner (suc n) names comma body from) draws m ≡ run (rounds inner (suc j) names comma body from) draws m
  rounds_from n j from m rest = rounds_are n from m ∙ (for_same (rounds inner n names comma body) (rounds inner j names comma body) from m rest ∙ sym (rounds_are j from m))

  rounds_same : (n j : ℕ) (from : Iteration) (m : Machine) → 1000000 ≤ n + m.steps → 1000000 ≤ j + m.steps → run (rounds inner (suc n) names comma body from) draws m ≡ run (rounds inner (suc j) names comma body from) draws m
  rounds_same zero j from m h k = rounds_from zero j from m (λ rest y l. absurd (omega (arith, l.more, l.few)))
  rounds_same (suc n) zero from m h k = rounds_from (suc n) zero from m (λ rest y l. absurd (omega (arith, l.more, l.few)))
  rounds_same (suc n) (suc j) from m h k = rounds_from (suc n) (suc j) from m (λ rest y l. rounds_same n j rest y (omega (arith, l.more)) (omega (arith, l.more)))

-- ---- the bound

module _ (levels : ℕ) where
  whiles_from : (n : ℕ) (test : Expr) (body : List Stmt) → 1000000 ≤ n → RunAlike (turns (level levels) (suc n) test body) (turns (level levels) most_turns test body)
  whiles_from n test body h draws m = turns_same (level levels) test body draws (evals_at levels) (execs_at levels) n 1000000 m (omega arith) (omega arith)

  pub whiles : (n : ℕ) (test : Expr) (body : List Stmt) → most_turns ≤ n → RunAlike (turns (level levels) n test body) (turns (level levels) most_turns test body)
  whiles zero test body h = absurd (omega arith)
  whiles (suc n) test body h = whiles_from n test body (omega arith)

  pub while_again : (test : Expr) (body : List Stmt) → RunAlike (turns (level levels) most_turns test body) (while_turn (level levels) test body (turns (level levels) most_turns test body))
  while_again test body draws m =
      sym (whiles_from 1000001 test body (omega arith) draws m) ∙ (turns_are (level levels) test body draws most_turns m ∙ sym (turn_is (level levels) test body draws (turns (level levels) most_turns test body) m))

  fors_from : (n : ℕ) (names : List Name) (comma : Bool) (body : List Stmt) (from : Iteration) → 1000000 ≤ n → RunAlike (rounds (level levels) (suc n) names comma body from) (rounds (level levels) most_turns names comma body from)
  fors_from n names comma body from h draws m = rounds_same (level levels) names comma body draws n 1000000 from m (omega arith) (omega arith)

  pub fors : (n : ℕ) (names : List Name) (comma : Bool) (body : List Stmt) (from : Iteration) → most_turns ≤ n → RunAlike (rounds (level levels) n names comma body from) (rounds (level levels) most_turns names comma body from)
  fors zero names comma body from h = absurd (omega arith)
  fors (suc n) names comma body from h = fors_from n names comma body from (omega arith)

  pub for_again : (names : List Name) (comma : Bool) (body : List Stmt) (from : Iteration) → RunAlike (rounds (level levels) most_turns names comma body from) (for_turn (level levels) names comma body from (rounds (level levels) most_turns names comma body))
  for_again names comma body from draws m = sym (fors_from 1000001 names comma body from (omega arith) draws m) ∙ rounds_are (level levels) names comma body draws most_turns from m
