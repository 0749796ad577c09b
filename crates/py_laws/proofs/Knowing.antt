-- A cell uses only names that are in its statements or in functions of its state: the two runs of the law that it keeps a state
-- closed, under the rules of such names.
use Rattle.std.proofs.Common.{◌≡◌, ℕ, Bool, true, false, IsTrue, cond, List, [], ◌∷◌, ◌++◌, get_or, map, Option, Some, None, refl, subst, arith, ◌⊎◌, inl, inr}
use Rattle.std.specs.Prelude.{slice_get}
use Rattle.std.specs.List.{AllByRecursion}
use Rattle.std.proofs.lemmas.Option.{slice_get-get_or, slice_get_within, get_or_from_slice_get}
use Rattle.std.proofs.lemmas.List.Elements.{All-from_recursion, recursion_from_All}
use Rattle.nb_outside.specs.declared.feed.Drawn.{Drawn}
use Rattle.py_tree.specs.declared.expressions.Expr.{Expr, out-Expr}
use Rattle.py_tree.specs.declared.expressions.Expr.TheOpen.{Expr-F, Relation-F}
use Rattle.py_tree.specs.declared.expressions.Expr.TheFolds.{map-Expr, map-Relation, fold_out-Expr, fold_out-Relation, fold_out-Operand, fold_out-Pair}
use Rattle.py_tree.specs.declared.expressions.Operand.{Operand, out-Operand}
use Rattle.py_tree.specs.declared.expressions.Pair.{Pair, out-Pair}
use Rattle.py_tree.specs.declared.expressions.Relation.{Relation, out-Relation}
use Rattle.py_tree.specs.declared.expressions.Target.{Target}
use Rattle.py_tree.specs.declared.expressions.Target.TheVariants as target
use Rattle.py_tree.specs.declared.statements.Arm.{Arm, out-Arm}
use Rattle.py_tree.specs.declared.statements.Def.{Def, out-Def}
use Rattle.py_tree.specs.declared.statements.Stmt.{Stmt, out-Stmt}
use Rattle.py_tree.specs.declared.statements.Stmt.TheOpen.{Stmt-F}
use Rattle.py_tree.specs.declared.statements.Stmt.TheFolds.{map-Stmt, fold_out-Stmt, fold_out-Arm, fold_out-Def}
use Rattle.py_tree.specs.Locals.{Names, joined}
use Rattle.py_value.specs.declared.value.Value.{Value}
use Rattle.py_heap.specs.declared.heap.Object.{Object}
use Rattle.py_heap.specs.declared.heap.Object.TheVariants as object
use Rattle.py_heap.specs.declared.heap.SequenceKind.{SequenceKind}
use Rattle.py_heap.specs.declared.heap.SequenceKind.TheVariants as sequences
use Rattle.py_heap.specs.Sequences.{sequence}
use Rattle.py_heap.specs.declared.state.State.{State}
use Rattle.py_heap.specs.Dicts.{Pairs}
use Rattle.py_heap.specs.References.{IsClosed}
use Rattle.py_machine.specs.declared.frame.Change.{Change}
use Rattle.py_machine.specs.declared.frame.Change.TheVariants as change
use Rattle.py_machine.specs.Changes.{changed, changed_items, changed_pairs, changed_handle}
use Rattle.py_machine.specs.Marked.{IsIn}
use Rattle.py_machine.specs.Runs.{Name, start}
use Rattle.py_meaning.specs.Cells.{outcome, end_state}
use Rattle.py_laws.specs.Same.{Every}
use Rattle.py_laws.specs.Mentioned.{expression_step, relation_step, operand_step, pair_step, names_of, names_of_relation, names_of_operand, names_of_pair, if_names, names_at, names_at_all, statement_step, arm_step, def_step, names_by, names_by_arm, names_by_def, names_in, AllPass, NamesPass, FunctionsPass}
use Rattle.py_laws.proofs.Sameness.{Itself, same_by_itself}
use Rattle.py_laws.proofs.Members.{no_name}
use Rattle.py_laws.proofs.Rules.{Rules, IfThere, IfEvals, EvalsRight, Looks, BindsAt, Opens, NameAny}
use Rattle.py_laws.proofs.Respecting.{Setting, Alike, Ends, Equal}
use Rattle.py_laws.proofs.Constructs.{cell_respects}
use Rattle.py_laws.proofs.Framing as framing

-- if each element of a list has P, each has what follows from P
pub each_more : {X : Type 0} (P Q : X → Type 0) → ((x : X) → P x → Q x) → (xs : List X) → AllByRecursion P xs → AllByRecursion Q xs
each_more P Q f [] h = tt
each_more P Q f (x ∷ xs) h = (f x h.0, each_more P Q f xs h.1)

module _ (Known : Name → Type 0) where
  abbrev pub Pass : Names → Type 0
  Pass = AllByRecursion Known

  -- ---- pieces of a list of names

  pub parts : (xs ys : Names) → Pass (xs ++ ys) → Pass xs × Pass ys
  parts [] ys h = (tt, h)
  parts (x ∷ xs) ys h = let w = parts xs ys h.1 in ((h.0, w.0), w.1)

  pub each_part : {X : Type 0} (f : X → Names) (xs : List X) → Pass (joined (map f xs)) → AllByRecursion (λ x. Pass (f x)) xs
  each_part f [] h = tt
  each_part f (x ∷ xs) h = let w = parts (f x) (joined (map f xs)) h in (w.0, each_part f xs w.1)

  -- ---- expressions

  abbrev pub Evals : Expr → Type 0
  Evals e = Pass (names_of e)

  right_layer : (r : Relation-F Expr Relation Operand Pair) → Pass (relation_step (map-Relation Expr Relation Operand Pair Names Names Names Names names_of names_of_relation names_of_operand names_of_pair r)) → EvalsRight Evals r
  right_layer (Relation-F.With o e) h = h
  right_layer Relation-F.IsNone h = tt
  right_layer Relation-F.IsNotNone h = tt

  right : (r : Relation) → Pass (names_of_relation r) → EvalsRight Evals (out-Relation r)
  unfolding names_of_relation names_of names_of_operand names_of_pair
  right r h = right_layer (out-Relation r) (subst Pass (fold_out-Relation Names Names Names Names expression_step relation_step operand_step pair_step r) h)

  operand : (o : Operand) → Pass (names_of_operand o) → Evals (out-Operand o).value
  unfolding names_of_relation names_of names_of_operand names_of_pair
  operand o h = subst Pass (fold_out-Operand Names Names Names Names expression_step relation_step operand_step pair_step o) h

  pair : (p : Pair) → Pass (names_of_pair p) → Evals (out-Pair p).key × Evals (out-Pair p).value
  unfolding names_of_relation names_of names_of_operand names_of_pair
  pair p h = parts (names_of (out-Pair p).key) (names_of (out-Pair p).value) (subst Pass (fold_out-Pair Names Names Names Names expression_step relation_step operand_step pair_step p) h)

  abbrev Rights : List Relation → Type 0
  Rights = AllByRecursion (λ r. EvalsRight Evals (out-Relation r))

  abbrev Operands : List Operand → Type 0
  Operands = AllByRecursion (λ o. Evals (out-Operand o).value)

  rights : (rs : List Relation) → Pass (joined (map names_of_relation rs)) → Rights rs
  rights rs h = each_more _ _ right rs (each_part names_of_relation rs h)

  operands : (os : List Operand) → Pass (joined (map names_of_operand os)) → Operands os
  operands os h = each_more _ _ operand os (each_part names_of_operand os h)

  first_and : (e : Expr) (es : List Expr) → Pass (names_of e ++ joined (map names_of es)) → Evals e × AllByRecursion Evals es
  first_and e es h = let w = parts (names_of e) _ h in (w.0, each_part names_of es w.1)

  chained : (e : Expr) (os : List Operand) → Pass (names_of e ++ joined (map names_of_operand os)) → Evals e × Operands os
  chained e os h = let w = parts (names_of e) _ h in (w.0, operands os w.1)

  looks_layer : (x : Expr-F Expr Relation Operand Pair) → Pass (expression_step (map-Expr Expr Relation Operand Pair Names Names Names Names names_of names_of_relation names_of_operand names_of_pair x)) → Looks Known Evals x
  looks_layer (Expr-F.Name name) h = h.0
  looks_layer (Expr-F.Literal constant) h = tt
  looks_layer (Expr-F.ListOf es) h = each_part names_of es h
  looks_layer (Expr-F.TupleOf es) h = each_part names_of es h
  looks_layer (Expr-F.DictOf ps) h = each_more _ _ pair ps (each_part names_of_pair ps h)
  looks_layer (Expr-F.Conditional test first second) h =
      let w = parts (names_of test) (names_of first ++ names_of second) h in
      let v = parts (names_of first) (names_of second) w.1 in
      (w.0, v.0, v.1)
  looks_layer (Expr-F.Or es) h = each_part names_of es h
  looks_layer (Expr-F.And es) h = each_part names_of es h
  looks_layer (Expr-F.Not e) h = h
  looks_layer (Expr-F.Compare first rest) h = let w = parts (names_of first) (joined (map names_of_relation rest)) h in (w.0, rights rest w.1)
  looks_layer (Expr-F.Sum first rest) h = chained first rest h
  looks_layer (Expr-F.Product first rest) h = chained first rest h
  looks_layer (Expr-F.Sign minus e) h = h
  looks_layer (Expr-F.Call callee args) h = first_and callee args h
  looks_layer (Expr-F.Index e at) h = parts (names_of e) (names_of at) h
  looks_layer (Expr-F.Slice e None None) h = let w = parts (names_of e) [] h in (w.0, tt, tt)
  looks_layer (Expr-F.Slice e (Some from) None) h =
      let w = parts (names_of e) (names_of from ++ []) h in
      (w.0, (parts (names_of from) [] w.1).0, tt)
  looks_layer (Expr-F.Slice e None (Some to)) h = let w = parts (names_of e) (names_of to) h in (w.0, tt, w.1)
  looks_layer (Expr-F.Slice e (Some from) (Some to)) h =
      let w = parts (names_of e) (names_of from ++ names_of to) h in
      let v = parts (names_of from) (names_of to) w.1 in
      (w.0, v.0, v.1)
  looks_layer (Expr-F.Method on name args) h = first_and on args h.1

  pub looks : (e : Expr) → Evals e → Looks Known Evals (out-Expr e)
  unfolding names_of_relation names_of names_of_operand names_of_pair
  looks e h = looks_layer (out-Expr e) (subst Pass (fold_out-Expr Names Names Names Names expression_step relation_step operand_step pair_step e) h)

  -- ---- objects: a change makes no function

  abbrev Fit : Object → Type 0
  Fit (object.Function def) = Pass (names_by_def def)
  Fit _ = Unit {0}

  list_there : (b : Bool) (items : List Value) → IfThere Fit (cond b (Some (object.List items)) None)
  list_there true items = tt
  list_there false items = tt

  items_fit : (p : Change) (items : List Value) → IfThere Fit (changed_items p items)
  items_fit (change.Push last) items = tt
  items_fit (change.Extend more) items = tt
  items_fit (change.Insert at item) items = list_there _ _
  items_fit (change.Set at item) items = list_there _ _
  items_fit (change.Remove at) items = list_there _ _
  items_fit change.Clear items = tt
  items_fit _ items = tt

  pairs_fit : (p : Change) (pairs : Pairs) → IfThere Fit (changed_pairs p pairs)
  pairs_fit (change.Put key held) pairs = tt
  pairs_fit (change.Drop key) pairs = tt
  pairs_fit change.Clear pairs = tt
  pairs_fit _ pairs = tt

  handle_fit : (p : Change) (name : List ℕ) (uses : ℕ) → IfThere Fit (changed_handle p name uses)
  handle_fit change.Use name uses = tt
  handle_fit _ name uses = tt

  stays_fit : (p : Change) (o : Object) → IfThere Fit (changed p o)
  stays_fit p (object.List items) = items_fit p items
  stays_fit p (object.Tuple items) = tt
  stays_fit p (object.Dict pairs) = pairs_fit p pairs
  stays_fit p (object.Function def) = tt
  stays_fit p (object.Handle name uses) = handle_fit p name uses

  sequence_fit : (kind : SequenceKind) (items : List Value) → Fit (sequence kind items)
  sequence_fit sequences.List items = tt
  sequence_fit sequences.Tuple items = tt

  -- ---- statements

  abbrev Runs : Stmt → Type 0
  Runs s = Pass (names_by s)

  abbrev Binds : Name → Type 0
  Binds name = NameAny name × Known name

  runs_each : (body : List Stmt) → Pass (joined (map names_by body)) → AllByRecursion Runs body
  runs_each body h = each_part names_by body h

  arm : (a : Arm) → Pass (names_by_arm a) → Evals (out-Arm a).test × AllByRecursion Runs (out-Arm a).body
  unfolding names_by names_by_arm names_by_def
  arm a h =
      let w = parts (names_of (out-Arm a).test) (joined (map names_by (out-Arm a).body)) (subst Pass (fold_out-Arm Names Names Names statement_step arm_step def_step a) h) in
      (w.0, runs_each (out-Arm a).body w.1)

  of_def : (def : Def) → Pass (names_by_def def) → Pass ((out-Def def).name ∷ ((out-Def def).params ++ joined (map names_by (out-Def def).body)))
  unfolding names_by names_by_arm names_by_def
  of_def def h = subst Pass (fold_out-Def Names Names Names statement_step arm_step def_step def) h

  bodies : (def : Def) → Fit (object.Function def) → AllByRecursion Runs def.body
  bodies def h = runs_each (out-Def def).body (parts (out-Def def).params (joined (map names_by (out-Def def).body)) (of_def def h).1).1

  if_evals : (e : Option Expr) → Pass (if_names e) → IfEvals Evals e
  if_evals None h = tt
  if_evals (Some e) h = h

  deletes : (into : Target) → Pass (names_at into) → BindsAt Known Evals into
  deletes (target.Name name) h = h.0
  deletes (target.Item on at) h = parts (names_of on) (names_of at) h

  binds : (into : Target) → Pass (names_at into) → BindsAt Binds Evals into
  binds (target.Name name) h = (tt, h.0)
  binds (target.Item on at) h = parts (names_of on) (names_of at) h

  all_bind : (targets : List Target) → Pass (names_at_all targets) → AllByRecursion (BindsAt Binds Evals) targets
  all_bind targets h = each_more _ _ binds targets (each_part names_at targets h)

  all_named : (names : Names) → Pass names → AllByRecursion Binds names
  all_named [] h = tt
  all_named (name ∷ names) h = ((tt, h.0), all_named names h.1)

  assigns : (into : Target) (e : Expr) → Pass (names_at into ++ names_of e) → BindsAt Binds Evals into × Evals e
  assigns into e h = let w = parts (names_at into) (names_of e) h in (binds into w.0, w.1)

  opens_layer : (x : Stmt-F Stmt Arm Def) → Pass (statement_step (map-Stmt Stmt Arm Def Names Names Names names_by names_by_arm names_by_def x)) → Opens Binds Known Fit Evals Runs x
  opens_layer (Stmt-F.Return e) h = if_evals e h
  opens_layer (Stmt-F.Delete into) h = deletes into h
  opens_layer (Stmt-F.Assign targets comma e) h = let w = parts (names_at_all targets) (names_of e) h in (all_bind targets w.0, w.1)
  opens_layer (Stmt-F.Augment into o e) h = assigns into e h
  opens_layer (Stmt-F.Expression e) h = h
  opens_layer (Stmt-F.If arms other) h =
      let w = parts (joined (map names_by_arm arms)) (joined (map names_by other)) h in
      (each_more _ _ arm arms (each_part names_by_arm arms w.0), runs_each other w.1)
  opens_layer (Stmt-F.While test body) h = let w = parts (names_of test) (joined (map names_by body)) h in (w.0, runs_each body w.1)
  opens_layer (Stmt-F.For names comma source body) h =
      let w = parts names (names_of source ++ joined (map names_by body)) h in
      let v = parts (names_of source) (joined (map names_by body)) w.1 in
      (all_named names w.0, v.0, runs_each body v.1)
  opens_layer (Stmt-F.Function def) h = ((tt, (of_def def h).0), h)
  opens_layer Stmt-F.Pass h = tt
  opens_layer Stmt-F.Break h = tt
  opens_layer Stmt-F.Continue h = tt
  opens_layer (Stmt-F.Global names) h = tt

  opens : (s : Stmt) → Runs s → Opens Binds Known Fit Evals Runs (out-Stmt s)
  unfolding names_by names_by_arm names_by_def
  opens s h = opens_layer (out-Stmt s) (subst Pass (fold_out-Stmt Names Names Names statement_step arm_step def_step s) h)

  abbrev rules : Rules
  rules = record {
    may = NameAny;
    known = Known;
    fit = Fit;
    evals = Evals;
    runs = Runs;
    sequence_fit = sequence_fit;
    dict_fit = tt;
    handle_fit = λ name uses. tt;
    change_fit = λ p o h. stays_fit p o;
    looks = looks;
    opens = opens;
    bodies = bodies;
  }

-- ---- the runs

module _ (test : Name → Bool) where
  abbrev Passes : Name → Type 0
  Passes name = IsTrue (test name)

  to_fit : (o : Object) → NamesPass test o → Fit Passes o
  to_fit (object.Function def) h = recursion_from_All Passes (names_by_def def) h
  to_fit (object.List items) h = tt
  to_fit (object.Tuple items) h = tt
  to_fit (object.Dict pairs) h = tt
  to_fit (object.Handle name uses) h = tt

  from_fit : (o : Object) → Fit Passes o → NamesPass test o
  from_fit (object.Function def) h = All-from_recursion Passes (names_by_def def) h
  from_fit (object.List items) h = tt
  from_fit (object.Tuple items) h = tt
  from_fit (object.Dict pairs) h = tt
  from_fit (object.Handle name uses) h = tt

  module _ (body : List Stmt) (draws : List Drawn) (s : State) (closed : IsClosed s) (stand : AllPass test (names_in body)) (functions : FunctionsPass test s) where
    abbrev lawless : Setting
    lawless = framing.setting Every body draws s s refl (λ name l. tt) (Itself s closed) (same_by_itself s closed Every)

    abbrev ruled : Setting
    ruled = record lawless { rules = rules Passes }

    heap_fit : (a : ℕ) (o : Object) (e : slice_get s.heap a ≡ Some o) → Fit Passes o
    heap_fit a o e = subst (Fit Passes) (get_or_from_slice_get s.heap a o o e) (to_fit (get_or s.heap a o) (functions a o (slice_get_within s.heap a o e)))

    begins : Alike ruled (start s) (start s)
    begins =
        let b : Alike lawless (start s) (start s) = framing.begins Every body draws s s refl (λ name l. tt) (Itself s closed) (same_by_itself s closed Every) in
        record {
          counts = b.counts;
          marks = b.marks;
          frame = b.frame;
          names = b.names;
          heaps = record { objects = b.heaps.objects; added = b.heaps.added; left_size = b.heaps.left_size; right_size = b.heaps.right_size };
          may = λ x v e. tt;
          known = λ x w. elim w [ inl none ↦ absurd (no_name x none) | inr none ↦ absurd (no_name x none) ];
          fit = heap_fit;
        }

    ended : Ends ruled Equal (outcome body s draws) (outcome body s draws)
    ended = (cell_respects ruled body (runs_each Passes body (recursion_from_All Passes (names_in body) stand))).ends draws (start s) (start s) begins
        (record { looks = λ name l. tt; size = omega (arith, framing.grows Every body draws s s refl (λ name l. tt)) })

    pub used : (x : Name) → IsIn (outcome body s draws).1.marks.looked x ⊎ IsIn (outcome body s draws).1.marks.bound x → IsTrue (test x)
    used = ended.alike.known

    pub functions_after : FunctionsPass test (end_state body s draws)
    functions_after = λ k d l.
        let o : Object = get_or (end_state body s draws).heap k d in
        from_fit o (ended.alike.fit k o (slice_get-get_or (end_state body s draws).heap k d l))
