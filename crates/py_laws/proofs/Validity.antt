-- A cell keeps a state valid: the two runs of the law that it keeps a state closed, under the rules of valid states.
use Rattle.std.proofs.Common.{◌≡◌, ℕ, Bool, true, false, IsTrue, cond, List, [], ◌∷◌, get_or, map, Some, None, refl, subst, arith}
use Rattle.std.specs.Prelude.{All, slice_get}
use Rattle.std.specs.List.{AllByRecursion, IsDistinct}
use Rattle.std.proofs.lemmas.Option.{slice_get-get_or, slice_get_within, get_or_from_slice_get}
use Rattle.std.proofs.lemmas.List.Elements.{All-head, All-tail}
use Rattle.nb_outside.specs.declared.feed.Drawn.{Drawn}
use Rattle.py_names.specs.Names.{is_variable}
use Rattle.py_tree.specs.declared.expressions.Expr.{out-Expr}
use Rattle.py_tree.specs.declared.expressions.Target.{Target}
use Rattle.py_tree.specs.declared.expressions.Target.TheVariants as target
use Rattle.py_tree.specs.declared.statements.Arm.{Arm, out-Arm}
use Rattle.py_tree.specs.declared.statements.Def.{Def}
use Rattle.py_tree.specs.declared.statements.Stmt.{Stmt, out-Stmt}
use Rattle.py_tree.specs.declared.statements.Stmt.TheOpen.{Stmt-F, Arm-F}
use Rattle.py_tree.specs.declared.statements.Stmt.TheFolds.{every-Stmt, every-Arm, every-Def, every_here-Stmt, every_held-Stmt, every_held-Arm, map-Stmt}
use Rattle.py_value.specs.declared.value.Value.{Value}
use Rattle.py_heap.specs.declared.heap.Object.{Object}
use Rattle.py_heap.specs.declared.heap.Object.TheVariants as object
use Rattle.py_heap.specs.declared.heap.SequenceKind.{SequenceKind}
use Rattle.py_heap.specs.declared.heap.SequenceKind.TheVariants as sequences
use Rattle.py_heap.specs.Sequences.{sequence}
use Rattle.py_heap.specs.declared.state.State.{State}
use Rattle.py_heap.specs.Dicts.{Pairs, HasNoKeyTwice}
use Rattle.py_heap.specs.Valid.{IsValidObject, IsValid}
use Rattle.py_heap.proofs.Pairs.{with_pair_distinct, without_key_distinct}
use Rattle.py_machine.specs.declared.frame.Change.{Change}
use Rattle.py_machine.specs.declared.frame.Change.TheVariants as change
use Rattle.py_machine.specs.Changes.{changed, changed_items, changed_pairs, changed_handle}
use Rattle.py_machine.specs.Runs.{Name, start}
use Rattle.py_meaning.specs.Cells.{outcome, end_state}
use Rattle.py_meaning.specs.Meaning.{cell}
use Rattle.py_meaning.proofs.Growing.{Rises, rises}
use Rattle.py_laws.specs.Same.{Every}
use Rattle.py_laws.specs.Allowed.{MayBindAt, IsAllowedHere, ArmAny, DefAny, AreAllowed}
use Rattle.py_laws.proofs.Sameness.{Itself, same_by_itself}
use Rattle.py_laws.proofs.Rules.{Rules, IfThere, BindsAt, Opens, NameAny, ExprAny, any_if, any_looks, any_deleted}
use Rattle.py_laws.proofs.Respecting.{Setting, Alike, Ends, Equal}
use Rattle.py_laws.proofs.Constructs.{cell_respects}
use Rattle.py_laws.proofs.Framing as framing
use Rattle.py_laws.proofs.Closing.{closed_after}

pub each : {A : Type 0} (P : A → Type 0) (xs : List A) → All P xs → AllByRecursion P xs
each P [] h = tt
each P (x ∷ xs) h = (All-head P x xs h, each P xs (All-tail P x xs h))

pub nothing_twice : HasNoKeyTwice []
unfolding IsDistinct
nothing_twice = tt

module _ (IsOfKind : Def → Type 0) where
  abbrev pub May : Name → Type 0
  May name = IsTrue (is_variable name)

  abbrev pub Fit : Object → Type 0
  Fit = IsValidObject IsOfKind

  abbrev pub Runs : Stmt → Type 0
  Runs = every-Stmt (IsAllowedHere IsOfKind) ArmAny DefAny

  abbrev RunsArm : Arm → Type 0
  RunsArm = every-Arm (IsAllowedHere IsOfKind) ArmAny DefAny

  abbrev RunsDef : Def → Type 0
  RunsDef = every-Def (IsAllowedHere IsOfKind) ArmAny DefAny

  -- ---- what is inside a statement

  abbrev ThatRuns : Type 0
  ThatRuns = (s : Stmt) × Runs s

  abbrev ArmThatRuns : Type 0
  ArmThatRuns = (arm : Arm) × RunsArm arm

  abbrev DefThatRuns : Type 0
  DefThatRuns = (def : Def) × RunsDef def

  runs_each : (xs : List ThatRuns) → AllByRecursion Runs (map (λ e. e.0) xs)
  runs_each [] = tt
  runs_each (x ∷ xs) = (x.1, runs_each xs)

  arm_runs : (arm : Arm) → RunsArm arm → AllByRecursion Runs (out-Arm arm).body
  arm_runs arm h =
      let w = every_held-Arm (IsAllowedHere IsOfKind) ArmAny DefAny arm h in
      subst (λ (x : Arm-F Stmt Arm Def). AllByRecursion Runs x.body) w.1 (runs_each w.0.body)

  arms_run : (xs : List ArmThatRuns) → AllByRecursion (λ arm. ExprAny (out-Arm arm).test × AllByRecursion Runs (out-Arm arm).body) (map (λ e. e.0) xs)
  arms_run [] = tt
  arms_run (x ∷ xs) = ((tt, arm_runs x.0 x.1), arms_run xs)

  abbrev plain : Stmt-F ThatRuns ArmThatRuns DefThatRuns → Stmt-F Stmt Arm Def
  plain = map-Stmt ThatRuns ArmThatRuns DefThatRuns Stmt Arm Def (λ e. e.0) (λ e. e.0) (λ e. e.0)

  -- a name that may have a value; any name may be looked up and deleted
  abbrev Binds : Name → Type 0
  Binds name = May name × NameAny name

  binds : (into : Target) → MayBindAt into → BindsAt Binds ExprAny into
  binds (target.Name name) h = (h, tt)
  binds (target.Item on at) h = (tt, tt)

  all_bind : (targets : List Target) → All MayBindAt targets → AllByRecursion (BindsAt Binds ExprAny) targets
  all_bind [] h = tt
  all_bind (into ∷ targets) h = (binds into (All-head MayBindAt into targets h), all_bind targets (All-tail MayBindAt into targets h))

  all_named : (names : List Name) → All May names → AllByRecursion Binds names
  all_named [] h = tt
  all_named (name ∷ names) h = ((All-head May name names h, tt), all_named names (All-tail May name names h))

  abbrev OpensHere : Stmt-F Stmt Arm Def → Type 0
  OpensHere = Opens Binds NameAny Fit ExprAny Runs

  opens : (y : Stmt-F ThatRuns ArmThatRuns DefThatRuns) → IsAllowedHere IsOfKind (plain y) → OpensHere (plain y)
  opens (Stmt-F.Return e) h = any_if e
  opens (Stmt-F.Delete into) h = any_deleted into
  opens (Stmt-F.Assign targets comma e) h = (all_bind targets h, tt)
  opens (Stmt-F.Augment into o e) h = (binds into h, tt)
  opens (Stmt-F.Expression e) h = tt
  opens (Stmt-F.If arms other) h = (arms_run arms, runs_each other)
  opens (Stmt-F.While condition body) h = (tt, runs_each body)
  opens (Stmt-F.For names comma source body) h = (all_named names h, tt, runs_each body)
  opens (Stmt-F.Function def) h = ((h.0, tt), h.1)
  opens _ h = tt

  pub opened : (s : Stmt) → Runs s → OpensHere (out-Stmt s)
  opened s h =
      let w = every_held-Stmt (IsAllowedHere IsOfKind) ArmAny DefAny s h in
      let here : IsAllowedHere IsOfKind (out-Stmt s) = every_here-Stmt (IsAllowedHere IsOfKind) ArmAny DefAny s h in
      subst (λ x. IsAllowedHere IsOfKind x → OpensHere x) w.1 (opens w.0) here

  -- ---- objects

  list_there : (b : Bool) (items : List Value) → IfThere Fit (cond b (Some (object.List items)) None)
  list_there true items = tt
  list_there false items = tt

  items_fit : (p : Change) (items : List Value) → IfThere Fit (changed_items p items)
  items_fit (change.Push last) items = tt
  items_fit (change.Extend more) items = tt
  items_fit (change.Insert at item) items = list_there _ _
  items_fit (change.Set at item) items = list_there _ _
  items_fit (change.Remove at) items = list_there _ _
  items_fit change.Clear items = tt
  items_fit _ items = tt

  pairs_fit : (p : Change) (pairs : Pairs) → HasNoKeyTwice pairs → IfThere Fit (changed_pairs p pairs)
  pairs_fit (change.Put key held) pairs h = with_pair_distinct pairs key held h
  pairs_fit (change.Drop key) pairs h = without_key_distinct pairs key h
  pairs_fit change.Clear pairs h = nothing_twice
  pairs_fit _ pairs h = tt

  handle_fit : (p : Change) (name : List ℕ) (uses : ℕ) → IfThere Fit (changed_handle p name uses)
  handle_fit change.Use name uses = tt
  handle_fit _ name uses = tt

  pub stays_fit : (p : Change) (o : Object) → Fit o → IfThere Fit (changed p o)
  stays_fit p (object.List items) h = items_fit p items
  stays_fit p (object.Tuple items) h = tt
  stays_fit p (object.Dict pairs) h = pairs_fit p pairs h
  stays_fit p (object.Function def) h = tt
  stays_fit p (object.Handle name uses) h = handle_fit p name uses

  pub sequence_fit : (kind : SequenceKind) (items : List Value) → Fit (sequence kind items)
  sequence_fit sequences.List items = tt
  sequence_fit sequences.Tuple items = tt

  -- ---- the runs

  module _ (bodies : (def : Def) → IsOfKind def → AreAllowed IsOfKind def.body) where
    abbrev pub rules : Rules
    rules = record {
      may = May;
      known = NameAny;
      fit = Fit;
      evals = ExprAny;
      runs = Runs;
      sequence_fit = sequence_fit;
      dict_fit = nothing_twice;
      handle_fit = λ name uses. tt;
      change_fit = stays_fit;
      looks = λ e h. any_looks (out-Expr e);
      opens = opened;
      bodies = λ def h. each Runs def.body (bodies def h);
    }

    module _ (body : List Stmt) (draws : List Drawn) (s : State) (allowed : AreAllowed IsOfKind body) (v : IsValid IsOfKind s) where
      abbrev lawless : Setting
      lawless = framing.setting Every body draws s s refl (λ name l. tt) (Itself s v.closed) (same_by_itself s v.closed Every)

      abbrev ruled : Setting
      ruled = record lawless { rules = rules }

      heap_fit : (a : ℕ) (o : Object) (e : slice_get s.heap a ≡ Some o) → Fit o
      heap_fit a o e = subst Fit (get_or_from_slice_get s.heap a o o e) (v.objects a o (slice_get_within s.heap a o e))

      begins : Alike ruled (start s) (start s)
      begins =
          let b : Alike lawless (start s) (start s) = framing.begins Every body draws s s refl (λ name l. tt) (Itself s v.closed) (same_by_itself s v.closed Every) in
          record {
            counts = b.counts;
            marks = b.marks;
            frame = b.frame;
            names = b.names;
            heaps = record { objects = b.heaps.objects; added = b.heaps.added; left_size = b.heaps.left_size; right_size = b.heaps.right_size };
            may = v.names;
            known = λ x w. tt;
            fit = heap_fit;
          }

      ended : Ends ruled Equal (outcome body s draws) (outcome body s draws)
      ended = (cell_respects ruled body (each Runs body allowed)).ends draws (start s) (start s) begins
          (record { looks = λ name l. tt; size = omega (arith, framing.grows Every body draws s s refl (λ name l. tt)) })

      pub valid_after : IsValid IsOfKind (end_state body s draws)
      valid_after =
          let r : Rises (start s) (outcome body s draws).1 = rises (cell body) draws (start s) in
          record {
            closed = closed_after body draws s v.closed;
            names = ended.alike.may;
            objects = λ k d l. ended.alike.fit k (get_or (end_state body s draws).heap k d) (slice_get-get_or (end_state body s draws).heap k d l);
            meter = r.small_meter v.meter;
          }
