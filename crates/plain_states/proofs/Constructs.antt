-- Each construct keeps all plain, level by level, and so does a cell.
use Rattle.std.proofs.Common.{ℕ, zero, suc, ◌==◌, Bool, true, false, List, [], ◌∷◌, ◌++◌, length, Option, Some, None, arith}
use Rattle.std.specs.Prelude.{cond, not, codes}
use Rattle.std.specs.List.{AllByRecursion}
use Rattle.std.proofs.lemmas.Str.{IsUtf8-nil}
use Rattle.py_tree.specs.declared.expressions.Expr.{Expr, out-Expr}
use Rattle.py_tree.specs.declared.expressions.Expr.TheOpen.{Expr-F, Relation-F}
use Rattle.py_tree.specs.declared.expressions.Op.{Op}
use Rattle.py_tree.specs.declared.expressions.Operand.{Operand, out-Operand}
use Rattle.py_tree.specs.declared.expressions.Pair.{Pair, out-Pair}
use Rattle.py_tree.specs.declared.expressions.Relation.{Relation, out-Relation}
use Rattle.py_tree.specs.declared.expressions.Target.{Target}
use Rattle.py_tree.specs.declared.expressions.Target.TheVariants as target
use Rattle.py_tree.specs.declared.statements.Arm.{Arm, out-Arm}
use Rattle.py_tree.specs.declared.statements.Def.{Def}
use Rattle.py_tree.specs.declared.statements.Stmt.{Stmt, out-Stmt}
use Rattle.py_tree.specs.declared.statements.Stmt.TheOpen.{Stmt-F}
use Rattle.py_value.specs.declared.value.Builtin.{Builtin}
use Rattle.py_value.specs.declared.value.Builtin.TheVariants as builtin
use Rattle.py_value.specs.declared.value.Value.{Value}
use Rattle.py_value.specs.declared.value.Value.TheVariants as value
use Rattle.py_heap.specs.declared.heap.Object.{Object}
use Rattle.py_heap.specs.declared.heap.Object.TheVariants as object
use Rattle.py_heap.specs.declared.heap.SequenceKind.{SequenceKind}
use Rattle.py_heap.specs.declared.heap.SequenceKind.TheVariants as sequences
use Rattle.py_machine.specs.declared.frame.Flow.{Flow}
use Rattle.py_machine.specs.declared.frame.Flow.TheVariants as flow
use Rattle.py_machine.specs.declared.iteration.Iteration.{Iteration}
use Rattle.py_machine.specs.Errors.{recursion_error, step_limit_error, range_elsewhere}
use Rattle.py_machine.specs.Runs.{Name}
use Rattle.py_meaning.specs.Acts.{Act, ◌>>=◌, ◌>>◌, pure, step}
use Rattle.py_meaning.specs.Operators.{sequence_units, operated}
use Rattle.py_meaning.specs.Iterating.{Next, iterated}
use Rattle.py_meaning.specs.Meaning.{frame_of, returned, is_none, after_turn, most_turns, Inner, goes_on, block, items_from, items, display, operands, sum, sign, negation, conditional, any_of, disjunction, all_of, conjunction, with_right, related, if_related, relations, comparison, pairs_from, dict_display, index, if_there, slice, method, words, line, print, str_of, str, str_called, repr, repr_called, builtin_called, entered, function_called, object_called, ref_called, called, call, expression, stored_in_item, stored, all_stored, given, assign, as_expression, augment, augment_item, augment_at, delete_item, deleted, show, return, arms, turns, repeat, deeper_items_from, source_called, call_source, source_of, turn, rounds, for_each, statement, level, show_last, last, top_from, cell}
use Rattle.part_bytes.specs.Plain.{IsPlain}
use Rattle.plain_states.specs.Constants.{constants_by_def}
use Rattle.plain_states.specs.Plain.{ArePlain}
use Rattle.plain_states.proofs.Judging.{none, one_look, Any, Plainly, Gives, next, give, fails, chosen}
use Rattle.plain_states.proofs.Least.{takes_step, takes_step_for_look, pays, charges, looks, enters, leaves, adds, finds, IsFound, writes, appended}
use Rattle.plain_states.proofs.Shapes.{Evals, EvalsIf, EvalsRight, Rights, Operands, EvalPairs, Holds, holds, Runs, EvalsAt, RunsArm, Opens, opens, bodies}
use Rattle.plain_states.proofs.Showing.{IsWritten, shown_plain, written_plain}
use Rattle.plain_states.proofs.Operating.{Values, truth_plain, made_plain, made_text_plain, operated_plain, signed_plain}
use Rattle.plain_states.proofs.Itemizing.{IsHeld, indexed_plain, sliced_plain, item_stored_plain, item_deleted_plain}
use Rattle.plain_states.proofs.Comparing.{compared_plain}
use Rattle.plain_states.proofs.Unpacking.{unpacked_plain}
use Rattle.plain_states.proofs.Iterating.{IsPlainOver, Iterates, IsPlainNext, iterated_plain, range_of_plain, advance_plain}
use Rattle.plain_states.proofs.Methodical.{method_of_plain, method_called_plain}
use Rattle.plain_states.proofs.Simple.{IsPlainFlow, Flows, literal_plain, not_called_plain, draw_called_plain, len_called_plain, int_called_plain, handle_called_plain, tell_called_plain, frame_plain, returned_plain, store_plain, names_given_plain, augmented_plain, delete_plain, define_plain, AreEvaluated, keys_from_plain, filled_plain, result_plain}

abbrev AllPlain : List Value → Type 0
AllPlain = AllByRecursion IsPlain

goes : (e : Flow) → IsPlainFlow e → Flows (pure e)
goes e h = give IsPlainFlow e h

-- ---- one level above another

module _ (inner : Inner) (evals : (e : Expr) → Evals e → Values (inner.eval e)) (execs : (s : Stmt) → Runs s → Flows (inner.exec s))
    (deeper : (e : Expr) → Evals e → Values (inner.deeper e)) (calls : (v : Value) (vs : List Value) → IsPlain v → AllPlain vs → Values (inner.calls v vs)) where
  abbrev AllEval : List Expr → Type 0
  AllEval es = AllByRecursion Evals es

  on_plain : (e : Flow) (p : Act Flow) → IsPlainFlow e → Flows p → Flows (goes_on inner e p)
  on_plain flow.Next p h k = k
  on_plain flow.Break p h k = goes flow.Break tt
  on_plain flow.Continue p h k = goes flow.Continue tt
  on_plain (flow.Return v) p h k = goes (flow.Return v) h

  block_plain : (body : List Stmt) → AllByRecursion Runs body → Flows (block inner body)
  block_plain [] r = goes flow.Next tt
  block_plain (s ∷ more) r = next (execs s r.0) λ e h. on_plain e (block inner more) h (block_plain more r.1)

  items_from_plain : (vs : List Value) (es : List Expr) → AllEval es → AllPlain vs → Plainly AllPlain (items_from inner vs es)
  items_from_plain vs [] r h = give AllPlain vs h
  items_from_plain vs (e ∷ es) r h = next (evals e r.0) λ v k. items_from_plain (vs ++ v ∷ []) es r.1 (appended IsPlain vs (v ∷ []) h (k, tt))

  items_plain : (es : List Expr) → AllEval es → Plainly AllPlain (items inner es)
  unfolding items
  items_plain es r = items_from_plain [] es r tt

  display_plain : (kind : SequenceKind) (es : List Expr) → AllEval es → Values (display inner kind es)
  unfolding display
  display_plain kind es r =
      next takes_step λ _ _.
      next (items_plain es r) λ vs h.
      next (pays (sequence_units vs)) λ _ _.
      made_plain kind vs h

  operand_plain : (operand : Operand) (x : Value) → Evals (out-Operand operand).value → IsPlain x → Values (step >> inner.eval (out-Operand operand).value >>= operated (out-Operand operand).op x)
  operand_plain operand x r h = next (next takes_step λ _ _. evals (out-Operand operand).value r) λ v k. operated_plain (out-Operand operand).op x v h k

  operands_plain : (x : Value) (rest : List Operand) → Operands rest → IsPlain x → Values (operands inner x rest)
  operands_plain x [] r h = give IsPlain x h
  operands_plain x (operand ∷ rest) r h = next (operand_plain operand x r.0 h) λ v k. operands_plain v rest r.1 k

  sum_plain : (first : Expr) (rest : List Operand) → Evals first → Operands rest → Values (sum inner first rest)
  unfolding sum
  sum_plain first rest r q = next (evals first r) λ x h. operands_plain x rest q h

  sign_plain : (minus : Bool) (e : Expr) → Evals e → Values (sign inner minus e)
  unfolding sign
  sign_plain minus e r = next (next takes_step λ _ _. evals e r) λ v h. signed_plain minus v h

  negation_plain : (e : Expr) → Evals e → Values (negation inner e)
  unfolding negation
  negation_plain e r =
      next takes_step λ _ _.
      next (evals e r) λ v _.
      next (truth_plain v) λ b _.
      give IsPlain (value.Bool (not b)) tt

  conditional_plain : (test first second : Expr) → Evals test × Evals first × Evals second → Values (conditional inner test first second)
  unfolding conditional
  conditional_plain test first second r =
      next takes_step λ _ _.
      next (evals test r.0) λ v _.
      next (truth_plain v) λ b _.
      chosen b _ _ (evals first r.1) (evals second r.2)

  any_plain : (e : Expr) (es : List Expr) → AllEval (e ∷ es) → Values (any_of inner e es)
  any_plain e [] r = evals e r.0
  any_plain e (d ∷ es) r =
      next (evals e r.0) λ v h.
      next (truth_plain v) λ b _.
      chosen b _ _ (give IsPlain v h) (next takes_step λ _ _. any_plain d es r.1)

  all_plain : (e : Expr) (es : List Expr) → AllEval (e ∷ es) → Values (all_of inner e es)
  all_plain e [] r = evals e r.0
  all_plain e (d ∷ es) r =
      next (evals e r.0) λ v h.
      next (truth_plain v) λ b _.
      chosen b _ _ (next takes_step λ _ _. all_plain d es r.1) (give IsPlain v h)

  disjunction_plain : (es : List Expr) → AllEval es → Values (disjunction inner es)
  disjunction_plain [] r = give IsPlain (value.Bool false) tt
  disjunction_plain (e ∷ es) r = any_plain e es r

  conjunction_plain : (es : List Expr) → AllEval es → Values (conjunction inner es)
  conjunction_plain [] r = give IsPlain (value.Bool true) tt
  conjunction_plain (e ∷ es) r = all_plain e es r

  -- ---- comparisons

  cond_goes : (b : Bool) (v : Value) → IsPlain v → IsHeld (cond b (Some v) None)
  cond_goes true v h = h
  cond_goes false v h = tt

  cond_stops : (b : Bool) (v : Value) → IsPlain v → IsHeld (cond b None (Some v))
  cond_stops true v h = tt
  cond_stops false v h = h

  with_right_plain : (v : Value) (o : Op) (e : Expr) → Evals e → IsPlain v → Plainly IsHeld (with_right inner v o e)
  unfolding with_right
  with_right_plain v o e r h =
      next (evals e r) λ x k.
      next (compared_plain inner.left o v x h k) λ b _.
      give IsHeld _ (cond_goes b x k)

  related_plain : (v : Value) (r : Relation-F Expr Relation Operand Pair) → EvalsRight r → IsPlain v → Plainly IsHeld (related inner v r)
  related_plain v (Relation-F.With o e) q h = with_right_plain v o e q h
  related_plain v Relation-F.IsNone q h = give IsHeld _ (cond_goes (is_none v) v h)
  related_plain v Relation-F.IsNotNone q h = give IsHeld _ (cond_stops (is_none v) value.Nothing tt)

  goes_with : (o : Option Value) (p : Value → Act Value) → IsHeld o → ((v : Value) → IsPlain v → Values (p v)) → Values (if_related inner o p)
  goes_with None p h k = give IsPlain (value.Bool false) tt
  goes_with (Some v) p h k = k v h

  relations_plain : (rs : List Relation) (v : Value) → Rights rs → IsPlain v → Values (relations inner v rs)
  relations_plain [] v q h = give IsPlain (value.Bool true) tt
  relations_plain (r ∷ rs) v q h =
      next (next takes_step λ _ _. related_plain v (out-Relation r) q.0 h) λ o k.
      goes_with o (λ held. relations inner held rs) k (λ x m. relations_plain rs x q.1 m)

  comparison_plain : (first : Expr) (rest : List Relation) → Evals first → Rights rest → Values (comparison inner first rest)
  unfolding comparison
  comparison_plain first rest r q = next (evals first r) λ v h. relations_plain rest v q h

  -- ---- dicts

  pairs_from_plain : (vs : List (Value × Value)) (ps : List Pair) → EvalPairs ps → AreEvaluated vs → Plainly AreEvaluated (pairs_from inner vs ps)
  pairs_from_plain vs [] r h = give AreEvaluated vs h
  pairs_from_plain vs (p ∷ ps) r h =
      next (evals (out-Pair p).key r.0.0) λ x k.
      next (evals (out-Pair p).value r.0.1) λ v m.
      pairs_from_plain (vs ++ (x, v) ∷ []) ps r.1 (appended (λ (y : Value × Value). IsPlain y.0 × IsPlain y.1) vs ((x, v) ∷ []) h ((k, m), tt))

  dict_display_plain : (ps : List Pair) → EvalPairs ps → Values (dict_display inner ps)
  unfolding dict_display
  dict_display_plain ps r =
      next takes_step λ _ _.
      next (pairs_from_plain [] ps r tt) λ vs h.
      next (keys_from_plain [] vs tt h) λ xs k.
      next (pays 1) λ _ _.
      next (adds 1 (object.Dict []) tt (omega arith) (omega arith)) λ a _.
      filled_plain a xs k

  -- ---- items, methods and calls

  index_plain : (e at : Expr) → Evals e × Evals at → Values (index inner e at)
  unfolding index
  index_plain e at r =
      next takes_step λ _ _.
      next (evals e r.0) λ v h.
      next (evals at r.1) λ x k.
      indexed_plain v x h k

  if_there_plain : (e : Option Expr) → EvalsIf e → Plainly IsHeld (if_there inner e)
  if_there_plain None r = give IsHeld None tt
  if_there_plain (Some e) r = next (evals e r) λ v h. give IsHeld (Some v) h

  slice_plain : (e : Expr) (from to : Option Expr) → Evals e × EvalsIf from × EvalsIf to → Values (slice inner e from to)
  unfolding slice
  slice_plain e from to r =
      next takes_step λ _ _.
      next (evals e r.0) λ v h.
      next (if_there_plain from r.1) λ o _.
      next (if_there_plain to r.2) λ u _.
      sliced_plain v o u h

  method_plain : (on : Expr) (name : Name) (args : List Expr) → Evals on × AllEval args → Values (method inner on name args)
  unfolding method
  method_plain on name args r =
      next takes_step λ _ _.
      next (evals on r.0) λ v h.
      next (method_of_plain v name h) λ m k.
      next (items_plain args r.1) λ vs l.
      method_called_plain m vs k l

  words_plain : (text : List ℕ) (vs : List Value) → AllPlain vs → Plainly Any (words inner text vs)
  words_plain text [] h = give Any _ tt
  words_plain text (v ∷ vs) h = next (written_plain inner.left v h.0) λ word _. words_plain ((text ++ codes " ") ++ word) vs h.1

  line_plain : (vs : List Value) → AllPlain vs → Plainly Any (line inner vs)
  line_plain [] h = give Any _ tt
  line_plain (v ∷ vs) h = next (written_plain inner.left v h.0) λ word _. words_plain word vs h.1

  print_plain : (vs : List Value) → AllPlain vs → Values (print inner vs)
  unfolding print
  print_plain vs h =
      next (line_plain vs h) λ text _.
      next (charges (length text)) λ _ _.
      next (writes text) λ _ _.
      give IsPlain value.Nothing tt

  str_of_plain : (v : Value) (text : List ℕ) → IsWritten v text → Values (str_of inner v text)
  str_of_plain (value.Text bytes) text h = give IsPlain (value.Text text) h
  str_of_plain value.Nothing text h = made_text_plain text h
  str_of_plain (value.Bool b) text h = made_text_plain text h
  str_of_plain (value.Number n) text h = made_text_plain text h
  str_of_plain (value.Ref at) text h = made_text_plain text h
  str_of_plain (value.Builtin f) text h = made_text_plain text h

  str_plain : (v : Value) → IsPlain v → Values (str inner v)
  unfolding str
  str_plain v h = next (written_plain inner.left v h) λ text k. str_of_plain v text k

  str_called_plain : (vs : List Value) → AllPlain vs → Values (str_called inner vs)
  str_called_plain (v ∷ []) h = str_plain v h.0
  str_called_plain [] h = fails _
  str_called_plain (v ∷ w ∷ vs) h = fails _

  repr_plain : (v : Value) → IsPlain v → Values (repr inner v)
  unfolding repr
  repr_plain v h = next (shown_plain inner.left [] [] v IsUtf8-nil h) λ text k. made_text_plain text k

  repr_called_plain : (vs : List Value) → AllPlain vs → Values (repr_called inner vs)
  repr_called_plain (v ∷ []) h = repr_plain v h.0
  repr_called_plain [] h = fails _
  repr_called_plain (v ∷ w ∷ vs) h = fails _

  builtin_plain : (b : Builtin) (vs : List Value) → AllPlain vs → Values (builtin_called inner b vs)
  builtin_plain builtin.Print vs h = print_plain vs h
  builtin_plain builtin.Draw vs h = draw_called_plain vs
  builtin_plain builtin.Len vs h = len_called_plain vs h
  builtin_plain builtin.Str vs h = str_called_plain vs h
  builtin_plain builtin.Repr vs h = repr_called_plain vs h
  builtin_plain builtin.Int vs h = int_called_plain vs h
  builtin_plain builtin.Range vs h = fails range_elsewhere
  builtin_plain builtin.Handle vs h = handle_called_plain vs h
  builtin_plain builtin.Tell vs h = tell_called_plain vs

  entered_plain : (def : Def) (vs : List Value) → ArePlain (constants_by_def def) → AllPlain vs → Values (entered inner def vs)
  unfolding entered
  entered_plain def vs fit h =
      next (enters (frame_of def vs) (frame_plain def vs h)) λ f k.
      next (block_plain def.body (bodies def fit)) λ e m.
      next (leaves f k) λ _ _.
      give IsPlain (returned e) (returned_plain e m)

  function_plain : (def : Def) (vs : List Value) → ArePlain (constants_by_def def) → AllPlain vs → Values (function_called inner def vs)
  function_plain def vs fit h = chosen (length vs == length def.params) _ _ (entered_plain def vs fit h) (fails _)

  object_called_plain : (vs : List Value) (o : Option Object) → AllPlain vs → IsFound o → Values (object_called inner vs o)
  object_called_plain vs (Some (object.Function def)) k h = function_plain def vs h.0 k
  object_called_plain vs (Some (object.List xs)) k h = fails _
  object_called_plain vs (Some (object.Tuple xs)) k h = fails _
  object_called_plain vs (Some (object.Dict xs)) k h = fails _
  object_called_plain vs (Some (object.Handle name uses)) k h = fails _
  object_called_plain vs None k h = fails _

  ref_called_plain : (a : ℕ) (vs : List Value) → AllPlain vs → Values (ref_called inner a vs)
  unfolding ref_called
  ref_called_plain a vs h = next (finds a) λ o k. object_called_plain vs o h k

  called_plain : (v : Value) (vs : List Value) → IsPlain v → AllPlain vs → Values (called inner v vs)
  called_plain (value.Builtin b) vs k h = builtin_plain b vs h
  called_plain (value.Ref a) vs k h = ref_called_plain a vs h
  called_plain v vs k h = not_called_plain v

  call_plain : (callee : Expr) (args : List Expr) → Evals callee × AllEval args → Values (call inner callee args)
  unfolding call
  call_plain callee args r =
      next takes_step λ _ _.
      next (evals callee r.0) λ v h.
      next (items_plain args r.1) λ vs k.
      called_plain v vs h k

  expression_plain : (x : Expr-F Expr Relation Operand Pair) → Holds x → Values (expression inner x)
  expression_plain (Expr-F.Name name) r = next takes_step_for_look λ _ _. looks name
  expression_plain (Expr-F.Literal constant) r = literal_plain constant r
  expression_plain (Expr-F.ListOf es) r = display_plain sequences.List es r
  expression_plain (Expr-F.TupleOf es) r = display_plain sequences.Tuple es r
  expression_plain (Expr-F.Conditional test first second) r = conditional_plain test first second r
  expression_plain (Expr-F.Or es) r = disjunction_plain es r
  expression_plain (Expr-F.And es) r = conjunction_plain es r
  expression_plain (Expr-F.Not e) r = negation_plain e r
  expression_plain (Expr-F.Compare first rest) r = comparison_plain first rest r.0 r.1
  expression_plain (Expr-F.Sum first rest) r = sum_plain first rest r.0 r.1
  expression_plain (Expr-F.Product first rest) r = sum_plain first rest r.0 r.1
  expression_plain (Expr-F.Sign minus e) r = sign_plain minus e r
  expression_plain (Expr-F.Call callee args) r = call_plain callee args r
  expression_plain (Expr-F.Method on name args) r = method_plain on name args r
  expression_plain (Expr-F.DictOf pairs) r = dict_display_plain pairs r
  expression_plain (Expr-F.Index e at) r = index_plain e at r
  expression_plain (Expr-F.Slice e from to) r = slice_plain e from to r

  -- ---- statements

  stored_in_item_plain : (on at : Expr) (v : Value) → Evals on × Evals at → IsPlain v → Plainly Any (stored_in_item inner on at v)
  unfolding stored_in_item
  stored_in_item_plain on at v q h =
      next (evals on q.0) λ r _.
      next (evals at q.1) λ x m.
      item_stored_plain r x v m h

  stored_plain : (into : Target) (v : Value) → EvalsAt into → IsPlain v → Plainly Any (stored inner into v)
  stored_plain (target.Name name) v q h = store_plain name v h
  stored_plain (target.Item on at) v q h = stored_in_item_plain on at v q h

  all_stored_plain : (targets : List Target) (vs : List Value) → AllByRecursion EvalsAt targets → AllPlain vs → Plainly Any (all_stored inner targets vs)
  all_stored_plain (into ∷ targets) (v ∷ vs) q h = next (stored_plain into v q.0 h.0) λ _ _. all_stored_plain targets vs q.1 h.1
  all_stored_plain [] vs q h = give Any tt tt
  all_stored_plain (into ∷ targets) [] q h = give Any tt tt

  given_plain : (comma : Bool) (targets : List Target) (v : Value) → AllByRecursion EvalsAt targets → IsPlain v → Plainly Any (given inner comma targets v)
  given_plain true targets v q h = next (unpacked_plain (length targets) v h) λ vs k. all_stored_plain targets vs q k
  given_plain false (into ∷ others) v q h = stored_plain into v q.0 h
  given_plain false [] v q h = give Any tt tt

  assign_plain : (targets : List Target) (comma : Bool) (e : Expr) → AllByRecursion EvalsAt targets → Evals e → Flows (assign inner targets comma e)
  unfolding assign
  assign_plain targets comma e q r =
      next takes_step λ _ _.
      next (evals e r) λ v h.
      next (given_plain comma targets v q h) λ _ _.
      goes flow.Next tt

  as_expression_plain : Plainly Any (as_expression inner)
  unfolding as_expression
  as_expression_plain = chosen (inner.left == 0) _ _ (fails recursion_error) takes_step

  -- it takes a step for a look to come
  as_expression_for_look : Gives none one_look Any (as_expression inner)
  unfolding as_expression
  as_expression_for_look = chosen (inner.left == 0) _ _ (fails recursion_error) takes_step_for_look

  augment_plain : (name : Name) (o : Op) (e : Expr) → Evals e → Flows (augment inner name o e)
  unfolding augment
  augment_plain name o e q =
      next takes_step λ _ _.
      next as_expression_for_look λ _ _.
      next (looks name) λ x h.
      next (evals e q) λ v k.
      next (augmented_plain o x v h k) λ r m.
      next (store_plain name r m) λ _ _.
      goes flow.Next tt

  augment_item_plain : (on at : Expr) (o : Op) (e : Expr) → Evals on × Evals at → Evals e → Flows (augment_item inner on at o e)
  unfolding augment_item
  augment_item_plain on at o e t z =
      next takes_step λ _ _.
      next as_expression_plain λ _ _.
      next (deeper on t.0) λ r h.
      next (deeper at t.1) λ x k.
      next (indexed_plain r x h k) λ i m.
      next (evals e z) λ v l.
      next (augmented_plain o i v m l) λ new q.
      next (item_stored_plain r x new k q) λ _ _.
      goes flow.Next tt

  augment_at_plain : (into : Target) (o : Op) (e : Expr) → EvalsAt into → Evals e → Flows (augment_at inner into o e)
  augment_at_plain (target.Name name) o e q r = augment_plain name o e r
  augment_at_plain (target.Item on at) o e q r = augment_item_plain on at o e q r

  delete_item_plain : (on at : Expr) → Evals on × Evals at → Flows (delete_item inner on at)
  unfolding delete_item
  delete_item_plain on at q =
      next takes_step λ _ _.
      next (evals on q.0) λ r _.
      next (evals at q.1) λ x k.
      next (item_deleted_plain r x k) λ _ _.
      goes flow.Next tt

  deleted_plain : (into : Target) → EvalsAt into → Flows (deleted inner into)
  deleted_plain (target.Name name) r = delete_plain name
  deleted_plain (target.Item on at) r = delete_item_plain on at r

  show_plain : (e : Expr) → Evals e → Flows (show inner e)
  show_plain e r = next (next takes_step λ _ _. evals e r) λ _ _. goes flow.Next tt

  return_plain : (e : Option Expr) → EvalsIf e → Flows (return inner e)
  return_plain None r = next takes_step λ _ _. goes (flow.Return value.Nothing) tt
  return_plain (Some e) r = next (next takes_step λ _ _. evals e r) λ v h. goes (flow.Return v) h

  arms_plain : (tests : List Arm) (other : List Stmt) → AllByRecursion RunsArm tests → AllByRecursion Runs other → Flows (arms inner tests other)
  arms_plain [] other r q = block_plain other q
  arms_plain (arm ∷ more) other r q =
      next (evals (out-Arm arm).test r.0.0) λ v _.
      next (truth_plain v) λ b _.
      chosen b _ _ (block_plain (out-Arm arm).body r.0.1) (arms_plain more other r.1 q)

  after_turn_plain : (e : Flow) (p : Act Flow) → IsPlainFlow e → Flows p → Flows (after_turn e p)
  after_turn_plain flow.Next p h k = k
  after_turn_plain flow.Continue p h k = k
  after_turn_plain flow.Break p h k = goes flow.Next tt
  after_turn_plain (flow.Return v) p h k = goes (flow.Return v) h

  turns_plain : (n : ℕ) (test : Expr) (body : List Stmt) → Evals test → AllByRecursion Runs body → Flows (turns inner n test body)
  unfolding turns
  turns_plain zero test body q r = fails step_limit_error
  turns_plain (suc n) test body q r =
      next (evals test q) λ v _.
      next (truth_plain v) λ b _.
      chosen b _ _ (next (block_plain body r) λ x k. after_turn_plain x _ k (turns_plain n test body q r)) (goes flow.Next tt)

  repeat_plain : (test : Expr) (body : List Stmt) → Evals test → AllByRecursion Runs body → Flows (repeat inner test body)
  unfolding repeat
  repeat_plain test body q r = next takes_step λ _ _. turns_plain most_turns test body q r

  -- ---- `for`

  deeper_items_plain : (vs : List Value) (es : List Expr) → AllEval es → AllPlain vs → Plainly AllPlain (deeper_items_from inner vs es)
  deeper_items_plain vs [] r h = give AllPlain vs h
  deeper_items_plain vs (e ∷ es) r h = next (deeper e r.0) λ v k. deeper_items_plain (vs ++ v ∷ []) es r.1 (appended IsPlain vs (v ∷ []) h (k, tt))

  source_made : (v : Value) (vs : List Value) → IsPlain v → AllPlain vs → Iterates (inner.calls v vs >>= iterated)
  source_made v vs h k = next (calls v vs h k) λ x m. iterated_plain x m

  builtin_source : (b : Builtin) (vs : List Value) → AllPlain vs → Iterates (source_called inner (value.Builtin b) vs)
  builtin_source builtin.Range vs h = range_of_plain vs h
  builtin_source b vs h = source_made (value.Builtin b) vs tt h

  source_called_plain : (v : Value) (vs : List Value) → IsPlain v → AllPlain vs → Iterates (source_called inner v vs)
  source_called_plain (value.Builtin b) vs k h = builtin_source b vs h
  source_called_plain v vs k h = source_made v vs k h

  call_source_plain : (callee : Expr) (args : List Expr) → Evals callee × AllEval args → Iterates (call_source inner callee args)
  unfolding call_source
  call_source_plain callee args r =
      next as_expression_plain λ _ _.
      next (deeper callee r.0) λ v h.
      next (deeper_items_plain [] args r.1 tt) λ vs k.
      source_called_plain v vs h k

  source_evaluated : (e : Expr) → Evals e → Iterates (inner.eval e >>= iterated)
  source_evaluated e r = next (evals e r) λ v h. iterated_plain v h

  source_plain : (e : Expr) (opened : Expr-F Expr Relation Operand Pair) → Evals e → Holds opened → Iterates (source_of inner e opened)
  source_plain e (Expr-F.Call callee args) r q = call_source_plain callee args q
  source_plain e _ r q = source_evaluated e r

  turn_plain : (names : List Name) (comma : Bool) (o : Next) (p : Iteration → Act Flow) → IsPlainNext o → ((r : Iteration) → IsPlainOver r → Flows (p r)) → Flows (turn inner names comma o p)
  turn_plain names comma (Some x) p h k = next (next takes_step λ _ _. names_given_plain comma names x.0 h.0) λ _ _. k x.1 h.1
  turn_plain names comma None p h k = goes flow.Next tt

  rounds_plain : (n : ℕ) (names : List Name) (comma : Bool) (body : List Stmt) (r : Iteration) → AllByRecursion Runs body → IsPlainOver r → Flows (rounds inner n names comma body r)
  unfolding rounds
  rounds_plain zero names comma body r all h = fails step_limit_error
  rounds_plain (suc n) names comma body r all h =
      next (advance_plain r h) λ o k.
      turn_plain names comma o _ k λ s m. next (block_plain body all) λ x l. after_turn_plain x _ l (rounds_plain n names comma body s all m)

  for_plain : (names : List Name) (comma : Bool) (e : Expr) (body : List Stmt) → Evals e × AllByRecursion Runs body → Flows (for_each inner names comma e body)
  unfolding for_each
  for_plain names comma e body all = next (next takes_step λ _ _. source_plain e (out-Expr e) all.0 (holds e all.0)) λ r h. rounds_plain most_turns names comma body r all.1 h

  one_step : (e : Flow) → IsPlainFlow e → Flows (step >> pure e)
  one_step e h = next takes_step λ _ _. goes e h

  statement_plain : (s : Stmt-F Stmt Arm Def) → Opens s → Flows (statement inner s)
  statement_plain Stmt-F.Pass r = one_step flow.Next tt
  statement_plain Stmt-F.Break r = one_step flow.Break tt
  statement_plain Stmt-F.Continue r = one_step flow.Continue tt
  statement_plain (Stmt-F.Return e) r = return_plain e r
  statement_plain (Stmt-F.Global names) r = one_step flow.Next tt
  statement_plain (Stmt-F.Delete into) r = deleted_plain into r
  statement_plain (Stmt-F.Assign targets comma e) r = assign_plain targets comma e r.0 r.1
  statement_plain (Stmt-F.Augment into o e) r = augment_at_plain into o e r.0 r.1
  statement_plain (Stmt-F.Expression e) r = show_plain e r
  statement_plain (Stmt-F.If tests other) r = next takes_step λ _ _. arms_plain tests other r.0 r.1
  statement_plain (Stmt-F.While test body) r = repeat_plain test body r.0 r.1
  statement_plain (Stmt-F.For names comma source body) r = for_plain names comma source body r
  statement_plain (Stmt-F.Function def) r = define_plain def r

-- ---- the levels

pub record LevelPlain (n : ℕ) : Type 0 where
  pub evals : (e : Expr) → Evals e → Values ((level n).eval e)
  pub execs : (s : Stmt) → Runs s → Flows ((level n).exec s)
  pub deeper : (e : Expr) → Evals e → Values ((level n).deeper e)
  pub calls : (v : Value) (vs : List Value) → IsPlain v → AllPlain vs → Values ((level n).calls v vs)

level_plain : (n : ℕ) → LevelPlain n
unfolding level
level_plain zero = record {
  evals = λ e r. fails recursion_error;
  execs = λ s r. fails recursion_error;
  deeper = λ e r. fails recursion_error;
  calls = λ v vs h k. fails recursion_error;
}
level_plain (suc n) =
    let below = level_plain n in
    record {
      evals = λ e r. expression_plain (level n) below.evals below.execs below.deeper below.calls (out-Expr e) (holds e r);
      execs = λ s r. statement_plain (level n) below.evals below.execs below.deeper below.calls (out-Stmt s) (opens s r);
      deeper = below.evals;
      calls = called_plain (level n) below.evals below.execs below.deeper below.calls;
    }

-- ---- a cell

abbrev Results : Act (Option (List ℕ)) → Type 0
Results = Plainly Any

show_last_plain : (e : Expr) → Evals e → Results (show_last e)
show_last_plain e r =
    let below = level_plain 799 in
    next (next takes_step λ _ _. below.evals e r) λ v h. result_plain v h

exec_last : (s : Stmt) → Runs s → Results ((level 800).exec s >> pure None)
exec_last s r =
    let below = level_plain 800 in
    next (below.execs s r) λ _ _. give Any None tt

last_plain : (s : Stmt) (opened : Stmt-F Stmt Arm Def) → Runs s → Opens opened → Results (last s opened)
last_plain s (Stmt-F.Expression e) r q = show_last_plain e q
last_plain s _ r q = exec_last s r

top_from_plain : (s : Stmt) (more : List Stmt) → AllByRecursion Runs (s ∷ more) → Results (top_from s more)
top_from_plain s [] r = last_plain s (out-Stmt s) r.0 (opens s r.0)
top_from_plain s (t ∷ more) r =
    let below = level_plain 800 in
    next (below.execs s r.0) λ _ _. top_from_plain t more r.1

pub cell_plain : (body : List Stmt) → AllByRecursion Runs body → Results (cell body)
cell_plain [] r = give Any None tt
cell_plain (s ∷ more) r = top_from_plain s more r
