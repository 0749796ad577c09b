-- Each construct respects alikeness, level by level, and so does a cell.
use Rattle.std.proofs.Common.{◌≡◌, ℕ, zero, suc, ◌==◌, Bool, true, false, List, [], ◌∷◌, ◌++◌, length, Option, Some, None, refl, ap, subst}
use Rattle.std.specs.Prelude.{cond, not, codes}
use Rattle.std.specs.List.{AllZip, AllByRecursion}
use Rattle.std.proofs.lemmas.List.Elements.{AllZip-push}
use Rattle.py_tree.specs.declared.expressions.Expr.{Expr, out-Expr}
use Rattle.py_tree.specs.declared.expressions.Expr.TheOpen.{Expr-F, Relation-F}
use Rattle.py_tree.specs.declared.expressions.Op.{Op}
use Rattle.py_tree.specs.declared.expressions.Operand.{Operand, out-Operand}
use Rattle.py_tree.specs.declared.expressions.Pair.{Pair, out-Pair}
use Rattle.py_tree.specs.declared.expressions.Relation.{Relation, out-Relation}
use Rattle.py_tree.specs.declared.expressions.Target.{Target}
use Rattle.py_tree.specs.declared.expressions.Target.TheVariants as target
use Rattle.py_tree.specs.declared.statements.Arm.{Arm, out-Arm}
use Rattle.py_tree.specs.declared.statements.Def.{Def}
use Rattle.py_tree.specs.declared.statements.Stmt.{Stmt, out-Stmt}
use Rattle.py_tree.specs.declared.statements.Stmt.TheOpen.{Stmt-F}
use Rattle.py_value.specs.declared.value.Builtin.{Builtin}
use Rattle.py_value.specs.declared.value.Builtin.TheVariants as builtin
use Rattle.py_value.specs.declared.value.Value.{Value}
use Rattle.py_value.specs.declared.value.Value.TheVariants as value
use Rattle.py_heap.specs.declared.heap.Object.{Object}
use Rattle.py_heap.specs.declared.heap.Object.TheVariants as object
use Rattle.py_heap.specs.declared.heap.SequenceKind.{SequenceKind}
use Rattle.py_heap.specs.declared.heap.SequenceKind.TheVariants as sequences
use Rattle.py_heap.specs.References.{value_refs}
use Rattle.py_machine.specs.declared.frame.Flow.{Flow}
use Rattle.py_machine.specs.declared.frame.Flow.TheVariants as flow
use Rattle.py_machine.specs.declared.iteration.Iteration.{Iteration}
use Rattle.py_machine.specs.Changes.{object_kind}
use Rattle.py_machine.specs.Errors.{recursion_error, step_limit_error, not_callable, range_elsewhere}
use Rattle.py_machine.specs.Runs.{Name}
use Rattle.py_meaning.specs.Acts.{Act, ◌>>=◌, ◌>>◌, pure, fail, step}
use Rattle.py_meaning.specs.Operators.{sequence_units, operated}
use Rattle.py_meaning.specs.Iterating.{Next, iterated}
use Rattle.py_meaning.specs.Shown.{written}
use Rattle.py_meaning.specs.Meaning.{frame_of, returned, is_none, after_turn, most_turns, Inner, goes_on, block, items_from, items, display, operands, sum, sign, negation, conditional, any_of, disjunction, all_of, conjunction, with_right, related, if_related, relations, comparison, pairs_from, dict_display, index, if_there, slice, method, words, line, print, str_of, str, str_called, repr, repr_called, builtin_called, entered, function_called, object_called, ref_called, called, call, expression, stored_in_item, stored, all_stored, given, assign, as_expression, augment, augment_item, augment_at, delete_item, deleted, show, return, arms, turns, repeat, deeper_items_from, source_called, call_source, source_of, turn, rounds, for_each, statement, level, show_last, last, top_from, cell}
use Rattle.py_laws.specs.Same.{equal, refs}
use Rattle.py_laws.proofs.Zipped.{zip_length, Zips, no_more, one_more, zips}
use Rattle.py_laws.proofs.Rules.{IfThere, IfEvals, EvalsRight, Looks, BindsAt, Opens}
use Rattle.py_laws.proofs.Respecting.{Setting, Paired, FlowsMatch, to_next, breaks, continues, returns, IterationsMatch, Respects, Any, Equal, next, pure_respects, fail_respects, choose_respects}
use Rattle.py_laws.proofs.LeastActs.{Values, Slots, object_kinds, step_respects, charge_respects, look_respects, enter_respects, leave_respects, add_respects, object_found, write_respects}
use Rattle.py_laws.proofs.Showing.{shown_respects, written_respects}
use Rattle.py_laws.proofs.Operating.{Gives, plain_gives, same_units, truth_respects, made_respects, made_text_respects, operated_respects, signed_respects}
use Rattle.py_laws.proofs.Itemizing.{Held, indexed_respects, sliced_respects, item_stored_respects, item_deleted_respects}
use Rattle.py_laws.proofs.Comparing.{compared_respects}
use Rattle.py_laws.proofs.Iterating.{Iterates, Nexts, iterated_respects, range_of_respects, advance_respects}
use Rattle.py_laws.proofs.Unpacking.{unpacked_respects}
use Rattle.py_laws.proofs.Methodical.{method_of_respects, method_called_respects}
use Rattle.py_laws.proofs.Simple.{Flows, goes, literal_respects, not_called_respects, wrong_respects, draw_called_respects, len_called_respects, int_called_respects, handle_called_respects, tell_called_respects, frame_match, returned_match, store_respects, MayBind, names_given_respect, augmented_respects, delete_respects, define_respects, Evaluated, keys_from_respects, filled_respects, same_list, result_respects}

module _ (c : Setting) where
  -- ---- one level above another

  module _ (inner : Inner) (evals : (e : Expr) → c.rules.evals e → Gives c (inner.eval e) (inner.eval e)) (execs : (s : Stmt) → c.rules.runs s → Flows c (inner.exec s) (inner.exec s))
      (deeper : (e : Expr) → c.rules.evals e → Gives c (inner.deeper e) (inner.deeper e))
      (calls : (v w : Value) (vs ws : List Value) → Values c v w → AllZip (Values c) vs ws → Gives c (inner.calls v vs) (inner.calls w ws)) where
    abbrev Evals : List Expr → Type 0
    Evals es = AllByRecursion c.rules.evals es

    writes : (v w : Value) → Values c v w → Respects c Equal (written inner.left v) (written inner.left w)
    writes v w h = written_respects c inner.left v w h

    on_respects : (e f : Flow) (p : Act Flow) → FlowsMatch (Paired c) e f → Flows c p p → Flows c (goes_on inner e p) (goes_on inner f p)
    on_respects _ _ p to_next k = k
    on_respects _ _ p breaks k = goes c flow.Break flow.Break breaks
    on_respects _ _ p continues k = goes c flow.Continue flow.Continue continues
    on_respects _ _ p (returns v w h) k = goes c (flow.Return v) (flow.Return w) (returns v w h)

    block_respects : (body : List Stmt) → AllByRecursion c.rules.runs body → Flows c (block inner body) (block inner body)
    block_respects [] r = goes c flow.Next flow.Next to_next
    block_respects (s ∷ more) r = next c (execs s r.0) λ e f h. on_respects e f (block inner more) h (block_respects more r.1)

    items_from_respects : (vs ws : List Value) (es : List Expr) → Evals es → AllZip (Values c) vs ws → Respects c (AllZip (Values c)) (items_from inner vs es) (items_from inner ws es)
    items_from_respects vs ws [] r h = pure_respects c (AllZip (Values c)) vs ws h
    items_from_respects vs ws (e ∷ es) r h =
        next c (evals e r.0) λ v w k. items_from_respects (vs ++ v ∷ []) (ws ++ w ∷ []) es r.1 (AllZip-push (Values c) vs ws v w h k)

    items_respect : (es : List Expr) → Evals es → Respects c (AllZip (Values c)) (items inner es) (items inner es)
    unfolding items
    items_respect es r = items_from_respects [] [] es r tt

    display_respects : (kind : SequenceKind) (es : List Expr) → Evals es → Gives c (display inner kind es) (display inner kind es)
    unfolding display
    display_respects kind es r =
        next c (step_respects c) λ _ _ _.
        next c (items_respect es r) λ vs ws h.
        next c (charge_respects c (sequence_units vs) (sequence_units ws) (same_units c vs ws h)) λ _ _ _.
        made_respects c kind vs ws h

    operand_respects : (operand : Operand) (x y : Value) → c.rules.evals (out-Operand operand).value → Values c x y
        → Gives c (step >> inner.eval (out-Operand operand).value >>= operated (out-Operand operand).op x) (step >> inner.eval (out-Operand operand).value >>= operated (out-Operand operand).op y)
    operand_respects operand x y r h =
        next c (next c (step_respects c) λ _ _ _. evals (out-Operand operand).value r) λ v w k. operated_respects c (out-Operand operand).op x y v w h k

    operands_respect : (x y : Value) (rest : List Operand) → AllByRecursion (λ o. c.rules.evals (out-Operand o).value) rest → Values c x y → Gives c (operands inner x rest) (operands inner y rest)
    operands_respect x y [] r h = pure_respects c (Values c) x y h
    operands_respect x y (operand ∷ rest) r h = next c (operand_respects operand x y r.0 h) λ v w k. operands_respect v w rest r.1 k

    sum_respects : (first : Expr) (rest : List Operand) → c.rules.evals first → AllByRecursion (λ o. c.rules.evals (out-Operand o).value) rest → Gives c (sum inner first rest) (sum inner first rest)
    unfolding sum
    sum_respects first rest r q = next c (evals first r) λ x y h. operands_respect x y rest q h

    sign_respects : (minus : Bool) (e : Expr) → c.rules.evals e → Gives c (sign inner minus e) (sign inner minus e)
    unfolding sign
    sign_respects minus e r = next c (next c (step_respects c) λ _ _ _. evals e r) λ v w h. signed_respects c minus v w h

    negation_respects : (e : Expr) → c.rules.evals e → Gives c (negation inner e) (negation inner e)
    unfolding negation
    negation_respects e r =
        next c (step_respects c) λ _ _ _.
        next c (evals e r) λ v w h.
        next c (truth_respects c v w h) λ b d f.
        subst (λ x. Gives c (pure (value.Bool (not b))) (pure (value.Bool (not x)))) f (plain_gives c (value.Bool (not b)) refl)

    conditional_respects : (test first second : Expr) → c.rules.evals test × c.rules.evals first × c.rules.evals second → Gives c (conditional inner test first second) (conditional inner test first second)
    unfolding conditional
    conditional_respects test first second r =
        next c (step_respects c) λ _ _ _.
        next c (evals test r.0) λ v w h.
        next c (truth_respects c v w h) λ b d e.
        choose_respects c (Values c) b d _ _ _ _ e (evals first r.1) (evals second r.2)

    any_respects : (e : Expr) (es : List Expr) → Evals (e ∷ es) → Gives c (any_of inner e es) (any_of inner e es)
    any_respects e [] r = evals e r.0
    any_respects e (d ∷ es) r =
        next c (evals e r.0) λ v w h.
        next c (truth_respects c v w h) λ b b' f.
        choose_respects c (Values c) b b' _ _ _ _ f (pure_respects c (Values c) v w h) (next c (step_respects c) λ _ _ _. any_respects d es r.1)

    all_respect : (e : Expr) (es : List Expr) → Evals (e ∷ es) → Gives c (all_of inner e es) (all_of inner e es)
    all_respect e [] r = evals e r.0
    all_respect e (d ∷ es) r =
        next c (evals e r.0) λ v w h.
        next c (truth_respects c v w h) λ b b' f.
        choose_respects c (Values c) b b' _ _ _ _ f (next c (step_respects c) λ _ _ _. all_respect d es r.1) (pure_respects c (Values c) v w h)

    disjunction_respects : (es : List Expr) → Evals es → Gives c (disjunction inner es) (disjunction inner es)
    disjunction_respects [] r = plain_gives c (value.Bool false) refl
    disjunction_respects (e ∷ es) r = any_respects e es r

    conjunction_respects : (es : List Expr) → Evals es → Gives c (conjunction inner es) (conjunction inner es)
    conjunction_respects [] r = plain_gives c (value.Bool true) refl
    conjunction_respects (e ∷ es) r = all_respect e es r

    -- ---- comparisons

    -- an operand to go on with, or none
    data Goes : Option Value → Option Value → Type 0 where
      nothing : Goes None None
      some : (v w : Value) → Values c v w → Goes (Some v) (Some w)

    cond_goes : (b d : Bool) (v w : Value) → b ≡ d → Values c v w → Goes (cond b (Some v) None) (cond d (Some w) None)
    cond_goes true true v w e h = some v w h
    cond_goes false false v w e h = nothing
    cond_goes true false v w e h = let no : ⊥ = cc in absurd no
    cond_goes false true v w e h = let no : ⊥ = cc in absurd no

    cond_stops : (b d : Bool) (v w : Value) → b ≡ d → Values c v w → Goes (cond b None (Some v)) (cond d None (Some w))
    cond_stops true true v w e h = nothing
    cond_stops false false v w e h = some v w h
    cond_stops true false v w e h = let no : ⊥ = cc in absurd no
    cond_stops false true v w e h = let no : ⊥ = cc in absurd no

    same_none : (v w : Value) → Values c v w → is_none v ≡ is_none w
    same_none _ _ (equal v n) = refl
    same_none _ _ (refs a b p) = refl

    with_right_respects : (v w : Value) (o : Op) (e : Expr) → c.rules.evals e → Values c v w → Respects c Goes (with_right inner v o e) (with_right inner w o e)
    unfolding with_right
    with_right_respects v w o e r h =
        next c (evals e r) λ x y k.
        next c (compared_respects c inner.left o v w x y h k) λ b d f.
        pure_respects c Goes _ _ (cond_goes b d x y f k)

    related_respects : (v w : Value) (r : Relation-F Expr Relation Operand Pair) → EvalsRight c.rules.evals r → Values c v w → Respects c Goes (related inner v r) (related inner w r)
    related_respects v w (Relation-F.With o e) q h = with_right_respects v w o e q h
    related_respects v w Relation-F.IsNone q h = pure_respects c Goes _ _ (cond_goes _ _ v w (same_none v w h) h)
    related_respects v w Relation-F.IsNotNone q h = pure_respects c Goes _ _ (cond_stops _ _ value.Nothing value.Nothing (same_none v w h) (equal value.Nothing refl))

    goes_with : (o u : Option Value) (p : Value → Act Value) → Goes o u → ((v w : Value) → Values c v w → Gives c (p v) (p w)) → Gives c (if_related inner o p) (if_related inner u p)
    goes_with _ _ p nothing k = plain_gives c (value.Bool false) refl
    goes_with _ _ p (some v w h) k = k v w h

    relations_respect : (rs : List Relation) (v w : Value) → AllByRecursion (λ r. EvalsRight c.rules.evals (out-Relation r)) rs → Values c v w → Gives c (relations inner v rs) (relations inner w rs)
    relations_respect [] v w q h = plain_gives c (value.Bool true) refl
    relations_respect (r ∷ rs) v w q h =
        next c (next c (step_respects c) λ _ _ _. related_respects v w (out-Relation r) q.0 h) λ o u k.
        goes_with o u (λ held. relations inner held rs) k (λ x y m. relations_respect rs x y q.1 m)

    comparison_respects : (first : Expr) (rest : List Relation) → c.rules.evals first → AllByRecursion (λ r. EvalsRight c.rules.evals (out-Relation r)) rest → Gives c (comparison inner first rest) (comparison inner first rest)
    unfolding comparison
    comparison_respects first rest r q = next c (evals first r) λ v w h. relations_respect rest v w q h

    -- ---- dicts

    pairs_from_respects : (vs ws : List (Value × Value)) (ps : List Pair) → AllByRecursion (λ p. c.rules.evals (out-Pair p).key × c.rules.evals (out-Pair p).value) ps → Evaluated c vs ws → Respects c (Evaluated c) (pairs_from inner vs ps) (pairs_from inner ws ps)
    pairs_from_respects vs ws [] r h = pure_respects c (Evaluated c) vs ws h
    pairs_from_respects vs ws (p ∷ ps) r h =
        next c (evals (out-Pair p).key r.0.0) λ x y k.
        next c (evals (out-Pair p).value r.0.1) λ v w m.
        pairs_from_respects (vs ++ (x, v) ∷ []) (ws ++ (y, w) ∷ []) ps r.1 (AllZip-push (λ x y. Values c x.0 y.0 × Values c x.1 y.1) vs ws (x, v) (y, w) h (k, m))

    dict_display_respects : (ps : List Pair) → AllByRecursion (λ p. c.rules.evals (out-Pair p).key × c.rules.evals (out-Pair p).value) ps → Gives c (dict_display inner ps) (dict_display inner ps)
    unfolding dict_display
    dict_display_respects ps r =
        next c (step_respects c) λ _ _ _.
        next c (pairs_from_respects [] [] ps r tt) λ vs ws h.
        next c (keys_from_respects c [] [] vs ws tt h) λ xs ys k.
        next c (charge_respects c 1 1 refl) λ _ _ _.
        next c (add_respects c (object.Dict []) (object.Dict []) tt c.rules.dict_fit) λ a b p.
        filled_respects c a b xs ys p k

    -- ---- items, methods and calls

    index_respects : (e at : Expr) → c.rules.evals e × c.rules.evals at → Gives c (index inner e at) (index inner e at)
    unfolding index
    index_respects e at r =
        next c (step_respects c) λ _ _ _.
        next c (evals e r.0) λ v w h.
        next c (evals at r.1) λ x y k.
        indexed_respects c v w x y h k

    if_there_respects : (e : Option Expr) → IfEvals c.rules.evals e → Respects c (Held c) (if_there inner e) (if_there inner e)
    if_there_respects None r = pure_respects c (Held c) None None tt
    if_there_respects (Some e) r = next c (evals e r) λ v w h. pure_respects c (Held c) (Some v) (Some w) h

    slice_respects : (e : Expr) (from to : Option Expr) → c.rules.evals e × IfEvals c.rules.evals from × IfEvals c.rules.evals to → Gives c (slice inner e from to) (slice inner e from to)
    unfolding slice
    slice_respects e from to r =
        next c (step_respects c) λ _ _ _.
        next c (evals e r.0) λ v w h.
        next c (if_there_respects from r.1) λ o u k.
        next c (if_there_respects to r.2) λ o' u' m.
        sliced_respects c v w o u o' u' h k m

    method_respects : (on : Expr) (name : Name) (args : List Expr) → c.rules.evals on × Evals args → Gives c (method inner on name args) (method inner on name args)
    unfolding method
    method_respects on name args r =
        next c (step_respects c) λ _ _ _.
        next c (evals on r.0) λ v w h.
        next c (method_of_respects c v w name h) λ m n k.
        next c (items_respect args r.1) λ vs ws l.
        method_called_respects c m n vs ws k l

    same_text_act : (text other : List ℕ) → text ≡ other → Respects c Equal (pure text) (pure other)
    same_text_act text other e = pure_respects c Equal text other e

    words_respect : (text : List ℕ) (vs ws : List Value) → AllZip (Values c) vs ws → Respects c Equal (words inner text vs) (words inner text ws)
    words_respect text [] [] h = same_text_act _ _ refl
    words_respect text (v ∷ vs) (w ∷ ws) h =
        next c (writes v w h.0) λ word other e.
        subst (λ (z : List ℕ). Respects c Equal (words inner ((text ++ codes " ") ++ word) vs) (words inner ((text ++ codes " ") ++ z) ws)) e (words_respect ((text ++ codes " ") ++ word) vs ws h.1)
    words_respect text [] (w ∷ ws) h = absurd h
    words_respect text (v ∷ vs) [] h = absurd h

    line_respects : (vs ws : List Value) → AllZip (Values c) vs ws → Respects c Equal (line inner vs) (line inner ws)
    line_respects [] [] h = same_text_act _ _ refl
    line_respects (v ∷ vs) (w ∷ ws) h =
        next c (writes v w h.0) λ word other e.
        subst (λ (z : List ℕ). Respects c Equal (words inner word vs) (words inner z ws)) e (words_respect word vs ws h.1)
    line_respects [] (w ∷ ws) h = absurd h
    line_respects (v ∷ vs) [] h = absurd h

    print_respects : (vs ws : List Value) → AllZip (Values c) vs ws → Gives c (print inner vs) (print inner ws)
    unfolding print
    print_respects vs ws h =
        next c (line_respects vs ws h) λ text other e.
        next c (charge_respects c (length text) (length other) (same_list c text other e)) λ _ _ _.
        next c (write_respects c text other e) λ _ _ _.
        plain_gives c value.Nothing refl

    text_gives : (text other : List ℕ) → text ≡ other → Gives c (pure (value.Text text)) (pure (value.Text other))
    text_gives text other e = subst (λ (t : List ℕ). Gives c (pure (value.Text text)) (pure (value.Text t))) e (plain_gives c (value.Text text) refl)

    plain_str : (v : Value) (text other : List ℕ) → value_refs v ≡ [] → text ≡ other → Gives c (str_of inner v text) (str_of inner v other)
    plain_str (value.Ref at) text other n e = cc
    plain_str (value.Text bytes) text other n e = text_gives text other e
    plain_str v text other n e = made_text_respects c text other e

    str_of_respects : (v w : Value) (text other : List ℕ) → Values c v w → text ≡ other → Gives c (str_of inner v text) (str_of inner w other)
    str_of_respects _ _ text other (equal v n) e = plain_str v text other n e
    str_of_respects _ _ text other (refs a b p) e = made_text_respects c text other e

    str_respects : (v w : Value) → Values c v w → Gives c (str inner v) (str inner w)
    unfolding str
    str_respects v w h = next c (writes v w h) λ text other e. str_of_respects v w text other h e

    str_called_respects : (vs ws : List Value) → Zips (Values c) vs ws → Gives c (str_called inner vs) (str_called inner ws)
    str_called_respects _ _ (one_more v w _ _ h no_more) = str_respects v w h
    str_called_respects vs ws _ = wrong_respects c (codes "str")

    repr_respects : (v w : Value) → Values c v w → Gives c (repr inner v) (repr inner w)
    unfolding repr
    repr_respects v w h = next c (shown_respects c inner.left [] [] [] v w tt h) λ text other e. made_text_respects c text other e

    repr_called_respects : (vs ws : List Value) → Zips (Values c) vs ws → Gives c (repr_called inner vs) (repr_called inner ws)
    repr_called_respects _ _ (one_more v w _ _ h no_more) = repr_respects v w h
    repr_called_respects vs ws _ = wrong_respects c (codes "repr")

    builtin_respects : (b : Builtin) (vs ws : List Value) → AllZip (Values c) vs ws → Gives c (builtin_called inner b vs) (builtin_called inner b ws)
    builtin_respects builtin.Print vs ws h = print_respects vs ws h
    builtin_respects builtin.Draw vs ws h = draw_called_respects c vs ws h
    builtin_respects builtin.Len vs ws h = len_called_respects c vs ws h
    builtin_respects builtin.Str vs ws h = str_called_respects vs ws (zips (Values c) vs ws h)
    builtin_respects builtin.Repr vs ws h = repr_called_respects vs ws (zips (Values c) vs ws h)
    builtin_respects builtin.Int vs ws h = int_called_respects c vs ws (zips (Values c) vs ws h)
    builtin_respects builtin.Range vs ws h = fail_respects c (Values c) range_elsewhere range_elsewhere refl
    builtin_respects builtin.Handle vs ws h = handle_called_respects c vs ws (zips (Values c) vs ws h)
    builtin_respects builtin.Tell vs ws h = tell_called_respects c vs ws (zips (Values c) vs ws h)

    entered_respects : (def : Def) (vs ws : List Value) → c.rules.fit (object.Function def) → AllZip (Values c) vs ws → Gives c (entered inner def vs) (entered inner def ws)
    unfolding entered
    entered_respects def vs ws fit h =
        next c (enter_respects c (frame_of def vs) (frame_of def ws) (frame_match c def vs ws h)) λ f g k.
        next c (block_respects def.body (c.rules.bodies def fit)) λ e e' m.
        next c (leave_respects c f g k) λ _ _ _.
        pure_respects c (Values c) (returned e) (returned e') (returned_match c e e' m)

    function_respects : (def : Def) (vs ws : List Value) → c.rules.fit (object.Function def) → AllZip (Values c) vs ws → Gives c (function_called inner def vs) (function_called inner def ws)
    function_respects def vs ws fit h =
        choose_respects c (Values c) _ _ _ _ _ _ (ap (λ n. n == length def.params) (zip_length (Values c) vs ws h)) (entered_respects def vs ws fit h) (wrong_respects c def.name)

    no_call : (o u : Option Object) → Slots c o u → Gives c (fail (not_callable (object_kind o))) (fail (not_callable (object_kind u)))
    no_call o u h = fail_respects c (Values c) _ _ (ap (λ k. not_callable k) (object_kinds c o u h))

    object_called_respects : (vs ws : List Value) (o u : Option Object) → AllZip (Values c) vs ws → Slots c o u → IfThere c.rules.fit o → Gives c (object_called inner vs o) (object_called inner ws u)
    object_called_respects vs ws (Some (object.Function def)) (Some (object.Function other)) k h fit =
        subst (λ d. Gives c (function_called inner def vs) (function_called inner d ws)) h (function_respects def vs ws fit k)
    object_called_respects vs ws (Some (object.List xs)) (Some (object.List ys)) k h fit = no_call (Some (object.List xs)) (Some (object.List ys)) h
    object_called_respects vs ws (Some (object.Tuple xs)) (Some (object.Tuple ys)) k h fit = no_call (Some (object.Tuple xs)) (Some (object.Tuple ys)) h
    object_called_respects vs ws (Some (object.Dict xs)) (Some (object.Dict ys)) k h fit = no_call (Some (object.Dict xs)) (Some (object.Dict ys)) h
    object_called_respects vs ws (Some (object.Handle name uses)) (Some (object.Handle other others)) k h fit = no_call (Some (object.Handle name uses)) (Some (object.Handle other others)) h
    object_called_respects vs ws (Some _) (Some _) k h fit = absurd h
    object_called_respects vs ws None None k h fit = no_call None None h
    object_called_respects vs ws None (Some u) k h fit = absurd h
    object_called_respects vs ws (Some o) None k h fit = absurd h

    ref_called_respects : (a b : ℕ) (vs ws : List Value) → Paired c a b → AllZip (Values c) vs ws → Gives c (ref_called inner a vs) (ref_called inner b ws)
    unfolding ref_called
    ref_called_respects a b vs ws p k = next c (object_found c a b p) λ o u h. object_called_respects vs ws o u k h.0 h.1

    plain_called : (v : Value) (vs ws : List Value) → value_refs v ≡ [] → AllZip (Values c) vs ws → Gives c (called inner v vs) (called inner v ws)
    plain_called (value.Builtin b) vs ws n h = builtin_respects b vs ws h
    plain_called (value.Ref at) vs ws n h = cc
    plain_called v vs ws n h = not_called_respects c v v (equal v n)

    called_respects : (v w : Value) (vs ws : List Value) → Values c v w → AllZip (Values c) vs ws → Gives c (called inner v vs) (called inner w ws)
    called_respects _ _ vs ws (equal v n) h = plain_called v vs ws n h
    called_respects _ _ vs ws (refs a b p) h = ref_called_respects a b vs ws p h

    call_respects : (callee : Expr) (args : List Expr) → c.rules.evals callee × Evals args → Gives c (call inner callee args) (call inner callee args)
    unfolding call
    call_respects callee args r =
        next c (step_respects c) λ _ _ _.
        next c (evals callee r.0) λ v w h.
        next c (items_respect args r.1) λ vs ws k.
        called_respects v w vs ws h k

    expression_respects : (e : Expr-F Expr Relation Operand Pair) → Looks c.rules.known c.rules.evals e → Gives c (expression inner e) (expression inner e)
    expression_respects (Expr-F.Name name) r = next c (step_respects c) λ _ _ _. look_respects c name r
    expression_respects (Expr-F.Literal constant) r = literal_respects c constant
    expression_respects (Expr-F.ListOf es) r = display_respects sequences.List es r
    expression_respects (Expr-F.TupleOf es) r = display_respects sequences.Tuple es r
    expression_respects (Expr-F.Conditional test first second) r = conditional_respects test first second r
    expression_respects (Expr-F.Or es) r = disjunction_respects es r
    expression_respects (Expr-F.And es) r = conjunction_respects es r
    expression_respects (Expr-F.Not e) r = negation_respects e r
    expression_respects (Expr-F.Compare first rest) r = comparison_respects first rest r.0 r.1
    expression_respects (Expr-F.Sum first rest) r = sum_respects first rest r.0 r.1
    expression_respects (Expr-F.Product first rest) r = sum_respects first rest r.0 r.1
    expression_respects (Expr-F.Sign minus e) r = sign_respects minus e r
    expression_respects (Expr-F.Method on name args) r = method_respects on name args r
    expression_respects (Expr-F.Call callee args) r = call_respects callee args r
    expression_respects (Expr-F.DictOf pairs) r = dict_display_respects pairs r
    expression_respects (Expr-F.Index e at) r = index_respects e at r
    expression_respects (Expr-F.Slice e from to) r = slice_respects e from to r

    -- ---- statements

    -- a name that may have a value, and that may be bound
    abbrev Binds : Name → Type 0
    Binds name = c.rules.may name × c.rules.known name

    stored_in_item_respects : (on at : Expr) (v w : Value) → c.rules.evals on × c.rules.evals at → Values c v w → Respects c Any (stored_in_item inner on at v) (stored_in_item inner on at w)
    unfolding stored_in_item
    stored_in_item_respects on at v w q h =
        next c (evals on q.0) λ r s k.
        next c (evals at q.1) λ x y m.
        item_stored_respects c r s x y v w k m h

    stored_respects : (into : Target) (v w : Value) → BindsAt Binds c.rules.evals into → Values c v w → Respects c Any (stored inner into v) (stored inner into w)
    stored_respects (target.Name name) v w may h = store_respects c name v w may h
    stored_respects (target.Item on at) v w q h = stored_in_item_respects on at v w q h

    all_stored_respect : (targets : List Target) (vs ws : List Value) → AllByRecursion (BindsAt Binds c.rules.evals) targets → AllZip (Values c) vs ws → Respects c Any (all_stored inner targets vs) (all_stored inner targets ws)
    all_stored_respect (into ∷ targets) (v ∷ vs) (w ∷ ws) may h = next c (stored_respects into v w may.0 h.0) λ _ _ _. all_stored_respect targets vs ws may.1 h.1
    all_stored_respect [] vs ws may h = pure_respects c Any tt tt tt
    all_stored_respect (into ∷ targets) [] [] may h = pure_respects c Any tt tt tt
    all_stored_respect (into ∷ targets) [] (w ∷ ws) may h = absurd h
    all_stored_respect (into ∷ targets) (v ∷ vs) [] may h = absurd h

    given_respects : (comma : Bool) (targets : List Target) (v w : Value) → AllByRecursion (BindsAt Binds c.rules.evals) targets → Values c v w → Respects c Any (given inner comma targets v) (given inner comma targets w)
    given_respects true targets v w may h = next c (unpacked_respects c (length targets) v w h) λ vs ws k. all_stored_respect targets vs ws may k
    given_respects false (into ∷ others) v w may h = stored_respects into v w may.0 h
    given_respects false [] v w may h = pure_respects c Any tt tt tt

    assign_respects : (targets : List Target) (comma : Bool) (e : Expr) → AllByRecursion (BindsAt Binds c.rules.evals) targets → c.rules.evals e → Flows c (assign inner targets comma e) (assign inner targets comma e)
    unfolding assign
    assign_respects targets comma e may r =
        next c (step_respects c) λ _ _ _.
        next c (evals e r) λ v w h.
        next c (given_respects comma targets v w may h) λ _ _ _.
        goes c flow.Next flow.Next to_next

    as_expression_respects : Respects c Any (as_expression inner) (as_expression inner)
    unfolding as_expression
    as_expression_respects = choose_respects c Any (inner.left == 0) (inner.left == 0) _ _ _ _ refl (fail_respects c Any recursion_error recursion_error refl) (step_respects c)

    augment_respects : (name : Name) (o : Op) (e : Expr) → Binds name → c.rules.evals e → Flows c (augment inner name o e) (augment inner name o e)
    unfolding augment
    augment_respects name o e may q =
        next c (step_respects c) λ _ _ _.
        next c as_expression_respects λ _ _ _.
        next c (look_respects c name may.1) λ x y h.
        next c (evals e q) λ v w k.
        next c (augmented_respects c o x y v w h k) λ r s m.
        next c (store_respects c name r s may m) λ _ _ _.
        goes c flow.Next flow.Next to_next

    augment_item_respects : (on at : Expr) (o : Op) (e : Expr) → c.rules.evals on × c.rules.evals at → c.rules.evals e → Flows c (augment_item inner on at o e) (augment_item inner on at o e)
    unfolding augment_item
    augment_item_respects on at o e t z =
        next c (step_respects c) λ _ _ _.
        next c as_expression_respects λ _ _ _.
        next c (deeper on t.0) λ r s h.
        next c (deeper at t.1) λ x y k.
        next c (indexed_respects c r s x y h k) λ i j m.
        next c (evals e z) λ v w l.
        next c (augmented_respects c o i j v w m l) λ new other q.
        next c (item_stored_respects c r s x y new other h k q) λ _ _ _.
        goes c flow.Next flow.Next to_next

    augment_at_respects : (into : Target) (o : Op) (e : Expr) → BindsAt Binds c.rules.evals into → c.rules.evals e → Flows c (augment_at inner into o e) (augment_at inner into o e)
    augment_at_respects (target.Name name) o e may r = augment_respects name o e may r
    augment_at_respects (target.Item on at) o e may r = augment_item_respects on at o e may r

    delete_item_respects : (on at : Expr) → c.rules.evals on × c.rules.evals at → Flows c (delete_item inner on at) (delete_item inner on at)
    unfolding delete_item
    delete_item_respects on at q =
        next c (step_respects c) λ _ _ _.
        next c (evals on q.0) λ r s h.
        next c (evals at q.1) λ x y k.
        next c (item_deleted_respects c r s x y h k) λ _ _ _.
        goes c flow.Next flow.Next to_next

    deleted_respects : (into : Target) → BindsAt c.rules.known c.rules.evals into → Flows c (deleted inner into) (deleted inner into)
    deleted_respects (target.Name name) known = delete_respects c name known
    deleted_respects (target.Item on at) r = delete_item_respects on at r

    show_respects : (e : Expr) → c.rules.evals e → Flows c (show inner e) (show inner e)
    show_respects e r = next c (next c (step_respects c) λ _ _ _. evals e r) λ _ _ _. goes c flow.Next flow.Next to_next

    return_respects : (e : Option Expr) → IfEvals c.rules.evals e → Flows c (return inner e) (return inner e)
    return_respects None r = next c (step_respects c) λ _ _ _. goes c (flow.Return value.Nothing) (flow.Return value.Nothing) (returns value.Nothing value.Nothing (equal value.Nothing refl))
    return_respects (Some e) r = next c (next c (step_respects c) λ _ _ _. evals e r) λ v w h. goes c (flow.Return v) (flow.Return w) (returns v w h)

    arms_respect : (tests : List Arm) (other : List Stmt) → AllByRecursion (λ arm. c.rules.evals (out-Arm arm).test × AllByRecursion c.rules.runs (out-Arm arm).body) tests → AllByRecursion c.rules.runs other → Flows c (arms inner tests other) (arms inner tests other)
    arms_respect [] other r q = block_respects other q
    arms_respect (arm ∷ more) other r q =
        next c (evals (out-Arm arm).test r.0.0) λ v w h.
        next c (truth_respects c v w h) λ b d e.
        choose_respects c (FlowsMatch (Paired c)) b d _ _ _ _ e (block_respects (out-Arm arm).body r.0.1) (arms_respect more other r.1 q)

    after_turn_respects : (e f : Flow) (p q : Act Flow) → FlowsMatch (Paired c) e f → Flows c p q → Flows c (after_turn e p) (after_turn f q)
    after_turn_respects _ _ p q to_next k = k
    after_turn_respects _ _ p q continues k = k
    after_turn_respects _ _ p q breaks k = goes c flow.Next flow.Next to_next
    after_turn_respects _ _ p q (returns v w h) k = goes c (flow.Return v) (flow.Return w) (returns v w h)

    turns_respect : (n : ℕ) (test : Expr) (body : List Stmt) → c.rules.evals test → AllByRecursion c.rules.runs body → Flows c (turns inner n test body) (turns inner n test body)
    unfolding turns
    turns_respect zero test body q r = fail_respects c (FlowsMatch (Paired c)) step_limit_error step_limit_error refl
    turns_respect (suc n) test body q r =
        next c (evals test q) λ v w h.
        next c (truth_respects c v w h) λ b d e.
        choose_respects c (FlowsMatch (Paired c)) b d _ _ _ _ e
        (next c (block_respects body r) λ x y k. after_turn_respects x y _ _ k (turns_respect n test body q r)) (goes c flow.Next flow.Next to_next)

    repeat_respects : (test : Expr) (body : List Stmt) → c.rules.evals test → AllByRecursion c.rules.runs body → Flows c (repeat inner test body) (repeat inner test body)
    unfolding repeat
    repeat_respects test body q r = next c (step_respects c) λ _ _ _. turns_respect most_turns test body q r

    -- ---- `for`

    deeper_items_respect : (vs ws : List Value) (es : List Expr) → Evals es → AllZip (Values c) vs ws → Respects c (AllZip (Values c)) (deeper_items_from inner vs es) (deeper_items_from inner ws es)
    deeper_items_respect vs ws [] r h = pure_respects c (AllZip (Values c)) vs ws h
    deeper_items_respect vs ws (e ∷ es) r h = next c (deeper e r.0) λ v w k. deeper_items_respect (vs ++ v ∷ []) (ws ++ w ∷ []) es r.1 (AllZip-push (Values c) vs ws v w h k)

    source_made : (v w : Value) (vs ws : List Value) → Values c v w → AllZip (Values c) vs ws → Iterates c (inner.calls v vs >>= iterated) (inner.calls w ws >>= iterated)
    source_made v w vs ws h k = next c (calls v w vs ws h k) λ x y m. iterated_respects c x y m

    plain_source : (v : Value) (vs ws : List Value) → value_refs v ≡ [] → AllZip (Values c) vs ws → Iterates c (source_called inner v vs) (source_called inner v ws)
    plain_source (value.Builtin builtin.Range) vs ws n h = range_of_respects c vs ws (zips (Values c) vs ws h)
    plain_source v vs ws n h = source_made v v vs ws (equal v n) h

    source_called_respects : (v w : Value) (vs ws : List Value) → Values c v w → AllZip (Values c) vs ws → Iterates c (source_called inner v vs) (source_called inner w ws)
    source_called_respects _ _ vs ws (equal v n) h = plain_source v vs ws n h
    source_called_respects _ _ vs ws (refs a b p) h = source_made (value.Ref a) (value.Ref b) vs ws (refs a b p) h

    call_source_respects : (callee : Expr) (args : List Expr) → c.rules.evals callee × Evals args → Iterates c (call_source inner callee args) (call_source inner callee args)
    unfolding call_source
    call_source_respects callee args r =
        next c as_expression_respects λ _ _ _.
        next c (deeper callee r.0) λ v w h.
        next c (deeper_items_respect [] [] args r.1 tt) λ vs ws k.
        source_called_respects v w vs ws h k

    source_evaluated : (e : Expr) → c.rules.evals e → Iterates c (inner.eval e >>= iterated) (inner.eval e >>= iterated)
    source_evaluated e r = next c (evals e r) λ v w h. iterated_respects c v w h

    source_respects : (e : Expr) (opened : Expr-F Expr Relation Operand Pair) → c.rules.evals e → Looks c.rules.known c.rules.evals opened → Iterates c (source_of inner e opened) (source_of inner e opened)
    source_respects e (Expr-F.Call callee args) r q = call_source_respects callee args q
    source_respects e _ r q = source_evaluated e r

    turn_respects : (names : List Name) (comma : Bool) (o u : Next) (p q : Iteration → Act Flow) → MayBind c names → Nexts c o u → ((r s : Iteration) → IterationsMatch (Paired c) r s → Flows c (p r) (q s))
        → Flows c (turn inner names comma o p) (turn inner names comma u q)
    turn_respects names comma (Some x) (Some y) p q may h k = next c (next c (step_respects c) λ _ _ _. names_given_respect c comma names x.0 y.0 may h.0) λ _ _ _. k x.1 y.1 h.1
    turn_respects names comma None None p q may h k = goes c flow.Next flow.Next to_next
    turn_respects names comma (Some x) None p q may h k = absurd h
    turn_respects names comma None (Some y) p q may h k = absurd h

    rounds_respect : (n : ℕ) (names : List Name) (comma : Bool) (body : List Stmt) (r s : Iteration) → MayBind c names → AllByRecursion c.rules.runs body → IterationsMatch (Paired c) r s
        → Flows c (rounds inner n names comma body r) (rounds inner n names comma body s)
    unfolding rounds
    rounds_respect zero names comma body r s may all h = fail_respects c (FlowsMatch (Paired c)) step_limit_error step_limit_error refl
    rounds_respect (suc n) names comma body r s may all h =
        next c (advance_respects c r s h) λ o u k.
        turn_respects names comma o u _ _ may k λ r' s' m. next c (block_respects body all) λ x y l. after_turn_respects x y _ _ l (rounds_respect n names comma body r' s' may all m)

    for_respects : (names : List Name) (comma : Bool) (e : Expr) (body : List Stmt) → MayBind c names × c.rules.evals e × AllByRecursion c.rules.runs body → Flows c (for_each inner names comma e body) (for_each inner names comma e body)
    unfolding for_each
    for_respects names comma e body all =
        next c (next c (step_respects c) λ _ _ _. source_respects e (out-Expr e) all.1 (c.rules.looks e all.1)) λ r s h. rounds_respect most_turns names comma body r s all.0 all.2 h

    one_step : (e : Flow) → FlowsMatch (Paired c) e e → Flows c (step >> pure e) (step >> pure e)
    one_step e h = next c (step_respects c) λ _ _ _. goes c e e h

    statement_respects : (s : Stmt-F Stmt Arm Def) → Opens Binds c.rules.known c.rules.fit c.rules.evals c.rules.runs s → Flows c (statement inner s) (statement inner s)
    statement_respects Stmt-F.Pass r = one_step flow.Next to_next
    statement_respects Stmt-F.Break r = one_step flow.Break breaks
    statement_respects Stmt-F.Continue r = one_step flow.Continue continues
    statement_respects (Stmt-F.Return e) r = return_respects e r
    statement_respects (Stmt-F.Global names) r = one_step flow.Next to_next
    statement_respects (Stmt-F.Delete into) r = deleted_respects into r
    statement_respects (Stmt-F.Assign targets comma e) r = assign_respects targets comma e r.0 r.1
    statement_respects (Stmt-F.Augment into o e) r = augment_at_respects into o e r.0 r.1
    statement_respects (Stmt-F.Expression e) r = show_respects e r
    statement_respects (Stmt-F.If tests other) r = next c (step_respects c) λ _ _ _. arms_respect tests other r.0 r.1
    statement_respects (Stmt-F.While test body) r = repeat_respects test body r.0 r.1
    statement_respects (Stmt-F.For names comma source body) r = for_respects names comma source body r
    statement_respects (Stmt-F.Function def) r = define_respects c def r

  -- ---- the levels

  pub record LevelRespects (n : ℕ) : Type 0 where
    pub evals : (e : Expr) → c.rules.evals e → Gives c ((level n).eval e) ((level n).eval e)
    pub execs : (s : Stmt) → c.rules.runs s → Flows c ((level n).exec s) ((level n).exec s)
    pub deeper : (e : Expr) → c.rules.evals e → Gives c ((level n).deeper e) ((level n).deeper e)
    pub calls : (v w : Value) (vs ws : List Value) → Values c v w → AllZip (Values c) vs ws → Gives c ((level n).calls v vs) ((level n).calls w ws)

  no_level : Gives c (fail recursion_error) (fail recursion_error)
  no_level = fail_respects c (Values c) recursion_error recursion_error refl

  pub level_respects : (n : ℕ) → LevelRespects n
  unfolding level
  level_respects zero = record {
    evals = λ e r. no_level;
    execs = λ s r. fail_respects c (FlowsMatch (Paired c)) recursion_error recursion_error refl;
    deeper = λ e r. no_level;
    calls = λ v w vs ws h k. no_level;
  }
  level_respects (suc n) =
      let below = level_respects n in
      record {
        evals = λ e r. expression_respects (level n) below.evals below.execs below.deeper below.calls (out-Expr e) (c.rules.looks e r);
        execs = λ s r. statement_respects (level n) below.evals below.execs below.deeper below.calls (out-Stmt s) (c.rules.opens s r);
        deeper = below.evals;
        calls = called_respects (level n) below.evals below.execs below.deeper below.calls;
      }

  -- ---- a cell

  abbrev Results : Act (Option (List ℕ)) → Act (Option (List ℕ)) → Type 0
  Results = Respects c Equal

  show_last_respects : (e : Expr) → c.rules.evals e → Results (show_last e) (show_last e)
  show_last_respects e r =
      let below = level_respects 799 in
      next c (next c (step_respects c) λ _ _ _. below.evals e r) λ v w h. result_respects c v w h

  exec_last : (s : Stmt) → c.rules.runs s → Results ((level 800).exec s >> pure None) ((level 800).exec s >> pure None)
  exec_last s r =
      let below = level_respects 800 in
      next c (below.execs s r) λ _ _ _. pure_respects c Equal None None refl

  last_respects : (s : Stmt) (opened : Stmt-F Stmt Arm Def) → c.rules.runs s → Opens (λ name. c.rules.may name × c.rules.known name) c.rules.known c.rules.fit c.rules.evals c.rules.runs opened → Results (last s opened) (last s opened)
  last_respects s (Stmt-F.Expression e) r q = show_last_respects e q
  last_respects s _ r q = exec_last s r

  top_from_respects : (s : Stmt) (more : List Stmt) → AllByRecursion c.rules.runs (s ∷ more) → Results (top_from s more) (top_from s more)
  top_from_respects s [] r = last_respects s (out-Stmt s) r.0 (c.rules.opens s r.0)
  top_from_respects s (t ∷ more) r =
      let below = level_respects 800 in
      next c (below.execs s r.0) λ _ _ _. top_from_respects t more r.1

  -- a cell on machines that are alike ends in such machines, with the same outcome
  pub cell_respects : (body : List Stmt) → AllByRecursion c.rules.runs body → Respects c Equal (cell body) (cell body)
  cell_respects [] r = pure_respects c Equal None None refl
  cell_respects (s ∷ more) r = top_from_respects s more r
