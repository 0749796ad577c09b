-- Objects compared: the lists and the dicts at two addresses.
use Rattle.std.proofs.Common.{◌≡◌, ◌≤◌, ℕ, ◌-◌, min, Bool, List, [], ◌∷◌, length, drop, Option, Some, Ok, refl, sym, ap, ◌∙◌, arith, length-drop}
use Rattle.std.specs.Prelude.{slice_get}
use Rattle.std.specs.Ordering.{nat_cmp}
use Rattle.std.proofs.lemmas.Bool.{eq-eqb}
use Rattle.std.proofs.lemmas.Bool.Decides.{nat_tests}
use Rattle.nb_outside.specs.declared.feed.Drawn.{Drawn}
use Rattle.py_tree.specs.declared.expressions.Op.{Op}
use Rattle.py_value.specs.declared.value.Value.{Value}
use Rattle.py_heap.specs.declared.heap.Object.TheVariants as object
use Rattle.py_heap.specs.Dicts.{Pairs}
use Rattle.py_heap.specs.Objects.{items_at, pairs_at}
use Rattle.py_machine.specs.declared.machine.Machine.{Machine}
use Rattle.py_machine.specs.Runs.{Outcome, object_at}
use Rattle.py_meaning.specs.Acts.{run}
use Rattle.py_meaning.specs.Compared.{Compares, sequences_equal, pairs_equal, refs_equal, in_items, in_ref, items_ordered, refs_ordered, order_holds}

-- what a look at an option saw
pub seen : {A : Type 0} {x y : A} {o : Option A} → Some x ≡ o → x ≡ y → o ≡ Some y
seen e f = sym e ∙ ap Some f

pub lists_at : (below : Compares) (a b : ℕ) (draws : List Drawn) (m : Machine) (vs ws : List Value) (o : Outcome Bool) → slice_get m.state.heap a ≡ Some (object.List vs) → slice_get m.state.heap b ≡ Some (object.List ws)
    → run (sequences_equal below (items_at m.state.heap a) (items_at m.state.heap b)) draws m ≡ o → run (refs_equal below a b) draws m ≡ o
unfolding refs_equal object_at
lists_at below a b draws m vs ws o e f h = rw (e, f) (rw (e, f) at h)

pub tuples_at : (below : Compares) (a b : ℕ) (draws : List Drawn) (m : Machine) (vs ws : List Value) (o : Outcome Bool) → slice_get m.state.heap a ≡ Some (object.Tuple vs) → slice_get m.state.heap b ≡ Some (object.Tuple ws)
    → run (sequences_equal below (items_at m.state.heap a) (items_at m.state.heap b)) draws m ≡ o → run (refs_equal below a b) draws m ≡ o
unfolding refs_equal object_at
tuples_at below a b draws m vs ws o e f h = rw (e, f) (rw (e, f) at h)

pub dicts_at : (below : Compares) (a b : ℕ) (draws : List Drawn) (m : Machine) (vs ws : Pairs) (o : Outcome Bool) → slice_get m.state.heap a ≡ Some (object.Dict vs) → slice_get m.state.heap b ≡ Some (object.Dict ws)
    → length vs ≡ length ws → run (pairs_equal below (pairs_at m.state.heap a) (pairs_at m.state.heap b)) draws m ≡ o → run (refs_equal below a b) draws m ≡ o
unfolding refs_equal object_at
dicts_at below a b draws m vs ws o e f l h = rw (e, f, eq-eqb (length vs) (length ws) l) (rw (e, f) at h)

pub searched_at : (below : Compares) (held : Value) (a : ℕ) (draws : List Drawn) (m : Machine) (vs : List Value) (o : Outcome Bool) → slice_get m.state.heap a ≡ Some (object.List vs)
    → run (in_items below held (items_at m.state.heap a)) draws m ≡ o → run (in_ref below held a) draws m ≡ o
unfolding in_ref object_at
searched_at below held a draws m vs o e h = rw e (rw e at h)

pub searched_in_tuple : (below : Compares) (held : Value) (a : ℕ) (draws : List Drawn) (m : Machine) (vs : List Value) (o : Outcome Bool) → slice_get m.state.heap a ≡ Some (object.Tuple vs)
    → run (in_items below held (items_at m.state.heap a)) draws m ≡ o → run (in_ref below held a) draws m ≡ o
unfolding in_ref object_at
searched_in_tuple below held a draws m vs o e h = rw e (rw e at h)

pub tuples_ordered_at : (equal : Compares) (ordered : Op → Compares) (op : Op) (a b : ℕ) (draws : List Drawn) (m : Machine) (vs ws : List Value) (o : Outcome Bool) → slice_get m.state.heap a ≡ Some (object.Tuple vs)
    → slice_get m.state.heap b ≡ Some (object.Tuple ws) → run (items_ordered equal ordered op (items_at m.state.heap a) (items_at m.state.heap b)) draws m ≡ o → run (refs_ordered equal ordered op a b) draws m ≡ o
unfolding refs_ordered object_at
tuples_ordered_at equal ordered op a b draws m vs ws o e f h = rw (e, f) (rw (e, f) at h)

pub ordered_at : (equal : Compares) (ordered : Op → Compares) (op : Op) (a b : ℕ) (draws : List Drawn) (m : Machine) (vs ws : List Value) (o : Outcome Bool) → slice_get m.state.heap a ≡ Some (object.List vs)
    → slice_get m.state.heap b ≡ Some (object.List ws) → run (items_ordered equal ordered op (items_at m.state.heap a) (items_at m.state.heap b)) draws m ≡ o → run (refs_ordered equal ordered op a b) draws m ≡ o
unfolding refs_ordered object_at
ordered_at equal ordered op a b draws m vs ws o e f h = rw (e, f) (rw (e, f) at h)

cmp_left : (k a b : ℕ) → k ≤ a → k ≤ b → nat_cmp (a - k) (b - k) ≡ nat_cmp a b
cmp_left k a b l m = grind (arith, nat_tests)

ends_here : (equal : Compares) (ordered : Op → Compares) (op : Op) (draws : List Drawn) (m : Machine) (vs ws : List Value) → min (length vs) (length ws) ≡ 0
    → run (items_ordered equal ordered op vs ws) draws m ≡ (Ok (order_holds op (nat_cmp (length vs) (length ws))), m)
ends_here equal ordered op draws m [] ws e = refl
ends_here equal ordered op draws m (v ∷ vs) [] e = refl
ends_here equal ordered op draws m (v ∷ vs) (w ∷ ws) e = absurd (omega arith)

-- when one list ends, the lengths decide
pub ordered_end : (equal : Compares) (ordered : Op → Compares) (op : Op) (draws : List Drawn) (m : Machine) (vs ws : List Value) (k : ℕ) → k ≡ min (length vs) (length ws)
    → run (items_ordered equal ordered op (drop k vs) (drop k ws)) draws m ≡ (Ok (order_holds op (nat_cmp (length vs) (length ws))), m)
ordered_end equal ordered op draws m vs ws k e =
    let a = length-drop k vs in
    let b = length-drop k ws in
    let here : min (length (drop k vs)) (length (drop k ws)) ≡ 0 = omega arith in
    let same : nat_cmp (length (drop k vs)) (length (drop k ws)) ≡ nat_cmp (length vs) (length ws) = rw (a, b) (cmp_left k (length vs) (length ws) (omega arith) (omega arith)) in
    rw (← same) (ends_here equal ordered op draws m (drop k vs) (drop k ws) here)
