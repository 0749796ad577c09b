-- Each operation keeps a closed state closed.
use Rattle.std.proofs.Common.{◌≡◌, ℕ, suc, ◌<◌, Bool, Option, Some, None, List, [], ◌∷◌, ◌++◌, length, get_or, set, take, drop, refl, sym, ◌∙◌, subst, inl, inr, arith}
use Rattle.std.specs.Prelude.{All, insert, remove, slice_get}
use Rattle.std.specs.FinMap as finite
use Rattle.std.specs.Ordering.{eq_by_cmp, nat_cmp}
use Rattle.std.specs.Cmp.Lexicographic.{slice_cmp, nat_list_cmp_total}
use Rattle.std.proofs.lemmas.Bool.{cases_Bool, cond-true, cond-false}
use Rattle.std.proofs.lemmas.Option.{none-some, same_Some, slice_get_within, get_or_from_slice_get}
use Rattle.std.proofs.lemmas.List.{length_push, length-set}
use Rattle.std.proofs.lemmas.List.Elements.{All-nil, All-cons, All-head, All-tail, All-append, All-push, All-set, All-take, All-drop, All-weaker, All-contains}
use Rattle.py_value.specs.declared.key.Key.{Key}
use Rattle.py_value.specs.declared.value.Value.{Value}
use Rattle.py_value.specs.Keys.{same_key}
use Rattle.py_heap.specs.declared.heap.Object.{Object}
use Rattle.py_heap.specs.declared.heap.Object.TheVariants as object
use Rattle.py_heap.specs.declared.state.State.{State}
use Rattle.py_heap.specs.Dicts.{Pairs, with_pair, without_key}
use Rattle.py_heap.specs.Objects.{items_of, items_at, pairs_of, pairs_at, name_at}
use Rattle.py_heap.specs.References.{value_refs, pair_refs, object_refs, AreLive, IsClosed}
use Rattle.py_heap.specs.States.{empty, with_name, without_name, with_object, with_object_at, with_items, with_pairs, with_uses}
use Rattle.py_heap.proofs.Numbers.{All-flat_map, All-flat_map_at}

abbrev tied : List ℕ → List ℕ → Bool
tied = eq_by_cmp (slice_cmp nat_cmp)

pub empty_closed : IsClosed empty
empty_closed = record {
  names = λ name held e. absurd (none-some held (sym (finite.get-empty (slice_cmp nat_cmp) name) ∙ e));
  objects = All-nil _;
}

pub bind_closed : (s : State) (name : List ℕ) (value : Value) → IsClosed s → AreLive s.heap (value_refs value) → IsClosed (with_name s name value)
bind_closed s name value c l = record {
  names = λ q held e.
      let looked = sym (finite.get-insert nat_list_cmp_total s.globals name value q) ∙ e in
      elim (cases_Bool (tied q name)) [
        | inl t ↦ subst (λ v. AreLive s.heap (value_refs v)) (same_Some value held (sym (cond-true (tied q name) _ _ t) ∙ looked)) l
        | inr f ↦ c.names q held (sym (cond-false (tied q name) _ _ f) ∙ looked)
      ];
  objects = c.objects;
}

pub unbind_closed : (s : State) (name : List ℕ) → IsClosed s → IsClosed (without_name s name)
unbind_closed s name c = record {
  names = λ q held e.
      let looked = sym (finite.get-remove nat_list_cmp_total s.globals name q) ∙ e in
      elim (cases_Bool (tied q name)) [
        | inl t ↦ absurd (none-some held (sym (cond-true (tied q name) _ _ t) ∙ looked))
        | inr f ↦ c.names q held (sym (cond-false (tied q name) _ _ f) ∙ looked)
      ];
  objects = c.objects;
}

still_live : (heap : List Object) (new : Object) (refs : List ℕ) → AreLive heap refs → AreLive (heap ++ new ∷ []) refs
still_live heap new refs l = λ k d k_in. let less : get_or refs k d < length heap = l k d k_in in omega (arith, length_push heap new)

pub add_closed : (s : State) (new : Object) → IsClosed s → AreLive s.heap (object_refs new) → IsClosed (with_object s new)
add_closed s new c l = record {
  names = λ name held e. still_live s.heap new (value_refs held) (c.names name held e);
  objects = All-push (λ held. AreLive (s.heap ++ new ∷ []) (object_refs held)) s.heap new
      (λ k d k_in. still_live s.heap new (object_refs (get_or s.heap k d)) (c.objects k d k_in)) (still_live s.heap new (object_refs new) l);
}

abbrev pub ItemsLive : List Object → List Value → Type 0
ItemsLive heap items = All (λ item. AreLive heap (value_refs item)) items

-- an object is replaced by one that names nothing new
pub object_closed : (s : State) (at : ℕ) (new : Object) → IsClosed s → AreLive s.heap (object_refs new) → IsClosed (with_object_at s at new)
object_closed s at new c live =
    let same = length-set s.heap at new in
    record {
      names = λ name held e. rw same (c.names name held e);
      objects = All-weaker (λ held. AreLive s.heap (object_refs held)) (λ held. AreLive (set s.heap at new) (object_refs held))
          (λ held h k d k_in. rw same (h k d k_in)) (set s.heap at new)
          (All-set (λ held. AreLive s.heap (object_refs held)) s.heap at new live c.objects);
    }

items_closed : (s : State) (at : ℕ) (items : List Value) → IsClosed s → ItemsLive s.heap items → IsClosed (with_items s at items)
items_closed s at items c l = object_closed s at (object.List items) c
    (All-flat_map (λ n. n < length s.heap) value_refs items (λ item h. All-contains (λ item. AreLive s.heap (value_refs item)) items item l h))

live_of : (heap : List Object) (o : Option Object) → ((held : Object) → o ≡ Some held → AreLive heap (object_refs held)) → ItemsLive heap (items_of o)
live_of heap None h = All-nil _
live_of heap (Some (object.List items)) h = λ k d k_in. All-flat_map_at (λ n. n < length heap) value_refs items k d k_in (h (object.List items) refl)
live_of heap (Some (object.Tuple items)) h = λ k d k_in. All-flat_map_at (λ n. n < length heap) value_refs items k d k_in (h (object.Tuple items) refl)
live_of heap (Some (object.Dict pairs)) h = All-nil _
live_of heap (Some (object.Function def)) h = All-nil _
live_of heap (Some (object.Handle name uses)) h = All-nil _

pub items_live : (s : State) (at : ℕ) → IsClosed s → ItemsLive s.heap (items_at s.heap at)
items_live s at c = live_of s.heap (slice_get s.heap at) (λ held e.
    subst (λ o. AreLive s.heap (object_refs o)) (get_or_from_slice_get s.heap at held held e) (c.objects at held (slice_get_within s.heap at held e)))

module _ (s : State) (at : ℕ) (c : IsClosed s) where
  abbrev items : List Value
  items = items_at s.heap at

  abbrev Live : Value → Type 0
  Live item = AreLive s.heap (value_refs item)

  pub set_closed : (index : ℕ) (value : Value) → Live value → IsClosed (with_items s at (set items index value))
  set_closed index value l = items_closed s at _ c (All-set Live items index value l (items_live s at c))

  pub push_closed : (value : Value) → Live value → IsClosed (with_items s at (items ++ value ∷ []))
  push_closed value l = items_closed s at _ c (All-push Live items value (items_live s at c) l)

  pub extend_closed : (more : List Value) → ItemsLive s.heap more → IsClosed (with_items s at (items ++ more))
  extend_closed more l = items_closed s at _ c (All-append Live items more (items_live s at c) l)

  pub insert_closed : (index : ℕ) (value : Value) → Live value → IsClosed (with_items s at (insert items index value))
  insert_closed index value l = items_closed s at _ c
      (All-append Live (take index items) (value ∷ drop index items) (All-take Live index items (items_live s at c))
      (All-cons Live value (drop index items) l (All-drop Live index items (items_live s at c))))

  pub remove_closed : (index : ℕ) → IsClosed (with_items s at (remove items index))
  remove_closed index = items_closed s at _ c
      (All-append Live (take index items) (drop (suc index) items) (All-take Live index items (items_live s at c)) (All-drop Live (suc index) items (items_live s at c)))

  pub clear_closed : IsClosed (with_items s at [])
  clear_closed = items_closed s at [] c (All-nil Live)

-- ---- dicts and handles

abbrev pub PairsLive : List Object → Pairs → Type 0
PairsLive heap pairs = All (λ pair. AreLive heap (pair_refs pair)) pairs

pairs_closed : (s : State) (at : ℕ) (pairs : Pairs) → IsClosed s → PairsLive s.heap pairs → IsClosed (with_pairs s at pairs)
pairs_closed s at pairs c l = object_closed s at (object.Dict pairs) c
    (All-flat_map (λ n. n < length s.heap) pair_refs pairs (λ pair h. All-contains (λ pair. AreLive s.heap (pair_refs pair)) pairs pair l h))

live_pairs_of : (heap : List Object) (o : Option Object) → ((held : Object) → o ≡ Some held → AreLive heap (object_refs held)) → PairsLive heap (pairs_of o)
live_pairs_of heap (Some (object.Dict pairs)) h = λ k d k_in. All-flat_map_at (λ n. n < length heap) pair_refs pairs k d k_in (h (object.Dict pairs) refl)
live_pairs_of heap None h = All-nil _
live_pairs_of heap (Some (object.List held)) h = All-nil _
live_pairs_of heap (Some (object.Tuple held)) h = All-nil _
live_pairs_of heap (Some (object.Function def)) h = All-nil _
live_pairs_of heap (Some (object.Handle name uses)) h = All-nil _

pub pairs_live : (s : State) (at : ℕ) → IsClosed s → PairsLive s.heap (pairs_at s.heap at)
pairs_live s at c = live_pairs_of s.heap (slice_get s.heap at) (λ held e.
    subst (λ o. AreLive s.heap (object_refs o)) (get_or_from_slice_get s.heap at held held e) (c.objects at held (slice_get_within s.heap at held e)))

live_with : (heap : List Object) (pairs : Pairs) (key : Key) (value : Value) → AreLive heap (value_refs value) → PairsLive heap pairs → PairsLive heap (with_pair pairs key value)
live_with heap [] key value l a = All-cons _ (key, value) [] l a
live_with heap (pair ∷ pairs) key value l a =
    let P : Key × Value → Type 0 = λ pair. AreLive heap (pair_refs pair) in
    let head : P pair = All-head P pair pairs a in
    let tail : All P pairs = All-tail P pair pairs a in
    elim (cases_Bool (same_key key pair.0)) [
      | inl e ↦ rw e (All-cons P (pair.0, value) pairs l tail)
      | inr e ↦ rw e (All-cons P pair (with_pair pairs key value) head (live_with heap pairs key value l tail))
    ]

live_without : (heap : List Object) (pairs : Pairs) (key : Key) → PairsLive heap pairs → PairsLive heap (without_key pairs key)
live_without heap [] key a = a
live_without heap (pair ∷ pairs) key a =
    let P : Key × Value → Type 0 = λ pair. AreLive heap (pair_refs pair) in
    let tail : All P pairs = All-tail P pair pairs a in
    elim (cases_Bool (same_key key pair.0)) [
      | inl e ↦ rw e tail
      | inr e ↦ rw e (All-cons P pair (without_key pairs key) (All-head P pair pairs a) (live_without heap pairs key tail))
    ]

module _ (s : State) (at : ℕ) (c : IsClosed s) where
  pub put_closed : (key : Key) (value : Value) → AreLive s.heap (value_refs value) → IsClosed (with_pairs s at (with_pair (pairs_at s.heap at) key value))
  put_closed key value l = pairs_closed s at _ c (live_with s.heap (pairs_at s.heap at) key value l (pairs_live s at c))

  pub remove_key_closed : (key : Key) → IsClosed (with_pairs s at (without_key (pairs_at s.heap at) key))
  remove_key_closed key = pairs_closed s at _ c (live_without s.heap (pairs_at s.heap at) key (pairs_live s at c))

  pub clear_dict_closed : IsClosed (with_pairs s at [])
  clear_dict_closed = pairs_closed s at [] c (All-nil _)

  pub uses_closed : (uses : ℕ) → IsClosed (with_uses s at uses)
  uses_closed uses = object_closed s at (object.Handle (name_at s.heap at) uses) c (All-nil _)
