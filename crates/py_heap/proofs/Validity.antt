-- Each operation keeps a valid state valid, whatever is asked of a function's definition.
use Rattle.std.proofs.Common.{◌≡◌, ℕ, ◌≤◌, Bool, true, Option, Some, None, List, [], ◌∷◌, ◌++◌, set, refl, sym, ◌∙◌, subst, inl, inr, arith}
use Rattle.std.specs.Prelude.{IsTrue, insert, remove, slice_get}
use Rattle.std.specs.FinMap as finite
use Rattle.std.specs.List.{IsDistinct}
use Rattle.std.specs.Ordering.{eq_by_cmp, is_eq, nat_cmp}
use Rattle.std.specs.declared.cmp.Ordering.{Ordering}
use Rattle.std.specs.declared.cmp.Ordering.TheVariants as order
use Rattle.std.specs.Cmp.Lexicographic.{slice_cmp, nat_list_cmp_total}
use Rattle.std.proofs.lemmas.Bool.{cases_Bool, cond-true, cond-false, false≢true}
use Rattle.std.proofs.lemmas.Option.{none-some, slice_get_within, get_or_from_slice_get}
use Rattle.std.proofs.lemmas.List.Elements.{All-nil, All-push, All-set}
use Rattle.py_names.specs.Names.{is_variable}
use Rattle.py_tree.specs.declared.statements.Def.{Def}
use Rattle.py_value.specs.declared.key.Key.{Key}
use Rattle.py_value.specs.declared.value.Value.{Value}
use Rattle.py_heap.specs.declared.heap.Object.{Object}
use Rattle.py_heap.specs.declared.heap.Object.TheVariants as object
use Rattle.py_heap.specs.declared.state.State.{State}
use Rattle.py_heap.specs.Dicts.{HasNoKeyTwice, with_pair, without_key}
use Rattle.py_heap.specs.Objects.{items_at, pairs_of, pairs_at, name_at}
use Rattle.py_heap.specs.References.{value_refs, object_refs, AreLive, IsClosed}
use Rattle.py_heap.specs.States.{empty, with_name, without_name, with_object, with_object_at, with_items, with_pairs, with_uses}
use Rattle.py_heap.specs.Valid.{IsValidObject, IsValid, meter_limit}
use Rattle.py_heap.proofs.Pairs.{with_pair_distinct, without_key_distinct}
use Rattle.py_heap.proofs.Closed.{ItemsLive, empty_closed, bind_closed, unbind_closed, add_closed, set_closed, push_closed, extend_closed, insert_closed, remove_closed, clear_closed, put_closed, remove_key_closed, clear_dict_closed, uses_closed}

abbrev tied : List ℕ → List ℕ → Bool
tied = eq_by_cmp (slice_cmp nat_cmp)

equal_order : (o : Ordering) → is_eq o ≡ true → o ≡ order.Equal
equal_order order.Less e = absurd (false≢true e)
equal_order order.Equal e = refl
equal_order order.Greater e = absurd (false≢true e)

same_text : (a b : List ℕ) → tied a b ≡ true → a ≡ b
same_text a b e = finite.slice_cmp-IsAntisymmetric finite.nat_cmp-IsAntisymmetric a b (equal_order (slice_cmp nat_cmp a b) e)

module _ (IsOfKind : Def → Type 0) where
  pub empty_valid : IsValid IsOfKind empty
  empty_valid = record {
    closed = empty_closed;
    names = λ name held e. absurd (none-some held (sym (finite.get-empty (slice_cmp nat_cmp) name) ∙ e));
    objects = All-nil _;
    meter = omega arith;
  }

  pub count_valid : (s : State) (n : ℕ) → IsValid IsOfKind s → IsValid IsOfKind (record s { count = n })
  count_valid s n v = record {
    closed = record { names = v.closed.names; objects = v.closed.objects };
    names = v.names;
    objects = v.objects;
    meter = v.meter;
  }

  pub meter_valid : (s : State) (n : ℕ) → IsValid IsOfKind s → n ≤ meter_limit → IsValid IsOfKind (record s { meter = n })
  meter_valid s n v l = record {
    closed = record { names = v.closed.names; objects = v.closed.objects };
    names = v.names;
    objects = v.objects;
    meter = l;
  }

  pub bind_valid : (s : State) (name : List ℕ) (value : Value) → IsValid IsOfKind s → IsTrue (is_variable name) → AreLive s.heap (value_refs value) → IsValid IsOfKind (with_name s name value)
  bind_valid s name value v n l = record {
    closed = bind_closed s name value v.closed l;
    names = λ q held e.
        let looked = sym (finite.get-insert nat_list_cmp_total s.globals name value q) ∙ e in
        elim (cases_Bool (tied q name)) [
          | inl t ↦ subst (λ (x : List ℕ). IsTrue (is_variable x)) (sym (same_text q name t)) n
          | inr f ↦ v.names q held (sym (cond-false (tied q name) _ _ f) ∙ looked)
        ];
    objects = v.objects;
    meter = v.meter;
  }

  pub unbind_valid : (s : State) (name : List ℕ) → IsValid IsOfKind s → IsValid IsOfKind (without_name s name)
  unbind_valid s name v = record {
    closed = unbind_closed s name v.closed;
    names = λ q held e.
        let looked = sym (finite.get-remove nat_list_cmp_total s.globals name q) ∙ e in
        elim (cases_Bool (tied q name)) [
          | inl t ↦ absurd (none-some held (sym (cond-true (tied q name) _ _ t) ∙ looked))
          | inr f ↦ v.names q held (sym (cond-false (tied q name) _ _ f) ∙ looked)
        ];
    objects = v.objects;
    meter = v.meter;
  }

  pub add_valid : (s : State) (new : Object) → IsValid IsOfKind s → AreLive s.heap (object_refs new) → IsValidObject IsOfKind new → IsValid IsOfKind (with_object s new)
  add_valid s new v l o = record {
    closed = add_closed s new v.closed l;
    names = v.names;
    objects = All-push (IsValidObject IsOfKind) s.heap new v.objects o;
    meter = v.meter;
  }

  -- an object is replaced by a valid one
  put_there : (s : State) (at : ℕ) (new : Object) → IsValid IsOfKind s → IsClosed (with_object_at s at new) → IsValidObject IsOfKind new → IsValid IsOfKind (with_object_at s at new)
  put_there s at new v c o = record {
    closed = c;
    names = v.names;
    objects = All-set (IsValidObject IsOfKind) s.heap at new o v.objects;
    meter = v.meter;
  }

  distinct_in : (o : Option Object) → ((held : Object) → o ≡ Some held → IsValidObject IsOfKind held) → HasNoKeyTwice (pairs_of o)
  unfolding IsDistinct
  distinct_in (Some (object.Dict pairs)) h = h (object.Dict pairs) refl
  distinct_in None h = tt
  distinct_in (Some (object.List items)) h = tt
  distinct_in (Some (object.Tuple items)) h = tt
  distinct_in (Some (object.Function def)) h = tt
  distinct_in (Some (object.Handle name uses)) h = tt

  pub pairs_distinct : (s : State) (at : ℕ) → IsValid IsOfKind s → HasNoKeyTwice (pairs_at s.heap at)
  pairs_distinct s at v = distinct_in (slice_get s.heap at) (λ held e.
      subst (IsValidObject IsOfKind) (get_or_from_slice_get s.heap at held held e) (v.objects at held (slice_get_within s.heap at held e)))

  nothing_twice : HasNoKeyTwice []
  unfolding IsDistinct
  nothing_twice = tt

  module _ (s : State) (at : ℕ) (v : IsValid IsOfKind s) where
    abbrev items : List Value
    items = items_at s.heap at

    pub set_valid : (index : ℕ) (value : Value) → AreLive s.heap (value_refs value) → IsValid IsOfKind (with_items s at (set items index value))
    set_valid index value l = put_there s at (object.List (set items index value)) v (set_closed s at v.closed index value l) tt

    pub push_valid : (value : Value) → AreLive s.heap (value_refs value) → IsValid IsOfKind (with_items s at (items ++ value ∷ []))
    push_valid value l = put_there s at (object.List (items ++ value ∷ [])) v (push_closed s at v.closed value l) tt

    pub extend_valid : (more : List Value) → ItemsLive s.heap more → IsValid IsOfKind (with_items s at (items ++ more))
    extend_valid more l = put_there s at (object.List (items ++ more)) v (extend_closed s at v.closed more l) tt

    pub insert_valid : (index : ℕ) (value : Value) → AreLive s.heap (value_refs value) → IsValid IsOfKind (with_items s at (insert items index value))
    insert_valid index value l = put_there s at (object.List (insert items index value)) v (insert_closed s at v.closed index value l) tt

    pub remove_valid : (index : ℕ) → IsValid IsOfKind (with_items s at (remove items index))
    remove_valid index = put_there s at (object.List (remove items index)) v (remove_closed s at v.closed index) tt

    pub clear_valid : IsValid IsOfKind (with_items s at [])
    clear_valid = put_there s at (object.List []) v (clear_closed s at v.closed) tt

    pub put_valid : (key : Key) (value : Value) → AreLive s.heap (value_refs value) → IsValid IsOfKind (with_pairs s at (with_pair (pairs_at s.heap at) key value))
    put_valid key value l = put_there s at (object.Dict (with_pair (pairs_at s.heap at) key value)) v (put_closed s at v.closed key value l)
        (with_pair_distinct (pairs_at s.heap at) key value (pairs_distinct s at v))

    pub remove_key_valid : (key : Key) → IsValid IsOfKind (with_pairs s at (without_key (pairs_at s.heap at) key))
    remove_key_valid key = put_there s at (object.Dict (without_key (pairs_at s.heap at) key)) v (remove_key_closed s at v.closed key)
        (without_key_distinct (pairs_at s.heap at) key (pairs_distinct s at v))

    pub clear_dict_valid : IsValid IsOfKind (with_pairs s at [])
    clear_dict_valid = put_there s at (object.Dict []) v (clear_dict_closed s at v.closed) nothing_twice

    pub uses_valid : (uses : ℕ) → IsValid IsOfKind (with_uses s at uses)
    uses_valid uses = put_there s at (object.Handle (name_at s.heap at) uses) v (uses_closed s at v.closed uses) tt
