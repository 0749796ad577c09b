-- Closed states with n objects, for tests.
use Rattle.std.proofs.Common.{◌≡◌, ℕ, ◌+◌, ◌<◌, List, [], ◌∷◌, ◌++◌, length, refl, sym, ap, ◌∙◌, subst, arith}
use Rattle.std.proofs.lemmas.List.{length_push, length-set}
use Rattle.std.proofs.lemmas.List.Elements.{All-nil, All-cons}
use Rattle.py_value.specs.declared.key.Key.{Key}
use Rattle.py_value.specs.declared.value.Value.{Value}
use Rattle.py_value.specs.declared.value.Value.TheVariants as value
use Rattle.py_heap.specs.declared.heap.Object.TheVariants as object
use Rattle.py_heap.specs.declared.state.State.{State}
use Rattle.py_heap.specs.Dicts.{Pairs, with_pair}
use Rattle.py_heap.specs.Objects.{items_at, pairs_at}
use Rattle.py_heap.specs.References.{value_refs, AreLive, IsClosed}
use Rattle.py_heap.specs.States.{empty, with_name, with_object, with_items, with_pairs}
use Rattle.py_heap.proofs.Closed.{empty_closed, bind_closed, add_closed, push_closed, put_closed}

pub record IsClosedAt (n : ℕ) (s : State) : Type 0 where
  pub closed : IsClosed s
  pub many : length s.heap ≡ n

ref_live : (n : ℕ) (s : State) (at : ℕ) → IsClosedAt n s → at < n → AreLive s.heap (value_refs (value.Ref at))
ref_live n s at h l = let e : length s.heap ≡ n = h.many in All-cons (λ k. k < length s.heap) at [] (omega arith) (All-nil _)

pub at_start : (s : State) → s ≡ empty → IsClosedAt 0 s
at_start s e = subst (IsClosedAt 0) (sym e) (record { closed = empty_closed; many = refl })

pub after_add : (n : ℕ) (s new : State) (items : List Value) → IsClosedAt n s → items ≡ [] → new ≡ with_object s (object.List items) → IsClosedAt (n + 1) new
after_add n s new items h none e =
    let f : new ≡ with_object s (object.List []) = e ∙ ap (λ (vs : List Value). with_object s (object.List vs)) none in
    subst (IsClosedAt (n + 1)) (sym f) (record { closed = add_closed s (object.List []) h.closed (All-nil _); many = length_push s.heap (object.List []) ∙ ap (λ (k : ℕ). k + 1) h.many })

pub after_add_one : (n : ℕ) (s new : State) (items : List Value) (to : ℕ) → IsClosedAt n s → to < n → items ≡ value.Ref to ∷ [] → new ≡ with_object s (object.List items) → IsClosedAt (n + 1) new
after_add_one n s new items to h l one e =
    let f : new ≡ with_object s (object.List (value.Ref to ∷ [])) = e ∙ ap (λ (vs : List Value). with_object s (object.List vs)) one in
    subst (IsClosedAt (n + 1)) (sym f)
    (record { closed = add_closed s (object.List (value.Ref to ∷ [])) h.closed (ref_live n s to h l); many = length_push s.heap (object.List (value.Ref to ∷ [])) ∙ ap (λ (k : ℕ). k + 1) h.many })

pub after_add_dict : (n : ℕ) (s new : State) (pairs : Pairs) → IsClosedAt n s → pairs ≡ [] → new ≡ with_object s (object.Dict pairs) → IsClosedAt (n + 1) new
after_add_dict n s new pairs h none e =
    let f : new ≡ with_object s (object.Dict []) = e ∙ ap (λ (ps : Pairs). with_object s (object.Dict ps)) none in
    subst (IsClosedAt (n + 1)) (sym f) (record { closed = add_closed s (object.Dict []) h.closed (All-nil _); many = length_push s.heap (object.Dict []) ∙ ap (λ (k : ℕ). k + 1) h.many })

pub after_put : (n : ℕ) (s new : State) (at to : ℕ) (key : Key) → IsClosedAt n s → to < n → new ≡ with_pairs s at (with_pair (pairs_at s.heap at) key (value.Ref to)) → IsClosedAt n new
after_put n s new at to key h l e = subst (IsClosedAt n) (sym e)
    (record { closed = put_closed s at h.closed key (value.Ref to) (ref_live n s to h l); many = length-set s.heap at (object.Dict (with_pair (pairs_at s.heap at) key (value.Ref to))) ∙ h.many })

push_value : (n : ℕ) (s new : State) (at : ℕ) (v : Value) → IsClosedAt n s → AreLive s.heap (value_refs v) → new ≡ with_items s at (items_at s.heap at ++ v ∷ []) → IsClosedAt n new
push_value n s new at v h l e = subst (IsClosedAt n) (sym e)
    (record { closed = push_closed s at h.closed v l; many = length-set s.heap at (object.List (items_at s.heap at ++ v ∷ [])) ∙ h.many })

pub after_push : (n : ℕ) (s new : State) (at to : ℕ) → IsClosedAt n s → to < n → new ≡ with_items s at (items_at s.heap at ++ value.Ref to ∷ []) → IsClosedAt n new
after_push n s new at to h l e = push_value n s new at (value.Ref to) h (ref_live n s to h l) e

pub after_push_text : (n : ℕ) (s new : State) (at : ℕ) (text : List ℕ) → IsClosedAt n s → new ≡ with_items s at (items_at s.heap at ++ value.Text text ∷ []) → IsClosedAt n new
after_push_text n s new at text h e = push_value n s new at (value.Text text) h (All-nil _) e

pub after_bind : (n : ℕ) (s new : State) (name : List ℕ) (to : ℕ) → IsClosedAt n s → to < n → new ≡ with_name s name (value.Ref to) → IsClosedAt n new
after_bind n s new name to h l e = subst (IsClosedAt n) (sym e) (record { closed = bind_closed s name (value.Ref to) h.closed (ref_live n s to h l); many = h.many })
