-- Each closed state can be tidied.
use Rattle.std.proofs.Common.{◌≡◌, ◌≢◌, ℕ, zero, suc, ◌+◌, ◌<◌, Bool, true, false, T, List, [], ◌∷◌, ◌++◌, map, length, get_or, is_some, Option, Some, None, option_map, refl, sym, ap, ◌∙◌, inl, inr, subst, arith}
use Rattle.std.specs.Prelude.{Contains, AllPairs, slice_get, option_to_list, ◌↔◌, ◌==◌}
use Rattle.std.specs.List.{AllZip, flat_map}
use Rattle.std.specs.FinMap as finite
use Rattle.std.specs.FinMap.{is_sorted, slice_cmp-IsAntisymmetric, nat_cmp-IsAntisymmetric}
use Rattle.std.specs.FinMap.Entries.{below_all}
use Rattle.std.specs.declared.cmp.Ordering.{Ordering}
use Rattle.std.specs.declared.cmp.Ordering.TheVariants.{Less, Equal, Greater}
use Rattle.std.specs.Ordering.{is_lt, is_eq, nat_cmp, eq_by_cmp}
use Rattle.std.specs.Cmp.{eq_by_cmp_equiv}
use Rattle.std.specs.Cmp.Lexicographic.{slice_cmp, nat_list_cmp_total}
use Rattle.std.proofs.lemmas.Bool.{false≢true, and_parts, cases_Bool, cases_eq, cases_lt, eqb-true, eqb-false}
use Rattle.std.proofs.lemmas.Option.{none-some, same_Some, slice_get-get_or, slice_get_within, get_or_from_slice_get}
use Rattle.std.proofs.lemmas.List.Elements.{Contains-get_or, Contains-append_left, Contains-append_right}
use Rattle.std.proofs.lemmas.Map.Views.{Contains-from_any, list_any-from_Contains}
use Rattle.py_value.specs.declared.key.Key.{Key}
use Rattle.py_value.specs.declared.value.Value.{Value}
use Rattle.py_value.specs.declared.value.Value.TheVariants as value
use Rattle.py_heap.specs.declared.heap.Object.{Object}
use Rattle.py_heap.specs.declared.heap.Object.TheVariants as object
use Rattle.py_heap.specs.declared.state.State.{State}
use Rattle.py_heap.specs.References.{value_refs, pair_refs, object_refs, IsClosed}
use Rattle.py_heap.specs.Reaching.{held_refs, Reach, IsListOf, firsts, met}
use Rattle.py_heap.specs.Reaching as reaching
use Rattle.py_heap.proofs.Numbers.{firsts_apart}
use Rattle.py_machine.specs.Runs.{Name}
use Rattle.py_laws.specs.Same.{ValuesMatch, equal, refs, PairsMatch, ObjectsMatch, BothOrNone, Both}
use Rattle.py_laws.proofs.Members.{name_cases, name_itself}
use Rattle.py_laws.proofs.Partners.{none_in, first_in, later_in}
use Rattle.py_laws.proofs.Bindings.{bound, bound_other}
use Rattle.py_laws.proofs.Reached.{reached_live}
use Rattle.graph_model.specs.Faults.{TextBelow, Ascends}
use Rattle.linked_parts.specs.Parts.{HasValue}
use Rattle.run_graph.proofs.Lists.{cons_cases}
use Rattle.run_graph.proofs.Reached.{has_value}
use Rattle.part_bytes.specs.Parts.{order, number_in, numbered, numbered_pair, numbered_object, objects_of}
use Rattle.part_bytes.proofs.Orders.{order_lists, order_first}
use Rattle.part_bytes.proofs.Pieces.{as_many}
use Rattle.replay_laws.specs.Tidied.{AtPosition, IsTidied}

-- ---- the names with a value, ascending

is_true : (b : Bool) → T b → b ≡ true
is_true true h = refl
is_true false h = absurd h

is_less : (o : Ordering) → is_lt o ≡ true → o ≡ Less
is_less Less e = refl
is_less Equal e = absurd (false≢true e)
is_less Greater e = absurd (false≢true e)

is_equal : (o : Ordering) → is_eq o ≡ true → o ≡ Equal
is_equal Less e = absurd (false≢true e)
is_equal Equal e = refl
is_equal Greater e = absurd (false≢true e)

same_name : (x y : Name) → eq_by_cmp (slice_cmp nat_cmp) x y ≡ true → x ≡ y
same_name x y e = slice_cmp-IsAntisymmetric nat_cmp-IsAntisymmetric x y (is_equal (slice_cmp nat_cmp x y) e)

ascending : (es : List (Name × Value)) → is_sorted (slice_cmp nat_cmp) es ≡ true → Ascends TextBelow (map (λ e. e.0) es)
ascending [] h = tt
ascending (e ∷ []) h = tt
ascending (e ∷ f ∷ es) h =
    let p = and_parts (below_all (slice_cmp nat_cmp) e.0 (f ∷ es)) (is_sorted (slice_cmp nat_cmp) (f ∷ es)) h in
    let q = and_parts (is_lt (slice_cmp nat_cmp e.0 f.0)) (below_all (slice_cmp nat_cmp) e.0 es) p.0 in
    (is_less (slice_cmp nat_cmp e.0 f.0) q.0, ascending (f ∷ es) p.1)

some_value : (o : Option Value) → is_some o ≡ true → (held : Value) × (o ≡ Some held)
some_value (Some held) e = (held, refl)
some_value None e = absurd (false≢true e)

pub keys_have : (t : State) (x : Name) → Contains (finite.keys t.globals) x ↔ HasValue t x
keys_have t x = (
  λ c. some_value (finite.get t.globals x) (finite.contains_key-keys t.globals x ∙ list_any-from_Contains (eq_by_cmp_equiv nat_list_cmp_total) x (finite.keys t.globals) c),
  λ v. Contains-from_any same_name x (finite.keys t.globals) (sym (finite.contains_key-keys t.globals x) ∙ ap is_some v.1),
)

-- ---- each address in a list has a number there, which is its index

pub number_at : (ns : List ℕ) (at : ℕ) → Contains ns at → slice_get ns (number_in ns at) ≡ Some at
number_at [] at c = absurd (none_in at c)
number_at (n ∷ ns) at c = elim (cases_Bool (n == at)) [
  | inl e ↦ rw e (ap (λ k. Some k) (eqb-true n at e))
  | inr e ↦ elim (cons_cases n ns at c) [
    | inl same ↦ absurd (eqb-false n at e same)
    | inr k ↦ let next : number_in ns at + 1 ≡ suc (number_in ns at) = omega arith in rw e (ap (slice_get (n ∷ ns)) next ∙ number_at ns at k)
  ]
]

module _ (order : List ℕ) where
  abbrev Number : ℕ → ℕ
  Number = number_in order

  abbrev AreThere : List ℕ → Type 0
  AreThere ns = (a : ℕ) → Contains ns a → Contains order a

  pub value_moved : (v : Value) → AreThere (value_refs v) → ValuesMatch (AtPosition order) v (numbered Number v)
  value_moved (value.Ref at) k = refs at (number_in order at) (number_at order at (k at (first_in at [])))
  value_moved value.Nothing k = equal value.Nothing refl
  value_moved (value.Bool truth) k = equal (value.Bool truth) refl
  value_moved (value.Number number) k = equal (value.Number number) refl
  value_moved (value.Text text) k = equal (value.Text text) refl
  value_moved (value.Builtin builtin) k = equal (value.Builtin builtin) refl

  items_moved : (vs : List Value) → AreThere (flat_map value_refs vs) → AllZip (ValuesMatch (AtPosition order)) vs (map (numbered Number) vs)
  items_moved [] k = tt
  items_moved (v ∷ vs) k = (
    value_moved v (λ a c. k a (Contains-append_left (value_refs v) (flat_map value_refs vs) a c)),
    items_moved vs (λ a c. k a (Contains-append_right (value_refs v) (flat_map value_refs vs) a c)),
  )

  pairs_moved : (vs : List (Key × Value)) → AreThere (flat_map pair_refs vs) → AllZip (PairsMatch (AtPosition order)) vs (map (numbered_pair Number) vs)
  pairs_moved [] k = tt
  pairs_moved (v ∷ vs) k = (
    (refl, value_moved v.1 (λ a c. k a (Contains-append_left (pair_refs v) (flat_map pair_refs vs) a c))),
    pairs_moved vs (λ a c. k a (Contains-append_right (pair_refs v) (flat_map pair_refs vs) a c)),
  )

  pub object_moved : (o : Object) → AreThere (object_refs o) → ObjectsMatch (AtPosition order) o (numbered_object Number o)
  object_moved (object.List items) k = items_moved items k
  object_moved (object.Tuple items) k = items_moved items k
  object_moved (object.Dict pairs) k = pairs_moved pairs k
  object_moved (object.Function def) k = refl
  object_moved (object.Handle name uses) k = (refl, refl)

  module _ (t : State) where
    one_moved : (n : ℕ) (o : Object) → slice_get t.heap n ≡ Some o → objects_of t Number n ≡ numbered_object Number o ∷ []
    one_moved n o e = ap (λ z. map (numbered_object Number) (option_to_list z)) e

    -- in the list of the moved objects each has the index of its address
    pub moved_at : (ns : List ℕ) → ((a : ℕ) → Contains ns a → a < length t.heap) → (k at : ℕ) (o : Object) → slice_get ns k ≡ Some at → slice_get t.heap at ≡ Some o
        → slice_get (flat_map (objects_of t Number) ns) k ≡ Some (numbered_object Number o)
    moved_at [] live k at o e h = absurd (none-some at e)
    moved_at (n ∷ ns) live zero at o e h =
        let there : slice_get t.heap n ≡ Some o = ap (slice_get t.heap) (same_Some n at e) ∙ h in
        ap (λ (os : List Object). slice_get (os ++ flat_map (objects_of t Number) ns) zero) (one_moved n o there)
    moved_at (n ∷ ns) live (suc k) at o e h =
        let d : Object = object.List [] in
        let there : slice_get t.heap n ≡ Some (get_or t.heap n d) = slice_get-get_or t.heap n d (live n (first_in n ns)) in
        ap (λ (os : List Object). slice_get (os ++ flat_map (objects_of t Number) ns) (suc k)) (one_moved n (get_or t.heap n d) there)
        ∙ moved_at ns (λ a c. live a (later_in n ns a c)) k at o e h

    -- ---- the names

    put_one : Name → Option Value → finite.FinMap (slice_cmp nat_cmp) Value → finite.FinMap (slice_cmp nat_cmp) Value
    put_one x None g = g
    put_one x (Some v) g = finite.insert g x (numbered Number v)

    put_all : List Name → finite.FinMap (slice_cmp nat_cmp) Value
    put_all [] = finite.empty
    put_all (x ∷ xs) = put_one x (finite.get t.globals x) (put_all xs)

    one_other : (x y : Name) (o : Option Value) (g : finite.FinMap (slice_cmp nat_cmp) Value) → (y ≡ x → ⊥) → finite.get (put_one x o g) y ≡ finite.get g y
    unfolding put_one
    one_other x y None g k = refl
    one_other x y (Some v) g k = bound_other g x y (numbered Number v) k

    put_out : (xs : List Name) (y : Name) → ¬ Contains xs y → finite.get (put_all xs) y ≡ None
    unfolding put_all
    put_out [] y out = finite.get-empty (slice_cmp nat_cmp) y
    put_out (x ∷ xs) y out =
        one_other x y (finite.get t.globals x) (put_all xs) (λ e. out (subst (Contains (x ∷ xs)) (sym e) (first_in x xs))) ∙ put_out xs y (λ c. out (later_in x xs y c))

    one_here : (x : Name) (o : Option Value) (v : Value) (g : finite.FinMap (slice_cmp nat_cmp) Value) → o ≡ Some v → finite.get (put_one x o g) x ≡ Some (numbered Number v)
    unfolding put_one
    one_here x None v g e = absurd (none-some v e)
    one_here x (Some w) v g e = rw (bound g x x (numbered Number w), name_itself x) (ap (λ z. Some (numbered Number z)) (same_Some w v e))

    put_in : (xs : List Name) (y : Name) (v : Value) → Contains xs y → finite.get t.globals y ≡ Some v → finite.get (put_all xs) y ≡ Some (numbered Number v)
    unfolding put_all
    put_in [] y v c e = absurd (none_in y c)
    put_in (x ∷ xs) y v c e = elim (name_cases x y) [
      | inl same ↦
          let f : finite.get t.globals x ≡ Some v = ap (λ z. finite.get t.globals z) same ∙ e in
          subst (λ z. finite.get (put_one x (finite.get t.globals x) (put_all xs)) z ≡ Some (numbered Number v)) same (one_here x (finite.get t.globals x) v (put_all xs) f)
      | inr other ↦ elim (cons_cases x xs y c) [
        | inl same ↦ absurd (other same)
        | inr more ↦ one_other x y (finite.get t.globals x) (put_all xs) (λ same. other (sym same)) ∙ put_in xs y v more e
      ]
    ]

-- ---- the state

-- u has the objects of t at these addresses, in this order, and t's names; each address is an index of the order
pub record IsMoved (t : State) (order : List ℕ) (u : State) : Type 0 where
  pub names : (x : Name) → finite.get u.globals x ≡ option_map (numbered (number_in order)) (finite.get t.globals x)
  pub heap : u.heap ≡ flat_map (objects_of t (number_in order)) order
  pub count : u.count ≡ t.count
  pub meter : u.meter ≡ t.meter

module _ (t : State) (closed : IsClosed t) where
  abbrev Names : List Name
  Names = finite.keys t.globals

  abbrev Found : List ℕ
  Found = order t Names

  abbrev Mapped : Value → Value
  Mapped = numbered (number_in Found)

  reached : IsListOf t Names Found
  reached = order_lists t Names closed

  in_order : Found ≡ firsts (met t Names Found)
  in_order = order_first t Names closed

  apart : AllPairs (λ a b. a ≢ b) Found
  apart = subst (AllPairs (λ a b. a ≢ b)) (sym in_order) (firsts_apart (met t Names Found))

  not_twice : (a b c : ℕ) → b < c → slice_get Found b ≡ Some a → slice_get Found c ≡ Some a → ⊥
  not_twice a b c l e f = apart b c a l (slice_get_within Found c a f) (get_or_from_slice_get Found b a a e ∙ sym (get_or_from_slice_get Found c a a f))

  one_position : (a b c : ℕ) → AtPosition Found a b → AtPosition Found a c → b ≡ c
  one_position a b c e f = elim (cases_eq b c) [
    | inl same ↦ same
    | inr other ↦ elim (cases_lt b c) [ inl l ↦ absurd (not_twice a b c l e f) | inr l ↦ absurd (not_twice a c b (omega (arith, l, other)) f e) ]
  ]

  live : (a : ℕ) → Contains Found a → a < length t.heap
  live a c = reached_live t closed Names a ((reached a).0 c)

  value_there : (x : Name) (v : Value) → finite.get t.globals x ≡ Some v → (a : ℕ) → Contains (value_refs v) a → Contains Found a
  value_there x v e a c = (reached a).1 (reaching.named x a ((keys_have t x).1 (v, e)) (subst (λ o. Contains (held_refs value_refs o) a) (sym e) c))

  module _ (u : State) (m : IsMoved t Found u) where
    names_match : (x : Name) → BothOrNone (ValuesMatch (AtPosition Found)) (finite.get t.globals x) (finite.get u.globals x)
    names_match x = elim (has_value t x) [
      | inl v ↦
          let e : finite.get u.globals x ≡ Some (Mapped v.0) = m.names x ∙ ap (option_map Mapped) v.1 in
          rw (v.1, e) (value_moved Found v.0 (value_there x v.0 v.1))
      | inr none ↦
          let e : finite.get u.globals x ≡ None = m.names x ∙ ap (option_map Mapped) none in
          rw (none, e) tt
    ]

    objects_match : (a k : ℕ) → AtPosition Found a k → Both (ObjectsMatch (AtPosition Found)) (slice_get t.heap a) (slice_get u.heap k)
    objects_match a k e =
        let d : Object = object.List [] in
        let there : Contains Found a = (k, slice_get_within Found k a e, get_or_from_slice_get Found k a a e) in
        let near : Reach t Names a = (reached a).0 there in
        let f : slice_get t.heap a ≡ Some (get_or t.heap a d) = slice_get-get_or t.heap a d (live a there) in
        let h : slice_get u.heap k ≡ Some (numbered_object (number_in Found) (get_or t.heap a d)) = ap (λ (os : List Object). slice_get os k) m.heap ∙ moved_at Found t Found live k a (get_or t.heap a d) e f in
        rw (f, h) (object_moved Found (get_or t.heap a d) (λ b c. (reached b).1 (reaching.held a b near (subst (λ o. Contains (held_refs object_refs o) b) (sym f) c))))

    pub moved_is_tidied : IsTidied t u
    moved_is_tidied = record {
      names = Names;
      ascends = ascending (finite.entries t.globals) (is_true _ (finite.entries_sorted t.globals));
      all = keys_have t;
      order = Found;
      reached = reached;
      in_order = in_order;
      same = record {
        pairs = record { left = one_position; right = λ a b c e f. same_Some a b (sym e ∙ f) };
        names = λ x every. names_match x;
        objects = objects_match;
      };
      size = ap (λ (os : List Object). length os) m.heap ∙ as_many t (number_in Found) Found (λ i d l. live (get_or Found i d) (Contains-get_or Found i d l));
      count = m.count;
      meter = m.meter;
    }

  tidied : State
  tidied = record t { globals = put_all Found t Names; heap = flat_map (objects_of t (number_in Found)) Found }

  tidied_moved : IsMoved t Found tidied
  unfolding tidied
  tidied_moved = record {
    names = λ x. elim (has_value t x) [
      | inl v ↦ put_in Found t Names x v.0 ((keys_have t x).1 v) v.1 ∙ sym (ap (option_map Mapped) v.1)
      | inr none ↦ put_out Found t Names x (λ c. let v = (keys_have t x).0 c in none-some v.0 (sym none ∙ v.1)) ∙ sym (ap (option_map Mapped) none)
    ];
    heap = refl;
    count = refl;
    meter = refl;
  }

  pub can_be_tidied : (u : State) × IsTidied t u
  can_be_tidied = (tidied, moved_is_tidied tidied tidied_moved)
