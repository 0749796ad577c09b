-- A copy gives its names what they have in it, by new objects, and keeps all else.
use Rattle.std.proofs.Common.{◌≡◌, ℕ, zero, suc, ◌+◌, ◌<◌, ◌≤◌, List, [], ◌∷◌, ◌++◌, map, length, get_or, Option, Some, None, option_map, refl, sym, ap, ◌∙◌, inl, inr, subst, arith}
use Rattle.std.specs.Prelude.{Contains, All, slice_get}
use Rattle.std.specs.List.{AllZip, flat_map}
use Rattle.std.specs.FinMap as finite
use Rattle.std.proofs.lemmas.Option.{slice_get-map, slice_get-get_or}
use Rattle.std.proofs.lemmas.List.{length-append, length-map}
use Rattle.std.proofs.lemmas.List.Elements.{All-nil, All-cons, All-append, All-weaker, All-map, All-contains, Contains-get_or, Contains-append_left, Contains-append_right}
use Rattle.py_value.specs.declared.key.Key.{Key}
use Rattle.py_value.specs.declared.value.Value.{Value}
use Rattle.py_value.specs.declared.value.Value.TheVariants as value
use Rattle.py_heap.specs.declared.heap.Object.{Object}
use Rattle.py_heap.specs.declared.heap.Object.TheVariants as object
use Rattle.py_heap.specs.declared.state.State.{State}
use Rattle.py_heap.specs.References.{value_refs, pair_refs, object_refs, AreLive, IsClosed}
use Rattle.py_heap.specs.Reaching.{Reach}
use Rattle.py_heap.proofs.Closed.{bind_closed, unbind_closed}
use Rattle.py_machine.specs.Runs.{Name}
use Rattle.py_laws.specs.Same.{HasPair, ValuesMatch, equal, refs, PairsMatch, ObjectsMatch, BothOrNone, Both, SameBy}
use Rattle.py_laws.proofs.Matching.{Turned}
use Rattle.py_laws.proofs.Pairing.{new_pairs, to_new, from_new}
use Rattle.py_laws.proofs.Bindings.{bound, unbound, bound_other, unbound_other}
use Rattle.py_laws.proofs.Members.{name_itself}
use Rattle.py_laws.proofs.Partners.{none_in, first_in, later_in, reach_partner}
use Rattle.py_laws.proofs.Sameness.{same_by_turned}
use Rattle.run_graph.proofs.Lists.{cons_cases, has_name}
use Rattle.run_graph.proofs.Reached.{reach_from_one}
use Rattle.replay_laws.specs.Walks.{IsLoaded}
use Rattle.replay_laws.specs.Copies.{higher, higher_pair, higher_object, put_name, put_names, with_objects, with_copy}

-- ---- indices of two lists

module _ {A : Type 0} where
  nth_left : (xs ys : List A) (k : ℕ) → k < length xs → slice_get (xs ++ ys) k ≡ slice_get xs k
  nth_left [] ys k l = absurd (omega arith)
  nth_left (x ∷ xs) ys zero l = refl
  nth_left (x ∷ xs) ys (suc k) l = nth_left xs ys k (omega arith)

  nth_right : (xs ys : List A) (k : ℕ) → slice_get (xs ++ ys) (length xs + k) ≡ slice_get ys k
  nth_right [] ys k = let e : 0 + k ≡ k = omega arith in ap (slice_get ys) e
  nth_right (x ∷ xs) ys k = let e : suc (length xs) + k ≡ suc (length xs + k) = omega arith in ap (slice_get (x ∷ xs ++ ys)) e ∙ nth_right xs ys k

-- ---- values and objects

all_of : {P : ℕ → Type 0} (ns : List ℕ) → ((a : ℕ) → Contains ns a → P a) → All P ns
all_of ns k = λ i d l. k (get_or ns i d) (Contains-get_or ns i d l)

module _ (base size : ℕ) where
  abbrev Pairs_up : ℕ → ℕ → Type 0
  Pairs_up = HasPair (new_pairs 0 base size)

  up : (a : ℕ) → a < size → Pairs_up a (base + a)
  up a l = to_new 0 base size a a (base + a) l (omega arith) refl

  from_up : (a b : ℕ) → Pairs_up a b → (b ≡ base + a) × (a < size)
  from_up a b p = let w = from_new 0 base size a b p in (omega (arith, w.2, w.3), omega (arith, w.1, w.2))

  value_up : (v : Value) → All (λ at. at < size) (value_refs v) → ValuesMatch Pairs_up v (higher base v)
  value_up (value.Ref at) l = refs at (base + at) (up at (All-contains (λ a. a < size) (at ∷ []) at l (first_in at [])))
  value_up value.Nothing l = equal value.Nothing refl
  value_up (value.Bool truth) l = equal (value.Bool truth) refl
  value_up (value.Number number) l = equal (value.Number number) refl
  value_up (value.Text text) l = equal (value.Text text) refl
  value_up (value.Builtin builtin) l = equal (value.Builtin builtin) refl

  items_up : (vs : List Value) → ((a : ℕ) → Contains (flat_map value_refs vs) a → a < size) → AllZip (ValuesMatch Pairs_up) vs (map (higher base) vs)
  items_up [] l = tt
  items_up (v ∷ vs) l = (
    value_up v (all_of (value_refs v) (λ a k. l a (Contains-append_left (value_refs v) (flat_map value_refs vs) a k))),
    items_up vs (λ a k. l a (Contains-append_right (value_refs v) (flat_map value_refs vs) a k)),
  )

  pairs_up : (vs : List (Key × Value)) → ((a : ℕ) → Contains (flat_map pair_refs vs) a → a < size) → AllZip (PairsMatch Pairs_up) vs (map (higher_pair base) vs)
  pairs_up [] l = tt
  pairs_up (v ∷ vs) l = (
    (refl, value_up v.1 (all_of (value_refs v.1) (λ a k. l a (Contains-append_left (pair_refs v) (flat_map pair_refs vs) a k)))),
    pairs_up vs (λ a k. l a (Contains-append_right (pair_refs v) (flat_map pair_refs vs) a k)),
  )

  object_up : (o : Object) → ((a : ℕ) → Contains (object_refs o) a → a < size) → ObjectsMatch Pairs_up o (higher_object base o)
  object_up (object.List items) l = items_up items l
  object_up (object.Tuple items) l = items_up items l
  object_up (object.Dict pairs) l = pairs_up pairs l
  object_up (object.Function def) l = refl
  object_up (object.Handle name uses) l = (refl, refl)

  -- what is put up refers below
  value_below : (n : ℕ) → base + size ≤ n → (v : Value) → All (λ at. at < size) (value_refs v) → All (λ at. at < n) (value_refs (higher base v))
  value_below n k (value.Ref at) l =
      let b : at < size = All-contains (λ a. a < size) (at ∷ []) at l (first_in at []) in
      All-cons (λ a. a < n) (base + at) [] (omega (arith, b, k)) (All-nil (λ a. a < n))
  value_below n k value.Nothing l = All-nil (λ a. a < n)
  value_below n k (value.Bool truth) l = All-nil (λ a. a < n)
  value_below n k (value.Number number) l = All-nil (λ a. a < n)
  value_below n k (value.Text text) l = All-nil (λ a. a < n)
  value_below n k (value.Builtin builtin) l = All-nil (λ a. a < n)

  items_below : (n : ℕ) → base + size ≤ n → (vs : List Value) → ((a : ℕ) → Contains (flat_map value_refs vs) a → a < size) → All (λ at. at < n) (flat_map value_refs (map (higher base) vs))
  items_below n k [] l = All-nil (λ a. a < n)
  items_below n k (v ∷ vs) l =
      All-append (λ a. a < n) (value_refs (higher base v)) (flat_map value_refs (map (higher base) vs))
      (value_below n k v (all_of (value_refs v) (λ a c. l a (Contains-append_left (value_refs v) (flat_map value_refs vs) a c))))
      (items_below n k vs (λ a c. l a (Contains-append_right (value_refs v) (flat_map value_refs vs) a c)))

  pairs_below : (n : ℕ) → base + size ≤ n → (vs : List (Key × Value)) → ((a : ℕ) → Contains (flat_map pair_refs vs) a → a < size) → All (λ at. at < n) (flat_map pair_refs (map (higher_pair base) vs))
  pairs_below n k [] l = All-nil (λ a. a < n)
  pairs_below n k (v ∷ vs) l =
      All-append (λ a. a < n) (pair_refs (higher_pair base v)) (flat_map pair_refs (map (higher_pair base) vs))
      (value_below n k v.1 (all_of (value_refs v.1) (λ a c. l a (Contains-append_left (pair_refs v) (flat_map pair_refs vs) a c))))
      (pairs_below n k vs (λ a c. l a (Contains-append_right (pair_refs v) (flat_map pair_refs vs) a c)))

  object_below : (n : ℕ) → base + size ≤ n → (o : Object) → ((a : ℕ) → Contains (object_refs o) a → a < size) → All (λ at. at < n) (object_refs (higher_object base o))
  object_below n k (object.List items) l = items_below n k items l
  object_below n k (object.Tuple items) l = items_below n k items l
  object_below n k (object.Dict pairs) l = pairs_below n k pairs l
  object_below n k (object.Function def) l = All-nil (λ a. a < n)
  object_below n k (object.Handle name uses) l = All-nil (λ a. a < n)

-- ---- names

abbrev higher_maybe : ℕ → Option Value → Option Value
higher_maybe base None = None
higher_maybe base (Some v) = Some (higher base v)

put_one : (base : ℕ) (t : State) (x : Name) (o : Option Value) → finite.get (put_name base t x o).globals x ≡ higher_maybe base o
put_one base t x (Some v) = rw (bound t.globals x x (higher base v), name_itself x) refl
put_one base t x None = rw (unbound t.globals x x, name_itself x) refl

put_other : (base : ℕ) (t : State) (x y : Name) (o : Option Value) → (y ≡ x → ⊥) → finite.get (put_name base t x o).globals y ≡ finite.get t.globals y
put_other base t x y (Some v) k = bound_other t.globals x y (higher base v) k
put_other base t x y None k = unbound_other t.globals x y k

put_heap : (base : ℕ) (t : State) (x : Name) (o : Option Value) → (put_name base t x o).heap ≡ t.heap
put_heap base t x (Some v) = refl
put_heap base t x None = refl

put_count : (base : ℕ) (t : State) (x : Name) (o : Option Value) → (put_name base t x o).count ≡ t.count
put_count base t x (Some v) = refl
put_count base t x None = refl

put_meter : (base : ℕ) (t : State) (x : Name) (o : Option Value) → (put_name base t x o).meter ≡ t.meter
put_meter base t x (Some v) = refl
put_meter base t x None = refl

module _ (base : ℕ) (part : State) where
  puts_count : (names : List Name) (t : State) → (put_names base part names t).count ≡ t.count
  puts_count [] t = refl
  puts_count (x ∷ xs) t = puts_count xs (put_name base t x (finite.get part.globals x)) ∙ put_count base t x (finite.get part.globals x)

  puts_meter : (names : List Name) (t : State) → (put_names base part names t).meter ≡ t.meter
  puts_meter [] t = refl
  puts_meter (x ∷ xs) t = puts_meter xs (put_name base t x (finite.get part.globals x)) ∙ put_meter base t x (finite.get part.globals x)

  puts_heap : (names : List Name) (t : State) → (put_names base part names t).heap ≡ t.heap
  puts_heap [] t = refl
  puts_heap (x ∷ xs) t = puts_heap xs (put_name base t x (finite.get part.globals x)) ∙ put_heap base t x (finite.get part.globals x)

  puts_other : (names : List Name) (t : State) (y : Name) → (Contains names y → ⊥) → finite.get (put_names base part names t).globals y ≡ finite.get t.globals y
  puts_other [] t y k = refl
  puts_other (x ∷ xs) t y k =
      puts_other xs (put_name base t x (finite.get part.globals x)) y (λ n. k (later_in x xs y n))
      ∙ put_other base t x y (finite.get part.globals x) (λ e. k (subst (λ z. Contains (x ∷ xs) z) (sym e) (first_in x xs)))

  puts_one : (names : List Name) (t : State) (y : Name) → Contains names y → finite.get (put_names base part names t).globals y ≡ higher_maybe base (finite.get part.globals y)
  puts_one [] t y n = absurd (none_in y n)
  puts_one (x ∷ xs) t y n =
      let next : State = put_name base t x (finite.get part.globals x) in
      elim (has_name xs y) [
        | inl later ↦ puts_one xs next y later
        | inr none ↦ elim (cons_cases x xs y n) [
          | inl e ↦ puts_other xs next y none ∙ subst (λ z. finite.get next.globals z ≡ higher_maybe base (finite.get part.globals z)) e (put_one base t x (finite.get part.globals x))
          | inr later ↦ absurd (none later)
        ]
      ]

-- ---- the copy

module _ (part : State) (part_closed : IsClosed part) (names : List Name) (t : State) (closed : IsClosed t) where
  abbrev Base : ℕ
  Base = length t.heap

  abbrev Size : ℕ
  Size = length part.heap

  abbrev More : List Object
  More = map (higher_object Base) part.heap

  abbrev After : State
  After = with_copy part names t

  heap_after : After.heap ≡ t.heap ++ More
  heap_after = puts_heap Base part names (with_objects More t)

  size_after : length (t.heap ++ More) ≡ Base + Size
  size_after = length-append t.heap More ∙ ap (λ n. Base + n) (length-map part.heap (higher_object Base))

  old_objects : (a : ℕ) → a < Base → slice_get After.heap a ≡ slice_get t.heap a
  old_objects a l = ap (λ h. slice_get h a) heap_after ∙ nth_left t.heap More a l

  new_objects : (a : ℕ) → slice_get After.heap (Base + a) ≡ option_map (higher_object Base) (slice_get part.heap a)
  new_objects a = ap (λ h. slice_get h (Base + a)) heap_after ∙ nth_right t.heap More a ∙ slice_get-map (higher_object Base) part.heap a

  abbrev Up : ℕ → ℕ → Type 0
  Up = HasPair (new_pairs 0 Base Size)

  live_at : (a : ℕ) (d : Object) → a < Size → (b : ℕ) → Contains (object_refs (get_or part.heap a d)) b → b < Size
  live_at a d l b k = All-contains (λ at. at < Size) (object_refs (get_or part.heap a d)) b (part_closed.objects a d l) k

  objects_up : (a b : ℕ) → Up a b → Both (ObjectsMatch Up) (slice_get part.heap a) (slice_get After.heap b)
  objects_up a b p =
      let w = from_up Base Size a b p in
      let d : Object = object.List [] in
      let e : slice_get part.heap a ≡ Some (get_or part.heap a d) = slice_get-get_or part.heap a d w.1 in
      subst (λ z. Both (ObjectsMatch Up) (slice_get part.heap a) (slice_get After.heap z)) (sym w.0)
      (rw (new_objects a, e) (object_up Base Size (get_or part.heap a d) (live_at a d w.1)))

  held_up : (o : Option Value) → ((held : Value) → o ≡ Some held → AreLive part.heap (value_refs held)) → BothOrNone (ValuesMatch Up) o (higher_maybe Base o)
  held_up None l = tt
  held_up (Some held) l = value_up Base Size held (l held refl)

  up_same : SameBy Up (Contains names) part After
  up_same = record {
    pairs = record {
      left = λ a b c p q. (from_up Base Size a b p).0 ∙ sym (from_up Base Size a c q).0;
      right = λ a b c p q. let e : c ≡ Base + a = (from_up Base Size a c p).0 in let f : c ≡ Base + b = (from_up Base Size b c q).0 in omega (arith, e, f);
    };
    names = λ x n. subst (λ o. BothOrNone (ValuesMatch Up) (finite.get part.globals x) o) (sym (puts_one Base part names (with_objects More t) x n))
        (held_up (finite.get part.globals x) (λ held e. part_closed.names x held e));
    objects = objects_up;
  }

  fresh : (a : ℕ) → Reach After names a → Base ≤ a
  fresh a r =
      let w = reach_from_one After names a r in
      let p = reach_partner (Turned Up) (Contains names) After part (same_by_turned Up (Contains names) part After up_same) w.0 w.1 a w.2 in
      let e : a ≡ Base + p.0 = (from_up Base Size p.0 a p.1).0 in
      omega (arith, e)

  -- ---- it stays closed

  grown_closed : IsClosed (with_objects More t)
  grown_closed = record {
    names = λ x held e. All-weaker (λ a. a < Base) (λ a. a < length (t.heap ++ More)) (λ a l. omega (arith, size_after, l)) (value_refs held) (closed.names x held e);
    objects = All-append (λ o. AreLive (t.heap ++ More) (object_refs o)) t.heap More
        (All-weaker (λ o. AreLive t.heap (object_refs o)) (λ o. AreLive (t.heap ++ More) (object_refs o))
        (λ o l. All-weaker (λ a. a < Base) (λ a. a < length (t.heap ++ More)) (λ a k. omega (arith, size_after, k)) (object_refs o) l) t.heap closed.objects)
        (All-map (λ o. AreLive (t.heap ++ More) (object_refs o)) (higher_object Base) part.heap
        (λ k d l. object_below Base Size (length (t.heap ++ More)) (omega (arith, size_after)) (get_or part.heap k d) (live_at k d l)));
  }

  put_closed : (s : State) → IsClosed s → s.heap ≡ t.heap ++ More → (x : Name) (o : Option Value) → ((held : Value) → o ≡ Some held → AreLive part.heap (value_refs held)) → IsClosed (put_name Base s x o)
  put_closed s c e x None l = unbind_closed s x c
  put_closed s c e x (Some held) l = bind_closed s x (higher Base held) c (rw e (value_below Base Size (length (t.heap ++ More)) (omega (arith, size_after)) held (l held refl)))

  puts_closed : (xs : List Name) (s : State) → IsClosed s → s.heap ≡ t.heap ++ More → IsClosed (put_names Base part xs s)
  puts_closed [] s c e = c
  puts_closed (x ∷ xs) s c e =
      let o : Option Value = finite.get part.globals x in
      puts_closed xs (put_name Base s x o) (put_closed s c e x o (λ held f. part_closed.names x held f)) (put_heap Base s x o ∙ e)

  pub copy_loaded : IsLoaded names part t After
  copy_loaded = record {
    closed = puts_closed names (with_objects More t) grown_closed refl;
    same = record { by = new_pairs 0 Base Size; same = up_same };
    new = fresh;
    others = λ x k. puts_other Base part names (with_objects More t) x k;
    objects = old_objects;
    count = puts_count Base part names (with_objects More t);
    meter = puts_meter Base part names (with_objects More t);
  }
