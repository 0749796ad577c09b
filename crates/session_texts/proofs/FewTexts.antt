-- The texts to which the checkpoint of a session refers are fewer than 2^32: they are some of those that a session counts.
use Rattle.std.proofs.Common.{◌≡◌, ◌≢◌, ℕ, zero, suc, ◌+◌, ◌-◌, ◌<◌, ◌≤◌, ◌^◌, ◌⊎◌, Bool, true, false, cond, List, [], ◌∷◌, ◌++◌, length, get_or, map, is_some, Option, Some, None, refl, sym, ap, ◌∙◌, subst, inl, inr, arith}
use Rattle.std.specs.Prelude.{Contains, AllPairs, slice_get, option_to_list, ◌↔◌}
use Rattle.std.specs.List.{flat_map}
use Rattle.std.specs.FinMap as finite
use Rattle.std.proofs.lemmas.Bool.{cases_Bool, cases_lt}
use Rattle.std.proofs.lemmas.Bool.Decides.{Decides-eqb}
use Rattle.std.proofs.lemmas.List.{length-map, get_or-map, nil_from_length}
use Rattle.std.proofs.lemmas.List.Elements.{Contains-append_left, Contains-append_right, Contains-append_cases}
use Rattle.std.proofs.lemmas.Option.{slice_get-get_or, slice_get_within, get_or_from_slice_get}
use Rattle.std.proofs.lemmas.Map.Steps.{length-le_from_distinct_below}
use Rattle.std.proofs.lemmas.Map.Made.{IsDistinct-from_AllPairs}
use Rattle.py_value.specs.declared.key.Key.{Key}
use Rattle.py_value.specs.declared.key.Key.TheVariants as the_key
use Rattle.py_value.specs.declared.value.Value.{Value}
use Rattle.py_value.specs.declared.value.Value.TheVariants as the_value
use Rattle.py_value.specs.Keys.{value_of}
use Rattle.py_heap.specs.declared.heap.Object.{Object}
use Rattle.py_heap.specs.declared.heap.Object.TheVariants as the_object
use Rattle.py_heap.specs.declared.state.State.{State}
use Rattle.py_heap.specs.References.{IsClosed}
use Rattle.py_machine.specs.Marked.{Name}
use Rattle.py_laws.proofs.Members.{no_name, name_cases}
use Rattle.graph_model.specs.declared.graph.CellRecord.{CellRecord}
use Rattle.graph_model.specs.declared.graph.Version.{Version}
use Rattle.graph_model.specs.declared.graph.Graph.{Graph}
use Rattle.graph_model.specs.declared.plan.Plan.{Plan}
use Rattle.graph_model.specs.declared.plan.Tally.TheVariants as tally
use Rattle.graph_model.specs.Faults.{TextBelow, Ascends}
use Rattle.graph_model.specs.Graphs.{CellAt}
use Rattle.linked_parts.proofs.Lists.{none_in, first_in}
use Rattle.linked_parts.proofs.Names.{reaches_value}
use Rattle.run_graph.specs.RunLists.{ListedCell, entry}
use Rattle.run_graph.proofs.Lists.{cons_cases, in_flat, from_flat}
use Rattle.run_graph.proofs.Reached.{reach_from_one, reach_by_one}
use Rattle.py_laws.proofs.Partners.{later_in}
use Rattle.part_bytes.specs.Parts.{order}
use Rattle.part_bytes.specs.Tables.{has_text, number_of, with_text, with_texts}
use Rattle.part_bytes.specs.Uses.{value_texts, held_texts, pair_texts, object_texts, part_texts}
use Rattle.part_bytes.specs.Gathering.{held_texts_at, object_texts_at}
use Rattle.part_bytes.proofs.Orders.{member, order_reached, order_lists}
use Rattle.part_bytes.proofs.Tables.{by_addresses}
use Rattle.checkpoint_bytes.specs.Texts.{lists, each_from, codes_of, copied_texts, uses, table_of}
use Rattle.checkpoint_laws.proofs.Listed.{AreNew, new_all, number_there, placed_new, there_below}
use Rattle.history_graph.specs.Sets.{Names}
use Rattle.history_graph.specs.Texts.{IsOfPair, HasText, IsNamed, HasTextAt, IsTextIn}
use Rattle.history_graph.proofs.Keys.{keys_ascend, in_keys, of_keys, got_here, got_there}
use Rattle.notebook_meaning.specs.Cells.{unmoved}
use Rattle.notebook_meaning.specs.Codes.{HaveCodes}
use Rattle.notebook_meaning.specs.Notebooks.{IsGraphOf}
use Rattle.notebook_meaning.specs.Numbers.{IsCodeIn}
use Rattle.notebook_meaning.proofs.Validity.{valid_at}
use Rattle.session_texts.specs.Words.{HaveWords}
use Rattle.session_texts.proofs.First.{FitsAlways, fits_last}

-- ---- a list of texts, once each and ascending

with_all : List Name → Names
with_all [] = finite.empty
with_all (t ∷ ts) = finite.insert (with_all ts) t tt

in_all : (ts : List Name) (t : Name) → Contains ts t → is_some (finite.get (with_all ts) t) ≡ true
unfolding with_all
in_all [] t c = absurd (none_in t c)
in_all (u ∷ ts) t c = elim (name_cases u t) [
  | inl e ↦ ap is_some (got_here (with_all ts) u t tt e)
  | inr n ↦ ap is_some (got_there (with_all ts) u t tt n) ∙ elim (cons_cases u ts t c) [
    | inl e ↦ absurd (n e)
    | inr more ↦ in_all ts t more
  ]
]

of_all : (ts : List Name) (t : Name) → is_some (finite.get (with_all ts) t) ≡ true → Contains ts t
unfolding with_all
of_all [] t h = absurd (no_name t (record { is = h }))
of_all (u ∷ ts) t h = elim (name_cases u t) [
  | inl e ↦ subst (λ (x : Name). Contains (u ∷ ts) x) e (first_in u ts)
  | inr n ↦ later_in u ts t (of_all ts t (sym (ap is_some (got_there (with_all ts) u t tt n)) ∙ h))
]

abbrev once : List Name → List Name
once ts = finite.keys (with_all ts)

in_once : (ts : List Name) (t : Name) → Contains ts t → Contains (once ts) t
in_once ts t c = in_keys (with_all ts) t (in_all ts t c)

of_once : (ts : List Name) (t : Name) → Contains (once ts) t → Contains ts t
of_once ts t c = of_all ts t (of_keys (with_all ts) t c)

-- ---- texts of which each is new, and which are among others, are no more than these

module _ (ts ys : List Name) (new : AreNew [] ts) (each : (t : Name) → Contains ts t → Contains ys t) where
  numbers : List ℕ
  numbers = map (number_of ys) ts

  in_by : (i : ℕ) (d : Name) → i < length ts → Contains ys (get_or ts i d)
  in_by i d l = each (get_or ts i d) (i, l, let e = slice_get-get_or ts i d l in get_or_from_slice_get ts i (get_or ts i d) (get_or ts i d) e)

  apart : AllPairs (λ a b. a ≢ b) numbers
  unfolding numbers
  apart i j d less within same =
      let few : j < length ts = let e = length-map ts (number_of ys) in omega (arith, within, e) in
      let low : i < length ts = omega (arith, less, few) in
      let x : Name = get_or ts i [] in
      let y : Name = get_or ts j [] in
      let numbered : number_of ys x ≡ number_of ys y = sym (get_or-map (number_of ys) ts i [] d low) ∙ (same ∙ get_or-map (number_of ys) ts j [] d few) in
      let here : slice_get ys (number_of ys x) ≡ Some x = number_there ys x (there_below ys x (in_by i [] low)) in
      let there : slice_get ys (number_of ys y) ≡ Some y = number_there ys y (there_below ys y (in_by j [] few)) in
      let equal : x ≡ y = let k : Some x ≡ Some y = sym here ∙ (ap (slice_get ys) numbered ∙ there) in cc in
      let first : number_of ts x ≡ i = placed_new ts i x new (slice_get-get_or ts i [] low) in
      let second : number_of ts y ≡ j = placed_new ts j y new (slice_get-get_or ts j [] few) in
      let one : number_of ts x ≡ number_of ts y = ap (number_of ts) equal in
      omega (arith, first, second, one, less)

  below : (k : ℕ) → Contains numbers k → k < length ys
  unfolding numbers
  below k (i, l, e) =
      let low : i < length ts = let s = length-map ts (number_of ys) in omega (arith, l, s) in
      let is : number_of ys (get_or ts i []) ≡ k = sym (get_or-map (number_of ys) ts i [] k low) ∙ e in
      let room = there_below ys (get_or ts i []) (in_by i [] low) in
      omega (arith, is, room)

  no_more : length ts ≤ length ys
  unfolding numbers
  no_more =
      let all = length-le_from_distinct_below numbers (length ys) (IsDistinct-from_AllPairs Decides-eqb numbers apart) (λ k h. below k (member numbers k h)) in
      let size = length-map ts (number_of ys) in
      omega (arith, all, size)

-- ---- the texts of a state

-- with the names of handles
all_texts : Object → List Name
all_texts (the_object.List items) = flat_map value_texts items
all_texts (the_object.Tuple items) = flat_map value_texts items
all_texts (the_object.Dict pairs) = flat_map pair_texts pairs
all_texts (the_object.Function def) = def.source ∷ []
all_texts (the_object.Handle name uses) = name ∷ []

one_value : (v : Value) (t : Name) → Contains (value_texts v) t → v ≡ the_value.Text t
one_value the_value.Nothing t c = absurd (none_in t c)
one_value (the_value.Bool truth) t c = absurd (none_in t c)
one_value (the_value.Number n) t c = absurd (none_in t c)
one_value (the_value.Ref at) t c = absurd (none_in t c)
one_value (the_value.Builtin builtin) t c = absurd (none_in t c)
one_value (the_value.Text u) t c = elim (cons_cases u [] t c) [
  | inl e ↦ ap (λ (x : Name). the_value.Text x) e
  | inr none ↦ absurd (none_in t none)
]

one_key : (k : Key) (t : Name) → Contains (value_texts (value_of k)) t → k ≡ the_key.Text t
one_key the_key.Nothing t c = absurd (none_in t c)
one_key (the_key.Bool truth) t c = absurd (none_in t c)
one_key (the_key.Number n) t c = absurd (none_in t c)
one_key (the_key.Text u) t c = elim (cons_cases u [] t c) [
  | inl e ↦ ap (λ (x : Name). the_key.Text x) e
  | inr none ↦ absurd (none_in t none)
]

one_pair : (p : Key × Value) (t : Name) → Contains (pair_texts p) t → IsOfPair p t
one_pair p t c = elim (Contains-append_cases (value_texts (value_of p.0)) (value_texts p.1) t c) [
  | inl k ↦ inl (one_key p.0 t k)
  | inr k ↦ inr (one_value p.1 t k)
]

pair_one : (p : Key × Value) (t : Name) → IsOfPair p t → Contains (pair_texts p) t
pair_one p t (inl e) = Contains-append_left (value_texts (value_of p.0)) (value_texts p.1) t (subst (λ (k : Key). Contains (value_texts (value_of k)) t) (sym e) (first_in t []))
pair_one p t (inr e) = Contains-append_right (value_texts (value_of p.0)) (value_texts p.1) t (subst (λ (v : Value). Contains (value_texts v) t) (sym e) (first_in t []))

of_object : (o : Object) (t : Name) → Contains (all_texts o) t → HasText o t
unfolding all_texts
of_object (the_object.List items) t c = let w = from_flat value_texts items t c in subst (λ (v : Value). Contains items v) (one_value w.0 t w.2) w.1
of_object (the_object.Tuple items) t c = let w = from_flat value_texts items t c in subst (λ (v : Value). Contains items v) (one_value w.0 t w.2) w.1
of_object (the_object.Dict pairs) t c = let w = from_flat pair_texts pairs t c in (w.0, w.1, one_pair w.0 t w.2)
of_object (the_object.Function def) t c = elim (cons_cases def.source [] t c) [ inl e ↦ sym e | inr none ↦ absurd (none_in t none) ]
of_object (the_object.Handle name uses) t c = elim (cons_cases name [] t c) [ inl e ↦ sym e | inr none ↦ absurd (none_in t none) ]

in_object : (o : Object) (t : Name) → HasText o t → Contains (all_texts o) t
unfolding all_texts
in_object (the_object.List items) t h = in_flat value_texts items (the_value.Text t) t h (first_in t [])
in_object (the_object.Tuple items) t h = in_flat value_texts items (the_value.Text t) t h (first_in t [])
in_object (the_object.Dict pairs) t h = in_flat pair_texts pairs h.0 t h.1 (pair_one h.0 t h.2)
in_object (the_object.Function def) t h = subst (λ (x : Name). Contains (def.source ∷ []) x) (sym h) (first_in def.source [])
in_object (the_object.Handle name uses) t h = subst (λ (x : Name). Contains (name ∷ []) x) (sym h) (first_in name [])

-- the texts that are written are some of these
written_too : (o : Object) (t : Name) → Contains (object_texts o) t → HasText o t
unfolding all_texts
written_too (the_object.List items) t c = of_object (the_object.List items) t c
written_too (the_object.Tuple items) t c = of_object (the_object.Tuple items) t c
written_too (the_object.Dict pairs) t c = of_object (the_object.Dict pairs) t c
written_too (the_object.Function def) t c = of_object (the_object.Function def) t c
written_too (the_object.Handle name uses) t c = absurd (none_in t c)

some_of : {X Y : Type 0} (f : X → List Y) (o : Option X) (y : Y) → Contains (flat_map f (option_to_list o)) y → (x : X) × (o ≡ Some x) × Contains (f x) y
some_of f None y c = absurd (none_in y c)
some_of f (Some x) y c = let w = from_flat f (x ∷ []) y c in elim (cons_cases x [] w.0 w.1) [
  | inl e ↦ (x, refl, subst (λ z. Contains (f z) y) (sym e) w.2)
  | inr none ↦ absurd (none_in w.0 none)
]

named_of : (o : Option Value) (t : Name) → Contains (held_texts o) t → o ≡ Some (the_value.Text t)
named_of None t c = absurd (none_in t c)
named_of (Some v) t c = ap (λ (x : Value). Some x) (one_value v t c)

module _ (s : State) (closed : IsClosed s) where
  at_texts : ℕ → List Name
  at_texts at = flat_map all_texts (option_to_list (slice_get s.heap at))

  abbrev all_names : List Name
  all_names = finite.keys s.globals

  state_texts : List Name
  state_texts = flat_map (held_texts_at s) all_names ++ flat_map at_texts (order s all_names)

  of_state : (t : Name) → Contains state_texts t → IsTextIn s t
  unfolding state_texts at_texts
  of_state t c = elim (Contains-append_cases (flat_map (held_texts_at s) all_names) (flat_map at_texts (order s all_names)) t c) [
    | inl k ↦ let w = from_flat (held_texts_at s) all_names t k in inl (w.0, named_of (finite.get s.globals w.0) t w.2)
    | inr k ↦
        let w = from_flat at_texts (order s all_names) t k in
        let o = some_of all_texts (slice_get s.heap w.0) t w.2 in
        let r = reach_from_one s all_names w.0 (order_reached s all_names closed w.0 w.1) in
        inr (r.0, w.0, r.2, (o.0, o.1, of_object o.0 t o.2))
  ]

  in_state : (t : Name) → IsTextIn s t → Contains state_texts t
  unfolding state_texts at_texts
  in_state t (inl (x, is)) = Contains-append_left (flat_map (held_texts_at s) all_names) (flat_map at_texts (order s all_names)) t
      (in_flat (held_texts_at s) all_names x t (in_keys s.globals x (ap is_some is)) (subst (λ (o : Option Value). Contains (held_texts o) t) (sym is) (first_in t [])))
  in_state t (inr (x, at, r, (o, here, h))) =
      let v = reaches_value s x at r in
      let there : Contains (order s all_names) at = (order_lists s all_names closed at).1 (reach_by_one s all_names x at (in_keys s.globals x (ap is_some v.1)) r) in
      Contains-append_right (flat_map (held_texts_at s) all_names) (flat_map at_texts (order s all_names)) t
      (in_flat at_texts (order s all_names) at t there
      (subst (λ (q : Option Object). Contains (flat_map all_texts (option_to_list q)) t) (sym here) (Contains-append_left (all_texts o) [] t (in_object o t h))))

  -- the texts of a part are texts in the state
  of_part : (names : List Name) (t : Name) → Contains (part_texts s names) t → IsTextIn s t
  of_part names t c =
      let there : Contains (flat_map (held_texts_at s) names ++ flat_map (object_texts_at s) (order s names)) t = subst (λ (ts : List Name). Contains ts t) (by_addresses s names) c in
      elim (Contains-append_cases (flat_map (held_texts_at s) names) (flat_map (object_texts_at s) (order s names)) t there) [
        | inl k ↦ let w = from_flat (held_texts_at s) names t k in inl (w.0, named_of (finite.get s.globals w.0) t w.2)
        | inr k ↦
            let w = from_flat (object_texts_at s) (order s names) t k in
            let o = some_of object_texts (slice_get s.heap w.0) t w.2 in
            let r = reach_from_one s names w.0 (order_reached s names closed w.0 w.1) in
            inr (r.0, w.0, r.2, (o.0, o.1, written_too o.0 t o.2))
      ]

  of_copied : (p : Plan) (n : ℕ) (xs : List Version) (t : Name) → Contains (each_from (copied_texts s p) n xs) t → IsTextIn s t
  of_copied p n [] t c = absurd (none_in t c)
  of_copied p n (x ∷ xs) t c = elim (Contains-append_cases (copied_texts s p n x) (each_from (copied_texts s p) (n + 1) xs) t c) [
    | inl k ↦ elim (cases_Bool (lists p.copied n)) [
      | inl e ↦ of_part x.names t (rw e at k)
      | inr f ↦ absurd (none_in t (rw f at k))
    ]
    | inr k ↦ of_copied p (n + 1) xs t k
  ]

-- ---- the table

-- what is put into a table was in it, or is one of these
of_table : (ts table : List Name) (t : Name) → Contains (with_texts table ts) t → Contains table t ⊎ Contains ts t
of_table [] table t c = inl c
of_table (u ∷ ts) table t c = elim (of_table ts (with_text table u) t c) [
  | inr k ↦ inr (later_in u ts t k)
  | inl k ↦ elim (cases_Bool (has_text table u)) [
    | inl e ↦ inl (rw e at k)
    | inr f ↦
        let put : Contains (table ++ u ∷ []) t = rw f at k in
        elim (Contains-append_cases table (u ∷ []) t put) [
          | inl old ↦ inl old
          | inr one ↦ elim (cons_cases u [] t one) [
            | inl e ↦ inr (subst (λ (x : Name). Contains (u ∷ ts) x) e (first_in u ts))
            | inr none ↦ absurd (none_in t none)
          ]
        ]
  ]
]

in_map : {X Y : Type 0} (f : X → Y) (xs : List X) (y : Y) → Contains (map f xs) y → (x : X) × Contains xs x × (f x ≡ y)
in_map f [] y c = absurd (none_in y c)
in_map f (x ∷ xs) y c = elim (cons_cases (f x) (map f xs) y c) [
  | inl e ↦ (x, first_in x xs, e)
  | inr more ↦ let w = in_map f xs y more in (w.0, later_in x xs w.0 w.1, w.2)
]

map_in : {X Y : Type 0} (f : X → Y) (xs : List X) (x : X) → Contains xs x → Contains (map f xs) (f x)
map_in f [] x c = absurd (none_in x c)
map_in f (y ∷ xs) x c = elim (cons_cases y xs x c) [
  | inl e ↦ subst (λ z. Contains (map f (y ∷ xs)) (f z)) e (first_in (f y) (map f xs))
  | inr more ↦ later_in (f y) (map f xs) (f x) (map_in f xs x more)
]

entry_in : (cells : List ListedCell) (n : ℕ) → n < length cells → Contains cells (entry cells n)
entry_in [] n l = absurd (omega (arith, l))
entry_in (e ∷ cells) zero l = first_in e cells
entry_in (e ∷ cells) (suc n) l = later_in e cells (entry cells n) (entry_in cells n (omega (arith, l)))

module _ (cells : List ListedCell) (codes : HaveCodes cells) (words : HaveWords cells) (fits : FitsAlways cells) (g : Graph) (of : IsGraphOf cells g) (p : Plan) where
  abbrev Last : State
  Last = unmoved cells

  closed_last : IsClosed Last
  closed_last = (valid_at cells (length cells) codes).closed

  cell_codes : List Name
  cell_codes = map (λ (e : ListedCell). e.code) cells

  counted_texts : List Name
  counted_texts = once (cell_codes ++ state_texts Last closed_last)

  of_codes : (t : Name) → Contains cell_codes t → IsCodeIn cells t
  unfolding cell_codes
  of_codes t c = in_map (λ (e : ListedCell). e.code) cells t c

  in_codes : (t : Name) → IsCodeIn cells t → Contains cell_codes t
  unfolding cell_codes
  in_codes t (e, c, is) = subst (λ (x : Name). Contains (map (λ (f : ListedCell). f.code) cells) x) is (map_in (λ (f : ListedCell). f.code) cells e c)

  counted_as : (t : Name) → Contains counted_texts t ↔ (IsCodeIn cells t ⊎ IsTextIn Last t)
  unfolding counted_texts
  counted_as t = (
    λ c. elim (Contains-append_cases cell_codes (state_texts Last closed_last) t (of_once (cell_codes ++ state_texts Last closed_last) t c)) [
      | inl k ↦ inl (of_codes t k)
      | inr k ↦ inr (of_state Last closed_last t k)
    ],
    λ h. in_once (cell_codes ++ state_texts Last closed_last) t (elim h [
      | inl k ↦ Contains-append_left cell_codes (state_texts Last closed_last) t (in_codes t k)
      | inr k ↦ Contains-append_right cell_codes (state_texts Last closed_last) t (in_state Last closed_last t k)
    ]),
  )

  -- a code of the graph is that of a cell
  graph_code : (x : CellRecord) → Contains g.cells x → IsCodeIn cells x.code
  graph_code x (k, l, e) =
      let few : k < length cells = let n = of.history.cells in omega (arith, l, n) in
      let back : suc k - 1 ≡ k = omega arith in
      let place : slice_get g.cells k ≡ Some x = slice_get-get_or g.cells k x l ∙ ap (λ (y : CellRecord). Some y) e in
      let at : CellAt g (suc k) x = (omega arith, ap (slice_get g.cells) back ∙ place) in
      let r = of.history.records k x at in
      (entry cells k, entry_in cells k few, sym (r.code ∙ ap (λ (n : ℕ). (entry cells n).code) back))

  used : (t : Name) → Contains (table_of Last g p) t → Contains counted_texts t
  used t c = elim (of_table (uses Last g p) [] t c) [
    | inl none ↦ absurd (none_in t none)
    | inr k ↦ elim (Contains-append_cases (codes_of g.cells) (each_from (copied_texts Last p) 1 g.versions) t k) [
      | inl code ↦ let w = in_map (λ (x : CellRecord). x.code) g.cells t code in (counted_as t).1 (inl (subst (IsCodeIn cells) w.2 (graph_code w.0 w.1)))
      | inr text ↦ (counted_as t).1 (inr (of_copied Last closed_last p 1 g.versions t text))
    ]
  ]

  no_versions : length cells ≡ 0 → g.versions ≡ []
  no_versions none = elim (cases_lt 0 (length g.versions)) [
    | inl some ↦
        let x : Version = get_or g.versions 0 (record { names = []; writer = 0; replaced = 0; absent = false; handle = false; size = 0 }) in
        let at = slice_get-get_or g.versions 0 (record { names = []; writer = 0; replaced = 0; absent = false; handle = false; size = 0 }) some in
        let w = (of.history.versions 1 x (omega arith, at)).2 in
        absurd (omega (arith, none, w))
    | inr few ↦ nil_from_length g.versions (omega (arith, few))
  ]

  ascends : Ascends TextBelow counted_texts
  unfolding counted_texts
  ascends = keys_ascend (with_all (cell_codes ++ state_texts Last closed_last))

  pub few_texts : length (table_of Last g p) < 2 ^ 32
  few_texts = elim (cases_lt (length (table_of Last g p)) (2 ^ 32)) [
    | inl few ↦ few
    | inr many ↦
        let size = no_more (table_of Last g p) counted_texts (new_all (uses Last g p) [] tt) used in
        elim (cases_lt 0 (length cells)) [
          | inl some ↦ absurd (fits_last cells fits some tally.Texts (length counted_texts, (counted_texts, ascends, counted_as, refl), omega (arith, many, size)))
          | inr none ↦
              let zero_ : length cells ≡ 0 = omega (arith, none) in
              let no_cells : g.cells ≡ [] = nil_from_length g.cells (let n = of.history.cells in omega (arith, n, zero_)) in
              let empty : uses Last g p ≡ [] =
              ap (λ (xs : List CellRecord). codes_of xs ++ each_from (copied_texts Last p) 1 g.versions) no_cells ∙ ap (λ (xs : List Version). each_from (copied_texts Last p) 1 xs) (no_versions zero_) in
              let nothing : length (table_of Last g p) ≡ 0 = ap (λ (ts : List Name). length (with_texts [] ts)) empty in
              absurd (omega (arith, many, nothing))
        ]
  ]
