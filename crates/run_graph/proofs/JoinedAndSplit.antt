-- The history of the cells `x = [1]`, `y = x`, `y = 5`: parts that join and split.
use Rattle.std.proofs.Common.{◌≡◌, ℕ, zero, suc, ◌-◌, ◌<◌, ◌≤◌, true, false, List, [], ◌∷◌, Some, refl, sym, ◌∙◌, ◌⊎◌, inl, inr, subst, pos, arith}
use Rattle.std.specs.Prelude.{Contains, slice_get}
use Rattle.std.specs.FinMap as finite
use Rattle.std.specs.Cmp.Lexicographic.{nat_list_cmp_total}
use Rattle.std.proofs.lemmas.Option.{none-some, same_Some}
use Rattle.py_value.specs.declared.value.Value.TheVariants as value
use Rattle.py_heap.specs.declared.heap.Object.{Object}
use Rattle.py_heap.specs.declared.heap.Object.TheVariants as object
use Rattle.py_heap.specs.declared.state.State.{State}
use Rattle.py_heap.specs.References.{value_refs}
use Rattle.py_heap.specs.Reaching.{held_refs}
use Rattle.py_heap.specs.Reaching as reaching
use Rattle.py_heap.specs.States.{empty, with_object}
use Rattle.py_machine.specs.Runs.{Name}
use Rattle.py_laws.proofs.Partners.{none_in, one_in, first_in, later_in}
use Rattle.graph_model.specs.declared.graph.CellRecord.{CellRecord}
use Rattle.graph_model.specs.declared.graph.Version.{Version}
use Rattle.graph_model.specs.declared.graph.Graph.{Graph}
use Rattle.graph_model.specs.Graphs.{CellAt, VersionAt}
use Rattle.graph_model.specs.Faults.{ComesBefore}
use Rattle.linked_parts.specs.Parts.{HasValue, HasNone, Reaches, shared, IsPart}
use Rattle.linked_parts.proofs.Names.{reaches_value, linked_values}
use Rattle.run_graph.specs.Parts.{HasHandle}
use Rattle.run_graph.specs.Histories.{Run, IsKept, IsDeleted, IsLeft, IsAVersion, IsWeighed, IsReplacedFirst, IsRead, IsRecord, IsHistory}
use Rattle.run_graph.specs.Examples.{X, Y, version, cell_of}
use Rattle.run_graph.specs.Examples as example
use Rattle.run_graph.proofs.Lists.{cons_cases}
use Rattle.run_graph.proofs.Reached.{not_both}
use Rattle.run_graph.proofs.Examples.{to_set, of_one, of_none, x_not_y, insert_value, empty_value, one_part, each}

abbrev s1 : State
s1 = example.joined_1

abbrev s2 : State
s2 = example.joined_2

abbrev s3 : State
s3 = example.joined_3

abbrev state : ℕ → State
state = example.joined_states

abbrev run : Run
run = example.joined_run

abbrev graph : Graph
graph = example.joined_graph

abbrev v1 : Version
v1 = version (X ∷ []) 1 2 false

abbrev v2 : Version
v2 = version (X ∷ Y ∷ []) 2 3 false

abbrev v3 : Version
v3 = version (X ∷ []) 3 0 false

abbrev v4 : Version
v4 = version (Y ∷ []) 3 0 false

abbrev all : (P : ℕ → Version → Type 0) → P 1 v1 → P 2 v2 → P 3 v3 → P 4 v4 → (v : ℕ) (x : Version) → VersionAt graph v x → P v x
all = each graph v1 v2 v3 v4 refl

-- ---- the states

s1-at-X : finite.get s1.globals X ≡ Some (value.Ref 0)
s1-at-X = finite.get-insert nat_list_cmp_total empty.globals X (value.Ref 0) X

s2-at-X : finite.get s2.globals X ≡ Some (value.Ref 0)
s2-at-X = finite.get-insert nat_list_cmp_total s1.globals Y (value.Ref 0) X ∙ s1-at-X

s2-at-Y : finite.get s2.globals Y ≡ Some (value.Ref 0)
s2-at-Y = finite.get-insert nat_list_cmp_total s1.globals Y (value.Ref 0) Y

s3-at-X : finite.get s3.globals X ≡ Some (value.Ref 0)
s3-at-X = finite.get-insert nat_list_cmp_total s2.globals Y (value.Number (pos 5)) X ∙ s2-at-X

s3-at-Y : finite.get s3.globals Y ≡ Some (value.Number (pos 5))
s3-at-Y = finite.get-insert nat_list_cmp_total s2.globals Y (value.Number (pos 5)) Y

s1-X : HasValue s1 X
s1-X = (value.Ref 0, s1-at-X)

s2-Y : HasValue s2 Y
s2-Y = (value.Ref 0, s2-at-Y)

s3-X : HasValue s3 X
s3-X = (value.Ref 0, s3-at-X)

s3-Y : HasValue s3 Y
s3-Y = (value.Number (pos 5), s3-at-Y)

s1_values : (z : Name) → HasValue s1 z → z ≡ X
s1_values z h = elim (insert_value (with_object empty (object.List (value.Number (pos 1) ∷ []))) X (value.Ref 0) z h) [ inl e ↦ e | inr (v, none) ↦ absurd (empty_value z (v, none)) ]

s2_values : (z : Name) → HasValue s2 z → (z ≡ X) ⊎ (z ≡ Y)
s2_values z h = elim (insert_value s1 Y (value.Ref 0) z h) [ inl e ↦ inr e | inr old ↦ inl (s1_values z old) ]

s3_values : (z : Name) → HasValue s3 z → (z ≡ X) ⊎ (z ≡ Y)
s3_values z h = elim (insert_value s2 Y (value.Number (pos 5)) z h) [ inl e ↦ inr e | inr old ↦ s2_values z old ]

first_part : IsPart s1 (X ∷ [])
first_part = one_part s1 (λ a b at p q. s1_values a (reaches_value s1 a at p) ∙ sym (s1_values b (reaches_value s1 b at q))) X s1-X

-- both names reach the list
x_reaches : Reaches s2 X 0
x_reaches = reaching.named X 0 (first_in X []) (subst (λ o. Contains (held_refs value_refs o) 0) (sym s2-at-X) (first_in 0 []))

y_reaches : Reaches s2 Y 0
y_reaches = reaching.named Y 0 (first_in Y []) (subst (λ o. Contains (held_refs value_refs o) 0) (sym s2-at-Y) (first_in 0 []))

both : (z : Name) → (z ≡ X) ⊎ (z ≡ Y) → Contains (X ∷ Y ∷ []) z × Reaches s2 z 0
both z (inl e) = subst (λ m. Contains (X ∷ Y ∷ []) m × Reaches s2 m 0) (sym e) (first_in X (Y ∷ []), x_reaches)
both z (inr e) = subst (λ m. Contains (X ∷ Y ∷ []) m × Reaches s2 m 0) (sym e) (later_in X (Y ∷ []) Y (first_in Y []), y_reaches)

of_both : (z : Name) → Contains (X ∷ Y ∷ []) z → (z ≡ X) ⊎ (z ≡ Y)
of_both z c = elim (cons_cases X (Y ∷ []) z c) [ inl e ↦ inl (sym e) | inr more ↦ inr (sym (one_in Y z more)) ]

joined_part : IsPart s2 (X ∷ Y ∷ [])
joined_part = record {
  ascends = (refl, tt);
  some = (X, first_in X (Y ∷ []));
  linked = λ a b c. (
    λ d. shared a b 0 (both a (of_both a c)).1 (both b (of_both b d)).1,
    λ l. (both b (s2_values b (linked_values s2 a b l).1)).0,
  );
}

number_reaches : (z : Name) (at : ℕ) → Reaches s3 z at → Y ≡ z → ⊥
number_reaches z n (reaching.named y at c r) e =
    none_in at (subst (λ o. Contains (held_refs value_refs o) at) (subst (λ m. finite.get s3.globals m ≡ Some (value.Number (pos 5))) (e ∙ one_in z y c) s3-at-Y) r)
number_reaches z n (reaching.held from at r c) e = number_reaches z from r e

x_alone : (z : Name) (at : ℕ) → Reaches s3 z at → z ≡ X
x_alone z at r = elim (s3_values z (reaches_value s3 z at r)) [ inl e ↦ e | inr e ↦ absurd (number_reaches z at r (sym e)) ]

split_part : (z : Name) → HasValue s3 z → IsPart s3 (z ∷ [])
split_part = one_part s3 (λ a b at p q. x_alone a at p ∙ sym (x_alone b at q))

-- x alone was no part before
not_before : ¬ IsPart s2 (X ∷ [])
not_before part = x_not_y (one_in X Y ((part.linked X Y (first_in X [])).1 (shared X Y 0 x_reaches y_reaches)))

-- ---- the graph

Left : ℕ → Version → Type 0
Left v x = (c : ℕ) × (x.writer ≡ suc c) × (c < 3) × IsLeft run c x

all_left : (v : ℕ) (x : Version) → VersionAt graph v x → (c : ℕ) × (x.writer ≡ suc c) × (c < 3) × IsLeft run c x
unfolding Left
all_left = all Left
    (0, refl, omega arith, inl (refl, first_part, inl (X, first_in X [], to_set (X ∷ []) X (first_in X []))))
    (1, refl, omega arith, inl (refl, joined_part, inl (Y, later_in X (Y ∷ []) Y (first_in Y []), to_set (Y ∷ []) Y (first_in Y []))))
    (2, refl, omega arith, inl (refl, split_part X s3-X, inr (inr not_before)))
    (2, refl, omega arith, inl (refl, split_part Y s3-Y, inl (Y, first_in Y [], to_set (Y ∷ []) Y (first_in Y []))))

in_order : (v : ℕ) (x y : Version) → VersionAt graph v x → VersionAt graph (suc v) y → ComesBefore x y
in_order v x y at bt = all (λ n z. (w : Version) → VersionAt graph (suc n) w → ComesBefore z w)
    (λ w ct. subst (ComesBefore v1) (same_Some v2 w ct.1) (inl (omega arith)))
    (λ w ct. subst (ComesBefore v2) (same_Some v3 w ct.1) (inl (omega arith)))
    (λ w ct. subst (ComesBefore v3) (same_Some v4 w ct.1) (inr (refl, refl)))
    (λ w ct. absurd (none-some w ct.1)) v x at y bt

late : (u : ℕ) (y : Version) → VersionAt graph u y → y.writer ≤ 3
late = all (λ u y. y.writer ≤ 3) (omega arith) (omega arith) (omega arith) (omega arith)

all_replaced : (v : ℕ) (x : Version) → VersionAt graph v x → IsReplacedFirst graph x
all_replaced = all (λ v x. IsReplacedFirst graph x)
    (inr ((omega arith, 2, v2, X, (omega arith, refl), refl, first_in X [], first_in X (Y ∷ [])), λ m l w. let a = w.0 in omega (arith, l, a)))
    (inr ((omega arith, 3, v3, X, (omega arith, refl), refl, first_in X (Y ∷ []), first_in X []), λ m l w. let a = w.0 in omega (arith, l, a)))
    (inl (refl, λ m w. let a = w.0 in let e = w.5 in let l = late w.1 w.2 w.4 in omega (arith, a, e, l)))
    (inl (refl, λ m w. let a = w.0 in let e = w.5 in let l = late w.1 w.2 w.4 in omega (arith, a, e, l)))

-- ---- the records

early : (v : ℕ) (x : Version) → VersionAt graph v x → 0 < x.writer
early = all (λ v x. 0 < x.writer) (omega arith) (omega arith) (omega arith) (omega arith)

first_record : IsRecord run graph 0 (cell_of [] [])
first_record = record {
  code = refl;
  meter = refl;
  steps = refl;
  drew = refl;
  reads_ascend = tt;
  missing_ascends = tt;
  reads = λ v. (λ c. absurd (none_in v c), λ w. let l = w.1.written in let p = early v w.0 w.1.at in let none : ⊥ = omega (arith, l, p) in absurd none);
  missing = λ z. (λ c. absurd (none_in z c), λ w. absurd (of_none z w.0));
}

only_first : (v : ℕ) (x : Version) → VersionAt graph v x → x.writer ≤ 1 → 1 ≡ v
only_first = all (λ v x. x.writer ≤ 1 → 1 ≡ v) (λ l. refl) (λ l. omega (arith, l)) (λ l. omega (arith, l)) (λ l. omega (arith, l))

second_record : IsRecord run graph 1 (cell_of (1 ∷ []) [])
second_record = record {
  code = refl;
  meter = refl;
  steps = refl;
  drew = refl;
  reads_ascend = tt;
  missing_ascends = tt;
  reads = λ v. (
    λ c. subst (IsRead run graph 1) (one_in 1 v c) (v1, record { at = (omega arith, refl); written = omega arith; stands = inr (omega arith) }, X, first_in X [], inl (to_set (X ∷ []) X (first_in X []))),
    λ w. subst (Contains (1 ∷ [])) (only_first v w.0 w.1.at w.1.written) (first_in 1 []),
  );
  missing = λ z. (λ c. absurd (none_in z c), λ w. absurd (w.1 0 (omega arith) w.0));
}

only_second : (v : ℕ) (x : Version) → VersionAt graph v x → x.writer ≤ 2 → (x.replaced ≡ 0) ⊎ (2 < x.replaced) → 2 ≡ v
only_second = all (λ v x. x.writer ≤ 2 → (x.replaced ≡ 0) ⊎ (2 < x.replaced) → 2 ≡ v)
    (λ l s. elim s [ inl e ↦ omega (arith, e) | inr m ↦ omega (arith, m) ]) (λ l s. refl) (λ l s. omega (arith, l)) (λ l s. omega (arith, l))

-- it binds a name of a version of two
third_record : IsRecord run graph 2 (cell_of (2 ∷ []) [])
third_record = record {
  code = refl;
  meter = refl;
  steps = refl;
  drew = refl;
  reads_ascend = tt;
  missing_ascends = tt;
  reads = λ v. (
    λ c. subst (IsRead run graph 2) (one_in 2 v c)
        (v2, record { at = (omega arith, refl); written = omega arith; stands = inr (omega arith) }, Y, later_in X (Y ∷ []) Y (first_in Y []), inr (to_set (Y ∷ []) Y (first_in Y []), omega arith)),
    λ w. subst (Contains (2 ∷ [])) (only_second v w.0 w.1.at w.1.written w.1.stands) (first_in 2 []),
  );
  missing = λ z. (λ c. absurd (none_in z c), λ w. absurd (of_none z w.0));
}

three_cases : {A : Type 0} (a b c x : A) (n : ℕ) → slice_get (a ∷ b ∷ c ∷ []) n ≡ Some x → ((n ≡ 0) × (a ≡ x)) ⊎ ((n ≡ 1) × (b ≡ x)) ⊎ ((n ≡ 2) × (c ≡ x))
three_cases a b c x zero h = inl (refl, same_Some a x h)
three_cases a b c x (suc zero) h = inr (inl (refl, same_Some b x h))
three_cases a b c x (suc (suc zero)) h = inr (inr (refl, same_Some c x h))
three_cases a b c x (suc (suc (suc n))) h = absurd (none-some x h)

all_records : (c : ℕ) (x : CellRecord) → CellAt graph (suc c) x → IsRecord run graph c x
all_records c x at =
    let go = λ (n : ℕ) (y : CellRecord) (e : suc c - 1 ≡ n) (f : y ≡ x) (i : IsRecord run graph n y). subst (IsRecord run graph c) f (subst (λ m. IsRecord run graph m y) (let g : n ≡ c = omega (arith, e) in g) i) in
    elim (three_cases (cell_of [] []) (cell_of (1 ∷ []) []) (cell_of (2 ∷ []) []) x (suc c - 1) at.1) [
      | inl e ↦ go 0 (cell_of [] []) e.0 e.1 first_record
      | inr (inl e) ↦ go 1 (cell_of (1 ∷ []) []) e.0 e.1 second_record
      | inr (inr e) ↦ go 2 (cell_of (2 ∷ []) []) e.0 e.1 third_record
    ]

-- ---- the parts

abbrev Found : ℕ → Name → Type 0
Found c z = (names : List Name) × Contains names z × IsPart (state (suc c)) names × (IsKept run c names ⊎ IsAVersion graph (suc c) names false)

all_parts : (c : ℕ) (z : Name) → c < 3 → HasValue (state (suc c)) z → Found c z
all_parts zero z l h = subst (Found 0) (sym (s1_values z h)) (X ∷ [], first_in X [], first_part, inr (1, v1, (omega arith, refl), refl, refl, refl))
all_parts (suc zero) z l h = (X ∷ Y ∷ [], (both z (s2_values z h)).0, joined_part, inr (2, v2, (omega arith, refl), refl, refl, refl))
all_parts (suc (suc zero)) z l h = elim (s3_values z h) [
  | inl e ↦ subst (Found 2) (sym e) (X ∷ [], first_in X [], split_part X s3-X, inr (3, v3, (omega arith, refl), refl, refl, refl))
  | inr e ↦ subst (Found 2) (sym e) (Y ∷ [], first_in Y [], split_part Y s3-Y, inr (4, v4, (omega arith, refl), refl, refl, refl))
]
all_parts (suc (suc (suc n))) z l h = let none : ⊥ = omega (arith, l) in absurd none

all_deleted : (c : ℕ) (z : Name) → c < 3 → IsDeleted run c z → IsAVersion graph (suc c) (z ∷ []) true
all_deleted zero z l (b, none) = absurd (not_both s1 X s1-X (subst (HasNone s1) (of_one X z b) none))
all_deleted (suc zero) z l (b, none) = absurd (not_both s2 Y s2-Y (subst (HasNone s2) (of_one Y z b) none))
all_deleted (suc (suc zero)) z l (b, none) = absurd (not_both s3 Y s3-Y (subst (HasNone s3) (of_one Y z b) none))
all_deleted (suc (suc (suc n))) z l k = let none : ⊥ = omega (arith, l) in absurd none

-- ---- no handle

no_handle : (s : State) → s.heap ≡ object.List (value.Number (pos 1) ∷ []) ∷ [] → (names : List Name) → ¬ HasHandle s names
no_handle s e names (at, name, uses, reached, held) = in_list at (subst (λ (h : List Object). slice_get h at ≡ Some (object.Handle name uses)) e held)
  where
    in_list : (n : ℕ) → slice_get (object.List (value.Number (pos 1) ∷ []) ∷ []) n ≡ Some (object.Handle name uses) → ⊥
    in_list zero h = cc
    in_list (suc n) h = none-some (object.Handle name uses) h

unweighed : (c : ℕ) (x : Version) → (run.state c).heap ≡ object.List (value.Number (pos 1) ∷ []) ∷ [] → x.handle ≡ false → x.size ≡ 0 → IsWeighed run c x
unweighed c x e h i = ((λ t. let none : ⊥ = cc (t, h) in absurd none, λ w. absurd (no_handle (run.state c) e x.names w)), i)

pub is_history : IsHistory run graph
is_history = record {
  cells = refl;
  records = all_records;
  versions = all_left;
  order = in_order;
  replaced = all_replaced;
  weights = all (λ v x. IsWeighed run x.writer x) (unweighed 1 v1 refl refl refl) (unweighed 2 v2 refl refl refl) (unweighed 3 v3 refl refl refl) (unweighed 3 v4 refl refl refl);
  parts = all_parts;
  deleted = all_deleted;
}
