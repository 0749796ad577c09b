-- The history of the cells `x = 1`, `del x`, `y = 7` and `print(x)`, `x = 4`: a name that is deleted, read while it is gone,
-- and bound again.
use Rattle.std.proofs.Common.{◌≡◌, ℕ, zero, suc, ◌-◌, ◌<◌, ◌≤◌, true, false, List, [], ◌∷◌, length, refl, sym, ap, ◌∙◌, ◌⊎◌, inl, inr, subst, pos, arith}
use Rattle.std.specs.Prelude.{Contains}
use Rattle.std.specs.FinMap as finite
use Rattle.std.specs.Cmp.Lexicographic.{nat_list_cmp_total}
use Rattle.std.proofs.lemmas.List.Elements.{All-nil}
use Rattle.py_value.specs.declared.value.Value.TheVariants as value
use Rattle.py_heap.specs.declared.state.State.{State}
use Rattle.py_heap.specs.References.{IsClosed}
use Rattle.py_heap.specs.Reaching.{Reach}
use Rattle.py_heap.specs.States.{empty}
use Rattle.py_heap.proofs.Closed.{empty_closed, bind_closed, unbind_closed}
use Rattle.py_machine.specs.Runs.{Name}
use Rattle.py_laws.proofs.Members.{name_cases}
use Rattle.py_laws.proofs.Partners.{none_in, one_in, first_in, later_in}
use Rattle.py_laws.proofs.Bindings.{unbound_other}
use Rattle.py_laws.proofs.Reached.{reached_live}
use Rattle.graph_model.specs.declared.graph.CellRecord.{CellRecord}
use Rattle.graph_model.specs.declared.graph.Version.{Version}
use Rattle.graph_model.specs.declared.graph.Graph.{Graph}
use Rattle.graph_model.specs.Graphs.{CellAt, VersionAt}
use Rattle.graph_model.proofs.Lookups.{version_within}
use Rattle.linked_parts.specs.Parts.{HasValue, HasNone, IsPart}
use Rattle.run_graph.specs.Histories.{Run, Binds, IsKept, IsDeleted, IsLeft, IsAVersion, IsWeighed, HoldsAfter, Rewrites, IsReplacedFirst, IsRead, IsMissed, IsRecord, IsHistory}
use Rattle.run_graph.specs.Examples.{X, Y, Print, version, cell_of}
use Rattle.run_graph.specs.Examples as example
use Rattle.run_graph.proofs.Lists.{cons_cases}
use Rattle.run_graph.proofs.Reached.{not_both}
use Rattle.run_graph.proofs.Examples.{to_set, of_set, of_one, of_none, x_not_y, print_not_x, insert_value, empty_value, one_part, four_cases}

abbrev s1 : State
s1 = example.deleted_1

abbrev s2 : State
s2 = example.deleted_2

abbrev s3 : State
s3 = example.deleted_3

abbrev s4 : State
s4 = example.deleted_4

abbrev state : ℕ → State
state = example.deleted_states

abbrev run : Run
run = example.deleted_run

abbrev graph : Graph
graph = example.deleted_graph

abbrev v1 : Version
v1 = version (X ∷ []) 1 2 false

-- the deleted name
abbrev v2 : Version
v2 = version (X ∷ []) 2 4 true

abbrev v3 : Version
v3 = version (Y ∷ []) 3 0 false

abbrev v4 : Version
v4 = version (X ∷ []) 4 0 false

-- ---- the states

s3_closed : IsClosed s3
s3_closed = bind_closed s2 Y (value.Number (pos 7)) (unbind_closed s1 X (bind_closed empty X (value.Number (pos 1)) empty_closed (All-nil _))) (All-nil _)

s4_closed : IsClosed s4
s4_closed = bind_closed s3 X (value.Number (pos 4)) s3_closed (All-nil _)

s1_closed : IsClosed s1
s1_closed = bind_closed empty X (value.Number (pos 1)) empty_closed (All-nil _)

nothing_reached : (s : State) → IsClosed s → length s.heap ≡ 0 → (names : List Name) (at : ℕ) → ¬ Reach s names at
nothing_reached s c e names at r = let l = reached_live s c names at r in let none : ⊥ = omega (arith, l, e) in none

alone : (s : State) → IsClosed s → length s.heap ≡ 0 → (z : Name) → HasValue s z → IsPart s (z ∷ [])
alone s c e z h = one_part s (λ a b at p q. absurd (nothing_reached s c e (a ∷ []) at p)) z h

s1-X : HasValue s1 X
s1-X = (value.Number (pos 1), finite.get-insert nat_list_cmp_total empty.globals X (value.Number (pos 1)) X)

s2-X : HasNone s2 X
s2-X = finite.get-remove nat_list_cmp_total s1.globals X X

s3-Y : HasValue s3 Y
s3-Y = (value.Number (pos 7), finite.get-insert nat_list_cmp_total s2.globals Y (value.Number (pos 7)) Y)

s4-X : HasValue s4 X
s4-X = (value.Number (pos 4), finite.get-insert nat_list_cmp_total s3.globals X (value.Number (pos 4)) X)

s1_values : (z : Name) → HasValue s1 z → z ≡ X
s1_values z h = elim (insert_value empty X (value.Number (pos 1)) z h) [ inl e ↦ e | inr none ↦ absurd (empty_value z none) ]

s2_values : (z : Name) → ¬ HasValue s2 z
s2_values z h = elim (name_cases z X) [
  | inl e ↦ not_both s2 z h (subst (HasNone s2) (sym e) s2-X)
  | inr other ↦ other (s1_values z (h.0, sym (unbound_other s1.globals X z other) ∙ h.1))
]

s3_values : (z : Name) → HasValue s3 z → z ≡ Y
s3_values z h = elim (insert_value s2 Y (value.Number (pos 7)) z h) [ inl e ↦ e | inr none ↦ absurd (s2_values z none) ]

-- ---- the versions

which : (v : ℕ) (x : Version) → VersionAt graph v x → ((v ≡ 1) × (v1 ≡ x)) ⊎ ((v ≡ 2) × (v2 ≡ x)) ⊎ ((v ≡ 3) × (v3 ≡ x)) ⊎ ((v ≡ 4) × (v4 ≡ x))
which v x at = let p = at.0 in elim (four_cases v1 v2 v3 v4 x (v - 1) at.1) [
  | inl e ↦ let f = e.0 in inl (omega (arith, f, p), e.1)
  | inr (inl e) ↦ let f = e.0 in inr (inl (omega (arith, f, p), e.1))
  | inr (inr (inl e)) ↦ let f = e.0 in inr (inr (inl (omega (arith, f, p), e.1)))
  | inr (inr (inr e)) ↦ let f = e.0 in inr (inr (inr (omega (arith, f, p), e.1)))
]

-- a fact of each
each : (P : ℕ → Version → Type 0) → P 1 v1 → P 2 v2 → P 3 v3 → P 4 v4 → (v : ℕ) (x : Version) → VersionAt graph v x → P v x
each P p1 p2 p3 p4 v x at = elim (which v x at) [
  | inl e ↦ subst (P v) e.1 (subst (λ n. P n v1) (sym e.0) p1)
  | inr (inl e) ↦ subst (P v) e.1 (subst (λ n. P n v2) (sym e.0) p2)
  | inr (inr (inl e)) ↦ subst (P v) e.1 (subst (λ n. P n v3) (sym e.0) p3)
  | inr (inr (inr e)) ↦ subst (P v) e.1 (subst (λ n. P n v4) (sym e.0) p4)
]

own_writer : (v : ℕ) (x : Version) → VersionAt graph v x → x.writer ≡ v
own_writer = each (λ v x. x.writer ≡ v) refl refl refl refl

one_name : (v : ℕ) (x : Version) → VersionAt graph v x → length x.names ≡ 1
one_name = each (λ v x. length x.names ≡ 1) refl refl refl refl

Left : ℕ → Version → Type 0
Left v x = (c : ℕ) × (x.writer ≡ suc c) × (c < 4) × IsLeft run c x

all_left : (v : ℕ) (x : Version) → VersionAt graph v x → (c : ℕ) × (x.writer ≡ suc c) × (c < 4) × IsLeft run c x
unfolding Left
all_left = each Left
    (0, refl, omega arith, inl (refl, alone s1 s1_closed refl X s1-X, inl (X, first_in X [], to_set (X ∷ []) X (first_in X []))))
    (1, refl, omega arith, inr (refl, X, refl, (to_set (X ∷ []) X (first_in X []), s2-X)))
    (2, refl, omega arith, inl (refl, alone s3 s3_closed refl Y s3-Y, inl (Y, first_in Y [], to_set (Y ∷ []) Y (first_in Y []))))
    (3, refl, omega arith, inl (refl, alone s4 s4_closed refl X s4-X, inl (X, first_in X [], to_set (X ∷ []) X (first_in X []))))

rewriter : (x : Version) (m : ℕ) → Rewrites graph x m → (m ≤ 4) × ((y : Version) × (name : Name) × VersionAt graph m y × Contains x.names name × Contains y.names name)
rewriter x m (less, u, y, name, at, e, p, q) =
    let same : u ≡ m = sym (own_writer u y at) ∙ e in
    let w = (version_within graph u y at).1 in
    (omega (arith, same, w), (y, name, subst (λ n. VersionAt graph n y) same at, p, q))

no_y : (name : Name) → Contains (X ∷ []) name → ¬ Contains (Y ∷ []) name
no_y name p q = x_not_y (one_in X name p ∙ sym (one_in Y name q))

not_three : (x : Version) → x.names ≡ X ∷ [] → ¬ Rewrites graph x 3
not_three x e w =
    let k = (rewriter x 3 w).1 in
    let y_is : Contains (Y ∷ []) k.1 = each (λ v y. v ≡ 3 → Contains y.names k.1 → Contains (Y ∷ []) k.1)
    (λ f. let none : ⊥ = omega (arith, f) in absurd none) (λ f. let none : ⊥ = omega (arith, f) in absurd none) (λ f c. c) (λ f. let none : ⊥ = omega (arith, f) in absurd none) 3 k.0 k.2 refl k.4 in
    no_y k.1 (subst (λ ns. Contains ns k.1) e k.3) y_is

not_four : Rewrites graph v3 4 → ⊥
not_four w =
    let k = (rewriter v3 4 w).1 in
    let x_is : Contains (X ∷ []) k.1 = each (λ v y. v ≡ 4 → Contains y.names k.1 → Contains (X ∷ []) k.1)
    (λ f. let none : ⊥ = omega (arith, f) in absurd none) (λ f. let none : ⊥ = omega (arith, f) in absurd none) (λ f. let none : ⊥ = omega (arith, f) in absurd none) (λ f c. c) 4 k.0 k.2 refl k.4 in
    no_y k.1 x_is k.3

all_replaced : (v : ℕ) (x : Version) → VersionAt graph v x → IsReplacedFirst graph x
all_replaced = each (λ v x. IsReplacedFirst graph x)
    (inr ((omega arith, 2, v2, X, (omega arith, refl), refl, first_in X [], first_in X []), λ m l w. let a = w.0 in omega (arith, l, a)))
    (inr (
      (omega arith, 4, v4, X, (omega arith, refl), refl, first_in X [], first_in X []),
      λ m l w. let a = w.0 in not_three v2 refl (subst (Rewrites graph v2) (let e : m ≡ 3 = omega (arith, l, a) in e) w),
    ))
    (inl (refl, λ m w. let a = w.0 in let b = (rewriter v3 m w).0 in not_four (subst (Rewrites graph v3) (let e : m ≡ 4 = omega (arith, a, b) in e) w)))
    (inl (refl, λ m w. let a = w.0 in let b = (rewriter v4 m w).0 in omega (arith, a, b)))

-- ---- the records

first_record : IsRecord run graph 0 (cell_of [] [])
first_record = record {
  code = refl;
  meter = refl;
  steps = refl;
  drew = refl;
  reads_ascend = tt;
  missing_ascends = tt;
  reads = λ v. (
    λ c. absurd (none_in v c),
    λ w.
        let l = w.1.written in
        let e = own_writer v w.0 w.1.at in
        let p = w.1.at.0 in
        let none : ⊥ = omega (arith, l, e, p) in absurd none,
  );
  missing = λ z. (λ c. absurd (none_in z c), λ w. absurd (of_none z w.0));
}

second_record : IsRecord run graph 1 (cell_of (1 ∷ []) [])
second_record = record {
  code = refl;
  meter = refl;
  steps = refl;
  drew = refl;
  reads_ascend = tt;
  missing_ascends = tt;
  reads = λ v. (
    λ c. subst (IsRead run graph 1) (one_in 1 v c) (v1, record { at = (omega arith, refl); written = omega arith; stands = inr (omega arith) }, X, first_in X [], inl (to_set (X ∷ []) X (first_in X []))),
    λ w.
        let l = w.1.written in
        let e = own_writer v w.0 w.1.at in
        let p = w.1.at.0 in
        subst (Contains (1 ∷ [])) (let f : 1 ≡ v = omega (arith, l, e, p) in f) (first_in 1 []),
  );
  missing = λ z. (λ c. absurd (none_in z c), λ w. absurd (w.1 0 (omega arith) w.0));
}

unbound_print : (e : ℕ) → e < 2 → ¬ Binds run e Print
unbound_print zero l k = print_not_x (of_one X Print k)
unbound_print (suc zero) l k = print_not_x (of_one X Print k)
unbound_print (suc (suc n)) l k = let none : ⊥ = omega (arith, l) in none

first_replaced : (v : ℕ) (x : Version) → VersionAt graph v x → (x.replaced ≡ 2) ⊎ (v ≡ 1 → ⊥)
first_replaced = each (λ v x. (x.replaced ≡ 2) ⊎ (v ≡ 1 → ⊥)) (inl refl) (inr (λ f. omega (arith, f))) (inr (λ f. omega (arith, f))) (inr (λ f. omega (arith, f)))

third_record : IsRecord run graph 2 (cell_of (2 ∷ []) (Print ∷ []))
third_record = record {
  code = refl;
  meter = refl;
  steps = refl;
  drew = refl;
  reads_ascend = tt;
  missing_ascends = tt;
  reads = λ v. (
    λ c. subst (IsRead run graph 2) (one_in 2 v c) (v2, record { at = (omega arith, refl); written = omega arith; stands = inr (omega arith) }, X, first_in X [], inl (to_set (Print ∷ X ∷ []) X (later_in Print (X ∷ []) X (first_in X [])))),
    λ w.
        let holds : HoldsAfter graph 2 v w.0 = w.1 in
        let l = holds.written in
        let e = own_writer v w.0 holds.at in
        let r : w.0.replaced ≡ 2 ⊎ (v ≡ 1 → ⊥) = first_replaced v w.0 holds.at in
        let m : v ≡ 1 → ⊥ = elim r [
          | inr other ↦ other
          | inl two ↦ λ f. elim holds.stands [ inl z ↦ let none : ⊥ = omega (arith, two, z) in none | inr n ↦ let none : ⊥ = omega (arith, two, n) in none ]
        ] in
        let p = holds.at.0 in
        subst (Contains (2 ∷ [])) (let f : 2 ≡ v = omega (arith, l, e, m, p) in f) (first_in 2 []),
  );
  missing = λ z. (
    λ c. subst (IsMissed run 2) (one_in Print z c) (to_set (Print ∷ X ∷ []) Print (first_in Print (X ∷ [])), unbound_print),
    λ w. elim (cons_cases Print (X ∷ []) z (of_set (Print ∷ X ∷ []) z w.0)) [
      | inl e ↦ subst (Contains (Print ∷ [])) e (first_in Print [])
      | inr k ↦ absurd (w.1 0 (omega arith) (to_set (X ∷ []) z k))
    ],
  );
}

fourth_record : IsRecord run graph 3 (cell_of [] [])
fourth_record = record {
  code = refl;
  meter = refl;
  steps = refl;
  drew = refl;
  reads_ascend = tt;
  missing_ascends = tt;
  reads = λ v. (
    λ c. absurd (none_in v c),
    λ w. elim w.4 [
      | inl k ↦ absurd (of_none w.2 k)
      | inr k ↦ let l = k.1 in let e = one_name v w.0 w.1.at in let none : ⊥ = omega (arith, l, e) in absurd none
    ],
  );
  missing = λ z. (λ c. absurd (none_in z c), λ w. absurd (of_none z w.0));
}

all_records : (c : ℕ) (x : CellRecord) → CellAt graph (suc c) x → IsRecord run graph c x
all_records c x at =
    let go = λ (n : ℕ) (y : CellRecord) (e : suc c - 1 ≡ n) (f : y ≡ x) (i : IsRecord run graph n y). subst (IsRecord run graph c) f (subst (λ m. IsRecord run graph m y) (let g : n ≡ c = omega (arith, e) in g) i) in
    elim (four_cases (cell_of [] []) (cell_of (1 ∷ []) []) (cell_of (2 ∷ []) (Print ∷ [])) (cell_of [] []) x (suc c - 1) at.1) [
      | inl e ↦ go 0 (cell_of [] []) e.0 e.1 first_record
      | inr (inl e) ↦ go 1 (cell_of (1 ∷ []) []) e.0 e.1 second_record
      | inr (inr (inl e)) ↦ go 2 (cell_of (2 ∷ []) (Print ∷ [])) e.0 e.1 third_record
      | inr (inr (inr e)) ↦ go 3 (cell_of [] []) e.0 e.1 fourth_record
    ]

-- ---- the parts and the deleted name

abbrev Found : ℕ → Name → Type 0
Found c z = (names : List Name) × Contains names z × IsPart (state (suc c)) names × (IsKept run c names ⊎ IsAVersion graph (suc c) names false)

all_parts : (c : ℕ) (z : Name) → c < 4 → HasValue (state (suc c)) z → Found c z
all_parts zero z l h = subst (Found 0) (sym (s1_values z h)) (X ∷ [], first_in X [], alone s1 s1_closed refl X s1-X, inr (1, v1, (omega arith, refl), refl, refl, refl))
all_parts (suc zero) z l h = absurd (s2_values z h)
all_parts (suc (suc zero)) z l h = subst (Found 2) (sym (s3_values z h)) (Y ∷ [], first_in Y [], alone s3 s3_closed refl Y s3-Y, inr (3, v3, (omega arith, refl), refl, refl, refl))
all_parts (suc (suc (suc zero))) z l h = elim (insert_value s3 X (value.Number (pos 4)) z h) [
  | inl e ↦ subst (Found 3) (sym e) (X ∷ [], first_in X [], alone s4 s4_closed refl X s4-X, inr (4, v4, (omega arith, refl), refl, refl, refl))
  | inr old ↦
      let e : z ≡ Y = s3_values z old in (
        Y ∷ [],
        subst (Contains (Y ∷ [])) (sym e) (first_in Y []),
        alone s4 s4_closed refl Y (subst (HasValue s4) e h),
        inl (record {
          names_stay = λ y c b. x_not_y (sym (one_in Y y c ∙ of_one X y b));
          objects_stay = λ at r. absurd (nothing_reached s4 s4_closed refl (Y ∷ []) at r);
          before = alone s3 s3_closed refl Y s3-Y;
        }),
      )
]
all_parts (suc (suc (suc (suc n)))) z l h = let none : ⊥ = omega (arith, l) in absurd none

all_deleted : (c : ℕ) (z : Name) → c < 4 → IsDeleted run c z → IsAVersion graph (suc c) (z ∷ []) true
all_deleted zero z l (b, none) = absurd (not_both s1 X s1-X (subst (HasNone s1) (of_one X z b) none))
all_deleted (suc zero) z l (b, none) = (2, v2, (omega arith, refl), refl, ap (λ n. n ∷ []) (sym (of_one X z b)), refl)
all_deleted (suc (suc zero)) z l (b, none) = absurd (not_both s3 Y s3-Y (subst (HasNone s3) (of_one Y z b) none))
all_deleted (suc (suc (suc zero))) z l (b, none) = absurd (not_both s4 X s4-X (subst (HasNone s4) (of_one X z b) none))
all_deleted (suc (suc (suc (suc n)))) z l k = let none : ⊥ = omega (arith, l) in absurd none

-- ---- no handle

s2_closed : IsClosed s2
s2_closed = unbind_closed s1 X s1_closed

unweighed : (c : ℕ) (x : Version) → IsClosed (run.state c) → length (run.state c).heap ≡ 0 → x.handle ≡ false → x.size ≡ 0 → IsWeighed run c x
unweighed c x k e h i = ((λ t. let none : ⊥ = cc (t, h) in absurd none, λ w. absurd (nothing_reached (run.state c) k e x.names w.0 w.3)), i)

pub is_history : IsHistory run graph
is_history = record {
  cells = refl;
  records = all_records;
  versions = all_left;
  order = λ v x y at bt. let e = own_writer v x at in let f = own_writer (suc v) y bt in inl (omega (arith, e, f));
  replaced = all_replaced;
  weights = each (λ v x. IsWeighed run x.writer x) (unweighed 1 v1 s1_closed refl refl refl) (unweighed 2 v2 s2_closed refl refl refl) (unweighed 3 v3 s3_closed refl refl refl) (unweighed 4 v4 s4_closed refl refl refl);
  parts = all_parts;
  deleted = all_deleted;
}
