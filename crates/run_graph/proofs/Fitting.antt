-- A graph without a fault whose active versions are the parts of the state stays one, whatever run it came from.
use Rattle.std.proofs.Common.{◌≡◌, ◌≢◌, ℕ, zero, suc, ◌-◌, ◌+◌, ◌<◌, ◌≤◌, Bool, true, false, List, [], ◌∷◌, length, get_or, Some, sym, ap, ◌∙◌, ◌⊎◌, inl, inr, subst, arith, length-append}
use Rattle.std.specs.Prelude.{Contains, slice_get}
use Rattle.std.proofs.lemmas.Bool.{cases_Bool, cases_eq, cases_lt}
use Rattle.std.proofs.lemmas.Option.{slice_get_within, slice_get-get_or}
use Rattle.py_names.specs.Names.{is_identifier, is_variable}
use Rattle.py_heap.specs.declared.state.State.{State}
use Rattle.py_machine.specs.Runs.{Name}
use Rattle.graph_model.specs.declared.graph.CellRecord.{CellRecord}
use Rattle.graph_model.specs.declared.graph.Version.{Version}
use Rattle.graph_model.specs.declared.graph.Graph.{Graph}
use Rattle.graph_model.specs.Graphs.{CellAt, VersionAt, IsActive}
use Rattle.graph_model.specs.Faults.{TextBelow, Ascends, least_name, IsNextWith, HasBadNames, CellsAreBad, StandsOutOfOrder, HasBadWriter, IsTwoActive, RecordIsBad, HasBadRead, Never, IsGraph}
use Rattle.graph_model.proofs.Lookups.{same_version, version_within}
use Rattle.linked_parts.specs.Parts.{HasValue, HasNone, IsPart}
use Rattle.linked_parts.proofs.Lists.{below_on, never_below_itself}
use Rattle.run_graph.specs.Histories.{Run, Binds, IsKept, IsLeft}
use Rattle.run_graph.specs.Growing.{Meets, IsNext}
use Rattle.run_graph.specs.Fitting.{Fits, TellsParts, IsStep}
use Rattle.run_graph.proofs.Lists.{alone, is_bound, same_least}
use Rattle.run_graph.proofs.Reached.{has_value, not_both}
use Rattle.py_laws.specs.Same.{Same}
use Rattle.py_laws.proofs.Reached.{reach_more}
use Rattle.py_laws.proofs.Partners.{none_in, one_in, first_in}
use Rattle.run_graph.proofs.Standing.{same_kept, same_nothing}
use Rattle.run_graph.proofs.Weighing.{weighed_alike, weighed_later}
use Rattle.run_graph.proofs.Kept.{in_part_value, same_part, part_again, kept_not_written}
use Rattle.run_graph.proofs.Growing.{get_cases, in_of_get, ascends_at, Aged, Old, New, old_or_new, to_old, to_new, new_writer, comes_still}

not_false : (b : Bool) → b ≡ true → ¬ (b ≡ false)
not_false b h k = cc

module _ (r : Run) (c : ℕ) (g k : Graph) (next : IsNext r c g k) (good : IsGraph g) (cells : length g.cells ≡ c) (fits : Fits r c g) (step : IsStep r c) where
  abbrev Before : State
  Before = r.state c

  abbrev After : State
  After = r.state (suc c)

  abbrev Ages : Version → Version → Type 0
  Ages = Aged r c g k next

  cases_of : (v : ℕ) (x : Version) → VersionAt k v x → Old r c g k next v x ⊎ New r c g k next v x
  cases_of = old_or_new r c g k next

  old_writer : (v : ℕ) (y : Version) → VersionAt g v y → (0 < y.writer) × (y.writer ≤ c)
  old_writer v y at = (
    elim (cases_eq y.writer 0) [ inl e ↦ absurd (good.writers v (y, at, inl (inl e))) | inr other ↦ omega (arith, other) ],
    elim (cases_lt (length g.cells) y.writer) [ inl l ↦ absurd (good.writers v (y, at, inl (inr (inl l)))) | inr l ↦ omega (arith, l, cells) ],
  )

  newer : (v : ℕ) (x : Version) → New r c g k next v x → x.writer ≡ suc c
  newer = new_writer r c g k next

  -- ---- what the cell left

  new_left : (v : ℕ) (x : Version) → New r c g k next v x → IsLeft r c x
  new_left v x n = (next.left x (in_of_get next.news n.0 x n.2)).2

  news_left : (x : Version) → Contains next.news x → IsLeft r c x
  news_left x p = (next.left x p).2

  -- two versions of the cell with a common name have the same names
  same_names : (x y : Version) → IsLeft r c x → IsLeft r c y → (name : Name) → Contains x.names name → Contains y.names name → (z : Name) → Contains x.names z → Contains y.names z
  same_names x y (inl a) (inl b) name p q z i = same_part After x.names y.names a.1 b.1 name p q z i
  same_names x y (inl a) (inr b) name p q z i =
      absurd (not_both After name (in_part_value After x.names a.1 name p) (subst (HasNone After) (one_in b.1 name (subst (λ ns. Contains ns name) b.2 q)) b.3.1))
  same_names x y (inr a) b name p q z i =
      let one : a.1 ≡ name = one_in a.1 name (subst (λ ns. Contains ns name) a.2 p) in
      let other : a.1 ≡ z = one_in a.1 z (subst (λ ns. Contains ns z) a.2 i) in
      subst (Contains y.names) (sym one ∙ other) q

  ascending : (x : Version) → IsLeft r c x → Ascends TextBelow x.names
  ascending x (inl a) = a.1.ascends
  ascending x (inr a) = subst (Ascends TextBelow) (sym a.2) tt

  next_below : (i j : ℕ) (x y : Version) → j ≡ suc i → slice_get next.news i ≡ Some x → slice_get next.news j ≡ Some y → TextBelow (least_name x.names) (least_name y.names)
  next_below i j x y e p q = ascends_at (λ a b. TextBelow (least_name a.names) (least_name b.names)) next.news next.ascend i x y p (subst (λ m. slice_get next.news m ≡ Some y) e q)

  least_below : (n i j : ℕ) (x y : Version) → j ≡ suc (n + i) → slice_get next.news i ≡ Some x → slice_get next.news j ≡ Some y → TextBelow (least_name x.names) (least_name y.names)
  least_below zero i j x y e p q = next_below i j x y (omega (arith, e)) p q
  least_below (suc n) i j x y e p q =
      let m : ℕ = j - 1 in
      let l = slice_get_within next.news j y q in
      let z : Version = get_or next.news m y in
      let at : slice_get next.news m ≡ Some z = slice_get-get_or next.news m y (omega (arith, l, e)) in
      below_on (least_name x.names) (least_name z.names) (least_name y.names) (least_below n i m x z (omega (arith, e)) p at)
      (next_below m j z y (omega (arith, e)) at q)

  news_apart : (i j : ℕ) (x y : Version) → slice_get next.news i ≡ Some x → slice_get next.news j ≡ Some y → i < j → (name : Name) → Contains x.names name → ¬ Contains y.names name
  news_apart i j x y p q l name a b =
      let u = news_left x (in_of_get next.news i x p) in
      let w = news_left y (in_of_get next.news j y q) in
      let same = same_least x.names y.names (ascending x u) (ascending y w) name a (same_names x y u w name a b) (same_names y x w u name b a) in
      never_below_itself (least_name y.names) (subst (λ n. TextBelow n (least_name y.names)) same (least_below (j - i - 1) i j x y (omega (arith, l)) p q))

  new_once : (u v : ℕ) (x y : Version) → New r c g k next u x → New r c g k next v y → (name : Name) → Contains x.names name → Contains y.names name → u ≡ v
  new_once u v x y m n name p q =
      let a = m.1 in
      let b = n.1 in
      elim (cases_eq m.0 n.0) [
        | inl e ↦ omega (arith, a, b, e)
        | inr other ↦ elim (cases_lt m.0 n.0) [
          | inl l ↦ absurd (news_apart m.0 n.0 x y m.2 n.2 l name p q)
          | inr l ↦ absurd (news_apart n.0 m.0 y x n.2 m.2 (omega (arith, l, other)) name q p)
        ]
      ]

  -- ---- an active version one of whose names the cell wrote is written whole

  whole : (v : ℕ) (x : Version) → IsActive g v x → Meets next.news x → (name : Name) → Contains x.names name → (y : Version) × Contains next.news y × Contains y.names name
  whole v x active (y, z, new, p, q) name i = elim (has_value After name) [
    | inl value ↦ let w = next.parts name value in elim w.3 [
      | inr a ↦ (a.0, a.1, subst (λ ns. Contains ns name) (sym a.2) w.1)
      | inl kept ↦ elim (cases_Bool x.absent) [
        | inl gone ↦ absurd (not_both Before name (value.0, sym (step.spares.values name (kept.names_stay name w.1)) ∙ value.1) (fits.are_absent v x active gone name i))
        | inr there ↦
            let m : Contains w.0 z = same_part Before x.names w.0 (fits.are_parts v x active there) kept.before name i w.1 z p in
            elim (news_left y new) [
              | inl b ↦ absurd (kept_not_written r c w.0 y.names kept w.2 b.1 z m q b.2)
              | inr b ↦ absurd (not_both After z (in_part_value After w.0 w.2 z m) (subst (HasNone After) (one_in b.1 z (subst (λ ns. Contains ns z) b.2 q)) b.3.1))
            ]
      ]
    ]
    | inr none ↦ elim (is_bound r c name) [
      | inl now ↦ let a = next.deleted name (now, none) in (a.0, a.1, subst (λ ns. Contains ns name) (sym a.2) (first_in name []))
      | inr not_now ↦
          let before : HasNone Before name = sym (step.spares.values name not_now) ∙ none in
          elim (cases_Bool x.absent) [
            | inr there ↦ absurd (not_both Before name (in_part_value Before x.names (fits.are_parts v x active there) name i) before)
            | inl gone ↦ absurd (only_deleted v x active gone y z new p q name i none not_now)
          ]
    ]
  ]
    where
      only_deleted : (v : ℕ) (x : Version) → IsActive g v x → x.absent ≡ true → (y : Version) (z : Name) → Contains next.news y → Contains x.names z → Contains y.names z
          → (name : Name) → Contains x.names name → HasNone After name → ¬ Binds r c name → ⊥
      only_deleted v x active gone y z new p q name i none not_now =
          let short : length x.names ≤ 1 = elim (cases_lt 1 (length x.names)) [ inl l ↦ absurd (good.names v (x, active.0, inr (inr (inr (gone, l))))) | inr l ↦ l ] in
          let same : name ≡ z = alone x.names name z short i p in
          elim (news_left y new) [
            | inl b ↦ not_both After z (in_part_value After y.names b.1 z q) (subst (HasNone After) same none)
            | inr b ↦ not_now (subst (λ m. Binds r c m) (one_in b.1 z (subst (λ ns. Contains ns z) b.2 q) ∙ sym same) b.3.0)
          ]

  -- ---- the active versions are the parts of the state after the cell

  -- an old version that is active still had no name written
  still_active : (v : ℕ) (y x : Version) → Ages y x → x.replaced ≡ 0 → (y.replaced ≡ 0) × (¬ Meets next.news y)
  still_active v y x a e = elim a.replaced [
    | inl s ↦ absurd (s.0 (sym s.1 ∙ e))
    | inr (inl s) ↦ let f = s.2 in let none : ⊥ = omega (arith, f, e) in absurd none
    | inr (inr s) ↦ (s.0, s.1)
  ]

  -- no name of it was bound or deleted
  unbound : (y : Version) → ¬ Meets next.news y → (name : Name) → Contains y.names name → ¬ Binds r c name
  unbound y free name p b = elim (has_value After name) [
    | inl value ↦ let w = next.parts name value in elim w.3 [
      | inl kept ↦ kept.names_stay name w.1 b
      | inr a ↦ free (a.0, name, a.1, p, subst (λ ns. Contains ns name) (sym a.2) w.1)
    ]
    | inr none ↦ let a = next.deleted name (b, none) in free (a.0, name, a.1, p, subst (λ ns. Contains ns name) (sym a.2) (first_in name []))
  ]

  still_part : (v : ℕ) (y : Version) → IsActive g v y → ¬ Meets next.news y → y.absent ≡ false → IsPart After y.names
  still_part v y active free there =
      let p : IsPart Before y.names = fits.are_parts v y active there in
      let name : Name = p.some.0 in
      let value = in_part_value Before y.names p name p.some.1 in
      let w = next.parts name (value.0, step.spares.values name (unbound y free name p.some.1) ∙ value.1) in
      elim w.3 [
        | inl kept ↦ part_again Before After y.names w.0 p w.2 (same_part Before y.names w.0 p kept.before name p.some.1 w.1) (same_part Before w.0 y.names kept.before p name w.1 p.some.1)
        | inr a ↦ absurd (free (a.0, name, a.1, p.some.1, subst (λ ns. Contains ns name) (sym a.2) w.1))
      ]

  still_kept : (v : ℕ) (y : Version) → IsActive g v y → ¬ Meets next.news y → y.absent ≡ false → IsKept r c y.names
  still_kept v y active free there =
      let p : IsPart Before y.names = fits.are_parts v y active there in
      let name : Name = p.some.0 in
      let value = in_part_value Before y.names p name p.some.1 in
      let w = next.parts name (value.0, step.spares.values name (unbound y free name p.some.1) ∙ value.1) in
      elim w.3 [
        | inl kept ↦ record {
          names_stay = unbound y free;
          objects_stay = λ at q. kept.objects_stay at (reach_more After y.names w.0 (same_part Before y.names w.0 p kept.before name p.some.1 w.1) at q);
          before = p;
        }
        | inr a ↦ absurd (free (a.0, name, a.1, p.some.1, subst (λ ns. Contains ns name) (sym a.2) w.1))
      ]

  still_same : (v : ℕ) (y : Version) → IsActive g v y → ¬ Meets next.news y → Same (Contains y.names) Before After
  still_same v y active free = elim (cases_Bool y.absent) [
    | inr there ↦ same_kept r c step.spares y.names (still_kept v y active free there)
    | inl gone ↦ same_nothing Before After (Contains y.names) (fits.are_absent v y active gone)
        (λ z p. step.spares.values z (unbound y free z p) ∙ fits.are_absent v y active gone z p)
  ]

  pub fits_still : TellsParts r → Fits r (suc c) k
  fits_still tells = record {
    are_parts = λ v x active there. elim (cases_of v x active.0) [
      | inl o ↦
          let e = still_active v o.0 x o.2 active.1 in
          subst (IsPart After) (sym o.2.names) (still_part v o.0 (o.1, e.0) e.1 (sym o.2.absent ∙ there))
      | inr n ↦ elim (new_left v x n) [ inl a ↦ a.1 | inr a ↦ let i = a.0 in cc ]
    ];
    all_parts = λ name value. let w = next.parts name value in elim w.3 [
      | inr a ↦
          let i = to_new r c g k next a.0 a.1 in
          (i.0, a.0, (i.1, (next.left a.0 a.1).1), a.3, subst (λ ns. Contains ns name) (sym a.2) w.1)
      | inl kept ↦
          let b = fits.all_parts name (value.0, sym (step.spares.values name (kept.names_stay name w.1)) ∙ value.1) in
          let y : Version = b.1 in
          let i = to_old r c g k next b.0 y b.2.0 in
          let to = same_part Before y.names w.0 (fits.are_parts b.0 y b.2 b.3) kept.before name b.4 w.1 in
          let free : ¬ Meets next.news y = λ m. elim (news_left m.0 m.2) [
            | inl d ↦ kept_not_written r c w.0 m.0.names kept w.2 d.1 m.1 (to m.1 m.3) m.4 d.2
            | inr d ↦ not_both After m.1 (in_part_value After w.0 w.2 m.1 (to m.1 m.3)) (subst (HasNone After) (one_in d.1 m.1 (subst (λ ns. Contains ns m.1) d.2 m.4)) d.3.1)
          ] in
          let active : i.0.replaced ≡ 0 = elim i.2.replaced [
            | inl s ↦ absurd (s.0 b.2.1)
            | inr (inl s) ↦ absurd (free s.1)
            | inr (inr s) ↦ s.2
          ] in
          (b.0, i.0, (i.1, active), i.2.absent ∙ b.3, subst (λ ns. Contains ns name) (sym i.2.names) b.4)
    ];
    are_absent = λ v x active gone name p. elim (cases_of v x active.0) [
      | inl o ↦
          let e = still_active v o.0 x o.2 active.1 in
          let q : Contains o.0.names name = subst (λ ns. Contains ns name) o.2.names p in
          step.spares.values name (unbound o.0 e.1 name q) ∙ fits.are_absent v o.0 (o.1, e.0) (sym o.2.absent ∙ gone) name q
      | inr n ↦ elim (new_left v x n) [
        | inl a ↦ let i = a.0 in cc
        | inr a ↦ subst (HasNone After) (one_in a.1 name (subst (λ ns. Contains ns name) a.2 p)) a.3.1
      ]
    ];
    weights = λ v x active. elim (cases_of v x active.0) [
      | inl o ↦
          let e = still_active v o.0 x o.2 active.1 in
          let same = still_same v o.0 (o.1, e.0) e.1 in
          weighed_alike r (suc c) o.0 x o.2.names o.2.handle o.2.size
          (weighed_later r c (suc c) o.0 same (tells.alike c (suc c) o.0.names step.spares.closed step.closed same) (fits.weights v o.0 (o.1, e.0)))
      | inr n ↦ (next.left x (in_of_get next.news n.0 x n.2)).3
    ];
  }

  -- ---- the graph is one still

  good_names : Never (HasBadNames k)
  good_names v (x, at, bad) = elim (cases_of v x at) [
    | inl o ↦ good.names v (
      o.0,
      o.1,
      elim bad [
        | inl e ↦ inl (sym o.2.names ∙ e)
        | inr (inl a) ↦ inr (inl (λ b. a (subst (Ascends TextBelow) (sym o.2.names) b)))
        | inr (inr (inl w)) ↦ inr (inr (inl (w.0, subst (λ ns. Contains ns w.0) o.2.names w.1, w.2)))
        | inr (inr (inr w)) ↦ inr (inr (inr (sym o.2.absent ∙ w.0, subst (λ (ns : List Name). 1 < length ns) o.2.names w.1)))
      ],
    )
    | inr n ↦ new_names x (new_left v x n) bad
  ]
    where
      known : (name : Name) → HasValue After name → is_variable name ≡ true
      known name value = elim (is_bound r c name) [
        | inl now ↦ step.bound name now
        | inr not_now ↦
            let w = fits.all_parts name (value.0, sym (step.spares.values name not_now) ∙ value.1) in
            elim (cases_Bool (is_variable name)) [ inl yes_it_is ↦ yes_it_is | inr not_one ↦ absurd (good.names w.0 (w.1, w.2.0, inr (inr (inl (name, w.4, not_one))))) ]
      ]

      new_names : (x : Version) → IsLeft r c x → (x.names ≡ []) ⊎ (¬ Ascends TextBelow x.names) ⊎ ((name : Name) × Contains x.names name × (is_variable name ≡ false)) ⊎ ((x.absent ≡ true) × (1 < length x.names)) → ⊥
      new_names x (inl a) (inl e) = none_in a.1.some.0 (subst (λ ns. Contains ns a.1.some.0) e a.1.some.1)
      new_names x (inr a) (inl e) = none_in a.1 (subst (λ ns. Contains ns a.1) (sym a.2 ∙ e) (first_in a.1 []))
      new_names x i (inr (inl bad)) = bad (ascending x i)
      new_names x (inl a) (inr (inr (inl w))) = not_false (is_variable w.0) (known w.0 (in_part_value After x.names a.1 w.0 w.1)) w.2
      new_names x (inr a) (inr (inr (inl w))) =
          let e : a.1 ≡ w.0 = one_in a.1 w.0 (subst (λ ns. Contains ns w.0) a.2 w.1) in
          not_false (is_variable w.0) (subst (λ m. is_variable m ≡ true) e (step.bound a.1 a.3.0)) w.2
      new_names x (inl a) (inr (inr (inr w))) = let e = a.0 in let f = w.0 in cc
      new_names x (inr a) (inr (inr (inr w))) =
          let one : length x.names ≡ 1 = ap (λ (ns : List Name). length ns) a.2 in
          let two = w.1 in
          let none : ⊥ = omega (arith, one, two) in none

  more_cells : length k.cells ≡ suc c
  more_cells = ap (λ (xs : List CellRecord). length xs) next.cells ∙ (let e = length-append g.cells (next.cell ∷ []) in omega (arith, e, cells))

  -- what replaces an old version in the longer graph
  replaced_cases : (y x : Version) → Ages y x → (x.replaced ≡ y.replaced) ⊎ ((y.replaced ≡ 0) × Meets next.news y × (x.replaced ≡ suc c))
  replaced_cases y x a = elim a.replaced [ inl s ↦ inl s.1 | inr (inl s) ↦ inr s | inr (inr s) ↦ inl (s.2 ∙ sym s.0) ]

  good_writers : Never (HasBadWriter k)
  good_writers v (x, at, bad) = elim (cases_of v x at) [
    | inl o ↦ old_one o bad
    | inr n ↦ new_one n bad
  ]
    where
      old_one : Old r c g k next v x → CellsAreBad (length k.cells) x ⊎ StandsOutOfOrder k v x → ⊥
      old_one o (inl (inl e)) = let w = (old_writer v o.0 o.1).0 in let f = o.2.writer in omega (arith, e, w, f)
      old_one o (inl (inr (inl l))) = let w = (old_writer v o.0 o.1).1 in let f = o.2.writer in let m = more_cells in omega (arith, l, w, f, m)
      old_one o (inr w) = elim (cases_of (v - 1) w.0 w.1) [
        | inl p ↦ good.writers v (o.0, o.1, inr (p.0, p.1, λ b. w.2 (comes_still r c g k next p.0 o.0 w.0 x p.2 o.2 b)))
        | inr n ↦ let e = n.1 in let l = (version_within g v o.0 o.1).1 in omega (arith, e, l)
      ]
      old_one o (inl (inr (inr w))) =
          let f = o.2.writer in
          let l = (old_writer v o.0 o.1).1 in
          let m = more_cells in
          elim (replaced_cases o.0 x o.2) [
            | inr s ↦ let e = s.2 in elim w.1 [ inl b ↦ omega (arith, b, e, f, l) | inr b ↦ omega (arith, b, e, m) ]
            | inl e ↦ good.writers v (o.0, o.1, inl (inr (inr ((λ z. w.0 (e ∙ z)), elim w.1 [ inl b ↦ inl (omega (arith, b, e, f)) | inr b ↦ inr (omega (arith, b, e, m, cells)) ]))))
          ]

      new_one : New r c g k next v x → CellsAreBad (length k.cells) x ⊎ StandsOutOfOrder k v x → ⊥
      new_one n (inl (inl e)) = let f = newer v x n in omega (arith, e, f)
      new_one n (inl (inr (inl l))) = let f = newer v x n in let m = more_cells in omega (arith, l, f, m)
      new_one n (inr w) = elim (cases_of (v - 1) w.0 w.1) [
        | inl p ↦
            let e = p.2.writer in
            let l = (old_writer (v - 1) p.0 p.1).1 in
            let f = newer v x n in
            w.2 (inl (omega (arith, e, l, f)))
        | inr m ↦
            let e = m.1 in
            let f = n.1 in
            let p = w.1.0 in
            w.2 (inr (newer (v - 1) w.0 m ∙ sym (newer v x n), next_below m.0 n.0 w.0 x (omega (arith, e, f, p)) m.2 n.2))
      ]
      new_one n (inl (inr (inr w))) = w.0 (next.left x (in_of_get next.news n.0 x n.2)).1

  -- versions of one name are in the order of their writers
  writers_before : (n u v : ℕ) (x y : Version) → v ≡ suc (n + u) → VersionAt g u x → VersionAt g v y → x.writer ≤ y.writer
  writers_before zero u v x y e at bt = elim (cases_lt y.writer x.writer) [
    | inr l ↦ l
    | inl l ↦ absurd (good.writers v (
      y,
      bt,
      inr (
        x,
        subst (λ m. VersionAt g m x) (let f : u ≡ v - 1 = omega (arith, e) in f) at,
        λ b. elim b [
          | inl less ↦ let none : ⊥ = omega (arith, l, less) in none
          | inr same ↦ let q = same.0 in let none : ⊥ = omega (arith, l, q) in none
        ],
      ),
    ))
  ]
  writers_before (suc n) u v x y e at bt =
      let m : ℕ = v - 1 in
      let w = version_within g v y bt in
      let z : Version = get_or g.versions (m - 1) y in
      let p = (version_within g u x at).0 in
      let ct : VersionAt g m z = (omega (arith, e, p), slice_get-get_or g.versions (m - 1) y (omega (arith, w, e, p))) in
      let a = writers_before n u m x z (omega (arith, e)) at ct in
      let b : z.writer ≤ y.writer = elim (cases_lt y.writer z.writer) [
        | inr l ↦ l
        | inl l ↦ absurd (good.writers v (
          y,
          bt,
          inr (
            z,
            ct,
            λ b. elim b [
              | inl less ↦ let none : ⊥ = omega (arith, l, less) in none
              | inr same ↦ let q = same.0 in let none : ⊥ = omega (arith, l, q) in none
            ],
          ),
        ))
      ] in
      omega (arith, a, b)

  -- ---- replacements

  later_replaced : (v : ℕ) (y : Version) → VersionAt g v y → y.replaced ≢ 0 → y.writer < y.replaced
  later_replaced v y at some = elim (cases_lt y.writer y.replaced) [
    | inl l ↦ l
    | inr l ↦ absurd (good.writers v (y, at, inl (inr (inr (some, inl l)))))
  ]

  -- a version by the cell that replaced one comes after it
  after : (v w : ℕ) (y z : Version) → VersionAt g v y → VersionAt g w z → y.replaced ≢ 0 → z.writer ≡ y.replaced → v < w
  after v w y z at bt some e =
      let less = later_replaced v y at some in
      elim (cases_lt v w) [
        | inl l ↦ l
        | inr l ↦ elim (cases_eq v w) [
          | inl same ↦
              let d : y ≡ z = same_version g v y z at (subst (λ n. VersionAt g n z) (sym same) bt) in
              let d_writer : y.writer ≡ z.writer = ap (λ (m : Version). m.writer) d in
              let none : ⊥ = omega (arith, d_writer, e, less) in absurd none
          | inr other ↦
              let back = writers_before (v - w - 1) w v z y (omega (arith, l, other)) bt at in
              let none : ⊥ = omega (arith, back, e, less) in absurd none
        ]
      ]

  good_next : (v : ℕ) (x : Version) → VersionAt k v x → (name : Name) (u : ℕ) (y : Version) → Contains x.names name → IsNextWith k v name u → VersionAt k u y → y.writer ≢ x.replaced → ⊥
  good_next v x at name u y p first bt differs =
      let q : Contains y.names name = subst (λ (z : Version). Contains z.names name) (same_version k u _ y first.0.1.1 bt) first.0.1.2 in
      let place : v < u = first.0.0 in
      elim (cases_of v x at) [
        | inr n ↦ elim (cases_of u y bt) [
          | inl o ↦ let e = n.1 in let l = (version_within g u o.0 o.1).1 in omega (arith, e, l, place)
          | inr m ↦ let e = new_once v u x y n m name p q in omega (arith, e, place)
        ]
        | inl o ↦
            let x0 : Version = o.0 in
            let p0 : Contains x0.names name = subst (λ ns. Contains ns name) o.2.names p in
            elim (cases_of u y bt) [
              | inl i ↦
                  let y0 : Version = i.0 in
                  let q0 : Contains y0.names name = subst (λ ns. Contains ns name) i.2.names q in
                  let first_then : IsNextWith g v name u = (
                    (place, (y0, i.1, q0)),
                    λ m l w.
                        let j = to_old r c g k next m w.1.0 w.1.1 in
                        first.1 m l (w.0, (j.0, j.1, subst (λ ns. Contains ns name) (sym j.2.names) w.1.2)),
                  ) in
                  let same : y0.writer ≡ x0.replaced = elim (cases_eq y0.writer x0.replaced) [
                    | inl e ↦ e
                    | inr d ↦ absurd (good.replacements v (x0, o.1, inl (name, u, y0, p0, first_then, i.1, d)))
                  ] in
                  elim (replaced_cases x0 x o.2) [
                    | inl e ↦ differs (i.2.writer ∙ (same ∙ sym e))
                    | inr s ↦ let z = s.0 in let w = (old_writer u y0 i.1).0 in omega (arith, z, w, same)
                  ]
              | inr n ↦ elim o.2.replaced [
                | inl s ↦ good.replacements v (
                  x0,
                  o.1,
                  inr (inl (
                    s.0,
                    name,
                    p0,
                    λ w z ct e q2.
                        let j = to_old r c g k next w z ct in
                        let l = (version_within g w z ct).1 in
                        let f = n.1 in
                        first.1 w (omega (arith, l, f)) (after v w x0 z o.1 ct s.0 e, (j.0, j.1, subst (λ ns. Contains ns name) (sym j.2.names) q2)),
                  )),
                )
                | inr (inl s) ↦ differs (newer u y n ∙ sym s.2)
                | inr (inr s) ↦ s.1 (y, name, in_of_get next.news n.0 y n.2, p0, q)
              ]
            ]
      ]

  good_replacements : Never (IsTwoActive k)
  good_replacements v (x, at, inl (name, u, y, p, first, bt, differs)) = good_next v x at name u y p first bt differs
  good_replacements v (x, at, inr (inl (some, name, p, none))) = elim (cases_of v x at) [
    | inr n ↦ some (next.left x (in_of_get next.news n.0 x n.2)).1
    | inl o ↦
        let p0 : Contains o.0.names name = subst (λ ns. Contains ns name) o.2.names p in
        elim o.2.replaced [
          | inl s ↦ good.replacements v (
            o.0,
            o.1,
            inr (inl (
              s.0,
              name,
              p0,
              λ u z bt e q.
                  let j = to_old r c g k next u z bt in
                  none u j.0 j.1 (j.2.writer ∙ (e ∙ sym s.1)) (subst (λ ns. Contains ns name) (sym j.2.names) q),
            )),
          )
          | inr (inl s) ↦
              let w = whole v o.0 (o.1, s.0) s.1 name p0 in
              let j = to_new r c g k next w.0 w.1 in
              none j.0 w.0 j.1 ((next.left w.0 w.1).0 ∙ sym s.2) w.2
          | inr (inr s) ↦ some s.2
        ]
  ]
  good_replacements v (x, at, inr (inr (name, u, y, other, p, bt, e, q))) = elim (cases_of v x at) [
    | inl o ↦ elim (cases_of u y bt) [
      | inl i ↦ good.replacements v (o.0, o.1, inr (inr (name, u, i.0, other, subst (λ ns. Contains ns name) o.2.names p, i.1, sym i.2.writer ∙ (e ∙ o.2.writer), subst (λ ns. Contains ns name) i.2.names q)))
      | inr n ↦ let a = o.2.writer in let b = (old_writer v o.0 o.1).1 in let f = newer u y n in omega (arith, a, b, f, e)
    ]
    | inr n ↦ elim (cases_of u y bt) [
      | inl i ↦ let a = i.2.writer in let b = (old_writer u i.0 i.1).1 in let f = newer v x n in omega (arith, a, b, f, e)
      | inr m ↦ other (new_once u v y x m n name q p)
    ]
  ]

  -- ---- records

  old_record : (n : ℕ) → n ≤ c → (x : CellRecord) → CellAt g n x → RecordIsBad k n x → ⊥
  old_record n l x at (inl (inl bad)) = good.reads n (x, at, inl (inl bad))
  old_record n l x at (inl (inr (v, p, inl none))) = good.reads n (x, at, inl (inr (v, p, inl (λ y bt. let j = to_old r c g k next v y bt in none j.0 j.1))))
  old_record n l x at (inl (inr (v, p, inr (y, bt, w)))) = elim (cases_of v y bt) [
    | inl o ↦
        let f = o.2.writer in
        good.reads n (
          x,
          at,
          inl (inr (
            v,
            p,
            inr (
              o.0,
              o.1,
              elim w [
                | inl b ↦ inl (omega (arith, b, f))
                | inr b ↦ elim (replaced_cases o.0 y o.2) [
                  | inl e ↦ let m = b.1 in inr ((λ z. b.0 (e ∙ z)), omega (arith, m, e))
                  | inr s ↦ let e = s.2 in let m = b.1 in let none : ⊥ = omega (arith, e, m, l) in absurd none
                ]
              ],
            ),
          )),
        )
    | inr i ↦ good.reads n (x, at, inl (inr (v, p, inl (λ z ct. let e = i.1 in let m = (version_within g v z ct).1 in omega (arith, e, m)))))
  ]
  old_record n l x at (inr (inl bad)) = good.reads n (x, at, inr (inl bad))
  old_record n l x at (inr (inr (inl w))) = good.reads n (x, at, inr (inr (inl w)))
  old_record n l x at (inr (inr (inr (name, p, (v, y, bt, q, less))))) = elim (cases_of v y bt) [
    | inl o ↦ let f = o.2.writer in good.reads n (x, at, inr (inr (inr (name, p, (v, o.0, o.1, subst (λ ns. Contains ns name) o.2.names q, omega (arith, less, f))))))
    | inr i ↦ let f = newer v y i in omega (arith, f, less, l)
  ]

  last_record : RecordIsBad k (suc c) next.cell → ⊥
  last_record (inl (inl bad)) = bad next.is_record.reads_ascend
  last_record (inl (inr (v, p, inl none))) = let w = (next.is_record.reads v).0 p in let j = to_old r c g k next v w.0 w.1.at in none j.0 j.1
  last_record (inl (inr (v, p, inr (y, bt, w)))) =
      let i = (next.is_record.reads v).0 p in
      let j = to_old r c g k next v i.0 i.1.at in
      let same : j.0 ≡ y = same_version k v j.0 y j.1 bt in
      let a : Ages i.0 y = subst (Ages i.0) same j.2 in
      let f = a.writer in
      let m = i.1.written in
      elim w [
        | inl b ↦ omega (arith, b, f, m)
        | inr b ↦ let n = b.1 in elim (replaced_cases i.0 y a) [
          | inr s ↦ let e = s.2 in omega (arith, e, n)
          | inl e ↦ elim i.1.stands [ inl z ↦ b.0 (e ∙ z) | inr more ↦ omega (arith, e, n, more) ]
        ]
      ]
  last_record (inr (inl bad)) = bad next.is_record.missing_ascends
  last_record (inr (inr (inl w))) = not_false (is_identifier w.0) (step.looked w.0 ((next.is_record.missing w.0).0 w.1).0) w.2
  last_record (inr (inr (inr (name, p, (v, y, bt, q, less))))) = elim (cases_of v y bt) [
    | inl o ↦ ((next.is_record.missing name).0 p).1 v o.0 o.1 (subst (λ ns. Contains ns name) o.2.names q)
    | inr i ↦ let f = newer v y i in omega (arith, f, less)
  ]

  good_reads : Never (HasBadRead k)
  good_reads n (x, at, bad) = elim (get_cases g.cells (next.cell ∷ []) (n - 1) x (subst (λ xs. slice_get xs (n - 1) ≡ Some x) next.cells at.1)) [
    | inl q ↦
        let l = slice_get_within g.cells (n - 1) x q in
        let p = at.0 in
        old_record n (omega (arith, l, p, cells)) x (p, q) bad
    | inr q ↦
        let f = q.1 in
        let p = at.0 in
        let last = slice_get_within (next.cell ∷ []) q.0 x q.2 in
        let at_zero : q.0 ≡ 0 = omega (arith, last) in
        let same : next.cell ≡ x = one (subst (λ j. slice_get (next.cell ∷ []) j ≡ Some x) at_zero q.2) in
        let n_is : n ≡ suc c = omega (arith, f, p, at_zero, cells) in
        last_record (subst (λ (z : CellRecord). RecordIsBad k (suc c) z) (sym same) (subst (λ m. RecordIsBad k m x) n_is bad))
  ]
    where
      one : {a b : CellRecord} → Some a ≡ Some b → a ≡ b
      one i = cc

  pub checks_still : suc c < 4294967296 → length k.versions < 4294967296 → IsGraph k
  checks_still few fewer = record {
    cells = let e = more_cells in omega (arith, few, e);
    versions = fewer;
    names = good_names;
    writers = good_writers;
    replacements = good_replacements;
    reads = good_reads;
  }
