-- The versions that hold after a cell are the parts of the state, and the names without a value that were bound once.
use Rattle.std.proofs.Common.{◌≡◌, ℕ, zero, suc, ◌-◌, ◌+◌, ◌<◌, ◌≤◌, true, false, [], ◌∷◌, get_or, sym, ◌∙◌, ◌⊎◌, inl, inr, subst, arith}
use Rattle.std.specs.Prelude.{Contains}
use Rattle.std.proofs.lemmas.Bool.{cases_lt, cases_eq}
use Rattle.std.proofs.lemmas.Option.{slice_get-get_or}
use Rattle.py_heap.specs.declared.state.State.{State}
use Rattle.py_machine.specs.Runs.{Name}
use Rattle.py_laws.proofs.Reached.{reach_more}
use Rattle.py_laws.proofs.Partners.{one_in, first_in}
use Rattle.graph_model.specs.declared.graph.Version.{Version}
use Rattle.graph_model.specs.declared.graph.Graph.{Graph}
use Rattle.graph_model.specs.Graphs.{VersionAt}
use Rattle.graph_model.specs.Faults.{TextBelow, Ascends, ComesBefore, least_name}
use Rattle.graph_model.proofs.Lookups.{version_within}
use Rattle.linked_parts.specs.Parts.{HasValue, HasNone, IsPart}
use Rattle.linked_parts.proofs.Lists.{below_on, never_below_itself}
use Rattle.run_graph.specs.Histories.{Run, Binds, IsKept, IsWritten, IsDeleted, IsLeft, HoldsAfter, Rewrites, IsHistory}
use Rattle.run_graph.specs.Soundness.{IsRun, AreTheParts}
use Rattle.run_graph.proofs.Lists.{is_bound, same_least}
use Rattle.run_graph.proofs.Reached.{has_value, not_both}
use Rattle.run_graph.proofs.Kept.{in_part_value, same_part, part_again, value_before, spares_of, kept_not_written}

module _ (r : Run) (run : IsRun r) (g : Graph) (h : IsHistory r g) where
  -- ---- what the writer of a version left

  -- each name of a version was bound or deleted, or the version is a part
  pub left_cases : (v : ℕ) (x : Version) → VersionAt g v x → (c : ℕ) → x.writer ≡ suc c → IsLeft r c x
  left_cases v x at c e =
      let w = h.versions v x at in
      subst (λ n. IsLeft r n x) (let same : suc w.0 ≡ suc c = sym w.1 ∙ e in omega (arith, same)) w.3

  pub writer_within : (v : ℕ) (x : Version) → VersionAt g v x → (0 < x.writer) × (x.writer ≤ r.cells)
  writer_within v x at = let w = h.versions v x at in let e = w.1 in let l = w.2 in (omega (arith, e, l), omega (arith, e, l))

  -- a version with a value is a part, and no name of a deleted one has a value
  pub left_part : (v : ℕ) (x : Version) → VersionAt g v x → (c : ℕ) → x.writer ≡ suc c → x.absent ≡ false → IsPart (r.state (suc c)) x.names × IsWritten r c x.names
  left_part v x at c e there = elim (left_cases v x at c e) [ inl p ↦ (p.1, p.2) | inr d ↦ let a = d.0 in cc ]

  pub left_deleted : (v : ℕ) (x : Version) → VersionAt g v x → (c : ℕ) → x.writer ≡ suc c → x.absent ≡ true → (name : Name) × (x.names ≡ name ∷ []) × IsDeleted r c name
  left_deleted v x at c e gone = elim (left_cases v x at c e) [ inl p ↦ let a = p.0 in cc | inr d ↦ (d.1, d.2, d.3) ]

  -- two versions of one writer with a common name have the same mark and the same names
  pub same_names : (u v : ℕ) (x y : Version) → VersionAt g u x → VersionAt g v y → x.writer ≡ y.writer → (name : Name) → Contains x.names name → Contains y.names name
      → (z : Name) → Contains x.names z → Contains y.names z
  same_names u v x y at bt e name p q z k =
      let w = h.versions u x at in
      let c : ℕ = w.0 in
      let S : State = r.state (suc c) in
      let f : y.writer ≡ suc c = sym e ∙ w.1 in
      elim w.3 [
        | inl a ↦ elim (left_cases v y bt c f) [
          | inl b ↦ same_part S x.names y.names a.1 b.1 name p q z k
          | inr b ↦
              let none : HasNone S name = subst (λ m. HasNone S m) (one_in b.1 name (subst (λ ns. Contains ns name) b.2 q)) b.3.1 in
              absurd (not_both S name (in_part_value S x.names a.1 name p) none)
        ]
        | inr a ↦
            let one : a.1 ≡ name = one_in a.1 name (subst (λ ns. Contains ns name) a.2 p) in
            let other : a.1 ≡ z = one_in a.1 z (subst (λ ns. Contains ns z) a.2 k) in
            subst (Contains y.names) (sym one ∙ other) q
      ]

  -- ---- the order is strict

  pub comes_on : (x y z : Version) → ComesBefore x y → ComesBefore y z → ComesBefore x z
  comes_on x y z (inl a) (inl b) = inl (omega (arith, a, b))
  comes_on x y z (inl a) (inr b) = let e = b.0 in inl (omega (arith, a, e))
  comes_on x y z (inr a) (inl b) = let e = a.0 in inl (omega (arith, e, b))
  comes_on x y z (inr a) (inr b) = inr (a.0 ∙ b.0, below_on (least_name x.names) (least_name y.names) (least_name z.names) a.1 b.1)

  pub ascending : (v : ℕ) (x : Version) → VersionAt g v x → Ascends TextBelow x.names
  ascending v x at = let w = h.versions v x at in elim w.3 [ inl p ↦ p.1.ascends | inr d ↦ subst (Ascends TextBelow) (sym d.2) tt ]

  pub comes_before : (k u v : ℕ) (x y : Version) → v ≡ suc (k + u) → VersionAt g u x → VersionAt g v y → ComesBefore x y
  comes_before zero u v x y e at bt = h.order u x y at (subst (λ n. VersionAt g n y) (let f : v ≡ suc u = omega (arith, e) in f) bt)
  comes_before (suc k) u v x y e at bt =
      let m : ℕ = v - 1 in
      let w = version_within g v y bt in
      let p = version_within g u x at in
      let z : Version = get_or g.versions (m - 1) y in
      let ct : VersionAt g m z = (omega (arith, e), slice_get-get_or g.versions (m - 1) y (omega (arith, w, e))) in
      comes_on x z y (comes_before k u m x z (omega (arith, e)) at ct) (h.order m z y ct (subst (λ n. VersionAt g n y) (let f : v ≡ suc m = omega (arith, e) in f) bt))

  pub not_before : (u v : ℕ) (x y : Version) → u < v → VersionAt g u x → VersionAt g v y → x.writer ≡ y.writer → (name : Name) → Contains x.names name → ¬ Contains y.names name
  not_before u v x y l at bt e name p q = elim (comes_before (v - u - 1) u v x y (omega (arith, l)) at bt) [
    | inl less ↦ let no : ⊥ = omega (arith, less, e) in no
    | inr b ↦
        let same : least_name x.names ≡ least_name y.names = same_least x.names y.names (ascending u x at) (ascending v y bt) name p
        (same_names u v x y at bt e name p q) (same_names v u y x bt at (sym e) name q p) in
        never_below_itself (least_name y.names) (subst (λ n. TextBelow n (least_name y.names)) same b.1)
  ]

  -- no two versions of one writer have a common name
  pub one_of_writer : (u v : ℕ) (x y : Version) → VersionAt g u x → VersionAt g v y → x.writer ≡ y.writer → (name : Name) → Contains x.names name → Contains y.names name → u ≡ v
  one_of_writer u v x y at bt e name p q = elim (cases_eq u v) [
    | inl same ↦ same
    | inr other ↦ elim (cases_lt u v) [
      | inl l ↦ absurd (not_before u v x y l at bt e name p q)
      | inr l ↦ absurd (not_before v u y x (let f = other in omega (arith, l, f)) bt at (sym e) name q p)
    ]
  ]

  -- ---- from a cell to the next

  module _ (c : ℕ) (l : c < r.cells) where
    abbrev Before : State
    Before = r.state c

    abbrev After : State
    After = r.state (suc c)

    pub new_holds : (v : ℕ) (x : Version) → VersionAt g v x → x.writer ≡ suc c → HoldsAfter g (suc c) v x
    new_holds v x at e = record {
      at = at;
      written = omega (arith, e);
      stands = elim (h.replaced v x at) [ inl a ↦ inl a.0 | inr f ↦ inr (let w = f.0.0 in omega (arith, w, e)) ];
    }

    pub new_or_old : (v : ℕ) (x : Version) → HoldsAfter g (suc c) v x → (x.writer ≡ suc c) ⊎ HoldsAfter g c v x
    new_or_old v x k = elim (cases_eq x.writer (suc c)) [
      | inl e ↦ inl e
      | inr other ↦ inr (record {
        at = k.at;
        written = let w = k.written in omega (arith, w, other);
        stands = elim k.stands [ inl e ↦ inl e | inr w ↦ inr (omega (arith, w)) ];
      })
    ]

    -- what still holds, the cell didn't write again
    pub not_rewritten : (v : ℕ) (x : Version) → HoldsAfter g (suc c) v x → HoldsAfter g c v x → (u : ℕ) (y : Version) → VersionAt g u y → y.writer ≡ suc c
        → (name : Name) → Contains x.names name → ¬ Contains y.names name
    not_rewritten v x k old u y at e name p q =
        let again : Rewrites g x (suc c) = (let w = old.written in omega (arith, w), u, y, name, at, e, p, q) in
        elim (h.replaced v x k.at) [
          | inl a ↦ a.1 (suc c) again
          | inr f ↦ elim k.stands [
            | inl z ↦ let w = f.0.0 in let no : ⊥ = omega (arith, w, z) in no
            | inr later ↦ f.1 (suc c) later again
          ]
        ]

    -- what held and the cell didn't write again, still holds
    pub still_holds : (v : ℕ) (x : Version) → HoldsAfter g c v x → ((u : ℕ) (y : Version) (name : Name) → VersionAt g u y → y.writer ≡ suc c → Contains x.names name → ¬ Contains y.names name)
        → HoldsAfter g (suc c) v x
    still_holds v x old none = record {
      at = old.at;
      written = let w = old.written in omega (arith, w);
      stands = elim old.stands [
        | inl e ↦ inl e
        | inr w ↦ elim (cases_eq x.replaced (suc c)) [
          | inr other ↦ inr (omega (arith, w, other))
          | inl e ↦ elim (h.replaced v x old.at) [
            | inl a ↦ inl a.0
            | inr f ↦ let k = f.0 in absurd (none k.1 k.2 k.3 k.4 (k.5 ∙ e) k.6 k.7)
          ]
        ]
      ];
    }

    -- no name of what still holds was bound or deleted
    pub still_unbound : (v : ℕ) (x : Version) → HoldsAfter g (suc c) v x → HoldsAfter g c v x → (name : Name) → Contains x.names name → ¬ Binds r c name
    still_unbound v x k old name p b = elim (has_value After name) [
      | inl value ↦ let w = h.parts c name l value in elim w.3 [
        | inl kept ↦ kept.names_stay name w.1 b
        | inr a ↦ not_rewritten v x k old a.0 a.1 a.2 a.3 name p (subst (λ ns. Contains ns name) (sym a.4) w.1)
      ]
      | inr none ↦ let a = h.deleted c name l (b, none) in
          not_rewritten v x k old a.0 a.1 a.2 a.3 name p (subst (λ ns. Contains ns name) (sym a.4) (first_in name []))
    ]

    module _ (inv : AreTheParts r g c) where
      -- a part that still holds was kept
      pub still_part : (v : ℕ) (x : Version) → HoldsAfter g (suc c) v x → HoldsAfter g c v x → x.absent ≡ false → IsPart After x.names × IsKept r c x.names
      still_part v x k old there =
          let p : IsPart Before x.names = inv.are_parts v x old there in
          let name : Name = p.some.0 in
          let value = in_part_value Before x.names p name p.some.1 in
          let stays = run.values c name (still_unbound v x k old name p.some.1) in
          let w = h.parts c name l (value.0, stays ∙ value.1) in
          elim w.3 [
            | inl kept ↦
                let to = same_part Before x.names w.0 p kept.before name p.some.1 w.1 in
                let from = same_part Before w.0 x.names kept.before p name w.1 p.some.1 in (
                  part_again Before After x.names w.0 p w.2 to from,
                  record {
                    names_stay = λ z q. kept.names_stay z (to z q);
                    objects_stay = λ at q. kept.objects_stay at (reach_more After x.names w.0 to at q);
                    before = p;
                  },
                )
            | inr a ↦ absurd (not_rewritten v x k old a.0 a.1 a.2 a.3 name p.some.1 (subst (λ ns. Contains ns name) (sym a.4) w.1))
          ]

      next_disjoint : (u v : ℕ) (x y : Version) (name : Name) → HoldsAfter g (suc c) u x → HoldsAfter g (suc c) v y → Contains x.names name → Contains y.names name → u ≡ v
      next_disjoint u v x y name k m p q = elim (new_or_old u x k) [
        | inl e ↦ elim (new_or_old v y m) [
          | inl f ↦ one_of_writer u v x y k.at m.at (e ∙ sym f) name p q
          | inr old ↦ absurd (not_rewritten v y m old u x k.at e name q p)
        ]
        | inr old ↦ elim (new_or_old v y m) [
          | inl f ↦ absurd (not_rewritten u x k old v y m.at f name p q)
          | inr other ↦ inv.disjoint u v x y name old other p q
        ]
      ]

      next_parts : (v : ℕ) (x : Version) → HoldsAfter g (suc c) v x → x.absent ≡ false → IsPart After x.names
      next_parts v x k there = elim (new_or_old v x k) [
        | inl e ↦ (left_part v x k.at c e there).0
        | inr old ↦ (still_part v x k old there).0
      ]

      next_all_parts : (name : Name) → HasValue After name → (v : ℕ) × (x : Version) × HoldsAfter g (suc c) v x × (x.absent ≡ false) × Contains x.names name
      next_all_parts name value =
          let w = h.parts c name l value in
          elim w.3 [
            | inr a ↦ (a.0, a.1, new_holds a.0 a.1 a.2 a.3, a.5, subst (λ ns. Contains ns name) (sym a.4) w.1)
            | inl kept ↦
                let a = inv.all_parts name (value_before r c (spares_of r run c) w.0 kept name w.1 value) in
                let x : Version = a.1 in
                let p : IsPart Before x.names = inv.are_parts a.0 x a.2 a.3 in
                let to = same_part Before x.names w.0 p kept.before name a.4 w.1 in
                let none : (u : ℕ) (y : Version) (z : Name) → VersionAt g u y → y.writer ≡ suc c → Contains x.names z → ¬ Contains y.names z = λ u y z at e i j.
                elim (left_cases u y at c e) [
                  | inl b ↦ kept_not_written r c w.0 y.names kept w.2 b.1 z (to z i) j b.2
                  | inr b ↦ not_both After z (in_part_value After w.0 w.2 z (to z i)) (subst (λ m. HasNone After m) (one_in b.1 z (subst (λ ns. Contains ns z) b.2 j)) b.3.1)
                ] in
                (a.0, x, still_holds a.0 x a.2 none, a.3, a.4)
          ]

      next_deleted : (v : ℕ) (x : Version) → HoldsAfter g (suc c) v x → x.absent ≡ true
          → (name : Name) × (x.names ≡ name ∷ []) × HasNone After name × (e : ℕ) × (e < suc c) × Binds r e name
      next_deleted v x k gone = elim (new_or_old v x k) [
        | inl e ↦ let d = left_deleted v x k.at c e gone in (d.0, d.1, d.2.1, c, omega arith, d.2.0)
        | inr old ↦
            let d = inv.are_deleted v x old gone in
            let p : Contains x.names d.0 = subst (λ ns. Contains ns d.0) (sym d.1) (first_in d.0 []) in
            (d.0, d.1, run.values c d.0 (still_unbound v x k old d.0 p) ∙ d.2, d.3, let w = d.4 in omega (arith, w), d.5)
      ]

      next_all_deleted : (name : Name) (e : ℕ) → e < suc c → Binds r e name → HasNone After name
          → (v : ℕ) × (x : Version) × HoldsAfter g (suc c) v x × (x.absent ≡ true) × Contains x.names name
      next_all_deleted name e less b none = elim (is_bound r c name) [
        | inl now ↦ let a = h.deleted c name l (now, none) in
            (a.0, a.1, new_holds a.0 a.1 a.2 a.3, a.5, subst (λ ns. Contains ns name) (sym a.4) (first_in name []))
        | inr not_now ↦
            let before : HasNone Before name = sym (run.values c name not_now) ∙ none in
            let earlier : e < c = elim (cases_eq e c) [ inl same ↦ absurd (not_now (subst (λ n. Binds r n name) same b)) | inr other ↦ omega (arith, less, other) ] in
            let a = inv.all_deleted name e earlier b before in
            let x : Version = a.1 in
            let d = inv.are_deleted a.0 x a.2 a.3 in
            let one : d.0 ≡ name = one_in d.0 name (subst (λ ns. Contains ns name) d.1 a.4) in
            let rest : (u : ℕ) (y : Version) (z : Name) → VersionAt g u y → y.writer ≡ suc c → Contains x.names z → ¬ Contains y.names z = λ u y z at f i j.
            let same : name ≡ z = sym one ∙ one_in d.0 z (subst (λ ns. Contains ns z) d.1 i) in
            elim (left_cases u y at c f) [
              | inl p ↦ not_both After z (in_part_value After y.names p.1 z j) (subst (λ m. HasNone After m) same none)
              | inr q ↦ not_now (subst (λ m. Binds r c m) (one_in q.1 z (subst (λ ns. Contains ns z) q.2 j) ∙ sym same) q.3.0)
            ] in
            (a.0, x, still_holds a.0 x a.2 rest, a.3, a.4)
      ]

      next : AreTheParts r g (suc c)
      next = record { disjoint = next_disjoint; are_parts = next_parts; all_parts = next_all_parts; are_deleted = next_deleted; all_deleted = next_all_deleted }

  nothing_holds : (v : ℕ) (x : Version) → ¬ HoldsAfter g 0 v x
  nothing_holds v x k = let w = (writer_within v x k.at).0 in let e = k.written in omega (arith, w, e)

  pub the_parts : (c : ℕ) → c ≤ r.cells → AreTheParts r g c
  the_parts zero l = record {
    disjoint = λ u v x y name k m p q. absurd (nothing_holds u x k);
    are_parts = λ v x k there. absurd (nothing_holds v x k);
    all_parts = λ name value. absurd (not_both (r.state 0) name value (run.begins name));
    are_deleted = λ v x k gone. absurd (nothing_holds v x k);
    all_deleted = λ name e less b none. let no : ⊥ = omega (arith, less) in absurd no;
  }
  the_parts (suc c) l = next c (omega (arith, l)) (the_parts c (omega (arith, l)))
