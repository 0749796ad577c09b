-- The history of a run is a graph without a fault.
use Rattle.std.proofs.Common.{◌≡◌, ℕ, zero, suc, ◌-◌, ◌<◌, ◌≤◌, Bool, true, false, List, [], length, refl, sym, ap, ◌∙◌, inl, inr, subst, arith}
use Rattle.std.specs.Prelude.{Contains}
use Rattle.std.proofs.lemmas.Bool.{cases_lt, cases_eq, cases_Bool}
use Rattle.flow_model.specs.First.{IsFirst}
use Rattle.py_heap.specs.declared.state.State.{State}
use Rattle.py_machine.specs.Runs.{Name}
use Rattle.py_laws.proofs.Partners.{none_in, one_in, first_in}
use Rattle.graph_model.specs.declared.graph.Version.{Version}
use Rattle.graph_model.specs.declared.graph.Graph.{Graph}
use Rattle.graph_model.specs.Graphs.{VersionAt}
use Rattle.graph_model.specs.Faults.{IsNextWith, HasBadNames, HasBadWriter, IsTwoActive, HasBadRead, Never, IsGraph}
use Rattle.graph_model.proofs.Lookups.{same_version}
use Rattle.linked_parts.specs.Parts.{HasValue, HasNone}
use Rattle.run_graph.specs.Histories.{Run, Binds, HoldsAfter, Rewrites, IsHistory}
use Rattle.run_graph.specs.Soundness.{IsRun, HasNames, AreTheParts}
use Rattle.run_graph.proofs.Lists.{is_bound}
use Rattle.run_graph.proofs.Reached.{has_value, not_both}
use Rattle.run_graph.proofs.Kept.{in_part_value, same_part, value_before, spares_of, kept_not_written}
use Rattle.run_graph.proofs.Holding.{left_cases, writer_within, left_deleted, ascending, comes_before, not_before, one_of_writer, the_parts}

not_false : (b : Bool) → b ≡ true → ¬ (b ≡ false)
not_false b h k = cc

-- a name that has a value was bound by a cell
pub value_bound : (r : Run) → IsRun r → (c : ℕ) (name : Name) → HasValue (r.state c) name → (e : ℕ) × (e < c) × Binds r e name
value_bound r run zero name value = absurd (not_both (r.state 0) name value (run.begins name))
value_bound r run (suc c) name value = elim (is_bound r c name) [
  | inl now ↦ (c, omega arith, now)
  | inr not_now ↦
      let w = value_bound r run c name (value.0, sym (run.values c name not_now) ∙ value.1) in
      (w.0, let m = w.1 in omega (arith, m), w.2)
]

module _ (r : Run) (run : IsRun r) (g : Graph) (h : IsHistory r g) where
  pub named_bound : (v : ℕ) (x : Version) → VersionAt g v x → (name : Name) → Contains x.names name → (e : ℕ) × (e < x.writer) × Binds r e name
  named_bound v x at name p =
      let w = h.versions v x at in
      let f = w.1 in
      elim w.3 [
        | inl a ↦ let k = value_bound r run (suc w.0) name (in_part_value (r.state (suc w.0)) x.names a.1 name p) in (k.0, let m = k.1 in omega (arith, m, f), k.2)
        | inr a ↦ (w.0, omega (arith, f), subst (λ n. Binds r w.0 n) (one_in a.1 name (subst (λ ns. Contains ns name) a.2 p)) a.3.0)
      ]

  some_name : (v : ℕ) (x : Version) → VersionAt g v x → (name : Name) × Contains x.names name
  some_name v x at =
      let w = h.versions v x at in
      elim w.3 [ inl a ↦ a.1.some | inr a ↦ (a.1, subst (λ ns. Contains ns a.1) (sym a.2) (first_in a.1 [])) ]

  good_names : HasNames r → Never (HasBadNames g)
  good_names names v (x, at, inl e) = let w = some_name v x at in none_in w.0 (subst (λ ns. Contains ns w.0) e w.1)
  good_names names v (x, at, inr (inl bad)) = bad (ascending r run g h v x at)
  good_names names v (x, at, inr (inr (inl w))) = let b = named_bound v x at w.0 w.1 in not_false _ (names.bound b.0 w.0 b.2) w.2
  good_names names v (x, at, inr (inr (inr w))) =
      let k = h.versions v x at in
      let d = left_deleted r run g h v x at k.0 k.1 w.0 in
      let one : length x.names ≡ 1 = ap (λ (ns : List Name). length ns) d.1 in
      let two = w.1 in
      let no : ⊥ = omega (arith, one, two) in
      no

  good_writers : Never (HasBadWriter g)
  good_writers v (x, at, inl (inl e)) = let w = (writer_within r run g h v x at).0 in let no : ⊥ = omega (arith, e, w) in no
  good_writers v (x, at, inl (inr (inl l))) =
      let w = (writer_within r run g h v x at).1 in
      let n = h.cells in
      let no : ⊥ = omega (arith, l, w, n) in
      no
  good_writers v (x, at, inr w) =
      let p = w.1.0 in
      let e : v ≡ suc (v - 1) = omega (arith, p) in
      w.2 (h.order (v - 1) w.0 x w.1 (subst (λ n. VersionAt g n x) e at))
  good_writers v (x, at, inl (inr (inr w))) = elim (h.replaced v x at) [
    | inl a ↦ w.0 a.0
    | inr f ↦
        let less = f.0.0 in
        let same = f.0.5 in
        let within = (writer_within r run g h f.0.1 f.0.2 f.0.4).1 in
        let n = h.cells in
        elim w.1 [
          | inl l ↦ let no : ⊥ = omega (arith, l, less) in no
          | inr l ↦ let no : ⊥ = omega (arith, l, within, same, n) in no
        ]
  ]

  -- ---- a cell that writes one name of a version writes all of its names

  module _ (v : ℕ) (x : Version) (at : VersionAt g v x) (f : IsFirst (Rewrites g x) x.replaced) where
    abbrev Again : ℕ → Name → Type 0
    Again n name = (u : ℕ) × (y : Version) × VersionAt g u y × (y.writer ≡ n) × Contains y.names name

    whole_at : (c : ℕ) → c < r.cells → x.replaced ≡ suc c → (name : Name) → Contains x.names name → Again (suc c) name
    whole_at c l e name p =
        let inv : AreTheParts r g c = the_parts r run g h c (omega (arith, l)) in
        let less = f.0.0 in
        let k : HoldsAfter g c v x = record { at = at; written = omega (arith, less, e); stands = inr (omega (arith, e)) } in
        let y : Version = f.0.2 in
        let z : Name = f.0.3 in
        let left = left_cases r run g h f.0.1 y f.0.4 c (f.0.5 ∙ e) in
        let Before : State = r.state c in
        let After : State = r.state (suc c) in
        elim (has_value After name) [
          | inl value ↦ let w = h.parts c name l value in elim w.3 [
            | inr a ↦ (a.0, a.1, a.2, a.3, subst (λ ns. Contains ns name) (sym a.4) w.1)
            | inl kept ↦ elim (cases_Bool x.absent) [
              | inl gone ↦
                  let d = inv.are_deleted v x k gone in
                  let none : HasNone Before name = subst (HasNone Before) (one_in d.0 name (subst (λ ns. Contains ns name) d.1 p)) d.2 in
                  absurd (not_both Before name (value_before r c (spares_of r run c) w.0 kept name w.1 value) none)
              | inr there ↦
                  let q : Contains w.0 z = same_part Before x.names w.0 (inv.are_parts v x k there) kept.before name p w.1 z f.0.6 in
                  elim left [
                    | inl b ↦ absurd (kept_not_written r c w.0 y.names kept w.2 b.1 z q f.0.7 b.2)
                    | inr b ↦ absurd (not_both After z (in_part_value After w.0 w.2 z q) (subst (HasNone After) (one_in b.1 z (subst (λ ns. Contains ns z) b.2 f.0.7)) b.3.1))
                  ]
            ]
          ]
          | inr none ↦ elim (is_bound r c name) [
            | inl now ↦ let a = h.deleted c name l (now, none) in (a.0, a.1, a.2, a.3, subst (λ ns. Contains ns name) (sym a.4) (first_in name []))
            | inr not_now ↦
                let before : HasNone Before name = sym (run.values c name not_now) ∙ none in
                elim (cases_Bool x.absent) [
                  | inr there ↦ absurd (not_both Before name (in_part_value Before x.names (inv.are_parts v x k there) name p) before)
                  | inl gone ↦
                      let d = inv.are_deleted v x k gone in
                      let same : name ≡ z = sym (one_in d.0 name (subst (λ ns. Contains ns name) d.1 p)) ∙ one_in d.0 z (subst (λ ns. Contains ns z) d.1 f.0.6) in
                      elim left [
                        | inl b ↦ absurd (not_both After z (in_part_value After y.names b.1 z f.0.7) (subst (HasNone After) same none))
                        | inr b ↦ absurd (not_now (subst (λ m. Binds r c m) (one_in b.1 z (subst (λ ns. Contains ns z) b.2 f.0.7) ∙ sym same) b.3.0))
                      ]
                ]
          ]
        ]

    pub whole : (name : Name) → Contains x.names name → Again x.replaced name
    whole name p =
        let w = h.versions f.0.1 f.0.2 f.0.4 in
        let e : x.replaced ≡ suc w.0 = sym f.0.5 ∙ w.1 in
        subst (λ n. Again n name) (sym e) (whole_at w.0 w.2 e name p)

  writers_go_on : (u v : ℕ) (x y : Version) → VersionAt g u x → VersionAt g v y → u < v → x.writer ≤ y.writer
  writers_go_on u v x y at bt l = elim (comes_before r run g h (v - u - 1) u v x y (omega (arith, l)) at bt) [
    | inl less ↦ omega (arith, less)
    | inr same ↦ let e = same.0 in omega (arith, e)
  ]

  good_next : (v : ℕ) (x : Version) → VersionAt g v x → (name : Name) (u : ℕ) (y : Version) → Contains x.names name
      → IsNextWith g v name u → VersionAt g u y → y.writer ≡ x.replaced
  good_next v x at name u y p next bt =
      let q : Contains y.names name = subst (λ (z : Version). Contains z.names name) (same_version g u _ y next.0.1.1 bt) next.0.1.2 in
      let after : v < u = next.0.0 in
      let le : x.writer ≤ y.writer = writers_go_on v u x y at bt after in
      let later : x.writer < y.writer = elim (cases_eq x.writer y.writer) [
        | inl e ↦ absurd (not_before r run g h v u x y after at bt e name p q)
        | inr other ↦ omega (arith, le, other)
      ] in
      let again : Rewrites g x y.writer = (later, u, y, name, bt, refl, p, q) in
      elim (h.replaced v x at) [
        | inl a ↦ absurd (a.1 y.writer again)
        | inr f ↦
            let first = f.0.0 in
            let least : x.replaced ≤ y.writer = elim (cases_lt y.writer x.replaced) [ inl l ↦ absurd (f.1 y.writer l again) | inr l ↦ l ] in
            let w = whole v x at f name p in
            let z : Version = w.1 in
            let e : z.writer ≡ x.replaced = w.3 in
            let place : v < w.0 = elim (cases_lt v w.0) [
              | inl l ↦ l
              | inr l ↦ elim (cases_eq v w.0) [
                | inl same ↦
                    let d : x ≡ z = same_version g v x z at (subst (λ n. VersionAt g n z) (sym same) w.2) in
                    let d_writer : x.writer ≡ z.writer = ap (λ (m : Version). m.writer) d in
                    let no : ⊥ = omega (arith, d_writer, e, first) in absurd no
                | inr other ↦
                    let back = writers_go_on w.0 v z x w.2 at (omega (arith, l, other)) in
                    let no : ⊥ = omega (arith, back, e, first) in absurd no
              ]
            ] in
            let most : y.writer ≤ x.replaced = elim (cases_lt w.0 u) [
              | inl l ↦ absurd (next.1 w.0 l (place, (z, w.2, w.4)))
              | inr l ↦ elim (cases_eq u w.0) [
                | inl same ↦
                    let d : y ≡ z = same_version g u y z bt (subst (λ n. VersionAt g n z) (sym same) w.2) in
                    let d_writer : y.writer ≡ z.writer = ap (λ (m : Version). m.writer) d in
                    omega (arith, d_writer, e)
                | inr other ↦ let on = writers_go_on u w.0 y z bt w.2 (omega (arith, l, other)) in omega (arith, on, e)
              ]
            ] in
            omega (arith, least, most)
      ]

  good_replacements : Never (IsTwoActive g)
  good_replacements v (x, at, inl (name, u, y, p, next, bt, bad)) = bad (good_next v x at name u y p next bt)
  good_replacements v (x, at, inr (inl (some, name, p, none))) = elim (h.replaced v x at) [
    | inl a ↦ some a.0
    | inr f ↦ let w = whole v x at f name p in none w.0 w.1 w.2 w.3 w.4
  ]
  good_replacements v (x, at, inr (inr (name, u, y, other, p, bt, e, q))) = other (one_of_writer r run g h u v y x bt at e name q p)

  good_record : HasNames r → (c : ℕ) → ¬ HasBadRead g (suc c)
  good_record names c (x, at, inl (inl bad)) = bad (h.records c x at).reads_ascend
  good_record names c (x, at, inl (inr (v, p, inl none))) = let w = ((h.records c x at).reads v).0 p in none w.0 w.1.at
  good_record names c (x, at, inl (inr (v, p, inr (y, bt, w)))) =
      let k = ((h.records c x at).reads v).0 p in
      let same : k.0 ≡ y = same_version g v k.0 y k.1.at bt in
      let held : HoldsAfter g c v y = subst (HoldsAfter g c v) same k.1 in
      let m = held.written in
      elim w [
        | inl l ↦ let no : ⊥ = omega (arith, l, m) in no
        | inr l ↦ elim held.stands [ inl z ↦ l.0 z | inr later ↦ let d = l.1 in let no : ⊥ = omega (arith, d, later) in no ]
      ]
  good_record names c (x, at, inr (inl bad)) = bad (h.records c x at).missing_ascends
  good_record names c (x, at, inr (inr (inl (name, p, bad)))) = not_false _ (names.looked c name (((h.records c x at).missing name).0 p).0) bad
  good_record names c (x, at, inr (inr (inr (name, p, (v, y, bt, q, l))))) =
      let b = named_bound v y bt name q in
      let m = b.1 in
      (((h.records c x at).missing name).0 p).1 b.0 (omega (arith, m, l)) b.2

  good_reads : HasNames r → Never (HasBadRead g)
  good_reads names n w =
      let p = w.1.0 in
      let e : n ≡ suc (n - 1) = omega (arith, p) in
      good_record names (n - 1) (subst (HasBadRead g) e w)

  pub checks : HasNames r → r.cells < 4294967296 → length g.versions < 4294967296 → IsGraph g
  checks names few fewer = record {
    cells = let e = h.cells in omega (arith, few, e);
    versions = fewer;
    names = good_names names;
    writers = good_writers;
    replacements = good_replacements;
    reads = good_reads names;
  }
