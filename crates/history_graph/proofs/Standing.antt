-- Graphs with their cells: histories, and graphs without a fault.
use Rattle.std.proofs.Common.{◌≡◌, ◌≢◌, ℕ, zero, suc, ◌+◌, ◌-◌, ◌<◌, ◌≤◌, List, [], ◌∷◌, length, Some, refl, sym, ap, ◌∙◌, ◌⊎◌, inl, inr, subst, arith}
use Rattle.std.specs.Prelude.{Contains, slice_get}
use Rattle.std.proofs.lemmas.Bool.{cases_eq, cases_lt}
use Rattle.std.proofs.lemmas.Option.{none-some}
use Rattle.py_machine.specs.Runs.{Name}
use Rattle.graph_model.specs.declared.graph.Version.{Version}
use Rattle.graph_model.specs.declared.graph.Graph.{Graph}
use Rattle.graph_model.specs.Graphs.{VersionAt}
use Rattle.graph_model.specs.Faults.{IsGraph}
use Rattle.run_graph.specs.Histories.{Run, HoldsAfter, IsHistory}
use Rattle.run_graph.specs.Soundness.{IsRun, AreTheParts}
use Rattle.run_graph.specs.Growing.{first_cells}
use Rattle.run_graph.proofs.Lists.{has_name}
use Rattle.run_graph.proofs.Reached.{has_value}
use Rattle.run_graph.proofs.Checking.{named_bound}
use Rattle.run_graph.proofs.Holding.{writer_within, the_parts}
use Rattle.history_graph.specs.Touched.{IsHeld}
use Rattle.history_graph.specs.Ends.{HasCells}

-- ---- histories

module _ (r : Run) (c : ℕ) (g : Graph) (run : IsRun r) (h : IsHistory (first_cells r c) g) where
  abbrev First : Run
  First = first_cells r c

  first_run : IsRun First
  first_run = record { begins = run.begins; closed = run.closed; values = run.values; objects = run.objects }

  parts : AreTheParts First g c
  parts = the_parts First first_run g h c (omega arith)

  written : (v : ℕ) (x : Version) → VersionAt g v x → x.writer ≤ c
  written v x at = (writer_within First first_run g h v x at).1

  replaced : (v : ℕ) (x : Version) → VersionAt g v x → x.replaced ≤ c
  replaced v x at = elim (h.replaced v x at) [
    | inl a ↦ let e = a.0 in omega (arith, e)
    | inr f ↦
        let w = f.0 in
        let l = written w.1 w.2 w.4 in
        let e = w.5 in
        omega (arith, l, e)
  ]

  stands : (v : ℕ) (x : Version) (name : Name) → HoldsAfter g c v x → Contains x.names name → IsHeld g name
  stands v x name k p = (
    v,
    x,
    (k.at, elim k.stands [ inl e ↦ e | inr l ↦ absurd (let m = replaced v x k.at in omega (arith, l, m)) ]),
    p,
  )

  pub history_has_cells : HasCells c g
  history_has_cells = record {
    cells = h.cells;
    writers = written;
    replaced = replaced;
    held = λ v x name at p.
        let b = named_bound First first_run g h v x at name p in
        let l : b.0 < c = (let m = b.1 in let w = written v x at in omega (arith, m, w)) in
        elim (has_value (r.state c) name) [
          | inl value ↦ let a = parts.all_parts name value in stands a.0 a.1 name a.2 a.4
          | inr none ↦ let a = parts.all_deleted name b.0 l b.2 none in stands a.0 a.1 name a.2 a.4
        ];
  }

-- ---- graphs without a fault

abbrev Found : List Version → ℕ → Name → Type 0
Found xs w name = (i : ℕ) × (y : Version) × (slice_get xs i ≡ Some y) × (y.writer ≡ w) × Contains y.names name

-- a version of this writer with the name, or none
look : (xs : List Version) (w : ℕ) (name : Name) → Found xs w name ⊎ (Found xs w name → ⊥)
look [] w name = inr (λ f. none-some f.1 f.2)
look (x ∷ xs) w name = elim (look xs w name) [
  | inl f ↦ inl (suc f.0, f.1, f.2, f.3, f.4)
  | inr none ↦ elim (cases_eq x.writer w) [
    | inl e ↦ elim (has_name x.names name) [
      | inl p ↦ inl (0, x, refl, e, p)
      | inr n ↦ inr (not_here none (λ y f q. n (subst (λ (z : Version). Contains z.names name) (sym f) q)))
    ]
    | inr n ↦ inr (not_writer none n)
  ]
]
  where
    not_here : (Found xs w name → ⊥) → ((y : Version) → x ≡ y → ¬ Contains y.names name) → Found (x ∷ xs) w name → ⊥
    not_here none n (zero, y, e, f, p) = n y (let i : x ≡ y = cc in i) p
    not_here none n (suc i, y, e, f, p) = none (i, y, e, f, p)

    not_writer : (Found xs w name → ⊥) → (x.writer ≡ w → ⊥) → Found (x ∷ xs) w name → ⊥
    not_writer none n (zero, y, e, f, p) = n (ap (λ (z : Version). z.writer) (let i : x ≡ y = cc in i) ∙ f)
    not_writer none n (suc i, y, e, f, p) = none (i, y, e, f, p)

module _ (g : Graph) (good : IsGraph g) where
  writer_most : (v : ℕ) (x : Version) → VersionAt g v x → x.writer ≤ length g.cells
  writer_most v x at = elim (cases_lt (length g.cells) x.writer) [
    | inl l ↦ absurd (good.writers v (x, at, inl (inr (inl l))))
    | inr l ↦ l
  ]

  replaced_most : (v : ℕ) (x : Version) → VersionAt g v x → x.replaced ≤ length g.cells
  replaced_most v x at = elim (cases_eq x.replaced 0) [
    | inl e ↦ omega (arith, e)
    | inr n ↦ elim (cases_lt (length g.cells) x.replaced) [
      | inl l ↦ absurd (good.writers v (x, at, inl (inr (inr (n, inr l)))))
      | inr l ↦ l
    ]
  ]

  later : (v : ℕ) (x : Version) → VersionAt g v x → x.replaced ≢ 0 → x.writer < x.replaced
  later v x at n = elim (cases_lt x.writer x.replaced) [
    | inl l ↦ l
    | inr l ↦ absurd (good.writers v (x, at, inl (inr (inr (n, inl l)))))
  ]

  held_by : (fuel : ℕ) (v : ℕ) (x : Version) (name : Name) → length g.cells < fuel + x.writer → VersionAt g v x → Contains x.names name → IsHeld g name
  held_by zero v x name l at p = absurd (let m = writer_most v x at in omega (arith, l, m))
  held_by (suc fuel) v x name l at p = elim (cases_eq x.replaced 0) [
    | inl e ↦ (v, x, (at, e), p)
    | inr n ↦ elim (look g.versions x.replaced name) [
      | inl f ↦
          let m = later v x at n in
          let w = f.3 in
          held_by fuel (f.0 + 1) f.1 name (omega (arith, l, m, w)) (omega arith, subst (λ i. slice_get g.versions i ≡ Some f.1) (let e : f.0 ≡ f.0 + 1 - 1 = omega arith in e) f.2) f.4
      | inr none ↦ absurd (good.replacements v (x, at, inr (inl (n, name, p, λ u y bt e q. none (u - 1, y, bt.1, e, q)))))
    ]
  ]

  pub graph_has_cells : HasCells (length g.cells) g
  graph_has_cells = record {
    cells = refl;
    writers = writer_most;
    replaced = replaced_most;
    held = λ v x name at p. held_by (length g.cells + 1) v x name (omega arith) at p;
  }
