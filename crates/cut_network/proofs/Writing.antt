-- The writers of the replaced versions among some.
use Rattle.std.proofs.Common.{◌≡◌, ℕ, ◌+◌, ◌<◌, ◌≤◌, ◌↔◌, List, [], ◌∷◌, ◌++◌, length, get_or, sym, ◌∙◌, subst, inl, inr, arith}
use Rattle.std.specs.Prelude.{Contains}
use Rattle.std.proofs.lemmas.Bool.{cases_lt}
use Rattle.std.proofs.lemmas.List.{get_or_default}
use Rattle.std.proofs.lemmas.List.Elements.{Contains-push, Contains-push_cases, Contains-append_left, Contains-get_or}
use Rattle.graph_model.specs.declared.graph.Graph.{Graph}
use Rattle.graph_model.specs.declared.graph.CellRecord.{CellRecord}
use Rattle.graph_model.specs.Graphs.{CellAt}
use Rattle.graph_model.specs.Faults.{IsGraph}
use Rattle.graph_model.specs.Marks.{WroteOld, WroteOldOf}
use Rattle.graph_model.specs.Networks.{old_writers, cell_numbers}
use Rattle.graph_model.proofs.Needing.{same_old_writer}
use Rattle.graph_model.proofs.Lookups.{of_cell}
use Rattle.plan_model.proofs.Ascents.{Rises}
use Rattle.plan_model.proofs.Listing.{filter-rises, count_up-rises}
use Rattle.plan_model.proofs.Reading.{old_writers-from, old_writers-has}
use Rattle.cut_network.proofs.Rising.{rising_unique}

-- `writers` wrote a replaced version among the first i
pub record WritersSo (g : Graph) (reads writers : List ℕ) (i : ℕ) : Type 0 where
  pub sound : (w : ℕ) → Contains writers w → (k : ℕ) × (k < i) × WroteOld g (get_or reads k 0) w
  pub whole : (k w : ℕ) → k < i → WroteOld g (get_or reads k 0) w → Contains writers w

pub writers_more : (g : Graph) (reads writers : List ℕ) (i u : ℕ) → WritersSo g reads writers i → WroteOld g (get_or reads i 0) u → WritersSo g reads (writers ++ u ∷ []) (i + 1)
writers_more g reads writers i u s o = record {
  sound = λ w c. elim (Contains-push_cases writers u w c) [
    | inl d ↦ let p = s.sound w d in let l : p.0 < i = p.1 in (p.0, omega arith, p.2)
    | inr e ↦ let P : ℕ → Type 0 = λ n. WroteOld g (get_or reads i 0) n in (i, omega arith, subst P e o)
  ];
  whole = λ k w l p. elim (cases_lt k i) [
    | inl b ↦ Contains-append_left writers (u ∷ []) w (s.whole k w b p)
    | inr b ↦
        let same : k ≡ i = omega arith in
        let P : ℕ → Type 0 = λ n. WroteOld g (get_or reads n 0) w in
        let Q : ℕ → Type 0 = λ n. Contains (writers ++ u ∷ []) n in
        subst Q (same_old_writer g (get_or reads i 0) u w o (subst P same p)) (Contains-push writers u)
  ];
}

pub writers_same : (g : Graph) (reads writers : List ℕ) (i : ℕ) → WritersSo g reads writers i → ((w : ℕ) → WroteOld g (get_or reads i 0) w → ⊥) → WritersSo g reads writers (i + 1)
writers_same g reads writers i s n = record {
  sound = λ w c. let p = s.sound w c in let l : p.0 < i = p.1 in (p.0, omega arith, p.2);
  whole = λ k w l p. elim (cases_lt k i) [
    | inl b ↦ s.whole k w b p
    | inr b ↦
        let same : k ≡ i = omega arith in
        let P : ℕ → Type 0 = λ j. WroteOld g (get_or reads j 0) w in
        absurd (n w (subst P same p))
  ];
}

pub writers_all : (g : Graph) (reads writers : List ℕ) (i : ℕ) → length reads ≤ i → i ≤ length reads → WritersSo g reads writers i → (w : ℕ) → Contains writers w ↔ WroteOldOf g reads w
writers_all g reads writers i low high s w = (
  (λ h. let p = s.sound w h in let l : p.0 < i = p.1 in (get_or reads p.0 0, Contains-get_or reads p.0 0 (omega arith), p.2)),
  (λ h.
      let c = h.1 in
      let l : c.0 < length reads = c.1 in
      let e = get_or_default reads c.0 0 h.0 l ∙ c.2 in
      let P : ℕ → Type 0 = λ n. WroteOld g n w in
      s.whole c.0 w (omega arith) (subst P (sym e) h.2)),
)

-- the writers of what a cell read, ascending, are the old writers
pub old_writers_are : (g : Graph) → IsGraph g → (c : ℕ) (x : CellRecord) (writers sorted : List ℕ) → CellAt g c x → ((w : ℕ) → Contains writers w ↔ WroteOldOf g x.reads w)
    → Rises sorted → ((w : ℕ) → Contains sorted w ↔ Contains writers w) → sorted ≡ old_writers g c
old_writers_are g is c x writers sorted at h r m =
    rising_unique sorted (old_writers g c) r (filter-rises _ (cell_numbers g) (count_up-rises 1 (length g.cells)))
    (λ w k. let o = (h w).0 ((m w).0 k) in old_writers-has g is c w (x, o.0, o.2.0, at, o.1, o.2.1, o.2.2, o.2.3))
    (λ w k.
    let o = (old_writers-from g is c w x at k).1 in
    let P : CellRecord → Type 0 = λ y. WroteOldOf g y.reads w in
    let v = o.1 in
    (m w).1 ((h w).1 (of_cell P g c x o.0 at o.3 (v, o.4, (o.2, o.5, o.6, o.7)))))
