use Rattle.std.proofs.Common.{ℕ, List, inl, inr, sym, subst}
use Rattle.std.proofs.lemmas.Bool.{false≢true}
use Rattle.graph_model.specs.Faults.{HasWrongReads, HasWrongMisses}
use Rattle.graph_model.proofs.graph.Graph.record_is_bad.Goals as goal

pub returns-then-has_wrong_reads : goal.returns-then-has_wrong_reads
returns-then-has_wrong_reads c =
    let P : List ℕ → Type 0 = HasWrongReads c.args.self.now c.args.c in
    (λ t. inl (subst P c.as_slice.ensures (c.has_wrong_reads.ensures.0 t)), λ h. c.if-has_wrong_reads.true)

pub returns-else-has_wrong_reads : goal.returns-else-has_wrong_reads
returns-else-has_wrong_reads c =
    let P : List ℕ → Type 0 = HasWrongReads c.args.self.now c.args.c in
    let Q : List (List ℕ) → Type 0 = HasWrongMisses c.args.self.now c.args.c in (
      λ t. inr (subst Q c.as_slice-else-has_wrong_reads.ensures (c.has_wrong_misses.ensures.0 t)),
      λ h. elim h [
        | inl r ↦ absurd (false≢true (c.if-has_wrong_reads.ensures.1 (subst P (sym c.as_slice.ensures) r)))
        | inr m ↦ c.has_wrong_misses.ensures.1 (subst Q (sym c.as_slice-else-has_wrong_reads.ensures) m)
      ],
    )
