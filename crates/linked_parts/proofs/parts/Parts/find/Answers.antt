use Rattle.std.proofs.Common.{ℕ, ◌<◌, length, refl, sym, inl, inr, subst, arith}
use Rattle.std.proofs.lemmas.Bool.{cases_eq, iff_false}
use Rattle.std.proofs.lemmas.Option.{none-some, slice_get_within}
use Rattle.linked_parts.specs.Parts.{HasNameAt}
use Rattle.linked_parts.proofs.parts.Parts.find.Goals as goal

pub returns-then-has_name-clause-found : goal.returns-then-has_name-clause-found
returns-then-has_name-clause-found c = (c.names_at.ensures c.args.name.now).1 (c.has_name.ensures.0 c.if-has_name.true)

pub returns-then-has_name-clause-none : goal.returns-then-has_name-clause-none
returns-then-has_name-clause-none c = (
  (λ e. absurd (none-some c.loop-index.index (sym e))),
  (λ f. absurd (f c.loop-index.index ((c.names_at.ensures c.args.name.now).1 (c.has_name.ensures.0 c.if-has_name.true)))),
)

pub loop-index-preserved : goal.loop-index-preserved
loop-index-preserved c = λ m l h. elim (cases_eq m c.loop-index.index) [
  | inl same ↦ iff_false c.has_name.ensures c.if-has_name.false
      ((c.names_at.ensures c.args.name.now).0 (subst (λ (n : ℕ). HasNameAt c.args.self.now n c.args.name.now) same h))
  | inr other ↦ c.loop-index.invariant m (omega arith) h
]

pub returns-clause-none : goal.returns-clause-none
returns-clause-none c = (
  (λ e n h.
      let l : n < length c.args.self.now.list = slice_get_within c.args.self.now.list n h.0 h.1 in
      c.loop-index.invariant n (omega arith) h),
  (λ f. refl),
)
