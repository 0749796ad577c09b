use Rattle.std.proofs.Common.{ℕ, ◌+◌, ◌<◌, ◌≤◌, List, [], ◌∷◌, ◌++◌, length, get_or, take, sym, ◌∙◌, subst, arith}
use Rattle.std.proofs.lemmas.Bool.{iff_false}
use Rattle.std.proofs.lemmas.List.{get_or_default}
use Rattle.history_graph.specs.Active.{AreThose}
use Rattle.history_graph.specs.Sets.{HasOneOf}
use Rattle.history_graph.specs.Grown.{HasFresh}
use Rattle.history_graph.proofs.Listing.{those_none, those_all, holds_at}
use Rattle.history_graph.proofs.Aging.{Stays, one_goes, one_stays}
use Rattle.history_graph.proofs.growth.turnover_of.Goals as goal
use Rattle.history_graph.proofs.growth.turnover_of.Goals.{then-has_one_of+in_ok-push, else-has_one_of+in_ok-push-2}

pub loop-v-init : goal.loop-v-init
loop-v-init c =
    let g = c.args.graph.now in
    let fresh = c.args.fresh.now in (
      subst (λ (found : List ℕ). AreThose (Stays g fresh) [] found) (sym c.new-stay.ensures) (those_none (Stays g fresh)),
      subst (λ (found : List ℕ). AreThose (HasFresh g fresh) [] found) (sym c.new-go.ensures) (those_none (HasFresh g fresh)),
    )

pub active_version-version-requires : goal.active_version-version-requires
active_version-version-requires c =
    let active = c.args.active.now in
    let i = c.loop-v.v-index in
    let v = get_or active i 0 in
    holds_at c.args.graph.now active i v c.requires c.loop-v-test.true (get_or_default active i 0 v c.loop-v-test.true)

pub loop-v-preserved : goal.loop-v-preserved
loop-v-preserved c =
    let g = c.args.graph.now in
    let fresh = c.args.fresh.now in
    let active = c.args.active.now in
    let i = c.loop-v.v-index in
    let v = get_or active i 0 in
    let l : i < length active = c.loop-v-test.true in
    let x = c.active_version-version.result.now in
    let P : List ℕ → List ℕ → Type 0 = λ s t. AreThose (Stays g fresh) (take (i + 1) active) s × AreThose (HasFresh g fresh) (take (i + 1) active) t in
    elim c.if-has_one_of.branch [
      | then-has_one_of+in_ok-push w ↦
          let has : HasOneOf fresh x.names = subst (λ (ns : List (List ℕ)). HasOneOf fresh ns) c.as_slice.ensures (c.has_one_of.ensures.0 w.if-has_one_of.true) in
          subst (λ (s : List ℕ). P s c.if-has_one_of.go) (sym w.stay-is)
          (subst (λ (t : List ℕ). P c.loop-v.stay t) (sym (w.go-is ∙ w.in_ok-push.ensures.ok))
          (one_goes g fresh active i v c.requires.ascends l (get_or_default active i 0 v l) x c.active_version-version.ensures.0 c.loop-v.stay c.loop-v.go c.loop-v.invariant has))
      | else-has_one_of+in_ok-push-2 w ↦
          let has : ¬ HasOneOf fresh x.names =
          subst (λ (ns : List (List ℕ)). ¬ HasOneOf fresh ns) c.as_slice.ensures (iff_false c.has_one_of.ensures w.if-has_one_of.false) in
          subst (λ (s : List ℕ). P s c.if-has_one_of.go) (sym (w.stay-is ∙ w.in_ok-push-2.ensures.ok))
          (subst (λ (t : List ℕ). P (c.loop-v.stay ++ v ∷ []) t) (sym w.go-is)
          (one_stays g fresh active i v c.requires.ascends l (get_or_default active i 0 v l) x c.active_version-version.ensures.0 c.loop-v.stay c.loop-v.go c.loop-v.invariant has))
    ]

pub returns-clause-stay : goal.returns-clause-stay
returns-clause-stay c =
    let l : length c.args.active.now ≤ c.loop-v.v-index = omega arith in
    those_all (Stays c.args.graph.now c.args.fresh.now) c.args.active.now c.loop-v.v-index c.loop-v.stay l c.loop-v.invariant.0

pub returns-clause-go : goal.returns-clause-go
returns-clause-go c =
    let l : length c.args.active.now ≤ c.loop-v.v-index = omega arith in
    those_all (HasFresh c.args.graph.now c.args.fresh.now) c.args.active.now c.loop-v.v-index c.loop-v.go l c.loop-v.invariant.1
