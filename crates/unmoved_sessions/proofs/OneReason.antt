-- There is one reason why a session doesn't move, and none if it may move.
use Rattle.std.proofs.Common.{◌≡◌, ◌≢◌, ℕ, ◌<◌, ◌≤◌, ◌-◌, true, false, List, Option, Some, refl, sym, ap, ◌∙◌, subst, inl, inr, arith}
use Rattle.std.specs.Prelude.{slice_get}
use Rattle.std.proofs.lemmas.Bool.{cases_lt}
use Rattle.std.proofs.lemmas.Option.{same_Some}
use Rattle.graph_model.specs.declared.graph.Graph.{Graph}
use Rattle.graph_model.specs.declared.graph.Version.{Version}
use Rattle.graph_model.specs.declared.plan.Weights.{Weights}
use Rattle.graph_model.specs.Graphs.{VersionAt, IsStuck, IsFirstStuck}
use Rattle.graph_model.specs.Plans.{AreAdmitted}
use Rattle.plan_model.specs.declared.weights.Weight.{Weight}
use Rattle.plan_model.specs.declared.weights.Weight.TheVariants.{CopyBase, PerByte, RunBase, PerStep}
use Rattle.plan_model.specs.declared.weights.WeightFault.{WeightFault}
use Rattle.plan_model.specs.declared.weights.WeightFault.TheVariants.{Over, TooMuch}
use Rattle.plan_model.specs.Weighing.{IsFirstOver, AreSmall, IsWeightFault}
use Rattle.session_core.specs.declared.entry.MoveRefusal.{MoveRefusal}
use Rattle.session_core.specs.declared.entry.MoveRefusal.TheVariants.{Stuck, SameHost, UnknownHost, BadWeights, DeadKernel}
use Rattle.session_core.specs.Meanings.{Meaning}
use Rattle.session_core.specs.Legal.{Progress, IsReason, MayGo}
use Rattle.unmoved_sessions.proofs.OneWay.{IsOneWay}

-- ---- weights

small_not_over : (w : Weights) (a : Weight) → AreSmall w → IsFirstOver w a → ⊥
small_not_over w CopyBase small over = let most = small.copy_base in omega (arith, most, over)
small_not_over w PerByte small over = let most = small.per_byte in omega (arith, most, over.1)
small_not_over w RunBase small over = let most = small.run_base in omega (arith, most, over.2)
small_not_over w PerStep small over = let most = small.per_step in omega (arith, most, over.3)

one_over : (w : Weights) (a b : Weight) → IsFirstOver w a → IsFirstOver w b → a ≡ b
one_over w CopyBase CopyBase one two = refl
one_over w CopyBase PerByte one two = absurd (omega (arith, one, two.0))
one_over w CopyBase RunBase one two = absurd (omega (arith, one, two.0))
one_over w CopyBase PerStep one two = absurd (omega (arith, one, two.0))
one_over w PerByte CopyBase one two = absurd (omega (arith, one.0, two))
one_over w PerByte PerByte one two = refl
one_over w PerByte RunBase one two = absurd (omega (arith, one.1, two.1))
one_over w PerByte PerStep one two = absurd (omega (arith, one.1, two.1))
one_over w RunBase CopyBase one two = absurd (omega (arith, one.0, two))
one_over w RunBase PerByte one two = absurd (omega (arith, one.1, two.1))
one_over w RunBase RunBase one two = refl
one_over w RunBase PerStep one two = absurd (omega (arith, one.2, two.2))
one_over w PerStep CopyBase one two = absurd (omega (arith, one.0, two))
one_over w PerStep PerByte one two = absurd (omega (arith, one.1, two.1))
one_over w PerStep RunBase one two = absurd (omega (arith, one.2, two.2))
one_over w PerStep PerStep one two = refl

one_weight_fault : (g : Graph) (w : Weights) (a b : WeightFault) → IsWeightFault g w a → IsWeightFault g w b → a ≡ b
one_weight_fault g w (Over a) (Over b) one two = ap Over (one_over w a b one two)
one_weight_fault g w (Over a) (TooMuch sum) one two = absurd (small_not_over w a two.0 one)
one_weight_fault g w (TooMuch sum) (Over b) one two = absurd (small_not_over w b one.0 two)
one_weight_fault g w (TooMuch sum) (TooMuch other) one two = ap TooMuch (one.1 ∙ sym two.1)

small : (g : Graph) (w : Weights) → AreAdmitted g w → AreSmall w
small g w admitted = record { copy_base = admitted.copy_base; per_byte = admitted.per_byte; run_base = admitted.run_base; per_step = admitted.per_step }

not_admitted : (g : Graph) (w : Weights) (a : WeightFault) → IsWeightFault g w a → AreAdmitted g w → ⊥
not_admitted g w (Over a) fault admitted = small_not_over w a (small g w admitted) fault
not_admitted g w (TooMuch sum) fault admitted = let few = admitted.total in omega (arith, few, fault.1, fault.2)

-- ---- a stuck part

one_stuck : (g : Graph) (v c u d : ℕ) → IsFirstStuck g v c → IsFirstStuck g u d → (v ≡ u) × (c ≡ d)
one_stuck g v c u d one two =
    let not_less : ¬ (v < u) = λ less. two.least_version v c less one.stuck in
    let not_more : ¬ (u < v) = λ more. one.least_version u d more two.stuck in
    let version : v ≡ u = elim (cases_lt v u) [ inl less ↦ absurd (not_less less) | inr most ↦ elim (cases_lt u v) [ inl more ↦ absurd (not_more more) | inr least ↦ omega (arith, most, least) ] ] in
    let same : IsFirstStuck g v d = subst (λ (n : ℕ). IsFirstStuck g n d) (sym version) two in
    let cell_not_less : ¬ (c < d) = λ less. same.least_cell c less one.stuck in
    let cell_not_more : ¬ (d < c) = λ more. one.least_cell d more same.stuck in
    let cell : c ≡ d = elim (cases_lt c d) [ inl less ↦ absurd (cell_not_less less) | inr most ↦ elim (cases_lt d c) [ inl more ↦ absurd (cell_not_more more) | inr least ↦ omega (arith, most, least) ] ] in
    (version, cell)

one_version : (g : Graph) (v u : ℕ) (x y : Version) → v ≡ u → VersionAt g v x → VersionAt g u y → x ≡ y
one_version g v u x y same one two = same_Some x y (sym one.1 ∙ (ap (λ n. slice_get g.versions (n - 1)) same ∙ two.1))

stuck_is : (v u c d : ℕ) (names other : List (List ℕ)) → v ≡ u → c ≡ d → names ≡ other → Stuck v c names ≡ Stuck u d other
stuck_is v u c d names other one two three = cc

-- ---- reasons

module _ (meaning : Meaning) (hosts : ℕ) (way : IsOneWay meaning) where
  pub one_reason : (p : Progress) (to : ℕ) (w : Weights) (a b : MoveRefusal) → IsReason meaning hosts p to w a → IsReason meaning hosts p to w b → a ≡ b
  one_reason p to w DeadKernel DeadKernel one two = refl
  one_reason p to w DeadKernel SameHost one two = let alive = two.0 in let no : ⊥ = cc in absurd no
  one_reason p to w DeadKernel (UnknownHost host) one two = let alive = two.0 in let no : ⊥ = cc in absurd no
  one_reason p to w DeadKernel (BadWeights fault) one two = let alive = two.0.0 in let no : ⊥ = cc in absurd no
  one_reason p to w DeadKernel (Stuck version cell names) one two = let alive = two.0.0 in let no : ⊥ = cc in absurd no
  one_reason p to w SameHost DeadKernel one two = let alive = one.0 in let no : ⊥ = cc in absurd no
  one_reason p to w SameHost SameHost one two = refl
  one_reason p to w SameHost (UnknownHost host) one two = absurd (two.1 one.1)
  one_reason p to w SameHost (BadWeights fault) one two = absurd (two.0.1 one.1)
  one_reason p to w SameHost (Stuck version cell names) one two = absurd (two.0.1 one.1)
  one_reason p to w (UnknownHost host) DeadKernel one two = let alive = one.0 in let no : ⊥ = cc in absurd no
  one_reason p to w (UnknownHost host) SameHost one two = absurd (one.1 two.1)
  one_reason p to w (UnknownHost host) (UnknownHost other) one two = ap UnknownHost (one.3 ∙ sym two.3)
  one_reason p to w (UnknownHost host) (BadWeights fault) one two = absurd (omega (arith, one.2, two.0.2))
  one_reason p to w (UnknownHost host) (Stuck version cell names) one two = absurd (omega (arith, one.2, two.0.2))
  one_reason p to w (BadWeights fault) DeadKernel one two = let alive = one.0.0 in let no : ⊥ = cc in absurd no
  one_reason p to w (BadWeights fault) SameHost one two = absurd (one.0.1 two.1)
  one_reason p to w (BadWeights fault) (UnknownHost host) one two = absurd (omega (arith, one.0.2, two.2))
  one_reason p to w (BadWeights fault) (BadWeights other) (can, (g, is, wrong)) (also, (h, same, too)) =
      ap BadWeights (one_weight_fault g w fault other wrong (subst (λ (k : Graph). IsWeightFault k w other) (way.graph p.served h g same is) too))
  one_reason p to w (BadWeights fault) (Stuck version cell names) (can, (g, is, wrong)) (also, (h, same, admitted, first, rest)) =
      absurd (not_admitted g w fault wrong (subst (λ (k : Graph). AreAdmitted k w) (way.graph p.served h g same is) admitted))
  one_reason p to w (Stuck version cell names) DeadKernel one two = let alive = one.0.0 in let no : ⊥ = cc in absurd no
  one_reason p to w (Stuck version cell names) SameHost one two = absurd (one.0.1 two.1)
  one_reason p to w (Stuck version cell names) (UnknownHost host) one two = absurd (omega (arith, one.0.2, two.2))
  one_reason p to w (Stuck version cell names) (BadWeights fault) (can, (g, is, admitted, first, rest)) (also, (h, same, wrong)) =
      absurd (not_admitted h w fault wrong (subst (λ (k : Graph). AreAdmitted k w) (way.graph p.served g h is same) admitted))
  one_reason p to w (Stuck version cell names) (Stuck other d more) (can, (g, is, admitted, first, (x, there, are))) (also, (h, same, again, second, (y, too, named))) =
      let graph = way.graph p.served h g same is in
      let places = one_stuck g version cell other d first (subst (λ (k : Graph). IsFirstStuck k other d) graph second) in
      let versions = one_version g version other x y places.0 there (subst (λ (k : Graph). VersionAt k other y) graph too) in
      stuck_is version other cell d names more places.0 places.1 (are ∙ (ap (λ (z : Version). z.names) versions ∙ sym named))

  -- a session that may move isn't refused
  pub no_reason : (p : Progress) (to : ℕ) (w : Weights) (a : MoveRefusal) → MayGo meaning hosts p to w → IsReason meaning hosts p to w a → ⊥
  no_reason p to w DeadKernel may why = let alive = may.0.0 in cc
  no_reason p to w SameHost may why = may.0.1 why.1
  no_reason p to w (UnknownHost host) may why = omega (arith, may.0.2, why.2)
  no_reason p to w (BadWeights fault) (can, (g, is, admitted, free)) (also, (h, same, wrong)) =
      not_admitted h w fault wrong (subst (λ (k : Graph). AreAdmitted k w) (way.graph p.served g h is same) admitted)
  no_reason p to w (Stuck version cell names) (can, (g, is, admitted, free)) (also, (h, same, again, first, rest)) =
      free version cell (subst (λ (k : Graph). IsStuck k version cell) (way.graph p.served h g same is) first.stuck)
