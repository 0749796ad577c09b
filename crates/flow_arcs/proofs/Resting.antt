-- What the directed arcs may carry when nothing flows.
use Rattle.std.proofs.Common.{◌≡◌, ℕ, ◌+◌, ◌^◌, ◌<◌, ◌≤◌, List, [], ◌∷◌, ◌++◌, length, get_or, drop, replicate, append_assoc, sym, ap, ◌∙◌, arith}
use Rattle.std.proofs.lemmas.List.{append-nil, drop_more, drop_all, replicate_more}
use Rattle.flow_model.specs.declared.Arc.{Arc}
use Rattle.flow_model.specs.Flows.{Net, IsLegal}
use Rattle.flow_arcs.specs.Arcs.{no_arc}
use Rattle.flow_arcs.specs.Pairs.{IsPaired, carried}
use Rattle.flow_arcs.proofs.Solving.{idle_legal}

-- two numbers more for one arc more
pub rests_paired : (arcs : List Arc) (rest : List ℕ) (i x y : ℕ) → i < length arcs → x + y ≡ (get_or arcs i no_arc).capacity → x + y < 2 ^ 64
    → ((more : List ℕ) → IsPaired (drop i arcs) more → IsPaired arcs (rest ++ more))
    → (more : List ℕ) → IsPaired (drop (i + 1) arcs) more → IsPaired arcs (((rest ++ x ∷ []) ++ y ∷ []) ++ more)
rests_paired arcs rest i x y l e c h more p =
    rw (append_assoc (rest ++ x ∷ []) (y ∷ []) more, append_assoc rest (x ∷ []) (y ∷ more))
    (h (x ∷ y ∷ more) (rw (drop_more arcs i no_arc l) (record { sum = e; capped = omega arith }, p)))

pub rests_carried : (rest : List ℕ) (i x : ℕ)
    → ((more : List ℕ) → carried (rest ++ more) ≡ replicate i 0 ++ carried more)
    → (more : List ℕ) → carried (((rest ++ x ∷ []) ++ 0 ∷ []) ++ more) ≡ replicate (i + 1) 0 ++ carried more
rests_carried rest i x h more =
    rw (append_assoc (rest ++ x ∷ []) (0 ∷ []) more, append_assoc rest (x ∷ []) (0 ∷ more))
    (h (x ∷ 0 ∷ more) ∙ (sym (append_assoc (replicate i 0) (0 ∷ []) (carried more)) ∙ ap (λ xs. xs ++ carried more) (replicate_more {X = ℕ} i 0)))

-- after the last arc
pub all_paired : (arcs : List Arc) (rest : List ℕ) (i : ℕ) → length arcs ≤ i → ((more : List ℕ) → IsPaired (drop i arcs) more → IsPaired arcs (rest ++ more)) → IsPaired arcs rest
all_paired arcs rest i l h = let p = h [] (rw (drop_all i arcs l) tt) in rw append-nil at p

pub all_idle : (net : Net) (rest : List ℕ) (i : ℕ) → i ≡ length net.arcs → ((more : List ℕ) → carried (rest ++ more) ≡ replicate i 0 ++ carried more) → IsLegal net (carried rest)
all_idle net rest i l h =
    let e : carried rest ≡ replicate (length net.arcs) 0 = ap carried (sym (append-nil rest)) ∙ (h [] ∙ (append-nil (replicate i 0) ∙ ap (λ n. replicate {A = ℕ} n 0) l)) in
    rw e (idle_legal net)
