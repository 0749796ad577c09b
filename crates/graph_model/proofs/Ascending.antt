-- Lists that ascend.
use Rattle.std.proofs.Common.{suc, List, [], ◌∷◌, ◌++◌, refl, arith}
use Rattle.std.specs.Prelude.{Contains}
use Rattle.graph_model.specs.Faults.{Ascends}

-- one element more at the end, after each other one
pub ascends-push : {X : Type 0} (Below : X → X → Type 0) (xs : List X) (y : X) → Ascends Below xs → ((x : X) → Contains xs x → Below x y) → Ascends Below (xs ++ y ∷ [])
ascends-push Below [] y a h = tt
ascends-push Below (x ∷ []) y a h = (h x (0, omega arith, refl), tt)
ascends-push Below (x ∷ w ∷ more) y a h = (a.0, ascends-push Below (w ∷ more) y a.1 (λ z c. h z (suc c.0, omega arith, c.2)))
