-- The plan of a cut, member by member.
use Rattle.std.proofs.Common.{◌≡◌, ℕ, ◌+◌, ◌<◌, Bool, true, false, not, List, [], ◌∷◌, ◌++◌, length, get_or, take, sym, ap, ◌∙◌, arith}
use Rattle.std.specs.Prelude.{filter}
use Rattle.std.proofs.lemmas.Bool.{cond-true, cond-false}
use Rattle.std.proofs.lemmas.List.{append-nil}
use Rattle.std.proofs.lemmas.List.Elements.{filter_more}
use Rattle.flow_arcs.specs.Sides.{side}
use Rattle.graph_model.specs.declared.graph.Graph.{Graph}
use Rattle.graph_model.specs.declared.plan.Node.TheVariants as node
use Rattle.graph_model.specs.Networks.{actives, number_of}
use Rattle.cut_network.proofs.Adding.{node_at}

abbrev pub is_outside : Graph → (ℕ → Bool) → ℕ → Bool
is_outside g s v = not (s (number_of g (node.Version v)))

abbrev pub is_inside : Graph → (ℕ → Bool) → ℕ → Bool
is_inside g s c = s (number_of g (node.Cell c))

pub filter_yes : (p : ℕ → Bool) (xs : List ℕ) (i : ℕ) → i < length xs → p (get_or xs i 0) ≡ true → filter p (take (i + 1) xs) ≡ filter p (take i xs) ++ get_or xs i 0 ∷ []
filter_yes p xs i l h = filter_more p xs i 0 l ∙ ap (λ (ys : List ℕ). filter p (take i xs) ++ ys) (cond-true (p (get_or xs i 0)) _ _ h)

pub filter_no : (p : ℕ → Bool) (xs : List ℕ) (i : ℕ) → i < length xs → p (get_or xs i 0) ≡ false → filter p (take (i + 1) xs) ≡ filter p (take i xs)
filter_no p xs i l h = filter_more p xs i 0 l ∙ (ap (λ (ys : List ℕ). filter p (take i xs) ++ ys) (cond-false (p (get_or xs i 0)) _ _ h) ∙ append-nil (filter p (take i xs)))

-- the side of the active version at index i
pub version_side : (g : Graph) (active : List ℕ) (inside : List Bool) (i : ℕ) (b : Bool) → active ≡ actives g → i < length active → get_or inside (i + 2) false ≡ b
    → side inside (number_of g (node.Version (get_or active i 0))) ≡ b
version_side g active inside i b e l h = ap (side inside) (sym (node_at g active i e l)) ∙ h

-- the side of a cell
pub cell_side : (g : Graph) (cells c : ℕ) (inside : List Bool) (b : Bool) → cells ≡ 1 + length (actives g) → get_or inside (cells + c) false ≡ b → is_inside g (side inside) c ≡ b
cell_side g cells c inside b e h = let n : 1 + length (actives g) + c ≡ cells + c = omega (arith, e) in ap (side inside) n ∙ h
