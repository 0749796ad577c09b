-- The steps of a search.
use Rattle.std.specs.Prelude.{◌≡◌, ℕ, ◌==◌, Bool, false, cond, slice_index_or, List, [], ◌∷◌, ◌++◌}
use Rattle.std.specs.List.{list_any, fold}

-- the number is in the list
abbrev pub has : List ℕ → ℕ → Bool
has ns n = list_any (λ m. m == n) ns

-- the number is put at the end, unless it is in the list
abbrev pub noted : List ℕ → ℕ → List ℕ
noted ns n = cond (has ns n) ns (ns ++ n ∷ [])

-- each of these is put at the end in turn, unless it is in the list by then
abbrev pub all_noted : List ℕ → List ℕ → List ℕ
all_noted ns more = fold noted ns more

-- there is a mark at each number of the list, and at no other
abbrev pub IsMarkedAs : List Bool → List ℕ → Type 0
IsMarkedAs marks ns = (n : ℕ) → slice_index_or marks n false ≡ has ns n
