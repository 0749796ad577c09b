-- Texts cut between characters.
use Rattle.std.specs.Prelude.{ℕ, zero, suc, Bool, ◌||◌, ◌&&◌, cond, nat_lt, nat_le, List, [], ◌∷◌, length, take, drop, slice_index}

-- a character of the text begins there, or the text ends there
abbrev pub is_between : List ℕ → ℕ → Bool
is_between text n = nat_le n (length text) && (nat_lt (slice_index text n) 128 || nat_le 192 (slice_index text n))

-- the last such place within that many bytes
unfoldable pub cut_within : ℕ → List ℕ → ℕ
cut_within zero text = 0
cut_within (suc n) text = cond (is_between text (suc n)) (suc n) (cut_within n text)

-- the longest beginning of whole characters within that many bytes
abbrev pub prefix_within : ℕ → List ℕ → List ℕ
prefix_within n text = take (cut_within n text) text

-- the text in such beginnings, one after the other; there are no more of them than bytes
unfoldable pub pieces : ℕ → ℕ → List ℕ → List (List ℕ)
pieces zero n text = []
pieces (suc more) n [] = []
pieces (suc more) n (c ∷ cs) = prefix_within n (c ∷ cs) ∷ pieces more n (drop (cut_within n (c ∷ cs)) (c ∷ cs))
