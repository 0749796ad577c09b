-- Tables of texts: each text once, in the order in which it came first.
use Rattle.std.specs.Prelude.{ℕ, Bool, if◌then◌else◌, List, [], ◌∷◌, ◌++◌}
use Rattle.std.specs.Str.{bytes_eq}
use Rattle.std.specs.List.{fold, list_any, position_or_len}

-- the text is in the table
abbrev pub has_text : List (List ℕ) → List ℕ → Bool
has_text table text = list_any (bytes_eq text) table

-- the number of a text: how many come before it
abbrev pub number_of : List (List ℕ) → List ℕ → ℕ
number_of table text = position_or_len (bytes_eq text) table

-- the text is put at the end, unless it is in the table
abbrev pub with_text : List (List ℕ) → List ℕ → List (List ℕ)
with_text table text = if has_text table text then table else table ++ text ∷ []

-- each of these texts is put at the end in turn, unless it is in the table by then
abbrev pub with_texts : List (List ℕ) → List (List ℕ) → List (List ℕ)
with_texts table texts = fold with_text table texts
