-- Texts as far as the limit.
use Rattle.std.proofs.Common.{◌≡◌, ℕ, ◌+◌, ◌-◌, ◌*◌, ◌/◌, ◌<◌, ◌≤◌, ◌==◌, ◌||◌, nat_lt, codes, Bool, true, false, cond, List, [], ◌∷◌, ◌++◌, length, take, get_or, Some, None, refl, sym, ap, ◌∙◌, append_assoc, length-append, arith}
use Rattle.std.specs.Prelude.{nat_le, IfSome}
use Rattle.std.proofs.lemmas.Bool.Decides.{nat_tests}
use Rattle.std.specs.List.{flat_map, sum_by}
use Rattle.std.proofs.lemmas.List.{take_all}
use Rattle.std.proofs.lemmas.List.Concat.{length-flat_map}
use Rattle.std.proofs.lemmas.List.Sums.{sum_by-take-le, sum_by_more}
use Rattle.py_value.specs.Reprs.{escaped, hexadecimal, between, quote_of, quoted}
use Rattle.py_show.specs.Limits.{Limit, limited, pushed, room}

le_true : (a b : ℕ) → a ≤ b → nat_le a b ≡ true
le_true a b h = grind (arith, nat_tests)

le_false : (a b : ℕ) → b < a → nat_le a b ≡ false
le_false a b h = grind (arith, nat_tests)

from_true : (a b : ℕ) → nat_le a b ≡ true → a ≤ b
from_true a b h = grind (arith, nat_tests)

from_false : (a b : ℕ) → nat_le a b ≡ false → b < a
from_false a b h = grind (arith, nat_tests)

pub limited_short : (bytes : List ℕ) → length bytes ≤ 16777216 → limited bytes ≡ Some bytes
unfolding limited
limited_short bytes h = ap (λ b. cond b (Some bytes) None) (le_true (length bytes) 16777216 h)

pub limited_long : (bytes : List ℕ) → 16777216 < length bytes → limited bytes ≡ None
unfolding limited
limited_long bytes h = ap (λ b. cond b (Some bytes) None) (le_false (length bytes) 16777216 h)

more_by : (b : Bool) (bytes more : List ℕ) → nat_le (length bytes) 16777216 ≡ b → pushed (limited bytes) more ≡ limited (bytes ++ more)
more_by true bytes more e = ap (λ t. pushed t more) (limited_short bytes (from_true _ _ e))
more_by false bytes more e =
    let long : 16777216 < length bytes = from_false (length bytes) 16777216 e in
    let longer : 16777216 < length (bytes ++ more) = omega (arith, length-append bytes more) in
    ap (λ t. pushed t more) (limited_long bytes long) ∙ sym (limited_long (bytes ++ more) longer)

-- what is kept of a text with more after it is told by what is kept of it
pub limited_more : (bytes more : List ℕ) → pushed (limited bytes) more ≡ limited (bytes ++ more)
limited_more bytes more = more_by (nat_le (length bytes) 16777216) bytes more refl

pub limited_shift : (before text more : List ℕ) → limited (before ++ (text ++ more)) ≡ pushed (limited (before ++ text)) more
limited_shift before text more = ap limited (sym (append_assoc before text more)) ∙ sym (limited_more (before ++ text) more)

is_by : (b : Bool) (bytes text : List ℕ) → nat_le (length bytes) 16777216 ≡ b → limited bytes ≡ Some text → bytes ≡ text
is_by true bytes text e h = let same : Some bytes ≡ Some text = sym (limited_short bytes (from_true _ _ e)) ∙ h in cc
is_by false bytes text e h = let none : None ≡ Some text = sym (limited_long bytes (from_false _ _ e)) ∙ h in absurd (let no : ⊥ = cc in no)

-- a text that is kept is whole
pub limited_is : (bytes text : List ℕ) → limited bytes ≡ Some text → bytes ≡ text
limited_is bytes text h = is_by (nat_le (length bytes) 16777216) bytes text refl h

long_by : (b : Bool) (bytes : List ℕ) → nat_le (length bytes) 16777216 ≡ b → limited bytes ≡ None → 16777216 < length bytes
long_by true bytes e h = let none : Some bytes ≡ None = sym (limited_short bytes (from_true _ _ e)) ∙ h in absurd (let no : ⊥ = cc in no)
long_by false bytes e h = from_false _ _ e

-- a text that isn't kept is longer than the limit
pub is_long : (bytes : List ℕ) → limited bytes ≡ None → 16777216 < length bytes
is_long bytes h = long_by (nat_le (length bytes) 16777216) bytes refl h

within_by : (b : Bool) (bytes : List ℕ) → nat_le (length bytes) 16777216 ≡ b → IfSome (limited bytes) (λ text. length text ≤ 16777216)
within_by true bytes e = let short : length bytes ≤ 16777216 = from_true _ _ e in rw (limited_short bytes short) short
within_by false bytes e = rw (limited_long bytes (from_false _ _ e)) tt

-- what is kept is within the limit
pub limited_within : (bytes : List ℕ) → IfSome (limited bytes) (λ text. length text ≤ 16777216)
limited_within bytes = within_by (nat_le (length bytes) 16777216) bytes refl

pub pushed_within : (text : Limit) (more : List ℕ) → IfSome (pushed text more) (λ text. length text ≤ 16777216)
pushed_within (Some text) more = limited_within (text ++ more)
pushed_within None more = tt

pub pushed_twice : (text : Limit) (first second : List ℕ) → pushed (pushed text first) second ≡ pushed text (first ++ second)
pushed_twice (Some text) first second = limited_more (text ++ first) second ∙ ap limited (append_assoc text first second)
pushed_twice None first second = refl

-- with more bytes than there is room for, a text is too long
pub past_room : (text : Limit) (more : List ℕ) → nat_le (length more) (room text) ≡ false → pushed text more ≡ None
past_room (Some text) more h =
    let joined = length-append text more in
    let past : 16777216 - length text < length more = from_false (length more) (16777216 - length text) h in
    let long : 16777216 < length (text ++ more) = omega arith in
    limited_long (text ++ more) long
past_room None more h = refl

-- ---- how many bytes a text shows as

pub quoted_length : (cs : List ℕ) → length (quoted cs) ≡ 2 + sum_by (λ c. length (escaped (quote_of cs) c)) cs
unfolding between
quoted_length cs =
    let whole = length-append (quote_of cs ∷ flat_map (escaped (quote_of cs)) cs) (quote_of cs ∷ []) in
    let inner = length-flat_map (escaped (quote_of cs)) cs in
    omega (arith, whole, inner)

short_cond : (b : Bool) (xs ys : List ℕ) → length xs ≤ 4 → length ys ≤ 4 → length (cond b xs ys) ≤ 4
short_cond true xs ys p q = p
short_cond false xs ys p q = q

abbrev other_control : ℕ → List ℕ
other_control c = cond (nat_lt c 32 || (c == 127)) (hexadecimal c) (c ∷ [])

abbrev no_line_feed : ℕ → List ℕ
no_line_feed c = cond (c == 13) (codes "\\r") (cond (c == 9) (codes "\\t") (other_control c))

no_line_feed_short : (c : ℕ) → length (no_line_feed c) ≤ 4
no_line_feed_short c =
    let other = short_cond (nat_lt c 32 || (c == 127)) (hexadecimal c) (c ∷ []) (omega arith) (omega arith) in
    let tab = short_cond (c == 9) (codes "\\t") (other_control c) (omega arith) other in
    short_cond (c == 13) (codes "\\r") (cond (c == 9) (codes "\\t") (other_control c)) (omega arith) tab

-- a byte shows as four at most
escaped_short : (quote c : ℕ) → length (escaped quote c) ≤ 4
unfolding escaped
escaped_short quote c =
    let plain = short_cond (c == 10) (codes "\\n") (no_line_feed c) (omega arith) (no_line_feed_short c) in
    short_cond ((c == 92) || (c == quote)) (92 ∷ c ∷ []) (cond (c == 10) (codes "\\n") (no_line_feed c)) (omega arith) plain

shown_short : (quote : ℕ) (cs : List ℕ) → length (flat_map (escaped quote) cs) ≤ 4 * length cs
shown_short quote [] = omega arith
shown_short quote (c ∷ cs) =
    let joined = length-append (escaped quote c) (flat_map (escaped quote) cs) in
    let one = escaped_short quote c in
    let more = shown_short quote cs in
    omega (arith, joined, one, more)

-- a text fits surely if four times its bytes and the quotes do
pub surely_fits : (cs : List ℕ) (room : ℕ) → 2 ≤ room → length cs ≤ (room - 2) / 4 → true ≡ nat_le (length (quoted cs)) room
unfolding between
surely_fits cs room two h =
    let whole = length-append (quote_of cs ∷ flat_map (escaped (quote_of cs)) cs) (quote_of cs ∷ []) in
    let part = shown_short (quote_of cs) cs in
    sym (le_true (length (quoted cs)) room (omega (arith, whole, part)))

pub some_past : (cs : List ℕ) (i n room : ℕ) → n ≡ 2 + sum_by (λ c. length (escaped (quote_of cs) c)) (take i cs) → room < n → false ≡ nat_le (length (quoted cs)) room
some_past cs i n room e h =
    let whole = quoted_length cs in
    let part = sum_by-take-le (λ c. length (escaped (quote_of cs) c)) cs i in
    let past : room < length (quoted cs) = omega (arith, whole, part) in
    sym (le_false (length (quoted cs)) room past)

pub all_told : (cs : List ℕ) (i n room : ℕ) (b : Bool) → n ≡ 2 + sum_by (λ c. length (escaped (quote_of cs) c)) (take i cs) → length cs ≤ i → b ≡ nat_le n room → b ≡ nat_le (length (quoted cs)) room
all_told cs i n room b e all is =
    is ∙ ap (λ k. nat_le k room) (e ∙ ap (λ ds. 2 + sum_by (λ c. length (escaped (quote_of cs) c)) ds) (take_all i cs all) ∙ sym (quoted_length cs))

pub one_more : (cs : List ℕ) (i n k quote : ℕ) (c : ℕ) → n ≡ 2 + sum_by (λ d. length (escaped quote d)) (take i cs) → i < length cs → c ≡ get_or cs i 0 → k ≡ length (escaped quote c)
    → n + k ≡ 2 + sum_by (λ d. length (escaped quote d)) (take (i + 1) cs)
one_more cs i n k quote c e within is size =
    let more = sum_by_more (λ d. length (escaped quote d)) cs i 0 within in
    let same : length (escaped quote c) ≡ length (escaped quote (get_or cs i 0)) = ap (λ d. length (escaped quote d)) is in
    omega (arith, more, same)
