-- How long the text of a value is at most.
use Rattle.std.proofs.Common.{ℕ, ◌+◌, ◌*◌, ◌≤◌, ◌%◌, ◌/◌, Bool, true, false, cond, List, [], ◌∷◌, ◌++◌, length, length-append, arith}
use Rattle.std.specs.Prelude.{nat_lt}
use Rattle.std.specs.Char.{digit_char}
use Rattle.json.specs.Print.{escape_letter, escape_byte, escape, quoted}
use Rattle.serde_json.specs.Data.{Data, null, boolean, number, string, array, object, Items, no_items, item, Members, no_members, member}
use Rattle.serde_json.specs.Written.{number_text, comma_if, compact_text, items_text, members_text}

-- ---- texts

either_short : (b : Bool) (xs ys : List ℕ) (n : ℕ) → length xs ≤ n → length ys ≤ n → length (cond b xs ys) ≤ n
either_short true xs ys n one two = one
either_short false xs ys n one two = two

escaped_byte_short : (x : ℕ) → length (escape_byte x) ≤ 6
unfolding escape_byte
escaped_byte_short x =
    let rest = either_short (nat_lt x 32) (92 ∷ 117 ∷ 48 ∷ 48 ∷ digit_char (x / 16) ∷ digit_char (x % 16) ∷ []) (x ∷ []) 6 (omega arith) (omega arith) in
    either_short (nat_lt 0 (escape_letter x)) (92 ∷ escape_letter x ∷ []) _ 6 (omega arith) rest

escaped_short : (s : List ℕ) → length (escape s) ≤ 6 * length s
escaped_short [] = omega arith
escaped_short (x ∷ s) =
    let parts = length-append (escape_byte x) (escape s) in
    omega (arith, parts, escaped_byte_short x, escaped_short s)

quoted_short : (s : List ℕ) → length (quoted s) ≤ 6 * length s + 2
quoted_short s =
    let parts = length-append (escape s) (34 ∷ []) in
    omega (arith, parts, escaped_short s)

comma_short : (later : Bool) → length (comma_if later) ≤ 1
comma_short true = omega arith
comma_short false = omega arith

boolean_short : (b : Bool) → length (compact_text (boolean b)) ≤ 5
boolean_short true = omega arith
boolean_short false = omega arith

-- ---- values

abbrev mutual
  -- the most bytes of its text, if none of its numbers has more than 20
  pub room : Data → ℕ
  room null = 4
  room (boolean b) = 5
  room (number n) = 20
  room (string s) = 6 * length s + 2
  room (array ds) = 1 + items_room ds
  room (object ms) = 1 + members_room ms

  pub items_room : Items → ℕ
  items_room no_items = 1
  items_room (item d ds) = 1 + room d + items_room ds

  pub members_room : Members → ℕ
  members_room no_members = 1
  members_room (member k d ms) = 6 * length k + 4 + room d + members_room ms

abbrev mutual
  pub HasShortNumbers : Data → Type 0
  HasShortNumbers null = Unit {0}
  HasShortNumbers (boolean b) = Unit {0}
  HasShortNumbers (number n) = length (number_text n) ≤ 20
  HasShortNumbers (string s) = Unit {0}
  HasShortNumbers (array ds) = ItemsHaveShortNumbers ds
  HasShortNumbers (object ms) = MembersHaveShortNumbers ms

  pub ItemsHaveShortNumbers : Items → Type 0
  ItemsHaveShortNumbers no_items = Unit {0}
  ItemsHaveShortNumbers (item d ds) = HasShortNumbers d × ItemsHaveShortNumbers ds

  pub MembersHaveShortNumbers : Members → Type 0
  MembersHaveShortNumbers no_members = Unit {0}
  MembersHaveShortNumbers (member k d ms) = HasShortNumbers d × MembersHaveShortNumbers ms

joined : (a b c : List ℕ) (x y z n : ℕ) → length a ≤ x → length b ≤ y → length c ≤ z → x + y + z ≤ n → length (a ++ (b ++ c)) ≤ n
joined a b c x y z n one two three all = omega (arith, length-append a (b ++ c), length-append b c)

mutual
  pub text_short : (d : Data) → HasShortNumbers d → length (compact_text d) ≤ room d
  text_short null short = omega arith
  text_short (boolean b) short = boolean_short b
  text_short (number n) short = short
  text_short (string s) short = quoted_short s
  text_short (array ds) short = omega (arith, items_short false ds short)
  text_short (object ms) short = omega (arith, members_short false ms short)

  items_short : (later : Bool) (ds : Items) → ItemsHaveShortNumbers ds → length (items_text later ds) ≤ items_room ds
  items_short later no_items short = omega arith
  items_short later (item d ds) short =
      joined (comma_if later) (compact_text d) (items_text true ds) 1 (room d) (items_room ds) (items_room (item d ds)) (comma_short later) (text_short d short.0) (items_short true ds short.1) (omega arith)

  members_short : (later : Bool) (ms : Members) → MembersHaveShortNumbers ms → length (members_text later ms) ≤ members_room ms
  members_short later no_members short = omega arith
  members_short later (member k d ms) short =
      let value : length (58 ∷ (compact_text d ++ members_text true ms)) ≤ 1 + room d + members_room ms = omega (arith, length-append (compact_text d) (members_text true ms), text_short d short.0, members_short true ms short.1) in
      joined (comma_if later) (quoted k) (58 ∷ (compact_text d ++ members_text true ms)) 1 (6 * length k + 2) (1 + room d + members_room ms) (members_room (member k d ms)) (comma_short later) (quoted_short k) value (omega arith)
