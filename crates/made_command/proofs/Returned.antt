-- What is written for the messages reads as them.
use Rattle.std.proofs.Common.{◌≡◌, ℕ, ◌≤◌, ◌%◌, ◌/◌, ◌==◌, Bool, true, false, List, [], ◌∷◌, ◌++◌, append-nil, decimal, codes, Some, option_and_then, IsUtf8, refl, sym, ap, ◌∙◌, arith}
use Rattle.std.specs.Prelude.{if◌then◌else◌}
use Rattle.std.specs.Str.{is_utf8}
use Rattle.std.proofs.lemmas.Fmt.{IsAscii-decimal}
use Rattle.std.proofs.lemmas.Str.{IsUtf8-append, IsUtf8-nil, IsUtf8-from_ascii, is_utf8-from_IsUtf8}
use Rattle.json.specs.Lex.{tokens}
use Rattle.json.specs.Json as json
use Rattle.json.specs.Print.{quoted}
use Rattle.json.specs.Tree.{json_tokens, depth, HasNumbers}
use Rattle.json.proofs.Printed.Decimals.{IsNumber-decimal}
use Rattle.json.proofs.Printed.Tokens.{tokens-print}
use Rattle.json.proofs.Printed.Trees.{value-json_tokens, ArePrintable-json_tokens}
use Rattle.json.proofs.Printed.Utf8.{IsUtf8-are_ascii, IsUtf8-quoted, IsUtf8-boolean}
use Rattle.serde_json.specs.Data.{Data, null, boolean, number, string, array, object, Items, no_items, item, Members, no_members, member}
use Rattle.serde_json.specs.Read.{read, of_json}
use Rattle.serde_json.specs.Written.{number_text, outline, comma_if, compact_text, items_text, members_text}
use Rattle.serde_json.proofs.Numbers.{number_of-decimal}
use Rattle.serde_json.proofs.Texts.{print-outline}
use Rattle.reply_frames.specs.Messages.{json as json_of, whole}
use Rattle.made_command.specs.Made.{first_code, later_code, code_of, session_of, message, opening, cell, moving}
use Rattle.made_command.proofs.Short.{costs}

-- ---- values

read_compact : (d : Data) → HasNumbers (outline d) → depth (outline d) ≤ 127 → of_json (outline d) ≡ Some d → read (compact_text d) ≡ Some d
read_compact d numbers shallow is =
    let same : tokens (compact_text d) ≡ json_tokens (outline d) = ap tokens (sym (print-outline d)) ∙ tokens-print (json_tokens (outline d)) (ArePrintable-json_tokens (outline d) numbers) in
    ap (λ o. option_and_then of_json (option_and_then (λ p. json.if_last p.0 p.1) o))
    (ap (json.value 127) (same ∙ sym (append-nil (json_tokens (outline d)))) ∙ value-json_tokens (outline d) 127 [] shallow) ∙ is

-- ---- the texts are UTF-8

abbrev mutual
  -- each text in it is
  HasTexts : Data → Type 0
  HasTexts null = Unit {0}
  HasTexts (boolean b) = Unit {0}
  HasTexts (number n) = IsUtf8 (number_text n)
  HasTexts (string s) = IsUtf8 s
  HasTexts (array ds) = ItemsHaveTexts ds
  HasTexts (object ms) = MembersHaveTexts ms

  ItemsHaveTexts : Items → Type 0
  ItemsHaveTexts no_items = Unit {0}
  ItemsHaveTexts (item d ds) = HasTexts d × ItemsHaveTexts ds

  MembersHaveTexts : Members → Type 0
  MembersHaveTexts no_members = Unit {0}
  MembersHaveTexts (member k d ms) = IsUtf8 k × HasTexts d × MembersHaveTexts ms

ascii_then : (x : ℕ) (s : List ℕ) → IsUtf8 (x ∷ []) → IsUtf8 s → IsUtf8 (x ∷ s)
ascii_then x s one rest = IsUtf8-append (x ∷ []) s one rest

comma_text : (later : Bool) → IsUtf8 (comma_if later)
comma_text true = IsUtf8-are_ascii (44 ∷ []) refl
comma_text false = IsUtf8-nil

null_text : IsUtf8 (compact_text null)
null_text = IsUtf8-are_ascii (compact_text null) refl

mutual
  all_text : (d : Data) → HasTexts d → IsUtf8 (compact_text d)
  all_text null are = null_text
  all_text (boolean b) are = IsUtf8-boolean b
  all_text (number n) are = are
  all_text (string s) are = IsUtf8-quoted s are
  all_text (array ds) are = ascii_then 91 (items_text false ds) (IsUtf8-are_ascii (91 ∷ []) refl) (all_items false ds are)
  all_text (object ms) are = ascii_then 123 (members_text false ms) (IsUtf8-are_ascii (123 ∷ []) refl) (all_members false ms are)

  all_items : (later : Bool) (ds : Items) → ItemsHaveTexts ds → IsUtf8 (items_text later ds)
  all_items later no_items are = IsUtf8-are_ascii (93 ∷ []) refl
  all_items later (item d ds) are =
      IsUtf8-append (comma_if later) (compact_text d ++ items_text true ds) (comma_text later)
      (IsUtf8-append (compact_text d) (items_text true ds) (all_text d are.0) (all_items true ds are.1))

  all_members : (later : Bool) (ms : Members) → MembersHaveTexts ms → IsUtf8 (members_text later ms)
  all_members later no_members are = IsUtf8-are_ascii (125 ∷ []) refl
  all_members later (member k d ms) are =
      let value = IsUtf8-append (compact_text d) (members_text true ms) (all_text d are.1) (all_members true ms are.2) in
      IsUtf8-append (comma_if later) (quoted k ++ 58 ∷ (compact_text d ++ members_text true ms)) (comma_text later)
      (IsUtf8-append (quoted k) (58 ∷ (compact_text d ++ members_text true ms)) (IsUtf8-quoted k are.0)
      (ascii_then 58 (compact_text d ++ members_text true ms) (IsUtf8-are_ascii (58 ∷ []) refl) value))

-- ---- parts of the messages

number_utf8 : (n : ℕ) → n ≤ 4000 → IsUtf8 (decimal n)
number_utf8 n small = IsUtf8-from_ascii (decimal n) (IsAscii-decimal n (omega arith))

either_utf8 : (b : Bool) (s t : List ℕ) → IsUtf8 s → IsUtf8 t → IsUtf8 (if b then s else t)
either_utf8 true s t one two = one
either_utf8 false s t one two = two

first_utf8 : IsUtf8 first_code
unfolding first_code
first_utf8 = IsUtf8-are_ascii first_code refl

added_utf8 : (j : ℕ) → j ≤ 4000 → IsUtf8 (codes "add(d, \"k" ++ (decimal (j % 7) ++ (codes "\", " ++ (decimal j ++ codes ")"))))
added_utf8 j small =
    IsUtf8-append (codes "add(d, \"k") (decimal (j % 7) ++ (codes "\", " ++ (decimal j ++ codes ")"))) (IsUtf8-are_ascii (codes "add(d, \"k") refl)
    (IsUtf8-append (decimal (j % 7)) (codes "\", " ++ (decimal j ++ codes ")")) (number_utf8 (j % 7) (omega arith))
    (IsUtf8-append (codes "\", ") (decimal j ++ codes ")") (IsUtf8-are_ascii (codes "\", ") refl)
    (IsUtf8-append (decimal j) (codes ")") (number_utf8 j small) (IsUtf8-are_ascii (codes ")") refl))))

later_utf8 : (j : ℕ) → j ≤ 4000 → IsUtf8 (later_code j)
unfolding later_code
later_utf8 j small =
    let keys = codes "total += len(d)" in
    let counts = codes "for k in d:\n    total += len(d[k])" in
    let prints = codes "print(total)" in
    either_utf8 (j % 4 == 0) _ _ (added_utf8 j small)
    (either_utf8 (j % 4 == 1) _ _ (IsUtf8-are_ascii keys refl) (either_utf8 (j % 4 == 2) _ _ (IsUtf8-are_ascii counts refl) (IsUtf8-are_ascii prints refl)))

code_utf8 : (j : ℕ) → j ≤ 4000 → IsUtf8 (code_of j)
code_utf8 j small = either_utf8 (j == 1) _ _ first_utf8 (later_utf8 j small)

session_utf8 : (j : ℕ) → IsUtf8 (session_of j)
session_utf8 j = either_utf8 (j % 2 == 1) _ _ (IsUtf8-are_ascii (codes "f1") refl) (IsUtf8-are_ascii (codes "f2") refl)

-- ---- messages

-- a content that reads back
record ReadsBack (d : Data) : Type 0 where
  pub numbers : HasNumbers (outline d)
  pub shallow : depth (outline d) ≤ 100
  pub is : of_json (outline d) ≡ Some d
  pub texts : HasTexts d

message_is : (session id type : List ℕ) (content : Data) → of_json (outline content) ≡ Some content → of_json (outline (message session id type content)) ≡ Some (message session id type content)
unfolding message
message_is session id type content is = rw is

message_back : (session id type : List ℕ) (content : Data) → ReadsBack content → read (compact_text (message session id type content)) ≡ Some (message session id type content)
unfolding message
message_back session id type content back =
    let all : HasNumbers (outline (message session id type content)) = (tt, (back.numbers, ((tt, (tt, (tt, (tt, (tt, (tt, tt)))))), (tt, tt)))) in
    read_compact (message session id type content) all (omega (arith, back.shallow)) (message_is session id type content back.is)

message_text : (session id type : List ℕ) (content : Data) → ReadsBack content → IsUtf8 session → IsUtf8 id → IsUtf8 type → is_utf8 (compact_text (message session id type content)) ≡ true
unfolding message
message_text session id type content back one two three =
    let channel = IsUtf8-are_ascii (codes "channel") refl in
    let shell = IsUtf8-are_ascii (codes "shell") refl in
    let contents = IsUtf8-are_ascii (codes "content") refl in
    let header = IsUtf8-are_ascii (codes "header") refl in
    let kernel = IsUtf8-are_ascii (codes "kernel") refl in
    let number = IsUtf8-are_ascii (codes "00000000-0000-4000-8000-000000000001") refl in
    let date = IsUtf8-are_ascii (codes "date") refl in
    let ids = IsUtf8-are_ascii (codes "msg_id") refl in
    let types = IsUtf8-are_ascii (codes "msg_type") refl in
    let sessions = IsUtf8-are_ascii (codes "session") refl in
    let names = IsUtf8-are_ascii (codes "username") refl in
    let made = IsUtf8-are_ascii (codes "made") refl in
    let versions = IsUtf8-are_ascii (codes "version") refl in
    let version = IsUtf8-are_ascii (codes "5.3") refl in
    is_utf8-from_IsUtf8 (compact_text (message session id type content)) (all_text (message session id type content)
    (channel, shell, (contents, back.texts, (header, (date, IsUtf8-nil, (ids, two, (types, three, (sessions, one, (names, made, (versions, version, tt)))))), (kernel, number, tt)))))

abbrev opening_content : Data
opening_content = json_of ((codes "host", whole 0) ∷ [])

opens_back : ReadsBack opening_content
opens_back = record {
  numbers = (IsNumber-decimal 0 (omega arith), tt);
  shallow = omega arith;
  is = rw (number_of-decimal 0 (omega arith));
  texts = (IsUtf8-are_ascii (codes "host") refl, number_utf8 0 (omega arith), tt);
}

pub opening_back : read (compact_text opening) ≡ Some opening
unfolding opening
opening_back = message_back (codes "f1") (codes "o") (codes "kernel_open_request") opening_content opens_back

pub opening_text : is_utf8 (compact_text opening) ≡ true
unfolding opening
opening_text = message_text (codes "f1") (codes "o") (codes "kernel_open_request") opening_content opens_back
    (IsUtf8-are_ascii (codes "f1") refl) (IsUtf8-are_ascii (codes "o") refl) (IsUtf8-are_ascii (codes "kernel_open_request") refl)

abbrev cell_content : ℕ → Data
cell_content j = json_of ((codes "code", string (code_of j)) ∷ [])

asks_back : (j : ℕ) → j ≤ 4000 → ReadsBack (cell_content j)
asks_back j small = record {
  numbers = (tt, tt);
  shallow = omega arith;
  is = refl;
  texts = (IsUtf8-are_ascii (codes "code") refl, code_utf8 j small, tt);
}

numbered : (letter j : ℕ) → j ≤ 4000 → IsUtf8 (letter ∷ []) → IsUtf8 (letter ∷ decimal j)
numbered letter j small is = ascii_then letter (decimal j) is (number_utf8 j small)

pub cell_back : (j : ℕ) → j ≤ 4000 → read (compact_text (cell j)) ≡ Some (cell j)
unfolding cell
cell_back j small = message_back (session_of j) (codes "c" ++ decimal j) (codes "execute_request") (cell_content j) (asks_back j small)

pub cell_text : (j : ℕ) → j ≤ 4000 → is_utf8 (compact_text (cell j)) ≡ true
unfolding cell
cell_text j small =
    message_text (session_of j) (codes "c" ++ decimal j) (codes "execute_request") (cell_content j) (asks_back j small)
    (session_utf8 j) (numbered 99 j small (IsUtf8-are_ascii (codes "c") refl)) (IsUtf8-are_ascii (codes "execute_request") refl)

moves_back : (to : ℕ) → to ≤ 4000 → ReadsBack (costs to)
moves_back to small =
    let one = IsNumber-decimal 1 (omega arith) in
    let one_read = number_of-decimal 1 (omega arith) in
    let to_read = number_of-decimal to (omega arith) in
    let one_text = number_utf8 1 (omega arith) in
    record {
      numbers = (one, (one, (one, (one, (IsNumber-decimal to (omega arith), tt)))));
      shallow = omega arith;
      is = rw (one_read, to_read);
      texts = (
        IsUtf8-are_ascii (codes "copy_base") refl,
        one_text,
        (
          IsUtf8-are_ascii (codes "per_byte") refl,
          one_text,
          (
            IsUtf8-are_ascii (codes "per_step") refl,
            one_text,
            (IsUtf8-are_ascii (codes "run_base") refl, one_text, (IsUtf8-are_ascii (codes "to") refl, number_utf8 to small, tt)),
          ),
        ),
      );
    }

pub move_back : (j : ℕ) → j ≤ 4000 → read (compact_text (moving j)) ≡ Some (moving j)
unfolding moving
move_back j small = message_back (codes "f1") (codes "m" ++ decimal j) (codes "migrate_request") (costs (j / 4 % 3)) (moves_back (j / 4 % 3) (omega arith))

pub move_text : (j : ℕ) → j ≤ 4000 → is_utf8 (compact_text (moving j)) ≡ true
unfolding moving
move_text j small =
    message_text (codes "f1") (codes "m" ++ decimal j) (codes "migrate_request") (costs (j / 4 % 3)) (moves_back (j / 4 % 3) (omega arith))
    (IsUtf8-are_ascii (codes "f1") refl) (numbered 109 j small (IsUtf8-are_ascii (codes "m") refl)) (IsUtf8-are_ascii (codes "migrate_request") refl)
