-- The messages of the stream are short.
use Rattle.std.proofs.Common.{◌≡◌, ℕ, zero, suc, ◌+◌, ◌*◌, ◌<◌, ◌≤◌, ◌%◌, ◌/◌, ◌==◌, Bool, true, false, List, [], ◌∷◌, ◌++◌, length, length-append, decimal, codes, map, ap, ◌∙◌, arith}
use Rattle.std.specs.Prelude.{if◌then◌else◌}
use Rattle.std.specs.List.{flat_map}
use Rattle.std.specs.Int.{w32, to_be_bytes}
use Rattle.std.proofs.lemmas.Fmt.{length-decimal-le}
use Rattle.std.proofs.lemmas.List.{map-append}
use Rattle.std.proofs.lemmas.List.Concat.{flat_map-append}
use Rattle.serde_json.specs.Data.{Data, string}
use Rattle.serde_json.specs.Written.{compact_text}
use Rattle.jupyter_frames.specs.Framing.{frame, IsBody}
use Rattle.reply_frames.specs.Messages.{json, whole}
use Rattle.made_command.specs.Made.{first_code, later_code, code_of, session_of, message, opening, cell, moving, asked, sent, framed, stream}
use Rattle.made_command.proofs.Sizes.{room, HasShortNumbers, text_short}

-- ---- its parts

pub number_short : (n : ℕ) → n ≤ 4000 → length (decimal n) ≤ 4
number_short n small = length-decimal-le 4 n (omega arith) (omega arith) (omega arith)

either_short : (b : Bool) (xs ys : List ℕ) (n : ℕ) → length xs ≤ n → length ys ≤ n → length (if b then xs else ys) ≤ n
either_short true xs ys n one two = one
either_short false xs ys n one two = two

first_short : length first_code ≤ 110
unfolding first_code
first_short = omega arith

added_short : (j : ℕ) → j ≤ 4000 → length (codes "add(d, \"k" ++ (decimal (j % 7) ++ (codes "\", " ++ (decimal j ++ codes ")")))) ≤ 110
added_short j small =
    let key = number_short (j % 7) (omega arith) in
    let number = number_short j small in
    let outer = length-append (decimal (j % 7)) (codes "\", " ++ (decimal j ++ codes ")")) in
    let inner = length-append (decimal j) (codes ")") in
    omega (arith, key, number, outer, inner)

later_short : (j : ℕ) → j ≤ 4000 → length (later_code j) ≤ 110
unfolding later_code
later_short j small =
    let printed : length (codes "print(total)") ≤ 110 = omega arith in
    let counted : length (codes "for k in d:\n    total += len(d[k])") ≤ 110 = omega arith in
    let keys : length (codes "total += len(d)") ≤ 110 = omega arith in
    either_short (j % 4 == 0) _ _ 110 (added_short j small)
    (either_short (j % 4 == 1) _ _ 110 keys (either_short (j % 4 == 2) _ _ 110 counted printed))

code_short : (j : ℕ) → j ≤ 4000 → length (code_of j) ≤ 110
code_short j small = either_short (j == 1) _ _ 110 first_short (later_short j small)

pub session_short : (j : ℕ) → length (session_of j) ≤ 2
session_short j = either_short (j % 2 == 1) _ _ 2 (omega arith) (omega arith)

-- ---- the messages

within : (text : List ℕ) (n : ℕ) → length text ≤ n → 0 < length text → n ≤ 4000 → IsBody text
within text n short some small = (some, omega arith)

message_some : (session id type : List ℕ) (content : Data) → 0 < length (compact_text (message session id type content))
unfolding message
message_some session id type content = omega arith

message_short : (session id type : List ℕ) (content : Data) → HasShortNumbers content → length session ≤ 2 → length id ≤ 5 → length type ≤ 19 → room content ≤ 1000
    → length (compact_text (message session id type content)) ≤ 4000
unfolding message
message_short session id type content short one two three four =
    let all : HasShortNumbers (message session id type content) = (tt, (short, (((tt, (tt, (tt, (tt, (tt, (tt, tt)))))), (tt, tt))))) in
    let fits : room (message session id type content) ≤ 4000 = omega arith in
    omega (arith, text_short (message session id type content) all, fits)

numbered : (letter j : ℕ) → j ≤ 4000 → length (letter ∷ decimal j) ≤ 5
numbered letter j small = omega (arith, number_short j small)

zero_short : length (decimal 0) ≤ 20
zero_short = omega (arith, number_short 0 (omega arith))

opening_short : length (compact_text opening) ≤ 4000
unfolding opening
opening_short = message_short (codes "f1") (codes "o") (codes "kernel_open_request") (json ((codes "host", whole 0) ∷ [])) (zero_short, tt) (omega arith) (omega arith) (omega arith) (omega arith)

cell_short : (j : ℕ) → j ≤ 4000 → length (compact_text (cell j)) ≤ 4000
unfolding cell
cell_short j small =
    message_short (session_of j) (codes "c" ++ decimal j) (codes "execute_request") (json ((codes "code", string (code_of j)) ∷ [])) (tt, tt)
    (session_short j) (numbered 99 j small) (omega arith) (omega (arith, code_short j small))

-- what a move to this host says
abbrev pub costs : ℕ → Data
costs to = json ((codes "copy_base", whole 1) ∷ (codes "per_byte", whole 1) ∷ (codes "per_step", whole 1) ∷ (codes "run_base", whole 1) ∷ (codes "to", whole to) ∷ [])

costs_short : (to : ℕ) → to ≤ 4000 → HasShortNumbers (costs to)
costs_short to small =
    let one : length (decimal 1) ≤ 20 = omega (arith, number_short 1 (omega arith)) in
    let host : length (decimal to) ≤ 20 = omega (arith, number_short to small) in
    (one, (one, (one, (one, (host, tt)))))

move_short : (j : ℕ) → j ≤ 4000 → length (compact_text (moving j)) ≤ 4000
unfolding moving
move_short j small =
    message_short (codes "f1") (codes "m" ++ decimal j) (codes "migrate_request") (costs (j / 4 % 3)) (costs_short (j / 4 % 3) (omega arith))
    (omega arith) (numbered 109 j small) (omega arith) (omega arith)

-- each begins with a bracket
opening_some : 0 < length (compact_text opening)
unfolding opening
opening_some = message_some (codes "f1") (codes "o") (codes "kernel_open_request") (json ((codes "host", whole 0) ∷ []))

cell_some : (j : ℕ) → 0 < length (compact_text (cell j))
unfolding cell
cell_some j = message_some (session_of j) (codes "c" ++ decimal j) (codes "execute_request") (json ((codes "code", string (code_of j)) ∷ []))

move_some : (j : ℕ) → 0 < length (compact_text (moving j))
unfolding moving
move_some j = message_some (codes "f1") (codes "m" ++ decimal j) (codes "migrate_request") (costs (j / 4 % 3))

pub opening_read : IsBody (compact_text opening)
opening_read = within (compact_text opening) 4000 opening_short opening_some (omega arith)

pub cell_read : (j : ℕ) → j ≤ 4000 → IsBody (compact_text (cell j))
cell_read j small = within (compact_text (cell j)) 4000 (cell_short j small) (cell_some j) (omega arith)

pub move_read : (j : ℕ) → j ≤ 4000 → IsBody (compact_text (moving j))
move_read j small = within (compact_text (moving j)) 4000 (move_short j small) (move_some j) (omega arith)

-- ---- the stream

framed_join : (ds es : List Data) → length (framed (ds ++ es)) ≡ length (framed ds) + length (framed es)
framed_join ds es =
    ap (λ (ts : List (List ℕ)). length (flat_map frame ts)) (map-append compact_text ds es)
    ∙ (ap length (flat_map-append frame (map compact_text ds) (map compact_text es)) ∙ length-append (framed ds) (framed es))

one_framed : (d : Data) → length (compact_text d) ≤ 4000 → length (framed (d ∷ [])) ≤ 4004
one_framed d short =
    let parts = length-append (frame (compact_text d)) [] in
    omega (arith, parts, length-append (to_be_bytes w32 (length (compact_text d))) (compact_text d))

two_framed : (d e : Data) → length (compact_text d) ≤ 4000 → length (compact_text e) ≤ 4000 → length (framed (d ∷ e ∷ [])) ≤ 8008
two_framed d e one two = omega (arith, framed_join (d ∷ []) (e ∷ []), one_framed d one, one_framed e two)

either_framed : (b : Bool) (j : ℕ) → j ≤ 4000 → length (framed (cell j ∷ (if b then moving j ∷ [] else []))) ≤ 8008
either_framed true j small = two_framed (cell j) (moving j) (cell_short j small) (move_short j small)
either_framed false j small = omega (arith, one_framed (cell j) (cell_short j small))

asked_framed : (j : ℕ) → j ≤ 4000 → length (framed (asked j)) ≤ 8008
unfolding asked
asked_framed j small = either_framed (j % 4 == 0) j small

sent_framed : (n : ℕ) → n ≤ 4000 → length (framed (sent n)) ≤ 4004 + 8008 * n
unfolding sent
sent_framed zero small = one_framed opening opening_short
sent_framed (suc before) small =
    let before_small : before ≤ 4000 = omega arith in
    omega (arith, framed_join (sent before) (asked (suc before)), sent_framed before before_small, asked_framed (suc before) small)

pub stream_short : (n : ℕ) → n ≤ 4000 → length (stream n) < 4294967295
unfolding stream
stream_short n small = omega (arith, sent_framed n small)
