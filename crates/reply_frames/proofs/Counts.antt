-- How many messages tell an entry.
use Rattle.std.proofs.Common.{◌≡◌, ℕ, zero, suc, ◌+◌, ◌-◌, ◌^◌, ◌<◌, ◌≤◌, List, [], ◌∷◌, ◌++◌, length, drop, refl, ap, sym, ◌∙◌, arith, codes}
use Rattle.std.specs.Prelude.{map, false, Option}
use Rattle.std.specs.Int.{div_ceil}
use Rattle.std.proofs.lemmas.Grind.{div_ceil_times}
use Rattle.std.proofs.lemmas.List.{length-append, length-map, length-drop}
use Rattle.plain_data.specs.Cuts.{pieces, cut_within}
use Rattle.serde_json.specs.Data.{Data}
use Rattle.graph_model.specs.declared.plan.Certified.{Certified}
use Rattle.session_core.specs.declared.request.Request.{Request}
use Rattle.session_core.specs.declared.reply.Failure.{Failure}
use Rattle.reply_frames.specs.declared.lists.Listing.{Listing}
use Rattle.reply_frames.specs.declared.lists.Listing.TheVariants as listing
use Rattle.reply_frames.specs.Messages.{Said, streams, stream, idle}
use Rattle.reply_frames.specs.Replies as spec
use Rattle.reply_frames.specs.Replies.{chunks, listed, lists, between}

-- ---- printed text

piece_counted : (left n : ℕ) (text more : List ℕ) → 0 < length text → more ≡ drop (cut_within n text) text → length (pieces (suc left) n text) ≡ suc (length (pieces left n more))
unfolding pieces
piece_counted left n [] more some back = absurd (omega (arith, some))
piece_counted left n (c ∷ cs) more some back = ap (λ t. suc (length (pieces left n t))) (sym back)

no_piece : (left n : ℕ) (text : List ℕ) → length text ≡ 0 → length (pieces left n text) ≡ 0
unfolding pieces
no_piece zero n text none = refl
no_piece (suc left) n [] none = refl
no_piece (suc left) n (c ∷ cs) none = absurd (omega (arith, none))

no_turn : (n : ℕ) (text : List ℕ) → length (pieces 0 n text) ≡ 0
unfolding pieces
no_turn n text = refl

-- after some turns so many pieces are cut off, and with those of the rest they are all
abbrev pub AreCut : ℕ → ℕ → List ℕ → ℕ → Type 0
AreCut turn len rest all = turn + length (pieces (len - turn) 65536 rest) ≡ all

pub one_cut : (turn len all : ℕ) (rest more : List ℕ) → turn < len → 0 < length rest → more ≡ drop (cut_within 65536 rest) rest → AreCut turn len rest all → AreCut (turn + 1) len more all
one_cut turn len all rest more before some back are =
    let left : ℕ = len - (turn + 1) in
    let turns : len - turn ≡ suc left = omega (arith, before) in
    let same = ap (λ (k : ℕ). length (pieces k 65536 rest)) turns in
    let step = piece_counted left 65536 rest more some back in
    omega (arith, are, same, step)

pub none_left : (turn len all : ℕ) (rest : List ℕ) → length rest ≡ 0 → AreCut turn len rest all → turn ≡ all
none_left turn len all rest none are = let nothing = no_piece (len - turn) 65536 rest none in omega (arith, are, nothing)

pub all_turns : (turn len all : ℕ) (rest : List ℕ) → len ≤ turn → turn ≤ len → AreCut turn len rest all → len ≡ all
all_turns turn len all rest past within are =
    let none : len - turn ≡ 0 = omega (arith, past) in
    let same = ap (λ (k : ℕ). length (pieces k 65536 rest)) none in
    omega (arith, are, same, no_turn 65536 rest, past, within)

pub streams_counted : (printed : List ℕ) (count : ℕ) → count ≡ length (pieces (length printed) 65536 printed) → count ≡ length (streams printed)
streams_counted printed count is = is ∙ sym (length-map (pieces (length printed) 65536 printed) stream)

-- ---- lists

-- one chunk less, by its first items
ceil_step : (k : ℕ) → 0 < k → div_ceil k 4096 ≡ suc (div_ceil (k - 4096) 4096)
ceil_step k some =
    let all = div_ceil_times k 4096 (omega arith) in
    let rest = div_ceil_times (k - 4096) 4096 (omega arith) in
    omega (arith, some, all.0, all.1, rest.0, rest.1)

chunks_counted : (left : ℕ) (ds : List Data) → length ds ≤ left → length (chunks left 4096 ds) ≡ div_ceil (length ds) 4096
unfolding chunks
chunks_counted zero [] few = refl
chunks_counted zero (d ∷ ds) few = absurd (omega (arith, few))
chunks_counted (suc left) [] few = refl
chunks_counted (suc left) (d ∷ ds) few =
    let dropped = length-drop 4096 (d ∷ ds) in
    let more = chunks_counted left (drop 4096 (d ∷ ds)) (omega (arith, few, dropped)) in
    ap suc (more ∙ ap (λ (k : ℕ). div_ceil k 4096) dropped) ∙ sym (ceil_step (length (d ∷ ds)) (omega arith))

pub lists_counted : (which : Listing) (ds : List Data) (n : ℕ) → length ds ≡ n → length (lists which ds) ≡ div_ceil n 4096
unfolding lists
lists_counted which ds n is =
    length-map (chunks (length ds) 4096 ds) (listed which) ∙ chunks_counted (length ds) ds (omega arith) ∙ ap (λ (k : ℕ). div_ceil k 4096) is

pub ceil_small : (n : ℕ) → n < 2 ^ 64 → div_ceil n 4096 < 2 ^ 53
ceil_small n small = let all = div_ceil_times n 4096 (omega arith) in omega (arith, small, all.1)

-- ---- entries

between_two : (said : List Said) → length (between said) ≡ length said + 2
between_two said = let l = length-append said (idle ∷ []) in omega (arith, l)

pub cell_counted : (request : Request) (count : ℕ) (printed : List ℕ) (shown : Option (List ℕ)) (failure : Option Failure) (s o n : ℕ) → s ≡ length (streams printed) → o ≡ length (spec.outcome count shown failure)
    → n ≡ (s + o) + 2 → n ≡ length (spec.cell_said false request count printed shown failure)
unfolding spec.cell_said
cell_counted request count printed shown failure s o n is_s is_o is_n =
    let reply = spec.cell_reply request count failure in
    let l = length-append (streams printed) (spec.outcome count shown failure ++ reply ∷ []) in
    let m = length-append (spec.outcome count shown failure) (reply ∷ []) in
    omega (arith, l, m, is_s, is_o, is_n)

pub between_counted : (said : List Said) (k n : ℕ) → k ≡ length said → n ≡ k + 2 → n ≡ length (between said)
between_counted said k n is_k is_n = let l = between_two said in omega (arith, l, is_k, is_n)

pub adopted_counted : (request : Request) (from to objects : ℕ) (c : Certified) (s p f n : ℕ) → s ≡ length c.plan.copied + length c.plan.rerun
    → ((which : Listing) (ds : List Data) → length ds ≡ s → length (lists which ds) ≡ p)
    → ((which : Listing) (ds : List Data) → length ds ≡ length c.arcs → length (lists which ds) ≡ f)
    → n ≡ (p + f) + 3 → n ≡ length (between (spec.adopted_said request from to c objects))
unfolding spec.adopted_said spec.steps
adopted_counted request from to objects c s p f n is_s are_p are_f is_n =
    let reply = spec.move_reply request (spec.moved_content from to c objects) in
    let steps = spec.steps c.plan in
    let arcs = map spec.arc_said c.arcs in
    let many = length-append (map (spec.step (codes "copy")) c.plan.copied) (map (spec.step (codes "run")) c.plan.rerun) in
    let first = are_p listing.Plan steps (omega (arith, many, is_s, length-map c.plan.copied (spec.step (codes "copy")), length-map c.plan.rerun (spec.step (codes "run")))) in
    let second = are_f listing.Flow arcs (length-map c.arcs spec.arc_said) in
    let l = length-append (lists listing.Plan steps) (lists listing.Flow arcs ++ reply ∷ []) in
    let m = length-append (lists listing.Flow arcs) (reply ∷ []) in
    let all = between_two (spec.adopted_said request from to c objects) in
    omega (arith, l, m, first, second, all, is_n)
