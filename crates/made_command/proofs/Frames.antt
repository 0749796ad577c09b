-- The frames of a stream, put together.
use Rattle.std.proofs.Common.{◌≡◌, ℕ, zero, suc, ◌+◌, ◌%◌, ◌≤◌, Bool, true, false, List, [], ◌∷◌, ◌++◌, map, refl, sym, ap, subst, ◌∙◌, arith, append_assoc, append-nil}
use Rattle.std.specs.Prelude.{◌==◌, if◌then◌else◌}
use Rattle.std.specs.List.{flat_map, AllByRecursion}
use Rattle.std.proofs.lemmas.List.{map-append}
use Rattle.std.proofs.lemmas.List.Concat.{flat_map-append}
use Rattle.serde_json.specs.Written.{compact_text, has_float}
use Rattle.jupyter_frames.specs.Framing.{frame, IsBody}
use Rattle.made_command.specs.Made.{asked, cell, framed, message, moving, opening, sent, stream}
use Rattle.made_command.proofs.Short.{opening_read, cell_read, move_read}

pub cell_alone : (j : ℕ) (old new : List ℕ) → (j % 4 == 0) ≡ false → new ≡ old ++ frame (compact_text (cell j)) → new ≡ old ++ framed (asked j)
unfolding asked
cell_alone j old new other is =
    is ∙ ap (λ (bs : List ℕ). old ++ bs) (sym (append-nil (frame (compact_text (cell j)))) ∙ ap (λ (b : Bool). framed (cell j ∷ (if b then moving j ∷ [] else []))) (sym other))

pub cell_and_move : (j : ℕ) (old mid new : List ℕ) → (j % 4 == 0) ≡ true → mid ≡ old ++ frame (compact_text (cell j)) → new ≡ mid ++ frame (compact_text (moving j)) → new ≡ old ++ framed (asked j)
unfolding asked
cell_and_move j old mid new fourth is after =
    let one = frame (compact_text (cell j)) in
    let two = frame (compact_text (moving j)) in
    after ∙ (ap (λ (bs : List ℕ). bs ++ two) is ∙ (append_assoc old one two
    ∙ ap (λ (bs : List ℕ). old ++ bs) (ap (λ (bs : List ℕ). one ++ bs) (sym (append-nil two)) ∙ ap (λ (b : Bool). framed (cell j ∷ (if b then moving j ∷ [] else []))) (sym fourth))))

pub stream_begins : (new : List ℕ) → new ≡ frame (compact_text opening) → new ≡ stream 0
unfolding stream sent
stream_begins new is = is ∙ sym (append-nil (frame (compact_text opening)))

pub stream_more : (before : ℕ) (old new : List ℕ) → old ≡ stream before → new ≡ old ++ framed (asked (before + 1)) → new ≡ stream (before + 1)
unfolding stream sent
stream_more before old new is after =
    let next : before + 1 ≡ suc before = omega arith in
    let all = sent before in
    let more = asked (suc before) in
    after ∙ (ap (λ (bs : List ℕ). bs ++ framed (asked (before + 1))) is ∙ (ap (λ (j : ℕ). framed all ++ framed (asked j)) next
    ∙ (sym (ap (flat_map frame) (map-append compact_text all more) ∙ flat_map-append frame (map compact_text all) (map compact_text more)) ∙ ap (λ (j : ℕ). stream j) (sym next))))

-- ---- each is a body that is read

all_both : (xs ys : List (List ℕ)) → AllByRecursion IsBody xs → AllByRecursion IsBody ys → AllByRecursion IsBody (xs ++ ys)
all_both [] ys a b = b
all_both (x ∷ xs) ys a b = (a.0, all_both xs ys a.1 b)

-- a cell, and the move after it
either_body : (b : Bool) (j : ℕ) → j ≤ 4000 → AllByRecursion IsBody (map compact_text (cell j ∷ (if b then moving j ∷ [] else [])))
either_body true j small = (cell_read j small, (move_read j small, tt))
either_body false j small = (cell_read j small, tt)

asked_bodies : (j : ℕ) → j ≤ 4000 → AllByRecursion IsBody (map compact_text (asked j))
unfolding asked
asked_bodies j small = either_body (j % 4 == 0) j small

pub sent_bodies : (n : ℕ) → n ≤ 4000 → AllByRecursion IsBody (map compact_text (sent n))
unfolding sent
sent_bodies zero small = (opening_read, tt)
sent_bodies (suc before) small =
    let fewer : before ≤ 4000 = omega arith in
    subst (AllByRecursion IsBody) (sym (map-append compact_text (sent before) (asked (suc before))))
    (all_both (map compact_text (sent before)) (map compact_text (asked (suc before))) (sent_bodies before fewer) (asked_bodies (suc before) small))

-- no message has a float
pub opening_whole : has_float opening ≡ false
unfolding opening message
opening_whole = refl

pub cell_whole : (j : ℕ) → has_float (cell j) ≡ false
unfolding cell message
cell_whole j = refl

pub move_whole : (j : ℕ) → has_float (moving j) ≡ false
unfolding moving message
move_whole j = refl
