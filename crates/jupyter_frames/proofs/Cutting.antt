-- Frames at the front of bytes.
use Rattle.std.proofs.Common.{◌≡◌, ℕ, zero, suc, ◌+◌, ◌-◌, ◌<◌, ◌≤◌, ◌⊎◌, inl, inr, List, [], ◌∷◌, ◌++◌, length, take, drop, refl, sym, ap, ◌∙◌, subst, append_assoc, arith}
use Rattle.std.specs.Prelude.{get_or, Result, Ok, Err, IfOk}
use Rattle.std.specs.List.{flat_map, All, AllByRecursion}
use Rattle.std.specs.Int.{w32, to_be_bytes}
use Rattle.std.proofs.lemmas.Bool.{cases_lt}
use Rattle.std.proofs.lemmas.Nat.{be_bytes_4, from_be_bytes-to_be_bytes_4}
use Rattle.std.proofs.lemmas.List.{length-append, take_rest, take-append-drop, take_at, drop_at, drop-drop, length-take, length-take-le, length-drop, get_or_past, get_or-take, get_or-drop}
use Rattle.jupyter_frames.specs.Framing.{most_bytes, frame, IsBody, length_of, stream, IsRest, Cutting}

-- ---- what is read

abbrev pub IsBytes : List ℕ → Type 0
IsBytes bytes = (i : ℕ) → get_or bytes i 0 < 256

pub part_length : (bytes : List ℕ) (n : ℕ) → 4 + n ≤ length bytes → length (take n (drop 4 bytes)) ≡ n
part_length bytes n long = length-take-le n (drop 4 bytes) (omega (arith, long, length-drop 4 bytes))

part_fits : (n : ℕ) (bytes : List ℕ) → IsBytes bytes → IsBytes (take n bytes)
part_fits n bytes fits i =
    elim (cases_lt i n) [
      | inl lt ↦ rw (get_or-take n bytes i 0 lt) (fits i)
      | inr le ↦ rw (get_or_past (take n bytes) i 0 (omega (arith, length-take n bytes))) (omega arith)
    ]

pub whole : (bytes : List ℕ) (n : ℕ) → IsBytes bytes → n ≡ length_of bytes → 4 + n ≤ length bytes → frame (take n (drop 4 bytes)) ++ drop (4 + n) bytes ≡ bytes
whole bytes n fits is long =
    let body = take n (drop 4 bytes) in
    let count : length body ≡ n = part_length bytes n long in
    let head : to_be_bytes w32 n ≡ take 4 bytes = be_bytes_4 (take 4 bytes) n (length-take-le 4 bytes (omega (arith, long))) (part_fits 4 bytes fits) is in
    ap (λ k. (to_be_bytes w32 k ++ body) ++ drop (4 + n) bytes) count ∙ ap (λ z. (z ++ body) ++ drop (4 + n) bytes) head
    ∙ append_assoc (take 4 bytes) body (drop (4 + n) bytes) ∙ ap (λ z. take 4 bytes ++ (body ++ z)) (sym (drop-drop n 4 bytes))
    ∙ ap (λ z. take 4 bytes ++ z) (take-append-drop n (drop 4 bytes)) ∙ take-append-drop 4 bytes

pub cut_whole : (bytes body : List ℕ) (n k : ℕ) → IsBytes bytes → n ≡ length_of bytes → 4 + n ≤ length bytes → k ≡ n → body ≡ take k (drop 4 bytes)
    → (length body ≡ n) × (frame body ++ drop (4 + n) bytes ≡ bytes)
cut_whole bytes body n k fits is long same cut =
    let here : body ≡ take n (drop 4 bytes) = cut ∙ ap (λ m. take m (drop 4 bytes)) same in
    (ap length here ∙ part_length bytes n long, ap (λ z. frame z ++ drop (4 + n) bytes) here ∙ whole bytes n fits is long)

pub map_ok : {A E : Type 0} {P Q : A → Type 0} (r : Result A E) → ((x : A) → P x → Q x) → IfOk r P → IfOk r Q
map_ok (Ok x) f h = f x h
map_ok (Err e) f h = tt

-- what is held from a place on
pub held_is : (v items : List ℕ) (at : ℕ) → v ≡ items → take (length v - at) (drop at v) ≡ drop at items
held_is v items at same = take_rest v at ∙ ap (drop at) same

pub next_is : (items held body : List ℕ) (at n : ℕ) → held ≡ drop at items → frame body ++ drop (4 + n) held ≡ held → drop at items ≡ frame body ++ drop (at + (4 + n)) items
next_is items held body at n is cut =
    sym is ∙ sym cut ∙ ap (λ z. frame body ++ drop (4 + n) z) is ∙ ap (λ z. frame body ++ z) (drop-drop (4 + n) at items)

-- ---- one cutting

length_said : (body x : List ℕ) → IsBody body → length_of (frame body ++ x) ≡ length body
length_said body x h = from_be_bytes-to_be_bytes_4 (length body) (omega (arith, h.1))

pub frame_length : (body x : List ℕ) → length (frame body ++ x) ≡ 4 + (length body + length x)
frame_length body x = let l = length-append body x in omega (arith, l)

bad_case : (n k : ℕ) → n ≡ k → (0 < k) × (k ≤ most_bytes) → (n ≡ 0) ⊎ (most_bytes < n) → ⊥
bad_case n k is h (inl none) = omega (arith, is, h.0, none)
bad_case n k is h (inr more) = omega (arith, is, h.1, more)

pub no_rest : (body x : List ℕ) → IsBody body → IsRest (frame body ++ x) → ⊥
no_rest body x h (inl (inl few)) = omega (arith, few, frame_length body x)
no_rest body x h (inl (inr begun)) = omega (arith, begun.2, frame_length body x, length_said body x h)
no_rest body x h (inr (n, bad)) = bad_case n (length body) (bad.1 ∙ length_said body x h) h bad.2

pub same_front : (b c x y : List ℕ) → IsBody b → IsBody c → frame b ++ x ≡ frame c ++ y → (b ≡ c) × (x ≡ y)
same_front b c x y h k e =
    let count : length b ≡ length c = sym (length_said b x h) ∙ ap length_of e ∙ length_said c y k in
    let tails : b ++ x ≡ c ++ y = ap (drop 4) e in (
      sym (take_at b x (length b) refl) ∙ ap (take (length b)) tails ∙ take_at c y (length b) (sym count),
      sym (drop_at b x (length b) refl) ∙ ap (drop (length b)) tails ∙ drop_at c y (length b) (sym count),
    )

pub one_cutting : (bodies others : List (List ℕ)) (rest other : List ℕ) → AllByRecursion IsBody bodies → AllByRecursion IsBody others
    → IsRest rest → IsRest other → stream bodies rest ≡ stream others other → (bodies ≡ others) × (rest ≡ other)
one_cutting [] [] rest other h k r s e = (refl, e)
one_cutting [] (c ∷ cs) rest other h k r s e =
    absurd (no_rest c (flat_map frame cs ++ other) k.0 (subst IsRest (e ∙ append_assoc (frame c) (flat_map frame cs) other) r))
one_cutting (b ∷ bs) [] rest other h k r s e =
    absurd (no_rest b (flat_map frame bs ++ rest) h.0 (subst IsRest (sym e ∙ append_assoc (frame b) (flat_map frame bs) rest) s))
one_cutting (b ∷ bs) (c ∷ cs) rest other h k r s e =
    let both = same_front b c (flat_map frame bs ++ rest) (flat_map frame cs ++ other) h.0 k.0
    (sym (append_assoc (frame b) (flat_map frame bs) rest) ∙ e ∙ append_assoc (frame c) (flat_map frame cs) other) in
    let more = one_cutting bs cs rest other h.1 k.1 r s both.1 in
    (ap (λ z. z ∷ bs) both.0 ∙ ap (λ zs. c ∷ zs) more.0, more.1)

-- ---- a cutting of every stream

bytes_of_all : (bytes : List ℕ) → All (λ b. b < 256) bytes → IsBytes bytes
bytes_of_all bytes all i =
    elim (cases_lt i (length bytes)) [
      | inl lt ↦ all i 0 lt
      | inr le ↦ rw (get_or_past bytes i 0 le) (omega arith)
    ]

bytes_dropped : (n : ℕ) (bytes : List ℕ) → IsBytes bytes → IsBytes (drop n bytes)
bytes_dropped n bytes fits i = rw (get_or-drop n bytes i 0) (fits (n + i))

-- no whole frame is at the front
no_frame : (bytes : List ℕ) → IsRest bytes → Cutting bytes
no_frame bytes rest = record { bodies = []; rest = bytes; are_bodies = tt; is_rest = rest; is_stream = refl }

-- a whole frame is at the front
frame_first : (bytes : List ℕ) (n : ℕ) → IsBytes bytes → n ≡ length_of bytes → 4 + n ≤ length bytes → (0 < n) × (n ≤ most_bytes) → Cutting (drop (4 + n) bytes) → Cutting bytes
frame_first bytes n fits is long sized more =
    let body = take n (drop 4 bytes) in
    let count : length body ≡ n = part_length bytes n long in
    record {
      bodies = body ∷ more.bodies;
      rest = more.rest;
      are_bodies = ((omega (arith, count, sized.0), omega (arith, count, sized.1)), more.are_bodies);
      is_rest = more.is_rest;
      is_stream = sym (whole bytes n fits is long) ∙ ap (λ z. frame body ++ z) more.is_stream ∙ sym (append_assoc (frame body) (flat_map frame more.bodies) more.rest);
    }

-- by the most bytes that are left
cut_on : (most : ℕ) (bytes : List ℕ) → length bytes ≤ most → IsBytes bytes → Cutting bytes
cut_on zero bytes few fits = no_frame bytes (inl (inl (omega (arith, few))))
cut_on (suc most) bytes few fits =
    let n = length_of bytes in
    elim (cases_lt (length bytes) 4) [
      | inl short ↦ no_frame bytes (inl (inl short))
      | inr four ↦ elim (cases_lt 0 n) [
        | inr none ↦ no_frame bytes (inr (n, (four, refl, inl (omega (arith, none)))))
        | inl some ↦ elim (cases_lt most_bytes n) [
          | inl over ↦ no_frame bytes (inr (n, (four, refl, inr over)))
          | inr within ↦ elim (cases_lt (length bytes) (4 + n)) [
            | inl begun ↦ no_frame bytes (inl (inr (some, within, begun)))
            | inr long ↦ frame_first bytes n fits refl long (some, within)
                (cut_on most (drop (4 + n) bytes) (omega (arith, few, long, length-drop (4 + n) bytes)) (bytes_dropped (4 + n) bytes fits))
          ]
        ]
      ]
    ]

pub cutting_of : (bytes : List ℕ) → All (λ b. b < 256) bytes → Cutting bytes
cutting_of bytes all = cut_on (length bytes) bytes (omega arith) (bytes_of_all bytes all)
