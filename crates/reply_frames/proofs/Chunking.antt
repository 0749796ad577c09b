-- A list said in chunks.
use Rattle.std.proofs.Common.{◌≡◌, ℕ, zero, suc, ◌<◌, List, [], ◌∷◌, length, refl, sym, ap, ◌∙◌, arith}
use Rattle.std.specs.Prelude.{map, take, drop, true, false, ◌==◌}
use Rattle.std.proofs.lemmas.Bool.Decides.{nat_tests}
use Rattle.std.proofs.lemmas.List.{take-map, drop-map}
use Rattle.serde_json.specs.View.{view}
use Rattle.serde_json.specs.Data.{Data}
use Rattle.serde_json.specs.declared.value.Value.{Value}
use Rattle.reply_frames.specs.declared.lists.Listing.{Listing}
use Rattle.reply_frames.specs.Frames.{Outgoing, say, say_all}
use Rattle.reply_frames.specs.Replies.{listed, chunks}

said_on : (which : Listing) (left n : ℕ) (d : Data) (ds : List Data) (chunk rest : List Data) (o said : Outgoing)
    → take n (d ∷ ds) ≡ chunk → drop n (d ∷ ds) ≡ rest → said ≡ say (listed which chunk) o
    → say_all (map (listed which) (chunks left n rest)) said ≡ say_all (map (listed which) (chunks (suc left) n (d ∷ ds))) o
unfolding chunks
said_on which left n d ds chunk rest o said front back is =
    ap (λ s. say_all (map (listed which) (chunks left n rest)) s) (is ∙ ap (λ p. say (listed which p) o) (sym front))
    ∙ ap (λ r. say_all (map (listed which) (chunks left n r)) (say (listed which (take n (d ∷ ds))) o)) (sym back)

pub chunk_said : (which : Listing) (left n : ℕ) (vs chunk rest : List Value) (o said : Outgoing) → 0 < length vs → chunk ≡ take n vs → rest ≡ drop n vs
    → said ≡ say (listed which (map view chunk)) o
    → say_all (map (listed which) (chunks left n (map view rest))) said ≡ say_all (map (listed which) (chunks (suc left) n (map view vs))) o
chunk_said which left n [] chunk rest o said some front back is = absurd (omega (arith, some))
chunk_said which left n (v ∷ vs) chunk rest o said some front back is =
    said_on which left n (view v) (map view vs) (map view chunk) (map view rest) o said
    (take-map view n (v ∷ vs) ∙ ap (map view) (sym front)) (drop-map view n (v ∷ vs) ∙ ap (map view) (sym back)) is

nothing_said : (which : Listing) (left n : ℕ) (o : Outgoing) → say_all (map (listed which) (chunks left n [])) o ≡ o
unfolding chunks
nothing_said which zero n o = refl
nothing_said which (suc left) n o = refl

pub none_left : (which : Listing) (left n : ℕ) (vs : List Value) (o : Outgoing) → length vs ≡ 0 → say_all (map (listed which) (chunks left n (map view vs))) o ≡ o
none_left which left n [] o none = nothing_said which left n o
none_left which left n (v ∷ vs) o none = absurd (omega (arith, none))

pub no_turn_left : (which : Listing) (n : ℕ) (ds : List Data) (o : Outgoing) → say_all (map (listed which) (chunks 0 n ds)) o ≡ o
unfolding chunks
no_turn_left which n ds o = refl

pub some_there : (n : ℕ) → false ≡ (n == 0) → 0 < n
some_there n e = grind (arith, nat_tests)

pub none_there : (n : ℕ) → true ≡ (n == 0) → n ≡ 0
none_there n e = grind (arith, nat_tests)
