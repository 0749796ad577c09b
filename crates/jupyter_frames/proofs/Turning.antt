-- Turns of a stream, whatever its pieces.
use Rattle.std.proofs.Common.{◌≡◌, ℕ, ◌+◌, ◌≤◌, inl, inr, List, [], ◌∷◌, ◌++◌, length, refl, sym, ap, ◌∙◌, subst, append_assoc, arith}
use Rattle.std.specs.List.{flat_map, AllByRecursion}
use Rattle.std.proofs.lemmas.List.{append-nil}
use Rattle.jupyter_frames.specs.declared.framer.FrameFault.TheVariants.{BadLength, Cut}
use Rattle.jupyter_frames.specs.declared.framer.Next.{Next}
use Rattle.jupyter_frames.specs.declared.framer.Next.TheVariants.{Frame, NotYet, Bad, OutOfMemory}
use Rattle.jupyter_frames.specs.Framing.{last_place, frame, IsBody, IsRest, stream, Cutting, place_after, Held}
use Rattle.jupyter_frames.specs.Answers.{Gives}
use Rattle.jupyter_frames.specs.Turns.{Turn, comes, asks, nothing_held, DoAll, came, given, SaysNone}
use Rattle.jupyter_frames.proofs.Cutting.{frame_length, same_front, no_rest, one_cutting}

-- frames are the first ones of a stream of which they are a beginning
first_ones : (bodies all : List (List ℕ)) (held rest : List ℕ) → AllByRecursion IsBody bodies → AllByRecursion IsBody all → IsRest rest
    → stream bodies held ≡ stream all rest → (more : List (List ℕ)) × (all ≡ bodies ++ more)
first_ones [] all held rest h k r e = (all, refl)
first_ones (b ∷ bs) [] held rest h k r e =
    absurd (no_rest b (flat_map frame bs ++ held) h.0 (subst IsRest (sym e ∙ append_assoc (frame b) (flat_map frame bs) held) r))
first_ones (b ∷ bs) (c ∷ cs) held rest h k r e =
    let both = same_front b c (flat_map frame bs ++ held) (flat_map frame cs ++ rest) h.0 k.0
    (sym (append_assoc (frame b) (flat_map frame bs) held) ∙ e ∙ append_assoc (frame c) (flat_map frame cs) rest) in
    let more = first_ones bs cs held rest h.1 k.1 r both.1 in
    (more.0, ap (λ z. z ∷ cs) (sym both.0) ∙ ap (λ zs. b ∷ zs) more.1)

-- what is kept by turns in which these bytes came and these bodies were given
record Goes (old : Held) (bytes : List ℕ) (bodies : List (List ℕ)) (new : Held) : Type 0 where
  is_stream : old.bytes ++ bytes ≡ stream bodies new.bytes
  are_bodies : AllByRecursion IsBody bodies
  place : old.place ≤ last_place → new.place ≡ place_after old.place (length (flat_map frame bodies))

place_more : (p n : ℕ) (body : List ℕ) (bodies : List (List ℕ)) → n ≡ 4 + length body
    → place_after (place_after p n) (length (flat_map frame bodies)) ≡ place_after p (length (flat_map frame (body ∷ bodies)))
place_more p n body bodies is = omega (arith, is, frame_length body (flat_map frame bodies))

unchanged : (old held new : Held) (bytes : List ℕ) (bodies : List (List ℕ)) → held ≡ old → Goes held bytes bodies new → Goes old bytes bodies new
unchanged old held new bytes bodies same goes = subst (λ h. Goes h bytes bodies new) same goes

goes_all : (turns : List Turn) (old new : Held) → DoAll old turns new → Goes old (came turns) (given turns) new
goes_all [] old new same = record {
  is_stream = append-nil old.bytes ∙ ap (λ (h : Held). h.bytes) (sym same);
  are_bodies = tt;
  place = λ small. ap (λ (h : Held). h.place) same ∙ omega (arith, small);
}
goes_all (comes piece ∷ turns) old new (held, does, more) =
    let goes = goes_all turns held new more in record {
      is_stream = sym (append_assoc old.bytes piece (came turns)) ∙ ap (λ (h : Held). h.bytes ++ came turns) (sym does) ∙ goes.is_stream;
      are_bodies = goes.are_bodies;
      place = λ small. goes.place (subst (λ (h : Held). h.place ≤ last_place) (sym does) small) ∙ ap (λ (h : Held). place_after h.place (length (flat_map frame (given turns)))) does;
    }
goes_all (asks (Frame body) ∷ turns) old new (held, does, more) =
    let goes = goes_all turns held new more in record {
      is_stream = ap (λ z. z ++ came turns) does.1 ∙ append_assoc (frame body) held.bytes (came turns) ∙ ap (λ z. frame body ++ z) goes.is_stream
          ∙ sym (append_assoc (frame body) (flat_map frame (given turns)) new.bytes);
      are_bodies = (does.0, goes.are_bodies);
      place = λ small. goes.place (omega (arith, does.2)) ∙ ap (λ p. place_after p (length (flat_map frame (given turns)))) does.2
          ∙ place_more old.place (4 + length body) body (given turns) refl;
    }
goes_all (asks NotYet ∷ turns) old new (held, does, more) = unchanged old held new (came turns) (given turns) does.1 (goes_all turns held new more)
goes_all (asks (Bad (BadLength place n)) ∷ turns) old new (held, does, more) = unchanged old held new (came turns) (given turns) does.2 (goes_all turns held new more)
goes_all (asks (Bad (Cut place)) ∷ turns) old new (held, does, more) = absurd does
goes_all (asks OutOfMemory ∷ turns) old new (held, does, more) = unchanged old held new (came turns) (given turns) does (goes_all turns held new more)

none_left : (held new : Held) (next : Next) → Gives held next new → SaysNone next → IsRest held.bytes
none_left held new (Frame body) gives none = absurd none
none_left held new NotYet gives none = inl gives.0
none_left held new (Bad (BadLength place n)) gives none = inr (n, gives.0)
none_left held new (Bad (Cut place)) gives none = absurd gives
none_left held new OutOfMemory gives none = absurd none

pub came_is : (turns : List Turn) (held : Held) → DoAll nothing_held turns held → came turns ≡ stream (given turns) held.bytes
came_is turns held all = (goes_all turns nothing_held held all).is_stream

pub place_is : (turns : List Turn) (held : Held) → DoAll nothing_held turns held → held.place ≡ place_after 0 (length (flat_map frame (given turns)))
place_is turns held all = (goes_all turns nothing_held held all).place (omega arith)

pub are_first : (turns : List Turn) (held : Held) (cut : Cutting (came turns)) → DoAll nothing_held turns held → (more : List (List ℕ)) × (cut.bodies ≡ given turns ++ more)
are_first turns held cut all =
    let goes = goes_all turns nothing_held held all in
    first_ones (given turns) cut.bodies held.bytes cut.rest goes.are_bodies cut.are_bodies cut.is_rest (sym goes.is_stream ∙ cut.is_stream)

pub are_all : (turns : List Turn) (held new : Held) (next : Next) (cut : Cutting (came turns)) → DoAll nothing_held turns held → Gives held next new → SaysNone next
    → (cut.bodies ≡ given turns) × (cut.rest ≡ held.bytes)
are_all turns held new next cut all gives none =
    let goes = goes_all turns nothing_held held all in
    one_cutting cut.bodies (given turns) cut.rest held.bytes cut.are_bodies goes.are_bodies cut.is_rest (none_left held new next gives none) (sym cut.is_stream ∙ goes.is_stream)
