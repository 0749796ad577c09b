-- Bytes written piece by piece.
use Rattle.std.proofs.Common.{◌≡◌, ℕ, List, [], ◌++◌, take, drop, Option, Some, None, Result, Ok, Err, OnOk, OnErr, refl, ap, sym, ◌∙◌, subst, append_assoc}
use Rattle.std.proofs.lemmas.List.{append-nil, take-append-drop}
use Rattle.nb_outside.specs.Streams.{Adds}
pub use Rattle.node_run.specs.Frames.{AddsFront, WritesSoFar}

pub Adds-none : (old : Option (List ℕ)) → Adds old old []
Adds-none None = refl
Adds-none (Some had) = ap Some (sym (append-nil had))

pub Adds-both : (old mid new : Option (List ℕ)) (a b : List ℕ) → Adds old mid a → Adds mid new b → Adds old new (a ++ b)
Adds-both None mid new a b p q = subst (λ m. Adds m new b) p q
Adds-both (Some had) mid new a b p q =
    let step : new ≡ Some ((had ++ a) ++ b) = subst (λ m. Adds m new b) p q in
    step ∙ ap Some (append_assoc had a b)

pub none_written : (old : Option (List ℕ)) (bytes : List ℕ) → WritesSoFar old old bytes bytes
none_written old bytes = record { done = []; parts = refl; adds = Adds-none old }

-- a piece more
pub piece_written : (old mid new : Option (List ℕ)) (bytes rest piece more : List ℕ) → WritesSoFar old mid bytes rest → rest ≡ piece ++ more → Adds mid new piece → WritesSoFar old new bytes more
piece_written old mid new bytes rest piece more w is adds = record {
  done = w.done ++ piece;
  parts = w.parts ∙ ap (λ ys. w.done ++ ys) is ∙ sym (append_assoc w.done piece more);
  adds = Adds-both old mid new w.done piece w.adds adds;
}

pub more_written : (old mid new : Option (List ℕ)) (bytes rest : List ℕ) (n : ℕ) → WritesSoFar old mid bytes rest → Adds mid new (take n rest)
    → WritesSoFar old new bytes (drop n rest)
more_written old mid new bytes rest n w a = piece_written old mid new bytes rest (take n rest) (drop n rest) w (sym (take-append-drop n rest)) a

-- only the first bytes of the next piece
pub front_written : (old mid new : Option (List ℕ)) (bytes rest piece more : List ℕ) → WritesSoFar old mid bytes rest → rest ≡ piece ++ more → AddsFront mid new piece → AddsFront old new bytes
front_written old mid new bytes rest piece more w is (front, back, parts, adds) = (
  w.done ++ front,
  back ++ more,
  w.parts ∙ ap (λ ys. w.done ++ ys) (is ∙ ap (λ ys. ys ++ more) parts ∙ append_assoc front back more) ∙ sym (append_assoc w.done front (back ++ more)),
  Adds-both old mid new w.done front w.adds adds,
)

pub all_written : (old new : Option (List ℕ)) (bytes rest : List ℕ) → WritesSoFar old new bytes rest → rest ≡ [] → Adds old new bytes
all_written old new bytes rest w none =
    subst (Adds old new) (sym (w.parts ∙ ap (λ ys. w.done ++ ys) none ∙ append-nil w.done)) w.adds

-- ---- two pieces, one after the other

pub front_first : (old new : Option (List ℕ)) (a b : List ℕ) → AddsFront old new a → AddsFront old new (a ++ b)
front_first old new a b (front, back, parts, adds) = (front, back ++ b, ap (λ ys. ys ++ b) parts ∙ append_assoc front back b, adds)

pub front_second : (old mid new : Option (List ℕ)) (a b : List ℕ) → Adds old mid a → AddsFront mid new b → AddsFront old new (a ++ b)
front_second old mid new a b first (front, back, parts, adds) =
    (a ++ front, back, ap (λ ys. a ++ ys) parts ∙ sym (append_assoc a front back), Adds-both old mid new a front first adds)

pub map_err : {A E : Type 0} {P Q : Type 0} (r : Result A E) → OnErr r P → (P → Q) → OnErr r Q
map_err (Ok a) h f = tt
map_err (Err e) h f = f h

-- ---- bytes that are gathered before they are written

-- a piece is gathered, and of what was gathered the first bytes are written
pub gathered_on : (old mid new : Option (List ℕ)) (bytes rest had kept piece more : List ℕ) → WritesSoFar old mid bytes (had ++ rest) → rest ≡ piece ++ more
    → WritesSoFar mid new (had ++ piece) kept → WritesSoFar old new bytes (kept ++ more)
gathered_on old mid new bytes rest had kept piece more w is step = piece_written old mid new bytes (had ++ rest) step.done (kept ++ more) w
    (ap (λ ys. had ++ ys) is ∙ sym (append_assoc had piece more) ∙ ap (λ ys. ys ++ more) step.parts ∙ append_assoc step.done kept more) step.adds

-- only the first bytes of what was gathered, and of the next piece
pub gathered_front : (old mid new : Option (List ℕ)) (bytes rest had piece more : List ℕ) → WritesSoFar old mid bytes (had ++ rest) → rest ≡ piece ++ more
    → AddsFront mid new (had ++ piece) → AddsFront old new bytes
gathered_front old mid new bytes rest had piece more w is front = front_written old mid new bytes (had ++ rest) (had ++ piece) more w
    (ap (λ ys. had ++ ys) is ∙ sym (append_assoc had piece more)) front

pub map_ok : {A E : Type 0} {P Q : Type 0} (r : Result A E) → OnOk r P → (P → Q) → OnOk r Q
map_ok (Ok a) h f = f h
map_ok (Err e) h f = tt
