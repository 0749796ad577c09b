-- Bytes that are held on their way to a sink.
use Rattle.std.proofs.Common.{◌≡◌, ℕ, List, [], ◌++◌, take, drop, Option, Some, None, Result, Ok, Err, OnOk, OnErr, refl, ap, sym, ◌∙◌, subst, append_assoc}
use Rattle.std.proofs.lemmas.List.{append-nil, take-append-drop}
use Rattle.nb_outside.specs.Streams.{Adds}
pub use Rattle.checkpoint_bytes.specs.Written.{AddsFront, WritesSoFar}

none_added : (old : Option (List ℕ)) → Adds old old []
none_added None = refl
none_added (Some had) = ap Some (sym (append-nil had))

pub both_added : (old mid new : Option (List ℕ)) (a b : List ℕ) → Adds old mid a → Adds mid new b → Adds old new (a ++ b)
both_added None mid new a b p q = subst (λ m. Adds m new b) p q
both_added (Some had) mid new a b p q =
    let step : new ≡ Some ((had ++ a) ++ b) = subst (λ m. Adds m new b) p q in
    step ∙ ap Some (append_assoc had a b)

-- ---- fronts

pub nothing_written : (old : Option (List ℕ)) (bytes : List ℕ) → AddsFront old old bytes
nothing_written old bytes = ([], bytes, refl, none_added old)

pub front_first : (old new : Option (List ℕ)) (a b : List ℕ) → AddsFront old new a → AddsFront old new (a ++ b)
front_first old new a b (front, back, parts, adds) = (front, back ++ b, ap (λ ys. ys ++ b) parts ∙ append_assoc front back b, adds)

pub front_second : (old mid new : Option (List ℕ)) (a b : List ℕ) → Adds old mid a → AddsFront mid new b → AddsFront old new (a ++ b)
front_second old mid new a b first (front, back, parts, adds) =
    (a ++ front, back, ap (λ ys. a ++ ys) parts ∙ sym (append_assoc a front back), both_added old mid new a front first adds)

-- ---- what is held

pub all_held : (old : Option (List ℕ)) (bytes : List ℕ) → WritesSoFar old old bytes bytes
all_held old bytes = record { done = []; parts = refl; adds = none_added old }

pub none_held : (old new : Option (List ℕ)) (bytes held : List ℕ) → Adds old new bytes → held ≡ [] → WritesSoFar old new bytes held
none_held old new bytes held adds none = record { done = bytes; parts = sym (append-nil bytes) ∙ ap (λ ys. bytes ++ ys) (sym none); adds = adds }

pub more_written : (old mid new : Option (List ℕ)) (bytes rest : List ℕ) (n : ℕ) → WritesSoFar old mid bytes rest → Adds mid new (take n rest)
    → WritesSoFar old new bytes (drop n rest)
more_written old mid new bytes rest n w adds = record {
  done = w.done ++ take n rest;
  parts = w.parts ∙ ap (λ ys. w.done ++ ys) (sym (take-append-drop n rest)) ∙ sym (append_assoc w.done (take n rest) (drop n rest));
  adds = both_added old mid new w.done (take n rest) w.adds adds;
}

pub front_written : (old new : Option (List ℕ)) (bytes rest : List ℕ) → WritesSoFar old new bytes rest → AddsFront old new bytes
front_written old new bytes rest w = (w.done, rest, w.parts, w.adds)

pub all_written : (old mid new : Option (List ℕ)) (bytes held : List ℕ) → WritesSoFar old mid bytes held → Adds mid new held → Adds old new bytes
all_written old mid new bytes held w adds = subst (Adds old new) (sym w.parts) (both_added old mid new w.done held w.adds adds)

pub first_written : (old mid new : Option (List ℕ)) (bytes held : List ℕ) → WritesSoFar old mid bytes held → AddsFront mid new held → AddsFront old new bytes
first_written old mid new bytes held w front = subst (AddsFront old new) (sym w.parts) (front_second old mid new w.done held w.adds front)

-- a piece is put after what is held
pub put : (old mid new : Option (List ℕ)) (bytes held piece left : List ℕ) → WritesSoFar old mid bytes held → WritesSoFar mid new (held ++ piece) left → WritesSoFar old new (bytes ++ piece) left
put old mid new bytes held piece left w v = record {
  done = w.done ++ v.done;
  parts = ap (λ ys. ys ++ piece) w.parts ∙ append_assoc w.done held piece ∙ ap (λ ys. w.done ++ ys) v.parts ∙ sym (append_assoc w.done v.done left);
  adds = both_added old mid new w.done v.done w.adds v.adds;
}

pub put_front : (old mid new : Option (List ℕ)) (bytes held piece : List ℕ) → WritesSoFar old mid bytes held → AddsFront mid new (held ++ piece) → AddsFront old new (bytes ++ piece)
put_front old mid new bytes held piece w front =
    subst (AddsFront old new) (sym (ap (λ ys. ys ++ piece) w.parts ∙ append_assoc w.done held piece)) (front_second old mid new w.done (held ++ piece) w.adds front)

-- of bytes after those that were held at first, a piece more is put
pub put_next : (old mid new : Option (List ℕ)) (first done piece next held left : List ℕ) → WritesSoFar old mid (first ++ done) held → next ≡ done ++ piece → WritesSoFar mid new (held ++ piece) left
    → WritesSoFar old new (first ++ next) left
put_next old mid new first done piece next held left w is v =
    subst (λ zs. WritesSoFar old new zs left) (append_assoc first done piece ∙ ap (λ zs. first ++ zs) (sym is)) (put old mid new (first ++ done) held piece left w v)

pub put_next_front : (old mid new : Option (List ℕ)) (first done piece more all held : List ℕ) → WritesSoFar old mid (first ++ done) held → all ≡ (done ++ piece) ++ more → AddsFront mid new (held ++ piece)
    → AddsFront old new (first ++ all)
put_next_front old mid new first done piece more all held w is front =
    subst (AddsFront old new) (ap (λ zs. zs ++ more) (append_assoc first done piece) ∙ append_assoc first (done ++ piece) more ∙ ap (λ zs. first ++ zs) (sym is))
    (front_first old new ((first ++ done) ++ piece) more (put_front old mid new (first ++ done) held piece w front))

-- ---- if it went well, and if not

pub map_ok : {A E : Type 0} {P Q : Type 0} (r : Result A E) → OnOk r P → (P → Q) → OnOk r Q
map_ok (Ok a) h f = f h
map_ok (Err e) h f = tt

pub map_err : {A E : Type 0} {P Q : Type 0} (r : Result A E) → OnErr r P → (P → Q) → OnErr r Q
map_err (Ok a) h f = tt
map_err (Err e) h f = f h

pub on_ok : {A E : Type 0} {P : Type 0} (r : Result A E) → P → OnOk r P
on_ok (Ok a) h = h
on_ok (Err e) h = tt

pub on_err : {A E : Type 0} {P : Type 0} (r : Result A E) → P → OnErr r P
on_err (Ok a) h = tt
on_err (Err e) h = h
