-- A table of texts that is written text by text, and what is written before and after it.
use Rattle.std.proofs.Common.{◌≡◌, ℕ, ◌+◌, ◌<◌, List, [], ◌∷◌, ◌++◌, length, get_or, take, drop, Option, Some, refl, ap, sym, ◌∙◌, subst, append_assoc, arith}
use Rattle.std.specs.Prelude.{slice_get}
use Rattle.std.specs.List.{flat_map}
use Rattle.std.proofs.lemmas.List.{append-nil, take_more, take-append-drop, take_all}
use Rattle.std.proofs.lemmas.Grind.{flat_map-append}
use Rattle.std.proofs.lemmas.Option.{slice_get_within, get_or_from_slice_get}
use Rattle.nb_outside.specs.Streams.{Adds}
use Rattle.checkpoint_bytes.specs.Written.{AddsFront, WritesSoFar}
use Rattle.checkpoint_bytes.proofs.Written.{put, put_front, front_first}

module _ {A : Type 0} (f : A → List ℕ) where
  -- the bytes of one item more
  pub one_more : (xs : List A) (i : ℕ) (x : A) → slice_get xs i ≡ Some x → flat_map f (take (i + 1) xs) ≡ flat_map f (take i xs) ++ f x
  one_more xs i x at =
      let front : take (i + 1) xs ≡ take i xs ++ x ∷ [] = take_more xs i x (slice_get_within xs i x at) ∙ ap (λ (y : A). take i xs ++ y ∷ []) (get_or_from_slice_get xs i x x at) in
      ap (flat_map f) front ∙ (flat_map-append f (take i xs) (x ∷ []) ∙ ap (λ (zs : List ℕ). flat_map f (take i xs) ++ zs) (append-nil (f x)))

  -- the bytes of the first items, of the next, and of the others
  pub in_three : (xs : List A) (i : ℕ) (x : A) → slice_get xs i ≡ Some x → flat_map f xs ≡ (flat_map f (take i xs) ++ f x) ++ flat_map f (drop (i + 1) xs)
  in_three xs i x at =
      ap (flat_map f) (sym (take-append-drop (i + 1) xs))
      ∙ (flat_map-append f (take (i + 1) xs) (drop (i + 1) xs) ∙ ap (λ (zs : List ℕ). zs ++ flat_map f (drop (i + 1) xs)) (one_more xs i x at))

module _ (old mid new : Option (List ℕ)) {A : Type 0} (f : A → List ℕ) (begun : List ℕ) (xs : List A) (i : ℕ) (x : A) (at : slice_get xs i ≡ Some x) (held : List ℕ)
    (w : WritesSoFar old mid (begun ++ flat_map f (take i xs)) held) where
  -- an item is put after those before it
  pub put_item : (left : List ℕ) → WritesSoFar mid new (held ++ f x) left → WritesSoFar old new (begun ++ flat_map f (take (i + 1) xs)) left
  put_item left v =
      subst (λ (zs : List ℕ). WritesSoFar old new zs left) (append_assoc begun (flat_map f (take i xs)) (f x) ∙ ap (λ (zs : List ℕ). begun ++ zs) (sym (one_more f xs i x at)))
      (put old mid new (begun ++ flat_map f (take i xs)) held (f x) left w v)

  pub put_item_front : AddsFront mid new (held ++ f x) → AddsFront old new (begun ++ flat_map f xs)
  put_item_front front =
      let rest : List ℕ = flat_map f (drop (i + 1) xs) in
      let first : List ℕ = flat_map f (take i xs) in
      let is : (begun ++ first) ++ f x ++ rest ≡ begun ++ flat_map f xs =
      ap (λ (zs : List ℕ). zs ++ rest) (append_assoc begun first (f x)) ∙ (append_assoc begun (first ++ f x) rest ∙ ap (λ (zs : List ℕ). begun ++ zs) (sym (in_three f xs i x at))) in
      subst (AddsFront old new) is (front_first old new ((begun ++ first) ++ f x) rest (put_front old mid new (begun ++ first) held (f x) w front))
