-- What has begun to be sent can be sent whole.
use Rattle.std.proofs.Common.{◌≡◌, inl, inr, List, [], ◌∷◌, ◌++◌, refl, sym, subst, append_assoc, append-nil}
use Rattle.node_serve.specs.Interleaving.{Interleaves, IsPutTo, AreFronts}
use Rattle.node_serve.proofs.Interleaving.{goes_on}

module _ {A : Type 0} where
  pub put_at : (before after : List (List A)) (l : List A) (x : A) → IsPutTo (before ++ l ∷ after) x (before ++ (l ++ x ∷ []) ∷ after)
  put_at [] after l x = inl refl
  put_at (b ∷ before) after l x = inr (before ++ (l ++ x ∷ []) ∷ after, put_at before after l x, refl)

  -- one list goes on to its end
  one_on : (before after : List (List A)) (l more : List A) (xs : List A) → Interleaves (before ++ l ∷ after) xs → Interleaves (before ++ (l ++ more) ∷ after) (xs ++ more)
  one_on before after l [] xs h =
      subst (λ z. Interleaves (before ++ z ∷ after) (xs ++ [])) (sym (append-nil l)) (subst (λ z. Interleaves (before ++ l ∷ after) z) (sym (append-nil xs)) h)
  one_on before after l (x ∷ more) xs h =
      let next = goes_on (before ++ l ∷ after) (before ++ (l ++ x ∷ []) ∷ after) xs x h (put_at before after l x) in
      let all = one_on before after (l ++ x ∷ []) more (xs ++ x ∷ []) next in
      subst (λ z. Interleaves (before ++ z ∷ after) (xs ++ x ∷ more)) (append_assoc l (x ∷ []) more) (subst (λ z. Interleaves (before ++ ((l ++ x ∷ []) ++ more) ∷ after) z) (append_assoc xs (x ∷ []) more) all)

  all_on : (before lists longer : List (List A)) (xs : List A) → AreFronts lists longer → Interleaves (before ++ lists) xs → (more : List A) × Interleaves (before ++ longer) (xs ++ more)
  all_on before [] [] xs fronts h = ([], subst (λ z. Interleaves (before ++ []) z) (sym (append-nil xs)) h)
  all_on before [] (m ∷ longer) xs fronts h = absurd fronts
  all_on before (l ∷ lists) [] xs fronts h = absurd fronts
  all_on before (l ∷ lists) (m ∷ longer) xs fronts h =
      let one = one_on before lists l fronts.0.0 xs h in
      let here = subst (λ z. Interleaves (before ++ z ∷ lists) (xs ++ fronts.0.0)) (sym fronts.0.1) one in
      let there = subst (λ z. Interleaves z (xs ++ fronts.0.0)) (sym (append_assoc before (m ∷ []) lists)) here in
      let rest = all_on (before ++ m ∷ []) lists longer (xs ++ fronts.0.0) fronts.1 there in
      (fronts.0.0 ++ rest.0, subst (λ z. Interleaves (before ++ m ∷ longer) z) (append_assoc xs fronts.0.0 rest.0) (subst (λ z. Interleaves z ((xs ++ fronts.0.0) ++ rest.0)) (append_assoc before (m ∷ []) longer) rest.1))

  -- an interleaving of fronts is the front of one
  pub goes_on_to_the_end : (lists longer : List (List A)) (xs : List A) → AreFronts lists longer → Interleaves lists xs → (more : List A) × Interleaves longer (xs ++ more)
  goes_on_to_the_end lists longer xs fronts h = all_on [] lists longer xs fronts h

  pub fronts_all : (lists : List (List A)) → AreFronts lists lists
  fronts_all [] = tt
  fronts_all (l ∷ lists) = (([], sym (append-nil l)), fronts_all lists)

  -- one of the lists goes on, and so do those after it
  pub fronts_at : (before after later : List (List A)) (l m : List A) → ((more : List A) × (m ≡ l ++ more)) → AreFronts after later → AreFronts (before ++ l ∷ after) (before ++ m ∷ later)
  fronts_at [] after later l m goes fronts = (goes, fronts)
  fronts_at (b ∷ before) after later l m goes fronts = (([], sym (append-nil b)), fronts_at before after later l m goes fronts)
