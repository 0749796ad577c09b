-- An interleaving goes on by what is put at the end of one of its lists, or by one list more.
use Rattle.std.proofs.Common.{◌≡◌, inl, inr, List, [], ◌∷◌, ◌++◌, refl, sym, ap, subst}
use Rattle.std.specs.List.{AllByRecursion}
use Rattle.node_serve.specs.Interleaving.{IsTakenOf, Interleaves, IsPutTo}

module _ {A : Type 0} where
  abbrev AreEmpty : List (List A) → Type 0
  AreEmpty lists = AllByRecursion (λ l. l ≡ []) lists

  -- what is first of a list is first of the longer list
  taken_still : (lists left longer : List (List A)) (x y : A) → IsTakenOf lists y left → IsPutTo lists x longer
      → (later : List (List A)) × IsTakenOf longer y later × IsPutTo left x later
  taken_still [] left longer x y taken put = absurd taken
  taken_still (l ∷ lists) left longer x y (inl t) (inl to) = let later = (t.0 ++ x ∷ []) ∷ lists in (
    later,
    subst (λ z. IsTakenOf z y later) (sym to) (inl (t.0 ++ x ∷ [], ap (λ z. z ++ x ∷ []) t.1, refl)),
    subst (λ z. IsPutTo z x later) (sym t.2) (inl refl),
  )
  taken_still (l ∷ lists) left longer x y (inl t) (inr p) = let later = t.0 ∷ p.0 in (
    later,
    subst (λ z. IsTakenOf z y later) (sym p.2) (inl (t.0, t.1, refl)),
    subst (λ z. IsPutTo z x later) (sym t.2) (inr (p.0, p.1, refl)),
  )
  taken_still (l ∷ lists) left longer x y (inr t) (inl to) = let later = (l ++ x ∷ []) ∷ t.0 in (
    later,
    subst (λ z. IsTakenOf z y later) (sym to) (inr (t.0, t.1, refl)),
    subst (λ z. IsPutTo z x later) (sym t.2) (inl refl),
  )
  taken_still (l ∷ lists) left longer x y (inr t) (inr p) = let more = taken_still lists t.0 p.0 x y t.1 p.1 in let later = l ∷ more.0 in (
    later,
    subst (λ z. IsTakenOf z y later) (sym p.2) (inr (more.0, more.1, refl)),
    subst (λ z. IsPutTo z x later) (sym t.2) (inr (more.0, more.2, refl)),
  )

  -- what is put to empty lists can be taken of them, and then they are empty
  taken_back : (lists longer : List (List A)) (x : A) → AreEmpty lists → IsPutTo lists x longer
      → (later : List (List A)) × IsTakenOf longer x later × AreEmpty later
  taken_back [] longer x empty put = absurd put
  taken_back (l ∷ lists) longer x empty (inl to) = let later = [] ∷ lists in (
    later,
    subst (λ z. IsTakenOf z x later) (sym to) (inl ([], ap (λ z. z ++ x ∷ []) empty.0, refl)),
    (refl, empty.1),
  )
  taken_back (l ∷ lists) longer x empty (inr p) = let more = taken_back lists p.0 x empty.1 p.1 in let later = l ∷ more.0 in (
    later,
    subst (λ z. IsTakenOf z x later) (sym p.2) (inr (more.0, more.1, refl)),
    (empty.0, more.2),
  )

  pub goes_on : (lists longer : List (List A)) (xs : List A) (x : A) → Interleaves lists xs → IsPutTo lists x longer → Interleaves longer (xs ++ x ∷ [])
  goes_on lists longer [] x h put = taken_back lists longer x h put
  goes_on lists longer (y ∷ xs) x h put = let more = taken_still lists h.0 longer x y h.1 put in (more.0, more.1, goes_on h.0 more.0 xs x h.2 more.2)

  -- ---- more lists

  taken_beside : (lists left others : List (List A)) (x : A) → IsTakenOf lists x left → IsTakenOf (lists ++ others) x (left ++ others)
  taken_beside [] left others x taken = absurd taken
  taken_beside (l ∷ lists) left others x (inl t) = inl (t.0, t.1, ap (λ z. z ++ others) t.2)
  taken_beside (l ∷ lists) left others x (inr t) = inr (t.0 ++ others, taken_beside lists t.0 others x t.1, ap (λ z. z ++ others) t.2)

  empty_beside : (lists others : List (List A)) → AreEmpty lists → AreEmpty others → AreEmpty (lists ++ others)
  empty_beside [] others h also = also
  empty_beside (l ∷ lists) others h also = (h.0, empty_beside lists others h.1 also)

  pub lists_more : (lists others : List (List A)) (xs : List A) → Interleaves lists xs → AllByRecursion (λ l. l ≡ []) others → Interleaves (lists ++ others) xs
  lists_more lists others [] h empty = empty_beside lists others h empty
  lists_more lists others (x ∷ xs) h empty = (h.0 ++ others, taken_beside lists h.0 others x h.1, lists_more h.0 others xs h.2 empty)
