-- What draws make of a feed.
use Rattle.std.proofs.Common.{◌≡◌, ℕ, zero, suc, ◌+◌, ◌<◌, ◌≤◌, List, [], ◌∷◌, ◌++◌, Option, Some, None, refl, ap, sym, append_assoc, ◌∙◌, subst, ◌⊎◌, inl, inr, arith}
use Rattle.std.specs.Prelude.{replicate, Contains}
use Rattle.std.proofs.lemmas.List.{replicate-append-replicate, append-nil}
use Rattle.std.proofs.lemmas.List.Elements.{Contains-append_cases, Contains-push_cases}
use Rattle.nb_outside.specs.declared.feed.Drawn.{Drawn}
use Rattle.nb_outside.specs.declared.feed.Drawn.TheVariants.{Failed}
use Rattle.nb_outside.specs.Counts.{HasRisen}
use Rattle.nb_outside.specs.Feeds.{Seen, IsNext, Gives, AreFirst, AreTaken, Fed}

-- ---- faults

risen_before : (a b c : ℕ) → HasRisen a b → b ≤ c → HasRisen a c
risen_before a b c (inl h) k = inl (omega arith)
risen_before a b c (inr h) k = inr (omega arith)

risen_after : (a b c : ℕ) → a ≤ b → HasRisen b c → HasRisen a c
risen_after a b c k (inl h) = inl (omega arith)
risen_after a b c k (inr h) = inr h

fails : (xs ys : List Drawn) (a b c : ℕ) → a ≤ b → b ≤ c → (Contains xs Failed → HasRisen a b) → (Contains ys Failed → HasRisen b c)
    → Contains xs Failed ⊎ Contains ys Failed → HasRisen a c
fails xs ys a b c h k f g (inl old) = risen_before a b c (f old) k
fails xs ys a b c h k f g (inr new) = risen_after a b c h (g new)

-- ---- nothing

taken_none : (o : Option (List Drawn)) → AreTaken o [] o
taken_none None = refl
taken_none (Some answers) = (
  answers,
  refl,
  record {
    given = [];
    failures = 0;
    answers_are = refl;
    drawn_are = refl;
    none_left = λ k. absurd (omega (arith, k));
  },
)

pub fed_none : (s : Seen) → Fed s [] s
fed_none s = record {
  made = refl;
  left = taken_none s.left;
  faults = omega arith;
  failed = λ k. absurd (omega (arith, k.1));
}

-- ---- one draw

taken_one : (l r : Option (List Drawn)) (d : Drawn) → IsNext l d r → AreTaken l (d ∷ []) r
taken_one None r d h = h
taken_one (Some []) r d h = (
  [],
  h.1,
  record {
    given = [];
    failures = 1;
    answers_are = refl;
    drawn_are = ap (λ x. x ∷ []) h.0;
    none_left = λ k. refl;
  },
)
taken_one (Some (y ∷ ys)) r d h = (
  ys,
  h.1,
  record {
    given = y ∷ [];
    failures = 0;
    answers_are = refl;
    drawn_are = ap (λ x. x ∷ []) h.0;
    none_left = λ k. absurd (omega (arith, k));
  },
)

only_case : (d : Drawn) → Contains [] Failed ⊎ (d ≡ Failed) → d ≡ Failed
only_case d (inl none) = absurd (omega (arith, none.1))
only_case d (inr is) = is

only : (d : Drawn) → Contains (d ∷ []) Failed → d ≡ Failed
only d k = only_case d (Contains-push_cases [] d Failed k)

pub fed_one : (s t : Seen) (d : Drawn) → Gives s d t → Fed s (d ∷ []) t
fed_one s t d g = record {
  made = g.made;
  left = taken_one s.left t.left d g.left;
  faults = g.faults;
  failed = λ k. g.failed (only d k);
}

-- ---- some draws after others

both_empty : (xs ys : List Drawn) → xs ++ ys ≡ [] → (xs ≡ []) × (ys ≡ [])
both_empty [] ys e = (refl, e)
both_empty (x ∷ xs) ys e = cc

-- the second draws come after all that was given, so if the first failed, the second do too
joined : (answers xs ys more rest given next : List Drawn) (n m : ℕ) → answers ≡ given ++ more → xs ≡ given ++ replicate n Failed → (0 < n → more ≡ [])
    → more ≡ next ++ rest → ys ≡ next ++ replicate m Failed → (0 < m → rest ≡ []) → AreFirst answers (xs ++ ys) rest
joined answers xs ys more rest given next zero m a x none b y later = record {
  given = given ++ next;
  failures = m;
  answers_are = a ∙ ap (λ z. given ++ z) b ∙ sym (append_assoc given next rest);
  drawn_are = ap (λ z. z ++ ys) (x ∙ append-nil given) ∙ ap (λ z. given ++ z) y ∙ sym (append_assoc given next (replicate m Failed));
  none_left = later;
}
joined answers xs ys more rest given next (suc n) m a x none b y later =
    let spent : more ≡ [] = none (omega arith) in
    let neither : (next ≡ []) × (rest ≡ []) = both_empty next rest (sym b ∙ spent) in
    record {
      given = given;
      failures = suc n + m;
      answers_are = a ∙ ap (λ z. given ++ z) (spent ∙ sym neither.1);
      drawn_are = ap (λ z. z ++ ys) x ∙ ap (λ z. (given ++ replicate (suc n) Failed) ++ z) (y ∙ ap (λ z. z ++ replicate m Failed) neither.0)
          ∙ append_assoc given (replicate (suc n) Failed) (replicate m Failed) ∙ ap (λ z. given ++ z) (replicate-append-replicate (suc n) m Failed);
      none_left = λ k. neither.1;
    }

taken_more : (a b c : Option (List Drawn)) (xs ys : List Drawn) → AreTaken a xs b → AreTaken b ys c → AreTaken a (xs ++ ys) c
taken_more None b c xs ys t u = subst (λ z. AreTaken z ys c) t u
taken_more (Some answers) b c xs ys (more, is, t) u =
    let next = subst (λ z. AreTaken z ys c) is u in
    let v = next.2 in (
      next.0,
      next.1,
      joined answers xs ys more next.0 t.given v.given t.failures v.failures t.answers_are t.drawn_are t.none_left v.answers_are v.drawn_are v.none_left,
    )

pub fed_more : (a b c : Seen) (xs ys : List Drawn) → Fed a xs b → Fed b ys c → Fed a (xs ++ ys) c
fed_more a b c xs ys f g = record {
  made = g.made ∙ f.made;
  left = taken_more a.left b.left c.left xs ys f.left g.left;
  faults = omega (arith, f.faults, g.faults);
  failed = λ k. fails xs ys a.faults b.faults c.faults f.faults g.faults f.failed g.failed (Contains-append_cases xs ys Failed k);
}
