-- How many objects and texts are referred to from one spot to another.
use Rattle.std.proofs.Common.{◌≡◌, ℕ, ◌+◌, ◌<◌, ◌≤◌, ◌==◌, Bool, true, false, List, [], ◌∷◌, ◌++◌, length, map, Option, Some, None, refl, sym, ap, ◌∙◌, inl, inr, arith}
use Rattle.std.specs.Prelude.{nat_lt}
use Rattle.std.specs.Option.{unwrap_or}
use Rattle.std.proofs.lemmas.Bool.{cases_Bool}
use Rattle.std.proofs.lemmas.List.{map-append}
use Rattle.part_bytes.specs.Tables.{number_of}
use Rattle.part_bytes.specs.Texts.{text_bytes, by_number}
use Rattle.checkpoint_reader.specs.declared.forms.Texts.{Texts}
use Rattle.checkpoint_reader.specs.declared.forms.Texts.TheVariants.{InPlace, Numbered}
use Rattle.checkpoint_laws.specs.SpelledParts.{counted}

-- ---- numbers, each of which was counted or is the next one

pub some_same : (a b : ℕ) → Some a ≡ Some b → a ≡ b
some_same a b e = ap (λ (o : Option ℕ). unwrap_or o 0) e

pub counted_grows : (ns : List ℕ) (met next : ℕ) → counted met ns ≡ Some next → met ≤ next
counted_grows [] met next e = let same = some_same met next e in omega (arith, same)
counted_grows (n ∷ ns) met next e = elim (cases_Bool (nat_lt n met)) [
  | inl t ↦ counted_grows ns met next (rw t at e)
  | inr f ↦ elim (cases_Bool (n == met)) [
    | inl t ↦ let l = counted_grows ns (met + 1) next (rw (f, t) at e) in omega (arith, l)
    | inr g ↦ let none : None ≡ Some next = rw (f, g) at e in cc
  ]
]

-- numbers in lists that are joined
pub record CountedTo (met : ℕ) (ms ns : List ℕ) (next : ℕ) : Type 0 where
  pub mid : ℕ
  pub first : counted met ms ≡ Some mid
  pub rest : counted mid ns ≡ Some next

pub counted_old : (m : ℕ) (ms : List ℕ) (met next : ℕ) → nat_lt m met ≡ true → counted met ms ≡ Some next → counted met (m ∷ ms) ≡ Some next
counted_old m ms met next t e = rw t e

pub counted_new : (m : ℕ) (ms : List ℕ) (met next : ℕ) → nat_lt m met ≡ false → (m == met) ≡ true → counted (met + 1) ms ≡ Some next → counted met (m ∷ ms) ≡ Some next
counted_new m ms met next f t e = rw (f, t) e

pub counted_parts : (ms ns : List ℕ) (met next : ℕ) → counted met (ms ++ ns) ≡ Some next → CountedTo met ms ns next
counted_parts [] ns met next e = record { mid = met; first = refl; rest = e }
counted_parts (m ∷ ms) ns met next e = elim (cases_Bool (nat_lt m met)) [
  | inl t ↦ let p = counted_parts ms ns met next (rw t at e) in record { mid = p.mid; first = counted_old m ms met p.mid t p.first; rest = p.rest }
  | inr f ↦ elim (cases_Bool (m == met)) [
    | inl t ↦ let p = counted_parts ms ns (met + 1) next (rw (f, t) at e) in record { mid = p.mid; first = counted_new m ms met p.mid f t p.first; rest = p.rest }
    | inr g ↦ let none : None ≡ Some next = rw (f, g) at e in cc
  ]
]

pub counted_join : (ms ns : List ℕ) (met mid : ℕ) (r : Option ℕ) → counted met ms ≡ Some mid → counted mid ns ≡ r → counted met (ms ++ ns) ≡ r
counted_join [] ns met mid r e k = ap (λ (m : ℕ). counted m ns) (some_same met mid e) ∙ k
counted_join (m ∷ ms) ns met mid r e k = elim (cases_Bool (nat_lt m met)) [
  | inl t ↦ rw t (counted_join ms ns met mid r (rw t at e) k)
  | inr f ↦ elim (cases_Bool (m == met)) [
    | inl t ↦ rw (f, t) (counted_join ms ns (met + 1) mid r (rw (f, t) at e) k)
    | inr g ↦ let none : None ≡ Some mid = rw (f, g) at e in cc
  ]
]

-- ---- how texts are spelled, and the numbers by which they are referred to

abbrev pub spell_of : Texts → List ℕ → List ℕ
spell_of InPlace = text_bytes
spell_of (Numbered table) = by_number table

abbrev pub numbers_of : Texts → List (List ℕ) → List ℕ
numbers_of InPlace uses = []
numbers_of (Numbered table) uses = map (number_of table) uses

pub no_numbers : (texts : Texts) → numbers_of texts [] ≡ []
no_numbers InPlace = refl
no_numbers (Numbered table) = refl

pub numbers_join : (texts : Texts) (xs ys : List (List ℕ)) → numbers_of texts (xs ++ ys) ≡ numbers_of texts xs ++ numbers_of texts ys
numbers_join InPlace xs ys = refl
numbers_join (Numbered table) xs ys = map-append (number_of table) xs ys

-- so many texts are there
abbrev pub AreThere : Texts → ℕ → Type 0
AreThere InPlace known = Unit {0}
AreThere (Numbered table) known = known ≤ length table

pub there_before : (texts : Texts) (m n : ℕ) → m ≤ n → AreThere texts n → AreThere texts m
there_before InPlace m n l h = tt
there_before (Numbered table) m n l h = omega (arith, l, h)

pub none_there : (texts : Texts) → AreThere texts 0
none_there InPlace = tt
none_there (Numbered table) = omega arith

-- ---- both

-- how many objects were referred to, and how many texts
pub record Counts : Type 0 where
  pub met : ℕ
  pub known : ℕ

-- from so many to so many, if these objects and texts are referred to
pub record Goes (texts : Texts) (c : Counts) (ns : List ℕ) (uses : List (List ℕ)) (d : Counts) : Type 0 where
  pub refs : counted c.met ns ≡ Some d.met
  pub known : counted c.known (numbers_of texts uses) ≡ Some d.known

-- not above what there is
pub record Room (texts : Texts) (most : ℕ) (d : Counts) : Type 0 where
  pub met : d.met ≤ most
  pub known : AreThere texts d.known

pub same_counts : (c d : Counts) → c.met ≡ d.met → c.known ≡ d.known → c ≡ d
same_counts c d e f = ap (λ (m : ℕ). let k : Counts = record { met = m; known = c.known } in k) e ∙ ap (λ (n : ℕ). let k : Counts = record { met = d.met; known = n } in k) f

module _ (texts : Texts) where
  pub goes_none : (c d : Counts) → c ≡ d → Goes texts c [] [] d
  goes_none c d e = record { refs = ap (λ (k : Counts). Some k.met) e; known = ap (λ (ns : List ℕ). counted c.known ns) (no_numbers texts) ∙ ap (λ (k : Counts). Some k.known) e }

  pub goes_same : (c d : Counts) → Goes texts c [] [] d → c ≡ d
  goes_same c d g = same_counts c d (some_same c.met d.met g.refs) (some_same c.known d.known (sym (ap (λ (ns : List ℕ). counted c.known ns) (no_numbers texts)) ∙ g.known))

  pub goes_join : (ms ns : List ℕ) (xs ys : List (List ℕ)) (c k d : Counts) → Goes texts c ms xs k → Goes texts k ns ys d → Goes texts c (ms ++ ns) (xs ++ ys) d
  goes_join ms ns xs ys c k d g h = record {
    refs = counted_join ms ns c.met k.met (Some d.met) g.refs h.refs;
    known = ap (λ (zs : List ℕ). counted c.known zs) (numbers_join texts xs ys) ∙ counted_join (numbers_of texts xs) (numbers_of texts ys) c.known k.known (Some d.known) g.known h.known;
  }

  pub record GoesBy (c : Counts) (ms ns : List ℕ) (xs ys : List (List ℕ)) (d : Counts) : Type 0 where
    pub mid : Counts
    pub first : Goes texts c ms xs mid
    pub rest : Goes texts mid ns ys d

  pub goes_parts : (ms ns : List ℕ) (xs ys : List (List ℕ)) (c d : Counts) → Goes texts c (ms ++ ns) (xs ++ ys) d → GoesBy c ms ns xs ys d
  goes_parts ms ns xs ys c d g =
      let a = counted_parts ms ns c.met d.met g.refs in
      let b = counted_parts (numbers_of texts xs) (numbers_of texts ys) c.known d.known (sym (ap (λ (zs : List ℕ). counted c.known zs) (numbers_join texts xs ys)) ∙ g.known) in
      record { mid = record { met = a.mid; known = b.mid }; first = record { refs = a.first; known = b.first }; rest = record { refs = a.rest; known = b.rest } }

  pub room_before : (ns : List ℕ) (xs : List (List ℕ)) (c d : Counts) (most : ℕ) → Goes texts c ns xs d → Room texts most d → Room texts most c
  room_before ns xs c d most g r = record {
    met = let l = counted_grows ns c.met d.met g.refs in let h = r.met in omega (arith, l, h);
    known = there_before texts c.known d.known (counted_grows (numbers_of texts xs) c.known d.known g.known) r.known;
  }
