-- Tables of texts: each text is at its number, and the table is what the texts to which is referred are, in the order of first use.
use Rattle.std.proofs.Common.{◌≡◌, ℕ, zero, suc, ◌+◌, ◌<◌, ◌≤◌, ◌^◌, ◌==◌, ◌||◌, Bool, true, false, List, [], ◌∷◌, ◌++◌, length, get_or, take, map, Option, Some, None, refl, sym, ap, ◌∙◌, subst, inl, inr, arith}
use Rattle.std.specs.Prelude.{Contains, nat_lt, slice_get}
use Rattle.std.specs.Str.{bytes_eq}
use Rattle.std.specs.List.{AllByRecursion, list_any, position_or_len}
use Rattle.std.proofs.lemmas.Bool.{cases_Bool, false≢true, or_parts, eqb-true, eq-eqb, ne_eqb, ltb-true, ltb-false, lt-ltb, le-ltb}
use Rattle.std.proofs.lemmas.List.{append-nil, append_assoc, length-append, take_more}
use Rattle.std.proofs.lemmas.List.Folds.{list_any-append}
use Rattle.std.proofs.lemmas.Option.{get_or_from_slice_get}
use Rattle.std.proofs.lemmas.Slice.Eq.{bytes_eq-Decides}
use Rattle.run_graph.proofs.Lists.{cons_cases}
use Rattle.part_bytes.specs.Plain.{IsText}
use Rattle.part_bytes.specs.Tables.{has_text, number_of, with_text, with_texts}
use Rattle.checkpoint_reader.specs.PartReading.{known_after}
use Rattle.checkpoint_reader.specs.declared.forms.Texts.{Texts}
use Rattle.checkpoint_reader.specs.declared.forms.Texts.TheVariants.{InPlace, Numbered}
use Rattle.checkpoint_laws.specs.SpelledParts.{counted}
use Rattle.checkpoint_laws.proofs.Counts.{some_same, counted_grows, counted_old, counted_new}

-- none of these is one of those before it
abbrev pub AreNew : List (List ℕ) → List (List ℕ) → Type 0
AreNew before [] = Unit {0}
AreNew before (t ∷ ts) = (has_text before t ≡ false) × AreNew (before ++ t ∷ []) ts

pub record AreListed (table : List (List ℕ)) : Type 0 where
  pub few : length table < 2 ^ 32
  pub texts : AllByRecursion IsText table
  pub new : AreNew [] table

-- how texts are read: if there is a table, it is such
abbrev pub IsTable : Texts → Type 0
IsTable InPlace = Unit {0}
IsTable (Numbered table) = AreListed table

-- ---- the first that passes

module _ {A : Type 0} (p : A → Bool) where
  first_stays : (xs ys : List A) → list_any p xs ≡ true → (position_or_len p (xs ++ ys) ≡ position_or_len p xs) × (position_or_len p xs < length xs)
  first_stays [] ys e = absurd (false≢true e)
  first_stays (x ∷ xs) ys e = elim (cases_Bool (p x)) [
    | inl t ↦ rw t (refl, omega arith)
    | inr f ↦ let more = first_stays xs ys (rw f at e) in let l = more.1 in rw f (ap (λ (n : ℕ). 1 + n) more.0, omega (arith, l))
  ]

  first_after : (xs ys : List A) → list_any p xs ≡ false → position_or_len p (xs ++ ys) ≡ length xs + position_or_len p ys
  first_after [] ys e = omega arith
  first_after (x ∷ xs) ys e =
      let parts = or_parts (p x) (list_any p xs) e in
      let more = first_after xs ys parts.1 in
      rw parts.0 (omega (arith, more))

  in_front : (xs : List A) (k : ℕ) → position_or_len p xs < k → position_or_len p xs < length xs → list_any p (take k xs) ≡ true
  in_front [] k l m = absurd (omega (arith, m))
  in_front (x ∷ xs) zero l m = absurd (omega (arith, l))
  in_front (x ∷ xs) (suc k) l m = elim (cases_Bool (p x)) [
    | inl t ↦ rw t refl
    | inr f ↦
        let low : 1 + position_or_len p xs < suc k = rw f at l in
        let here : 1 + position_or_len p xs < length (x ∷ xs) = rw f at m in
        rw f (in_front xs k (omega (arith, low)) (omega (arith, here)))
  ]

  not_in_front : (xs : List A) (k : ℕ) → k ≤ position_or_len p xs → list_any p (take k xs) ≡ false
  not_in_front [] zero l = refl
  not_in_front [] (suc k) l = refl
  not_in_front (x ∷ xs) zero l = refl
  not_in_front (x ∷ xs) (suc k) l = elim (cases_Bool (p x)) [
    | inl t ↦ let none : suc k ≤ 0 = rw t at l in absurd (omega (arith, none))
    | inr f ↦ let more : suc k ≤ 1 + position_or_len p xs = rw f at l in rw f (not_in_front xs k (omega (arith, more)))
  ]

itself : (t : List ℕ) → bytes_eq t t ≡ true
itself t = (bytes_eq-Decides t t).1 refl

first_of : (t : List ℕ) (ts : List (List ℕ)) → number_of (t ∷ ts) t ≡ 0
first_of t ts = rw (itself t) refl

pub number_there : (table : List (List ℕ)) (t : List ℕ) → number_of table t < length table → slice_get table (number_of table t) ≡ Some t
number_there [] t l = absurd (omega (arith, l))
number_there (x ∷ xs) t l = elim (cases_Bool (bytes_eq t x)) [
  | inl e ↦ rw e (ap (λ (y : List ℕ). Some y) (sym ((bytes_eq-Decides t x).0 e)))
  | inr f ↦
      let low : 1 + number_of xs t < length (x ∷ xs) = rw f at l in
      let next : 1 + number_of xs t ≡ suc (number_of xs t) = omega arith in
      rw f (ap (λ (n : ℕ). slice_get (x ∷ xs) n) next ∙ number_there xs t (omega (arith, low)))
]

-- ---- a table as it grows

new_put : (before ts : List (List ℕ)) (t : List ℕ) → AreNew before ts → has_text (before ++ ts) t ≡ false → AreNew before (ts ++ t ∷ [])
new_put before [] t h e = (ap (λ (xs : List (List ℕ)). has_text xs t) (sym (append-nil before)) ∙ e, tt)
new_put before (u ∷ ts) t h e = (h.0, new_put (before ++ u ∷ []) ts t h.1 (ap (λ (xs : List (List ℕ)). has_text xs t) (append_assoc before (u ∷ []) ts) ∙ e))

texts_put : (ts : List (List ℕ)) (t : List ℕ) → AllByRecursion IsText ts → IsText t → AllByRecursion IsText (ts ++ t ∷ [])
texts_put [] t h k = (k, tt)
texts_put (u ∷ ts) t h k = (h.0, texts_put ts t h.1 k)

pub listed_put : (table : List (List ℕ)) (t : List ℕ) → AllByRecursion IsText table × AreNew [] table → IsText t → has_text table t ≡ false
    → AllByRecursion IsText (table ++ t ∷ []) × AreNew [] (table ++ t ∷ [])
listed_put table t h k e = (texts_put table t h.0 k, new_put [] table t h.1 e)

-- each text is at its number
placed_from : (before ts : List (List ℕ)) (n : ℕ) (t : List ℕ) → AreNew before ts → slice_get ts n ≡ Some t → number_of (before ++ ts) t ≡ length before + n
placed_from before [] n t h e = absurd (let no : None ≡ Some t = e in cc)
placed_from before (u ∷ ts) zero t h e =
    let same : u ≡ t = let k : Some u ≡ Some t = e in cc in
    let none : has_text before t ≡ false = subst (λ (x : List ℕ). has_text before x ≡ false) same h.0 in
    ap (λ (x : List ℕ). number_of (before ++ x ∷ ts) t) same ∙ (first_after (bytes_eq t) before (t ∷ ts) none ∙ ap (λ (k : ℕ). length before + k) (first_of t ts))
placed_from before (u ∷ ts) (suc n) t h e =
    let rest = placed_from (before ++ u ∷ []) ts n t h.1 e in
    let size : length (before ++ u ∷ []) ≡ length before + 1 = length-append before (u ∷ []) in
    let sum : length (before ++ u ∷ []) + n ≡ length before + suc n = omega (arith, size) in
    ap (λ (xs : List (List ℕ)). number_of xs t) (sym (append_assoc before (u ∷ []) ts)) ∙ (rest ∙ sum)

pub placed_new : (ts : List (List ℕ)) (n : ℕ) (t : List ℕ) → AreNew [] ts → slice_get ts n ≡ Some t → number_of ts t ≡ n
placed_new ts n t new e = let at : number_of ts t ≡ 0 + n = placed_from [] ts n t new e in omega (arith, at)

pub there_below : (ts : List (List ℕ)) (t : List ℕ) → Contains ts t → number_of ts t < length ts
there_below [] t c = absurd (let l = c.1 in omega (arith, l))
there_below (u ∷ ts) t c = elim (cases_Bool (bytes_eq t u)) [
  | inl e ↦ rw e (omega arith)
  | inr f ↦ elim (cons_cases u ts t c) [
    | inl e ↦ absurd (false≢true (sym f ∙ (bytes_eq-Decides t u).1 (sym e)))
    | inr more ↦ let l = there_below ts t more in rw f (omega (arith, l))
  ]
]

pub placed : (table : List (List ℕ)) (n : ℕ) (t : List ℕ) → AreListed table → slice_get table n ≡ Some t → number_of table t ≡ n
placed table n t ok e = placed_new table n t ok.new e

pub text_at : (ts : List (List ℕ)) (n : ℕ) (t : List ℕ) → AllByRecursion IsText ts → slice_get ts n ≡ Some t → IsText t
text_at [] n t h e = absurd (let no : None ≡ Some t = e in cc)
text_at (u ∷ ts) zero t h e = subst IsText (let k : Some u ≡ Some t = e in cc) h.0
text_at (u ∷ ts) (suc n) t h e = text_at ts n t h.1 e

-- ---- with texts in the order of first use

grows : (uses front : List (List ℕ)) → (more : List (List ℕ)) × (with_texts front uses ≡ front ++ more)
grows [] front = ([], sym (append-nil front))
grows (t ∷ ts) front = elim (cases_Bool (has_text front t)) [
  | inl y ↦ rw y (grows ts front)
  | inr n ↦ let g = grows ts (front ++ t ∷ []) in rw n (t ∷ g.0, g.1 ∙ append_assoc front (t ∷ []) g.0)
]

pub new_all : (uses table : List (List ℕ)) → AreNew [] table → AreNew [] (with_texts table uses)
new_all [] table h = h
new_all (t ∷ ts) table h = elim (cases_Bool (has_text table t)) [
  | inl y ↦ rw y (new_all ts table h)
  | inr n ↦ rw n (new_all ts (table ++ t ∷ []) (new_put [] table t h n))
]

listed_with : (uses table : List (List ℕ)) → AllByRecursion IsText table × AreNew [] table → AllByRecursion IsText uses → AllByRecursion IsText (with_texts table uses) × AreNew [] (with_texts table uses)
listed_with [] table h k = h
listed_with (t ∷ ts) table h k = elim (cases_Bool (has_text table t)) [
  | inl y ↦ rw y (listed_with ts table h k.1)
  | inr n ↦ rw n (listed_with ts (table ++ t ∷ []) (listed_put table t h k.0 n) k.1)
]

pub listed_all : (uses : List (List ℕ)) → AllByRecursion IsText uses → length (with_texts [] uses) < 2 ^ 32 → AreListed (with_texts [] uses)
listed_all uses h few = let all = listed_with uses [] (tt, tt) h in record { few = few; texts = all.0; new = all.1 }

counts_from : (uses front table : List (List ℕ)) → with_texts front uses ≡ table → counted (length front) (map (number_of table) uses) ≡ Some (length table)
counts_from [] front table e = ap (λ (ts : List (List ℕ)). Some (length ts)) e
counts_from (t ∷ ts) front table e = elim (cases_Bool (has_text front t)) [
  | inl y ↦
      let rest : with_texts front ts ≡ table = rw y at e in
      let g = grows ts front in
      let is : table ≡ front ++ g.0 = sym rest ∙ g.1 in
      let first = first_stays (bytes_eq t) front g.0 y in
      let low = first.1 in
      let at : number_of table t ≡ number_of front t = ap (λ (xs : List (List ℕ)). number_of xs t) is ∙ first.0 in
      counted_old (number_of table t) (map (number_of table) ts) (length front) (length table) (lt-ltb (number_of table t) (length front) (omega (arith, at, low))) (counts_from ts front table rest)
  | inr n ↦
      let rest : with_texts (front ++ t ∷ []) ts ≡ table = rw n at e in
      let g = grows ts (front ++ t ∷ []) in
      let is : table ≡ front ++ t ∷ g.0 = sym rest ∙ (g.1 ∙ append_assoc front (t ∷ []) g.0) in
      let none = first_of t g.0 in
      let after = first_after (bytes_eq t) front (t ∷ g.0) n in
      let there : number_of table t ≡ number_of (front ++ t ∷ g.0) t = ap (λ (xs : List (List ℕ)). number_of xs t) is in
      let at : number_of table t ≡ length front = omega (arith, there, after, none) in
      let size : length (front ++ t ∷ []) ≡ length front + 1 = length-append front (t ∷ []) in
      counted_new (number_of table t) (map (number_of table) ts) (length front) (length table) (le-ltb (number_of table t) (length front) (omega (arith, at))) (eq-eqb (number_of table t) (length front) at)
      (subst (λ (k : ℕ). counted k (map (number_of table) ts) ≡ Some (length table)) size (counts_from ts (front ++ t ∷ []) table rest))
]

-- all of the table is referred to, each text after those before it
pub counts_all : (uses table : List (List ℕ)) → with_texts [] uses ≡ table → counted 0 (map (number_of table) uses) ≡ Some (length table)
counts_all uses table e = counts_from uses [] table e

table_from : (uses table : List (List ℕ)) (known next : ℕ) → counted known (map (number_of table) uses) ≡ Some next → next ≤ length table → with_texts (take known table) uses ≡ take next table
table_from [] table known next e l = ap (λ (k : ℕ). take k table) (some_same known next e)
table_from (t ∷ ts) table known next e l = elim (cases_Bool (nat_lt (number_of table t) known)) [
  | inl y ↦
      let rest : counted known (map (number_of table) ts) ≡ Some next = rw y at e in
      let up = counted_grows (map (number_of table) ts) known next rest in
      let low = ltb-true (number_of table t) known y in
      rw (in_front (bytes_eq t) table known low (omega (arith, low, up, l))) (table_from ts table known next rest l)
  | inr f ↦ elim (cases_Bool (number_of table t == known)) [
    | inl y ↦
        let rest : counted (known + 1) (map (number_of table) ts) ≡ Some next = rw (f, y) at e in
        let up = counted_grows (map (number_of table) ts) (known + 1) next rest in
        let at = eqb-true (number_of table t) known y in
        let room : known < length table = omega (arith, up, l) in
        let there : slice_get table known ≡ Some t = subst (λ (n : ℕ). slice_get table n ≡ Some t) at (number_there table t (omega (arith, at, room))) in
        let one : take (known + 1) table ≡ take known table ++ t ∷ [] = take_more table known t room ∙ ap (λ (x : List ℕ). take known table ++ x ∷ []) (get_or_from_slice_get table known t t there) in
        rw (not_in_front (bytes_eq t) table known (omega (arith, at)))
        (ap (λ (xs : List (List ℕ)). with_texts xs ts) (sym one) ∙ table_from ts table (known + 1) next rest l)
    | inr g ↦ absurd (let none : None ≡ Some next = rw (f, g) at e in cc)
  ]
]

-- if so many are referred to, each after those before it, these are the first of the table
pub table_by : (uses table : List (List ℕ)) (next : ℕ) → counted 0 (map (number_of table) uses) ≡ Some next → next ≤ length table → with_texts [] uses ≡ take next table
table_by uses table next e l = table_from uses table 0 next e l

-- ---- one text more

-- a number that was referred to, or is the next one
pub record KnownNext (known n next : ℕ) : Type 0 where
  pub old : n ≤ known
  pub then_ : known_after known n ≡ next
  pub below : n < next

pub known_next : (known n next : ℕ) → counted known (n ∷ []) ≡ Some next → KnownNext known n next
known_next known n next e = elim (cases_Bool (nat_lt n known)) [
  | inl t ↦
      let same = some_same known next (rw t at e) in
      let less = ltb-true n known t in
      let other : (n == known) ≡ false = ne_eqb n known (λ k. omega (arith, k, less)) in
      record { old = omega (arith, less); then_ = rw other same; below = omega (arith, less, same) }
  | inr f ↦ elim (cases_Bool (n == known)) [
    | inl t ↦
        let same = some_same (known + 1) next (rw (f, t) at e) in
        let equal = eqb-true n known t in
        record { old = omega (arith, equal); then_ = rw t (omega (arith, same, equal)); below = omega (arith, same, equal) }
    | inr g ↦ absurd (let none : None ≡ Some next = rw (f, g) at e in cc)
  ]
]

-- the other way
pub counted_next : (known n : ℕ) → n ≤ known → counted known (n ∷ []) ≡ Some (known_after known n)
counted_next known n l = elim (cases_Bool (nat_lt n known)) [
  | inl t ↦
      let less = ltb-true n known t in
      let other : (n == known) ≡ false = ne_eqb n known (λ k. omega (arith, k, less)) in
      rw (t, other) refl
  | inr f ↦
      let most = ltb-false n known f in
      let equal : n ≡ known = omega (arith, l, most) in
      rw (f, eq-eqb n known equal) (ap (λ (k : ℕ). Some (k + 1)) (sym equal))
]
