-- Numbers in classes, by a parent of each: ways to a root made shorter, and two classes made one.
use Rattle.std.proofs.Common.{◌≡◌, ◌≢◌, ℕ, ◌+◌, ◌<◌, ◌≤◌, List, length, set, slice_index, refl, sym, ap, ◌∙◌, ◌⊎◌, inl, inr, subst, arith}
use Rattle.std.proofs.lemmas.Bool.{cases_eq}
use Rattle.std.proofs.lemmas.List.{length-set, get_or-set_same, get_or-set_other}
use Rattle.linked_parts.specs.Labels.{IsForest, Joined, alone, parent, turned, chained, IsShortened, Joins}

pub joined_within : (parents : List ℕ) → IsForest parents → (j k : ℕ) → Joined parents j k → (j < length parents) × (k < length parents)
joined_within parents f _ _ (alone k l) = (l, l)
joined_within parents f _ _ (parent k l) = let b : slice_index parents k ≤ k = f k l in (l, omega (arith, b, l))
joined_within parents f _ _ (turned j k w) = let b = joined_within parents f j k w in (b.1, b.0)
joined_within parents f _ _ (chained i j k v w) = ((joined_within parents f i j v).0, (joined_within parents f j k w).1)

-- if each number is in a class with its parent of old, so are all that were in one class
carried : (old now : List ℕ) → length now ≡ length old → ((k : ℕ) → k < length old → Joined now k (slice_index old k)) → (j k : ℕ) → Joined old j k → Joined now j k
carried old now e each _ _ (alone k l) = alone k (omega (arith, e, l))
carried old now e each _ _ (parent k l) = each k l
carried old now e each _ _ (turned j k w) = turned j k (carried old now e each j k w)
carried old now e each _ _ (chained i j k v w) = chained i j k (carried old now e each i j v) (carried old now e each j k w)

pub joined_to : (parents : List ℕ) (k to : ℕ) → k < length parents → slice_index parents k ≡ to → Joined parents k to
joined_to parents k to l e = subst (Joined parents k) e (parent k l)

-- ---- a number under the parent of its parent

pub shortened_same : (parents : List ℕ) → IsForest parents → IsShortened parents parents
shortened_same parents f = record {
  size = refl;
  forest = f;
  keeps = λ j k w. w;
  only = λ j k w. w;
  roots = λ k l e. e;
}

pub shortened_on : (old mid now : List ℕ) → IsShortened old mid → IsShortened mid now → IsShortened old now
shortened_on old mid now a b = record {
  size = b.size ∙ a.size;
  forest = b.forest;
  keeps = λ j k w. b.keeps j k (a.keeps j k w);
  only = λ j k w. a.only j k (b.only j k w);
  roots = λ k l e. b.roots k (let s = a.size in omega (arith, s, l)) (a.roots k l e);
}

module _ (old : List ℕ) (number : ℕ) (f : IsForest old) (within : number < length old) where
  abbrev above : ℕ
  above = slice_index old number

  abbrev top : ℕ
  top = slice_index old above

  abbrev now : List ℕ
  now = set old number top

  now_here : slice_index now number ≡ top
  now_here = get_or-set_same old number top 0 within

  now_other : (k : ℕ) → k ≢ number → slice_index now k ≡ slice_index old k
  now_other k other = get_or-set_other old number k top 0 other

  above_low : above ≤ number
  above_low = f number within

  top_low : top ≤ above
  top_low = let l = above_low in f above (omega (arith, l, within))

  now_above : slice_index now above ≡ top
  now_above = elim (cases_eq above number) [ inl e ↦ ap (slice_index now) e ∙ now_here | inr other ↦ now_other above other ]

  pub shortened : IsShortened old now
  shortened =
      let size : length now ≡ length old = length-set old number top in
      let low = above_low in
      let lower = top_low in
      record {
        size = size;
        forest = λ k l. elim (cases_eq k number) [
          | inl e ↦ let here : slice_index now k ≡ top = ap (slice_index now) e ∙ now_here in omega (arith, here, low, lower, e)
          | inr other ↦ let here = now_other k other in let was = f k (omega (arith, size, l)) in omega (arith, here, was)
        ];
        keeps = carried old now size (λ k l. elim (cases_eq k number) [
          | inl e ↦ subst (λ (z : ℕ). Joined now z (slice_index old z)) (sym e)
              (chained number top above (joined_to now number top (omega (arith, size, within)) now_here)
              (turned above top (joined_to now above top (omega (arith, size, within, low)) now_above)))
          | inr other ↦ joined_to now k (slice_index old k) (omega (arith, size, l)) (now_other k other)
        ]);
        only = carried now old (sym size) (λ k l. elim (cases_eq k number) [
          | inl e ↦ subst (λ (z : ℕ). Joined old z (slice_index now z)) (sym e)
              (subst (Joined old number) (sym now_here) (chained number above top (parent number within) (parent above (omega (arith, low, within)))))
          | inr other ↦ subst (Joined old k) (sym (now_other k other)) (parent k (omega (arith, size, l)))
        ]);
        roots = λ k l e. elim (cases_eq k number) [
          | inl is ↦
              let same : above ≡ k = ap (slice_index old) (sym is) ∙ e in
              let here : slice_index now k ≡ top = ap (slice_index now) is ∙ now_here in
              here ∙ (ap (slice_index old) same ∙ e)
          | inr other ↦ now_other k other ∙ e
        ];
      }

  pub shortened_top : Joined old number top
  shortened_top = chained number above top (parent number within) (parent above (let low = above_low in omega (arith, low, within)))

  pub top_within : top < length old
  top_within = let low = above_low in let lower = top_low in omega (arith, low, lower, within)

  -- if the parents of all lesser numbers are roots, so is its parent now
  pub flat_more : ((k : ℕ) → k < number → slice_index old (slice_index old k) ≡ slice_index old k)
      → (k : ℕ) → k < number + 1 → slice_index now (slice_index now k) ≡ slice_index now k
  flat_more flat k l =
      let low = above_low in
      let lower = top_low in
      elim (cases_eq k number) [
        | inl e ↦
            let here : slice_index now k ≡ top = ap (slice_index now) e ∙ now_here in
            let still : slice_index now top ≡ top = elim (cases_eq above number) [
              | inl same ↦ let up : top ≡ number = ap (slice_index old) same ∙ same in ap (slice_index now) up ∙ now_here
              | inr other ↦ now_other top (λ z. omega arith) ∙ flat above (omega arith)
            ] in
            ap (slice_index now) here ∙ (still ∙ sym here)
        | inr other ↦
            let here = now_other k other in
            let down : slice_index old k ≤ k = f k (omega (arith, l, within)) in
            ap (slice_index now) here ∙ (now_other (slice_index old k) (λ z. omega arith) ∙ (flat k (omega arith) ∙ sym here))
      ]

-- ---- two classes made one

module _ (old two : List ℕ) (a b first second : ℕ) (f : IsForest old) (sh : IsShortened old two) (ja : Joined old a first) (jb : Joined old b second)
    (rf : slice_index two first ≡ first) (rs : slice_index two second ≡ second) where
  pub joins_under : (high low : ℕ) → low ≤ high → ((high ≡ second) × (low ≡ first)) ⊎ ((high ≡ first) × (low ≡ second)) → Joins old a b (set two high low)
  joins_under high low le w =
      let now : List ℕ = set two high low in
      let s : length two ≡ length old = sh.size in
      let size : length now ≡ length two = length-set two high low in
      let first_in = (joined_within old f a first ja).1 in
      let second_in = (joined_within old f b second jb).1 in
      let high_in : high < length two = elim w [ inl e ↦ omega (arith, e.0, second_in, s) | inr e ↦ omega (arith, e.0, first_in, s) ] in
      let root : slice_index two high ≡ high = elim w [
        | inl e ↦ ap (slice_index two) e.0 ∙ (rs ∙ sym e.0)
        | inr e ↦ ap (slice_index two) e.0 ∙ (rf ∙ sym e.0)
      ] in
      let here : slice_index now high ≡ low = get_or-set_same two high low 0 high_in in
      let other = λ (k : ℕ) (n : k ≢ high). get_or-set_other two high k low 0 n in
      let still : (j k : ℕ) → Joined two j k → Joined now j k = carried two now size (λ k l. elim (cases_eq k high) [
        | inl e ↦ subst (λ (z : ℕ). Joined now z (slice_index two z)) (sym e) (subst (Joined now high) (sym root) (alone high (omega (arith, size, high_in))))
        | inr n ↦ joined_to now k (slice_index two k) (omega (arith, size, l)) (other k n)
      ]) in
      let keeps : (j k : ℕ) → Joined old j k → Joined now j k = λ j k x. still j k (sh.keeps j k x) in
      let down : Joined now high low = joined_to now high low (omega (arith, size, high_in)) here in
      let across : Joined now first second = elim w [
        | inl e ↦ subst (λ z. Joined now z second) e.1 (subst (λ z. Joined now low z) e.0 (turned high low down))
        | inr e ↦ subst (λ z. Joined now z second) e.0 (subst (λ z. Joined now high z) e.1 down)
      ] in
      record {
        size = size ∙ s;
        forest = λ k l. elim (cases_eq k high) [
          | inl e ↦ let is : slice_index now k ≡ low = ap (slice_index now) e ∙ here in omega (arith, is, le, e)
          | inr n ↦ let is = other k n in let was = sh.forest k (omega (arith, size, l)) in omega (arith, is, was)
        ];
        keeps = keeps;
        joined = chained a first b (keeps a first ja) (chained first second b across (turned b second (keeps b second jb)));
        only = λ k l. elim (cases_eq k high) [
          | inl e ↦
              let is : slice_index now k ≡ low = ap (slice_index now) e ∙ here in
              elim w [
                | inl x ↦ inr (inr (subst (λ z. Joined old z b) (sym (e ∙ x.0)) (turned b second jb), subst (Joined old a) (sym (is ∙ x.1)) ja))
                | inr x ↦ inr (inl (subst (λ z. Joined old z a) (sym (e ∙ x.0)) (turned a first ja), subst (Joined old b) (sym (is ∙ x.1)) jb))
              ]
          | inr n ↦ inl (sh.only k (slice_index now k) (subst (Joined two k) (sym (other k n)) (parent k (omega (arith, s, l)))))
        ];
      }
