-- The walk: what is given back, in the order of the cells.
use Rattle.std.proofs.Common.{◌≡◌, ◌≢◌, ℕ, zero, suc, ◌+◌, ◌-◌, ◌<◌, ◌≤◌, true, false, List, [], ◌∷◌, ◌++◌, length, get_or, take, drop, Some, refl, sym, ap, ◌∙◌, ◌⊎◌, subst, inl, inr, arith}
use Rattle.std.specs.Prelude.{slice_get, Contains, nat_eq, not}
use Rattle.std.specs.List.{AllZip}
use Rattle.std.specs.Cmp.Lexicographic.{pointwise}
use Rattle.std.proofs.lemmas.Bool.{cases_Bool, cases_eq, cases_lt, or_parts, not-false, eqb-true, eq-eqb, ne_eqb, and_parts}
use Rattle.std.proofs.lemmas.List.{take-append-drop, take_more}
use Rattle.std.proofs.lemmas.Option.{none-some, same_Some, slice_get_within, get_or_from_slice_get, slice_get-get_or}
use Rattle.py_heap.specs.declared.state.State.{State}
use Rattle.py_heap.specs.States.{without_name}
use Rattle.py_heap.proofs.Validity.{unbind_valid}
use Rattle.py_machine.specs.Runs.{Name}
use Rattle.py_laws.proofs.Partners.{none_in, first_in, later_in}
use Rattle.graph_model.specs.declared.graph.CellRecord.{CellRecord}
use Rattle.graph_model.specs.declared.graph.Version.{Version}
use Rattle.graph_model.specs.declared.graph.Graph.{Graph}
use Rattle.graph_model.specs.Graphs.{CellAt, VersionAt}
use Rattle.graph_model.proofs.Lookups.{same_version, version_within}
use Rattle.plan_model.proofs.Ascents.{Rises, rises-tail, rises-head, rises-at, rises-upto}
use Rattle.linked_parts.proofs.Lists.{cons_cases}
use Rattle.part_bytes.specs.declared.part.PartValue.{PartValue}
use Rattle.part_bytes.proofs.ByAddress.{there}
use Rattle.checkpoint_reader.specs.declared.checkpoint.Checkpoint.{Checkpoint}
use Rattle.checkpoint_reader.specs.Fields.{is_same, is_otherwise, is_unlike}
use Rattle.checkpoint_reader.specs.Numbered.{IsCopyAt}
use Rattle.reader_laws.specs.Texts.{IsItsText}
use Rattle.reader_laws.specs.Valid.{IsValidState}
use Rattle.every_history.specs.Reading.{read}
use Rattle.replay_laws.specs.Walks.{IsLoaded, Passes, GivesBack, GivesAllBack, goes_on}
use Rattle.part_loader.specs.Loading.{state_of, AreDistinct, IsWhole, loaded}
use Rattle.part_loader.proofs.Loads.{never_descending_distinct, whole_loaded}
use Rattle.part_loader.proofs.Validity.{loaded_valid}
use Rattle.restore_run.specs.Restoring.{IsSoundCheckpoint, IsWalked, no_part, part_for, copies}
use Rattle.restore_run.specs.Walking.{CopiedAt, OnCopiedAt, IsBetween, AreLeft}
use Rattle.restore_run.proofs.Referring.{read_of_itself}

-- ---- lists

in_take : {X : Type 0} (n : ℕ) (xs : List X) (x : X) → Contains (take n xs) x → (i : ℕ) × (i < n) × (slice_get xs i ≡ Some x)
in_take zero xs x c = absurd (none_in x c)
in_take (suc n) [] x c = absurd (none_in x c)
in_take (suc n) (y ∷ xs) x c = elim (cons_cases y (take n xs) x c) [
  | inl e ↦ (0, omega arith, ap (λ z. Some z) e)
  | inr more ↦ let w = in_take n xs x more in (suc w.0, let l = w.1 in omega (arith, l), w.2)
]

in_drop : {X : Type 0} (n : ℕ) (xs : List X) (x : X) → Contains (drop n xs) x → (i : ℕ) × (n ≤ i) × (slice_get xs i ≡ Some x)
in_drop zero [] x c = absurd (none_in x c)
in_drop zero (y ∷ xs) x c = elim (cons_cases y xs x c) [
  | inl e ↦ (0, omega arith, ap (λ z. Some z) e)
  | inr more ↦ let w = in_drop zero xs x more in (suc w.0, omega arith, w.2)
]
in_drop (suc n) [] x c = absurd (none_in x c)
in_drop (suc n) (y ∷ xs) x c = let w = in_drop n xs x c in (suc w.0, let l = w.1 in omega (arith, l), w.2)

in_by : {X : Type 0} (xs : List X) (i : ℕ) (x : X) → slice_get xs i ≡ Some x → Contains xs x
in_by xs i x e = (i, slice_get_within xs i x e, get_or_from_slice_get xs i x x e)

zip_at : {A B : Type 0} (R : A → B → Type 0) (xs : List A) (ys : List B) (i : ℕ) (x : A) (y : B) → AllZip R xs ys → slice_get xs i ≡ Some x → slice_get ys i ≡ Some y → R x y
zip_at R [] ys i x y z e f = absurd (none-some x e)
zip_at R (a ∷ xs) [] i x y z e f = absurd z
zip_at {B = B} R (a ∷ xs) (b ∷ ys) zero x y z e f = subst (λ w. R x w) (same_Some b y f) (subst (λ w. R w b) (same_Some a x e) z.0)
zip_at R (a ∷ xs) (b ∷ ys) (suc i) x y z e f = zip_at R xs ys i x y z.1 e f

pub zip_long : {A B : Type 0} (R : A → B → Type 0) (xs : List A) (ys : List B) → AllZip R xs ys → length ys ≡ length xs
zip_long R [] [] z = refl
zip_long R (x ∷ xs) (y ∷ ys) z = let e = zip_long R xs ys z.1 in omega (arith, e)
zip_long R [] (y ∷ ys) z = absurd z
zip_long R (x ∷ xs) [] z = absurd z

same_bytes : (xs ys : List ℕ) → pointwise nat_eq xs ys ≡ true → xs ≡ ys
same_bytes [] [] e = refl
same_bytes [] (y ∷ ys) e = cc
same_bytes (x ∷ xs) [] e = cc
same_bytes (x ∷ xs) (y ∷ ys) e =
    let both = and_parts (nat_eq x y) (pointwise nat_eq xs ys) e in ap (λ z. z ∷ xs) (eqb-true x y both.0) ∙ ap (λ zs. y ∷ zs) (same_bytes xs ys both.1)

same_texts : (xs ys : List Name) → is_same xs ys ≡ true → xs ≡ ys
same_texts [] [] e = refl
same_texts [] (y ∷ ys) e = cc
same_texts (x ∷ xs) [] e = cc
same_texts (x ∷ xs) (y ∷ ys) e =
    let both = and_parts (pointwise nat_eq x y) (is_same xs ys) e in ap (λ (z : Name). z ∷ xs) (same_bytes x y both.0) ∙ ap (λ (zs : List Name). y ∷ zs) (same_texts xs ys both.1)

-- ---- a part that isn't unlike its version

module _ (x : Version) (p : PartValue) (like : is_unlike x p ≡ false) where
  names_like : p.names ≡ x.names
  names_like =
      let first = or_parts (not (nat_eq x.replaced 0)) _ like in
      let second = or_parts x.handle _ first.1 in
      let third = or_parts (not (is_same p.names x.names)) (is_otherwise x p) second.1 in
      same_texts p.names x.names (not-false (is_same p.names x.names) third.0)

one_name : (names : List Name) → (names ≡ [] → ⊥) → (1 < length names → ⊥) → (name : Name) × (names ≡ name ∷ [])
one_name [] some few = absurd (some refl)
one_name (name ∷ []) some few = (name, refl)
one_name (name ∷ other ∷ names) some few = absurd (few (omega arith))

pub before_of : (c : ℕ) → 0 < c → c ≡ c - 1 + 1
before_of c l = omega arith

pub cell_at : (g : Graph) (cells : List CellRecord) (i : ℕ) (x : CellRecord) → cells ≡ g.cells → i < length cells → x ≡ get_or cells i x → CellAt g (i + 1) x
cell_at g cells i x e l is =
    let back : i + 1 - 1 ≡ i = omega arith in
    let at : slice_get cells i ≡ Some x = slice_get-get_or cells i x l ∙ ap (λ (y : CellRecord). Some y) (sym is) in
    (omega arith, subst (λ n. slice_get g.cells n ≡ Some x) (sym back) (subst (λ (ys : List CellRecord). slice_get ys i ≡ Some x) e at))

-- the cell before number i + 1 is cell i
pub between_at : (k : Checkpoint) (i n : ℕ) → IsBetween k i n → (c : ℕ) → i + 1 ≡ c + 1 → IsBetween k c n
between_at k i n b c e =
    let same : i ≡ c = omega (arith, e) in
    subst (λ m. IsBetween k m n) same b

-- one cell on
pub walked_on : (k : Checkpoint) (c : ℕ) (t m u : State) → IsWalked k c t → Passes read k.graph k.plan (c + 1) t m → GivesAllBack (copies k) k.graph (c + 1) k.plan.copied m u → IsWalked k (c + 1) u
walked_on k c t m u w p b =
    let e : c + 1 ≡ suc c = omega arith in
    subst (λ n. IsWalked k n u) (sym e) (goes_on c t m u w (subst (λ n. Passes read k.graph k.plan n t m) e p) (subst (λ n. GivesAllBack (copies k) k.graph n k.plan.copied m u) e b))

-- ---- the part beside a number

part_here : (ns : List ℕ) (ps : List PartValue) (i v : ℕ) (p : PartValue) → Rises ns → slice_get ns i ≡ Some v → slice_get ps i ≡ Some p → part_for ns ps v ≡ p
part_here [] ps i v p r e f = absurd (none-some v e)
part_here (n ∷ ns) [] i v p r e f = absurd (none-some p f)
part_here (n ∷ ns) (q ∷ ps) zero v p r e f = let here = eq-eqb n v (same_Some n v e) in rw here (same_Some q p f)
part_here (n ∷ ns) (q ∷ ps) (suc i) v p r e f =
    let l : i < length ns = slice_get_within ns i v e in
    let at : get_or ns i 0 ≡ v = get_or_from_slice_get ns i v 0 e in
    let below = rises-head n ns r i 0 l in
    let other = ne_eqb n v (λ same. let no : ⊥ = omega (arith, at, below, same) in no) in
    rw other (part_here ns ps i v p (rises-tail n ns r) e f)

-- the part at an index is taken, and those after it are left
pub taken : (k : Checkpoint) (n : ℕ) (p : PartValue) (parts now : List PartValue) → AreLeft k n parts → slice_get parts n ≡ Some p
    → ((i : ℕ) → n < i → slice_get now i ≡ slice_get parts i) → (slice_get k.parts n ≡ Some p) × AreLeft k (n + 1) now
taken k n p parts now left at others = (sym (left n (omega arith)) ∙ at, λ i l. others i (omega (arith, l)) ∙ left i (omega (arith, l)))

module _ (k : Checkpoint) (sound : IsSoundCheckpoint k) where
  abbrev g : Graph
  g = k.graph

  abbrev cs : List ℕ
  cs = k.plan.copied

  abbrev copy : ℕ → State
  copy = copies k

  -- ---- versions come in the order of their writers

  next_writer : (u v : ℕ) (x y : Version) → v ≡ suc u → VersionAt g u x → VersionAt g v y → x.writer ≤ y.writer
  next_writer u v x y e at bt = elim (cases_lt y.writer x.writer) [
    | inl l ↦
        let back : u ≡ v - 1 = omega (arith, e) in
        absurd (sound.graph.writers v (
          y,
          bt,
          inr (
            x,
            subst (λ n. VersionAt g n x) back at,
            λ before. elim before [
              | inl a ↦ let no : ⊥ = omega (arith, l, a) in no
              | inr b ↦ let a = b.0 in let no : ⊥ = omega (arith, l, a) in no
            ],
          ),
        ))
    | inr l ↦ l
  ]

  later_writer : (n u v : ℕ) (x y : Version) → v ≡ n + u → VersionAt g u x → VersionAt g v y → x.writer ≤ y.writer
  later_writer zero u v x y e at bt =
      let same : v ≡ u = omega (arith, e) in
      let one : x ≡ y = same_version g u x y at (subst (λ n. VersionAt g n y) same bt) in
      let w : x.writer ≡ y.writer = ap (λ (z : Version). z.writer) one in
      omega (arith, w)
  later_writer (suc n) u v x y e at bt =
      let low = (version_within g u x at).0 in
      let high = (version_within g v y bt).1 in
      let w = there g.versions (n + u - 1) (omega (arith, e, low, high)) in
      let mid : VersionAt g (n + u) w.0 = (omega (arith, low), w.1) in
      let one = later_writer n u (n + u) x w.0 refl at mid in
      let two = next_writer (n + u) v w.0 y (omega (arith, e)) mid bt in
      omega (arith, one, two)

  in_order : (i j u v : ℕ) (x y : Version) → i ≤ j → CopiedAt k i u x → CopiedAt k j v y → x.writer ≤ y.writer
  in_order i j u v x y l a b =
      let m : j < length cs = slice_get_within cs j v b.0 in
      let up = rises-upto cs sound.names.copied_ascends i j l m in
      let e = get_or_from_slice_get cs i u 0 a.0 in
      let f = get_or_from_slice_get cs j v 0 b.0 in
      later_writer (v - u) u v x y (omega (arith, up, e, f)) a.1 b.1

  -- ---- what is given back

  copied_version : (v : ℕ) → Contains cs v → (x : Version) × VersionAt g v x
  copied_version v c = let w = sound.names.copied v c in (w.0, w.1.0)

  skip : (c : ℕ) (vs : List ℕ) (t : State) → ((v : ℕ) → Contains vs v → (x : Version) × VersionAt g v x × (x.writer ≢ c)) → GivesAllBack copy g c vs t t
  skip c [] t h = refl
  skip c (v ∷ vs) t h = let w = h v (first_in v vs) in (w.0, t, w.1, inr (w.2, refl), skip c vs t (λ u n. h u (later_in v vs u n)))

  join : (c : ℕ) (us vs : List ℕ) (t m u : State) → GivesAllBack copy g c us t m → GivesAllBack copy g c vs m u → GivesAllBack copy g c (us ++ vs) t u
  join c [] vs t m u e h = subst (λ (s : State). GivesAllBack copy g c vs s u) e h
  join c (v ∷ us) vs t m u (x, n, at, how, more) h = (x, n, at, how, join c us vs n m u more h)

  -- the first copied versions, as many as n, were given back if cell c wrote them
  abbrev pub Gave : ℕ → ℕ → State → State → Type 0
  Gave c n t u = GivesAllBack copy g c (take n cs) t u

  pub gave_begin : (b c from : ℕ) (t : State) → c ≡ b + 1 → IsBetween k b from → Gave c from t t
  gave_begin b c from t e between = skip c (take from cs) t (λ v n.
      let w = in_take from cs v n in
      let x = copied_version v (in_by cs w.0 v w.2) in
      let l = between.before w.0 v x.0 w.1 (w.2, x.1) in
      (x.0, x.1, λ same. let no : ⊥ = omega (arith, e, l, same) in no))

  pub gave_more : (c n v : ℕ) (x : Version) (t m u : State) → CopiedAt k n v x → x.writer ≡ c → GivesBack copy v x m u → Gave c n t m → Gave c (n + 1) t u
  gave_more c n v x t m u at writes gives before =
      let l = slice_get_within cs n v at.0 in
      let last : get_or cs n 0 ≡ v = get_or_from_slice_get cs n v 0 at.0 in
      let longer : take n cs ++ v ∷ [] ≡ take (n + 1) cs = sym (take_more cs n 0 l ∙ ap (λ (w : ℕ). take n cs ++ w ∷ []) last) in
      subst (λ (vs : List ℕ). GivesAllBack copy g c vs t u) longer (join c (take n cs) (v ∷ []) t m u before (x, u, at.1, inl (writes, gives), refl))

  pub gave_all : (c n : ℕ) (t u : State) → Gave c n t u → ((i v : ℕ) (x : Version) → n ≤ i → CopiedAt k i v x → x.writer ≢ c) → GivesAllBack copy g c cs t u
  gave_all c n t u before others =
      subst (λ (vs : List ℕ). GivesAllBack copy g c vs t u) (take-append-drop n cs)
      (join c (take n cs) (drop n cs) t u u before (skip c (drop n cs) u (λ v m.
      let w = in_drop n cs v m in
      let x = copied_version v (in_by cs w.0 v w.2) in
      (x.0, x.1, others w.0 v x.0 w.1 (w.2, x.1)))))

  -- the index moves on over a version that cell c wrote
  pub between_more : (b c n : ℕ) (v : ℕ) (x : Version) → c ≡ b + 1 → CopiedAt k n v x → x.writer ≡ c
      → ((i u : ℕ) (y : Version) → i < n → CopiedAt k i u y → y.writer ≤ c) → (i u : ℕ) (y : Version) → i < n + 1 → CopiedAt k i u y → y.writer ≤ c
  between_more b c n v x e at writes before i u y l bt = elim (cases_lt i n) [
    | inl m ↦ before i u y m bt
    | inr m ↦ let low = in_order i n u v y x (omega (arith, l)) bt at in omega (arith, low, writes)
  ]

  -- if the next isn't of cell c, no later one is
  pub between_end : (b c n : ℕ) → c ≡ b + 1 → n ≤ length cs → ((i u : ℕ) (y : Version) → i < n → CopiedAt k i u y → y.writer ≤ c) → ((i u : ℕ) (y : Version) → n ≤ i → CopiedAt k i u y → b < y.writer)
      → (OnCopiedAt k n (λ v x. x.writer ≢ c) ⊎ (length cs ≤ n)) → IsBetween k c n
  between_end b c n e within before after ends = record {
    within = within;
    before = before;
    after = λ i u y l bt. elim ends [
      | inl w ↦
          let low = in_order n i w.0 u w.1 y l w.2 bt in
          let first = after n w.0 w.1 (omega arith) w.2 in
          let other = w.3 in
          elim (cases_eq y.writer c) [
            | inl same ↦ absurd (other (omega (arith, same, low, first, e)))
            | inr differs ↦ let later = after i u y l bt in elim (cases_lt c y.writer) [ inl m ↦ m | inr m ↦ absurd (differs (omega (arith, m, later, e))) ]
          ]
      | inr past ↦ let m = slice_get_within cs i u bt.0 in let no : ⊥ = omega (arith, l, past, m) in absurd no
    ];
  }

  -- over the copied versions of cell c, from the index at which those of cell b end
  module _ (b c from : ℕ) (e : c ≡ b + 1) (start : IsBetween k b from) where
    pub before_begin : (i v : ℕ) (x : Version) → i < from → CopiedAt k i v x → x.writer ≤ c
    before_begin i v x l at = let low = start.before i v x l at in omega (arith, low, e)

    pub ends_between : (n : ℕ) → from ≤ n → n ≤ length cs → ((i u : ℕ) (y : Version) → i < n → CopiedAt k i u y → y.writer ≤ c)
        → (OnCopiedAt k n (λ v x. x.writer ≢ c) ⊎ (length cs ≤ n)) → IsBetween k c n
    ends_between n on within before ends = between_end b c n e within before (λ i u y l at. start.after i u y (omega (arith, on, l)) at) ends

  pub none_after : (c n : ℕ) → IsBetween k c n → (i v : ℕ) (x : Version) → n ≤ i → CopiedAt k i v x → x.writer ≢ c
  none_after c n between i v x l at = λ same. let low = between.after i v x l at in let no : ⊥ = omega (arith, low, same) in no

  pub first_between : IsBetween k 0 0
  first_between = record {
    within = omega arith;
    before = λ i v x l at. absurd (let no : ⊥ = omega (arith, l) in no);
    after = λ i v x l at. elim (cases_eq x.writer 0) [
      | inl e ↦ absurd (sound.graph.writers v (x, at.1, inl (inl e)))
      | inr other ↦ omega (arith, other)
    ];
  }

  -- ---- the copied version at an index

  module _ (ns : List ℕ) (vs : List Version) (is_copied : ns ≡ cs) (are_versions : vs ≡ g.versions) (n : ℕ) (l : n < length cs) where
    copied_here : slice_get cs n ≡ Some (get_or ns n 0)
    copied_here = slice_get-get_or cs n 0 l ∙ ap (λ (ms : List ℕ). Some (get_or ms n 0)) (sym is_copied)

    version_here : (x : Version) × VersionAt g (get_or ns n 0) x
    version_here = copied_version (get_or ns n 0) (in_by cs n (get_or ns n 0) copied_here)

    pub copied_above : 1 ≤ get_or ns n 0
    copied_above = let m = version_here.1.0 in omega (arith, m)

    pub copied_within : get_or ns n 0 - 1 < length vs
    copied_within =
        let m : get_or ns n 0 - 1 < length g.versions = slice_get_within g.versions (get_or ns n 0 - 1) version_here.0 version_here.1.1 in
        subst (λ (ws : List Version). get_or ns n 0 - 1 < length ws) (sym are_versions) m

    pub copied_at : (x : Version) → x ≡ get_or vs (get_or ns n 0 - 1) x → CopiedAt k n (get_or ns n 0) x
    copied_at x is = (
      copied_here,
      (
        version_here.1.0,
        subst (λ (ws : List Version). slice_get ws (get_or ns n 0 - 1) ≡ Some x) are_versions
            (slice_get-get_or vs (get_or ns n 0 - 1) x copied_within ∙ ap (λ (y : Version). Some y) (sym is)),
      ),
    )

    part_here_at : slice_get k.parts n ≡ Some (get_or k.parts n no_part)
    part_here_at =
        let many = zip_long (IsCopyAt g.versions) cs k.parts sound.restorable.copies in
        slice_get-get_or k.parts n no_part (omega (arith, many, l))

    pub left_within : (parts : List PartValue) → AreLeft k n parts → n < length parts
    left_within parts left = slice_get_within parts n (get_or k.parts n no_part) (left n (omega arith) ∙ part_here_at)

    -- there are fewer than 2^32 of them
    far : (xs : List ℕ) → Rises xs → (i : ℕ) → i < length xs → i ≤ get_or xs i 0
    far xs r zero m = omega arith
    far xs r (suc i) m =
        let before = far xs r i (omega (arith, m)) in
        let next = rises-at xs r i (suc i) 0 (omega arith) m in
        omega (arith, before, next)

    pub place_below : n < 4294967296
    place_below =
        let up = far cs sound.names.copied_ascends n l in
        let is = get_or_from_slice_get cs n (get_or ns n 0) 0 copied_here in
        let high = (version_within g (get_or ns n 0) version_here.0 version_here.1).1 in
        let few = sound.graph.versions in
        omega (arith, up, is, high, few)

  -- ---- one version

  absent_name : (v : ℕ) (x : Version) → VersionAt g v x → x.absent ≡ true → (name : Name) × (x.names ≡ name ∷ [])
  absent_name v x at gone = one_name x.names (λ e. sound.graph.names v (x, at, inl e)) (λ l. sound.graph.names v (x, at, inr (inr (inr (gone, l)))))

  distinct_names : (v : ℕ) (x : Version) → VersionAt g v x → AreDistinct x.names
  distinct_names v x at = never_descending_distinct x.names (λ none. sound.graph.names v (x, at, inr (inl none)))

  pub given_back : (n v : ℕ) (x : Version) (p : PartValue) (t u : State) → CopiedAt k n v x → slice_get k.parts n ≡ Some p → IsValidState t → (x.absent ≡ false → u ≡ loaded p t)
      → (x.absent ≡ true → (name : Name) → x.names ≡ name ∷ [] → u ≡ without_name t name) → GivesBack copy v x t u × IsValidState u
  given_back n v x p t u at part valid present absent = elim (cases_Bool x.absent) [
    | inl gone ↦
        let w = absent_name v x at.1 gone in
        let is = absent gone w.0 w.1 in
        (inr (gone, w.0, w.1, is), subst IsValidState (sym is) (unbind_valid IsItsText t w.0 valid))
    | inr stays ↦
        let c = zip_at (IsCopyAt g.versions) cs k.parts n v p sound.restorable.copies at.0 part in
        let same : c.0 ≡ x = same_Some c.0 x (sym c.1 ∙ at.1.1) in
        let like : is_unlike x p ≡ false = subst (λ (y : Version). is_unlike y p ≡ false) same c.2.agrees in
        let names : p.names ≡ x.names = names_like x p like in
        let own = read_of_itself c.2.texts c.2.bytes c.2.known (p, c.2.size, c.2.later) c.2.was_read in
        let distinct : AreDistinct p.names = subst AreDistinct (sym names) (distinct_names v x at.1) in
        let entire : IsWhole p = record { distinct = distinct; as_many = own.as_many; values = own.values; objects = own.objects } in
        let is = present stays in
        let load = whole_loaded p t u is entire valid.closed in
        let here : state_of p ≡ copy v = ap state_of (sym (part_here cs k.parts n v p sound.names.copied_ascends at.0 part)) in
        let whole = subst (λ (s : State). IsLoaded p.names s t u) here load in
        let done = subst (λ (ns : List Name). IsLoaded ns (copy v) t u) names whole in
        (inl (stays, done), subst IsValidState (sym is) (loaded_valid IsItsText p t entire (record { names = own.variables; objects = own.valid }) valid))
  ]
