-- A run has one history.
use Rattle.std.proofs.Common.{◌≡◌, ℕ, zero, suc, ◌-◌, ◌<◌, true, List, [], ◌∷◌, get_or, Some, refl, sym, ap, ◌∙◌, inl, inr, subst, arith}
use Rattle.std.specs.Prelude.{Contains, slice_get, ◌↔◌}
use Rattle.std.proofs.lemmas.Option.{slice_get_within, slice_get-get_or, none-some}
use Rattle.py_heap.specs.declared.state.State.{State}
use Rattle.py_machine.specs.Runs.{Name}
use Rattle.py_laws.proofs.Partners.{none_in, first_in, later_in}
use Rattle.graph_model.specs.declared.graph.CellRecord.{CellRecord}
use Rattle.graph_model.specs.declared.graph.Version.{Version}
use Rattle.graph_model.specs.declared.graph.Graph.{Graph}
use Rattle.graph_model.specs.Graphs.{VersionAt}
use Rattle.graph_model.specs.Faults.{TextBelow, Ascends, ComesBefore, least_name}
use Rattle.graph_model.proofs.Walking.{first_unique}
use Rattle.linked_parts.proofs.Lists.{below_on, never_below_itself}
use Rattle.run_graph.specs.Parts.{HasHandle}
use Rattle.run_graph.specs.Histories.{Run, IsAVersion, Rewrites, IsRead, IsRecord, IsHistory}
use Rattle.run_graph.proofs.Lists.{cons_cases}
use Rattle.run_graph.proofs.Weighing.{same_truth}
use Rattle.run_graph.proofs.Kept.{in_part_value, same_part, kept_not_written}
use Rattle.run_graph.proofs.Growing.{in_of_get, get_of_in}

-- ---- two lists that ascend strictly and have the same members are equal

module _ {X : Type 0} (R : X → X → Type 0) (goes_on : (x y z : X) → R x y → R y z → R x z) (never : (x : X) → ¬ R x x) where
  tail : (x : X) (xs : List X) → Ascends R (x ∷ xs) → Ascends R xs
  tail x [] a = tt
  tail x (y ∷ xs) a = a.1

  below : (x : X) (xs : List X) → Ascends R (x ∷ xs) → (z : X) → Contains xs z → R x z
  below x [] a z c = absurd (none_in z c)
  below x (y ∷ xs) a z c = elim (cons_cases y xs z c) [
    | inl e ↦ subst (R x) e a.0
    | inr more ↦ goes_on x y z a.0 (below y xs a.1 z more)
  ]

  heads : (x y : X) (xs ys : List X) → Ascends R (x ∷ xs) → Ascends R (y ∷ ys) → Contains (y ∷ ys) x → Contains (x ∷ xs) y → x ≡ y
  heads x y xs ys a b p q = elim (cons_cases y ys x p) [
    | inl e ↦ sym e
    | inr m ↦ elim (cons_cases x xs y q) [
      | inl e ↦ e
      | inr n ↦ absurd (never x (goes_on x y x (below x xs a y n) (below y ys b x m)))
    ]
  ]

  rest : (x : X) (xs ys : List X) → Ascends R (x ∷ xs) → ((z : X) → Contains (x ∷ xs) z → Contains (x ∷ ys) z) → (z : X) → Contains xs z → Contains ys z
  rest x xs ys a to z c = elim (cons_cases x ys z (to z (later_in x xs z c))) [
    | inr m ↦ m
    | inl e ↦ absurd (never z (subst (λ w. R w z) e (below x xs a z c)))
  ]

  pub same_list : (xs ys : List X) → Ascends R xs → Ascends R ys → ((z : X) → Contains xs z → Contains ys z) → ((z : X) → Contains ys z → Contains xs z) → xs ≡ ys
  same_list [] [] a b to from = refl
  same_list [] (y ∷ ys) a b to from = absurd (none_in y (from y (first_in y ys)))
  same_list (x ∷ xs) [] a b to from = absurd (none_in x (to x (first_in x xs)))
  same_list (x ∷ xs) (y ∷ ys) a b to from =
      let e : x ≡ y = heads x y xs ys a b (to x (first_in x xs)) (from y (first_in y ys)) in
      let to_x : (z : X) → Contains (x ∷ xs) z → Contains (x ∷ ys) z = λ z c. subst (λ w. Contains (w ∷ ys) z) (sym e) (to z c) in
      let from_y : (z : X) → Contains (y ∷ ys) z → Contains (y ∷ xs) z = λ z c. subst (λ w. Contains (w ∷ xs) z) e (from z c) in
      ap (λ w. w ∷ xs) e ∙ ap (λ zs. y ∷ zs) (same_list xs ys (tail x xs a) (tail y ys b) (rest x xs ys a to_x) (rest y ys xs b from_y))

-- ---- lists with the same elements at each index

same_by_get : {X : Type 0} (xs ys : List X) → ((i : ℕ) (x : X) → slice_get xs i ≡ Some x → slice_get ys i ≡ Some x) → ((i : ℕ) (x : X) → slice_get ys i ≡ Some x → slice_get xs i ≡ Some x) → xs ≡ ys
same_by_get [] [] to from = refl
same_by_get [] (y ∷ ys) to from = absurd (none-some y (from 0 y refl))
same_by_get (x ∷ xs) [] to from = absurd (none-some x (to 0 x refl))
same_by_get {X} (x ∷ xs) (y ∷ ys) to from =
    let e : x ≡ y = same (to 0 x refl) in
    ap (λ w. w ∷ xs) e ∙ ap (λ zs. y ∷ zs) (same_by_get xs ys (λ i z. to (suc i) z) (λ i z. from (suc i) z))
  where
    same : Some y ≡ Some x → x ≡ y
    same h = cc

-- ---- versions but for what replaces them

abbrev bare : Version → Version
bare x = record x { replaced = 0 }

bare_list : List Version → List Version
bare_list [] = []
bare_list (x ∷ xs) = bare x ∷ bare_list xs

get_bare : (xs : List Version) (i : ℕ) (x : Version) → slice_get xs i ≡ Some x → slice_get (bare_list xs) i ≡ Some (bare x)
unfolding bare_list
get_bare [] i x h = absurd (none-some x h)
get_bare (y ∷ xs) zero x h = same h
  where
    same : Some y ≡ Some x → Some (bare y) ≡ Some (bare x)
    same i = ap (λ w. Some (bare w)) (let e : y ≡ x = cc in e)
get_bare (y ∷ xs) (suc i) x h = get_bare xs i x h

from_bare : (xs : List Version) (i : ℕ) (z : Version) → slice_get (bare_list xs) i ≡ Some z → (x : Version) × (slice_get xs i ≡ Some x) × (bare x ≡ z)
unfolding bare_list
from_bare [] i z h = absurd (none-some z h)
from_bare (y ∷ xs) zero z h = (y, refl, same h)
  where
    same : Some (bare y) ≡ Some z → bare y ≡ z
    same i = cc
from_bare (y ∷ xs) (suc i) z h = from_bare xs i z h

ascends_bare : (xs : List Version) → ((i : ℕ) (x y : Version) → slice_get xs i ≡ Some x → slice_get xs (suc i) ≡ Some y → ComesBefore x y) → Ascends ComesBefore (bare_list xs)
unfolding bare_list
ascends_bare [] h = tt
ascends_bare (x ∷ []) h = tt
ascends_bare (x ∷ y ∷ xs) h = (h 0 x y refl refl, ascends_bare (y ∷ xs) (λ i a b p q. h (suc i) a b p q))

same_bare : (x y : Version) → x.names ≡ y.names → x.writer ≡ y.writer → x.absent ≡ y.absent → x.handle ≡ y.handle → x.size ≡ y.size → bare x ≡ bare y
same_bare x y a b c d e =
    ap (λ ns. bare (record x { names = ns })) a
    ∙ (ap (λ n. bare (record x { names = y.names; writer = n })) b
    ∙ (ap (λ t. bare (record x { names = y.names; writer = y.writer; absent = t })) c
    ∙ (ap (λ t. bare (record x { names = y.names; writer = y.writer; absent = y.absent; handle = t })) d
    ∙ ap (λ n. bare (record x { names = y.names; writer = y.writer; absent = y.absent; handle = y.handle; size = n })) e)))

module _ (r : Run) where
  -- each version of one history is in the other, but for what replaces it
  module _ (g k : Graph) (h : IsHistory r g) (i : IsHistory r k) where
    there : (v : ℕ) (x : Version) → VersionAt g v x → (u : ℕ) × (y : Version) × VersionAt k u y × (bare x ≡ bare y)
    there v x at =
        let w = h.versions v x at in
        let c : ℕ = w.0 in
        let S : State = r.state (suc c) in
        let match = λ (a : IsAVersion k (suc c) x.names x.absent).
        let y : Version = a.1 in
        let p = h.weights v x at in
        let q = i.weights a.0 y a.2 in
        let names : x.names ≡ y.names = sym a.4 in
        let writer : x.writer ≡ y.writer = w.1 ∙ sym a.3 in
        let turned : (x.handle ≡ true) ↔ HasHandle (r.state y.writer) y.names =
        subst (λ (ns : List Name). (x.handle ≡ true) ↔ HasHandle (r.state y.writer) ns) names
        (subst (λ n. (x.handle ≡ true) ↔ HasHandle (r.state n) x.names) writer p.0) in
        let handle : x.handle ≡ y.handle = same_truth x.handle y.handle (HasHandle (r.state y.writer) y.names) turned q.0 in
        let size : x.size ≡ y.size = p.1 ∙ (ap (λ n. r.size n x.names) writer ∙ (ap (λ ns. r.size y.writer ns) names ∙ sym q.1)) in
        let same : bare x ≡ bare y = same_bare x y names writer (sym a.5) handle size in
        let at_it : VersionAt k a.0 y = a.2 in
        let out : (u : ℕ) × (z : Version) × VersionAt k u z × (bare x ≡ bare z) = (a.0, y, at_it, same) in
        out in
        elim w.3 [
          | inr d ↦
              let a = i.deleted c d.1 w.2 d.3 in
              match (a.0, a.1, a.2, a.3, a.4 ∙ sym d.2, a.5 ∙ sym d.0)
          | inl p ↦
              let name : Name = p.1.some.0 in
              let f = i.parts c name w.2 (in_part_value S x.names p.1 name p.1.some.1) in
              elim f.3 [
                | inl kept ↦ absurd (kept_not_written r c f.0 x.names (record { names_stay = kept.names_stay; objects_stay = kept.objects_stay; before = kept.before }) f.2 p.1 name f.1 p.1.some.1 p.2)
                | inr a ↦
                    let same : f.0 ≡ x.names = same_list TextBelow below_on never_below_itself f.0 x.names f.2.ascends p.1.ascends
                    (same_part S f.0 x.names f.2 p.1 name f.1 p.1.some.1) (same_part S x.names f.0 p.1 f.2 name p.1.some.1 f.1) in
                    match (a.0, a.1, a.2, a.3, a.4 ∙ same, a.5 ∙ sym p.0)
              ]
        ]

    bare_in : (z : Version) → Contains (bare_list g.versions) z → Contains (bare_list k.versions) z
    bare_in z p =
        let a = get_of_in (bare_list g.versions) z p in
        let x = from_bare g.versions a.0 z a.1 in
        let e : suc a.0 - 1 ≡ a.0 = omega arith in
        let w = there (suc a.0) x.0 (omega arith, subst (λ n. slice_get g.versions n ≡ Some x.0) (sym e) x.1) in
        subst (Contains (bare_list k.versions)) (sym w.3 ∙ x.2) (in_of_get (bare_list k.versions) (w.0 - 1) (bare w.1) (get_bare k.versions (w.0 - 1) w.1 w.2.1))

  in_order : (g : Graph) → IsHistory r g → Ascends ComesBefore (bare_list g.versions)
  in_order g h = ascends_bare g.versions (λ n x y p q.
      let e : suc n - 1 ≡ n = omega arith in
      let f : suc (suc n) - 1 ≡ suc n = omega arith in
      h.order (suc n) x y (omega arith, subst (λ m. slice_get g.versions m ≡ Some x) (sym e) p) (omega arith, subst (λ m. slice_get g.versions m ≡ Some y) (sym f) q))

  comes_before_on : (x y z : Version) → ComesBefore x y → ComesBefore y z → ComesBefore x z
  comes_before_on x y z (inl a) (inl b) = inl (omega (arith, a, b))
  comes_before_on x y z (inl a) (inr b) = let e = b.0 in inl (omega (arith, a, e))
  comes_before_on x y z (inr a) (inl b) = let e = a.0 in inl (omega (arith, e, b))
  comes_before_on x y z (inr a) (inr b) = inr (a.0 ∙ b.0, below_on (least_name x.names) (least_name y.names) (least_name z.names) a.1 b.1)

  never_before : (x : Version) → ¬ ComesBefore x x
  never_before x (inl a) = omega (arith, a)
  never_before x (inr a) = never_below_itself (least_name x.names) a.1

  module _ (g k : Graph) (h : IsHistory r g) (i : IsHistory r k) where
    bares : bare_list g.versions ≡ bare_list k.versions
    bares = same_list ComesBefore comes_before_on never_before (bare_list g.versions) (bare_list k.versions) (in_order g h) (in_order k i) (bare_in g k h i) (bare_in k g i h)

    there_too : (v : ℕ) (x : Version) → VersionAt g v x → (y : Version) × VersionAt k v y × (bare y ≡ bare x)
    there_too v x at =
        let w = from_bare k.versions (v - 1) (bare x) (subst (λ zs. slice_get zs (v - 1) ≡ Some (bare x)) bares (get_bare g.versions (v - 1) x at.1)) in
        (w.0, (at.0, w.1), w.2)

    rewrites_too : (x y : Version) → bare y ≡ bare x → (m : ℕ) → Rewrites g x m → Rewrites k y m
    rewrites_too x y e m (less, u, z, name, at, same, p, q) =
        let w = there_too u z at in
        let f : y.writer ≡ x.writer = ap (λ (a : Version). a.writer) e in
        let d : w.0.writer ≡ z.writer = ap (λ (a : Version). a.writer) w.2 in
        let ns : x.names ≡ y.names = sym (ap (λ (a : Version). a.names) e) in
        let ms : z.names ≡ w.0.names = sym (ap (λ (a : Version). a.names) w.2) in
        (omega (arith, less, f), u, w.0, name, w.1, d ∙ same, subst (λ l. Contains l name) ns p, subst (λ l. Contains l name) ms q)

  module _ (g k : Graph) (h : IsHistory r g) (i : IsHistory r k) where
    same_replaced : (v : ℕ) (x y : Version) → VersionAt g v x → VersionAt k v y → bare y ≡ bare x → y.replaced ≡ x.replaced
    same_replaced v x y at bt e = elim (h.replaced v x at) [
      | inl a ↦ elim (i.replaced v y bt) [
        | inl b ↦ b.0 ∙ sym a.0
        | inr b ↦ absurd (a.1 y.replaced (rewrites_too k g i h y x (sym e) y.replaced b.0))
      ]
      | inr a ↦ elim (i.replaced v y bt) [
        | inl b ↦ absurd (b.1 x.replaced (rewrites_too g k h i x y e x.replaced a.0))
        | inr b ↦ first_unique (Rewrites k y) y.replaced x.replaced b (rewrites_too g k h i x y e x.replaced a.0, λ m l w. a.1 m l (rewrites_too k g i h y x (sym e) m w))
      ]
    ]

    same_at : (v : ℕ) (x : Version) → VersionAt g v x → VersionAt k v x
    same_at v x at =
        let w = there_too g k h i v x at in
        let y : Version = w.0 in
        let f : y.replaced ≡ x.replaced = same_replaced v x y at w.1 w.2 in
        let e : y ≡ x = ap (λ (z : Version). record z { replaced = y.replaced }) w.2 ∙ ap (λ n. record x { replaced = n }) f in
        subst (VersionAt k v) e w.1

    versions_in : (n : ℕ) (x : Version) → slice_get g.versions n ≡ Some x → slice_get k.versions n ≡ Some x
    versions_in n x p =
        let e : suc n - 1 ≡ n = omega arith in
        subst (λ m. slice_get k.versions m ≡ Some x) e (same_at (suc n) x (omega arith, subst (λ m. slice_get g.versions m ≡ Some x) (sym e) p)).1

    read_too : (c v : ℕ) → IsRead r g c v → IsRead r k c v
    read_too c v (x, holds, name, p, why) = (x, record { at = same_at v x holds.at; written = holds.written; stands = holds.stands }, name, p, why)

  module _ (g k : Graph) (h : IsHistory r g) (i : IsHistory r k) where
    same_record : (c : ℕ) (x y : CellRecord) → IsRecord r g c x → IsRecord r k c y → x ≡ y
    same_record c x y a b =
        let reads : x.reads ≡ y.reads = same_list (λ m n. m < n) (λ l m n p q. omega (arith, p, q)) (λ n p. omega (arith, p)) x.reads y.reads a.reads_ascend b.reads_ascend
        (λ v p. (b.reads v).1 (read_too g k h i c v ((a.reads v).0 p))) (λ v p. (a.reads v).1 (read_too k g i h c v ((b.reads v).0 p))) in
        let missing : x.missing ≡ y.missing = same_list TextBelow below_on never_below_itself x.missing y.missing a.missing_ascends b.missing_ascends
        (λ z p. (b.missing z).1 ((a.missing z).0 p)) (λ z p. (a.missing z).1 ((b.missing z).0 p)) in
        ap (λ l. record x { reads = l }) reads
        ∙ (ap (λ l. record x { reads = y.reads; missing = l }) missing
        ∙ (ap (λ l. record x { reads = y.reads; missing = y.missing; code = l }) (a.code ∙ sym b.code)
        ∙ (ap (λ n. record x { reads = y.reads; missing = y.missing; code = y.code; meter = n }) (a.meter ∙ sym b.meter)
        ∙ (ap (λ n. record x { reads = y.reads; missing = y.missing; code = y.code; meter = y.meter; steps = n }) (a.steps ∙ sym b.steps)
        ∙ ap (λ t. record x { reads = y.reads; missing = y.missing; code = y.code; meter = y.meter; steps = y.steps; drew = t }) (a.drew ∙ sym b.drew)))))

    cells_in : (n : ℕ) (x : CellRecord) → slice_get g.cells n ≡ Some x → slice_get k.cells n ≡ Some x
    cells_in n x p =
        let l = slice_get_within g.cells n x p in
        let a = h.cells in
        let b = i.cells in
        let y : CellRecord = get_or k.cells n x in
        let q : slice_get k.cells n ≡ Some y = slice_get-get_or k.cells n x (omega (arith, l, a, b)) in
        let e : suc n - 1 ≡ n = omega arith in
        let same : x ≡ y = same_record n x y (h.records n x (omega arith, subst (λ m. slice_get g.cells m ≡ Some x) (sym e) p)) (i.records n y (omega arith, subst (λ m. slice_get k.cells m ≡ Some y) (sym e) q)) in
        subst (λ z. slice_get k.cells n ≡ Some z) (sym same) q

  pub one_history : (g k : Graph) → IsHistory r g → IsHistory r k → g ≡ k
  one_history g k h i =
      ap (λ l. record g { cells = l }) (same_by_get g.cells k.cells (cells_in g k h i) (cells_in k g i h))
      ∙ ap (λ l. record k { versions = l }) (same_by_get g.versions k.versions (versions_in g k h i) (versions_in k g i h))
