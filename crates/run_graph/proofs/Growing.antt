-- A history that grows by a cell is the history of the run with that cell.
use Rattle.std.proofs.Common.{◌≡◌, ℕ, zero, suc, ◌-◌, ◌+◌, ◌<◌, ◌≤◌, Bool, true, false, List, [], ◌∷◌, ◌++◌, length, Some, refl, sym, ap, ◌∙◌, ◌⊎◌, inl, inr, subst, arith, length-append}
use Rattle.std.specs.Prelude.{Contains, slice_get}
use Rattle.std.specs.List.{AllZip}
use Rattle.std.proofs.lemmas.Bool.{cases_lt}
use Rattle.std.proofs.lemmas.Option.{slice_get_within, slice_get-get_or, get_or_from_slice_get, none-some}
use Rattle.std.proofs.lemmas.List.Elements.{length_all_zip}
use Rattle.flow_model.specs.First.{IsFirst}
use Rattle.py_machine.specs.Runs.{Name}
use Rattle.py_laws.proofs.Partners.{first_in}
use Rattle.graph_model.specs.declared.graph.CellRecord.{CellRecord}
use Rattle.graph_model.specs.declared.graph.Version.{Version}
use Rattle.graph_model.specs.declared.graph.Graph.{Graph}
use Rattle.graph_model.specs.Graphs.{CellAt, VersionAt}
use Rattle.graph_model.specs.Faults.{TextBelow, Ascends, ComesBefore, least_name}
use Rattle.graph_model.proofs.Lookups.{version_within}
use Rattle.linked_parts.specs.Parts.{HasValue, IsPart}
use Rattle.run_graph.specs.Histories.{Run, IsKept, IsWritten, IsDeleted, IsLeft, IsAVersion, IsWeighed, HoldsAfter, Rewrites, IsReplacedFirst, IsRead, IsMissed, IsUnwritten, IsRecordWith, IsRecord, IsHistory}
use Rattle.run_graph.specs.Soundness.{IsRun}
use Rattle.run_graph.proofs.Reached.{has_value}
use Rattle.run_graph.proofs.Weighing.{weighed_alike}
use Rattle.run_graph.proofs.Checking.{named_bound}
use Rattle.run_graph.specs.Growing.{first_cells, Meets, IsAged, IsNew, IsNext}

-- ---- lists after one another

module _ {X : Type 0} where
  pub get_cases : (xs ys : List X) (i : ℕ) (x : X) → slice_get (xs ++ ys) i ≡ Some x → (slice_get xs i ≡ Some x) ⊎ ((j : ℕ) × (i ≡ length xs + j) × (slice_get ys j ≡ Some x))
  get_cases [] ys i x h = inr (i, omega arith, h)
  get_cases (z ∷ xs) ys zero x h = inl h
  get_cases (z ∷ xs) ys (suc i) x h = elim (get_cases xs ys i x h) [ inl k ↦ inl k | inr k ↦ inr (k.0, let e = k.1 in omega (arith, e), k.2) ]

  get_left : (xs ys : List X) (i : ℕ) (x : X) → slice_get xs i ≡ Some x → slice_get (xs ++ ys) i ≡ Some x
  get_left [] ys i x h = absurd (none-some x h)
  get_left (z ∷ xs) ys zero x h = h
  get_left (z ∷ xs) ys (suc i) x h = get_left xs ys i x h

  get_right : (xs ys : List X) (i j : ℕ) (x : X) → i ≡ length xs + j → slice_get ys j ≡ Some x → slice_get (xs ++ ys) i ≡ Some x
  get_right [] ys i j x e h = subst (λ n. slice_get ys n ≡ Some x) (let f : j ≡ i = omega (arith, e) in f) h
  get_right (z ∷ xs) ys zero j x e h = let none : ⊥ = omega (arith, e) in absurd none
  get_right (z ∷ xs) ys (suc i) j x e h = get_right xs ys i j x (omega (arith, e)) h

  pub in_of_get : (xs : List X) (i : ℕ) (x : X) → slice_get xs i ≡ Some x → Contains xs x
  in_of_get xs i x h = (i, slice_get_within xs i x h, get_or_from_slice_get xs i x x h)

  pub get_of_in : (xs : List X) (x : X) → Contains xs x → (i : ℕ) × (slice_get xs i ≡ Some x)
  get_of_in xs x h = (h.0, slice_get-get_or xs h.0 x h.1 ∙ ap (λ (z : X). Some z) h.2)

  zip_back : (R : X → X → Type 0) (xs ys : List X) → AllZip R xs ys → (i : ℕ) (y : X) → slice_get ys i ≡ Some y → (x : X) × (slice_get xs i ≡ Some x) × R x y
  zip_back R [] [] z i y h = absurd (none-some y h)
  zip_back R (x ∷ xs) (w ∷ ys) z zero y h = (x, refl, subst (R x) (some_same w y h) z.0)
    where
      some_same : (a b : X) → Some a ≡ Some b → a ≡ b
      some_same a b e = cc
  zip_back R (x ∷ xs) (w ∷ ys) z (suc i) y h = zip_back R xs ys z.1 i y h
  zip_back R [] (w ∷ ys) z i y h = absurd z
  zip_back R (x ∷ xs) [] z i y h = absurd z

  zip_forth : (R : X → X → Type 0) (xs ys : List X) → AllZip R xs ys → (i : ℕ) (x : X) → slice_get xs i ≡ Some x → (y : X) × (slice_get ys i ≡ Some y) × R x y
  zip_forth R [] [] z i x h = absurd (none-some x h)
  zip_forth R (w ∷ xs) (y ∷ ys) z zero x h = (y, refl, subst (λ v. R v y) (some_same w x h) z.0)
    where
      some_same : (a b : X) → Some a ≡ Some b → a ≡ b
      some_same a b e = cc
  zip_forth R (w ∷ xs) (y ∷ ys) z (suc i) x h = zip_forth R xs ys z.1 i x h
  zip_forth R [] (y ∷ ys) z i x h = absurd z
  zip_forth R (x ∷ xs) [] z i w h = absurd z

  pub ascends_at : (R : X → X → Type 0) (xs : List X) → Ascends R xs → (i : ℕ) (x y : X) → slice_get xs i ≡ Some x → slice_get xs (suc i) ≡ Some y → R x y
  ascends_at R [] a i x y p q = absurd (none-some x p)
  ascends_at R (z ∷ []) a i x y p q = absurd (none-some y q)
  ascends_at R (z ∷ w ∷ xs) a zero x y p q = subst (λ m. R m y) (some_same z x p) (subst (R z) (some_same w y q) a.0)
    where
      some_same : (a b : X) → Some a ≡ Some b → a ≡ b
      some_same a b e = cc
  ascends_at R (z ∷ w ∷ xs) a (suc i) x y p q = ascends_at R (w ∷ xs) a.1 i x y p q

module _ (r : Run) (c : ℕ) (g k : Graph) (next : IsNext r c g k) where
  abbrev pub Later : Run
  Later = first_cells r (suc c)

  abbrev pub Aged : Version → Version → Type 0
  Aged = IsAged (suc c) next.news

  abbrev pub size : ℕ
  size = length g.versions

  pub old_size : length next.olds ≡ size
  old_size = sym (length_all_zip Aged g.versions next.olds next.aged)

  -- ---- versions old and new

  abbrev pub Old : ℕ → Version → Type 0
  Old v x = (y : Version) × VersionAt g v y × Aged y x

  abbrev pub New : ℕ → Version → Type 0
  New v x = (j : ℕ) × (v ≡ suc (size + j)) × (slice_get next.news j ≡ Some x)

  pub old_or_new : (v : ℕ) (x : Version) → VersionAt k v x → Old v x ⊎ New v x
  old_or_new v x at =
      let p : 0 < v = at.0 in
      elim (get_cases next.olds next.news (v - 1) x (subst (λ vs. slice_get vs (v - 1) ≡ Some x) next.versions at.1)) [
        | inl q ↦ let w = zip_back Aged g.versions next.olds next.aged (v - 1) x q in inl (w.0, (p, w.1), w.2)
        | inr q ↦ let e = q.1 in let f = old_size in inr (q.0, omega (arith, e, f, p), q.2)
      ]

  pub to_old : (v : ℕ) (y : Version) → VersionAt g v y → (x : Version) × VersionAt k v x × Aged y x
  to_old v y at =
      let w = zip_forth Aged g.versions next.olds next.aged (v - 1) y at.1 in
      (w.0, (at.0, subst (λ vs. slice_get vs (v - 1) ≡ Some w.0) (sym next.versions) (get_left next.olds next.news (v - 1) w.0 w.1)), w.2)

  pub to_new : (x : Version) → Contains next.news x → (v : ℕ) × VersionAt k v x
  to_new x p =
      let w = get_of_in next.news x p in
      let f = old_size in
      let e : suc (size + w.0) - 1 ≡ length next.olds + w.0 = omega (arith, f) in
      (suc (size + w.0), (omega arith, subst (λ vs. slice_get vs (suc (size + w.0) - 1) ≡ Some x) (sym next.versions) (get_right next.olds next.news (suc (size + w.0) - 1) w.0 x e w.1)))

  pub new_writer : (v : ℕ) (x : Version) → New v x → x.writer ≡ suc c
  new_writer v x n = (next.left x (in_of_get next.news n.0 x n.2)).0

  pub comes_still : (y z x w : Version) → Aged y x → Aged z w → ComesBefore y z → ComesBefore x w
  comes_still y z x w a b (inl l) = let e = a.writer in let f = b.writer in inl (omega (arith, l, e, f))
  comes_still y z x w a b (inr p) = inr (
    a.writer ∙ (p.0 ∙ sym b.writer),
    subst (λ ns. TextBelow (least_name ns) (least_name w.names)) (sym a.names) (subst (λ ns. TextBelow (least_name y.names) (least_name ns)) (sym b.names) p.1),
  )

  module _ (run : IsRun r) (h : IsHistory (first_cells r c) g) where
    old_writer : (v : ℕ) (y : Version) → VersionAt g v y → (0 < y.writer) × (y.writer ≤ c)
    old_writer v y at = let w = h.versions v y at in let e = w.1 in let l = w.2 in (omega (arith, e), omega (arith, e, l))

    some_writer : (v : ℕ) (x : Version) → VersionAt k v x → x.writer ≤ suc c
    some_writer v x at = elim (old_or_new v x at) [
      | inl o ↦ let e = o.2.writer in let l = (old_writer v o.0 o.1).1 in omega (arith, e, l)
      | inr n ↦ let e = new_writer v x n in omega (arith, e)
    ]

    -- ---- what held before the cell, held

    module _ (e : ℕ) (l : e ≤ c) (v : ℕ) (y x : Version) (a : Aged y x) where
      held_still : VersionAt k v x → HoldsAfter g e v y → HoldsAfter k e v x
      held_still at holds = record {
        at = at;
        written = let w = holds.written in let f = a.writer in omega (arith, w, f);
        stands = elim a.replaced [
          | inl s ↦ let f = s.1 in elim holds.stands [ inl z ↦ absurd (s.0 z) | inr m ↦ inr (omega (arith, m, f)) ]
          | inr (inl s) ↦ let f = s.2 in inr (omega (arith, f, l))
          | inr (inr s) ↦ inl s.2
        ];
      }

      held_then : VersionAt g v y → HoldsAfter k e v x → HoldsAfter g e v y
      held_then at holds = record {
        at = at;
        written = let w = holds.written in let f = a.writer in omega (arith, w, f);
        stands = elim a.replaced [
          | inl s ↦ let f = s.1 in elim holds.stands [ inl z ↦ inl (sym f ∙ z) | inr m ↦ inr (omega (arith, m, f)) ]
          | inr (inl s) ↦ inl s.0
          | inr (inr s) ↦ inl s.0
        ];
      }

    read_still : (e : ℕ) → e ≤ c → (v : ℕ) → IsRead r g e v → IsRead r k e v
    read_still e l v (y, holds, name, p, why) =
        let w = to_old v y holds.at in
        let same = w.2.names in (
          w.0,
          held_still e l v y w.0 w.2 w.1 holds,
          name,
          subst (λ ns. Contains ns name) (sym same) p,
          elim why [ inl looked ↦ inl looked | inr b ↦ inr (b.0, subst (λ (ns : List Name). 1 < length ns) (sym same) b.1) ],
        )

    read_then : (e : ℕ) → e ≤ c → (v : ℕ) → IsRead r k e v → IsRead r g e v
    read_then e l v (x, holds, name, p, why) = elim (old_or_new v x holds.at) [
      | inl o ↦
          let same = o.2.names in (
            o.0,
            held_then e l v o.0 x o.2 o.1 holds,
            name,
            subst (λ ns. Contains ns name) same p,
            elim why [ inl looked ↦ inl looked | inr b ↦ inr (b.0, subst (λ (ns : List Name). 1 < length ns) same b.1) ],
          )
      | inr n ↦ let w = holds.written in let f = new_writer v x n in let none : ⊥ = omega (arith, w, f, l) in absurd none
    ]

    record_still : (m : ℕ) (e : ℕ) (x : CellRecord) → e ≤ c → IsRecord (first_cells r m) g e x → IsRecord Later k e x
    record_still m e x l i = record {
      code = i.code;
      meter = i.meter;
      steps = i.steps;
      drew = i.drew;
      reads_ascend = i.reads_ascend;
      reads = λ v. (λ p. read_still e l v ((i.reads v).0 p), λ w. (i.reads v).1 (read_then e l v w));
      missing_ascends = i.missing_ascends;
      missing = i.missing;
    }

    first_run : (n : ℕ) → IsRun (first_cells r n)
    first_run n = record { begins = run.begins; closed = run.closed; values = run.values; objects = run.objects }

    -- no version has a name exactly if no cell bound it
    unwritten_missed : (name : Name) → IsUnwritten r g c name → IsMissed r c name
    unwritten_missed name w = (
      w.0,
      λ e l b. elim (has_value (r.state (suc e)) name) [
        | inl value ↦ let p = h.parts e name l value in elim p.3 [
          | inl kept ↦ kept.names_stay name p.1 b
          | inr a ↦ w.1 a.0 a.1 a.2 (subst (λ ns. Contains ns name) (sym a.4) p.1)
        ]
        | inr none ↦ let a = h.deleted e name l (b, none) in w.1 a.0 a.1 a.2 (subst (λ ns. Contains ns name) (sym a.4) (first_in name []))
      ],
    )

    missed_unwritten : (name : Name) → IsMissed r c name → IsUnwritten r g c name
    missed_unwritten name m = (
      m.0,
      λ v y at p.
          let b = named_bound (first_cells r c) (first_run c) g h v y at name p in
          let l = b.1 in
          let f = (old_writer v y at).1 in
          m.1 b.0 (omega (arith, l, f)) b.2,
    )

    all_records : (e : ℕ) (x : CellRecord) → CellAt k (suc e) x → IsRecord Later k e x
    all_records e x at = elim (get_cases g.cells (next.cell ∷ []) (suc e - 1) x (subst (λ xs. slice_get xs (suc e - 1) ≡ Some x) next.cells at.1)) [
      | inl q ↦
          let within = slice_get_within g.cells (suc e - 1) x q in
          let n = h.cells in
          record_still c e x (omega (arith, within, n)) (h.records e x (omega arith, q))
      | inr q ↦
          let f = q.1 in
          let n = h.cells in
          let last = slice_get_within (next.cell ∷ []) q.0 x q.2 in
          let zero_j : q.0 ≡ 0 = omega (arith, last) in
          let same : next.cell ≡ x = one (subst (λ j. slice_get (next.cell ∷ []) j ≡ Some x) zero_j q.2) in
          let e_is : e ≡ c = omega (arith, f, n, zero_j) in
          subst (λ m. IsRecord Later k m x) (sym e_is) (subst (IsRecord Later k c) same (record_still r.cells c next.cell (omega arith) (whole next.is_record)))
    ]
      where
        one : {a b : CellRecord} → Some a ≡ Some b → a ≡ b
        one i = cc

        whole : IsRecordWith (IsUnwritten r g c) r g c next.cell → IsRecord (first_cells r r.cells) g c next.cell
        whole i = record {
          code = i.code;
          meter = i.meter;
          steps = i.steps;
          drew = i.drew;
          reads_ascend = i.reads_ascend;
          reads = i.reads;
          missing_ascends = i.missing_ascends;
          missing = λ name. (λ p. unwritten_missed name ((i.missing name).0 p), λ m. (i.missing name).1 (missed_unwritten name m));
        }

    -- ---- what each version is

    left_still : (e : ℕ) (y x : Version) → Aged y x → IsLeft r e y → IsLeft r e x
    left_still e y x a (inl w) = inl (a.absent ∙ w.0, subst (λ ns. IsPart (r.state (suc e)) ns) (sym a.names) w.1, subst (λ ns. IsWritten r e ns) (sym a.names) w.2)
    left_still e y x a (inr w) = inr (a.absent ∙ w.0, w.1, a.names ∙ w.2, w.3)

    all_versions : (v : ℕ) (x : Version) → VersionAt k v x → (e : ℕ) × (x.writer ≡ suc e) × (e < suc c) × IsLeft r e x
    all_versions v x at = elim (old_or_new v x at) [
      | inl o ↦ let w = h.versions v o.0 o.1 in (w.0, o.2.writer ∙ w.1, let l = w.2 in omega (arith, l), left_still w.0 o.0 x o.2 w.3)
      | inr n ↦ let w = next.left x (in_of_get next.news n.0 x n.2) in (c, w.0, omega arith, w.2)
    ]

    all_weights : (v : ℕ) (x : Version) → VersionAt k v x → IsWeighed r x.writer x
    all_weights v x at = elim (old_or_new v x at) [
      | inl o ↦ subst (λ n. IsWeighed r n x) (sym o.2.writer) (weighed_alike r o.0.writer o.0 x o.2.names o.2.handle o.2.size (h.weights v o.0 o.1))
      | inr n ↦ let w = next.left x (in_of_get next.news n.0 x n.2) in subst (λ m. IsWeighed r m x) (sym w.0) w.3
    ]

    in_order : (v : ℕ) (x w : Version) → VersionAt k v x → VersionAt k (suc v) w → ComesBefore x w
    in_order v x w at bt = elim (old_or_new v x at) [
      | inl o ↦ elim (old_or_new (suc v) w bt) [
        | inl p ↦ comes_still o.0 p.0 x w o.2 p.2 (h.order v o.0 p.0 o.1 p.1)
        | inr n ↦ let e = o.2.writer in let l = (old_writer v o.0 o.1).1 in let f = new_writer (suc v) w n in inl (omega (arith, e, l, f))
      ]
      | inr n ↦ elim (old_or_new (suc v) w bt) [
        | inl p ↦ let e = n.1 in let l = (version_within g (suc v) p.0 p.1).1 in let none : ⊥ = omega (arith, e, l) in absurd none
        | inr m ↦
            let e = n.1 in
            let f = m.1 in
            let after : m.0 ≡ suc n.0 = omega (arith, e, f) in
            inr (
              new_writer v x n ∙ sym (new_writer (suc v) w m),
              ascends_at (λ y z. TextBelow (least_name y.names) (least_name z.names)) next.news next.ascend n.0 x w n.2 (subst (λ j. slice_get next.news j ≡ Some w) after m.2),
            )
      ]
    ]

    -- ---- what replaces a version

    rewrites_still : (y x : Version) → Aged y x → (m : ℕ) → Rewrites g y m → Rewrites k x m
    rewrites_still y x a m (less, u, z, name, at, e, p, q) =
        let w = to_old u z at in
        let f = a.writer in
        (omega (arith, less, f), u, w.0, name, w.1, w.2.writer ∙ e, subst (λ ns. Contains ns name) (sym a.names) p, subst (λ ns. Contains ns name) (sym w.2.names) q)

    -- by an older version, or by a new one
    rewrites_cases : (y x : Version) → Aged y x → (m : ℕ) → Rewrites k x m → Rewrites g y m ⊎ ((m ≡ suc c) × Meets next.news y)
    rewrites_cases y x a m (less, u, z, name, at, e, p, q) = elim (old_or_new u z at) [
      | inl o ↦
          let f = a.writer in
          inl (omega (arith, less, f), u, o.0, name, o.1, sym o.2.writer ∙ e, subst (λ ns. Contains ns name) a.names p, subst (λ ns. Contains ns name) o.2.names q)
      | inr n ↦ inr (sym e ∙ new_writer u z n, (z, name, in_of_get next.news n.0 z n.2, subst (λ ns. Contains ns name) a.names p, q))
    ]

    rewriter_old : (y : Version) (m : ℕ) → Rewrites g y m → m ≤ c
    rewriter_old y m (less, u, z, name, at, e, p, q) = let l = (old_writer u z at).1 in omega (arith, l, e)

    never_old : (v : ℕ) (y : Version) → VersionAt g v y → y.replaced ≡ 0 → (m : ℕ) → ¬ Rewrites g y m
    never_old v y at e m w = elim (h.replaced v y at) [
      | inl s ↦ s.1 m w
      | inr f ↦ let less = f.0.0 in let none : ⊥ = omega (arith, less, e) in none
    ]

    first_at : (x : Version) (n : ℕ) → x.replaced ≡ n → IsFirst (Rewrites k x) n → IsReplacedFirst k x
    first_at x n e f = inr (subst (λ m. IsFirst (Rewrites k x) m) (sym e) f)

    old_replaced : (v : ℕ) (y x : Version) → VersionAt g v y → Aged y x → IsReplacedFirst k x
    old_replaced v y x at a = elim a.replaced [
      | inl s ↦ elim (h.replaced v y at) [
        | inl z ↦ absurd (s.0 z.0)
        | inr f ↦
            let early = rewriter_old y y.replaced f.0 in
            first_at x y.replaced s.1 (
              rewrites_still y x a y.replaced f.0,
              λ m l w. elim (rewrites_cases y x a m w) [
                | inl old ↦ f.1 m l old
                | inr new ↦ let e = new.0 in let none : ⊥ = omega (arith, e, l, early) in none
              ],
            )
      ]
      | inr (inl s) ↦
          let n = to_new s.1.0 s.1.2 in
          let z : Version = s.1.0 in
          let f = a.writer in
          let l = (old_writer v y at).1 in
          let again : Rewrites k x (suc c) = (omega (arith, f, l), n.0, z, s.1.1, n.1, (next.left z s.1.2).0, subst (λ ns. Contains ns s.1.1) (sym a.names) s.1.3, s.1.4) in
          first_at x (suc c) s.2 (
            again,
            λ m l w. elim (rewrites_cases y x a m w) [
              | inl old ↦ never_old v y at s.0 m old
              | inr new ↦ let e = new.0 in let none : ⊥ = omega (arith, e, l) in none
            ],
          )
      | inr (inr s) ↦ inl (
        s.2,
        λ m w. elim (rewrites_cases y x a m w) [
          | inl old ↦ never_old v y at s.0 m old
          | inr new ↦ s.1 new.1
        ],
      )
    ]

    all_replaced : (v : ℕ) (x : Version) → VersionAt k v x → IsReplacedFirst k x
    all_replaced v x at = elim (old_or_new v x at) [
      | inl o ↦ old_replaced v o.0 x o.1 o.2
      | inr n ↦
          let w = next.left x (in_of_get next.news n.0 x n.2) in
          inl (
            w.1,
            λ m i.
                let less = i.0 in
                let most = some_writer i.1 i.2 i.4 in
                let same = i.5 in
                let own = w.0 in
                omega (arith, less, most, same, own),
          )
    ]

    -- ---- each part and each deleted name

    a_version_still : (w : ℕ) (names : List Name) (absent : Bool) → IsAVersion g w names absent → IsAVersion k w names absent
    a_version_still w names absent (v, y, at, e, p, q) = let i = to_old v y at in (v, i.0, i.1, i.2.writer ∙ e, i.2.names ∙ p, i.2.absent ∙ q)

    a_version_new : (names : List Name) (absent : Bool) → IsNew next.news names absent → IsAVersion k (suc c) names absent
    a_version_new names absent (y, p, e, q) = let i = to_new y p in (i.0, y, i.1, (next.left y p).0, e, q)

    kept_still : (e m n : ℕ) (names : List Name) → IsKept (first_cells r m) e names → IsKept (first_cells r n) e names
    kept_still e m n names i = record { names_stay = i.names_stay; objects_stay = i.objects_stay; before = i.before }

    kept_now : (names : List Name) → IsKept r c names → IsKept Later c names
    kept_now names i = record { names_stay = i.names_stay; objects_stay = i.objects_stay; before = i.before }

    Found : ℕ → Name → Type 0
    Found e x = (names : List Name) × Contains names x × IsPart (r.state (suc e)) names × (IsKept Later e names ⊎ IsAVersion k (suc e) names false)

    all_parts : (e : ℕ) (x : Name) → e < suc c → HasValue (r.state (suc e)) x → Found e x
    unfolding Found
    all_parts e x l value = elim (cases_lt e c) [
      | inl early ↦
          let w = h.parts e x early value in
          (w.0, w.1, w.2, elim w.3 [ inl i ↦ inl (kept_still e c (suc c) w.0 i) | inr a ↦ inr (a_version_still (suc e) w.0 false a) ])
      | inr late ↦
          let same : e ≡ c = omega (arith, l, late) in
          let w = next.parts x (subst (λ m. HasValue (r.state (suc m)) x) same value) in
          subst (λ m. Found m x) (sym same) (w.0, w.1, w.2, elim w.3 [ inl i ↦ inl (kept_now w.0 i) | inr a ↦ inr (a_version_new w.0 false a) ])
    ]

    all_deleted : (e : ℕ) (x : Name) → e < suc c → IsDeleted r e x → IsAVersion k (suc e) (x ∷ []) true
    all_deleted e x l gone = elim (cases_lt e c) [
      | inl early ↦ a_version_still (suc e) (x ∷ []) true (h.deleted e x early gone)
      | inr late ↦
          let same : e ≡ c = omega (arith, l, late) in
          subst (λ m. IsAVersion k (suc m) (x ∷ []) true) (sym same) (a_version_new (x ∷ []) true (next.deleted x (subst (λ m. IsDeleted r m x) same gone)))
    ]

    pub grown : IsHistory Later k
    unfolding Found
    grown = record {
      cells = ap (λ (xs : List CellRecord). length xs) next.cells ∙ (let e = length-append g.cells (next.cell ∷ []) in let n = h.cells in omega (arith, e, n));
      records = all_records;
      versions = all_versions;
      order = in_order;
      replaced = all_replaced;
      weights = all_weights;
      parts = all_parts;
      deleted = all_deleted;
    }

-- ---- before the first cell

pub nothing_yet : (r : Run) → IsHistory (first_cells r 0) (record { cells = []; versions = [] })
nothing_yet r = record {
  cells = refl;
  records = λ c x at. absurd (none-some x at.1);
  versions = λ v x at. absurd (none-some x at.1);
  order = λ v x y at bt. absurd (none-some x at.1);
  replaced = λ v x at. absurd (none-some x at.1);
  weights = λ v x at. absurd (none-some x at.1);
  parts = λ c x l value. let none : ⊥ = omega (arith, l) in absurd none;
  deleted = λ c x l gone. let none : ⊥ = omega (arith, l) in absurd none;
}
