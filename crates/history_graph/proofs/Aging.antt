-- The names of the new versions, and the older ones that they replace.
use Rattle.std.proofs.Common.{◌≡◌, ◌≢◌, ℕ, zero, suc, ◌+◌, ◌-◌, ◌<◌, ◌≤◌, All, List, [], ◌∷◌, ◌++◌, length, get_or, set, take, refl, sym, ap, ◌∙◌, ◌⊎◌, inl, inr, subst, arith, take_all, get_or-set_same, get_or-set_other, get_or-append-add, append_assoc, append-nil, length-append}
use Rattle.std.specs.Prelude.{Contains}
use Rattle.std.specs.List.{AllZip}
use Rattle.std.specs.FinMap as finite
use Rattle.std.proofs.lemmas.Bool.{cases_eq, cases_lt}
use Rattle.std.proofs.lemmas.List.{take_more, ext_get_or, get_or_default, get_or_append_left, length-set}
use Rattle.std.proofs.lemmas.List.Elements.{Contains-get_or, Contains-push_cases, Contains-push, Contains-append_left, Contains-append_right, Contains-append_cases}
use Rattle.std.proofs.lemmas.Option.{slice_get-get_or, slice_get_cases, get_or_from_slice_get}
use Rattle.py_laws.proofs.Members.{no_name}
use Rattle.py_laws.proofs.Partners.{none_in}
use Rattle.graph_model.specs.declared.graph.CellRecord.{CellRecord}
use Rattle.graph_model.specs.declared.graph.Version.{Version}
use Rattle.graph_model.specs.declared.graph.Graph.{Graph}
use Rattle.graph_model.specs.Graphs.{VersionAt, IsActive}
use Rattle.graph_model.proofs.Ascending.{ascends-push}
use Rattle.graph_model.proofs.Lookups.{same_version, of_version, version_within, version_read}
use Rattle.run_graph.specs.Growing.{Meets, IsAged}
use Rattle.history_graph.specs.Sets.{Names, HasOneOf, IsWith}
use Rattle.history_graph.specs.Active.{Holds, AreActive, AreThose}
use Rattle.history_graph.specs.Grown.{AreNamesOf, HasFresh, count_on, AreMarked, IsGrown}
use Rattle.history_graph.proofs.Listing.{Ascend, taken, those_push, those_skip, in_or_not, counted, count_to}

-- ---- the names of versions

pub names_none : (versions : List Version) → AreNamesOf (take 0 versions) finite.empty
names_none versions = (λ name h. absurd (no_name name (record { is = h })), λ name y c. absurd (none_in y c))

pub names_more : (versions : List Version) (i : ℕ) (x : Version) (fresh now : Names) → i < length versions → get_or versions i x ≡ x → AreNamesOf (take i versions) fresh
    → IsWith fresh x.names now → AreNamesOf (take (i + 1) versions) now
names_more versions i x fresh now l e h w =
    let more = take_more versions i x l in
    let last : Contains (take (i + 1) versions) x = subst (λ vs. Contains vs x) (sym more) (subst (λ y. Contains (take i versions ++ y ∷ []) x) (sym e) (Contains-push (take i versions) x)) in (
      λ name k. elim ((w name).0 k) [
        | inl o ↦ let a = h.0 name o in (a.0, subst (λ vs. Contains vs a.0) (sym more) (Contains-append_left (take i versions) (get_or versions i x ∷ []) a.0 a.1), a.2)
        | inr c ↦ (x, last, c)
      ],
      λ name y c d. elim (Contains-push_cases (take i versions) (get_or versions i x) y (subst (λ vs. Contains vs y) more c)) [
        | inl k ↦ (w name).1 (inl (h.1 name y k d))
        | inr f ↦ (w name).1 (inr (subst (λ (z : Version). Contains z.names name) (sym f ∙ e) d))
      ],
    )

pub names_all : (versions : List Version) (i : ℕ) (fresh : Names) → length versions ≤ i → AreNamesOf (take i versions) fresh → AreNamesOf versions fresh
names_all versions i fresh l h = subst (λ vs. AreNamesOf vs fresh) (take_all i versions l) h

-- ---- which of the versions that hold stay, and which go

module _ (g : Graph) (fresh : Names) where
  abbrev pub Stays : ℕ → Type 0
  Stays v = ¬ HasFresh g fresh v

  module _ (xs : List ℕ) (i v : ℕ) (a : Ascend xs) (l : i < length xs) (is : v ≡ get_or xs i v) (x : Version) (at : VersionAt g v x) (stay go : List ℕ)
      (h : AreThose Stays (take i xs) stay × AreThose (HasFresh g fresh) (take i xs) go) where
    pub one_goes : HasOneOf fresh x.names → AreThose Stays (take (i + 1) xs) stay × AreThose (HasFresh g fresh) (take (i + 1) xs) (go ++ v ∷ [])
    one_goes t = let f : HasFresh g fresh v = (x, at, t) in (those_skip Stays xs i v a l is stay h.0 (λ n. n f), those_push (HasFresh g fresh) xs i v a l is go h.1 f)

    pub one_stays : ¬ HasOneOf fresh x.names → AreThose Stays (take (i + 1) xs) (stay ++ v ∷ []) × AreThose (HasFresh g fresh) (take (i + 1) xs) go
    one_stays n =
        let s : Stays v = λ f. n (subst (λ (y : Version). HasOneOf fresh y.names) (same_version g v f.0 x f.1 at) f.2) in
        (those_push Stays xs i v a l is stay h.0 s, those_skip (HasFresh g fresh) xs i v a l is go h.1 s)

-- ---- marks

module _ (w : ℕ) (xs : List ℕ) (i v : ℕ) (l : i < length xs) (is : v ≡ get_or xs i v) (old all : List Version) (h : AreMarked w (take i xs) old all) (x : Version)
    (low : 0 < v) (high : v ≤ length all) (at : x ≡ get_or all (v - 1) x) where
  abbrev Marked : Version → Version
  Marked y = record y { replaced = w }

  abbrev Now : List Version
  Now = set all (v - 1) (Marked x)

  here : Contains (take (i + 1) xs) v
  here = subst (λ ns. Contains ns v) (taken xs i v l is) (Contains-push (take i xs) v)

  at_v : (k : ℕ) (d : Version) → v ≡ k + 1 → get_or Now k d ≡ Marked (get_or old k d)
  at_v k d e =
      let f : v - 1 ≡ k = omega (arith, e) in
      let m : k < length all = omega (arith, e, high) in
      let was : x ≡ get_or all k d = subst (λ n. x ≡ get_or all n x) f at ∙ get_or_default all k x d m in
      let now : get_or Now k d ≡ Marked x = ap (λ n. get_or (set all n (Marked x)) k d) f ∙ get_or-set_same all k (Marked x) d m in
      elim (in_or_not (take i xs) (k + 1)) [
        | inl c ↦ now ∙ ap Marked (was ∙ h.marked k d c)
        | inr n ↦ now ∙ ap Marked (was ∙ h.rest k d n)
      ]

  else_at : (k : ℕ) (d : Version) → ¬ (v ≡ k + 1) → get_or Now k d ≡ get_or all k d
  else_at k d n = get_or-set_other all (v - 1) k (Marked x) d (λ e. n (omega (arith, e, low)))

  pub marked_more : AreMarked w (take (i + 1) xs) old Now
  marked_more = record {
    size = length-set all (v - 1) (Marked x) ∙ h.size;
    marked = λ k d c. elim (cases_eq v (k + 1)) [
      | inl e ↦ at_v k d e
      | inr other ↦ elim (Contains-push_cases (take i xs) v (k + 1) (subst (λ ns. Contains ns (k + 1)) (sym (taken xs i v l is)) c)) [
        | inl b ↦ else_at k d other ∙ h.marked k d b
        | inr e ↦ absurd (other e)
      ]
    ];
    rest = λ k d n.
        let other : ¬ (v ≡ k + 1) = λ e. n (subst (λ u. Contains (take (i + 1) xs) u) e here) in
        else_at k d other ∙ h.rest k d (λ c. n (subst (λ ns. Contains ns (k + 1)) (taken xs i v l is) (Contains-append_left (take i xs) (v ∷ []) (k + 1) c)));
  }

-- ---- the older versions

-- y is x, but replaced by the cell of number w if x was active and has one of these names
pub record IsAgedBy (w : ℕ) (fresh : Names) (x y : Version) : Type 0 where
  pub names : y.names ≡ x.names
  pub writer : y.writer ≡ x.writer
  pub absent : y.absent ≡ x.absent
  pub handle : y.handle ≡ x.handle
  pub size : y.size ≡ x.size
  pub replaced : ((x.replaced ≢ 0) × (y.replaced ≡ x.replaced))
      ⊎ ((x.replaced ≡ 0) × HasOneOf fresh x.names × (y.replaced ≡ w))
      ⊎ ((x.replaced ≡ 0) × (¬ HasOneOf fresh x.names) × (y.replaced ≡ 0))

-- the first versions, as many as the count, are aged, and the others stay
pub record AreAgedTo (w : ℕ) (fresh : Names) (count : ℕ) (old now : List Version) : Type 0 where
  pub size : length now ≡ length old
  pub aged : (k : ℕ) (d : Version) → k < count → IsAgedBy w fresh (get_or old k d) (get_or now k d)
  pub rest : (k : ℕ) (d : Version) → count ≤ k → get_or now k d ≡ get_or old k d

module _ (w : ℕ) (news : List Version) (fresh : Names) (h : AreNamesOf news fresh) where
  to_meets : (x : Version) → HasOneOf fresh x.names → Meets news x
  to_meets x (name, c, t) = let a = h.0 name t in (a.0, name, a.1, c, a.2)

  from_meets : (x : Version) → Meets news x → HasOneOf fresh x.names
  from_meets x (y, name, c, d, e) = (name, d, h.1 name y c e)

  to_aged : (x y : Version) → IsAgedBy w fresh x y → IsAged w news x y
  to_aged x y a = record {
    names = a.names;
    writer = a.writer;
    absent = a.absent;
    handle = a.handle;
    size = a.size;
    replaced = elim a.replaced [
      | inl r ↦ inl r
      | inr (inl r) ↦ inr (inl (r.0, to_meets x r.1, r.2))
      | inr (inr r) ↦ inr (inr (r.0, λ m. r.1 (from_meets x m), r.2))
    ];
  }

  pub aged_split : (xs now : List Version) → AreAgedTo w fresh (length xs) (xs ++ news) now → (olds : List Version) × (now ≡ olds ++ news) × AllZip (IsAged w news) xs olds
  aged_split [] now a = ([], same now news a.size (λ k d. a.rest k d (omega arith)), tt)
    where
      same : (ys zs : List Version) → length ys ≡ length zs → ((k : ℕ) (d : Version) → get_or ys k d ≡ get_or zs k d) → ys ≡ zs
      same [] [] e f = refl
      same [] (z ∷ zs) e f = absurd (omega (arith, e))
      same (y ∷ ys) zs e f = ext_get_or y (y ∷ ys) zs e (λ k l. f k y)
  aged_split (x ∷ xs) [] a = absurd (let e = a.size in omega (arith, e))
  aged_split (x ∷ xs) (y ∷ now) a =
      let r = aged_split xs now (record {
        size = let e = a.size in omega (arith, e);
        aged = λ k d l. a.aged (suc k) d (omega (arith, l));
        rest = λ k d l. a.rest (suc k) d (omega (arith, l));
      }) in
      (y ∷ r.0, ap (λ zs. y ∷ zs) r.1, (to_aged x y (a.aged 0 x (omega arith)), r.2))

pub is_grown : (w : ℕ) (cell : CellRecord) (news : List Version) (g k : Graph) (fresh : Names) → AreNamesOf news fresh → k.cells ≡ g.cells ++ cell ∷ []
    → AreAgedTo w fresh (length g.versions) (g.versions ++ news) k.versions → IsGrown w cell news g k
is_grown w cell news g k fresh h e a =
    let r = aged_split w news fresh h g.versions k.versions a in
    record { cells = e; olds = r.0; versions = r.1; aged = r.2 }

-- ---- a graph that knows which of its versions hold, with one more cell

module _ (w : ℕ) (g : Graph) (active : List ℕ) (is : AreActive g active) (news : List Version) (fresh : Names) (stay go : List ℕ) (s : AreThose (Stays g fresh) active stay)
    (t : AreThose (HasFresh g fresh) active go) where
  abbrev Count : ℕ
  Count = length g.versions

  abbrev Old : List Version
  Old = g.versions ++ news

  within : (v : ℕ) → Contains active v → (0 < v) × (v ≤ Count)
  within v c = let k = (is.holds v).0 c in version_within g v k.0 k.1.0

  go_within : (v : ℕ) → Contains go v → (0 < v) × (v ≤ Count)
  go_within v c = within v ((t.those v).0 c).0

  old_at : (k : ℕ) (d : Version) → k < Count → VersionAt g (k + 1) (get_or Old k d)
  old_at k d l = version_read g g.versions k (get_or Old k d) refl l (get_or_append_left g.versions news d k l ∙ get_or_default g.versions k d (get_or Old k d) l)

  pub go_fits : (n : ℕ) → n ≡ length Old → All (λ v. (0 < v) × (v ≤ n)) go
  go_fits n e k d l =
      let b = go_within (get_or go k d) (Contains-get_or go k d l) in
      let m = b.1 in
      let f = length-append g.versions news in
      (b.0, omega (arith, m, e, f))

  module _ (now : List Version) (m : AreMarked w go Old now) where
    aged_at : (k : ℕ) (d : Version) → k < Count → IsAgedBy w fresh (get_or Old k d) (get_or now k d)
    aged_at k d l = elim (in_or_not go (k + 1)) [
      | inl c ↦
          let e = m.marked k d c in
          let f = (t.those (k + 1)).0 c in
          let h = (is.holds (k + 1)).0 f.0 in
          record {
            names = ap (λ (z : Version). z.names) e;
            writer = ap (λ (z : Version). z.writer) e;
            absent = ap (λ (z : Version). z.absent) e;
            handle = ap (λ (z : Version). z.handle) e;
            size = ap (λ (z : Version). z.size) e;
            replaced = inr (inl (
              of_version (λ (z : Version). z.replaced ≡ 0) g (k + 1) (get_or Old k d) h.0 (old_at k d l) h.1.0 h.1.1,
              of_version (λ (z : Version). HasOneOf fresh z.names) g (k + 1) (get_or Old k d) f.1.0 (old_at k d l) f.1.1 f.1.2,
              ap (λ (z : Version). z.replaced) e,
            ));
          }
      | inr n ↦
          let e = m.rest k d n in
          record {
            names = ap (λ (z : Version). z.names) e;
            writer = ap (λ (z : Version). z.writer) e;
            absent = ap (λ (z : Version). z.absent) e;
            handle = ap (λ (z : Version). z.handle) e;
            size = ap (λ (z : Version). z.size) e;
            replaced = elim (cases_eq (get_or Old k d).replaced 0) [
              | inr held ↦ inl (held, ap (λ (z : Version). z.replaced) e)
              | inl z ↦ inr (inr (
                z,
                λ h. n ((t.those (k + 1)).1 ((is.holds (k + 1)).1 (get_or Old k d, (old_at k d l, z)), (get_or Old k d, old_at k d l, h))),
                ap (λ (y : Version). y.replaced) e ∙ z,
              ))
            ];
          }
    ]

    later_stays : (k : ℕ) (d : Version) → Count ≤ k → get_or now k d ≡ get_or Old k d
    later_stays k d l = m.rest k d (λ c. let b = (go_within (k + 1) c).1 in let none : ⊥ = omega (arith, b, l) in none)

    pub aged_to : AreAgedTo w fresh Count Old now
    aged_to = record { size = m.size; aged = aged_at; rest = later_stays }

    module _ (positive : 0 < w) (zeros : All (λ (x : Version). x.replaced ≡ 0) news) (cells : List CellRecord) where
      abbrev K : Graph
      K = record { cells = cells; versions = now }

      long : length now ≡ Count + length news
      long = m.size ∙ length-append g.versions news

      stays_there : (v : ℕ) → Contains stay v → Holds K v
      stays_there v c =
          let a = (s.those v).0 c in
          let k = (is.holds v).0 a.0 in
          let x : Version = k.0 in
          let b = within v a.0 in
          let low = b.0 in
          let high = b.1 in
          let l : v - 1 < Count = omega (arith, low, high) in
          let e = long in
          let same : get_or Old (v - 1) x ≡ x = get_or_append_left g.versions news x (v - 1) l ∙ get_or_from_slice_get g.versions (v - 1) x x k.1.0.1 in (
            get_or now (v - 1) x,
            (
              (low, slice_get-get_or now (v - 1) x (omega (arith, l, e))),
              elim (aged_at (v - 1) x l).replaced [
                | inl r ↦ absurd (r.0 (ap (λ (z : Version). z.replaced) same ∙ k.1.1))
                | inr (inl r) ↦ absurd (a.1 (x, k.1.0, subst (λ (z : Version). HasOneOf fresh z.names) same r.1))
                | inr (inr r) ↦ r.2
              ],
            ),
          )

      new_there : (v : ℕ) → Contains (count_on Count (length news)) v → Holds K v
      new_there v c =
          let b = counted Count (length news) v c in
          let low = b.0 in
          let high = b.1 in
          let e = long in
          let l : v - 1 < length now = omega (arith, low, high, e) in
          elim (slice_get_cases now (v - 1)).1 [
            | inl f ↦
                let y : Version = f.0 in
                let j : v - 1 ≡ Count + (v - 1 - Count) = omega (arith, low) in
                let old : get_or Old (v - 1) y ≡ get_or news (v - 1 - Count) y =
                ap (λ n. get_or Old n y) j ∙ get_or-append-add g.versions news (v - 1 - Count) y in
                let same : y ≡ get_or news (v - 1 - Count) y = sym f.3 ∙ later_stays (v - 1) y (omega (arith, low)) ∙ old in
                (y, ((omega (arith, low), f.2), ap (λ (z : Version). z.replaced) same ∙ zeros (v - 1 - Count) y (omega (arith, low, high))))
            | inr f ↦ absurd (let g = f.0 in let none : ⊥ = omega (arith, l, g) in none)
          ]

      was_there : (v : ℕ) (y : Version) → IsActive K v y → Contains (stay ++ count_on Count (length news)) v
      was_there v y at =
          let b = version_within K v y at.0 in
          let low = b.0 in
          let high = b.1 in
          let e = long in
          elim (cases_lt Count v) [
            | inl l ↦ Contains-append_right stay (count_on Count (length news)) v (count_to Count (length news) v l (omega (arith, high, e)))
            | inr r ↦
                let l : v - 1 < Count = omega (arith, r, low) in
                let n : v - 1 + 1 ≡ v = omega (arith, low) in
                let o : Version = get_or Old (v - 1) y in
                let is_o : VersionAt g v o = subst (λ i. VersionAt g i o) n (old_at (v - 1) y l) in
                let same : get_or now (v - 1) y ≡ y = get_or_from_slice_get now (v - 1) y y at.0.1 in
                let zero_now : (get_or now (v - 1) y).replaced ≡ 0 = ap (λ (z : Version). z.replaced) same ∙ at.1 in
                elim (aged_at (v - 1) y l).replaced [
                  | inl q ↦ absurd (q.0 (sym q.1 ∙ zero_now))
                  | inr (inl q) ↦ absurd (let f : w ≡ 0 = sym q.2 ∙ zero_now in let none : ⊥ = omega (arith, f, positive) in none)
                  | inr (inr q) ↦ Contains-append_left stay (count_on Count (length news)) v ((s.those v).1 (
                    (is.holds v).1 (o, (is_o, q.0)),
                    λ f.
                        q.1 (of_version (λ (z : Version). HasOneOf fresh z.names) g v o f.0 is_o f.1 f.2),
                  ))
                ]
          ]

      ascend : (n : ℕ) → Ascend (stay ++ count_on Count n)
      ascend zero = subst Ascend (sym (append-nil stay)) s.ascends
      ascend (suc n) =
          subst Ascend (append_assoc stay (count_on Count n) ((Count + n + 1) ∷ [])) (ascends-push (λ a b. a < b) (stay ++ count_on Count n) (Count + n + 1) (ascend n) (λ u c.
          elim (Contains-append_cases stay (count_on Count n) u c) [
            | inl k ↦ let b = (within u ((s.those u).0 k).0).1 in omega (arith, b)
            | inr k ↦ let b = (counted Count n u k).1 in omega (arith, b)
          ]))

      pub active_then : AreActive K (stay ++ count_on Count (length news))
      active_then = record {
        ascends = ascend (length news);
        holds = λ v. (
          λ c. elim (Contains-append_cases stay (count_on Count (length news)) v c) [ inl k ↦ stays_there v k | inr k ↦ new_there v k ],
          λ k. was_there v k.0 k.1,
        );
      }
