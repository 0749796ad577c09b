-- Marks, and the cells that a version needs.
use Rattle.std.proofs.Common.{◌≡◌, ℕ, ◌+◌, ◌-◌, ◌<◌, ◌≤◌, ◌⊎◌, ◌↔◌, Bool, true, false, List, [], ◌∷◌, ◌++◌, length, get_or, set, replicate, refl, sym, ap, ◌∙◌, subst, inl, inr, arith}
use Rattle.std.specs.Prelude.{Contains}
use Rattle.std.proofs.lemmas.Bool.{false≢true, cases_eq, cases_lt}
use Rattle.std.proofs.lemmas.List.{get_or-set_same, get_or-set_other, get_or_past, get_or_default, get_or_read, get_or-replicate, length-replicate}
use Rattle.std.proofs.lemmas.List.Elements.{Contains-push, Contains-push_cases, Contains-append_left, Contains-get_or}
use Rattle.graph_model.specs.declared.graph.Version.{Version}
use Rattle.graph_model.specs.declared.graph.Graph.{Graph}
use Rattle.graph_model.specs.Graphs.{VersionAt, ReadsOldOf, Needs, writer, before}
use Rattle.graph_model.specs.Faults.{Ascends, IsGraph}
use Rattle.graph_model.specs.Marks.{IsMarked, WroteOld, WroteOldOf}
use Rattle.graph_model.proofs.Lookups.{same_version, cell_within}
use Rattle.graph_model.proofs.Ascending.{ascends-push}

pub marked_within : (marks : List Bool) (w : ℕ) → IsMarked marks w → w < length marks
marked_within marks w h = elim (cases_lt w (length marks)) [
  | inl l ↦ l
  | inr l ↦ absurd (false≢true (sym (get_or_past marks w false l) ∙ h))
]

pub marked_here : (marks : List Bool) (i : ℕ) → i < length marks → IsMarked (set marks i true) i
marked_here marks i l = get_or-set_same marks i true false l

pub marked_still : (marks : List Bool) (i w : ℕ) → IsMarked marks w → IsMarked (set marks i true) w
marked_still marks i w h = elim (cases_eq w i) [
  | inl e ↦
      let l : w < length marks = marked_within marks w h in
      let P : ℕ → Type 0 = λ k. IsMarked (set marks i true) k in
      subst P (sym e) (marked_here marks i (omega arith))
  | inr n ↦ get_or-set_other marks i w true false n ∙ h
]

pub marked_cases : (marks : List Bool) (i w : ℕ) → IsMarked (set marks i true) w → IsMarked marks w ⊎ (i ≡ w)
marked_cases marks i w h = elim (cases_eq w i) [
  | inl e ↦ inr (sym e)
  | inr n ↦ inl (sym (get_or-set_other marks i w true false n) ∙ h)
]

-- the writer of a version of a graph is one of its cells
pub writer_within : (g : Graph) → IsGraph g → (v : ℕ) (x : Version) → VersionAt g v x → (0 < x.writer) × (x.writer ≤ length g.cells)
writer_within g is v x at =
    let zero_not : x.writer ≡ 0 → ⊥ = λ e. is.writers v (x, at, inl (inl e)) in
    let over_not : length g.cells < x.writer → ⊥ = λ l. is.writers v (x, at, inl (inr (inl l))) in (
      elim (cases_lt 0 x.writer) [ inl l ↦ l | inr l ↦ absurd (zero_not (omega arith)) ],
      elim (cases_lt (length g.cells) x.writer) [ inl l ↦ absurd (over_not l) | inr l ↦ l ],
    )

pub old_writer_within : (g : Graph) → IsGraph g → (v w : ℕ) → WroteOld g v w → (0 < w) × (w ≤ length g.cells)
old_writer_within g is v w o =
    let P : ℕ → Type 0 = λ n. (0 < n) × (n ≤ length g.cells) in
    subst P o.3 (writer_within g is v o.0 o.1)

pub same_old_writer : (g : Graph) (v w u : ℕ) → WroteOld g v w → WroteOld g v u → w ≡ u
same_old_writer g v w u o p = sym o.3 ∙ (ap (λ (x : Version). x.writer) (same_version g v o.0 p.0 o.1 p.1) ∙ p.3)

-- what a cell read was written before it
pub reads_old_before : (g : Graph) → IsGraph g → (c w : ℕ) → ReadsOldOf g c w → w < c
reads_old_before g is c w r = elim (cases_lt w c) [
  | inl l ↦ l
  | inr l ↦
      let P : ℕ → Type 0 = λ n. c ≤ n in
      absurd (is.reads c (r.0, r.3, inl (inr (r.1, r.4, inr (r.2, r.5, inl (subst P (sym r.7) l))))))
]

-- `marks` are `old` and the writers of the replaced versions among the first i of `reads`
pub record MarksSo (g : Graph) (reads : List ℕ) (old marks : List Bool) (i : ℕ) : Type 0 where
  pub sound : (w : ℕ) → IsMarked marks w → IsMarked old w ⊎ ((k : ℕ) × (k < i) × WroteOld g (get_or reads k 0) w)
  pub kept : (w : ℕ) → IsMarked old w → IsMarked marks w
  pub whole : (k w : ℕ) → k < i → WroteOld g (get_or reads k 0) w → IsMarked marks w

pub marks_none : (g : Graph) (reads : List ℕ) (old : List Bool) → MarksSo g reads old old 0
marks_none g reads old = record { sound = λ w h. inl h; kept = λ w h. h; whole = λ k w l o. absurd (omega arith) }

pub marks_some : (g : Graph) (reads : List ℕ) (old marks : List Bool) (i u : ℕ) → MarksSo g reads old marks i → u < length marks → WroteOld g (get_or reads i 0) u
    → MarksSo g reads old (set marks u true) (i + 1)
marks_some g reads old marks i u m l o = record {
  sound = λ w h. elim (marked_cases marks u w h) [
    | inl k ↦ elim (m.sound w k) [
      | inl p ↦ inl p
      | inr p ↦ let below : p.0 < i = p.1 in inr (p.0, omega arith, p.2)
    ]
    | inr e ↦ let P : ℕ → Type 0 = λ n. WroteOld g (get_or reads i 0) n in inr (i, omega arith, subst P e o)
  ];
  kept = λ w h. marked_still marks u w (m.kept w h);
  whole = λ k w b p. elim (cases_lt k i) [
    | inl s ↦ marked_still marks u w (m.whole k w s p)
    | inr s ↦
        let same : k ≡ i = omega arith in
        let P : ℕ → Type 0 = λ n. WroteOld g (get_or reads n 0) w in
        let Q : ℕ → Type 0 = λ n. IsMarked (set marks u true) n in
        subst Q (same_old_writer g (get_or reads i 0) u w o (subst P same p)) (marked_here marks u l)
  ];
}

pub marks_same : (g : Graph) (reads : List ℕ) (old marks : List Bool) (i : ℕ) → MarksSo g reads old marks i → ((w : ℕ) → WroteOld g (get_or reads i 0) w → ⊥)
    → MarksSo g reads old marks (i + 1)
marks_same g reads old marks i m n = record {
  sound = λ w h. elim (m.sound w h) [
    | inl p ↦ inl p
    | inr p ↦ let below : p.0 < i = p.1 in inr (p.0, omega arith, p.2)
  ];
  kept = m.kept;
  whole = λ k w b p. elim (cases_lt k i) [
    | inl s ↦ m.whole k w s p
    | inr s ↦
        let same : k ≡ i = omega arith in
        let P : ℕ → Type 0 = λ j. WroteOld g (get_or reads j 0) w in
        absurd (n w (subst P same p))
  ];
}

pub marks_all : (g : Graph) (reads : List ℕ) (old marks : List Bool) (i : ℕ) → length reads ≤ i → i ≤ length reads → MarksSo g reads old marks i
    → (w : ℕ) → IsMarked marks w ↔ (IsMarked old w ⊎ WroteOldOf g reads w)
marks_all g reads old marks i low high m w = (
  (λ h. elim (m.sound w h) [
    | inl p ↦ inl p
    | inr p ↦ let below : p.0 < i = p.1 in inr (get_or reads p.0 0, Contains-get_or reads p.0 0 (omega arith), p.2)
  ]),
  (λ h. elim h [
    | inl p ↦ m.kept w p
    | inr p ↦
        let c = p.1 in
        let l : c.0 < length reads = c.1 in
        let e = get_or_default reads c.0 0 p.0 l ∙ c.2 in
        let P : ℕ → Type 0 = λ n. WroteOld g n w in
        m.whole c.0 w (omega arith) (subst P (sym e) p.2)
  ]),
)

-- `numbers` are those below i with a mark
pub record NumbersSo (marks : List Bool) (numbers : List ℕ) (i : ℕ) : Type 0 where
  pub ascends : Ascends (λ m n. m < n) numbers
  pub sound : (k : ℕ) → Contains numbers k → (k < i) × IsMarked marks k
  pub whole : (k : ℕ) → k < i → IsMarked marks k → Contains numbers k

pub numbers_more : (marks : List Bool) (numbers : List ℕ) (i : ℕ) → NumbersSo marks numbers i → IsMarked marks i → NumbersSo marks (numbers ++ i ∷ []) (i + 1)
numbers_more marks numbers i n h = record {
  ascends = ascends-push (λ m n. m < n) numbers i n.ascends (λ x c. (n.sound x c).0);
  sound = λ k c. elim (Contains-push_cases numbers i k c) [
    | inl d ↦ let p = n.sound k d in let l : k < i = p.0 in (omega arith, p.1)
    | inr e ↦ let P : ℕ → Type 0 = λ j. IsMarked marks j in (omega arith, subst P e h)
  ];
  whole = λ k l m. elim (cases_lt k i) [
    | inl s ↦ Contains-append_left numbers (i ∷ []) k (n.whole k s m)
    | inr s ↦
        let same : i ≡ k = omega arith in
        let P : ℕ → Type 0 = λ j. Contains (numbers ++ i ∷ []) j in
        subst P same (Contains-push numbers i)
  ];
}

pub numbers_same : (marks : List Bool) (numbers : List ℕ) (i : ℕ) → NumbersSo marks numbers i → (IsMarked marks i → ⊥) → NumbersSo marks numbers (i + 1)
numbers_same marks numbers i n h = record {
  ascends = n.ascends;
  sound = λ k c. let p = n.sound k c in let l : k < i = p.0 in (omega arith, p.1);
  whole = λ k l m. elim (cases_lt k i) [
    | inl s ↦ n.whole k s m
    | inr s ↦ let same : k ≡ i = omega arith in let P : ℕ → Type 0 = λ j. IsMarked marks j in absurd (h (subst P same m))
  ];
}

-- the marks are only at cells that version v needs, and each marked cell above `left` has its writers marked
pub record NeedSo (g : Graph) (v : ℕ) (marks : List Bool) (left : ℕ) : Type 0 where
  pub room : length marks ≡ length g.cells + 1
  pub within : left ≤ length g.cells
  pub sound : (c : ℕ) → IsMarked marks c → Needs g v c
  pub writer : (x : Version) → VersionAt g v x → IsMarked marks x.writer
  pub closed : (c w : ℕ) → left < c → IsMarked marks c → ReadsOldOf g c w → IsMarked marks w

pub need_start : (g : Graph) (v : ℕ) (marks : List Bool) (left : ℕ) → left ≡ length g.cells → length marks ≡ length g.cells + 1
    → ((w : ℕ) → IsMarked marks w ↔ ((x : Version) × VersionAt g v x × (x.writer ≡ w))) → NeedSo g v marks left
need_start g v marks left e r m = record {
  room = r;
  within = omega arith;
  sound = λ c h. let s = (m c).0 h in subst (Needs g v) s.2 (writer s.0 s.1);
  writer = λ x at. (m x.writer).1 (x, at, refl);
  closed = λ c w l h o. let b = cell_within g c o.0 o.3 in absurd (omega (arith, b.1));
}

pub need_marked : (g : Graph) → IsGraph g → (v : ℕ) (marks more : List Bool) (left : ℕ) → NeedSo g v marks left → 0 < left → IsMarked marks left
    → length more ≡ length marks → ((w : ℕ) → IsMarked more w ↔ (IsMarked marks w ⊎ ReadsOldOf g left w)) → NeedSo g v more (left - 1)
need_marked g is v marks more left n pos h e m = record {
  room = e ∙ n.room;
  within = let b = n.within in omega arith;
  sound = λ c k. elim ((m c).0 k) [ inl p ↦ n.sound c p | inr o ↦ before left c (n.sound left h) o ];
  writer = λ x at. (m x.writer).1 (inl (n.writer x at));
  closed = λ c w l k o. elim (cases_eq c left) [
    | inl same ↦ let P : ℕ → Type 0 = λ j. ReadsOldOf g j w in (m w).1 (inr (subst P same o))
    | inr other ↦ elim ((m c).0 k) [
      | inl p ↦ (m w).1 (inl (n.closed c w (omega arith) p o))
      | inr q ↦ let b = reads_old_before g is left c q in absurd (other (omega arith))
    ]
  ];
}

pub need_unmarked : (g : Graph) (v : ℕ) (marks : List Bool) (left : ℕ) → NeedSo g v marks left → 0 < left → (IsMarked marks left → ⊥) → NeedSo g v marks (left - 1)
need_unmarked g v marks left n pos h = record {
  room = n.room;
  within = let b = n.within in omega arith;
  sound = n.sound;
  writer = n.writer;
  closed = λ c w l k o. elim (cases_eq c left) [
    | inl same ↦ absurd (h (subst (IsMarked marks) same k))
    | inr other ↦ n.closed c w (omega arith) k o
  ];
}

needs_marked : (g : Graph) (v : ℕ) (marks : List Bool) → NeedSo g v marks 0 → (c : ℕ) → Needs g v c → IsMarked marks c
needs_marked g v marks n c (writer x at) = n.writer x at
needs_marked g v marks n c (before d w h r) =
    let b = cell_within g d r.0 r.3 in
    n.closed d w b.0 (needs_marked g v marks n d h) r

pub need_end : (g : Graph) (v : ℕ) (marks : List Bool) (left : ℕ) → left ≤ 0 → NeedSo g v marks left → (c : ℕ) → IsMarked marks c ↔ Needs g v c
need_end g v marks left z n c =
    let e : left ≡ 0 = omega arith in
    (n.sound c, needs_marked g v marks (subst (NeedSo g v marks) e n) c)

pub read_marked : (xs : List Bool) (i : ℕ) (x : Bool) → i < length xs → x ≡ get_or xs i x → x ≡ true → IsMarked xs i
read_marked xs i x l e h = sym (get_or_read xs i x l e false) ∙ h

pub read_unmarked : (xs : List Bool) (i : ℕ) (x : Bool) → i < length xs → x ≡ get_or xs i x → x ≡ false → IsMarked xs i → ⊥
read_unmarked xs i x l e h m = false≢true (sym h ∙ (get_or_read xs i x l e false ∙ m))

pub none_marked : (n : ℕ) (marks : List Bool) → marks ≡ replicate n false → (w : ℕ) → IsMarked marks w → ⊥
none_marked n marks e w h =
    let P : List Bool → Type 0 = λ xs. IsMarked xs w in
    let k : IsMarked (replicate n false) w = subst P e h in
    let l = marked_within (replicate n false) w k in
    false≢true (sym (get_or-replicate n w false false (omega (arith, length-replicate {A = Bool}))) ∙ k)

-- one mark, at the writer of version v
pub one_marked : (g : Graph) (v u : ℕ) (x : Version) → VersionAt g v x → x.writer ≡ u → (marks : List Bool) → u < length marks → ((w : ℕ) → IsMarked marks w → ⊥)
    → (w : ℕ) → IsMarked (set marks u true) w ↔ ((x : Version) × VersionAt g v x × (x.writer ≡ w))
one_marked g v u x at e marks l n w = (
  (λ h. elim (marked_cases marks u w h) [ inl p ↦ absurd (n w p) | inr q ↦ (x, at, e ∙ q) ]),
  (λ h. let P : ℕ → Type 0 = λ j. IsMarked (set marks u true) j in
      subst P (sym e ∙ (ap (λ (y : Version). y.writer) (same_version g v x h.0 at h.1) ∙ h.2)) (marked_here marks u l)),
)
