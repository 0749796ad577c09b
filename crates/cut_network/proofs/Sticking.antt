-- Stuck pairs.
use Rattle.std.proofs.Common.{◌≡◌, ℕ, ◌+◌, ◌<◌, ◌≤◌, ◌↔◌, ◌⊎◌, Bool, true, refl, List, length, get_or, Option, Some, None, sym, ◌∙◌, subst, inl, inr, arith}
use Rattle.std.specs.Prelude.{Contains, MatchOption}
use Rattle.std.proofs.lemmas.Bool.{cases_lt}
use Rattle.std.proofs.lemmas.List.{get_or_default}
use Rattle.std.proofs.lemmas.List.Elements.{Contains-get_or}
use Rattle.flow_model.specs.First.{IsFirst}
use Rattle.graph_model.specs.declared.graph.Version.{Version}
use Rattle.graph_model.specs.declared.graph.Graph.{Graph}
use Rattle.graph_model.specs.Graphs.{VersionAt, ReadsOldOf, Needs, IsStuck, IsFirstStuck, writer, before}
use Rattle.graph_model.specs.Faults.{IsGraph}
use Rattle.graph_model.specs.Marks.{IsMarked}
use Rattle.graph_model.proofs.Lookups.{same_version, version_within, cell_within}
use Rattle.graph_model.proofs.Needing.{reads_old_before}
use Rattle.plan_model.proofs.Ascents.{Rises, rises-upto}
use Rattle.cut_network.specs.Drawn.{HasDrawn, LeadsTo, itself, further}

-- the first index of a rising list at which a fact holds has the least such number
pub first_at : (P : ℕ → Type 0) (xs : List ℕ) (i : ℕ) → Rises xs → i < length xs → ((k d : ℕ) → k < i → P (get_or xs k d) → ⊥) → P (get_or xs i 0)
    → IsFirst (λ n. Contains xs n × P n) (get_or xs i 0)
first_at P xs i r l h p = (
  (Contains-get_or xs i 0 l, p),
  λ m b q.
      let c = q.0 in
      let k : c.0 < length xs = c.1 in
      elim (cases_lt c.0 i) [
        | inl s ↦ h c.0 m s (subst P (sym c.2) q.1)
        | inr s ↦
            let u = rises-upto xs r i c.0 s k in
            let e = get_or_default xs c.0 0 m k ∙ c.2 in
            omega arith
      ],
)

-- of a version with a handle, a cell that it needs and that drew is stuck
pub stuck_so : (g : Graph) (v : ℕ) (x : Version) (cells : List ℕ) (r : Option ℕ) → VersionAt g v x → x.replaced ≡ 0 → x.handle ≡ true → ((c : ℕ) → Contains cells c ↔ Needs g v c)
    → MatchOption r ((c : ℕ) → Contains cells c × HasDrawn g c → ⊥) (λ c. IsFirst (λ d. Contains cells d × HasDrawn g d) c)
    → MatchOption r ((c : ℕ) → IsStuck g v c → ⊥) (λ c. IsFirst (IsStuck g v) c)
stuck_so g v x cells None at a h n m = λ c s. m c ((n c).1 s.needed, (s.cell, s.at, s.drew))
stuck_so g v x cells (Some c) at a h n m = (
  (let d = m.0.1 in record { version = x; active = (at, a); handle = h; cell = d.0; needed = (n c).0 m.0.0; at = d.1; drew = d.2 }),
  λ d l s. m.1 d l ((n d).1 s.needed, (s.cell, s.at, s.drew)),
)

pub first_stuck_at : (g : Graph) (b : ℕ) (o : Option ℕ) (c : ℕ) → o ≡ Some c → MatchOption o ((d : ℕ) → IsStuck g (b + 1) d → ⊥) (λ d. IsFirst (IsStuck g (b + 1)) d)
    → ((u d : ℕ) → u < b + 1 → IsStuck g u d → ⊥) → IsFirstStuck g (b + 1) c
first_stuck_at g b o c e m h =
    let P : Option ℕ → Type 0 = λ r. MatchOption r ((d : ℕ) → IsStuck g (b + 1) d → ⊥) (λ d. IsFirst (IsStuck g (b + 1)) d) in
    let f = subst P e m in
    record { stuck = f.0; least_version = h; least_cell = f.1 }

pub not_stuck_at : (g : Graph) (b : ℕ) (o : Option ℕ) → o ≡ None → MatchOption o ((d : ℕ) → IsStuck g (b + 1) d → ⊥) (λ d. IsFirst (IsStuck g (b + 1)) d)
    → ((u d : ℕ) → u < b + 1 → IsStuck g u d → ⊥) → (u d : ℕ) → u < b + 1 + 1 → IsStuck g u d → ⊥
not_stuck_at g b o e m h u d l s =
    let P : Option ℕ → Type 0 = λ r. MatchOption r ((d : ℕ) → IsStuck g (b + 1) d → ⊥) (λ d. IsFirst (IsStuck g (b + 1)) d) in
    elim (cases_lt u (b + 1)) [
      | inl k ↦ h u d k s
      | inr k ↦ let same : u ≡ b + 1 = omega arith in let Q : ℕ → Type 0 = λ n. IsStuck g n d in subst P e m d (subst Q same s)
    ]

pub never_stuck : (g : Graph) (b : ℕ) → length g.versions ≤ b → ((u d : ℕ) → u < b + 1 → IsStuck g u d → ⊥) → (v c : ℕ) → IsStuck g v c → ⊥
never_stuck g b l h v c s = let w = (version_within g v s.version s.active.0).1 in h v c (omega arith) s

-- ---- cells that lead to one that drew

first_step : (g : Graph) (c d : ℕ) → LeadsTo g c d → (c ≡ d) ⊎ ((w : ℕ) × ReadsOldOf g c w × LeadsTo g w d)
first_step g c d itself = inl refl
first_step g c d (further e w l r) = elim (first_step g c e l) [
  | inl q ↦ (let P : ℕ → Type 0 = λ n. ReadsOldOf g n w in inr (w, subst P (sym q) r, itself))
  | inr s ↦ inr (s.0, s.1, further e w s.2 r)
]

-- one cell more
pub marks_more : (g : Graph) (is : IsGraph g) (marks marks' : List Bool) (i : ℕ) (lead : Bool) → (HasDrawn g (i + 1) → lead ≡ true) → ((w : ℕ) → ReadsOldOf g (i + 1) w → IsMarked marks w → lead ≡ true)
    → (lead ≡ true → IsMarked marks' (i + 1)) → ((w : ℕ) → IsMarked marks w → IsMarked marks' w)
    → ((c d : ℕ) → c < i + 1 → LeadsTo g c d → HasDrawn g d → IsMarked marks c) → (c d : ℕ) → c < i + 1 + 1 → LeadsTo g c d → HasDrawn g d → IsMarked marks' c
marks_more g is marks marks' i lead h b m k old c d l t r = elim (cases_lt c (i + 1)) [
  | inl s ↦ k c (old c d s t r)
  | inr s ↦ (let e : c ≡ i + 1 = omega arith in
      let P : ℕ → Type 0 = λ n. IsMarked marks' n in
      let Q : ℕ → Type 0 = λ n. LeadsTo g n d in
      subst P (sym e) (m (elim (first_step g (i + 1) d (subst Q e t)) [
        | inl q ↦ (let R : ℕ → Type 0 = λ n. HasDrawn g n in h (subst R (sym q) r))
        | inr f ↦ b f.0 f.1 (old f.0 d (reads_old_before g is (i + 1) f.0 f.1) f.2 r)
      ])))
]

-- a cell that leads to one that drew is one of the cells
pub marks_whole : (g : Graph) (marks : List Bool) (n : ℕ) → length g.cells ≤ n → ((c d : ℕ) → c < n + 1 → LeadsTo g c d → HasDrawn g d → IsMarked marks c) → (c d : ℕ) → LeadsTo g c d → HasDrawn g d → IsMarked marks c
marks_whole g marks n l h c d t r = h c d (elim (first_step g c d t) [
  | inl q ↦ (let w = cell_within g d r.0 r.1 in let b = w.1 in omega arith)
  | inr f ↦ (let w = cell_within g c f.1.0 f.1.3 in let b = w.1 in omega arith)
]) t r

-- a cell that a version needs
need_leads : (g : Graph) (v : ℕ) (x : Version) (c : ℕ) → VersionAt g v x → Needs g v c → LeadsTo g x.writer c
need_leads g v x c at (writer y aty) = subst (λ (z : Version). LeadsTo g x.writer z.writer) (same_version g v x y at aty) itself
need_leads g v x c at (before d w n r) = further d w (need_leads g v x d at n) r

pub stuck_marked : (g : Graph) (v c : ℕ) (x : Version) (marks : List Bool) → VersionAt g v x → IsStuck g v c → ((c d : ℕ) → LeadsTo g c d → HasDrawn g d → IsMarked marks c) → IsMarked marks x.writer
stuck_marked g v c x marks at s h = h x.writer c (need_leads g v x c at s.needed) (s.cell, s.at, s.drew)

-- no cell has the number 0
pub marks_begin : (g : Graph) (marks : List Bool) (c d : ℕ) → c < 1 → LeadsTo g c d → HasDrawn g d → IsMarked marks c
marks_begin g marks c d l t r = elim (first_step g c d t) [
  | inl q ↦ absurd (let p : 0 < d = r.1.0 in omega arith)
  | inr f ↦ absurd (let p : 0 < c = f.1.3.0 in omega arith)
]
