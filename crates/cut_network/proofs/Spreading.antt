-- The cells that the handles need, as a set that can be asked.
use Rattle.std.proofs.Common.{◌≡◌, ℕ, zero, suc, ◌-◌, ◌<◌, ◌≤◌, ◌⊎◌, Bool, true, ◌&&◌, ◌||◌, length, refl, sym, ap, ◌∙◌, subst, inl, inr, arith}
use Rattle.std.specs.Prelude.{slice_get, ◌==◌}
use Rattle.std.specs.List.{list_any}
use Rattle.std.proofs.lemmas.Bool.{cases_eq, or_left, or_right, or_cases, and_parts, and_from, eq-eqb, eqb-true}
use Rattle.std.proofs.lemmas.List.Folds.{Any-from_list_any, list_any-from_Any}
use Rattle.graph_model.specs.declared.graph.Version.{Version}
use Rattle.graph_model.specs.declared.graph.Graph.{Graph}
use Rattle.graph_model.specs.Graphs.{IsActive, ReadsOldOf, Needs, writer, before}
use Rattle.graph_model.specs.Faults.{IsGraph}
use Rattle.graph_model.specs.Networks.{actives, old_writers}
use Rattle.graph_model.proofs.Needing.{reads_old_before}
use Rattle.plan_model.proofs.Listing.{is_in, is_in-has, has-is_in}
use Rattle.plan_model.proofs.Reading.{at_test, cell_there, actives-at, actives-has, old_writers-from, old_writers-has}

-- with cell c, the writers of the replaced versions that it read
abbrev pub spread_on : Graph → ℕ → (ℕ → Bool) → ℕ → Bool
spread_on g c S w = S w || (S c && is_in (old_writers g c) w)

-- the same for each cell from the nth down
abbrev pub spread : Graph → ℕ → (ℕ → Bool) → ℕ → Bool
spread g zero S = S
spread g (suc n) S = spread g n (spread_on g (suc n) S)

pub spread-keeps : (g : Graph) (n : ℕ) (S : ℕ → Bool) (w : ℕ) → S w ≡ true → spread g n S w ≡ true
spread-keeps g zero S w h = h
spread-keeps g (suc n) S w h = spread-keeps g n (spread_on g (suc n) S) w (or_left (S w) (S (suc n) && is_in (old_writers g (suc n)) w) h)

-- what a cell adds is what it read of
spread-step : (g : Graph) → IsGraph g → (n : ℕ) → suc n ≤ length g.cells → (S : ℕ → Bool) (w : ℕ) → spread_on g (suc n) S w ≡ true → (S w ≡ true) ⊎ ((S (suc n) ≡ true) × ReadsOldOf g (suc n) w)
spread-step g is n l S w h = elim (or_cases (S w) (S (suc n) && is_in (old_writers g (suc n)) w) h) [
  | inl s ↦ inl s
  | inr b ↦
      let p = and_parts (S (suc n)) (is_in (old_writers g (suc n)) w) b in
      let x = cell_there g (suc n) (omega arith) l in
      inr (p.0, (old_writers-from g is (suc n) w x.0 x.1 (is_in-has (old_writers g (suc n)) w p.1)).1)
]

-- the cells from the nth on stay as they were
spread-low : (g : Graph) → IsGraph g → (n : ℕ) → n ≤ length g.cells → (S : ℕ → Bool) (w : ℕ) → spread g n S w ≡ true → n ≤ w → S w ≡ true
spread-low g is zero l S w h m = h
spread-low g is (suc n) l S w h m = elim (spread-step g is n l S w (spread-low g is n (omega arith) (spread_on g (suc n) S) w h (omega arith))) [
  | inl s ↦ s
  | inr b ↦ let k = reads_old_before g is (suc n) w b.1 in absurd (omega arith)
]

pub spread-closed : (g : Graph) → IsGraph g → (n : ℕ) → n ≤ length g.cells → (S : ℕ → Bool) (c w : ℕ) → 0 < c → c ≤ n → spread g n S c ≡ true → ReadsOldOf g c w → spread g n S w ≡ true
spread-closed g is zero l S c w p m h o = absurd (omega arith)
spread-closed g is (suc n) l S c w p m h o = elim (cases_eq c (suc n)) [
  | inl e ↦
      let s = spread-low g is (suc n) l S c h (omega arith) in
      let P : ℕ → Type 0 = λ k. S k ≡ true in
      let Q : ℕ → Type 0 = λ k. ReadsOldOf g k w in
      spread-keeps g n (spread_on g (suc n) S) w (or_right (S w) (S (suc n) && is_in (old_writers g (suc n)) w)
      (and_from (S (suc n)) (is_in (old_writers g (suc n)) w) (subst P e s) (has-is_in (old_writers g (suc n)) w (old_writers-has g is (suc n) w (subst Q e o)))))
  | inr d ↦ spread-closed g is n (omega arith) (spread_on g (suc n) S) c w p (omega arith) h o
]

pub spread-sound : (g : Graph) → IsGraph g → (n : ℕ) → n ≤ length g.cells → (S : ℕ → Bool) (P : ℕ → Type 0) → ((w : ℕ) → S w ≡ true → P w)
    → ((c w : ℕ) → P c → ReadsOldOf g c w → P w) → (w : ℕ) → spread g n S w ≡ true → P w
spread-sound g is zero l S P f step w h = f w h
spread-sound g is (suc n) l S P f step w h = spread-sound g is n (omega arith) (spread_on g (suc n) S) P
    (λ u k. elim (spread-step g is n l S u k) [ inl s ↦ f u s | inr b ↦ step (suc n) u (f (suc n) b.0) b.1 ]) step w h

-- version v holds a handle
abbrev pub handle_at : Graph → ℕ → Bool
handle_at g v = at_test (λ (y : Version). y.handle) (slice_get g.versions (v - 1))

-- version v holds a handle, and cell w wrote it
abbrev pub handle_by : Graph → ℕ → ℕ → Bool
handle_by g w v = at_test (λ (y : Version). y.handle && (y.writer == w)) (slice_get g.versions (v - 1))

-- cell w wrote an active version that holds a handle
abbrev pub begun : Graph → ℕ → Bool
begun g w = list_any (handle_by g w) (actives g)

-- an active version that holds a handle needs cell w
abbrev pub is_needed : Graph → ℕ → Bool
is_needed g = spread g (length g.cells) (begun g)

pub record IsNeeded (g : Graph) (w : ℕ) : Type 0 where
  pub number : ℕ
  pub version : Version
  pub active : IsActive g number version
  pub handle : version.handle ≡ true
  pub needed : Needs g number w

begun-sound : (g : Graph) (w : ℕ) → begun g w ≡ true → IsNeeded g w
begun-sound g w h =
    let a = Any-from_list_any (handle_by g w) (actives g) h in
    let x = actives-at g a.1 (a.0, a.2, a.3) in
    let e = ap (at_test (λ (y : Version). y.handle && (y.writer == w))) x.1.0.1 in
    let b = and_parts x.0.handle (x.0.writer == w) (sym e ∙ a.4) in
    record { number = a.1; version = x.0; active = x.1; handle = b.0; needed = subst (Needs g a.1) (eqb-true x.0.writer w b.1) (writer x.0 x.1.0) }

pub needed-sound : (g : Graph) → IsGraph g → (w : ℕ) → is_needed g w ≡ true → IsNeeded g w
needed-sound g is w h = spread-sound g is (length g.cells) (omega arith) (begun g) (IsNeeded g) (begun-sound g)
    (λ c u n o. record { number = n.number; version = n.version; active = n.active; handle = n.handle; needed = before c u n.needed o }) w h

pub handle-needs : (g : Graph) (v : ℕ) (x : Version) → IsActive g v x → x.handle ≡ true → is_needed g x.writer ≡ true
handle-needs g v x a h =
    let c = actives-has g v x a in
    let e = ap (at_test (λ (y : Version). y.handle && (y.writer == x.writer))) a.0.1 in
    let t = e ∙ and_from x.handle (x.writer == x.writer) h (eq-eqb x.writer x.writer refl) in
    spread-keeps g (length g.cells) (begun g) x.writer (list_any-from_Any (handle_by g x.writer) (actives g) (c.0, v, c.1, c.2, t))
