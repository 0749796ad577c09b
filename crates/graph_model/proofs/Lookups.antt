-- A graph has one version and one record at a number.
use Rattle.std.proofs.Common.{◌≡◌, ℕ, ◌+◌, ◌-◌, ◌<◌, ◌≤◌, Some, List, length, get_or, refl, subst, arith, sym, ◌∙◌}
use Rattle.std.specs.Prelude.{slice_get}
use Rattle.std.proofs.lemmas.Option.{same_Some, slice_get_within, slice_get_read}
use Rattle.graph_model.specs.declared.graph.CellRecord.{CellRecord}
use Rattle.graph_model.specs.declared.graph.Version.{Version}
use Rattle.graph_model.specs.declared.graph.Graph.{Graph}
use Rattle.graph_model.specs.Graphs.{CellAt, VersionAt}

pub same_version : (g : Graph) (v : ℕ) (x y : Version) → VersionAt g v x → VersionAt g v y → x ≡ y
same_version g v x y h i = same_Some x y (sym h.1 ∙ i.1)

pub same_cell : (g : Graph) (c : ℕ) (x y : CellRecord) → CellAt g c x → CellAt g c y → x ≡ y
same_cell g c x y h i = same_Some x y (sym h.1 ∙ i.1)

-- what holds of some version at the number holds of the one there
pub of_version : (Q : Version → Type 0) (g : Graph) (v : ℕ) (x y : Version) → VersionAt g v x → VersionAt g v y → Q y → Q x
of_version Q g v x y h i q = subst Q (same_version g v y x i h) q

pub of_cell : (Q : CellRecord → Type 0) (g : Graph) (c : ℕ) (x y : CellRecord) → CellAt g c x → CellAt g c y → Q y → Q x
of_cell Q g c x y h i q = subst Q (same_cell g c y x i h) q

pub version_within : (g : Graph) (v : ℕ) (x : Version) → VersionAt g v x → (0 < v) × (v ≤ length g.versions)
version_within g v x h = let p : 0 < v = h.0 in let l = slice_get_within g.versions (v - 1) x h.1 in (p, omega arith)

pub cell_within : (g : Graph) (c : ℕ) (x : CellRecord) → CellAt g c x → (0 < c) × (c ≤ length g.cells)
cell_within g c x h = let p : 0 < c = h.0 in let l = slice_get_within g.cells (c - 1) x h.1 in (p, omega arith)

-- an element of the list of versions, by its index
pub version_read : (g : Graph) (ys : List Version) (i : ℕ) (x : Version) → ys ≡ g.versions → i < length ys → x ≡ get_or ys i x → VersionAt g (i + 1) x
version_read g ys i x same l e =
    let e1 : i + 1 - 1 ≡ i = omega arith in
    let P : ℕ → Type 0 = λ k. slice_get g.versions k ≡ Some x in
    let Q : List Version → Type 0 = λ zs. slice_get zs i ≡ Some x in
    (omega arith, subst P (sym e1) (subst Q same (slice_get_read ys (length ys) i x refl l e)))
