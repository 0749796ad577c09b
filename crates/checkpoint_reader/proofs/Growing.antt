-- A turn that reads a cell or a version adds it.
use Rattle.std.proofs.Common.{◌≡◌, ℕ, ◌+◌, ◌≤◌, Bool, true, false, List, Result, Ok, Err, drop, refl, ap, subst, arith}
use Rattle.graph_model.specs.declared.graph.CellRecord.{CellRecord}
use Rattle.graph_model.specs.declared.graph.Version.{Version}
use Rattle.part_bytes.specs.declared.part.PartValue.{PartValue}
use Rattle.checkpoint_reader.specs.declared.part_fault.PartFault.{PartFault}
use Rattle.checkpoint_reader.specs.declared.forms.Texts.{Texts}
use Rattle.checkpoint_reader.specs.PartReading.{part_read2}
use Rattle.checkpoint_reader.specs.declared.fields.Cells.{Cells}
use Rattle.checkpoint_reader.specs.declared.fields.Versions.{Versions}
use Rattle.checkpoint_reader.specs.Reads.{Answer, pure, after}
use Rattle.checkpoint_reader.specs.Fields.{with_cell, with_version, with_copy, cell, version, part_of, part, next_cell, kept, next_version}
use Rattle.checkpoint_bytes.specs.Sessions.{IsWithinBounds}
use Rattle.checkpoint_reader.specs.Numbered.{AreCells, IsEmptyIfAbsent, AreVersions}
use Rattle.checkpoint_reader.proofs.Numbers.{cells_grow, versions_grow, copies_grow}
use Rattle.checkpoint_reader.proofs.Bounds.{Has, cell_bounded, version_empty}

abbrev read_of : {A : Type 0} → A → Answer A → A
read_of none (Ok read) = read.0
read_of none (Err fault) = none

cells_from : (n : ℕ) (before now : Cells) (next : ℕ) (answer : Answer (CellRecord × Bool × ℕ)) → AreCells n before → Has (λ c. IsWithinBounds c.0) answer
    → after answer (λ c. pure (with_cell before c)) ≡ Ok (now, next) → AreCells (n + 1) now
cells_from n before now next (Ok read) a within e =
    let same : with_cell before read.0 ≡ now = ap (read_of now) e in
    subst (AreCells (n + 1)) same (cells_grow n before read.0 a within)
cells_from n before now next (Err fault) a within e = absurd (let is = e in cc)

pub cells_turn : (texts : Texts) (bytes : List ℕ) (n : ℕ) (before now : Cells) (at next : ℕ) → AreCells n before → next_cell bytes texts before at ≡ Ok (now, next) → AreCells (n + 1) now
unfolding next_cell
cells_turn texts bytes n before now at next a e = cells_from n before now next (cell bytes texts before.known at) a ((cell_bounded bytes texts before.known).has at) e

copies_from : (texts : Texts) (known n : ℕ) (before now : Versions) (x : Version) (at next : ℕ) (front : List ℕ) (answer : Result (PartValue × ℕ × ℕ) PartFault)
    → part_read2 texts known front ≡ answer → AreVersions n before → IsEmptyIfAbsent x → after (part_of at answer) (λ copy. pure (with_copy before x copy)) ≡ Ok (now, next) → AreVersions (n + 1) now
copies_from texts known n before now x at next front (Ok read) was a empty e =
    let copy : PartValue × ℕ = (read.0, read.2) in
    let same : with_copy before x copy ≡ now = ap (read_of now) e in
    subst (AreVersions (n + 1)) same (copies_grow n before x copy texts known front read.1 read.2 was a empty)
copies_from texts known n before now x at next front (Err fault) was a empty e = absurd (let is = e in cc)

versions_kept : (texts : Texts) (bytes : List ℕ) (n : ℕ) (before now : Versions) (x : Version) (copied : Bool) (at next : ℕ) → AreVersions n before → IsEmptyIfAbsent x
    → kept bytes texts before x copied at ≡ Ok (now, next) → AreVersions (n + 1) now
unfolding kept part
versions_kept texts bytes n before now x true at next a empty e = copies_from texts before.known n before now x at next (drop at bytes) (part_read2 texts before.known (drop at bytes)) refl a empty e
versions_kept texts bytes n before now x false at next a empty e =
    let same : with_version before x ≡ now = ap (read_of now) e in
    subst (AreVersions (n + 1)) same (versions_grow n before x a empty)

versions_from : (texts : Texts) (bytes : List ℕ) (n : ℕ) (before now : Versions) (next : ℕ) (answer : Answer (Version × Bool)) → AreVersions n before → Has (λ x. IsEmptyIfAbsent x.0) answer
    → after answer (λ x. kept bytes texts before x.0 x.1) ≡ Ok (now, next) → AreVersions (n + 1) now
versions_from texts bytes n before now next (Ok read) a empty e = versions_kept texts bytes n before now read.0.0 read.0.1 read.1 next a empty e
versions_from texts bytes n before now next (Err fault) a empty e = absurd (let is = e in cc)

pub versions_turn : (texts : Texts) (bytes : List ℕ) (n : ℕ) (before now : Versions) (at next : ℕ) → AreVersions n before → next_version bytes texts before at ≡ Ok (now, next) → AreVersions (n + 1) now
unfolding next_version
versions_turn texts bytes n before now at next a e = versions_from texts bytes n before now next (version bytes at) a ((version_empty bytes).has at) e

-- n turns were made
pub all_cells : (n i : ℕ) (cells : Cells) → n ≤ i → i ≤ n → AreCells i cells → AreCells n cells
all_cells n i cells low high a = let e : i ≡ n = omega arith in subst (λ k. AreCells k cells) e a

pub all_versions : (n i : ℕ) (versions : Versions) → n ≤ i → i ≤ n → AreVersions i versions → AreVersions n versions
all_versions n i versions low high a = let e : i ≡ n = omega arith in subst (λ k. AreVersions k versions) e a
