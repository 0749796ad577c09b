-- Cells and versions that were read, and their bytes.
use Rattle.std.proofs.Common.{◌≡◌, ℕ, ◌+◌, ◌<◌, ◌==◌, Bool, true, false, List, [], ◌∷◌, ◌++◌, length, drop, Some, Result, Ok, Err, refl, sym, ap, ◌∙◌, subst, arith, All}
use Rattle.std.specs.List.{flat_map}
use Rattle.std.proofs.lemmas.List.{append-nil, append_assoc, drop-drop, drop_at, length-append, map-append}
use Rattle.std.proofs.lemmas.Grind.{flat_map-append}
use Rattle.std.proofs.lemmas.List.Elements.{All-drop}
use Rattle.graph_model.specs.declared.graph.CellRecord.{CellRecord}
use Rattle.graph_model.specs.declared.graph.Version.{Version}
use Rattle.part_bytes.specs.declared.part.PartValue.{PartValue}
use Rattle.part_bytes.specs.Texts.{four as four_bytes, spelled_part}
use Rattle.part_bytes.specs.Uses.{texts_of}
use Rattle.checkpoint_reader.specs.declared.forms.Texts.{Texts}
use Rattle.checkpoint_reader.specs.declared.part_fault.PartFault.{PartFault}
use Rattle.checkpoint_reader.specs.PartReading.{part_read2}
use Rattle.checkpoint_laws.specs.SpelledParts.{counted}
use Rattle.checkpoint_laws.proofs.Counts.{spell_of, numbers_of, no_numbers, numbers_join, counted_join, AreThere, none_there}
use Rattle.checkpoint_laws.proofs.Listed.{IsTable}
use Rattle.checkpoint_laws.proofs.FoundWhole.{read_there}
use Rattle.checkpoint_bytes.specs.Texts.{truth_byte, lists, names_bytes, cell_head_bytes, cell_bytes, plain_version_bytes, each_from, codes_of}
use Rattle.checkpoint_reader.specs.declared.fault.CheckpointFault.TheVariants.{Part}
use Rattle.checkpoint_reader.specs.declared.fields.Cells.{Cells}
use Rattle.checkpoint_reader.specs.declared.fields.Versions.{Versions}
use Rattle.checkpoint_reader.specs.Reads.{pure, turns}
use Rattle.checkpoint_reader.specs.Fields.{part_of, marked, with_cell, with_version, with_copy, no_cells, no_versions, four, names, truth, cell, version, part, next_cell, kept, next_version, cells, versions}
use Rattle.checkpoint_laws.specs.Texts.{part_bytes, version_bytes}
use Rattle.checkpoint_laws.proofs.Eats.{answer, same_value, same_place, failed, reached, Spells, Ate, ate_none, ate_as, ate_then, Eats, eats_then, eats_knowing, eats_map, eats_turns, bytes_small}
use Rattle.checkpoint_laws.proofs.Pieces.{kind_of, Knows, eats_four, eats_at_most, eats_truth, eats_flag, eats_size, eats_code, eats_numbers, eats_names}
use Rattle.checkpoint_laws.proofs.Lists.{bytes_more, AreUpTo, marked_up_to, marked_listed, marked_other, no_part, last_part, other_part}

module _ (a b c d : List ℕ) where
  pub grouped : (z : List ℕ) → (((a ++ b) ++ c) ++ d) ++ z ≡ a ++ (b ++ (c ++ (d ++ z)))
  grouped z = append_assoc ((a ++ b) ++ c) d z ∙ (append_assoc (a ++ b) c (d ++ z) ∙ append_assoc a b (c ++ (d ++ z)))

  grouped_six : (e f : List ℕ) → ((((a ++ b) ++ c) ++ d) ++ e) ++ f ≡ a ++ (b ++ (c ++ (d ++ (e ++ f))))
  grouped_six e f = append_assoc (((a ++ b) ++ c) ++ d) e f ∙ grouped (e ++ f)

-- a part, and how many texts were known after it
pub record PartFound (at next : ℕ) (r : Result (PartValue × ℕ × ℕ) PartFault) (c : PartValue × ℕ) : Type 0 where
  pub size : ℕ
  pub was : r ≡ Ok (c.0, size, c.1)
  pub to : at + size ≡ next

pub part_found : (at next : ℕ) (r : Result (PartValue × ℕ × ℕ) PartFault) (c : PartValue × ℕ) → part_of at r ≡ answer c next → PartFound at next r c
part_found at next (Ok read) c e =
    let got : PartValue × ℕ = (read.0, read.2) in
    let same : got ≡ c = same_value got c (at + read.1) next e in
    record {
      size = read.1;
      was = ap (λ (x : PartValue × ℕ). let all : Result (PartValue × ℕ × ℕ) PartFault = Ok (x.0, read.1, x.1) in all) same;
      to = same_place got c (at + read.1) next e;
    }
part_found at next (Err fault) c e = absurd (let no : failed (PartValue × ℕ) (Part at fault) ≡ answer c next = e in cc)

-- ---- what was read so far

module _ (spell : List ℕ → List ℕ) where
  -- the cells that were read so far
  abbrev pub cells_text : Cells → List ℕ
  cells_text cs = each_from (λ n x. cell_bytes spell (lists cs.rerun n) x) 1 cs.records

  -- the versions that were read so far
  abbrev pub versions_text : Versions → List ℕ
  versions_text vs = each_from (version_bytes spell vs) 1 vs.records

  -- how many cells, and the cells
  abbrev pub counted_cells : Cells → List ℕ
  counted_cells cs = four_bytes (length cs.records) ++ cells_text cs

  -- how many versions, and the versions
  abbrev pub counted_versions : Versions → List ℕ
  counted_versions vs = four_bytes (length vs.records) ++ versions_text vs

-- so many texts are referred to after these cells, and none that isn't there
abbrev pub CellsSo : Texts → Cells → Type 0
CellsSo texts cs = (counted 0 (numbers_of texts (codes_of cs.records)) ≡ Some cs.known) × AreThere texts cs.known

-- and after these versions, if so many were before them
abbrev pub VersionsSo : Texts → ℕ → Versions → Type 0
VersionsSo texts from vs = (counted from (numbers_of texts (flat_map texts_of vs.parts)) ≡ Some vs.known) × (AreThere texts from → AreThere texts vs.known)

-- n cells; none of those that run again is above n, and so many texts are referred to
abbrev AreCells : Texts → ℕ → Cells → Type 0
AreCells texts n cs = (length cs.records ≡ n) × AreUpTo n cs.rerun × (counted 0 (numbers_of texts (codes_of cs.records)) ≡ Some cs.known) × AreThere texts cs.known

cells_put : (texts : Texts) (n : ℕ) (before : Cells) (x : CellRecord) (r : Bool) (known : ℕ) → AreCells texts n before → Knows texts before.known (x.code ∷ []) known
    → AreCells texts (n + 1) (with_cell before (x, r, known)) × (cells_text (spell_of texts) (with_cell before (x, r, known)) ≡ cells_text (spell_of texts) before ++ cell_bytes (spell_of texts) r x)
cells_put texts n before x r known h k =
    let spell : List ℕ → List ℕ = spell_of texts in
    let m : ℕ = length before.records + 1 in
    let up : AreUpTo (length before.records) before.rerun = subst (λ (k : ℕ). AreUpTo k before.rerun) (sym h.0) h.1 in
    let new : List ℕ = marked before.rerun m r in
    let place : 1 + length before.records ≡ m = omega arith in
    let stay : (k : ℕ) (y : CellRecord) → k < 1 + length before.records → cell_bytes spell (lists new k) y ≡ cell_bytes spell (lists before.rerun k) y =
    λ k y l. ap (λ (b : Bool). cell_bytes spell b y) (marked_other (length before.records) k before.rerun r (omega (arith, l))) in
    let used : counted 0 (numbers_of texts (codes_of (before.records ++ x ∷ []))) ≡ Some known =
    ap (λ (us : List (List ℕ)). counted 0 (numbers_of texts us)) (map-append (λ (cell : CellRecord). cell.code) before.records (x ∷ []))
    ∙ (ap (λ (ns : List ℕ). counted 0 ns) (numbers_join texts (codes_of before.records) (x.code ∷ []))
    ∙ counted_join (numbers_of texts (codes_of before.records)) (numbers_of texts (x.code ∷ [])) 0 before.known (Some known) h.2 k.counts) in (
      (
        length-append before.records (x ∷ []) ∙ ap (λ (k : ℕ). k + 1) h.0,
        subst (λ (k : ℕ). AreUpTo (k + 1) new) h.0 (marked_up_to (length before.records) before.rerun r up),
        used,
        k.there h.3,
      ),
      bytes_more (λ k y. cell_bytes spell (lists new k) y) (λ k y. cell_bytes spell (lists before.rerun k) y) before.records x 1 stay
          ∙ ap (λ (b : Bool). cells_text spell before ++ cell_bytes spell b x) (ap (lists new) place ∙ marked_listed (length before.records) before.rerun r up),
    )

-- n versions, after so many texts; none of those that are copied is above n, each of them has a part, and so many texts are referred to
abbrev AreVersions : Texts → ℕ → ℕ → Versions → Type 0
AreVersions texts from n vs = (length vs.records ≡ n) × AreUpTo n vs.copied × (length vs.copied ≡ length vs.parts) × (counted from (numbers_of texts (flat_map texts_of vs.parts)) ≡ Some vs.known)
    × (AreThere texts from → AreThere texts vs.known)

-- version k, if these are copied and have these parts
version_text : (List ℕ → List ℕ) → List ℕ → List PartValue → ℕ → Version → List ℕ
version_text spell ns ps k x = plain_version_bytes (lists ns k) x ++ part_bytes spell ns ps k

versions_put : (texts : Texts) (from n : ℕ) (before : Versions) (x : Version) → AreVersions texts from n before
    → AreVersions texts from (n + 1) (with_version before x) × (versions_text (spell_of texts) (with_version before x) ≡ versions_text (spell_of texts) before ++ (plain_version_bytes false x ++ []))
unfolding version_text
versions_put texts from n before x h =
    let spell : List ℕ → List ℕ = spell_of texts in
    let len : ℕ = length before.records in
    let m : ℕ = len + 1 in
    let ns : List ℕ = before.copied in
    let ps : List PartValue = before.parts in
    let up : AreUpTo len ns = subst (λ (k : ℕ). AreUpTo k ns) (sym h.0) h.1 in
    let place : 1 + len ≡ m = omega arith in
    let last : version_text spell ns ps (1 + len) x ≡ plain_version_bytes false x ++ [] =
    ap (λ (k : ℕ). version_text spell ns ps k x) place
    ∙ (ap (λ (b : Bool). plain_version_bytes b x ++ part_bytes spell ns ps m) (marked_listed len ns false up)
    ∙ ap (λ (ys : List ℕ). plain_version_bytes false x ++ ys) (no_part spell len m ns ps up (omega arith))) in (
      (
        length-append before.records (x ∷ []) ∙ ap (λ (k : ℕ). k + 1) h.0,
        marked_up_to n ns false h.1,
        h.2,
        h.3,
        h.4,
      ),
      bytes_more (version_text spell ns ps) (version_text spell ns ps) before.records x 1 (λ k y l. refl) ∙ ap (λ (ys : List ℕ). versions_text spell before ++ ys) last,
    )

copies_put : (texts : Texts) (from n : ℕ) (before : Versions) (x : Version) (copy : PartValue × ℕ) → AreVersions texts from n before → Knows texts before.known (texts_of copy.0) copy.1
    → AreVersions texts from (n + 1) (with_copy before x copy)
    × (versions_text (spell_of texts) (with_copy before x copy) ≡ versions_text (spell_of texts) before ++ (plain_version_bytes true x ++ spelled_part (spell_of texts) copy.0))
unfolding version_text
copies_put texts from n before x copy h k =
    let spell : List ℕ → List ℕ = spell_of texts in
    let len : ℕ = length before.records in
    let m : ℕ = len + 1 in
    let ns : List ℕ = before.copied in
    let ps : List PartValue = before.parts in
    let p : PartValue = copy.0 in
    let new : List ℕ = ns ++ m ∷ [] in
    let all : List PartValue = ps ++ p ∷ [] in
    let up : AreUpTo len ns = subst (λ (k : ℕ). AreUpTo k ns) (sym h.0) h.1 in
    let place : 1 + len ≡ m = omega arith in
    let stay : (k : ℕ) (y : Version) → k < 1 + len → version_text spell new all k y ≡ version_text spell ns ps k y = λ k y l.
    let low : k < len + 1 = omega (arith, l) in
    ap (λ (b : Bool). plain_version_bytes b y ++ part_bytes spell new all k) (marked_other len k ns true low)
    ∙ ap (λ (ys : List ℕ). plain_version_bytes (lists ns k) y ++ ys) (other_part spell len k ns ps p low h.2) in
    let last : version_text spell new all (1 + len) x ≡ plain_version_bytes true x ++ spelled_part spell p =
    ap (λ (k : ℕ). version_text spell new all k x) place
    ∙ (ap (λ (b : Bool). plain_version_bytes b x ++ part_bytes spell new all m) (marked_listed len ns true up)
    ∙ ap (λ (ys : List ℕ). plain_version_bytes true x ++ ys) (last_part spell len ns ps p up h.2)) in
    let parts : flat_map texts_of all ≡ flat_map texts_of ps ++ texts_of p =
    flat_map-append texts_of ps (p ∷ []) ∙ ap (λ (us : List (List ℕ)). flat_map texts_of ps ++ us) (append-nil (texts_of p)) in
    let used : counted from (numbers_of texts (flat_map texts_of all)) ≡ Some copy.1 =
    ap (λ (us : List (List ℕ)). counted from (numbers_of texts us)) parts
    ∙ (ap (λ (zs : List ℕ). counted from zs) (numbers_join texts (flat_map texts_of ps) (texts_of p))
    ∙ counted_join (numbers_of texts (flat_map texts_of ps)) (numbers_of texts (texts_of p)) from before.known (Some copy.1) h.3 k.counts) in
    let one = length-append ns (m ∷ []) in
    let two = length-append ps (p ∷ []) in
    let before_two = h.2 in (
      (
        length-append before.records (x ∷ []) ∙ ap (λ (k : ℕ). k + 1) h.0,
        subst (λ (k : ℕ). AreUpTo (k + 1) new) h.0 (marked_up_to len ns true up),
        omega (arith, one, two, before_two),
        used,
        λ there. k.there (h.4 there),
      ),
      bytes_more (version_text spell new all) (version_text spell ns ps) before.records x 1 stay ∙ ap (λ (ys : List ℕ). versions_text spell before ++ ys) last,
    )

module _ (texts : Texts) (ok : IsTable texts) (bytes : List ℕ) (small : All (λ b. b < 256) bytes) where
  abbrev spell : List ℕ → List ℕ
  spell = spell_of texts

  -- ---- a cell, a version and a part

  abbrev CellSo : ℕ → CellRecord × Bool × ℕ → List ℕ → Type 0
  CellSo known c xs = (xs ≡ cell_bytes spell c.1 c.0) × Knows texts known (c.0.code ∷ []) c.2

  eats_cell : (known : ℕ) → Eats bytes (cell bytes texts known) (CellSo known)
  unfolding cell
  eats_cell known =
      let Q : CellRecord × Bool × ℕ → List ℕ → Type 0 = CellSo known in
      let tb : Bool → List ℕ = λ b. truth_byte b ∷ [] in
      let rb : List ℕ → List ℕ = λ ns. four_bytes (length ns) ++ flat_map four_bytes ns in
      eats_knowing bytes _ _ (λ t. spell t.0) (λ t. Knows texts known (t.0 ∷ []) t.1) Q (eats_code bytes small texts ok known) (λ t k.
      eats_then bytes _ _ four_bytes (λ c z. Q c (spell t.0 ++ z)) (eats_at_most bytes small 16777216) (λ m.
      eats_then bytes _ _ four_bytes (λ c z. Q c (spell t.0 ++ (four_bytes m ++ z))) (eats_at_most bytes small 1000000) (λ n.
      eats_then bytes _ _ tb (λ c z. Q c (spell t.0 ++ (four_bytes m ++ (four_bytes n ++ z)))) (eats_truth bytes small) (λ d.
      eats_then bytes _ _ tb (λ c z. Q c (spell t.0 ++ (four_bytes m ++ (four_bytes n ++ (tb d ++ z))))) (eats_truth bytes small) (λ r.
      eats_then bytes _ _ rb (λ c z. Q c (spell t.0 ++ (four_bytes m ++ (four_bytes n ++ (tb d ++ (tb r ++ z)))))) (eats_numbers bytes small) (λ q.
      eats_map bytes (names bytes) (λ missing. (record { code = t.0; meter = m; steps = n; drew = d; reads = q; missing = missing }, r, t.1)) (Spells names_bytes)
      (λ c z. Q c (spell t.0 ++ (four_bytes m ++ (four_bytes n ++ (tb d ++ (tb r ++ (rb q ++ z))))))) (eats_names bytes small)
      (λ missing z e.
      let x : CellRecord = record { code = t.0; meter = m; steps = n; drew = d; reads = q; missing = missing } in
      let head : List ℕ = cell_head_bytes spell r x in
      let f : List ℕ = four_bytes (length q) in
      let w : List ℕ = flat_map four_bytes q in
      let y : List ℕ = names_bytes missing in
      let right : cell_bytes spell r x ≡ spell t.0 ++ (four_bytes m ++ (four_bytes n ++ (tb d ++ (tb r ++ (rb q ++ y))))) =
      ap (λ (ys : List ℕ). ys ++ y) (append_assoc head f w) ∙ (append_assoc head (f ++ w) y ∙ grouped (spell t.0) (four_bytes m) (four_bytes n) (truth_byte d ∷ truth_byte r ∷ []) ((f ++ w) ++ y)) in
      (ap (λ (ys : List ℕ). spell t.0 ++ (four_bytes m ++ (four_bytes n ++ (tb d ++ (tb r ++ (rb q ++ ys)))))) e ∙ sym right, k))))))))

  eats_version : Eats bytes (version bytes) (Spells (λ c. plain_version_bytes c.1 c.0))
  unfolding version
  eats_version =
      let Q : Version × Bool → List ℕ → Type 0 = Spells (λ c. plain_version_bytes c.1 c.0) in
      let kb : ℕ → List ℕ = λ k. kind_of k ∷ [] in
      eats_then bytes _ _ four_bytes Q (eats_four bytes small) (λ a.
      eats_then bytes _ _ four_bytes (λ c z. Q c (four_bytes a ++ z)) (eats_four bytes small) (λ b.
      eats_then bytes _ _ kb (λ c z. Q c (four_bytes a ++ (four_bytes b ++ z))) (eats_flag bytes small) (λ k.
      eats_then bytes _ _ four_bytes (λ c z. Q c (four_bytes a ++ (four_bytes b ++ (kb k ++ z)))) (eats_size bytes small k) (λ n.
      eats_then bytes _ _ names_bytes (λ c z. Q c (four_bytes a ++ (four_bytes b ++ (kb k ++ (four_bytes n ++ z))))) (eats_names bytes small) (λ all.
      let x : Version = record { names = all; writer = a; replaced = b; absent = k == 1; handle = k == 2; size = n } in
      eats_map bytes (truth bytes) (λ copied. (x, copied)) (Spells (λ c. truth_byte c ∷ []))
      (λ c z. Q c (four_bytes a ++ (four_bytes b ++ (kb k ++ (four_bytes n ++ (names_bytes all ++ z)))))) (eats_truth bytes small)
      (λ c z e.
      ap (λ (ys : List ℕ). four_bytes a ++ (four_bytes b ++ (kb k ++ (four_bytes n ++ (names_bytes all ++ ys))))) e
      ∙ sym (grouped_six (four_bytes a) (four_bytes b) (kb k) (four_bytes n) (names_bytes all) (truth_byte c ∷ []))))))))

  abbrev PartSo : ℕ → PartValue × ℕ → List ℕ → Type 0
  PartSo known c xs = (xs ≡ spelled_part spell c.0) × Knows texts known (texts_of c.0) c.1

  pub eats_part : (known : ℕ) → Eats bytes (part bytes texts known) (PartSo known)
  unfolding part
  eats_part known at next c e =
      let f = part_found at next (part_read2 texts known (drop at bytes)) c e in
      let r = read_there texts ok (drop at bytes) (bytes_small (drop at bytes) (All-drop (λ b. b < 256) at bytes small)) c.0 f.size known c.1 f.was in
      let there = f.to in
      let size = r.size in
      let xs : List ℕ = spelled_part spell c.0 in
      let rest : drop next bytes ≡ r.rest =
      ap (λ (n : ℕ). drop n bytes) (sym there) ∙ (sym (drop-drop f.size at bytes) ∙ (ap (drop f.size) r.whole ∙ drop_at xs r.rest f.size (sym size))) in
      record {
        xs = xs;
        is = (refl, record { counts = r.known_to; there = r.there });
        left = r.whole ∙ ap (λ (zs : List ℕ). xs ++ zs) (sym rest);
        end = omega (arith, there, size);
      }

  -- ---- all cells

  next_cell_eaten : (n : ℕ) (before now : Cells) (at next : ℕ) → AreCells texts n before → next_cell bytes texts before at ≡ answer now next
      → AreCells texts (n + 1) now × Ate bytes (λ xs. cells_text spell now ≡ cells_text spell before ++ xs) at next
  unfolding next_cell
  next_cell_eaten n before now at next h e =
      let r = reached (cell bytes texts before.known at) (λ c. pure (with_cell before c)) now next e in
      let same : with_cell before r.first ≡ now = same_value (with_cell before r.first) now r.mid next r.next in
      let there : r.mid ≡ next = same_place (with_cell before r.first) now r.mid next r.next in
      let ate : Ate bytes (CellSo before.known r.first) at next = subst (λ (k : ℕ). Ate bytes (CellSo before.known r.first) at k) there (eats_cell before.known at r.mid r.first r.was) in
      let put = cells_put texts n before r.first.0 r.first.1 r.first.2 h ate.is.1 in (
        subst (λ (cs : Cells). AreCells texts (n + 1) cs) same put.0,
        ate_as bytes (CellSo before.known r.first) (λ xs. cells_text spell now ≡ cells_text spell before ++ xs) at next
            (λ xs k. ap (cells_text spell) (sym same) ∙ (put.1 ∙ ap (λ (zs : List ℕ). cells_text spell before ++ zs) (sym k.0))) ate,
      )

  no_cells_so : AreCells texts 0 no_cells
  no_cells_so = (refl, tt, ap (λ (ns : List ℕ). counted 0 ns) (no_numbers texts), none_there texts)

  pub eats_cells : Eats bytes (cells bytes texts) (λ cs xs. (xs ≡ counted_cells spell cs) × CellsSo texts cs)
  unfolding cells
  eats_cells = eats_then bytes (four bytes) (λ n. turns (next_cell bytes texts) n no_cells) four_bytes (λ cs xs. (xs ≡ counted_cells spell cs) × CellsSo texts cs) (eats_four bytes small) (λ n at next all e.
      let m = eats_turns bytes (next_cell bytes texts) (cells_text spell) (AreCells texts) next_cell_eaten n 0 no_cells all at next no_cells_so e in
      let size : n ≡ length all.records = let k = m.0.0 in omega (arith, k) in
      ate_as bytes (λ ys. cells_text spell all ≡ ys) (λ ys. (four_bytes n ++ ys ≡ counted_cells spell all) × CellsSo texts all) at next
      (λ ys k. (ap (λ (j : ℕ). four_bytes j ++ ys) size ∙ ap (λ (zs : List ℕ). four_bytes (length all.records) ++ zs) (sym k), (m.0.2, m.0.3))) m.1)

  -- ---- all versions

  -- these bytes come after those of the version itself
  abbrev Extends : Versions → Versions → Bool → Version → List ℕ → Type 0
  Extends before now c x ys = versions_text spell now ≡ versions_text spell before ++ (plain_version_bytes c x ++ ys)

  module _ (from : ℕ) where
    kept_eaten : (n : ℕ) (before now : Versions) (x : Version) (c : Bool) (at next : ℕ) → AreVersions texts from n before → kept bytes texts before x c at ≡ answer now next
        → AreVersions texts from (n + 1) now × Ate bytes (Extends before now c x) at next
    unfolding kept
    kept_eaten n before now x true at next h e =
        let r = reached (part bytes texts before.known at) (λ copy. pure (with_copy before x copy)) now next e in
        let same : with_copy before x r.first ≡ now = same_value (with_copy before x r.first) now r.mid next r.next in
        let there : r.mid ≡ next = same_place (with_copy before x r.first) now r.mid next r.next in
        let ate : Ate bytes (PartSo before.known r.first) at next = subst (λ (k : ℕ). Ate bytes (PartSo before.known r.first) at k) there (eats_part before.known at r.mid r.first r.was) in
        let put = copies_put texts from n before x r.first h ate.is.1 in (
          subst (λ (vs : Versions). AreVersions texts from (n + 1) vs) same put.0,
          ate_as bytes (PartSo before.known r.first) (Extends before now true x) at next
              (λ ys k. ap (versions_text spell) (sym same) ∙ (put.1 ∙ ap (λ (zs : List ℕ). versions_text spell before ++ (plain_version_bytes true x ++ zs)) (sym k.0))) ate,
        )
    kept_eaten n before now x false at next h e =
        let same : with_version before x ≡ now = same_value (with_version before x) now at next e in
        let there : at ≡ next = same_place (with_version before x) now at next e in
        let put = versions_put texts from n before x h in (
          subst (λ (vs : Versions). AreVersions texts from (n + 1) vs) same put.0,
          ate_none bytes (Extends before now false x) at next there (ap (versions_text spell) (sym same) ∙ put.1),
        )

    next_version_eaten : (n : ℕ) (before now : Versions) (at next : ℕ) → AreVersions texts from n before → next_version bytes texts before at ≡ answer now next
        → AreVersions texts from (n + 1) now × Ate bytes (λ xs. versions_text spell now ≡ versions_text spell before ++ xs) at next
    unfolding next_version
    next_version_eaten n before now at next h e =
        let r = reached (version bytes at) (λ x. kept bytes texts before x.0 x.1) now next e in
        let first = eats_version at r.mid r.first r.was in
        let rest = kept_eaten n before now r.first.0 r.first.1 r.mid next h r.next in
        let whole : List ℕ → Type 0 = λ xs. versions_text spell now ≡ versions_text spell before ++ xs in (
          rest.0,
          ate_then bytes (Spells (λ c. plain_version_bytes c.1 c.0) r.first) whole at r.mid next first
              (ate_as bytes (Extends before now r.first.1 r.first.0) (λ ys. whole (first.xs ++ ys)) r.mid next (λ ys k. k ∙ ap (λ (zs : List ℕ). versions_text spell before ++ (zs ++ ys)) (sym first.is)) rest.1),
        )

    no_versions_so : AreVersions texts from 0 (no_versions from)
    no_versions_so = (refl, tt, refl, ap (λ (ns : List ℕ). counted from ns) (no_numbers texts), λ h. h)

    pub eats_versions : Eats bytes (versions bytes texts from) (λ vs xs. (xs ≡ counted_versions spell vs) × VersionsSo texts from vs)
    unfolding versions
    eats_versions = eats_then bytes (four bytes) (λ n. turns (next_version bytes texts) n (no_versions from)) four_bytes (λ vs xs. (xs ≡ counted_versions spell vs) × VersionsSo texts from vs) (eats_four bytes small) (λ n at next all e.
        let m = eats_turns bytes (next_version bytes texts) (versions_text spell) (AreVersions texts from) next_version_eaten n 0 (no_versions from) all at next no_versions_so e in
        let size : n ≡ length all.records = let k = m.0.0 in omega (arith, k) in
        ate_as bytes (λ ys. versions_text spell all ≡ ys) (λ ys. (four_bytes n ++ ys ≡ counted_versions spell all) × VersionsSo texts from all) at next
        (λ ys k. (ap (λ (j : ℕ). four_bytes j ++ ys) size ∙ ap (λ (zs : List ℕ). four_bytes (length all.records) ++ zs) (sym k), (m.0.3, m.0.4))) m.1)
