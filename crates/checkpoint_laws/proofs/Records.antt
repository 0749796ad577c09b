-- Cells and versions are read off their bytes.
use Rattle.std.proofs.Common.{◌≡◌, ℕ, ◌+◌, ◌<◌, ◌≤◌, ◌^◌, ◌==◌, ◌||◌, Bool, true, false, cond, List, [], ◌∷◌, ◌++◌, length, Some, refl, sym, ap, ◌∙◌, subst, inl, inr, arith}
use Rattle.std.specs.Prelude.{◌⊎◌}
use Rattle.std.specs.List.{flat_map, AllByRecursion}
use Rattle.std.proofs.lemmas.Bool.{eq-eqb}
use Rattle.std.proofs.lemmas.List.{append-nil, append_assoc, length-append}
use Rattle.graph_model.specs.declared.graph.CellRecord.{CellRecord}
use Rattle.graph_model.specs.declared.graph.Version.{Version}
use Rattle.graph_model.specs.declared.plan.Plan.{Plan}
use Rattle.py_heap.specs.declared.state.State.{State}
use Rattle.part_bytes.specs.declared.part.PartValue.{PartValue}
use Rattle.part_bytes.specs.Parts.{part_of as part_in}
use Rattle.part_bytes.specs.Texts.{four as four_bytes, spelled_part}
use Rattle.part_bytes.specs.Uses.{part_texts}
use Rattle.checkpoint_reader.specs.declared.forms.Texts.{Texts}
use Rattle.checkpoint_laws.specs.SpelledParts.{counted, HasPartText}
use Rattle.checkpoint_laws.proofs.Counts.{spell_of, numbers_of, no_numbers, numbers_join, some_same, counted_parts, counted_grows, AreThere, there_before}
use Rattle.checkpoint_laws.proofs.Listed.{IsTable}
use Rattle.checkpoint_bytes.specs.Texts.{truth_byte, lists, names_bytes, cell_head_bytes, cell_bytes, kind_byte, plain_version_bytes, version_bytes, each_from, codes_of, copied_texts}
use Rattle.checkpoint_reader.specs.declared.fields.Cells.{Cells}
use Rattle.checkpoint_reader.specs.declared.fields.Versions.{Versions}
use Rattle.checkpoint_reader.specs.Reads.{pure, turns}
use Rattle.checkpoint_reader.specs.Fields.{bounded, size_of, marked, is_unlike, byte, four, truth, names, cell, flag, size, version, part, next_cell, kept, next_version, with_cell, with_version, with_copy}
use Rattle.checkpoint_laws.specs.Spelled.{IsCellRecord, IsVersion, IsLike}
use Rattle.checkpoint_laws.proofs.Marked.{listed, marked_then, parts_from, versions_of, parts_then}
use Rattle.checkpoint_laws.proofs.Copied.{AllCopied}
use Rattle.checkpoint_laws.proofs.Steps.{answer, up_to, Off, off_pure, off_then, off_end, off_map, off_byte, off_four, off_at_most, off_truth, off_code, off_numbers, off_names, off_part}

module _ (a b c d : List ℕ) where
  pub grouped : (z : List ℕ) → (((a ++ b) ++ c) ++ d) ++ z ≡ a ++ (b ++ (c ++ (d ++ z)))
  grouped z = append_assoc ((a ++ b) ++ c) d z ∙ (append_assoc (a ++ b) c (d ++ z) ∙ append_assoc a b (c ++ (d ++ z)))

  grouped_six : (e f : List ℕ) → ((((a ++ b) ++ c) ++ d) ++ e) ++ f ≡ a ++ (b ++ (c ++ (d ++ (e ++ f))))
  grouped_six e f = append_assoc (((a ++ b) ++ c) ++ d) e f ∙ grouped (e ++ f)

-- ---- kinds of versions

kind_of : Bool → Bool → ℕ
kind_of a h = cond a 1 (cond h 2 0)

is_absent : (a h : Bool) → (kind_of a h == 1) ≡ a
unfolding kind_of
is_absent true h = refl
is_absent false true = refl
is_absent false false = refl

has_handle : (a h : Bool) → (a ≡ true → h ≡ false) → (kind_of a h == 2) ≡ h
unfolding kind_of
has_handle true h k = sym (k refl)
has_handle false true k = refl
has_handle false false k = refl

is_kind : (a h : Bool) → kind_of a h ≤ 2
unfolding kind_of
is_kind true h = omega arith
is_kind false true = omega arith
is_kind false false = omega arith

has_size : (a h : Bool) (n : ℕ) → ((a ≡ true) ⊎ (h ≡ true) → n ≡ 0) → ((kind_of a h == 0) || (n == 0)) ≡ true
unfolding kind_of
has_size true h n k = eq-eqb n 0 (k (inl refl))
has_size false true n k = eq-eqb n 0 (k (inr refl))
has_size false false n k = refl

module _ (texts : Texts) (ok : IsTable texts) (bytes : List ℕ) where
  abbrev spell : List ℕ → List ℕ
  spell = spell_of texts

  -- ---- a cell

  off_cell : (r : Bool) (x : CellRecord) (known next : ℕ) → IsCellRecord x → counted known (numbers_of texts (x.code ∷ [])) ≡ Some next → AreThere texts next
      → Off bytes (cell bytes texts known) (cell_bytes spell r x) (x, r, next)
  unfolding cell
  off_cell r x known next h e room =
      let t : List ℕ = spell x.code in
      let m : List ℕ = four_bytes x.meter in
      let n : List ℕ = four_bytes x.steps in
      let d : List ℕ = truth_byte x.drew ∷ truth_byte r ∷ [] in
      let f : List ℕ = four_bytes (length x.reads) in
      let q : List ℕ = flat_map four_bytes x.reads in
      let z : List ℕ = names_bytes x.missing in
      let head : List ℕ = cell_head_bytes spell r x in
      let right : cell_bytes spell r x ≡ t ++ (m ++ (n ++ (d ++ ((f ++ q) ++ z)))) =
      ap (λ (ys : List ℕ). ys ++ z) (append_assoc head f q) ∙ (append_assoc head (f ++ q) z ∙ grouped t m n d ((f ++ q) ++ z)) in
      subst (λ (ys : List ℕ). Off bytes (cell bytes texts known) ys (x, r, next)) (sym right)
      (off_then bytes _ _ t _ (x.code, next) (x, r, next) (off_code bytes texts x.code known next ok h.code e room)
      (off_then bytes _ _ m _ x.meter (x, r, next) (off_at_most bytes 16777216 x.meter h.meter (let l = h.meter in omega (arith, l)))
      (off_then bytes _ _ n _ x.steps (x, r, next) (off_at_most bytes 1000000 x.steps h.steps (let l = h.steps in omega (arith, l)))
      (off_then bytes _ _ (truth_byte x.drew ∷ []) _ x.drew (x, r, next) (off_truth bytes x.drew)
      (off_then bytes _ _ (truth_byte r ∷ []) _ r (x, r, next) (off_truth bytes r)
      (off_then bytes _ _ (f ++ q) z x.reads (x, r, next) (off_numbers bytes x.reads h.reads)
      (off_map bytes (names bytes) (λ missing. (record { code = x.code; meter = x.meter; steps = x.steps; drew = x.drew; reads = x.reads; missing = missing }, r, next)) z x.missing (off_names bytes x.missing h.missing))))))))

  -- ---- a version

  off_flag : (k : ℕ) → k ≤ 2 → Off bytes (flag bytes) (k ∷ []) k
  unfolding flag
  off_flag k l = λ at s. off_end bytes (byte bytes) (λ b. bounded 2 at b) (k ∷ []) k k (off_byte bytes k) (λ end. rw (up_to k 2 l) refl) at s

  off_size : (k n : ℕ) → n < 2 ^ 32 → ((k == 0) || (n == 0)) ≡ true → Off bytes (size bytes k) (four_bytes n) n
  unfolding size
  off_size k n l e = λ at s. off_end bytes (four bytes) (λ m. size_of k at m) (four_bytes n) n n (off_four bytes n l) (λ end. rw e refl) at s

  off_version : (c : Bool) (x : Version) → IsVersion x → Off bytes (version bytes) (plain_version_bytes c x) (x, c)
  unfolding version kind_of
  off_version c x h =
      let a : List ℕ = four_bytes x.writer in
      let b : List ℕ = four_bytes x.replaced in
      let k : List ℕ = kind_byte x ∷ [] in
      let n : List ℕ = four_bytes x.size in
      let z : List ℕ = names_bytes x.names in
      let e : List ℕ = truth_byte c ∷ [] in
      let with_kinds : Bool → Bool → Version = λ absent handle. record { names = x.names; writer = x.writer; replaced = x.replaced; absent = absent; handle = handle; size = x.size } in
      let same : with_kinds (kind_byte x == 1) (kind_byte x == 2) ≡ x =
      ap (λ (y : Bool). with_kinds y (kind_byte x == 2)) (is_absent x.absent x.handle) ∙ ap (λ (y : Bool). with_kinds x.absent y) (has_handle x.absent x.handle h.kinds) in
      subst (λ (ys : List ℕ). Off bytes (version bytes) ys (x, c)) (sym (grouped_six a b k n z e))
      (off_then bytes _ _ a _ x.writer (x, c) (off_four bytes x.writer h.writer)
      (off_then bytes _ _ b _ x.replaced (x, c) (off_four bytes x.replaced h.replaced)
      (off_then bytes _ _ k _ (kind_byte x) (x, c) (off_flag (kind_byte x) (is_kind x.absent x.handle))
      (off_then bytes _ _ n _ x.size (x, c) (off_size (kind_byte x) x.size h.size (has_size x.absent x.handle x.size h.none))
      (off_then bytes _ _ z e x.names (x, c) (off_names bytes x.names h.names)
      (off_end bytes (truth bytes) _ e c (x, c) (off_truth bytes c) (λ end. ap (λ (y : Version). answer (y, c) end) same)))))))

  -- ---- all cells

  module _ (p : Plan) where
    abbrev CellBytes : ℕ → CellRecord → List ℕ
    CellBytes n x = cell_bytes spell (lists p.rerun n) x

    -- the cells that are read after these, with those that the plan runs again
    abbrev CellsTo : Cells → List CellRecord → ℕ → Cells
    CellsTo before xs last = record { records = before.records ++ xs; rerun = before.rerun ++ listed p.rerun (length before.records + 1) (length xs); known = last }

    no_more : (before : Cells) (last : ℕ) → before.known ≡ last → before ≡ CellsTo before [] last
    unfolding listed
    no_more before last e = ap (λ (rs : List CellRecord). let c : Cells = record { records = rs; rerun = before.rerun; known = before.known } in c) (sym (append-nil before.records))
        ∙ (ap (λ (ns : List ℕ). let c : Cells = record { records = before.records ++ []; rerun = ns; known = before.known } in c) (sym (append-nil before.rerun))
        ∙ ap (λ (k : ℕ). let c : Cells = record { records = before.records ++ []; rerun = before.rerun ++ []; known = k } in c) e)

    one_cell : (before : Cells) (x : CellRecord) (xs : List CellRecord) (mid last : ℕ) → CellsTo (with_cell before (x, lists p.rerun (length before.records + 1), mid)) xs last ≡ CellsTo before (x ∷ xs) last
    unfolding listed
    one_cell before x xs mid last =
        let m : ℕ = length before.records + 1 in
        let now : Cells = with_cell before (x, lists p.rerun m, mid) in
        let size : length now.records + 1 ≡ m + 1 = let one = length-append before.records (x ∷ []) in omega (arith, one) in
        let with_both : List CellRecord → List ℕ → Cells = λ rs ns. record { records = rs; rerun = ns; known = last } in
        let numbers : now.rerun ++ listed p.rerun (length now.records + 1) (length xs) ≡ before.rerun ++ listed p.rerun m (length (x ∷ xs)) =
        ap (λ (k : ℕ). now.rerun ++ listed p.rerun k (length xs)) size ∙ marked_then before.rerun m (lists p.rerun m) (listed p.rerun (m + 1) (length xs)) in
        ap (λ (rs : List CellRecord). with_both rs (now.rerun ++ listed p.rerun (length now.records + 1) (length xs))) (append_assoc before.records (x ∷ []) xs)
        ∙ ap (λ (ns : List ℕ). with_both (before.records ++ x ∷ xs) ns) numbers

    pub off_cells : (xs : List CellRecord) (before : Cells) (n last : ℕ) → n ≡ length before.records + 1 → AllByRecursion IsCellRecord xs
        → counted before.known (numbers_of texts (codes_of xs)) ≡ Some last → AreThere texts last
        → Off bytes (turns (next_cell bytes texts) (length xs) before) (each_from CellBytes n xs) (CellsTo before xs last)
    unfolding next_cell
    off_cells [] before n last e h f room =
        let none : before.known ≡ last = some_same before.known last (sym (ap (λ (ns : List ℕ). counted before.known ns) (no_numbers texts)) ∙ f) in
        subst (λ (c : Cells). Off bytes (pure before) [] c) (no_more before last none) (off_pure bytes before)
    off_cells (x ∷ xs) before n last e h f room =
        let m : ℕ = length before.records + 1 in
        let by = counted_parts (numbers_of texts (x.code ∷ [])) (numbers_of texts (codes_of xs)) before.known last
        (sym (ap (λ (ns : List ℕ). counted before.known ns) (numbers_join texts (x.code ∷ []) (codes_of xs))) ∙ f) in
        let there : AreThere texts by.mid = there_before texts by.mid last (counted_grows (numbers_of texts (codes_of xs)) by.mid last by.rest) room in
        let now : Cells = with_cell before (x, lists p.rerun m, by.mid) in
        let size : m + 1 ≡ length now.records + 1 = let one = length-append before.records (x ∷ []) in omega (arith, one) in
        let turn = λ (after : Cells). turns (next_cell bytes texts) (length xs) after in
        let rest : Off bytes (turn now) (each_from CellBytes (m + 1) xs) (CellsTo before (x ∷ xs) last) =
        subst (λ (c : Cells). Off bytes (turn now) (each_from CellBytes (m + 1) xs) c) (one_cell before x xs by.mid last) (off_cells xs now (m + 1) last size h.1 by.rest room) in
        subst (λ (k : ℕ). Off bytes (turns (next_cell bytes texts) (length (x ∷ xs)) before) (each_from CellBytes k (x ∷ xs)) (CellsTo before (x ∷ xs) last)) (sym e)
        (off_then bytes (next_cell bytes texts before) turn (CellBytes m x) (each_from CellBytes (m + 1) xs) now (CellsTo before (x ∷ xs) last)
        (off_map bytes (cell bytes texts before.known) (λ c. with_cell before c) (CellBytes m x) (x, lists p.rerun m, by.mid) (off_cell (lists p.rerun m) x before.known by.mid h.0 by.first there)) rest)

  -- ---- all versions

  module _ (s : State) (p : Plan) where
    abbrev VersionBytes : ℕ → Version → List ℕ
    VersionBytes n x = version_bytes spell s (lists p.copied n) x

    abbrev VersionTexts : ℕ → Version → List (List ℕ)
    VersionTexts n x = copied_texts s p n x

    -- the versions after one more
    abbrev After : Bool → List Version → List ℕ → List PartValue → Version → ℕ → Versions
    After b rs ns ps x known = versions_of (rs ++ x ∷ []) (marked ns (length rs + 1) b) (cond b (ps ++ part_in s x.names ∷ []) ps) known

    copy_after : (rs : List Version) (ns : List ℕ) (ps : List PartValue) (x : Version) (known next : ℕ) → is_unlike x (part_in s x.names) ≡ false
        → with_copy (versions_of rs ns ps known) x (part_in s x.names, next) ≡ After true rs ns ps x next
    copy_after rs ns ps x known next like = rw like refl

    off_next : (b : Bool) (rs : List Version) (ns : List ℕ) (ps : List PartValue) (x : Version) (known next : ℕ) → IsVersion x → (b ≡ true → HasPartText (part_in s x.names)) → (b ≡ true → IsLike s x)
        → counted known (numbers_of texts (cond b (part_texts s x.names) [])) ≡ Some next → AreThere texts next
        → Off bytes (next_version bytes texts (versions_of rs ns ps known)) (version_bytes spell s b x) (After b rs ns ps x next)
    unfolding next_version kept
    off_next true rs ns ps x known next h k like e room =
        let before : Versions = versions_of rs ns ps known in
        let part_ : List ℕ = spelled_part spell (part_in s x.names) in
        subst (λ (v : Versions). Off bytes (next_version bytes texts before) (version_bytes spell s true x) v) (copy_after rs ns ps x known next (like refl))
        (off_then bytes (version bytes) (λ y. kept bytes texts before y.0 y.1) (plain_version_bytes true x) part_ (x, true) (with_copy before x (part_in s x.names, next)) (off_version true x h)
        (off_map bytes (part bytes texts known) (λ copy. with_copy before x copy) part_ (part_in s x.names, next) (off_part bytes texts (part_in s x.names) known next ok (k refl) e room)))
    off_next false rs ns ps x known next h k like e room =
        let before : Versions = versions_of rs ns ps known in
        let same : known ≡ next = some_same known next (sym (ap (λ (ms : List ℕ). counted known ms) (no_numbers texts)) ∙ e) in
        off_then bytes (version bytes) (λ y. kept bytes texts before y.0 y.1) (plain_version_bytes false x) [] (x, false) (After false rs ns ps x next) (off_version false x h)
        (subst (λ (n : ℕ). Off bytes (pure (with_version before x)) [] (After false rs ns ps x n)) same (off_pure bytes (with_version before x)))

    -- the versions that are read after these, with the parts of those that the plan copies
    abbrev VersionsTo : List Version → List ℕ → List PartValue → List Version → ℕ → Versions
    VersionsTo rs ns ps xs last = versions_of (rs ++ xs) (ns ++ listed p.copied (length rs + 1) (length xs)) (ps ++ parts_from s p (length rs + 1) xs) last

    one_version : (rs : List Version) (ns : List ℕ) (ps : List PartValue) (x : Version) (xs : List Version) (last : ℕ)
        → (let b : Bool = lists p.copied (length rs + 1) in VersionsTo (rs ++ x ∷ []) (marked ns (length rs + 1) b) (cond b (ps ++ part_in s x.names ∷ []) ps) xs last) ≡ VersionsTo rs ns ps (x ∷ xs) last
    unfolding listed parts_from
    one_version rs ns ps x xs last =
        let m : ℕ = length rs + 1 in
        let b : Bool = lists p.copied m in
        let size : length (rs ++ x ∷ []) + 1 ≡ m + 1 = let one = length-append rs (x ∷ []) in omega (arith, one) in
        let new_ns : List ℕ = marked ns m b in
        let new_ps : List PartValue = cond b (ps ++ part_in s x.names ∷ []) ps in
        ap (λ (j : ℕ). versions_of ((rs ++ x ∷ []) ++ xs) (new_ns ++ listed p.copied j (length xs)) (new_ps ++ parts_from s p j xs) last) size
        ∙ (ap (λ (zs : List Version). versions_of zs (new_ns ++ listed p.copied (m + 1) (length xs)) (new_ps ++ parts_from s p (m + 1) xs) last) (append_assoc rs (x ∷ []) xs)
        ∙ (ap (λ (zs : List ℕ). versions_of (rs ++ x ∷ xs) zs (new_ps ++ parts_from s p (m + 1) xs) last) (marked_then ns m b (listed p.copied (m + 1) (length xs)))
        ∙ ap (λ (zs : List PartValue). versions_of (rs ++ x ∷ xs) (ns ++ listed p.copied m (length (x ∷ xs))) zs last) (parts_then b ps (part_in s x.names) (parts_from s p (m + 1) xs))))

    none_after : (rs : List Version) (ns : List ℕ) (ps : List PartValue) (known last : ℕ) → known ≡ last → versions_of rs ns ps known ≡ VersionsTo rs ns ps [] last
    unfolding listed parts_from
    none_after rs ns ps known last e = rw (append-nil rs, append-nil ns, append-nil ps) (ap (λ (k : ℕ). versions_of rs ns ps k) e)

    pub off_versions : (xs rs : List Version) (ns : List ℕ) (ps : List PartValue) (known n last : ℕ) → n ≡ length rs + 1 → AllByRecursion IsVersion xs → AllCopied p (λ y. HasPartText (part_in s y.names)) n xs → AllCopied p (IsLike s) n xs
        → counted known (numbers_of texts (each_from VersionTexts n xs)) ≡ Some last → AreThere texts last
        → Off bytes (turns (next_version bytes texts) (length xs) (versions_of rs ns ps known)) (each_from VersionBytes n xs) (VersionsTo rs ns ps xs last)
    off_versions [] rs ns ps known n last e h k like f room =
        let none : known ≡ last = some_same known last (sym (ap (λ (ms : List ℕ). counted known ms) (no_numbers texts)) ∙ f) in
        subst (λ (v : Versions). Off bytes (pure (versions_of rs ns ps known)) [] v) (none_after rs ns ps known last none) (off_pure bytes (versions_of rs ns ps known))
    off_versions (x ∷ xs) rs ns ps known n last e h k like f room =
        let m : ℕ = length rs + 1 in
        let b : Bool = lists p.copied m in
        let used : List (List ℕ) = cond b (part_texts s x.names) [] in
        let more_ : List (List ℕ) = each_from VersionTexts (m + 1) xs in
        let goes : counted known (numbers_of texts (used ++ more_)) ≡ Some last = subst (λ (j : ℕ). counted known (numbers_of texts (each_from VersionTexts j (x ∷ xs))) ≡ Some last) e f in
        let by = counted_parts (numbers_of texts used) (numbers_of texts more_) known last (sym (ap (λ (ms : List ℕ). counted known ms) (numbers_join texts used more_)) ∙ goes) in
        let there : AreThere texts by.mid = there_before texts by.mid last (counted_grows (numbers_of texts more_) by.mid last by.rest) room in
        let new_ns : List ℕ = marked ns m b in
        let new_ps : List PartValue = cond b (ps ++ part_in s x.names ∷ []) ps in
        let now : Versions = versions_of (rs ++ x ∷ []) new_ns new_ps by.mid in
        let size : m + 1 ≡ length (rs ++ x ∷ []) + 1 = let one = length-append rs (x ∷ []) in omega (arith, one) in
        let parts : AllCopied p (λ y. HasPartText (part_in s y.names)) m (x ∷ xs) = subst (λ (j : ℕ). AllCopied p (λ y. HasPartText (part_in s y.names)) j (x ∷ xs)) e k in
        let alike : AllCopied p (IsLike s) m (x ∷ xs) = subst (λ (j : ℕ). AllCopied p (IsLike s) j (x ∷ xs)) e like in
        let turn = λ (after : Versions). turns (next_version bytes texts) (length xs) after in
        let rest : Off bytes (turn now) (each_from VersionBytes (m + 1) xs) (VersionsTo rs ns ps (x ∷ xs) last) =
        subst (λ (v : Versions). Off bytes (turn now) (each_from VersionBytes (m + 1) xs) v) (one_version rs ns ps x xs last)
        (off_versions xs (rs ++ x ∷ []) new_ns new_ps by.mid (m + 1) last size h.1 parts.1 alike.1 by.rest room) in
        subst (λ (j : ℕ). Off bytes (turns (next_version bytes texts) (length (x ∷ xs)) (versions_of rs ns ps known)) (each_from VersionBytes j (x ∷ xs)) (VersionsTo rs ns ps (x ∷ xs) last)) (sym e)
        (off_then bytes (next_version bytes texts (versions_of rs ns ps known)) turn (VersionBytes m x) (each_from VersionBytes (m + 1) xs) now (VersionsTo rs ns ps (x ∷ xs) last)
        (off_next b rs ns ps x known by.mid h.0 parts.0 alike.0 by.first there) rest)
