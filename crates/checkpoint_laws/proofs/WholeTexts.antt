-- The bytes that were read as a checkpoint are its text.
use Rattle.std.proofs.Common.{◌≡◌, ℕ, ◌+◌, ◌<◌, ◌≤◌, ◌==◌, true, List, [], ◌∷◌, ◌++◌, length, take, drop, Option, Some, None, refl, sym, ap, ◌∙◌, subst, inl, inr, arith, All}
use Rattle.std.specs.Prelude.{nat_eq, nat_le, ◌⊎◌, slice_get, slice_range}
use Rattle.std.specs.List.{starts_with, flat_map}
use Rattle.std.specs.Cmp.Lexicographic.{bytes_decides}
use Rattle.std.proofs.lemmas.Bool.{cases_Bool, cases_lt, eqb-true}
use Rattle.std.proofs.lemmas.Option.{slice_get-get_or}
use Rattle.std.proofs.lemmas.List.{append-nil, append_assoc, drop_all, length-append, take_all, take_at}
use Rattle.byteorder.specs.Endian.{big_number}
use Rattle.part_bytes.specs.Tables.{with_texts}
use Rattle.part_bytes.specs.Texts.{four as four_bytes, text_bytes, by_number}
use Rattle.part_bytes.specs.Uses.{texts_of}
use Rattle.checkpoint_bytes.specs.Texts.{head_bytes, table_bytes, codes_of}
use Rattle.checkpoint_reader.specs.declared.forms.Texts.{Texts}
use Rattle.checkpoint_reader.specs.declared.forms.Texts.TheVariants.{InPlace, Numbered}
use Rattle.checkpoint_reader.specs.declared.fields.Table.{Table}
use Rattle.checkpoint_reader.specs.declared.fields.Versions.{Versions}
use Rattle.checkpoint_laws.proofs.Counts.{spell_of, numbers_of, numbers_join, counted_join, AreThere, none_there}
use Rattle.checkpoint_laws.proofs.Listed.{AreListed, IsTable, table_by}
use Rattle.checkpoint_laws.proofs.TableTexts.{TableSo, eats_table1, eats_table2}
use Rattle.checkpoint_laws.specs.SpelledParts.{counted}
use Rattle.checkpoint_reader.specs.declared.fault.CheckpointFault.TheVariants.{BadMagic, Trailing, BadField}
use Rattle.checkpoint_reader.specs.declared.fields.Cells.{Cells}
use Rattle.checkpoint_reader.specs.declared.fields.Fields.{Fields}
use Rattle.checkpoint_reader.specs.Reads.{Read, after}
use Rattle.checkpoint_reader.specs.Fields.{letters, begins, no_table, all_used, taken, magic, format, four, at_most, table, cells, versions, ended, fields}
use Rattle.checkpoint_laws.specs.Texts.{table_in, body_bytes, fields_text, fields_text1, fields_text2, version_in}
use Rattle.checkpoint_laws.proofs.Eats.{answer, same_value, same_place, failed, reached, Spells, Ate, ate_as, ate_then, Eats, eats_then, eats_knowing, eats_with, eats_end, eats_taken}
use Rattle.checkpoint_laws.proofs.Pieces.{eats_four, eats_format, eats_at_most}
use Rattle.checkpoint_laws.proofs.TextRecords.{grouped, counted_cells, counted_versions, CellsSo, VersionsSo, eats_cells, eats_versions}

begun : (bytes : List ℕ) → begins bytes ≡ true → 4 ≤ length bytes → take 4 bytes ≡ letters
begun bytes e l = elim (cases_Bool (starts_with nat_eq bytes letters)) [
  | inl y ↦ sym ((bytes_decides letters (take 4 bytes)).0 y)
  | inr f ↦
      let other : starts_with nat_eq letters bytes ≡ true = rw f at e in
      let whole : bytes ≡ letters = (bytes_decides bytes (take (length bytes) letters)).0 other ∙ take_all (length bytes) letters l in
      ap (λ (xs : List ℕ). take 4 xs) whole
]

module _ (bytes : List ℕ) where
  -- ---- the steps after each field

  abbrev pub fields_of : ℕ → ℕ → Cells → Versions → Fields
  fields_of count meter cs vs = record { count = count; meter = meter; cells = cs; versions = vs }

  abbrev pub last_of : ℕ → ℕ → Table → Cells → Versions → Read Fields
  last_of count meter t cs vs at = after (all_used (slice_get t.places vs.known) (fields_of count meter cs vs) at) (ended bytes)

  abbrev pub then_versions : ℕ → ℕ → Table → Cells → Read Fields
  then_versions count meter t cs at = after (versions bytes t.texts cs.known at) (last_of count meter t cs)

  abbrev pub then_cells : ℕ → ℕ → Table → Read Fields
  then_cells count meter t at = after (cells bytes t.texts at) (then_versions count meter t)

  abbrev pub then_table : ℕ → ℕ → ℕ → Read Fields
  then_table version count meter at = after (table bytes version at) (then_cells count meter)

  abbrev pub then_meter : ℕ → ℕ → Read Fields
  then_meter version count at = after (at_most bytes 16777216 at) (then_table version count)

  abbrev pub then_count : ℕ → Read Fields
  then_count version at = after (four bytes at) (then_meter version)

  abbrev pub then_format : List ℕ → Read Fields
  then_format first at = after (format bytes at) then_count

  -- ---- all was read

  pub ended_found : (read f : Fields) (at next : ℕ) → ended bytes read at ≡ answer f next → (at ≡ next) × (read ≡ f) × (at ≡ length bytes)
  unfolding ended
  ended_found read f at next e = elim (cases_Bool (at == length bytes)) [
    | inl y ↦ let is : answer read at ≡ answer f next = rw y at e in (same_place read f at next is, same_value read f at next is, eqb-true at (length bytes) y)
    | inr n ↦ absurd (let no : failed Fields (Trailing at) ≡ answer f next = rw n at e in cc)
  ]

  -- no text is left, and no byte
  pub record Last (left : Option ℕ) (read f : Fields) (at next : ℕ) : Type 0 where
    pub none : left ≡ None
    pub to : at ≡ next
    pub is : read ≡ f
    pub end : at ≡ length bytes

  pub last_found : (left : Option ℕ) (read f : Fields) (at next : ℕ) → after (all_used left read at) (ended bytes) ≡ answer f next → Last left read f at next
  last_found None read f at next e = let d = ended_found read f at next e in record { none = refl; to = d.0; is = d.1; end = d.2 }
  last_found (Some unused) read f at next e = absurd (let no : failed Fields (BadField unused) ≡ answer f next = e in cc)

  -- the step reads all bytes
  abbrev Ends : Read Fields → Type 0
  Ends m = (at next : ℕ) (f : Fields) → m at ≡ answer f next → next ≡ length bytes

  ends_then : {A : Type 0} (m : Read A) (f : A → Read Fields) → ((a : A) → Ends (f a)) → Ends (λ at. after (m at) f)
  ends_then m f k = λ at next b e. let r = reached (m at) f b next e in k r.first r.mid next b r.next

  rest_ends : (first : List ℕ) → Ends (then_format first)
  rest_ends first =
      ends_then (format bytes) then_count (λ version.
      ends_then (four bytes) (then_meter version) (λ count.
      ends_then (at_most bytes 16777216) (then_table version count) (λ meter.
      ends_then (table bytes version) (then_cells count meter) (λ t.
      ends_then (cells bytes t.texts) (then_versions count meter t) (λ cs.
      ends_then (versions bytes t.texts cs.known) (last_of count meter t cs) (λ vs at next f e.
      let d = last_found (slice_get t.places vs.known) (fields_of count meter cs vs) f at next e in sym d.to ∙ d.end))))))

-- ---- the texts of a table are those that are referred to

-- how many are referred to, in the cells and in the versions
used_so : (texts : Texts) (cs : Cells) (vs : Versions) → CellsSo texts cs → VersionsSo texts cs.known vs
    → (counted 0 (numbers_of texts (codes_of cs.records ++ flat_map texts_of vs.parts)) ≡ Some vs.known) × AreThere texts vs.known
used_so texts cs vs c v = (
  ap (λ (ns : List ℕ). counted 0 ns) (numbers_join texts (codes_of cs.records) (flat_map texts_of vs.parts))
      ∙ counted_join (numbers_of texts (codes_of cs.records)) (numbers_of texts (flat_map texts_of vs.parts)) 0 cs.known (Some vs.known) c.0 v.0,
  v.1 c.1,
)

none_past : (places : List ℕ) (n : ℕ) → slice_get places n ≡ None → length places ≤ n
none_past places n e = elim (cases_lt n (length places)) [
  | inl l ↦ absurd (let here = slice_get-get_or places n 0 l in cc)
  | inr l ↦ l
]

table_used : (ts : List (List ℕ)) (places : List ℕ) (count meter : ℕ) (cs : Cells) (vs : Versions) → length places ≡ length ts → slice_get places vs.known ≡ None → CellsSo (Numbered ts) cs → VersionsSo (Numbered ts) cs.known vs
    → table_in (record { count = count; meter = meter; cells = cs; versions = vs }) ≡ ts
table_used ts places count meter cs vs many none c v =
    let u = used_so (Numbered ts) cs vs c v in
    let most = u.1 in
    let least = none_past places vs.known none in
    let all : vs.known ≡ length ts = omega (arith, most, least, many) in
    table_by (codes_of cs.records ++ flat_map texts_of vs.parts) ts vs.known u.0 most ∙ (ap (λ (k : ℕ). take k ts) all ∙ take_all (length ts) ts (omega arith))

-- ---- the text, grouped as it is read

grouped1 : (f : Fields) → fields_text1 f ≡ letters ++ ((0 ∷ 1 ∷ []) ++ (four_bytes f.count ++ (four_bytes f.meter ++ (counted_cells text_bytes f.cells ++ counted_versions text_bytes f.versions))))
grouped1 f = grouped letters (0 ∷ 1 ∷ []) (four_bytes f.count) (four_bytes f.meter) (counted_cells text_bytes f.cells ++ counted_versions text_bytes f.versions)

grouped2 : (f : Fields) (ts : List (List ℕ)) → table_in f ≡ ts
    → fields_text2 f ≡ letters ++ ((0 ∷ 2 ∷ []) ++ (four_bytes f.count ++ (four_bytes f.meter ++ (table_bytes ts ++ (counted_cells (by_number ts) f.cells ++ counted_versions (by_number ts) f.versions)))))
grouped2 f ts is =
    ap (λ (us : List (List ℕ)). head_bytes 2 f.count f.meter ++ (table_bytes us ++ body_bytes (by_number us) f)) is
    ∙ grouped letters (0 ∷ 2 ∷ []) (four_bytes f.count) (four_bytes f.meter) (table_bytes ts ++ (counted_cells (by_number ts) f.cells ++ counted_versions (by_number ts) f.versions))

-- bytes of a version say it
says : (version : ℕ) (f : Fields) → (version ≡ 1) ⊎ (version ≡ 2) → version_in (fields_text version f) ≡ version
says version f (inl e) = subst (λ (v : ℕ). version_in (fields_text v f) ≡ v) (sym e) refl
says version f (inr e) = subst (λ (v : ℕ). version_in (fields_text v f) ≡ v) (sym e) refl

module _ (bytes : List ℕ) (small : All (λ b. b < 256) bytes) where
  pub magic_eaten : (next : ℕ) (xs : List ℕ) → magic bytes 0 ≡ answer xs next → Ate bytes (λ ys. ys ≡ letters) 0 next
  unfolding magic
  magic_eaten next xs e = elim (cases_Bool (begins bytes)) [
    | inl y ↦
        let is : taken bytes 0 4 0 ≡ answer xs next = rw y at e in
        let a = eats_taken bytes small 0 4 0 next xs is in
        let size : length a.xs ≡ 4 = ap (λ (zs : List ℕ). length zs) a.is.0 ∙ a.is.1 in
        let whole : bytes ≡ a.xs ++ drop next bytes = a.left in
        let long : length bytes ≡ length a.xs + length (drop next bytes) = ap (λ (zs : List ℕ). length zs) whole ∙ length-append a.xs (drop next bytes) in
        let front : take 4 bytes ≡ a.xs = ap (λ (zs : List ℕ). take 4 zs) whole ∙ take_at a.xs (drop next bytes) 4 size in
        ate_as bytes (λ ys. ys ≡ a.xs) (λ ys. ys ≡ letters) 0 next (λ ys k. k ∙ (sym front ∙ begun bytes y (omega (arith, long, size)))) (record { xs = a.xs; is = refl; left = a.left; end = a.end })
    | inr f ↦ absurd (let no : failed (List ℕ) BadMagic ≡ answer xs next = rw f at e in cc)
  ]

  -- the text of what was read, in one of the versions
  pub record Told (f : Fields) (xs : List ℕ) : Type 0 where
    pub version : ℕ
    pub known : (version ≡ 1) ⊎ (version ≡ 2)
    pub is : xs ≡ fields_text version f

  abbrev Q : Fields → List ℕ → Type 0
  Q f xs = Told f (letters ++ xs)

  -- in version 1
  rest1_eaten : (count meter : ℕ) → Eats bytes (then_table bytes 1 count meter) (λ f z. Q f ((0 ∷ 1 ∷ []) ++ (four_bytes count ++ (four_bytes meter ++ z))))
  rest1_eaten count meter =
      let Z : Fields → List ℕ → Type 0 = λ f z. Q f ((0 ∷ 1 ∷ []) ++ (four_bytes count ++ (four_bytes meter ++ z))) in
      eats_with bytes (table bytes 1) (then_cells bytes count meter) (λ t xs. (t ≡ no_table) × (xs ≡ [])) Z (eats_table1 bytes small) (λ t xs e.
      subst (λ (u : Table). Eats bytes (then_cells bytes count meter u) (λ f z. Z f (xs ++ z))) (sym e.0)
      (subst (λ (ys : List ℕ). Eats bytes (then_cells bytes count meter no_table) (λ f z. Z f (ys ++ z))) (sym e.1)
      (eats_knowing bytes (cells bytes InPlace) (then_versions bytes count meter no_table) (counted_cells text_bytes) (CellsSo InPlace) Z (eats_cells InPlace tt bytes small) (λ cs c.
      eats_end bytes (versions bytes InPlace cs.known) (last_of bytes count meter no_table cs) (λ vs z. (z ≡ counted_versions text_bytes vs) × VersionsSo InPlace cs.known vs)
      (λ f z. Z f (counted_cells text_bytes cs ++ z)) (eats_versions InPlace tt bytes small cs.known) (λ vs f z s t e k.
      let read : Fields = fields_of bytes count meter cs vs in
      let d = last_found bytes (slice_get no_table.places vs.known) read f s t k in
      let spelled : letters ++ ((0 ∷ 1 ∷ []) ++ (four_bytes count ++ (four_bytes meter ++ (counted_cells text_bytes cs ++ z)))) ≡ fields_text 1 read =
      ap (λ (ys : List ℕ). letters ++ ((0 ∷ 1 ∷ []) ++ (four_bytes count ++ (four_bytes meter ++ (counted_cells text_bytes cs ++ ys))))) e.0 ∙ sym (grouped1 read) in
      (d.to, record { version = 1; known = inl refl; is = spelled ∙ ap (fields_text 1) d.is }))))))

  -- in version 2
  rest2_eaten : (count meter : ℕ) → Eats bytes (then_table bytes 2 count meter) (λ f z. Q f ((0 ∷ 2 ∷ []) ++ (four_bytes count ++ (four_bytes meter ++ z))))
  rest2_eaten count meter =
      let Z : Fields → List ℕ → Type 0 = λ f z. Q f ((0 ∷ 2 ∷ []) ++ (four_bytes count ++ (four_bytes meter ++ z))) in
      eats_with bytes (table bytes 2) (then_cells bytes count meter) (λ t xs. (ts : List (List ℕ)) × TableSo ts t xs) Z (eats_table2 bytes small) (λ t xs e.
      let ts : List (List ℕ) = e.0 in
      let so = e.1 in
      let spell : List ℕ → List ℕ = by_number ts in
      let u : Table = record { texts = Numbered ts; places = t.places } in
      let same : u ≡ t = ap (λ (x : Texts). let w : Table = record { texts = x; places = t.places } in w) (sym so.is) in
      subst (λ (w : Table). Eats bytes (then_cells bytes count meter w) (λ f z. Z f (xs ++ z))) same
      (subst (λ (ys : List ℕ). Eats bytes (then_cells bytes count meter u) (λ f z. Z f (ys ++ z))) (sym so.bytes)
      (eats_knowing bytes (cells bytes (Numbered ts)) (then_versions bytes count meter u) (counted_cells spell) (CellsSo (Numbered ts)) (λ f z. Z f (table_bytes ts ++ z)) (eats_cells (Numbered ts) so.ok bytes small) (λ cs c.
      eats_end bytes (versions bytes (Numbered ts) cs.known) (last_of bytes count meter u cs) (λ vs z. (z ≡ counted_versions spell vs) × VersionsSo (Numbered ts) cs.known vs)
      (λ f z. Z f (table_bytes ts ++ (counted_cells spell cs ++ z))) (eats_versions (Numbered ts) so.ok bytes small cs.known) (λ vs f z s t_ e k.
      let read : Fields = fields_of bytes count meter cs vs in
      let d = last_found bytes (slice_get t.places vs.known) read f s t_ k in
      let used : table_in read ≡ ts = table_used ts t.places count meter cs vs so.many d.none c e.1 in
      let spelled : letters ++ ((0 ∷ 2 ∷ []) ++ (four_bytes count ++ (four_bytes meter ++ (table_bytes ts ++ (counted_cells spell cs ++ z))))) ≡ fields_text 2 read =
      ap (λ (ys : List ℕ). letters ++ ((0 ∷ 2 ∷ []) ++ (four_bytes count ++ (four_bytes meter ++ (table_bytes ts ++ (counted_cells spell cs ++ ys)))))) e.0 ∙ sym (grouped2 read ts used) in
      (d.to, record { version = 2; known = inr refl; is = spelled ∙ ap (fields_text 2) d.is }))))))

  by_version : (version count meter : ℕ) → (version ≡ 1) ⊎ (version ≡ 2) → Eats bytes (then_table bytes version count meter) (λ f z. Q f ((0 ∷ version ∷ []) ++ (four_bytes count ++ (four_bytes meter ++ z))))
  by_version version count meter (inl e) =
      subst (λ (v : ℕ). Eats bytes (then_table bytes v count meter) (λ f z. Q f ((0 ∷ v ∷ []) ++ (four_bytes count ++ (four_bytes meter ++ z))))) (sym e) (rest1_eaten count meter)
  by_version version count meter (inr e) =
      subst (λ (v : ℕ). Eats bytes (then_table bytes v count meter) (λ f z. Q f ((0 ∷ v ∷ []) ++ (four_bytes count ++ (four_bytes meter ++ z))))) (sym e) (rest2_eaten count meter)

  rest_eaten : (first : List ℕ) → Eats bytes (then_format bytes first) Q
  rest_eaten first =
      eats_knowing bytes (format bytes) (then_count bytes) (λ n. 0 ∷ n ∷ []) (λ n. (n ≡ 1) ⊎ (n ≡ 2)) Q (eats_format bytes small) (λ version which.
      eats_then bytes (four bytes) (then_meter bytes version) four_bytes (λ f z. Q f ((0 ∷ version ∷ []) ++ z)) (eats_four bytes small) (λ count.
      eats_then bytes (at_most bytes 16777216) (then_table bytes version count) four_bytes (λ f z. Q f ((0 ∷ version ∷ []) ++ (four_bytes count ++ z))) (eats_at_most bytes small 16777216) (λ meter.
      by_version version count meter which)))

  record Whole (f : Fields) (end : ℕ) : Type 0 where
    pub told : Told f bytes
    pub end_ : end ≡ length bytes

  whole_read : (f : Fields) (end : ℕ) → fields bytes 0 ≡ answer f end → Whole f end
  unfolding fields
  whole_read f end e =
      let r = reached (magic bytes 0) (then_format bytes) f end e in
      let a = magic_eaten r.mid r.first r.was in
      let b = rest_eaten r.first r.mid end f r.next in
      let last : end ≡ length bytes = rest_ends bytes r.first r.mid end f r.next in
      let whole : Ate bytes (Told f) 0 end = ate_then bytes (λ ys. ys ≡ letters) (Told f) 0 r.mid end a
      (ate_as bytes (λ xs. Told f (letters ++ xs)) (λ ys. Told f (a.xs ++ ys)) r.mid end (λ ys k. subst (λ (zs : List ℕ). Told f (zs ++ ys)) (sym a.is) k) b) in
      let none : drop end bytes ≡ [] = drop_all end bytes (omega (arith, last)) in
      let all : bytes ≡ whole.xs = whole.left ∙ (ap (λ (zs : List ℕ). whole.xs ++ zs) none ∙ append-nil whole.xs) in
      record { told = subst (Told f) (sym all) whole.is; end_ = last }

  pub read_version : (f : Fields) (end : ℕ) → fields bytes 0 ≡ answer f end → (version_in bytes ≡ 1) ⊎ (version_in bytes ≡ 2)
  read_version f end e =
      let w = (whole_read f end e).told in
      let is : w.version ≡ version_in bytes = sym (ap version_in w.is ∙ says w.version f w.known) in
      subst (λ (v : ℕ). (v ≡ 1) ⊎ (v ≡ 2)) is w.known

  pub read_is_text : (f : Fields) (end : ℕ) → fields bytes 0 ≡ answer f end → (bytes ≡ fields_text (version_in bytes) f) × (end ≡ length bytes)
  read_is_text f end e =
      let r = whole_read f end e in
      let w = r.told in
      let is : version_in bytes ≡ w.version = ap version_in w.is ∙ says w.version f w.known in
      (w.is ∙ ap (λ (v : ℕ). fields_text v f) (sym is), r.end_)
