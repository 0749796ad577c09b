-- A checkpoint is read off its text, in both versions.
use Rattle.std.proofs.Common.{◌≡◌, ℕ, ◌+◌, ◌<◌, ◌^◌, true, List, [], ◌∷◌, ◌++◌, length, Some, None, refl, sym, ap, ◌∙◌, subst, arith}
use Rattle.std.specs.Prelude.{slice_get}
use Rattle.std.specs.Option.{unwrap_or}
use Rattle.std.proofs.lemmas.Bool.{eq-eqb}
use Rattle.std.proofs.lemmas.Option.{slice_get_past}
use Rattle.std.proofs.lemmas.List.{append-nil, append_assoc, length-append}
use Rattle.graph_model.specs.declared.graph.Graph.{Graph}
use Rattle.graph_model.specs.declared.plan.Plan.{Plan}
use Rattle.py_heap.specs.declared.state.State.{State}
use Rattle.part_bytes.specs.Tables.{with_texts}
use Rattle.part_bytes.specs.Texts.{four as four_bytes, text_bytes, by_number}
use Rattle.checkpoint_bytes.specs.Texts.{head_bytes, table_bytes, cells_bytes, versions_bytes, codes_of, copied_texts, each_from, uses, table_of, checkpoint_text1, checkpoint_text}
use Rattle.checkpoint_reader.specs.declared.forms.Texts.{Texts}
use Rattle.checkpoint_reader.specs.declared.forms.Texts.TheVariants.{InPlace, Numbered}
use Rattle.checkpoint_reader.specs.declared.fields.Table.{Table}
use Rattle.checkpoint_reader.specs.declared.fields.Cells.{Cells}
use Rattle.checkpoint_reader.specs.declared.fields.Versions.{Versions}
use Rattle.checkpoint_reader.specs.declared.fields.Fields.{Fields}
use Rattle.checkpoint_reader.specs.Reads.{Answer, Read, after, turns}
use Rattle.checkpoint_reader.specs.Fields.{letters, begins, magic, format, four, at_most, table, cells, versions, next_cell, next_version, no_cells, no_versions, all_used, ended, fields}
use Rattle.checkpoint_laws.specs.SpelledParts.{counted}
use Rattle.checkpoint_laws.specs.Spelled.{HasText1, EachCopied, IsLike}
use Rattle.checkpoint_laws.proofs.Counts.{spell_of, numbers_of, numbers_join, counted_parts, counted_grows, AreThere, there_before}
use Rattle.checkpoint_laws.proofs.Listed.{IsTable}
use Rattle.checkpoint_laws.proofs.Offs.{Stands, stands_first, stands_next}
use Rattle.checkpoint_laws.proofs.Steps.{answer, Off, off_then, off_taken, off_four, off_at_most}
use Rattle.checkpoint_laws.proofs.Copied.{each_copied}
use Rattle.checkpoint_laws.proofs.Marked.{listed, parts_from, versions_of}
use Rattle.checkpoint_laws.proofs.Records.{grouped, off_cells, off_versions}
use Rattle.checkpoint_laws.proofs.TableOff.{TableRead}

begins_so : (rest : List ℕ) → begins (letters ++ rest) ≡ true
begins_so rest = refl

-- what is read of cells and versions, with so many texts referred to
abbrev pub cells_read : Plan → Graph → ℕ → Cells
cells_read p g known = record { records = g.cells; rerun = listed p.rerun 1 (length g.cells); known = known }

abbrev pub versions_read : State → Plan → Graph → ℕ → Versions
versions_read s p g known = versions_of g.versions (listed p.copied 1 (length g.versions)) (parts_from s p 1 g.versions) known

module _ (bytes : List ℕ) where
  off_magic : (rest : List ℕ) → bytes ≡ letters ++ rest → Stands bytes 0 letters → magic bytes 0 ≡ answer letters 4
  unfolding magic
  off_magic rest e s = let yes : begins bytes ≡ true = ap begins e ∙ begins_so rest in rw yes (off_taken bytes 0 4 letters refl 0 s)

  -- a step, and then the next one
  go : {A B : Type 0} (m : Read A) (f : A → Read B) (xs ys : List ℕ) (a : A) → Off bytes m xs a → (at : ℕ) → Stands bytes at (xs ++ ys) → after (m at) f ≡ f a (at + length xs)
  go {A = A} m f xs ys a h at s = ap (λ (r : Answer A). after r f) (h at (stands_first bytes at xs ys s))

  -- ---- the steps after each field

  last_of : ℕ → ℕ → Table → Cells → Versions → Read Fields
  last_of count meter t cs vs at = after (all_used (slice_get t.places vs.known) (record { count = count; meter = meter; cells = cs; versions = vs }) at) (ended bytes)

  then_versions : ℕ → ℕ → Table → Cells → Read Fields
  then_versions count meter t cs at = after (versions bytes t.texts cs.known at) (last_of count meter t cs)

  then_cells : ℕ → ℕ → Table → Read Fields
  then_cells count meter t at = after (cells bytes t.texts at) (then_versions count meter t)

  then_table : ℕ → ℕ → ℕ → Read Fields
  then_table version count meter at = after (table bytes version at) (then_cells count meter)

  then_meter : ℕ → ℕ → Read Fields
  then_meter version count at = after (at_most bytes 16777216 at) (then_table version count)

  then_count : ℕ → Read Fields
  then_count version at = after (four bytes at) (then_meter version)

  then_format : List ℕ → Read Fields
  then_format first at = after (format bytes at) then_count

  -- ---- in one of the versions

  module _ (version : ℕ) (texts : Texts) (ok : IsTable texts) (F T : List ℕ) (size : ℕ) (is_format : Off bytes (format bytes) F version) (is_table : (at : ℕ) → Stands bytes at T → TableRead bytes version texts size T at)
      (s : State) (g : Graph) (p : Plan) (h : HasText1 s g p) (like : EachCopied g p (IsLike s)) (used : counted 0 (numbers_of texts (uses s g p)) ≡ Some size) (room : AreThere texts size) where
    abbrev C : List ℕ
    C = four_bytes s.count

    abbrev M : List ℕ
    M = four_bytes s.meter

    abbrev Cs : List ℕ
    Cs = cells_bytes (spell_of texts) p g.cells

    abbrev Vs : List ℕ
    Vs = versions_bytes (spell_of texts) s p g.versions

    module _ (is : bytes ≡ letters ++ (F ++ (C ++ (M ++ (T ++ (Cs ++ Vs)))))) where
      -- how many texts are referred to after the cells
      pub record Between : Type 0 where
        pub mid : ℕ
        pub first : counted 0 (numbers_of texts (codes_of g.cells)) ≡ Some mid
        pub rest : counted mid (numbers_of texts (each_from (copied_texts s p) 1 g.versions)) ≡ Some size
        pub there : AreThere texts mid

      pub between : Between
      between =
          let codes : List (List ℕ) = codes_of g.cells in
          let more : List (List ℕ) = each_from (copied_texts s p) 1 g.versions in
          let by = counted_parts (numbers_of texts codes) (numbers_of texts more) 0 size (sym (ap (λ (ns : List ℕ). counted 0 ns) (numbers_join texts codes more)) ∙ used) in
          record { mid = by.mid; first = by.first; rest = by.rest; there = there_before texts by.mid size (counted_grows (numbers_of texts more) by.mid size by.rest) room }

      off_all_cells : Off bytes (cells bytes texts) Cs (cells_read p g between.mid)
      unfolding cells
      off_all_cells = off_then bytes (four bytes) (λ n. turns (next_cell bytes texts) n no_cells) (four_bytes (length g.cells)) _ (length g.cells) (cells_read p g between.mid)
          (off_four bytes (length g.cells) h.few_cells) (off_cells texts ok bytes p g.cells no_cells 1 between.mid refl h.cells between.first between.there)

      off_all_versions : Off bytes (versions bytes texts between.mid) Vs (versions_read s p g size)
      unfolding versions
      off_all_versions = off_then bytes (four bytes) (λ n. turns (next_version bytes texts) n (no_versions between.mid)) (four_bytes (length g.versions)) _ (length g.versions) (versions_read s p g size)
          (off_four bytes (length g.versions) h.few_versions)
          (off_versions texts ok bytes s p g.versions [] [] [] between.mid 1 size refl h.versions (each_copied g p _ h.parts) (each_copied g p (IsLike s) like) between.rest room)

      pub read_whole : fields bytes 0 ≡ answer (record { count = s.count; meter = s.meter; cells = cells_read p g between.mid; versions = versions_read s p g size }) (length bytes)
      unfolding fields ended last_of then_versions then_cells then_table then_meter then_count then_format
      read_whole =
          let s0 : Stands bytes 0 (letters ++ (F ++ (C ++ (M ++ (T ++ (Cs ++ Vs)))))) = record { front = []; rest = []; is = is ∙ sym (append-nil _); where_ = refl } in
          let p1 : ℕ = 0 + length letters in
          let s1 : Stands bytes p1 (F ++ (C ++ (M ++ (T ++ (Cs ++ Vs))))) = stands_next bytes 0 letters (F ++ (C ++ (M ++ (T ++ (Cs ++ Vs))))) s0 in
          let p2 : ℕ = p1 + length F in
          let s2 : Stands bytes p2 (C ++ (M ++ (T ++ (Cs ++ Vs)))) = stands_next bytes p1 F (C ++ (M ++ (T ++ (Cs ++ Vs)))) s1 in
          let p3 : ℕ = p2 + length C in
          let s3 : Stands bytes p3 (M ++ (T ++ (Cs ++ Vs))) = stands_next bytes p2 C (M ++ (T ++ (Cs ++ Vs))) s2 in
          let p4 : ℕ = p3 + length M in
          let s4 : Stands bytes p4 (T ++ (Cs ++ Vs)) = stands_next bytes p3 M (T ++ (Cs ++ Vs)) s3 in
          let p5 : ℕ = p4 + length T in
          let s5 : Stands bytes p5 (Cs ++ Vs) = stands_next bytes p4 T (Cs ++ Vs) s4 in
          let p6 : ℕ = p5 + length Cs in
          let s6 : Stands bytes p6 Vs = stands_next bytes p5 Cs Vs s5 in
          let p7 : ℕ = p6 + length Vs in
          let whole : length bytes ≡ length (letters ++ (F ++ (C ++ (M ++ (T ++ (Cs ++ Vs)))))) = ap (λ (zs : List ℕ). length zs) is in
          let l1 = length-append letters (F ++ (C ++ (M ++ (T ++ (Cs ++ Vs))))) in
          let l2 = length-append F (C ++ (M ++ (T ++ (Cs ++ Vs)))) in
          let l3 = length-append C (M ++ (T ++ (Cs ++ Vs))) in
          let l4 = length-append M (T ++ (Cs ++ Vs)) in
          let l5 = length-append T (Cs ++ Vs) in
          let l6 = length-append Cs Vs in
          let end : p7 ≡ length bytes = omega (arith, whole, l1, l2, l3, l4, l5, l6) in
          let t = is_table p4 (stands_first bytes p4 T (Cs ++ Vs) s4) in
          let all : Table = record { texts = texts; places = t.places } in
          let none : slice_get t.places size ≡ None = slice_get_past t.places size (let k = t.many in omega (arith, k)) in
          let cs : Cells = cells_read p g between.mid in
          let vs : Versions = versions_read s p g size in
          let read : Fields = record { count = s.count; meter = s.meter; cells = cs; versions = vs } in
          ap (λ (r : Answer (List ℕ)). after r then_format) (off_magic (F ++ (C ++ (M ++ (T ++ (Cs ++ Vs))))) is (stands_first bytes 0 letters (F ++ (C ++ (M ++ (T ++ (Cs ++ Vs))))) s0))
          ∙ (go (format bytes) then_count F (C ++ (M ++ (T ++ (Cs ++ Vs)))) version is_format p1 s1
          ∙ (go (four bytes) (then_meter version) C (M ++ (T ++ (Cs ++ Vs))) s.count (off_four bytes s.count h.count) p2 s2
          ∙ (go (at_most bytes 16777216) (then_table version s.count) M (T ++ (Cs ++ Vs)) s.meter (off_at_most bytes 16777216 s.meter h.meter (let l = h.meter in omega (arith, l))) p3 s3
          ∙ (ap (λ (r : Answer Table). after r (then_cells s.count s.meter)) t.off
          ∙ (go (cells bytes texts) (then_versions s.count s.meter all) Cs Vs cs off_all_cells p5 s5
          ∙ (ap (λ (r : Answer Versions). after r (last_of s.count s.meter all cs)) (off_all_versions p6 s6)
          ∙ (rw none (rw (eq-eqb p7 (length bytes) end) (ap (λ (k : ℕ). answer read k) end)))))))))
