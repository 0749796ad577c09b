-- The checkpoint that a text is read as.
use Rattle.std.proofs.Common.{map, ◌≡◌, ℕ, ◌+◌, ◌<◌, ◌≤◌, ◌^◌, List, [], ◌∷◌, ◌++◌, length, Ok, refl, sym, ap, ◌∙◌, subst, arith}
use Rattle.std.specs.Prelude.{Contains, ◌-◌}
use Rattle.std.proofs.lemmas.Option.{slice_get_within}
use Rattle.std.proofs.lemmas.List.{append_assoc}
use Rattle.graph_model.specs.declared.graph.Graph.{Graph}
use Rattle.graph_model.specs.declared.plan.Plan.{Plan}
use Rattle.graph_model.specs.Faults.{IsGraph}
use Rattle.graph_model.specs.Plans.{NamesOf, IsFeasible}
use Rattle.py_heap.specs.declared.state.State.{State}
use Rattle.part_bytes.specs.declared.part.PartValue.{PartValue}
use Rattle.part_bytes.specs.Texts.{four as four_bytes, text_bytes, by_number}
use Rattle.checkpoint_bytes.specs.Texts.{head_bytes, table_bytes, cells_bytes, versions_bytes, uses, table_of, checkpoint_text, checkpoint_text1}
use Rattle.checkpoint_reader.specs.declared.forms.Texts.TheVariants.{InPlace, Numbered}
use Rattle.checkpoint_reader.specs.declared.fields.Cells.{Cells}
use Rattle.checkpoint_reader.specs.declared.fields.Versions.{Versions}
use Rattle.checkpoint_reader.specs.declared.fields.Fields.{Fields}
use Rattle.checkpoint_reader.specs.Reads.{Answer}
use Rattle.checkpoint_reader.specs.Fields.{letters, fields}
use Rattle.checkpoint_reader.specs.Judging.{IsAnswer}
use Rattle.checkpoint_laws.specs.Spelled.{HasText1, IsLike, EachCopied, part_at, checkpoint_for}
use Rattle.checkpoint_laws.proofs.Listed.{AreListed, listed_all, counts_all}
use Rattle.checkpoint_laws.proofs.Steps.{off_format1, off_format2}
use Rattle.checkpoint_laws.proofs.Records.{grouped}
use Rattle.checkpoint_laws.proofs.TableOff.{off_no_table, off_table}
use Rattle.checkpoint_laws.proofs.Whole.{read_whole, cells_read, versions_read}
use Rattle.checkpoint_laws.proofs.Used.{uses_are_texts}
use Rattle.checkpoint_laws.proofs.Marked.{listed, all_listed, parts_from, parts_are, versions_of}

module _ (s : State) (g : Graph) (p : Plan) (h : HasText1 s g p) (names : NamesOf g p) (like : EachCopied g p (IsLike s)) where
  rerun_within : (c : ℕ) → Contains p.rerun c → (1 ≤ c) × (c < 1 + length g.cells)
  rerun_within c k =
      let x = names.rerun c k in
      let first = x.1.0 in
      let l = slice_get_within g.cells (c - 1) x.0 x.1.1 in
      (omega (arith, first), omega (arith, first, l))

  copied_within : (v : ℕ) → Contains p.copied v → (1 ≤ v) × (v < 1 + length g.versions)
  copied_within v k =
      let x = names.copied v k in
      let first = x.1.0.0 in
      let l = slice_get_within g.versions (v - 1) x.0 x.1.0.1 in
      (omega (arith, first), omega (arith, first, l))

  rerun_listed : listed p.rerun 1 (length g.cells) ≡ p.rerun
  rerun_listed = all_listed (length g.cells) 1 p.rerun names.rerun_ascends (λ c k. (rerun_within c k).0) (λ c k. (rerun_within c k).1)

  copied_listed : listed p.copied 1 (length g.versions) ≡ p.copied
  copied_listed = all_listed (length g.versions) 1 p.copied names.copied_ascends (λ v k. (copied_within v k).0) (λ v k. (copied_within v k).1)

  parts_listed : parts_from s p 1 g.versions ≡ map (part_at s g) p.copied
  parts_listed = parts_are s g p ∙ ap (λ (ns : List ℕ). map (part_at s g) ns) copied_listed

  -- what is read of these bytes, but for how many texts are known between
  pub record Exactly (bytes : List ℕ) : Type 0 where
    pub mid : ℕ
    pub last : ℕ
    pub is : fields bytes 0
        ≡ Ok (
          record {
            count = s.count;
            meter = s.meter;
            cells = record { records = g.cells; rerun = p.rerun; known = mid };
            versions = versions_of g.versions p.copied (map (part_at s g) p.copied) last;
          },
          length bytes,
        )

  exactly : (bytes : List ℕ) (mid last : ℕ) → fields bytes 0 ≡ Ok (record { count = s.count; meter = s.meter; cells = cells_read p g mid; versions = versions_read s p g last }, length bytes) → Exactly bytes
  exactly bytes mid last e =
      let cells_so : List ℕ → Cells = λ ns. record { records = g.cells; rerun = ns; known = mid } in
      let answer_of : Cells → Versions → Answer Fields = λ cs vs. Ok (record { count = s.count; meter = s.meter; cells = cs; versions = vs }, length bytes) in
      record {
        mid = mid;
        last = last;
        is = e ∙ (ap (λ (ns : List ℕ). answer_of (cells_so ns) (versions_read s p g last)) rerun_listed
            ∙ (ap (λ (ns : List ℕ). answer_of (cells_so p.rerun) (versions_of g.versions ns (parts_from s p 1 g.versions) last)) copied_listed
            ∙ ap (λ (ps : List PartValue). answer_of (cells_so p.rerun) (versions_of g.versions p.copied ps last)) parts_listed));
      }

  as_session : (bytes : List ℕ) → Exactly bytes → IsGraph g → IsFeasible g p → IsAnswer (fields bytes 0) (Ok (checkpoint_for s g p))
  as_session bytes x graph feasible = subst (λ (a : Answer Fields). IsAnswer a (Ok (checkpoint_for s g p))) (sym x.is) (refl, graph, refl, names, feasible)

  -- version 1
  pub read_exactly1 : Exactly (checkpoint_text1 s g p)
  read_exactly1 =
      let bytes : List ℕ = checkpoint_text1 s g p in
      let F : List ℕ = 0 ∷ 1 ∷ [] in
      let head : List ℕ = head_bytes 1 s.count s.meter in
      let cs : List ℕ = cells_bytes text_bytes p g.cells in
      let vs : List ℕ = versions_bytes text_bytes s p g.versions in
      let right : bytes ≡ letters ++ (F ++ (four_bytes s.count ++ (four_bytes s.meter ++ (cs ++ vs)))) = append_assoc head cs vs ∙ grouped letters F (four_bytes s.count) (four_bytes s.meter) (cs ++ vs) in
      exactly bytes _ 0 (read_whole bytes 1 InPlace tt F [] 0 (off_format1 bytes) (λ at s. off_no_table bytes at) s g p h like refl tt right)

  -- version 2
  pub read_exactly : length (table_of s g p) < 2 ^ 32 → Exactly (checkpoint_text s g p)
  read_exactly few =
      let bytes : List ℕ = checkpoint_text s g p in
      let table : List (List ℕ) = table_of s g p in
      let F : List ℕ = 0 ∷ 2 ∷ [] in
      let T : List ℕ = table_bytes table in
      let head : List ℕ = head_bytes 2 s.count s.meter in
      let cs : List ℕ = cells_bytes (by_number table) p g.cells in
      let vs : List ℕ = versions_bytes (by_number table) s p g.versions in
      let ok : AreListed table = listed_all (uses s g p) (uses_are_texts s g p h) few in
      let right : bytes ≡ letters ++ (F ++ (four_bytes s.count ++ (four_bytes s.meter ++ (T ++ (cs ++ vs))))) =
      append_assoc (head ++ T) cs vs ∙ (append_assoc head T (cs ++ vs) ∙ grouped letters F (four_bytes s.count) (four_bytes s.meter) (T ++ (cs ++ vs))) in
      exactly bytes _ (length table) (read_whole bytes 2 (Numbered table) ok F T (length table) (off_format2 bytes) (λ at s. off_table bytes table at ok s) s g p h like
      (counts_all (uses s g p) table refl) (let l : length table ≤ length table = omega arith in l) right)

  pub answer_is1 : IsGraph g → IsFeasible g p → IsAnswer (fields (checkpoint_text1 s g p) 0) (Ok (checkpoint_for s g p))
  answer_is1 graph feasible = as_session (checkpoint_text1 s g p) read_exactly1 graph feasible

  pub answer_is : length (table_of s g p) < 2 ^ 32 → IsGraph g → IsFeasible g p → IsAnswer (fields (checkpoint_text s g p) 0) (Ok (checkpoint_for s g p))
  answer_is few graph feasible = as_session (checkpoint_text s g p) (read_exactly few) graph feasible
