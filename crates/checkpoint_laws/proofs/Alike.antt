-- States that are the same have one text of a checkpoint.
use Rattle.std.proofs.Common.{◌≡◌, ℕ, ◌+◌, cond, List, [], ◌∷◌, ◌++◌, length, refl, ap, ◌∙◌}
use Rattle.std.specs.Prelude.{Contains}
use Rattle.py_heap.specs.declared.state.State.{State}
use Rattle.py_heap.specs.References.{IsClosed}
use Rattle.py_machine.specs.Runs.{Name}
use Rattle.py_laws.specs.Same.{Same, SameStates}
use Rattle.graph_model.specs.declared.graph.Version.{Version}
use Rattle.graph_model.specs.declared.graph.Graph.{Graph}
use Rattle.graph_model.specs.declared.plan.Plan.{Plan}
use Rattle.part_bytes.specs.declared.part.PartValue.{PartValue}
use Rattle.part_bytes.specs.Parts.{part_of}
use Rattle.part_bytes.specs.Tables.{with_texts}
use Rattle.part_bytes.specs.Texts.{four, text_bytes, by_number, spelled_part}
use Rattle.part_bytes.specs.Uses.{texts_of}
use Rattle.replay_laws.proofs.PartsAlike.{one_part}
use Rattle.checkpoint_bytes.specs.Texts.{lists, plain_version_bytes, each_from, head_bytes, table_bytes, cells_bytes, versions_bytes, codes_of, copied_texts, table_of, checkpoint_text, checkpoint_text1}

-- what is made of versions one by one is the same if it is of each
each_alike : {A : Type 0} (f g : ℕ → Version → List A) → ((n : ℕ) (x : Version) → f n x ≡ g n x) → (n : ℕ) (xs : List Version) → each_from f n xs ≡ each_from g n xs
each_alike f g same n [] = refl
each_alike {A = A} f g same n (x ∷ xs) =
    ap (λ (ys : List A). ys ++ each_from f (n + 1) xs) (same n x) ∙ ap (λ (ys : List A). g n x ++ ys) (each_alike f g same (n + 1) xs)

module _ (s t : State) (closed : IsClosed s) (other : IsClosed t) (same : SameStates s t) where
  -- ---- the parts

  over : (names : List Name) → Same (Contains names) s t
  over names = record {
    by = same.names.by;
    same = record { pairs = same.names.same.pairs; names = λ name c. same.names.same.names name tt; objects = same.names.same.objects };
  }

  part_alike : (names : List Name) → part_of s names ≡ part_of t names
  part_alike names = one_part names s t closed other (over names)

  -- ---- the versions and the texts

  module _ (plan : Plan) where
    versions_alike : (spell : List ℕ → List ℕ) (versions : List Version) → versions_bytes spell s plan versions ≡ versions_bytes spell t plan versions
    versions_alike spell versions =
        let of : State → ℕ → Version → List ℕ = λ u n x. plain_version_bytes (lists plan.copied n) x ++ cond (lists plan.copied n) (spelled_part spell (part_of u x.names)) [] in
        ap (λ (ys : List ℕ). four (length versions) ++ ys)
        (each_alike (of s) (of t) (λ n x. ap (λ (part : PartValue). plain_version_bytes (lists plan.copied n) x ++ cond (lists plan.copied n) (spelled_part spell part) []) (part_alike x.names)) 1 versions)

    copied_alike : (versions : List Version) → each_from (copied_texts s plan) 1 versions ≡ each_from (copied_texts t plan) 1 versions
    copied_alike versions = each_alike (copied_texts s plan) (copied_texts t plan) (λ n x. ap (λ (part : PartValue). cond (lists plan.copied n) (texts_of part) []) (part_alike x.names)) 1 versions

    -- ---- the whole text

    module _ (graph : Graph) where
      pub table_alike : table_of s graph plan ≡ table_of t graph plan
      table_alike = ap (λ (ts : List (List ℕ)). with_texts [] (codes_of graph.cells ++ ts)) (copied_alike graph.versions)

      abbrev whole1 : ℕ → ℕ → List ℕ → List ℕ
      whole1 count meter versions = head_bytes 1 count meter ++ cells_bytes text_bytes plan graph.cells ++ versions

      pub one_checkpoint_text1 : checkpoint_text1 s graph plan ≡ checkpoint_text1 t graph plan
      one_checkpoint_text1 =
          ap (λ (count : ℕ). whole1 count s.meter (versions_bytes text_bytes s plan graph.versions)) same.count
          ∙ (ap (λ (meter : ℕ). whole1 t.count meter (versions_bytes text_bytes s plan graph.versions)) same.meter
          ∙ ap (whole1 t.count t.meter) (versions_alike text_bytes graph.versions))

      abbrev whole2 : List (List ℕ) → ℕ → ℕ → List ℕ → List ℕ
      whole2 table count meter versions = head_bytes 2 count meter ++ table_bytes table ++ cells_bytes (by_number table) plan graph.cells ++ versions

      pub one_checkpoint_text : checkpoint_text s graph plan ≡ checkpoint_text t graph plan
      one_checkpoint_text =
          ap (λ (table : List (List ℕ)). whole2 table s.count s.meter (versions_bytes (by_number table) s plan graph.versions)) table_alike
          ∙ (ap (λ (count : ℕ). whole2 (table_of t graph plan) count s.meter (versions_bytes (by_number (table_of t graph plan)) s plan graph.versions)) same.count
          ∙ (ap (λ (meter : ℕ). whole2 (table_of t graph plan) t.count meter (versions_bytes (by_number (table_of t graph plan)) s plan graph.versions)) same.meter
          ∙ ap (whole2 (table_of t graph plan) t.count t.meter) (versions_alike (by_number (table_of t graph plan)) graph.versions)))
