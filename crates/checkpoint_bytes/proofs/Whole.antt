-- The head, the table, the cells and the versions, as they are written, are the text of the checkpoint.
use Rattle.std.proofs.Common.{◌≡◌, ℕ, List, ◌++◌, Option, ap, ◌∙◌, subst}
use Rattle.graph_model.specs.declared.graph.CellRecord.{CellRecord}
use Rattle.graph_model.specs.declared.graph.Version.{Version}
use Rattle.graph_model.specs.declared.graph.Graph.{Graph}
use Rattle.graph_model.specs.declared.plan.Plan.{Plan}
use Rattle.py_heap.specs.declared.state.State.{State}
use Rattle.nb_outside.specs.Streams.{Adds}
use Rattle.part_bytes.specs.Texts.{by_number}
use Rattle.checkpoint_bytes.specs.Texts.{head_bytes, table_bytes, cells_bytes, versions_bytes, table_of, checkpoint_text}
use Rattle.checkpoint_bytes.proofs.Written.{AddsFront, WritesSoFar, put, put_front, front_first, all_written, first_written}

module _ (s : State) (g : Graph) (p : Plan) (held : List ℕ) (texts : List (List ℕ)) (cells : List CellRecord) (versions : List Version)
    (begun : held ≡ head_bytes 2 s.count s.meter) (table : texts ≡ table_of s g p) (are_cells : cells ≡ g.cells) (are_versions : versions ≡ g.versions) where
  whole : ((held ++ table_bytes texts) ++ cells_bytes (by_number texts) p cells) ++ versions_bytes (by_number texts) s p versions ≡ checkpoint_text s g p
  whole =
      ap (λ (h : List ℕ). ((h ++ table_bytes texts) ++ cells_bytes (by_number texts) p cells) ++ versions_bytes (by_number texts) s p versions) begun
      ∙ (ap (λ (ts : List (List ℕ)). ((head_bytes 2 s.count s.meter ++ table_bytes ts) ++ cells_bytes (by_number ts) p cells) ++ versions_bytes (by_number ts) s p versions) table
      ∙ (ap (λ (cs : List CellRecord). ((head_bytes 2 s.count s.meter ++ table_bytes (table_of s g p)) ++ cells_bytes (by_number (table_of s g p)) p cs) ++ versions_bytes (by_number (table_of s g p)) s p versions) are_cells
      ∙ ap (λ (vs : List Version). ((head_bytes 2 s.count s.meter ++ table_bytes (table_of s g p)) ++ cells_bytes (by_number (table_of s g p)) p g.cells) ++ versions_bytes (by_number (table_of s g p)) s p vs) are_versions))

  -- a fault at the table
  pub front_of_table : (old new : Option (List ℕ)) → AddsFront old new (held ++ table_bytes texts) → AddsFront old new (checkpoint_text s g p)
  front_of_table old new front =
      subst (AddsFront old new) whole
      (front_first old new ((held ++ table_bytes texts) ++ cells_bytes (by_number texts) p cells) (versions_bytes (by_number texts) s p versions)
      (front_first old new (held ++ table_bytes texts) (cells_bytes (by_number texts) p cells) front))

  module _ (old one : Option (List ℕ)) (held1 : List ℕ) (w1 : WritesSoFar old one (held ++ table_bytes texts) held1) where
    -- a fault at the cells
    pub front_of_cells : (new : Option (List ℕ)) → AddsFront one new (held1 ++ cells_bytes (by_number texts) p cells) → AddsFront old new (checkpoint_text s g p)
    front_of_cells new front =
        subst (AddsFront old new) whole
        (front_first old new ((held ++ table_bytes texts) ++ cells_bytes (by_number texts) p cells) (versions_bytes (by_number texts) s p versions)
        (put_front old one new (held ++ table_bytes texts) held1 (cells_bytes (by_number texts) p cells) w1 front))

    module _ (two : Option (List ℕ)) (held2 : List ℕ) (w2 : WritesSoFar one two (held1 ++ cells_bytes (by_number texts) p cells) held2) where
      with_cells : WritesSoFar old two ((held ++ table_bytes texts) ++ cells_bytes (by_number texts) p cells) held2
      with_cells = put old one two (held ++ table_bytes texts) held1 (cells_bytes (by_number texts) p cells) held2 w1 w2

      -- a fault at the versions
      pub front_of_versions : (new : Option (List ℕ)) → AddsFront two new (held2 ++ versions_bytes (by_number texts) s p versions) → AddsFront old new (checkpoint_text s g p)
      front_of_versions new front =
          subst (AddsFront old new) whole
          (put_front old two new ((held ++ table_bytes texts) ++ cells_bytes (by_number texts) p cells) held2 (versions_bytes (by_number texts) s p versions) with_cells front)

      module _ (three : Option (List ℕ)) (held3 : List ℕ) (w3 : WritesSoFar two three (held2 ++ versions_bytes (by_number texts) s p versions) held3) where
        with_versions : WritesSoFar old three (checkpoint_text s g p) held3
        with_versions = subst (λ (zs : List ℕ). WritesSoFar old three zs held3) whole
            (put old two three ((held ++ table_bytes texts) ++ cells_bytes (by_number texts) p cells) held2 (versions_bytes (by_number texts) s p versions) held3 with_cells w3)

        pub all_is_written : (new : Option (List ℕ)) → Adds three new held3 → Adds old new (checkpoint_text s g p)
        all_is_written new adds = all_written old three new (checkpoint_text s g p) held3 with_versions adds

        -- a fault at the last
        pub front_of_all : (new : Option (List ℕ)) → AddsFront three new held3 → AddsFront old new (checkpoint_text s g p)
        front_of_all new front = first_written old three new (checkpoint_text s g p) held3 with_versions front
