-- Each step of the walk keeps the invariant: a cell passed over, a cell run again, a version given back.
use Rattle.std.proofs.Common.{◌≡◌, ℕ, suc, ◌<◌, ◌≤◌, List, [], ◌∷◌, length, Option, refl, sym, ap, ◌∙◌, ◌⊎◌, inl, inr, subst, arith}
use Rattle.std.specs.Prelude.{Contains, slice_get}
use Rattle.std.proofs.lemmas.Bool.{cases_eq}
use Rattle.py_heap.specs.declared.state.State.{State}
use Rattle.py_heap.specs.References.{IsClosed}
use Rattle.py_heap.specs.Reaching.{Reach}
use Rattle.py_machine.specs.Runs.{Name, Outcome}
use Rattle.py_laws.proofs.Closing.{closed_after}
use Rattle.py_laws.proofs.Sameness.{same_through}
use Rattle.py_laws.proofs.Partners.{none_in, one_in, first_in, later_in}
use Rattle.py_laws.proofs.Reached.{reached_live, has_number}
use Rattle.graph_model.specs.declared.graph.CellRecord.{CellRecord}
use Rattle.graph_model.specs.declared.graph.Version.{Version}
use Rattle.graph_model.specs.declared.graph.Graph.{Graph}
use Rattle.graph_model.specs.declared.plan.Plan.{Plan}
use Rattle.graph_model.specs.Graphs.{CellAt, VersionAt, IsActive}
use Rattle.graph_model.specs.Plans.{NamesOf, IsFeasible}
use Rattle.graph_model.proofs.Lookups.{same_version}
use Rattle.linked_parts.specs.Parts.{HasNone, Reaches}
use Rattle.run_graph.specs.Histories.{Run, Binds, HoldsAfter, IsRecord, IsHistory}
use Rattle.run_graph.specs.Soundness.{TreeReader, statements, done, StandsIn, IsRun, Follows, AreTheParts, HasItsReads, IsElsewhere, Repeats}
use Rattle.run_graph.proofs.Lists.{cons_cases}
use Rattle.run_graph.proofs.Reached.{reach_from_one, reach_by_one}
use Rattle.run_graph.proofs.Holding.{new_or_old, not_rewritten, the_parts}
use Rattle.run_graph.proofs.Checking.{named_bound}
use Rattle.run_graph.proofs.Repeating.{repeats_from_its_reads}
use Rattle.replay_laws.specs.Walks.{with_meter, done_again, Passes, IsLoaded, GivesBack, GivesAllBack}
use Rattle.replay_laws.specs.Copies.{AreCopies}
use Rattle.replay_laws.specs.Standing.{IsGivenBack, IsGood}
use Rattle.replay_laws.proofs.Staying.{untouched_back, stands_still, stands_with_meter, stands_from}
use Rattle.replay_laws.proofs.Times.{bound_of, held_of, same_at}
use Rattle.replay_laws.proofs.Loading.{unbinding_loads}

module _ (read : TreeReader) (r : Run) (g : Graph) (p : Plan) (run : IsRun r) (follows : Follows read r) (h : IsHistory r g) (names : NamesOf g p) (feasible : IsFeasible g p) where
  abbrev pub Kept : ℕ → Version → Type 0
  Kept v x = IsGivenBack p v x

  -- before the loads of the cell after cell c: what cells before wrote, and what it wrote itself if it is run again
  abbrev pub Before : ℕ → ℕ → Version → Type 0
  Before c v x = Kept v x × ((x.writer ≤ c) ⊎ Contains p.rerun (suc c))

  good_fewer : (c : ℕ) (Back Fewer : ℕ → Version → Type 0) (t : State) → ((v : ℕ) (x : Version) → HoldsAfter g c v x → Fewer v x → Back v x) → IsGood r g c Back t → IsGood r g c Fewer t
  good_fewer c Back Fewer t k good = record { closed = good.closed; stands = λ v x a f. good.stands v x a (k v x a f); never = good.never }

  module _ (c : ℕ) (l : c < r.cells) where
    parts_before : AreTheParts r g c
    parts_before = the_parts r run g h c (omega (arith, l))

    parts_after : AreTheParts r g (suc c)
    parts_after = the_parts r run g h (suc c) (omega (arith, l))

    -- a version that held before and holds on is in t as after the cell, if it is in t as before the cell
    still : (t : State) (v : ℕ) (x : Version) → HoldsAfter g (suc c) v x → HoldsAfter g c v x → StandsIn (r.state c) t x.names → StandsIn (r.state (suc c)) t x.names
    still t v x k old there = stands_from x.names (r.state (suc c)) (r.state c) t (same_at r run g h (suc c) c (omega (arith, l)) (omega (arith, l)) v x k old) there

    -- ---- a cell passed over

    pub skipped : (t : State) → ¬ Contains p.rerun (suc c) → IsGood r g c Kept t → IsGood r g (suc c) (Before c) t
    skipped t not_rerun good = record {
      closed = good.closed;
      stands = λ v x k b. elim (new_or_old r run g h c l v x k) [
        | inl e ↦ elim b.1 [
          | inl early ↦ let none : ⊥ = omega (arith, early, e) in absurd none
          | inr rerun ↦ absurd (not_rerun rerun)
        ]
        | inr old ↦ still t v x k old (good.stands v x old b.0)
      ];
      never = λ name none. good.never name (λ e less. none e (omega (arith, less)));
    }

    -- ---- a cell run again

    module _ (x : CellRecord) (at : CellAt g (suc c) x) (rerun : Contains p.rerun (suc c)) (t : State) (good : IsGood r g c Kept t) where
      record_of : IsRecord r g c x
      record_of = h.records c x at

      abbrev Start : State
      Start = with_meter t x.meter

      abbrev u : Outcome (Option (List ℕ))
      u = done_again read x t

      abbrev End : State
      End = u.1.state

      start_closed : IsClosed Start
      start_closed = record { names = good.closed.names; objects = good.closed.objects }

      start_stands : (v : ℕ) (y : Version) → HoldsAfter g c v y → Kept v y → StandsIn (r.state c) Start y.names
      start_stands v y k kept = stands_with_meter y.names (r.state c) t x.meter (run.closed c) good.closed (good.stands v y k kept)

      -- a version that the cell read held as it began, and is given back: it is active, or it was replaced
      read_holds : (v : ℕ) (y : Version) → VersionAt g v y → Contains x.reads v → HoldsAfter g c v y
      read_holds v y vt q = let w = (record_of.reads v).0 q in subst (HoldsAfter g c v) (same_version g v w.0 y w.1.at vt) w.1

      read_kept : (v : ℕ) (y : Version) → VersionAt g v y → Contains x.reads v → Kept v y
      read_kept v y vt q = elim (cases_eq y.replaced 0) [
        | inl e ↦ feasible.covered v y (vt, e)
        | inr gone ↦ inr (feasible.closed (suc c) y.writer rerun (x, v, y, at, q, vt, gone, refl))
      ]

      need : HasItsReads r g c x Start
      need = record {
        closed = start_closed;
        meter = refl;
        reads = λ v y q vt. start_stands v y (read_holds v y vt q) (read_kept v y vt q);
        missing = λ name m. good.never name ((record_of.missing name).0 m).1;
      }

      pub again : Repeats r g c x Start (done read r c) u
      again = repeats_from_its_reads read r g run follows h c l x Start at (feasible.no_draw (suc c) x rerun at) need

      -- ---- a version that the cell neither read nor wrote

      abbrev Touched : Name → Type 0
      Touched z = (v : ℕ) × (y : Version) × VersionAt g v y × (Contains x.reads v ⊎ (y.writer ≡ suc c)) × Contains y.names z

      elsewhere : (z : Name) → ¬ Touched z → IsElsewhere g c x z
      elsewhere z k v y vt why m = k (v, y, vt, why, m)

      module _ (v : ℕ) (y : Version) (k : HoldsAfter g (suc c) v y) (old : HoldsAfter g c v y) (unread : ¬ Contains x.reads v) where
        untouched : (z : Name) → Contains y.names z → ¬ Touched z
        untouched z n (q, w, wt, inl reads, m) =
            let e : v ≡ q = parts_before.disjoint v q y w z old (read_holds q w wt reads) n m in
            unread (subst (Contains x.reads) (sym e) reads)
        untouched z n (q, w, wt, inr wrote, m) = not_rewritten r run g h c l v y k old q w wt wrote z n m

        apart_from : (w : Version) → StandsIn (r.state (suc c)) End w.names → ((z : Name) → Contains w.names z → Touched z)
            → (b : Name) (a : ℕ) → Contains w.names b → Reach End y.names a → ¬ Reaches End b a
        apart_from w stands touch b a m q rb =
            let z = reach_from_one End y.names a q in
            stands.1 a (reach_by_one End w.names b a m rb) z.0 (λ n. untouched z.0 z.1 (touch z.0 n)) z.2

        from_written : (q : ℕ) (w : Version) → VersionAt g q w → w.writer ≡ suc c → (b : Name) (a : ℕ) → Contains w.names b → Reach End y.names a → ¬ Reaches End b a
        from_written q w wt e b a m r rb = apart_from w (again.wrote q w wt e) (λ z n. (q, w, wt, inr e, n)) b a m r rb

        -- a version read that holds on is there; the names of one that doesn't are names of versions that the cell wrote
        from_touched : (b : Name) (a : ℕ) → Touched b → Reach End y.names a → ¬ Reaches End b a
        from_touched b a (q, w, wt, inr e, m) near rb = from_written q w wt e b a m near rb
        from_touched b a (q, w, wt, inl reads, m) near rb =
            let holds : HoldsAfter g c q w = read_holds q w wt reads in
            let bound = bound_of r run g h c (omega (arith, l)) q w holds b m in
            let less = bound.1 in
            let now = held_of r run g h (suc c) (omega (arith, l)) b bound.0 (omega (arith, less)) bound.2 in
            elim (new_or_old r run g h c l now.0 now.1 now.2) [
              | inl e ↦ from_written now.0 now.1 now.2.at e b a now.3 near rb
              | inr before ↦
                  let e : q ≡ now.0 = parts_before.disjoint q now.0 w now.1 b holds before m now.3 in
                  let read_too : Contains x.reads now.0 = subst (Contains x.reads) e reads in
                  apart_from now.1 (again.read now.0 now.1 read_too now.2) (λ z n. (now.0, now.1, now.2.at, inl read_too, n)) b a now.3 near rb
            ]

        bystander : Kept v y → StandsIn (r.state (suc c)) End y.names
        bystander kept =
            still End v y k old
            (stands_still Touched Start End start_closed (λ z free. again.names_stay z (elsewhere z free)) (λ z free. again.objects_stay z (elsewhere z free))
            y.names untouched from_touched (r.state c) (run.closed c) (start_stands v y old kept))

      rerun_stands : (v : ℕ) (y : Version) → HoldsAfter g (suc c) v y → Kept v y → StandsIn (r.state (suc c)) End y.names
      rerun_stands v y k kept = elim (new_or_old r run g h c l v y k) [
        | inl e ↦ again.wrote v y k.at e
        | inr old ↦ elim (has_number x.reads v) [
          | inl reads ↦ again.read v y reads k
          | inr unread ↦ bystander v y k old unread kept
        ]
      ]

      -- a name that no cell bound so far is of no version read or written
      never_touched : (z : Name) → ((e : ℕ) → e < suc c → ¬ Binds r e z) → ¬ Touched z
      never_touched z none (q, w, wt, inl reads, m) =
          let b = bound_of r run g h c (omega (arith, l)) q w (read_holds q w wt reads) z m in
          let less = b.1 in
          none b.0 (omega (arith, less)) b.2
      never_touched z none (q, w, wt, inr e, m) =
          let b = named_bound r run g h q w wt z m in
          let less = b.1 in
          none b.0 (omega (arith, less, e)) b.2

      pub rerun_good : IsGood r g (suc c) (Before c) End
      rerun_good = record {
        closed = closed_after (statements (read x.code)) [] Start start_closed;
        stands = λ v y k b. rerun_stands v y k b.0;
        never = λ name none. again.names_stay name (elsewhere name (never_touched name none)) ∙ good.never name (λ e less. none e (omega (arith, less)));
      }

    pub passed : (t u : State) → Passes read g p (suc c) t u → IsGood r g c Kept t → IsGood r g (suc c) (Before c) u
    passed t u (inl (rerun, x, at, ends, e)) good = subst (IsGood r g (suc c) (Before c)) (sym e) (rerun_good x at rerun t good)
    passed t u (inr (not_rerun, e)) good = subst (IsGood r g (suc c) (Before c)) (sym e) (skipped t not_rerun good)

    -- ---- versions given back

    module _ (copy : ℕ → State) (copies : AreCopies g p (r.state r.cells) copy) where
      module _ (v : ℕ) (x : Version) (copied : Contains p.copied v) (vt : VersionAt g v x) (writes : x.writer ≡ suc c) where
        active : IsActive g v x
        active = let w = names.copied v copied in (vt, ap (λ (y : Version). y.replaced) (same_version g v x w.0 vt w.1.0) ∙ w.1.1)

        holds_at : (n : ℕ) → c < n → HoldsAfter g n v x
        holds_at n k = record { at = vt; written = omega (arith, writes, k); stands = inl active.1 }

        module _ (IsBack : ℕ → Version → Type 0) (t u : State) (gives : GivesBack copy v x t u) (good : IsGood r g (suc c) IsBack t) where
          is_loaded : IsLoaded x.names (r.state r.cells) t u
          is_loaded = elim gives [
            | inl w ↦ record {
              closed = w.1.closed;
              same = same_through (Contains x.names) (r.state r.cells) (copy v) u (copies v x copied vt w.0 (feasible.no_handle v x copied vt)).1 w.1.same;
              new = w.1.new;
              others = w.1.others;
              objects = w.1.objects;
              count = w.1.count;
              meter = w.1.meter;
            }
            | inr w ↦
                let d = (the_parts r run g h r.cells (omega arith)).are_deleted v x (holds_at r.cells l) w.0 in
                let none : HasNone (r.state r.cells) w.1 = subst (HasNone (r.state r.cells)) (one_in d.0 w.1 (subst (λ ns. Contains ns w.1) (sym w.2 ∙ d.1) (first_in w.1 []))) d.2 in
                subst (IsLoaded x.names (r.state r.cells) t) (sym w.3) (unbinding_loads (r.state r.cells) t good.closed x.names w.1 w.2 none)
          ]

          abbrev Own : Name → Type 0
          Own z = Contains x.names z

          spared : (z : Name) → ¬ Own z → (at : ℕ) → Reaches t z at → slice_get u.heap at ≡ slice_get t.heap at
          spared z out at q = is_loaded.objects at (reached_live t good.closed (z ∷ []) at q)

          -- what another name reaches is old, and what the version's names reach is new
          old : (z : Name) → ¬ Own z → (at : ℕ) → Reaches u z at → at < length t.heap
          old z out at q = reached_live t good.closed (z ∷ []) at (untouched_back Own t u good.closed is_loaded.others spared z out at q)

          -- the version at the end of the run is the version after the cell
          itself : StandsIn (r.state (suc c)) u x.names
          itself = (
            same_through (Contains x.names) (r.state (suc c)) (r.state r.cells) u
                (same_at r run g h (suc c) r.cells (omega (arith, l)) (omega arith) v x (holds_at (suc c) (omega arith)) (holds_at r.cells l)) is_loaded.same,
            λ at q z out rz.
                let low = old z out at rz in
                let high = is_loaded.new at q in
                omega (arith, low, high),
          )

          other : (w : ℕ) (y : Version) → HoldsAfter g (suc c) w y → (w ≡ v → ⊥) → StandsIn (r.state (suc c)) t y.names → StandsIn (r.state (suc c)) u y.names
          other w y k differ there =
              let free : (z : Name) → Contains y.names z → ¬ Own z = λ z n m. differ (parts_after.disjoint w v y x z k (holds_at (suc c) (omega arith)) n m) in
              stands_still Own t u good.closed is_loaded.others spared y.names free
              (λ b at m q rb.
              let z = reach_from_one u y.names at q in
              let low = old z.0 (free z.0 z.1) at z.2 in
              let high = is_loaded.new at (reach_by_one u x.names b at m rb) in
              omega (arith, low, high))
              (r.state (suc c)) (run.closed (suc c)) there

          pub given_good : IsGood r g (suc c) (λ w y. IsBack w y ⊎ (w ≡ v)) u
          given_good = record {
            closed = is_loaded.closed;
            stands = λ w y k b. elim (cases_eq w v) [
              | inl e ↦
                  let same : x ≡ y = same_version g v x y vt (subst (λ n. VersionAt g n y) e k.at) in
                  subst (λ (z : Version). StandsIn (r.state (suc c)) u z.names) same itself
              | inr differ ↦ elim b [ inl back ↦ other w y k differ (good.stands w y k back) | inr e ↦ absurd (differ e) ]
            ];
            never = λ name none.
                is_loaded.others name (λ m. let b = bound_of r run g h (suc c) (omega (arith, l)) v x (holds_at (suc c) (omega arith)) name m in none b.0 b.1 b.2)
                ∙ good.never name none;
          }

      -- what was back, and those of the list that the cell wrote
      abbrev Then : (ℕ → Version → Type 0) → List ℕ → ℕ → Version → Type 0
      Then IsBack vs w y = IsBack w y ⊎ (Contains vs w × (y.writer ≡ suc c))

      all_given : (vs : List ℕ) (IsBack : ℕ → Version → Type 0) (t u : State) → ((v : ℕ) → Contains vs v → Contains p.copied v) → GivesAllBack copy g (suc c) vs t u
          → IsGood r g (suc c) IsBack t → IsGood r g (suc c) (Then IsBack vs) u
      all_given [] IsBack t u within e good =
          subst (IsGood r g (suc c) (Then IsBack [])) (sym e)
          (good_fewer (suc c) IsBack (Then IsBack []) t (λ w y k f. elim f [ inl back ↦ back | inr n ↦ absurd (none_in w n.0) ]) good)
      all_given (v ∷ vs) IsBack t u within (x, m, vt, inl (writes, gives), more) good =
          let one = given_good v x (within v (first_in v vs)) vt writes IsBack t m gives good in
          good_fewer (suc c) (Then (λ w y. IsBack w y ⊎ (w ≡ v)) vs) (Then IsBack (v ∷ vs)) u
          (λ w y k f. elim f [
            | inl back ↦ inl (inl back)
            | inr n ↦ elim (cons_cases v vs w n.0) [ inl e ↦ inl (inr (sym e)) | inr later ↦ inr (later, n.1) ]
          ])
          (all_given vs (λ w y. IsBack w y ⊎ (w ≡ v)) m u (λ w n. within w (later_in v vs w n)) more one)
      all_given (v ∷ vs) IsBack t u within (x, m, vt, inr (differs, e), more) good =
          good_fewer (suc c) (Then IsBack vs) (Then IsBack (v ∷ vs)) u
          (λ w y k f. elim f [
            | inl back ↦ inl back
            | inr n ↦ elim (cons_cases v vs w n.0) [
              | inl same ↦
                  let is : x ≡ y = same_version g w x y (subst (λ i. VersionAt g i x) same vt) k.at in
                  absurd (differs (ap (λ (z : Version). z.writer) is ∙ n.1))
              | inr later ↦ inr (later, n.1)
            ]
          ])
          (all_given vs IsBack m u (λ w n. within w (later_in v vs w n)) more (subst (IsGood r g (suc c) IsBack) (sym e) good))

      pub after_loads : (t u : State) → GivesAllBack copy g (suc c) p.copied t u → IsGood r g (suc c) (Before c) t → IsGood r g (suc c) Kept u
      after_loads t u gives good =
          good_fewer (suc c) (Then (Before c) p.copied) Kept u
          (λ w y k kept. elim (new_or_old r run g h c l w y k) [
            | inr before ↦ inl (kept, inl before.written)
            | inl e ↦ elim kept [
              | inl copied ↦ inr (copied, e)
              | inr rerun ↦ inl (inr rerun, inr (subst (Contains p.rerun) e rerun))
            ]
          ])
          (all_given p.copied (Before c) t u (λ v n. n) gives good)
