-- What a session is written as.
use Rattle.std.proofs.Common.{◌≡◌, ℕ, suc, ◌+◌, ◌-◌, ◌<◌, ◌≤◌, ◌^◌, zero, ◌⊎◌, Bool, true, false, List, [], ◌∷◌, map, length, Option, Some, None, refl, ap, sym, ◌∙◌, subst, inl, inr, arith}
use Rattle.std.specs.Prelude.{All, Contains, slice_get}
use Rattle.std.specs.List.{AllZip, IsDistinct}
use Rattle.std.proofs.lemmas.Bool.{false≢true}
use Rattle.std.proofs.lemmas.List.Elements.{All-from_recursion}
use Rattle.std.proofs.lemmas.Option.{same_Some, slice_get_within, get_or_from_slice_get}
use Rattle.std.proofs.lemmas.Str.{is_utf8-from_IsUtf8, IsUtf8-nil}
use Rattle.py_names.specs.Names.{is_variable}
use Rattle.py_value.specs.declared.key.Key.{Key}
use Rattle.py_value.specs.declared.value.Value.{Value}
use Rattle.py_value.specs.Keys.{same_key}
use Rattle.py_heap.specs.declared.heap.Object.{Object}
use Rattle.py_heap.specs.declared.heap.Object.TheVariants as object
use Rattle.py_heap.specs.declared.state.State.{State}
use Rattle.py_heap.specs.Dicts.{Pairs}
use Rattle.py_heap.specs.References.{IsClosed}
use Rattle.py_heap.specs.Reaching.{Reach}
use Rattle.py_heap.specs.Valid.{IsValidObject}
use Rattle.py_machine.specs.Runs.{Name}
use Rattle.py_laws.specs.Same.{HasPair, Same, Every, ObjectsMatch, PairsMatch, Both}
use Rattle.py_laws.proofs.Partners.{one_in, reach_partner}
use Rattle.py_laws.proofs.Sameness.{same_turned}
use Rattle.reader_laws.specs.Texts.{IsItsText}
use Rattle.graph_model.specs.declared.graph.CellRecord.{CellRecord}
use Rattle.graph_model.specs.declared.graph.Version.{Version}
use Rattle.graph_model.specs.declared.graph.Graph.{Graph}
use Rattle.graph_model.specs.declared.plan.Plan.{Plan}
use Rattle.graph_model.specs.Graphs.{CellAt, VersionAt, IsActive}
use Rattle.graph_model.specs.Faults.{TextBelow, Ascends}
use Rattle.graph_model.specs.Plans.{NamesOf, IsFeasible}
use Rattle.linked_parts.specs.Parts.{HasNone}
use Rattle.run_graph.specs.Histories.{Run, IsHistory}
use Rattle.run_graph.specs.RunLists.{ListedCell, entry, state_after, run_of}
use Rattle.run_graph.proofs.Checking.{checks}
use Rattle.run_graph.proofs.Runs.{is_run}
use Rattle.run_graph.proofs.Weighing.{same_truth}
use Rattle.run_graph.specs.Parts.{HasHandle}
use Rattle.run_graph.proofs.Kept.{in_part_value}
use Rattle.run_graph.proofs.Reached.{reach_from_one, not_both}
use Rattle.every_history.specs.Reading.{read}
use Rattle.every_history.proofs.Names.{has_names}
use Rattle.part_bytes.specs.Parts.{part_of}
use Rattle.part_bytes.specs.Plain.{IsPlainPart}
use Rattle.replay_laws.proofs.PartsAlike.{one_part}
use Rattle.checkpoint_bytes.specs.Texts.{lists, checkpoint_text}
use Rattle.checkpoint_bytes.specs.Sessions.{IsWithinBounds, AreVersionsOf, TellsOf}
use Rattle.checkpoint_bytes.specs.Plain.{IsPlainCell, IsPlainVersion, IsPlainCheckpoint}
use Rattle.checkpoint_laws.proofs.Alike.{one_checkpoint_text, table_alike}
use Rattle.checkpoint_laws.specs.SpelledParts.{HasPartText}
use Rattle.part_copies.specs.Written.{IsWritable, CanBeWritten}
use Rattle.part_copies.proofs.Written.{part_is}
use Rattle.checkpoint_laws.specs.Spelled.{IsCode, IsName, IsCellRecord, IsVersion, EachCopied, HasText, HasText1}
use Rattle.replay_laws.specs.Restored.{HasVersions}
use Rattle.part_bytes.specs.Sizing.{holds_handle, have_values, size_of}
use Rattle.replay_laws.specs.Sessions.{StandsFor}
use Rattle.replay_laws.proofs.Ending.{same_over}
use Rattle.replay_laws.proofs.Sizing.{handle_told, tells_alike, no_size, one_has_none}
use Rattle.replay_laws.proofs.GoingOn.{versions_so, sizes_so}
use Rattle.notebook_meaning.specs.Cells.{unmoved}
use Rattle.notebook_meaning.specs.Codes.{HaveCodes}
use Rattle.notebook_meaning.specs.Notebooks.{IsGraphOf}
use Rattle.notebook_meaning.proofs.Validity.{valid_at, few_steps}
use Rattle.notebook_meaning.proofs.Names.{by_places, of_contained, at_position, listed, none_reached, name_of_identifier, identifier_of_variable}

-- ---- the text is that of each state that is the same

module _ (cells : List ListedCell) (g : Graph) (t : State) (stands : StandsFor read size_of cells g t) where
  abbrev U : State
  U = unmoved cells

  unmoved_closed : IsClosed U
  unmoved_closed = (is_run read cells size_of).closed (length cells)

  pub text_alike : (p : Plan) → checkpoint_text t g p ≡ checkpoint_text U g p
  text_alike p = sym (one_checkpoint_text U t unmoved_closed stands.closed stands.same p g)

-- ---- the objects are such as can be written

same_keys : (ps : ℕ → ℕ → Type 0) (xs ys : Pairs) → AllZip (PairsMatch ps) xs ys → map (λ (q : Key × Value). q.0) xs ≡ map (λ (q : Key × Value). q.0) ys
same_keys ps [] [] h = refl
same_keys ps (x ∷ xs) (y ∷ ys) h = ap (λ (k : Key). k ∷ map (λ (q : Key × Value). q.0) xs) h.0.0 ∙ ap (λ (ks : List Key). y.0 ∷ ks) (same_keys ps xs ys h.1)
same_keys ps [] (y ∷ ys) h = absurd h
same_keys ps (x ∷ xs) [] h = absurd h

writable_by : (ps : ℕ → ℕ → Type 0) (x : Object) (o : Option Object) → ((name : List ℕ) (uses : ℕ) → x ≡ object.Handle name uses → ⊥) → Both (ObjectsMatch ps) (Some x) o
    → ((y : Object) → o ≡ Some y → IsValidObject IsItsText y) → IsWritable x
writable_by ps x None free h valid = absurd h
writable_by ps (object.List items) (Some y) free h valid = tt
writable_by ps (object.Tuple items) (Some y) free h valid = tt
writable_by ps (object.Dict xs) (Some (object.Dict ys)) free h valid = subst (λ (ks : List Key). IsDistinct same_key ks) (sym (same_keys ps xs ys h)) (valid (object.Dict ys) refl)
writable_by ps (object.Function def) (Some (object.Function other)) free h valid = subst IsItsText (sym h) (valid (object.Function other) refl)
writable_by ps (object.Handle name uses) (Some y) free h valid = absurd (free name uses refl)
writable_by ps (object.Dict xs) (Some (object.List ys)) free h valid = absurd h
writable_by ps (object.Dict xs) (Some (object.Tuple ys)) free h valid = absurd h
writable_by ps (object.Dict xs) (Some (object.Function def)) free h valid = absurd h
writable_by ps (object.Dict xs) (Some (object.Handle name uses)) free h valid = absurd h
writable_by ps (object.Function def) (Some (object.List ys)) free h valid = absurd h
writable_by ps (object.Function def) (Some (object.Tuple ys)) free h valid = absurd h
writable_by ps (object.Function def) (Some (object.Dict ys)) free h valid = absurd h
writable_by ps (object.Function def) (Some (object.Handle name uses)) free h valid = absurd h

-- ---- what a history has

code_of_entry : (cells : List ListedCell) (n : ℕ) → HaveCodes cells → IsCode (entry cells n).code
code_of_entry [] n h = (is_utf8-from_IsUtf8 [] IsUtf8-nil, omega arith)
code_of_entry (e ∷ cells) zero h = h.0
code_of_entry (e ∷ cells) (suc n) h = code_of_entry cells n h.1

pub no_truth : (b : Bool) → (b ≡ true → ⊥) → b ≡ false
no_truth true h = absurd (h refl)
no_truth false h = refl

module _ (cells : List ListedCell) (codes : HaveCodes cells) (g : Graph) (of : IsGraphOf cells g) where
  abbrev R : Run
  R = run_of read size_of cells

  abbrev At : ℕ → State
  At n = state_after read cells n

  H : IsHistory R g
  H = of.history

  closed_at : (n : ℕ) → IsClosed (At n)
  closed_at n = (valid_at cells n codes).closed

  -- ---- names

  name_of_version : (v : ℕ) (x : Version) → VersionAt g v x → (name : Name) → Contains x.names name → is_variable name ≡ true
  name_of_version v x at name c =
      let w = H.versions v x at in
      elim w.3 [
        | inl part ↦ let held = in_part_value (At (suc w.0)) x.names part.1 name c in (valid_at cells (suc w.0) codes).names name held.0 held.1
        | inr gone ↦ subst (λ (z : Name). is_variable z ≡ true) (one_in gone.1 name (subst (λ (zs : List Name). Contains zs name) gone.2 c)) ((has_names size_of cells).bound w.0 gone.1 gone.3.0)
      ]

  some_name : (v : ℕ) (x : Version) → VersionAt g v x → 0 < length x.names
  some_name v x at =
      let w = H.versions v x at in
      elim w.3 [
        | inl part ↦ let l = part.1.some.1.1 in omega (arith, l)
        | inr gone ↦ subst (λ (zs : List Name). 0 < length zs) (sym gone.2) (omega arith)
      ]

  ascend : (v : ℕ) (x : Version) → VersionAt g v x → Ascends TextBelow x.names
  ascend v x at =
      let w = H.versions v x at in
      elim w.3 [ inl part ↦ part.1.ascends | inr gone ↦ subst (Ascends TextBelow) (sym gone.2) tt ]

  -- an absent version has one name, which has no value
  alone : (v : ℕ) (x : Version) → VersionAt g v x → x.absent ≡ true → (name : Name) × (x.names ≡ name ∷ []) × HasNone (At x.writer) name
  alone v x at e =
      let w = H.versions v x at in
      elim w.3 [
        | inl part ↦ absurd (false≢true (sym part.0 ∙ e))
        | inr gone ↦ (gone.1, gone.2, subst (λ (n : ℕ). HasNone (At n) gone.1) (sym w.1) gone.3.1)
      ]

  -- ---- cells

  cell_of_place : (k : ℕ) (x : CellRecord) → slice_get g.cells k ≡ Some x → CellAt g (suc k) x
  cell_of_place k x at = let e : suc k - 1 ≡ k = omega arith in (omega arith, ap (slice_get g.cells) e ∙ at)

  version_of_place : (k : ℕ) (x : Version) → slice_get g.versions k ≡ Some x → VersionAt g (suc k) x
  version_of_place k x at = let e : suc k - 1 ≡ k = omega arith in (omega arith, ap (slice_get g.versions) e ∙ at)

  number_below : (v : ℕ) (x : Version) → VersionAt g v x → v < 2 ^ 32
  number_below v x at =
      let l = slice_get_within g.versions (v - 1) x at.1 in
      let f = of.few_versions in
      omega (arith, at.0, l, f)

  is_cell : (k : ℕ) (x : CellRecord) → slice_get g.cells k ≡ Some x → IsPlainCell x → IsCellRecord x
  is_cell k x at plain =
      let r = H.records k x (cell_of_place k x at) in
      let last : suc k - 1 ≡ k = omega arith in
      record {
        code = subst IsCode (sym r.code) (code_of_entry cells (suc k - 1) codes);
        meter = subst (λ (n : ℕ). n ≤ 16777216) (sym r.meter) (valid_at cells k codes).meter;
        steps = subst (λ (n : ℕ). n ≤ 1000000) (sym r.steps) (few_steps cells (suc k));
        reads = (plain.few_reads, of_contained (λ n. n < 2 ^ 32) x.reads (λ v c. let read = (r.reads v).0 c in number_below v read.0 read.1.at));
        missing = (plain.few_missing, of_contained IsName x.missing (λ name c. name_of_identifier name ((has_names size_of cells).looked k name ((r.missing name).0 c).0)));
      }

  -- ---- versions

  writer_below : (v : ℕ) (x : Version) → VersionAt g v x → x.writer < 2 ^ 32
  writer_below v x at =
      let w = H.versions v x at in
      let e = w.1 in
      let l = w.2 in
      let f = of.few_cells in
      omega (arith, e, l, f)

  replaced_below : (v : ℕ) (x : Version) → VersionAt g v x → x.replaced < 2 ^ 32
  replaced_below v x at = elim (H.replaced v x at) [
    | inl never ↦ let e = never.0 in omega (arith, e)
    | inr first ↦ let r = first.0 in subst (λ (n : ℕ). n < 2 ^ 32) r.5 (writer_below r.1 r.2 r.4)
  ]

  no_handle_absent : (v : ℕ) (x : Version) → VersionAt g v x → x.absent ≡ true → x.handle ≡ false
  no_handle_absent v x at e =
      let one = alone v x at e in
      no_truth x.handle (λ t.
      let h = (H.weights v x at).0.0 t in
      none_reached (At x.writer) x.names (λ name c. subst (HasNone (At x.writer)) (one_in one.0 name (subst (λ (zs : List Name). Contains zs name) one.1 c)) one.2) h.0 h.3)

  size_none : (v : ℕ) (x : Version) → VersionAt g v x → (x.absent ≡ true) ⊎ (x.handle ≡ true) → x.size ≡ 0
  size_none v x at (inl absent) =
      let one = alone v x at absent in
      (H.weights v x at).1 ∙ no_size x.names (At x.writer) (inr (subst (λ (zs : List Name). have_values zs (At x.writer) ≡ false) (sym one.1) (one_has_none one.0 (At x.writer) one.2)))
  size_none v x at (inr handle) =
      let h = (H.weights v x at).0.0 handle in
      (H.weights v x at).1 ∙ no_size x.names (At x.writer) (inl ((handle_told (At x.writer) x.names (closed_at x.writer)).1 h))

  is_version : (k : ℕ) (x : Version) → slice_get g.versions k ≡ Some x → IsPlainVersion x → IsVersion x
  is_version k x place plain =
      let at = version_of_place k x place in
      record {
        writer = writer_below (suc k) x at;
        replaced = replaced_below (suc k) x at;
        kinds = no_handle_absent (suc k) x at;
        size = plain.size;
        none = size_none (suc k) x at;
        names = (plain.few_names, of_contained IsName x.names (λ name c. name_of_identifier name (identifier_of_variable name (name_of_version (suc k) x at name c))));
      }

  -- ---- its cells are within their bounds, and it tells of each state that stands for the cells

  bounded : (k : ℕ) (x : CellRecord) → slice_get g.cells k ≡ Some x → IsWithinBounds x
  bounded k x at =
      let r = H.records k x (cell_of_place k x at) in
      record {
        code = (subst IsCode (sym r.code) (code_of_entry cells (suc k - 1) codes)).1;
        meter = subst (λ (n : ℕ). n ≤ 16777216) (sym r.meter) (valid_at cells k codes).meter;
        steps = subst (λ (n : ℕ). n ≤ 1000000) (sym r.steps) (few_steps cells (suc k));
      }

  pub all_bounded : All IsWithinBounds g.cells
  all_bounded = All-from_recursion IsWithinBounds g.cells (by_places IsWithinBounds g.cells bounded)

  module _ (t : State) (stands : StandsFor read size_of cells g t) where
    held : HasVersions g t
    held = versions_so read size_of cells g t stands

    versions_of : AreVersionsOf t g
    versions_of = record {
      are_parts = held.are_parts;
      all_parts = held.all_parts;
      are_absent = held.are_absent;
      handles = λ v x a. same_truth x.handle (holds_handle x.names t) (HasHandle t x.names) (held.handles v x a) (handle_told t x.names stands.closed);
      sizes = sizes_so read size_of cells g t stands tells_alike;
    }

    pub tells : TellsOf g t
    tells = record {
      closed = stands.closed;
      graph = checks R (is_run read cells size_of) g H (has_names size_of cells) of.few_cells of.few_versions;
      versions = versions_of;
    }

  -- ---- what a session that stands for the cells is written as

  module _ (t : State) (stands : StandsFor read size_of cells g t) (p : Plan) (plan : NamesOf g p) (feasible : IsFeasible g p) (plain : IsPlainCheckpoint t g p) where
    abbrev Last : State
    Last = unmoved cells

    has : HasVersions g t
    has = versions_so read size_of cells g t stands

    turned : Same Every t Last
    turned = same_turned Every Last t stands.same.names

    active : (v : ℕ) (x : Version) → Contains p.copied v → VersionAt g v x → IsActive g v x
    active v x c at =
        let a = plan.copied v c in
        (at, ap (λ (y : Version). y.replaced) (sym (same_Some a.0 x (sym a.1.0.1 ∙ at.1))) ∙ a.1.1)

    plain_part : (v : ℕ) (x : Version) → Contains p.copied v → VersionAt g v x → IsPlainPart t x.names
    plain_part v x c at =
        let l = slice_get_within g.versions (v - 1) x at.1 in
        let next : v - 1 + 1 ≡ v = omega (arith, at.0) in
        subst (λ (y : Version). IsPlainPart t y.names) (get_or_from_slice_get g.versions (v - 1) x x at.1)
        (plain.parts (v - 1) x l (subst (λ (n : ℕ). lists p.copied n ≡ true) (sym next) (listed p.copied v c)))

    -- each object that a copied part reaches is like one of the unmoved state, which is valid
    writable : (v : ℕ) (x : Version) → Contains p.copied v → VersionAt g v x → (at : ℕ) (held : Object) → Reach t x.names at → slice_get t.heap at ≡ Some held → IsWritable held
    writable v x c here at held reach is =
        let from = reach_from_one t x.names at reach in
        let partner = reach_partner (HasPair turned.by) Every t Last turned.same from.0 tt at from.2 in
        let both = subst (λ o. Both (ObjectsMatch (HasPair turned.by)) o (slice_get Last.heap partner.0)) is (turned.same.objects at partner.0 partner.1) in
        let free = feasible.no_handle v x c here in
        writable_by (HasPair turned.by) held (slice_get Last.heap partner.0)
        (λ name uses e. false≢true (sym free ∙ (has.handles v x (active v x c here)).1 (at, name, uses, reach, is ∙ ap (λ (o : Object). Some o) e)))
        both
        (λ y found. at_position (IsValidObject IsItsText) Last.heap (valid_at cells (length cells) codes).objects partner.0 y found)

    value_or_alone : (v : ℕ) (x : Version) → IsActive g v x → (b : Bool) → x.absent ≡ b → (name : Name) → Contains x.names name → HasNone t name → length x.names ≡ 1
    value_or_alone v x a true e name c none = let one = alone v x a.0 e in ap (λ (zs : List Name). length zs) one.1
    value_or_alone v x a false e name c none = absurd (not_both t name (in_part_value t x.names (has.are_parts v x a e) name c) none)

    can : (v : ℕ) (x : Version) → Contains p.copied v → VersionAt g v x → CanBeWritten t x.names
    can v x c at = record {
      some = some_name v x at;
      ascend = ascend v x at;
      variables = of_contained (λ name. is_variable name ≡ true) x.names (λ name k. name_of_version v x at name k);
      alone = λ name k none. value_or_alone v x (active v x c at) x.absent refl name k none;
      plain = plain_part v x c at;
      objects = writable v x c at;
    }

    parts : EachCopied g p (λ x. HasPartText (part_of Last x.names))
    parts v x c at =
        subst HasPartText (one_part x.names t Last stands.closed (closed_at (length cells)) (same_over t Last turned x.names)) (part_is t x.names stands.closed (can v x c at))

    in_version1 : HasText1 Last g p
    in_version1 = record {
      count = subst (λ (n : ℕ). n < 2 ^ 32) (sym stands.same.count) plain.count;
      meter = (valid_at cells (length cells) codes).meter;
      few_cells = subst (λ (n : ℕ). n < 2 ^ 32) (sym H.cells) of.few_cells;
      cells = by_places IsCellRecord g.cells (λ k x at. is_cell k x at (at_position IsPlainCell g.cells plain.cells k x at));
      few_versions = of.few_versions;
      versions = by_places IsVersion g.versions (λ k x at. is_version k x at (at_position IsPlainVersion g.versions plain.versions k x at));
      parts = parts;
    }

    pub has_text : HasText Last g p
    has_text = record {
      one = in_version1;
      texts = subst (λ (ts : List Name). length ts < 2 ^ 32) (sym (table_alike Last t (closed_at (length cells)) stands.closed stands.same p g)) plain.texts;
    }
