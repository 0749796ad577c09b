-- The checkpoint of a session that ran cells has a text.
use Rattle.std.proofs.Common.{◌≡◌, ℕ, zero, suc, ◌-◌, ◌<◌, ◌≤◌, ◌^◌, false, List, [], ◌∷◌, length, get_or, Some, refl, ap, sym, ◌∙◌, subst, inl, inr, arith}
use Rattle.std.specs.Prelude.{AllPairs, slice_get, ◌≢◌}
use Rattle.std.proofs.lemmas.Bool.{cases_lt}
use Rattle.std.proofs.lemmas.Bool.Decides.{Decides-eqb}
use Rattle.std.proofs.lemmas.Option.{slice_get-get_or}
use Rattle.std.proofs.lemmas.List.Elements.{All-from_recursion}
use Rattle.std.proofs.lemmas.Str.{is_utf8-from_IsUtf8, IsUtf8-nil}
use Rattle.std.proofs.lemmas.Map.Steps.{length-le_from_distinct_below}
use Rattle.std.proofs.lemmas.Map.Made.{IsDistinct-from_AllPairs}
use Rattle.py_heap.specs.declared.heap.Object.{Object}
use Rattle.py_heap.specs.declared.heap.Object.TheVariants as object
use Rattle.py_heap.specs.declared.state.State.{State}
use Rattle.py_heap.specs.References.{IsClosed}
use Rattle.py_heap.proofs.Reached.{reached_live}
use Rattle.py_laws.proofs.Sameness.{states_themselves}
use Rattle.graph_model.specs.declared.graph.CellRecord.{CellRecord}
use Rattle.graph_model.specs.declared.graph.Version.{Version}
use Rattle.graph_model.specs.declared.graph.Graph.{Graph}
use Rattle.graph_model.specs.declared.plan.Plan.{Plan}
use Rattle.graph_model.specs.declared.plan.Tally.TheVariants as tally
use Rattle.graph_model.specs.Graphs.{VersionAt, CellAt}
use Rattle.graph_model.specs.Plans.{NamesOf, IsFeasible}
use Rattle.run_graph.specs.RunLists.{ListedCell, entry, state_after, run_of, IsRunList}
use Rattle.part_bytes.specs.Parts.{order}
use Rattle.part_bytes.specs.Plain.{IsPlain, IsPlainPair, IsPlainObject, IsPlainIn, IsPlainAt, IsPlainPart}
use Rattle.part_bytes.proofs.Orders.{member, found_apart, order_reached}
use Rattle.checkpoint_bytes.specs.Plain.{IsPlainCell, IsPlainVersion, IsPlainCheckpoint}
use Rattle.part_bytes.specs.Sizing.{size_of}
use Rattle.replay_laws.specs.Sessions.{StandsFor}
use Rattle.every_history.specs.Reading.{read}
use Rattle.session_core.specs.Meanings.{Served}
use Rattle.notebook_meaning.specs.Cells.{cells_of, unmoved}
use Rattle.notebook_meaning.specs.Codes.{HaveCodes}
use Rattle.notebook_meaning.specs.Lists.{IsRunOfAsks}
use Rattle.notebook_meaning.specs.Notebooks.{IsGraphOf}
use Rattle.notebook_meaning.proofs.Lists.{list_of, codes_of}
use Rattle.notebook_meaning.proofs.Validity.{valid_at}
use Rattle.notebook_meaning.proofs.Written.{has_text}
use Rattle.checkpoint_laws.specs.Spelled.{IsCode, HasText}
use Rattle.checkpoint_laws.proofs.Alike.{table_alike}
use Rattle.checkpoint_laws.specs.SpelledParts.{HasPartText}
use Rattle.replay_laws.proofs.Ending.{same_over}
use Rattle.replay_laws.proofs.PartsAlike.{one_part}
use Rattle.every_history.proofs.Histories.{history}
use Rattle.run_graph.proofs.Runs.{is_run}
use Rattle.notebook_meaning.specs.Numbers.{IsHistoryOf}
use Rattle.plain_states.specs.Plain.{HoldsPlain, items_in, IsPlainState}
use Rattle.plain_states.proofs.Shapes.{of_def}
use Rattle.session_texts.specs.Words.{HaveWords}
use Rattle.session_texts.proofs.First.{FitsAlways, fits_of, fits_last}
use Rattle.session_texts.proofs.Plainness.{plain_at}
use Rattle.session_texts.proofs.Counts.{few_names, few_bytes, few_reads, few_missing}
use Rattle.session_texts.proofs.FewTexts.{few_texts}

-- ---- objects

plain_object : (o : Object) → HoldsPlain o → items_in o < 2 ^ 32 → IsPlainObject o
plain_object (object.List items) h l = (l, All-from_recursion IsPlain items h)
plain_object (object.Tuple items) h l = (l, All-from_recursion IsPlain items h)
plain_object (object.Dict pairs) h l = (l, All-from_recursion IsPlainPair pairs h)
plain_object (object.Function def) h l = (of_def def h).1.0
plain_object (object.Handle name uses) h l = tt

module _ (s : State) (closed : IsClosed s) (plain : IsPlainState s) where
  apart : (names : List (List ℕ)) → AllPairs (λ a b. a ≢ b) (order s names)
  unfolding order
  apart names = found_apart s names (length s.heap)

  plain_value : (name : List ℕ) → IsPlainIn s name
  plain_value name held e = plain.names name held e

  plain_place : (at : ℕ) → IsPlainAt s at
  plain_place at held e =
      let w = plain.objects at held e in
      let l = w.1 in
      let m = plain.meter in
      plain_object held w.0 (omega (arith, l, m))

  few_ordered : (names : List (List ℕ)) → length (order s names) ≤ length s.heap
  few_ordered names = length-le_from_distinct_below (order s names) (length s.heap) (IsDistinct-from_AllPairs Decides-eqb (order s names) (apart names))
      (λ at h. reached_live s closed names at (order_reached s names closed at (member (order s names) at h)))

  plain_part : (names : List (List ℕ)) → length names < 2 ^ 32 → IsPlainPart s names
  plain_part names few = record {
    few = few;
    few_objects = let l = few_ordered names in let m = plain.few in let n = plain.meter in omega (arith, l, m, n);
    values = λ k d l. plain_value (get_or names k d);
    objects = λ k d l. plain_place (get_or (order s names) k d);
  }

-- ---- the checkpoint

code_of_entry : (cells : List ListedCell) (n : ℕ) → HaveCodes cells → IsCode (entry cells n).code
code_of_entry [] n h = (is_utf8-from_IsUtf8 [] IsUtf8-nil, omega arith)
code_of_entry (e ∷ cells) zero h = h.0
code_of_entry (e ∷ cells) (suc n) h = code_of_entry cells n h.1

module _ (cells : List ListedCell) (codes : HaveCodes cells) (words : HaveWords cells) (fits : FitsAlways cells) (list : IsRunList read cells) (g : Graph) (of : IsGraphOf cells g) where
  abbrev Last : State
  Last = unmoved cells

  closed_last : IsClosed Last
  closed_last = (valid_at cells (length cells) codes).closed

  plain_last : IsPlainState Last
  plain_last = plain_at cells (length cells) codes words

  stands : StandsFor read size_of cells g Last
  stands = record { list = list; history = of.history; closed = closed_last; same = states_themselves Last closed_last }

  small_count : Last.count < 2 ^ 32
  small_count = elim (cases_lt 0 (length cells)) [
    | inl some ↦ elim (cases_lt Last.count (2 ^ 32)) [ inl small ↦ small | inr large ↦ absurd (fits_last cells fits some tally.Count (Last.count, refl, large)) ]
    | inr none ↦
        let no : length cells ≡ 0 = omega (arith, none) in
        let zero : Last.count ≡ 0 = ap (λ (n : ℕ). (state_after read cells n).count) no in
        omega (arith, zero)
  ]

  plain_cell : (k : ℕ) (x : CellRecord) → slice_get g.cells k ≡ Some x → IsPlainCell x
  plain_cell k x place =
      let e : suc k - 1 ≡ k = omega arith in
      let at : CellAt g (suc k) x = (omega arith, ap (slice_get g.cells) e ∙ place) in
      let r = of.history.records k x at in
      let c : IsCode x.code = subst IsCode (sym (r.code ∙ ap (λ (n : ℕ). (entry cells n).code) e)) (code_of_entry cells k codes) in
      record {
        code = (c.0, let l = c.1 in omega (arith, l));
        few_reads = few_reads cells codes words fits g of k x at;
        few_missing = few_missing cells codes words fits g of k x at;
      }

  version_at : (k : ℕ) (x : Version) → slice_get g.versions k ≡ Some x → VersionAt g (suc k) x
  version_at k x place = let e : suc k - 1 ≡ k = omega arith in (omega arith, ap (slice_get g.versions) e ∙ place)

  plain_version : (k : ℕ) (x : Version) → slice_get g.versions k ≡ Some x → IsPlainVersion x
  plain_version k x place = record {
    size = few_bytes cells codes words fits g of (suc k) x (version_at k x place);
    few_names = few_names cells codes words fits g of (suc k) x (version_at k x place);
  }

  plain : (p : Plan) → IsPlainCheckpoint Last g p
  plain p = record {
    count = small_count;
    texts = few_texts cells codes words fits g of p;
    cells = λ k d l. plain_cell k (get_or g.cells k d) (slice_get-get_or g.cells k d l);
    versions = λ k d l. plain_version k (get_or g.versions k d) (slice_get-get_or g.versions k d l);
    parts = λ k d l copied. plain_part Last closed_last plain_last (get_or g.versions k d).names
        (few_names cells codes words fits g of (suc k) (get_or g.versions k d) (version_at k (get_or g.versions k d) (slice_get-get_or g.versions k d l)));
  }

  pub has_a_text : (p : Plan) → NamesOf g p → IsFeasible g p → HasText Last g p
  has_a_text p plan feasible = has_text cells codes g of Last stands p plan feasible (plain p)

-- ---- the graph of a run list

abbrev no_version : Version
no_version = record { names = []; writer = 0; replaced = 0; absent = false; handle = false; size = 0 }

module _ (cells : List ListedCell) (fits : FitsAlways cells) (g : Graph) (h : IsHistoryOf cells g) where
  few_cells : length cells < 2 ^ 32
  few_cells = elim (cases_lt (length cells) (2 ^ 32)) [
    | inl few ↦ few
    | inr many ↦ absurd (fits_last cells fits (omega (arith, many)) tally.Cells (length cells, refl, many))
  ]

  few_versions : length g.versions < 2 ^ 32
  few_versions = elim (cases_lt (length g.versions) (2 ^ 32)) [
    | inl few ↦ few
    | inr many ↦
        let x : Version = get_or g.versions 0 no_version in
        let at : VersionAt g 1 x = (omega arith, slice_get-get_or g.versions 0 no_version (omega (arith, many))) in
        let some = (h.versions 1 x at).2 in
        absurd (fits_last cells fits (omega (arith, some)) tally.Versions (length g.versions, (g, h, refl), many))
  ]

  pub graph_of : IsGraphOf cells g
  graph_of = record { history = h; few_cells = few_cells; few_versions = few_versions }

pub graph_of_run : (served : List Served) → IsRunOfAsks served → (g : Graph) × IsGraphOf (cells_of served) g
graph_of_run served run =
    let h = history (run_of read size_of (cells_of served)) (is_run read (cells_of served) size_of) in
    (h.0, graph_of (cells_of served) (fits_of served run) h.0 h.1)

pub text_of_run : (served : List Served) → IsRunOfAsks served → HaveWords (cells_of served) → (g : Graph) → IsGraphOf (cells_of served) g → (p : Plan) → NamesOf g p → IsFeasible g p
    → HasText (unmoved (cells_of served)) g p
text_of_run served run words g of p plan feasible =
    has_a_text (cells_of served) (codes_of served run) words (fits_of served run) (list_of served run) g of p plan feasible

pub plain_of_run : (served : List Served) → IsRunOfAsks served → HaveWords (cells_of served) → (g : Graph) → IsGraphOf (cells_of served) g → (p : Plan) → IsPlainCheckpoint (unmoved (cells_of served)) g p
plain_of_run served run words g of p = plain (cells_of served) (codes_of served run) words (fits_of served run) (list_of served run) g of p

-- ---- each state that stands for the cells

module _ (cells : List ListedCell) (codes : HaveCodes cells) (words : HaveWords cells) (fits : FitsAlways cells) (g : Graph) (t : State) (stands : StandsFor read size_of cells g t) where
  text_stands : (p : Plan) → NamesOf g p → IsFeasible g p → HasText t g p
  text_stands p plan feasible =
      let all = has_a_text cells codes words fits stands.list g (graph_of cells fits g stands.history) p plan feasible in
      let h = all.one in
      let closed = (valid_at cells (length cells) codes).closed in
      record {
        one = record {
          count = subst (λ (n : ℕ). n < 2 ^ 32) stands.same.count h.count;
          meter = subst (λ (n : ℕ). n ≤ 16777216) stands.same.meter h.meter;
          few_cells = h.few_cells;
          cells = h.cells;
          few_versions = h.few_versions;
          versions = h.versions;
          parts = λ v x c at. subst HasPartText (one_part x.names (unmoved cells) t closed stands.closed (same_over (unmoved cells) t stands.same.names x.names)) (h.parts v x c at);
        };
        texts = subst (λ (ts : List (List ℕ)). length ts < 2 ^ 32) (table_alike (unmoved cells) t closed stands.closed stands.same p g) all.texts;
      }

pub text_of_standing : (served : List Served) → IsRunOfAsks served → HaveWords (cells_of served) → (g : Graph) (t : State) → StandsFor read size_of (cells_of served) g t → (p : Plan) → NamesOf g p → IsFeasible g p → HasText t g p
text_of_standing served run words g t stands p plan feasible = text_stands (cells_of served) (codes_of served run) words (fits_of served run) g t stands p plan feasible
