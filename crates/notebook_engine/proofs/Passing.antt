-- The numbers of a session that may have been moved are those of one that never moved.
use Rattle.std.proofs.Common.{◌≡◌, ℕ, suc, ◌+◌, ◌-◌, ◌<◌, ◌≤◌, ◌^◌, Bool, true, false, cond, List, [], ◌∷◌, ◌++◌, length, get_or, Some, Result, Err, refl, sym, ap, ◌∙◌, ◌⊎◌, inl, inr, subst, arith}
use Rattle.std.specs.Prelude.{Contains, ◌↔◌, slice_get}
use Rattle.std.specs.Str.{IsUtf8}
use Rattle.std.specs.FinMap as finite
use Rattle.std.proofs.lemmas.Bool.{false≢true}
use Rattle.std.proofs.lemmas.List.{length-append}
use Rattle.std.proofs.lemmas.List.Elements.{Contains-append_left, Contains-append_right, Contains-append_cases}
use Rattle.std.proofs.lemmas.Option.{slice_get-get_or, slice_get_within, get_or_from_slice_get}
use Rattle.nb_outside.specs.declared.feed.Drawn.{Drawn}
use Rattle.py_heap.specs.declared.state.State.{State}
use Rattle.py_heap.specs.References.{IsClosed}
use Rattle.py_machine.specs.declared.marks.Marks.{Marks}
use Rattle.py_machine.specs.Runs.{Name}
use Rattle.py_meaning.specs.Cells.{UsesUp, outcome, end_state}
use Rattle.py_laws.specs.Same.{HasPair, ValuesMatch, Same, Every, SameStates}
use Rattle.py_laws.proofs.Closing.{closed_after}
use Rattle.py_laws.proofs.Partners.{one_in, first_in}
use Rattle.py_laws.proofs.Sameness.{same_turned}
use Rattle.notebook_engine.proofs.Counted.{cell_counts, uses_at_any_count}
use Rattle.graph_model.specs.declared.graph.CellRecord.{CellRecord}
use Rattle.graph_model.specs.declared.graph.Version.{Version}
use Rattle.graph_model.specs.declared.graph.Graph.{Graph}
use Rattle.graph_model.specs.declared.plan.Tally.{Tally}
use Rattle.graph_model.specs.declared.plan.Tally.TheVariants as tally
use Rattle.graph_model.specs.Faults.{TextBelow, Ascends}
use Rattle.graph_model.specs.Graphs.{VersionAt}
use Rattle.linked_parts.specs.Parts.{ArePartsOf}
use Rattle.linked_parts.proofs.Lists.{below_on, never_below_itself}
use Rattle.run_graph.specs.Parts.{HasHandle}
use Rattle.run_graph.specs.Histories.{Run}
use Rattle.run_graph.specs.Growing.{IsNext}
use Rattle.run_graph.specs.RunLists.{ListedCell, entry, blank, raised, entry_done, state_after, run_of}
use Rattle.run_graph.specs.Soundness.{statements}
use Rattle.run_graph.proofs.Growing.{in_of_get, get_of_in, old_or_new, to_new}
use Rattle.run_graph.proofs.Only.{same_list, one_history}
use Rattle.run_graph.proofs.Runs.{is_run}
use Rattle.every_history.specs.Reading.{read}
use Rattle.part_bytes.specs.Texts.{part_text}
use Rattle.history_graph.specs.declared.history.History.{History}
use Rattle.history_graph.specs.Texts.{IsTextIn, IsCodeOf}
use Rattle.history_graph.specs.Tallies.{IsHead, IsOver, IsFirstOver}
use Rattle.history_graph.proofs.Bridge.{handle_held}
use Rattle.history_graph.proofs.Keys.{keys_ascend, in_keys, of_keys}
use Rattle.history_graph.proofs.Standing.{history_has_cells}
use Rattle.every_history.proofs.Histories.{next}
use Rattle.every_history.proofs.Listed.{heads, heads_ascend, heads_are, versions_with, version_of, part_of_version}
use Rattle.every_history.proofs.SameTexts.{same_text}
use Rattle.session_core.specs.declared.engine.RunFault.{RunFault}
use Rattle.session_core.specs.declared.engine.RunFault.TheVariants as fault
use Rattle.session_core.specs.declared.reply.Done.{Done}
use Rattle.part_bytes.specs.Sizing.{size_of}
use Rattle.replay_laws.specs.Sessions.{StandsFor}
use Rattle.replay_laws.proofs.Sizing.{both_some, handle_told, tells_alike, no_size, one_has_none, size_plain}
use Rattle.replay_laws.proofs.GoingOn.{last_state, one_more}
use Rattle.notebook_meaning.specs.Cells.{recorded, unmoved}
use Rattle.notebook_meaning.specs.Numbers.{IsHistoryOf, IsCodeIn, IsPassed, IsPassedFirst}
use Rattle.notebook_meaning.specs.Lists.{Fills}
use Rattle.notebook_meaning.proofs.Written.{no_truth}
use Rattle.notebook_engine.specs.declared.session.Session.{Session}
use Rattle.notebook_engine.specs.Holding.{PassesWith}
use Rattle.notebook_engine.proofs.Grown.{done_is, one_cell, before, after, cell_from, uses_so, same_uses}

-- ---- what a fault names

module _ (a b : Tally) (d e : List Drawn) (same : ◌≡◌ {A = Result Done RunFault} (Err (fault.TooMany a d)) (Err (fault.TooMany b e))) where
  pub one_number : a ≡ b
  one_number = cc same

  pub one_draws : d ≡ e
  one_draws = cc same

module _ (a b : Tally) (d e : List Drawn) (same : fault.TooMany a d ≡ fault.TooMany b e) where
  pub same_number : a ≡ b
  same_number = cc same

  pub same_draws : d ≡ e
  same_draws = cc same

-- ---- the count

one_longer : (cells : List ListedCell) (e : ListedCell) → length (cells ++ e ∷ []) ≡ suc (length cells)
one_longer cells e = let f = length-append cells (e ∷ []) in omega (arith, f)

unmoved_last : (cells : List ListedCell) (e : ListedCell) → unmoved (cells ++ e ∷ []) ≡ (entry_done read e (unmoved cells)).1.state
unmoved_last cells e = ap (state_after read (cells ++ e ∷ [])) (one_longer cells e) ∙ last_state read cells e

pub count_after : (cells : List ListedCell) (e : ListedCell) → (unmoved (cells ++ e ∷ [])).count ≡ (unmoved cells).count + cond e.counted 1 0
count_after cells e = ap (λ (s : State). s.count) (unmoved_last cells e) ∙ cell_counts (statements (read e.code)) (raised e (unmoved cells)) e.draws

-- a count that is at its end is the first number that passes
count_first : (cells : List ListedCell) (e : ListedCell) (t : State) → (unmoved cells).count ≡ t.count → e.counted ≡ true → 4294967295 ≤ t.count → IsPassedFirst (cells ++ e ∷ []) tally.Count
count_first cells e t same counts most =
    let all = count_after cells e in
    let one : ◌≡◌ {A = ℕ} (cond e.counted 1 0) 1 = ap (λ (b : Bool). cond b 1 0) counts in
    (((unmoved (cells ++ e ∷ [])).count, refl, omega (arith, all, same, one, most)), λ other less p. let none : ⊥ = omega (arith, less) in none)

-- a cell that was run although the count is at its end
pub fills_the_count : (n : Session) (code : List ℕ) (draws : List Drawn) → IsUtf8 code → 4294967295 ≤ n.kernel.state.count → UsesUp (statements (read code)) n.kernel.state draws
    → PassesWith n (record { code = recorded code; draws = draws; counted = true }) tally.Count
fills_the_count n code draws utf8 most uses cells h =
    let t : State = n.kernel.state in
    let there = uses_at_any_count (statements (read code)) t (t.count + 1) draws h.session.closed uses in
    record {
      uses = same_uses cells t code utf8 draws true n.history.graph h.session there;
      first = count_first cells (record { code = recorded code; draws = draws; counted = true }) t h.session.same.count refl most;
    }

-- ---- names

names_on : (s t : State) → Same Every s t → (x : Name) → Contains (finite.keys s.globals) x → Contains (finite.keys t.globals) x
names_on s t same x c = in_keys t.globals x (sym (both_some (ValuesMatch (HasPair same.by)) (finite.get s.globals x) (finite.get t.globals x) (same.same.names x tt)) ∙ of_keys s.globals x c)

same_keys : (s t : State) → Same Every s t → finite.keys s.globals ≡ finite.keys t.globals
same_keys s t same =
    same_list TextBelow below_on never_below_itself (finite.keys s.globals) (finite.keys t.globals) (keys_ascend s.globals) (keys_ascend t.globals) (names_on s t same) (names_on t s (same_turned Every s t same))

-- ---- codes

entry_in : (cells : List ListedCell) (i : ℕ) → i < length cells → Contains cells (entry cells i)
entry_in cells i l = in_of_get cells i (entry cells i) (slice_get-get_or cells i blank l)

entry_is : (cells : List ListedCell) (e : ListedCell) → Contains cells e → (i : ℕ) × (i < length cells) × (entry cells i ≡ e)
entry_is cells e c = let w = get_of_in cells e c in (w.0, slice_get_within cells w.0 e w.1, get_or_from_slice_get cells w.0 e blank w.1)

module _ (cells : List ListedCell) (g : Graph) (h : IsHistoryOf cells g) where
  code_is : (i : ℕ) (x : CellRecord) → slice_get g.cells i ≡ Some x → x.code ≡ (entry cells i).code
  code_is i x at =
      let here : suc i - 1 ≡ i = omega arith in
      (h.records i x (omega arith, subst (λ n. slice_get g.cells n ≡ Some x) (sym here) at)).code ∙ ap (λ n. (entry cells n).code) here

  of_record : (t : List ℕ) → ((x : CellRecord) × Contains g.cells x × (x.code ≡ t)) → IsCodeIn cells t
  of_record t w =
      let i = get_of_in g.cells w.0 w.1 in
      let l = slice_get_within g.cells i.0 w.0 i.1 in
      let size = h.cells in
      (entry cells i.0, entry_in cells i.0 (omega (arith, l, size)), sym (code_is i.0 w.0 i.1) ∙ w.2)

  to_record : (t : List ℕ) → IsCodeIn cells t → (x : CellRecord) × Contains g.cells x × (x.code ≡ t)
  to_record t w =
      let i = entry_is cells w.0 w.1 in
      let l = i.1 in
      let size = h.cells in
      let none : CellRecord = record { code = []; meter = 0; steps = 0; drew = false; reads = []; missing = [] } in
      let x : CellRecord = get_or g.cells i.0 none in
      let at : slice_get g.cells i.0 ≡ Some x = slice_get-get_or g.cells i.0 none (omega (arith, l, size)) in
      (x, in_of_get g.cells i.0 x at, code_is i.0 x at ∙ (ap (λ (e : ListedCell). e.code) i.2 ∙ w.2))

-- ---- the session with one cell more

module _ (cells : List ListedCell) (t : State) (code : List ℕ) (utf8 : IsUtf8 code) (draws : List Drawn) (counted : Bool) (old : History)
    (stands : StandsFor read size_of cells old.graph t) (parts : ArePartsOf t old.parts)
    (uses : UsesUp (statements (read code)) (raised (record { code = recorded code; draws = draws; counted = counted }) t) draws) where
  abbrev E : ListedCell
  E = record { code = recorded code; draws = draws; counted = counted }

  abbrev Longer : List ListedCell
  Longer = cells ++ E ∷ []

  abbrev N : ℕ
  N = length cells

  abbrev Q : Run
  Q = one_cell cells t code utf8 draws counted

  -- the state at its end, and what it did
  abbrev S : State
  S = Q.state (suc N)

  abbrev M : Marks
  M = Q.marks (suc N)

  closed_before : IsClosed (Q.state N)
  closed_before = subst IsClosed (sym (before cells t code utf8 draws counted)) stands.closed

  closed_then : IsClosed S
  closed_then = subst IsClosed (sym (after cells t code utf8 draws counted))
      (closed_after (statements (read E.code)) draws (raised E t) (record { names = stands.closed.names; objects = stands.closed.objects }))

  made : (k : Graph) × IsNext Q N old.graph k
  made = next Q N old.graph closed_before closed_then

  -- the history with the cell
  abbrev K : Graph
  K = made.0

  session : StandsFor read size_of Longer K (entry_done read E t).1.state
  session = one_more read size_of cells old.graph t stands tells_alike E (uses_so cells t code utf8 draws counted t uses) Q K (cell_from cells t code utf8 draws counted) made.1

  same_end : SameStates (unmoved Longer) S
  same_end = subst (λ (z : State). SameStates (unmoved Longer) z) (sym (after cells t code utf8 draws counted)) session.same

  parts_before : ArePartsOf (Q.state N) old.parts
  parts_before = subst (λ (z : State). ArePartsOf z old.parts) (sym (before cells t code utf8 draws counted)) parts

  one_graph : (g : Graph) → IsHistoryOf Longer g → g ≡ K
  one_graph g h = one_history (run_of read size_of Longer) g K h session.history

  abbrev Over : Tally → Type 0
  Over = IsOver old S (recorded code) M

  abbrev Passed : Tally → Type 0
  Passed = IsPassed Longer

  -- ---- cells

  cells_are : length old.graph.cells ≡ N
  cells_are = stands.history.cells

  cells_to : Over tally.Cells → Passed tally.Cells
  cells_to h = let e = h.1 in let many = h.2 in let is = cells_are in let more = one_longer cells E in (length Longer, refl, omega (arith, e, many, is, more))

  cells_from : Passed tally.Cells → Over tally.Cells
  cells_from h = let e = h.1 in let many = h.2 in let is = cells_are in let more = one_longer cells E in (length old.graph.cells + 1, refl, omega (arith, e, many, is, more))

  -- ---- versions

  abbrev Heads : List Name
  Heads = heads Q N old.graph K made.1 old.parts parts_before closed_then

  heads_of : (x : Name) → Contains Heads x ↔ IsHead old.parts S M x
  heads_of = heads_are Q N old.graph K made.1 old.parts parts_before closed_then

  ascend : Ascends TextBelow Heads
  ascend = heads_ascend Q N old.graph K made.1 old.parts parts_before closed_then

  versions_are : length K.versions ≡ length old.graph.versions + length Heads
  versions_are = versions_with Q N old.graph K made.1 old.parts parts_before closed_then

  versions_to : Over tally.Versions → Passed tally.Versions
  versions_to (n, (found, ascends, iff, e), many) =
      let same : found ≡ Heads = same_list TextBelow below_on never_below_itself found Heads ascends ascend (λ x c. (heads_of x).1 ((iff x).0 c)) (λ x c. (iff x).1 ((heads_of x).0 c)) in
      let size = ap (λ (names : List Name). length names) same in
      let all = versions_are in
      (length K.versions, (K, session.history, refl), omega (arith, e, many, size, all))

  versions_from : Passed tally.Versions → Over tally.Versions
  versions_from (n, (g, is, e), many) =
      let same = ap (λ (k : Graph). length k.versions) (one_graph g is) in
      let all = versions_are in
      (n, (Heads, ascend, heads_of, omega (arith, e, same, all)), omega (arith, many))

  -- ---- names

  names_alike : finite.keys (unmoved Longer).globals ≡ finite.keys S.globals
  names_alike = same_keys (unmoved Longer) S same_end.names

  names_to : Over tally.Names → Passed tally.Names
  names_to h = (h.0, h.1 ∙ sym (ap (λ (names : List Name). length names) names_alike), let many = h.2 in omega (arith, many))

  names_from : Passed tally.Names → Over tally.Names
  names_from h = (h.0, h.1 ∙ ap (λ (names : List Name). length names) names_alike, let many = h.2 in omega (arith, many))

  -- ---- texts

  code_to : (x : List ℕ) → IsCodeOf old.graph (recorded code) x → IsCodeIn Longer x
  code_to x (inl e) = (E, Contains-append_right cells (E ∷ []) E (first_in E []), sym e)
  code_to x (inr h) = let w = of_record cells old.graph stands.history x h in (w.0, Contains-append_left cells (E ∷ []) w.0 w.1, w.2)

  code_from : (x : List ℕ) → IsCodeIn Longer x → IsCodeOf old.graph (recorded code) x
  code_from x (e, c, is) = elim (Contains-append_cases cells (E ∷ []) e c) [
    | inl k ↦ inr (to_record cells old.graph stands.history x (e, k, is))
    | inr k ↦ inl (sym (ap (λ (z : ListedCell). z.code) (one_in E e k) ∙ is))
  ]

  text_to : (x : List ℕ) → IsCodeOf old.graph (recorded code) x ⊎ IsTextIn S x → IsCodeIn Longer x ⊎ IsTextIn (unmoved Longer) x
  text_to x (inl h) = inl (code_to x h)
  text_to x (inr h) = inr (same_text S (unmoved Longer) (same_turned Every (unmoved Longer) S same_end.names) x h)

  text_from : (x : List ℕ) → IsCodeIn Longer x ⊎ IsTextIn (unmoved Longer) x → IsCodeOf old.graph (recorded code) x ⊎ IsTextIn S x
  text_from x (inl h) = inl (code_from x h)
  text_from x (inr h) = inr (same_text (unmoved Longer) S same_end.names x h)

  texts_to : Over tally.Texts → Passed tally.Texts
  texts_to (n, (texts, ascends, iff, e), many) =
      (n, (texts, ascends, λ x. (λ c. text_to x ((iff x).0 c), λ h. (iff x).1 (text_from x h)), e), omega (arith, many))

  texts_from : Passed tally.Texts → Over tally.Texts
  texts_from (n, (texts, ascends, iff, e), many) =
      (n, (texts, ascends, λ x. (λ c. text_from x ((iff x).0 c), λ h. (iff x).1 (text_to x h)), e), omega (arith, many))

  -- ---- bytes

  size_is : (x : Version) → Contains made.1.news x → x.size ≡ size_of x.names S
  size_is x h = (made.1.left x h).3.1 ∙ (cell_from cells t code utf8 draws counted).sizes x.names

  bytes_to : Over tally.Bytes → Passed tally.Bytes
  bytes_to (n, (p, is, writes, plain, e), many) =
      let v = version_of Q N old.graph K made.1 old.parts parts_before closed_then p is writes in
      let there = to_new Q N old.graph K made.1 v.0 v.1 in
      let free : ¬ HasHandle S p.names = λ h. false≢true (sym plain ∙ (handle_held S p is).1 h) in
      let size : v.0.size ≡ length (part_text S p.names) = size_is v.0 v.1 ∙ (ap (λ names. size_of names S) v.2 ∙ size_plain S p.names closed_then is.names free) in
      let writer : v.0.writer ≡ length Longer = (made.1.left v.0 v.1).0 ∙ sym (one_longer cells E) in
      (n, (K, session.history, v.0, in_of_get K.versions (there.0 - 1) v.0 there.1.1, writer, e ∙ sym size), omega (arith, many))

  -- a version of the cell is one of the new ones
  is_new : (x : Version) → Contains K.versions x → x.writer ≡ length Longer → Contains made.1.news x
  is_new x c w =
      let i = get_of_in K.versions x c in
      let here : suc i.0 - 1 ≡ i.0 = omega arith in
      let at : VersionAt K (suc i.0) x = (omega arith, subst (λ n. slice_get K.versions n ≡ Some x) (sym here) i.1) in
      elim (old_or_new Q N old.graph K made.1 (suc i.0) x at) [
        | inl o ↦
            let l = (history_has_cells (run_of read size_of cells) N old.graph (is_run read cells size_of) stands.history).writers (suc i.0) o.0 o.1 in
            let e = o.2.writer in
            let more = one_longer cells E in
            let none : ⊥ = omega (arith, l, e, w, more) in
            absurd none
        | inr n ↦ in_of_get made.1.news n.0 x n.2
      ]

  bytes_from : Passed tally.Bytes → Over tally.Bytes
  bytes_from (n, (g, is, x, c, w, e), many) =
      let new = is_new x (subst (λ (k : Graph). Contains k.versions x) (one_graph g is) c) w in
      let size : n ≡ size_of x.names S = e ∙ size_is x new in
      elim (made.1.left x new).2 [
        | inr d ↦
            let empty : size_of x.names S ≡ 0 = ap (λ names. size_of names S) d.2 ∙ no_size (d.1 ∷ []) S (inr (one_has_none d.1 S d.3.1)) in
            let none : ⊥ = omega (arith, size, empty, many) in
            absurd none
        | inl q ↦
            let p = part_of_version Q N old.graph K made.1 old.parts parts_before closed_then x q.1 q.2 in
            let free : p.0.handle ≡ false = no_truth p.0.handle (λ h.
            let held : HasHandle S x.names = subst (λ names. HasHandle S names) p.3 ((handle_held S p.0 p.1).0 h) in
            let empty : size_of x.names S ≡ 0 = no_size x.names S (inl ((handle_told S x.names closed_then).1 held)) in
            let none : ⊥ = omega (arith, size, empty, many) in
            none) in
            let plain : ¬ HasHandle S p.0.names = λ h. false≢true (sym free ∙ (handle_held S p.0 p.1).1 h) in
            let text : size_of p.0.names S ≡ length (part_text S p.0.names) = size_plain S p.0.names closed_then p.1.names plain in
            (n, (p.0, p.1, p.2, free, size ∙ (sym (ap (λ names. size_of names S) p.3) ∙ text)), omega (arith, many))
      ]

  -- ---- all of them

  to_passed : (which : Tally) → Over which → Passed which
  to_passed tally.Count h = absurd h.1
  to_passed tally.Cells h = cells_to h
  to_passed tally.Versions h = versions_to h
  to_passed tally.Names h = names_to h
  to_passed tally.Texts h = texts_to h
  to_passed tally.Bytes h = bytes_to h

  module _ (few : S.count < 2 ^ 32) where
    count_fits : ¬ Passed tally.Count
    count_fits h = let e = h.1 in let many = h.2 in let same = same_end.count in omega (arith, e, many, same, few)

    to_over : (which : Tally) → Passed which → Over which
    to_over tally.Count h = absurd (count_fits h)
    to_over tally.Cells h = cells_from h
    to_over tally.Versions h = versions_from h
    to_over tally.Names h = names_from h
    to_over tally.Texts h = texts_from h
    to_over tally.Bytes h = bytes_from h

    passed_first : (which : Tally) → IsFirstOver old S (recorded code) M which → IsPassedFirst Longer which
    passed_first which h = (to_passed which h.0, λ other l p. h.1 other l (to_over other p))

    none_passed : ((which : Tally) → ¬ Over which) → (which : Tally) → ¬ Passed which
    none_passed none which p = none which (to_over which p)

  -- ---- with what the call was told

  module _ (s : State) (marks : Marks) (state : s ≡ end_state (statements (read code)) (raised E t) draws) (noted : marks ≡ (outcome (statements (read code)) (raised E t) draws).1.marks)
      (few : s.count < 2 ^ 32) where
    at_end : S ≡ s
    at_end = after cells t code utf8 draws counted ∙ (ap (λ o. o.1.state) (done_is cells t code utf8 draws counted t) ∙ sym state)

    marked : M ≡ marks
    marked = (cell_from cells t code utf8 draws counted).marks ∙ (ap (λ o. o.1.marks) (done_is cells t code utf8 draws counted t) ∙ sym noted)

    few_at_end : S.count < 2 ^ 32
    few_at_end = subst (λ (z : State). z.count < 2 ^ 32) (sym at_end) few

    -- the cell fills the session, by the first number that the call names
    pub fills : (which : Tally) → IsFirstOver old s (recorded code) marks which → Fills cells E which
    fills which h = record {
      uses = same_uses cells t code utf8 draws counted old.graph stands uses;
      first = passed_first few_at_end which
          (subst (λ (m : Marks). IsFirstOver old S (recorded code) m which) (sym marked) (subst (λ (z : State). IsFirstOver old z (recorded code) marks which) (sym at_end) h));
    }

    -- if the call finds none
    pub all_fit : ((which : Tally) → ¬ IsOver old s (recorded code) marks which) → (which : Tally) → ¬ Passed which
    all_fit none = none_passed few_at_end (λ which over. none which
        (subst (λ (z : State). IsOver old z (recorded code) marks which) at_end (subst (λ (m : Marks). IsOver old S (recorded code) m which) marked over)))
