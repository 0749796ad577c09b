-- A session whose state is the same as after some cells goes on as these cells do: in the next cell, and in the next move.
use Rattle.std.proofs.Common.{◌≡◌, ℕ, zero, suc, ◌-◌, ◌+◌, ◌<◌, ◌≤◌, List, [], ◌∷◌, ◌++◌, length, Option, refl, sym, ap, ◌∙◌, inl, inr, subst, arith, length-append}
use Rattle.std.specs.Prelude.{Contains, cond}
use Rattle.std.proofs.lemmas.Bool.{cases_eq}
use Rattle.nb_outside.specs.declared.feed.Drawn.{Drawn}
use Rattle.py_tree.specs.declared.statements.Stmt.{Stmt}
use Rattle.py_heap.specs.declared.state.State.{State}
use Rattle.py_heap.specs.References.{IsClosed}
use Rattle.py_heap.specs.States.{empty}
use Rattle.py_heap.proofs.Closed.{empty_closed}
use Rattle.py_machine.specs.declared.marks.Marks.{Marks}
use Rattle.py_machine.specs.Marked.{IsIn}
use Rattle.py_machine.specs.Runs.{Name, Outcome}
use Rattle.py_meaning.specs.Cells.{outcome, UsesUp, Asks}
use Rattle.py_laws.specs.Same.{HasPair, SameBy, Same, SameStates, Every}
use Rattle.py_laws.specs.Framed.{OrBound, Renamed}
use Rattle.py_laws.proofs.Closing.{closed_after}
use Rattle.py_laws.proofs.Matching.{Turned}
use Rattle.py_laws.proofs.Framing.{All, ended, ended_same, renamed}
use Rattle.py_laws.proofs.Partners.{reach_partner}
use Rattle.py_laws.proofs.Sameness.{same_by_turned, same_through, states_themselves, states_through, states_turned}
use Rattle.graph_model.specs.declared.graph.Graph.{Graph}
use Rattle.graph_model.specs.declared.plan.Plan.{Plan}
use Rattle.graph_model.specs.Plans.{NamesOf, IsFeasible}
use Rattle.graph_model.specs.declared.graph.CellRecord.{CellRecord}
use Rattle.graph_model.specs.declared.graph.Version.{Version}
use Rattle.graph_model.specs.Graphs.{CellAt, IsActive}
use Rattle.replay_laws.proofs.Canonical.{tidied_equal}
use Rattle.run_graph.specs.Histories.{Run, IsHistory}
use Rattle.run_graph.specs.Soundness.{TreeReader, statements}
use Rattle.run_graph.specs.RunLists.{ListedCell, entry, raised, entry_done, state_after, marks_of, steps_of, IsRunList, run_of}
use Rattle.run_graph.specs.Growing.{first_cells, IsNext}
use Rattle.run_graph.proofs.Growing.{grown, nothing_yet}
use Rattle.run_graph.proofs.Reached.{reach_from_one, reach_by_one}
use Rattle.run_graph.proofs.Runs.{raised_closed, is_run, follows}
use Rattle.replay_laws.specs.Walks.{Walked, done_again}
use Rattle.replay_laws.specs.Copies.{AreCopies}
use Rattle.replay_laws.specs.Restored.{with_tallies, HasVersions, TellsAlike}
use Rattle.replay_laws.specs.Sessions.{StandsFor, IsCellFrom}
use Rattle.replay_laws.specs.Tidied.{IsTidied}
use Rattle.replay_laws.proofs.Walking.{walk_good, never_asks}
use Rattle.replay_laws.proofs.Ending.{same_over, without_tallies, has_versions, restored, has_sizes}
use Rattle.replay_laws.proofs.Tidying.{tidied_same, tidied_closed}
use Rattle.replay_laws.proofs.Alike.{HasChanged, changed_equal, Alike, alike_turned, alike_equal, next_on, history_on}

-- ---- one cell, run from two states that are the same

module _ (body : List Stmt) (draws : List Drawn) (s t : State) (same : SameStates s t) where
  abbrev Here : Outcome (Option (List ℕ))
  Here = outcome body s draws

  abbrev There : Outcome (Option (List ℕ))
  There = outcome body t draws

  abbrev By : ℕ → ℕ → Type 0
  By = All Every body draws s t same.meter (λ name l. tt) (HasPair same.names.by) same.names.same

  ends : SameBy By (OrBound Every Here.1) Here.1.state There.1.state
  ends = ended_same Every body draws s t same.meter (λ name l. tt) (HasPair same.names.by) same.names.same

  turned : SameBy (Turned By) (OrBound Every Here.1) There.1.state Here.1.state
  turned = same_by_turned By (OrBound Every Here.1) Here.1.state There.1.state ends

  pub changed_on : (names : List Name) → HasChanged Here.1.state Here.1.marks names → HasChanged There.1.state There.1.marks names
  changed_on names (at, reach, changed) =
      let z = reach_from_one Here.1.state names at reach in
      let p = reach_partner By (OrBound Every Here.1) Here.1.state There.1.state ends z.0 (inl tt) at z.2 in
      let w = (ended Every body draws s t same.meter (λ name l. tt) (HasPair same.names.by) same.names.same).alike.marks.changed at changed in
      (p.0, reach_by_one There.1.state names z.0 p.0 z.1 p.2, subst (λ n. IsIn There.1.marks.changed n) (ends.pairs.left at w.0 p.0 w.1 p.1) w.2)

  pub changed_back : (names : List Name) → HasChanged There.1.state There.1.marks names → HasChanged Here.1.state Here.1.marks names
  changed_back names (at, reach, changed) =
      let z = reach_from_one There.1.state names at reach in
      let p = reach_partner (Turned By) (OrBound Every Here.1) There.1.state Here.1.state turned z.0 (inl tt) at z.2 in
      let w = (ended Every body draws s t same.meter (λ name l. tt) (HasPair same.names.by) same.names.same).alike.marks.changed_back at changed in
      (p.0, reach_by_one Here.1.state names z.0 p.0 z.1 p.2, subst (λ n. IsIn Here.1.marks.changed n) (ends.pairs.right w.0 p.0 at w.1 p.1) w.2)

raised_same : (e : ListedCell) (s t : State) → SameStates s t → SameStates (raised e s) (raised e t)
raised_same e s t h = record {
  names = record { by = h.names.by; same = record { pairs = h.names.same.pairs; names = h.names.same.names; objects = h.names.same.objects } };
  count = ap (λ (n : ℕ). n + cond e.counted 1 0) h.count;
  meter = h.meter;
}

pub entry_alike : (read : TreeReader) (e : ListedCell) (s t : State) → SameStates s t → Renamed (entry_done read e s) (entry_done read e t)
entry_alike read e s t h = renamed (statements (read e.code)) e.draws (raised e s) (raised e t) (raised_same e s t h)

-- ---- a list with one cell more

entry_kept : (entries : List ListedCell) (e : ListedCell) (c : ℕ) → c < length entries → entry (entries ++ e ∷ []) c ≡ entry entries c
entry_kept [] e c l = let none : ⊥ = omega (arith, l) in absurd none
entry_kept (x ∷ entries) e zero l = refl
entry_kept (x ∷ entries) e (suc c) l = entry_kept entries e c (omega (arith, l))

entry_new : (entries : List ListedCell) (e : ListedCell) → entry (entries ++ e ∷ []) (length entries) ≡ e
entry_new [] e = refl
entry_new (x ∷ entries) e = entry_new entries e

-- a cell keeps a state closed
closed_then : (read : TreeReader) (e : ListedCell) (t : State) → IsClosed t → IsClosed (entry_done read e t).1.state
closed_then read e t c = closed_after (statements (read e.code)) e.draws (raised e t) (raised_closed e t c)

module _ (read : TreeReader) (entries : List ListedCell) (e : ListedCell) where
  abbrev Longer : List ListedCell
  Longer = entries ++ e ∷ []

  longer_length : length Longer ≡ suc (length entries)
  longer_length = let f = length-append entries (e ∷ []) in omega (arith, f)

  pub state_kept : (c : ℕ) → c ≤ length entries → state_after read Longer c ≡ state_after read entries c
  state_kept zero l = refl
  state_kept (suc c) l =
      ap (λ (x : ListedCell). (entry_done read x (state_after read Longer c)).1.state) (entry_kept entries e c (omega (arith, l)))
      ∙ ap (λ (s : State). (entry_done read (entry entries c) s).1.state) (state_kept c (omega (arith, l)))

  marks_kept : (c : ℕ) → c < length entries → marks_of read Longer (suc c) ≡ marks_of read entries (suc c)
  marks_kept c l =
      ap (λ (x : ListedCell). (entry_done read x (state_after read Longer c)).1.marks) (entry_kept entries e c l)
      ∙ ap (λ (s : State). (entry_done read (entry entries c) s).1.marks) (state_kept c (omega (arith, l)))

  steps_kept : (c : ℕ) → c < length entries → steps_of read Longer (suc c) ≡ steps_of read entries (suc c)
  steps_kept c l =
      ap (λ (x : ListedCell). (entry_done read x (state_after read Longer c)).1.steps) (entry_kept entries e c l)
      ∙ ap (λ (s : State). (entry_done read (entry entries c) s).1.steps) (state_kept c (omega (arith, l)))

  -- the last cell
  abbrev N : ℕ
  N = length entries

  abbrev Old : State
  Old = state_after read entries N

  last_done : entry_done read (entry Longer N) (state_after read Longer N) ≡ entry_done read e Old
  last_done = ap (λ (x : ListedCell). entry_done read x (state_after read Longer N)) (entry_new entries e) ∙ ap (λ (s : State). entry_done read e s) (state_kept N (omega arith))

  pub last_state : state_after read Longer (suc N) ≡ (entry_done read e Old).1.state
  last_state = ap (λ (o : Outcome (Option (List ℕ))). o.1.state) last_done

  -- ---- it is a run list, if the last cell takes just its draws

  pub longer_list : IsRunList read entries → UsesUp (statements (read e.code)) (raised e Old) e.draws → IsRunList read Longer
  longer_list list uses c l = elim (cases_eq c N) [
    | inl is ↦ subst (λ n. UsesUp (statements (read (entry Longer n).code)) (raised (entry Longer n) (state_after read Longer n)) (entry Longer n).draws) (sym is)
        (subst (λ (s : State). UsesUp (statements (read (entry Longer N).code)) (raised (entry Longer N) s) (entry Longer N).draws) (sym (state_kept N (omega arith)))
        (subst (λ (x : ListedCell). UsesUp (statements (read x.code)) (raised x Old) x.draws) (sym (entry_new entries e)) uses))
    | inr other ↦
        let less : c < N = omega (arith, l, longer_length, other) in
        subst (λ (s : State). UsesUp (statements (read (entry Longer c).code)) (raised (entry Longer c) s) (entry Longer c).draws) (sym (state_kept c (omega (arith, less))))
        (subst (λ (x : ListedCell). UsesUp (statements (read x.code)) (raised x (state_after read entries c)) x.draws) (sym (entry_kept entries e c less)) (list c less))
  ]

  module _ (size : List Name → State → ℕ) where
    abbrev Short : Run
    Short = run_of read size entries

    abbrev Long : Run
    Long = run_of read size Longer

    -- ---- its first cells are the list without the last

    first_alike : (c : ℕ) → c < N → Alike Short (first_cells Long N) c
    first_alike c l =
        let run = is_run read entries size in
        let before : suc c - 1 ≡ c = omega arith in
        let near : suc c - 1 < N = omega (arith, l, before) in
        alike_equal Short (first_cells Long N) c (run.closed c) (run.closed (suc c)) (sym (state_kept c (omega (arith, l)))) (sym (state_kept (suc c) (omega (arith, l)))) (sym (marks_kept c l))
        (ap (λ (x : ListedCell). x.code) (sym (entry_kept entries e (suc c - 1) near))) (sym (steps_kept c l))
        (λ names. ap (size names) (sym (state_kept (suc c) (omega (arith, l)))))

    pub first_history : (g : Graph) → IsHistory Short g → IsHistory (first_cells Long N) g
    first_history g h = history_on Short (first_cells Long N) refl first_alike g h

    -- ---- the last cell from a state that is the same

    module _ (t : State) (closed : IsClosed t) (same : SameStates Old t) (tells : TellsAlike size) (q : Run) (is : IsCellFrom read size e t N q) where
      abbrev o : Outcome (Option (List ℕ))
      o = entry_done read e Old

      abbrev u : Outcome (Option (List ℕ))
      u = entry_done read e t

      both : Renamed o u
      both = entry_alike read e Old t same

      long_marks : Long.marks (suc N) ≡ o.1.marks
      long_marks = ap (λ (x : Outcome (Option (List ℕ))). x.1.marks) last_done

      long_state : Long.state (suc N) ≡ o.1.state
      long_state = last_state

      same_here : Same Every (Long.state N) (q.state N)
      same_here = subst (λ (s : State). Same Every s (q.state N)) (sym (state_kept N (omega arith))) (subst (Same Every Old) (sym is.before) same.names)

      same_after : Same Every (Long.state (suc N)) (q.state (suc N))
      same_after = subst (λ (s : State). Same Every s (q.state (suc N))) (sym long_state) (subst (Same Every o.1.state) (sym is.after) both.states.names)

      on : (names : List Name) → HasChanged o.1.state o.1.marks names → HasChanged u.1.state u.1.marks names
      on = changed_on (statements (read e.code)) e.draws (raised e Old) (raised e t) (raised_same e Old t same)

      back : (names : List Name) → HasChanged u.1.state u.1.marks names → HasChanged o.1.state o.1.marks names
      back = changed_back (statements (read e.code)) e.draws (raised e Old) (raised e t) (raised_same e Old t same)

      last_alike : Alike Long q N
      last_alike = record {
        before = same_here;
        meter = ap (λ (s : State). s.meter) (state_kept N (omega arith)) ∙ (same.meter ∙ ap (λ (s : State). s.meter) (sym is.before));
        after = same_after;
        looked = ap (λ (m : Marks). m.looked) long_marks ∙ (both.looked ∙ ap (λ (m : Marks). m.looked) (sym is.marks));
        bound = ap (λ (m : Marks). m.bound) long_marks ∙ (both.bound ∙ ap (λ (m : Marks). m.bound) (sym is.marks));
        drew = ap (λ (m : Marks). m.drew) long_marks ∙ (both.drew ∙ ap (λ (m : Marks). m.drew) (sym is.marks));
        changed = λ names w. changed_equal u.1.state (q.state (suc N)) u.1.marks (q.marks (suc N)) names (sym is.after) (sym is.marks)
            (on names (changed_equal (Long.state (suc N)) o.1.state (Long.marks (suc N)) o.1.marks names long_state long_marks w));
        changed_back = λ names w. changed_equal o.1.state (Long.state (suc N)) o.1.marks (Long.marks (suc N)) names (sym long_state) (sym long_marks)
            (back names (changed_equal (q.state (suc N)) u.1.state (q.marks (suc N)) u.1.marks names is.after is.marks w));
        code =
            let before : suc N - 1 ≡ N = omega arith in
            ap (λ n. (entry Longer n).code) before ∙ (ap (λ (x : ListedCell). x.code) (entry_new entries e) ∙ sym is.code);
        steps = ap (λ (x : Outcome (Option (List ℕ))). x.1.steps) last_done ∙ (both.steps ∙ sym is.steps);
        sizes = λ names. tells names (Long.state (suc N)) (q.state (suc N)) ((is_run read Longer size).closed (suc N))
            (subst IsClosed (sym is.after) (closed_then read e t closed)) (same_over (Long.state (suc N)) (q.state (suc N)) same_after names) ∙ sym (is.sizes names);
      }

      pub last_history : (g k : Graph) → IsHistory Short g → IsNext q N g k → IsHistory Long k
      last_history g k h next =
          let first : IsHistory (first_cells Long N) g = first_history g h in
          let whole : IsHistory (first_cells Long (suc N)) k = grown Long N g k (next_on q Long N (alike_turned Long q N last_alike) g k next) (is_run read Longer size) first in
          subst (λ n. IsHistory (first_cells Long n) k) (sym longer_length) whole

-- ---- the session

pub begins_so : (read : TreeReader) (size : List Name → State → ℕ) → StandsFor read size [] (record { cells = []; versions = [] }) empty
begins_so read size = record {
  list = λ c l. let none : ⊥ = omega (arith, l) in absurd none;
  history = nothing_yet (run_of read size []);
  closed = empty_closed;
  same = states_themselves empty empty_closed;
}

module _ (read : TreeReader) (size : List Name → State → ℕ) (entries : List ListedCell) (g : Graph) (t : State) (stands : StandsFor read size entries g t) where
  -- it takes the same draws as in the list
  same_uses : (e : ListedCell) → UsesUp (statements (read e.code)) (raised e t) e.draws → UsesUp (statements (read e.code)) (raised e (state_after read entries (length entries))) e.draws
  same_uses e uses =
      let both = entry_alike read e (state_after read entries (length entries)) t stands.same in
      record { ends = λ k. uses.ends (sym both.result ∙ k); takes = both.drawn ∙ uses.takes }

  pub one_more : TellsAlike size → (e : ListedCell) → UsesUp (statements (read e.code)) (raised e t) e.draws → (q : Run) (k : Graph) → IsCellFrom read size e t (length entries) q → IsNext q (length entries) g k
      → StandsFor read size (entries ++ e ∷ []) k (entry_done read e t).1.state
  one_more tells e uses q k is next = record {
    list = longer_list read entries e stands.list (same_uses e uses);
    history = last_history read entries e size t stands.closed stands.same tells q is g k stands.history next;
    closed = closed_then read e t stands.closed;
    same =
        let both = entry_alike read e (state_after read entries (length entries)) t stands.same in
        subst (λ n. SameStates (state_after read (entries ++ e ∷ []) n) (entry_done read e t).1.state) (sym (longer_length read entries e))
        (subst (λ (s : State). SameStates s (entry_done read e t).1.state) (sym (last_state read entries e)) both.states);
  }

  -- ---- a move

  abbrev Last : State
  Last = state_after read entries (length entries)

  copies_of_last : (p : Plan) (copy : ℕ → State) → AreCopies g p t copy → AreCopies g p Last copy
  copies_of_last p copy copies v x copied at there plain =
      let w = copies v x copied at there plain in
      (w.0, same_through (Contains x.names) Last t (copy v) (same_over Last t stands.same.names x.names) w.1)

  pub moved : (p : Plan) (copy : ℕ → State) → NamesOf g p → IsFeasible g p → AreCopies g p t copy → (u : State) → Walked read copy g p (length entries) u
      → StandsFor read size entries g (with_tallies t u)
  moved p copy names feasible copies u walked =
      let run = is_run read entries size in
      let r : Run = run_of read size entries in
      let good = walk_good read copy r g p run (follows read entries size stands.list) stands.history names feasible (copies_of_last p copy copies) (length entries) u walked (omega arith) in
      let back : Same Every Last u = without_tallies Last u (restored r run g stands.history p feasible u good).same.names in
      record {
        list = stands.list;
        history = stands.history;
        closed = record { names = good.closed.names; objects = good.closed.objects };
        same = record {
          names = record { by = back.by; same = record { pairs = back.same.pairs; names = back.same.names; objects = back.same.objects } };
          count = stands.same.count;
          meter = stands.same.meter;
        };
      }

  pub never_asks_so : (p : Plan) (copy : ℕ → State) → NamesOf g p → IsFeasible g p → AreCopies g p t copy → (c : ℕ) (u : State) (x : CellRecord) → Walked read copy g p c u
      → Contains p.rerun (suc c) → CellAt g (suc c) x → ¬ Asks (done_again read x u)
  never_asks_so p copy names feasible copies c u x walked rerun at =
      never_asks read copy (run_of read size entries) g p (is_run read entries size) (follows read entries size stands.list) stands.history names feasible
      (copies_of_last p copy copies) c u x walked rerun at

  pub equal_so : (p : Plan) (copy : ℕ → State) → NamesOf g p → IsFeasible g p → AreCopies g p t copy → (u v w : State) → Walked read copy g p (length entries) u
      → IsTidied t v → IsTidied (with_tallies t u) w → v ≡ w
  equal_so p copy names feasible copies u v w walked before after =
      let same = (moved p copy names feasible copies u walked).same in
      tidied_equal t (with_tallies t u) v w (states_through t Last (with_tallies t u) (states_turned Last t stands.same) same) before after

  -- ---- its objects numbered anew

  pub tidied_so : (u : State) → IsTidied t u → StandsFor read size entries g u
  tidied_so u tidied = record {
    list = stands.list;
    history = stands.history;
    closed = tidied_closed t u tidied;
    same = states_through Last t u stands.same (tidied_same t u tidied);
  }

  pub versions_so : HasVersions g t
  versions_so = has_versions (run_of read size entries) (is_run read entries size) g stands.history t stands.same.names

  pub sizes_so : TellsAlike size → (v : ℕ) (x : Version) → IsActive g v x → x.size ≡ size x.names t
  sizes_so tells v x active = has_sizes (run_of read size entries) (is_run read entries size) g stands.history t stands.same.names size tells stands.closed (λ n names. refl) v x active
