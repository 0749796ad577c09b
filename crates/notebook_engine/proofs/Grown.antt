-- A session with one cell more.
use Rattle.std.proofs.Common.{◌≡◌, ℕ, zero, suc, ◌-◌, Bool, List, [], ◌∷◌, ◌++◌, length, refl, ap, sym, ◌∙◌, subst, inl, inr, arith}
use Rattle.std.specs.Str.{IsUtf8}
use Rattle.nb_outside.specs.declared.feed.Drawn.{Drawn}
use Rattle.py_tree.specs.declared.statements.Stmt.{Stmt}
use Rattle.py_heap.specs.declared.state.State.{State}
use Rattle.py_heap.specs.References.{IsClosed}
use Rattle.py_machine.specs.declared.marks.Marks.{Marks}
use Rattle.py_meaning.specs.Cells.{outcome, end_state, UsesUp}
use Rattle.graph_model.specs.declared.graph.Graph.{Graph}
use Rattle.graph_model.specs.declared.plan.Tally.{Tally}
use Rattle.linked_parts.specs.Parts.{ArePartsOf}
use Rattle.run_graph.specs.Histories.{Run}
use Rattle.run_graph.specs.RunLists.{ListedCell, raised, entry_done, run_of}
use Rattle.run_graph.specs.Soundness.{statements}
use Rattle.run_graph.proofs.Runs.{is_run}
use Rattle.every_history.specs.Reading.{read}
use Rattle.history_graph.specs.declared.history.History.{History}
use Rattle.history_graph.specs.Ends.{IsCellOf, Makes}
use Rattle.history_graph.proofs.Standing.{history_has_cells}
use Rattle.part_bytes.specs.Sizing.{size_of}
use Rattle.replay_laws.specs.Sessions.{StandsFor, IsCellFrom}
use Rattle.replay_laws.proofs.Sizing.{handle_told, tells_alike, no_size, one_has_none, size_plain}
use Rattle.replay_laws.proofs.GoingOn.{entry_alike, one_more}
use Rattle.notebook_meaning.specs.Cells.{recorded, unmoved}
use Rattle.notebook_meaning.specs.Numbers.{IsPassed}
use Rattle.notebook_meaning.specs.Lists.{MayRun}
use Rattle.notebook_meaning.proofs.Recorded.{reads_alike}

-- ---- the cell as one of a run

-- the state before it and after it
beside : State → State → ℕ → State
beside t s zero = t
beside t s (suc n) = s

module _ (cells : List ListedCell) (t : State) (code : List ℕ) (utf8 : IsUtf8 code) (draws : List Drawn) (counted : Bool) where
  abbrev E : ListedCell
  E = record { code = recorded code; draws = draws; counted = counted }

  abbrev Body : List Stmt
  Body = statements (read code)

  pub done_is : (s : State) → entry_done read E s ≡ outcome Body (raised E s) draws
  done_is s = ap (λ tree. outcome (statements tree) (raised E s) draws) (reads_alike code utf8)

  pub uses_so : (s : State) → UsesUp Body (raised E s) draws → UsesUp (statements (read (recorded code))) (raised E s) draws
  uses_so s u = subst (λ tree. UsesUp (statements tree) (raised E s) draws) (sym (reads_alike code utf8)) u

  -- the run that has the cell after as many as there are
  pub one_cell : Run
  one_cell = record {
    cells = suc (length cells);
    state = λ n. beside t (entry_done read E t).1.state (n - length cells);
    marks = λ n. (entry_done read E t).1.marks;
    code = λ n. recorded code;
    steps = λ n. (entry_done read E t).1.steps;
    draws = λ n. draws;
    counts = λ n. 0;
    size = λ n names. size_of names (beside t (entry_done read E t).1.state (n - length cells));
  }

  pub before : one_cell.state (length cells) ≡ t
  unfolding one_cell beside
  before = let z : length cells - length cells ≡ 0 = omega arith in ap (beside t (entry_done read E t).1.state) z

  pub after : one_cell.state (suc (length cells)) ≡ (entry_done read E t).1.state
  unfolding one_cell beside
  after = let z : suc (length cells) - length cells ≡ 1 = omega arith in ap (beside t (entry_done read E t).1.state) z

  pub cell_from : IsCellFrom read size_of E t (length cells) one_cell
  unfolding one_cell
  cell_from = record { before = before; after = after; marks = refl; code = refl; steps = refl; sizes = λ names. refl }

  module _ (g : Graph) (stands : StandsFor read size_of cells g t) where
    pub same_uses : UsesUp Body (raised E t) draws → UsesUp (statements (read (recorded code))) (raised E (unmoved cells)) draws
    same_uses u =
        let both = entry_alike read E (unmoved cells) t stands.same in
        let v = uses_so t u in
        record { ends = λ k. v.ends (sym both.result ∙ k); takes = both.drawn ∙ v.takes }

    pub may_run : UsesUp Body (raised E t) draws → ((which : Tally) → ¬ IsPassed (cells ++ E ∷ []) which) → MayRun cells E
    may_run u fits = record { uses = same_uses u; fits = fits }

-- with its cell recorded, the session stands for one cell more
pub grown : (cells : List ListedCell) (t s : State) (code : List ℕ) (utf8 : IsUtf8 code) (draws : List Drawn) (counted : Bool) (old now : History) (meter steps : ℕ) (marks : Marks)
    → StandsFor read size_of cells old.graph t → ArePartsOf t old.parts
    → UsesUp (statements (read code)) (raised (record { code = recorded code; draws = draws; counted = counted }) t) draws
    → s ≡ end_state (statements (read code)) (raised (record { code = recorded code; draws = draws; counted = counted }) t) draws
    → meter ≡ t.meter
    → steps ≡ (outcome (statements (read code)) (raised (record { code = recorded code; draws = draws; counted = counted }) t) draws).1.steps
    → marks ≡ (outcome (statements (read code)) (raised (record { code = recorded code; draws = draws; counted = counted }) t) draws).1.marks
    → IsClosed s → Makes s (recorded code) meter steps marks old now
    → StandsFor read size_of (cells ++ record { code = recorded code; draws = draws; counted = counted } ∷ []) now.graph s
unfolding one_cell
grown cells t s code utf8 draws counted old now meter steps marks stands parts uses state units taken noted closed makes =
    let e : ListedCell = record { code = recorded code; draws = draws; counted = counted } in
    let r : Run = one_cell cells t code utf8 draws counted in
    let c : ℕ = length cells in
    let done = done_is cells t code utf8 draws counted t in
    let at_end : r.state (suc c) ≡ s = after cells t code utf8 draws counted ∙ (ap (λ o. o.1.state) done ∙ sym state) in
    let is : IsCellOf r c s (recorded code) meter steps marks = record {
      state = at_end;
      code = refl;
      meter = ap (λ (z : State). z.meter) (before cells t code utf8 draws counted) ∙ sym units;
      steps = ap (λ o. o.1.steps) done ∙ sym taken;
      marks = ap (λ o. o.1.marks) done ∙ sym noted;
      sizes = λ names part none. ap (size_of names) at_end ∙ size_plain s names closed part none;
      handles = λ names h. ap (size_of names) at_end ∙ no_size names s (inl ((handle_told s names closed).1 h));
      absent = λ x none. ap (size_of (x ∷ [])) at_end ∙ no_size (x ∷ []) s (inr (one_has_none x s none));
    } in
    let next = makes r c is (record {
      graph = history_has_cells (run_of read size_of cells) c old.graph (is_run read cells size_of) stands.history;
      parts = subst (λ (z : State). ArePartsOf z old.parts) (sym (before cells t code utf8 draws counted)) parts;
    }) in
    subst (λ (z : State). StandsFor read size_of (cells ++ e ∷ []) now.graph z) (ap (λ o. o.1.state) done ∙ sym state)
    (one_more read size_of cells old.graph t stands tells_alike e (uses_so cells t code utf8 draws counted t uses) r now.graph (cell_from cells t code utf8 draws counted) next)
