-- What a notebook serves is determined by what it served before, and by what its feed gives.
use Rattle.std.proofs.Common.{◌≡◌, ◌≢◌, ℕ, ◌<◌, ◌≤◌, Bool, true, false, cond, List, [], ◌∷◌, ◌++◌, length, refl, sym, ap, ◌∙◌, subst, ◌⊎◌, inl, inr, arith}
use Rattle.std.specs.Prelude.{Contains, ◌==◌}
use Rattle.std.proofs.lemmas.Bool.{cases_lt}
use Rattle.nb_outside.specs.declared.feed.Drawn.{Drawn}
use Rattle.graph_model.specs.declared.graph.Graph.{Graph}
use Rattle.graph_model.specs.declared.plan.Tally.{Tally}
use Rattle.graph_model.specs.declared.plan.Tally.TheVariants as tally
use Rattle.py_tree.specs.declared.statements.Stmt.{Stmt}
use Rattle.py_heap.specs.declared.state.State.{State}
use Rattle.py_machine.specs.Runs.{start}
use Rattle.py_meaning.specs.Cells.{UsesUp, outcome}
use Rattle.py_meaning.specs.Meaning.{cell}
use Rattle.py_meaning.proofs.Telling.{more_draws}
use Rattle.every_history.specs.Reading.{read}
use Rattle.part_bytes.specs.Sizing.{size_of}
use Rattle.run_graph.specs.RunLists.{ListedCell, raised, run_of}
use Rattle.run_graph.specs.Soundness.{statements}
use Rattle.run_graph.proofs.Only.{one_history}
use Rattle.history_graph.specs.Tallies.{rank}
use Rattle.replay_laws.proofs.Tidying.{no_more, no_repeats}
use Rattle.session_core.specs.declared.request.Ask.{Ask}
use Rattle.session_core.specs.declared.request.Ask.TheVariants.{Execute, Info, Complete, Shutdown, Migrate}
use Rattle.session_core.specs.Meanings.{Served, Meaning, more}
use Rattle.notebook_meaning.specs.Cells.{recorded, cell_of, cells_of, unmoved}
use Rattle.notebook_meaning.specs.Numbers.{IsPassedFirst}
use Rattle.notebook_meaning.specs.Lists.{MayServe}
use Rattle.notebook_meaning.specs.Notebooks.{IsGraphOf, HasObjectsOf, Passes, notebooks}
use Rattle.notebook_meaning.proofs.Lists.{last_may}
use Rattle.unmoved_sessions.proofs.OneWay.{IsOneWay}

-- ---- draws

-- of two beginnings of one list, one begins with the other
one_begins : {X : Type 0} (d e x y : List X) → d ++ x ≡ e ++ y → ((z : List X) × (e ≡ d ++ z)) ⊎ ((z : List X) × (d ≡ e ++ z))
one_begins [] e x y same = inl (e, refl)
one_begins (a ∷ d) [] x y same = inr (a ∷ d, refl)
one_begins {X} (a ∷ d) (b ∷ e) x y same =
    let first : a ≡ b = cc in
    let rest : d ++ x ≡ e ++ y = cc in
    elim (one_begins d e x y rest) [
      | inl l ↦ let is : e ≡ d ++ l.0 = l.1 in inl (l.0, (cc))
      | inr r ↦ let is : d ≡ e ++ r.0 = r.1 in inr (r.0, (cc))
    ]

-- a cell that uses up draws takes no others after them
no_others : (body : List Stmt) (s : State) (d e z : List Drawn) → UsesUp body s d → UsesUp body s e → e ≡ d ++ z → d ≡ e
no_others body s d e z one two is =
    let same : outcome body s e ≡ outcome body s d = ap (outcome body s) is ∙ more_draws (cell body) d z (start s) one.ends in
    sym one.takes ∙ (ap (λ o. o.1.drawn) (sym same) ∙ two.takes)

one_use : (body : List Stmt) (s : State) (d e x y : List Drawn) → UsesUp body s d → UsesUp body s e → d ++ x ≡ e ++ y → d ≡ e
one_use body s d e x y one two same = elim (one_begins d e x y same) [
  | inl l ↦ no_others body s d e l.0 one two l.1
  | inr r ↦ sym (no_others body s e d r.0 two one r.1)
]

-- an ask takes just these draws after these cells
abbrev Takes : List ListedCell → Ask → List Drawn → Type 0
Takes cells (Execute code silent store) draws = UsesUp (statements (read (recorded code))) (raised (cell_of code silent store []) (unmoved cells)) draws
Takes cells Info draws = draws ≡ []
Takes cells (Complete code) draws = draws ≡ []
Takes cells (Shutdown restart) draws = draws ≡ []
Takes cells (Migrate to weights) draws = ⊥

served_takes : (cells : List ListedCell) (ask : Ask) (draws : List Drawn) → MayServe cells ask draws → Takes cells ask draws
served_takes cells (Execute code silent store) draws may = may.1.uses
served_takes cells Info draws may = may
served_takes cells (Complete code) draws may = may
served_takes cells (Shutdown restart) draws may = may
served_takes cells (Migrate to weights) draws may = may

full_takes : (cells : List ListedCell) (ask : Ask) (draws : List Drawn) (which : Tally) → Passes cells ask draws which → Takes cells ask draws
full_takes cells (Execute code silent store) draws which full = full.1.uses
full_takes cells Info draws which full = absurd full
full_takes cells (Complete code) draws which full = absurd full
full_takes cells (Shutdown restart) draws which full = absurd full
full_takes cells (Migrate to weights) draws which full = full

one_take : (cells : List ListedCell) (ask : Ask) (d e x y : List Drawn) → Takes cells ask d → Takes cells ask e → d ++ x ≡ e ++ y → d ≡ e
one_take cells (Execute code silent store) d e x y one two same = one_use (statements (read (recorded code))) (raised (cell_of code silent store []) (unmoved cells)) d e x y one two same
one_take cells Info d e x y one two same = one ∙ sym two
one_take cells (Complete code) d e x y one two same = one ∙ sym two
one_take cells (Shutdown restart) d e x y one two same = one ∙ sym two
one_take cells (Migrate to weights) d e x y one two same = absurd one

-- ---- a number that reaches its end

serves_or_passes : (cells : List ListedCell) (ask : Ask) (draws : List Drawn) (which : Tally) → MayServe cells ask draws → Passes cells ask draws which → ⊥
serves_or_passes cells (Execute code silent store) draws which may full = may.1.fits which full.1.first.0
serves_or_passes cells Info draws which may full = full
serves_or_passes cells (Complete code) draws which may full = full
serves_or_passes cells (Shutdown restart) draws which may full = full
serves_or_passes cells (Migrate to weights) draws which may full = full

at_rank : ℕ → Tally
at_rank n = cond (n == 0) tally.Count (cond (n == 1) tally.Cells (cond (n == 2) tally.Versions (cond (n == 3) tally.Names (cond (n == 4) tally.Texts tally.Bytes))))

ranked : (which : Tally) → at_rank (rank which) ≡ which
unfolding at_rank
ranked tally.Count = refl
ranked tally.Cells = refl
ranked tally.Versions = refl
ranked tally.Names = refl
ranked tally.Texts = refl
ranked tally.Bytes = refl

one_first : (cells : List ListedCell) (w v : Tally) → IsPassedFirst cells w → IsPassedFirst cells v → w ≡ v
one_first cells w v one two = elim (cases_lt (rank w) (rank v)) [
  | inl less ↦ absurd (two.1 w less one.0)
  | inr least ↦ elim (cases_lt (rank v) (rank w)) [
    | inl less ↦ absurd (one.1 v less two.0)
    | inr most ↦
        let same : rank w ≡ rank v = omega arith in
        sym (ranked w) ∙ (ap at_rank same ∙ ranked v)
  ]
]

one_passed : (cells : List ListedCell) (ask : Ask) (draws : List Drawn) (w v : Tally) → Passes cells ask draws w → Passes cells ask draws v → w ≡ v
one_passed cells (Execute code silent store) draws w v one two = one_first (cells ++ cell_of code silent store draws ∷ []) w v one.1.first two.1.first
one_passed cells Info draws w v one two = absurd one
one_passed cells (Complete code) draws w v one two = absurd one
one_passed cells (Shutdown restart) draws w v one two = absurd one
one_passed cells (Migrate to weights) draws w v one two = absurd one

-- ---- what a list leaves

one_number : (cells : List ListedCell) (n m : ℕ) → HasObjectsOf cells n → HasObjectsOf cells m → n ≡ m
one_number cells n m (order, are, is) (other, also, same) =
    let few : length order ≤ length other = no_more (λ a b. a ≡ b) (λ a b c p q. p ∙ sym q) order other (no_repeats order are.once) (λ x c. (x, refl, (also.reached x).1 ((are.reached x).0 c))) in
    let more : length other ≤ length order = no_more (λ a b. a ≡ b) (λ a b c p q. p ∙ sym q) other order (no_repeats other also.once) (λ x c. (x, refl, (are.reached x).1 ((also.reached x).0 c))) in
    omega (arith, few, more, is, same)

-- ---- all of it

pub notebooks_one_way : IsOneWay notebooks
notebooks_one_way = record {
  served = λ run ask d e x y one two same. one_take (cells_of run) ask d e x y (served_takes (cells_of run) ask d (last_may run ask d one)) (served_takes (cells_of run) ask e (last_may run ask e two)) same;
  fits = λ run ask d e x y which one two same.
      let may = last_may run ask d one in
      let is = one_take (cells_of run) ask d e x y (served_takes (cells_of run) ask d may) (full_takes (cells_of run) ask e which two) same in
      serves_or_passes (cells_of run) ask d which may (subst (λ z. Passes (cells_of run) ask z which) (sym is) two);
  full = λ run ask d e x y w v one two same.
      let is = one_take (cells_of run) ask d e x y (full_takes (cells_of run) ask d w one) (full_takes (cells_of run) ask e v two) same in
      (is, one_passed (cells_of run) ask d w v one (subst (λ z. Passes (cells_of run) ask z v) (sym is) two));
  graph = λ run g h one two. one_history (run_of read size_of (cells_of run)) g h one.history two.history;
  objects = λ run n m one two. one_number (cells_of run) n m one two;
}
