-- The first cells of a list, and the numbers of a session after them.
use Rattle.std.proofs.Common.{◌≡◌, ℕ, zero, suc, ◌+◌, ◌-◌, ◌<◌, ◌≤◌, true, false, List, [], ◌∷◌, ◌++◌, length, take, refl, ap, sym, ◌∙◌, subst, inl, inr, arith, length-append}
use Rattle.std.proofs.lemmas.Bool.{cases_lt}
use Rattle.nb_outside.specs.declared.feed.Drawn.{Drawn}
use Rattle.py_heap.specs.declared.state.State.{State}
use Rattle.graph_model.specs.declared.plan.Tally.{Tally}
use Rattle.run_graph.specs.RunLists.{ListedCell, entry, entry_done, state_after, marks_of}
use Rattle.every_history.specs.Reading.{read}
use Rattle.session_core.specs.declared.request.Ask.{Ask}
use Rattle.session_core.specs.declared.request.Ask.TheVariants.{Execute, Info, Complete, Shutdown, Migrate}
use Rattle.session_core.specs.Meanings.{Served}
use Rattle.notebook_meaning.specs.Cells.{cell_of, with_ask, cells_after, cells_of, unmoved}
use Rattle.notebook_meaning.specs.Lists.{MayServe, MayServeAll, IsRunOfAsks}
use Rattle.notebook_meaning.specs.Numbers.{IsPassed}

take_short : {X : Type 0} (n : ℕ) (xs ys : List X) → n ≤ length xs → take n (xs ++ ys) ≡ take n xs
take_short zero xs ys l = refl
take_short (suc n) [] ys l = absurd (omega (arith, l))
take_short (suc n) (x ∷ xs) ys l = ap (λ t. x ∷ t) (take_short n xs ys (omega (arith, l)))

take_whole : {X : Type 0} (n : ℕ) (xs : List X) → length xs ≤ n → take n xs ≡ xs
take_whole zero [] l = refl
take_whole zero (x ∷ xs) l = absurd (omega (arith, l))
take_whole (suc n) [] l = refl
take_whole (suc n) (x ∷ xs) l = ap (λ t. x ∷ t) (take_whole n xs (omega (arith, l)))

pub take_length : {X : Type 0} (n : ℕ) (xs : List X) → n ≤ length xs → length (take n xs) ≡ n
take_length zero xs l = refl
take_length (suc n) [] l = absurd (omega (arith, l))
take_length (suc n) (x ∷ xs) l = ap suc (take_length n xs (omega (arith, l)))

entry_first : (n : ℕ) (cells : List ListedCell) (c : ℕ) → c < n → entry (take n cells) c ≡ entry cells c
entry_first zero cells c l = absurd (omega (arith, l))
entry_first (suc n) [] c l = refl
entry_first (suc n) (e ∷ cells) zero l = refl
entry_first (suc n) (e ∷ cells) (suc c) l = entry_first n cells c (omega (arith, l))

-- ---- the first cells leave what they leave in the list

module _ (cells : List ListedCell) (n : ℕ) where
  abbrev First : List ListedCell
  First = take n cells

  pub first_state : (c : ℕ) → c ≤ n → state_after read First c ≡ state_after read cells c
  first_state zero l = refl
  first_state (suc c) l =
      ap (λ (x : ListedCell). (entry_done read x (state_after read First c)).1.state) (entry_first n cells c (omega (arith, l)))
      ∙ ap (λ (s : State). (entry_done read (entry cells c) s).1.state) (first_state c (omega (arith, l)))

  pub first_marks : (c : ℕ) → c < n → marks_of read First (suc c) ≡ marks_of read cells (suc c)
  first_marks c l =
      ap (λ (x : ListedCell). (entry_done read x (state_after read First c)).1.marks) (entry_first n cells c l)
      ∙ ap (λ (s : State). (entry_done read (entry cells c) s).1.marks) (first_state c (omega (arith, l)))

  pub unmoved_first : n ≤ length cells → unmoved First ≡ state_after read cells n
  unmoved_first l = ap (λ (k : ℕ). state_after read First k) (take_length n cells l) ∙ first_state n (omega arith)

-- ---- no number of the session reaches 2^32, after any of its cells

abbrev pub FitsAlways : List ListedCell → Type 0
FitsAlways cells = (n : ℕ) → n < length cells → (which : Tally) → ¬ IsPassed (take (suc n) cells) which

fits_more : (cells : List ListedCell) (e : ListedCell) → FitsAlways cells → ((which : Tally) → ¬ IsPassed (cells ++ e ∷ []) which) → FitsAlways (cells ++ e ∷ [])
fits_more cells e h k n l which =
    let long : length (cells ++ e ∷ []) ≡ length cells + 1 = length-append cells (e ∷ []) in
    elim (cases_lt n (length cells)) [
      | inl before ↦ λ passed. h n before which (subst (λ (xs : List ListedCell). IsPassed xs which) (take_short (suc n) cells (e ∷ []) (omega (arith, before))) passed)
      | inr last ↦ λ passed. k which (subst (λ (xs : List ListedCell). IsPassed xs which) (take_whole (suc n) (cells ++ e ∷ []) (omega (arith, last, long))) passed)
    ]

fits_with : (cells : List ListedCell) (ask : Ask) (draws : List Drawn) → FitsAlways cells → MayServe cells ask draws → FitsAlways (with_ask cells ask draws)
fits_with cells (Execute code silent store) draws h k = fits_more cells (cell_of code silent store draws) h k.1.fits
fits_with cells Info draws h k = h
fits_with cells (Complete code) draws h k = h
fits_with cells (Shutdown true) draws h k = λ n l. absurd (omega (arith, l))
fits_with cells (Shutdown false) draws h k = h
fits_with cells (Migrate to weights) draws h k = absurd k

fits_after : (cells : List ListedCell) (served : List Served) → FitsAlways cells → MayServeAll cells served → FitsAlways (cells_after cells served)
fits_after cells [] h k = h
fits_after cells (s ∷ served) h k = fits_after (with_ask cells s.ask s.draws) served (fits_with cells s.ask s.draws h k.0) k.1

pub fits_of : (served : List Served) → IsRunOfAsks served → FitsAlways (cells_of served)
fits_of served run = fits_after [] served (λ n l. absurd (omega (arith, l))) run.all

-- ---- after the last one

whole_first : {X : Type 0} (xs : List X) → 0 < length xs → take (suc (length xs - 1)) xs ≡ xs
whole_first xs some = take_whole (suc (length xs - 1)) xs (omega (arith, some))

pub fits_last : (cells : List ListedCell) → FitsAlways cells → 0 < length cells → (which : Tally) → ¬ IsPassed cells which
fits_last cells fits some which passed =
    fits (length cells - 1) (omega (arith, some)) which (subst (λ (xs : List ListedCell). IsPassed xs which) (sym (whole_first cells some)) passed)
