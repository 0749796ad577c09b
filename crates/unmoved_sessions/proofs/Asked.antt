-- Cells wait in the main list, so the journal answers them in the order in which they were asked.
use Rattle.std.proofs.Common.{◌≡◌, Bool, true, false, not, ◌&&◌, inl, inr, List, [], ◌∷◌, refl, sym, ap, ◌∙◌, subst, ◌⊎◌, ℕ}
use Rattle.std.specs.Prelude.{filter}
use Rattle.std.specs.List.{AllByRecursion}
use Rattle.graph_model.specs.declared.plan.Weights.{Weights}
use Rattle.session_core.specs.declared.request.Ask.{Ask}
use Rattle.session_core.specs.declared.request.Request.{Request}
use Rattle.session_core.specs.Asks.{is_move, IsMove, came_on_control, is_main, is_control}
use Rattle.session_core.proofs.Happening.{filter_yes, filter_no}
use Rattle.unmoved_sessions.specs.Cells.{AsksCell}

-- a cell is no move
pub no_move : (P : ℕ → Weights → Type 0) (r : Request) → AsksCell r → IsMove P r.ask → ⊥
no_move P r (code, is) moves = subst (IsMove P) is moves

no_control : (r : Request) → AsksCell r → is_control r ≡ false
no_control r (code, is) = ap (λ (a : Ask). is_move a && came_on_control r.channel) is

no_controls : (rs : List Request) → AllByRecursion AsksCell rs → filter is_control rs ≡ []
no_controls [] cells = refl
no_controls (r ∷ rs) cells = filter_no is_control r rs (no_control r cells.0) ∙ no_controls rs cells.1

all_main : (rs : List Request) → AllByRecursion AsksCell rs → filter is_main rs ≡ rs
all_main [] cells = refl
all_main (r ∷ rs) cells = filter_yes is_main r rs (ap not (no_control r cells.0)) ∙ ap (λ z. r ∷ z) (all_main rs cells.1)

either_way : (b : Bool) → (b ≡ true) ⊎ (b ≡ false)
either_way true = inl refl
either_way false = inr refl

-- if no request waits in the control list, all wait in the main list
pub main_alone : (rs : List Request) → filter is_control rs ≡ [] → filter is_main rs ≡ rs
main_alone [] none = refl
main_alone (r ∷ rs) none = elim (either_way (is_control r)) [
  | inl is ↦
      let some = filter_yes is_control r rs is in
      let no : ⊥ = cc in absurd no
  | inr is ↦ filter_yes is_main r rs (ap not is) ∙ ap (λ z. r ∷ z) (main_alone rs (sym (filter_no is_control r rs is) ∙ none))
]

-- lists of requests are the same if the same of each wait in the control list and in the main list, and one has only cells
pub same_list : (rs cells : List Request) → AllByRecursion AsksCell cells → filter is_main rs ≡ filter is_main cells → filter is_control rs ≡ filter is_control cells → rs ≡ cells
same_list rs cells are main control = sym (main_alone rs (control ∙ no_controls cells are)) ∙ main ∙ all_main cells are
