-- A cell that has run left a valid state valid.
use Rattle.std.proofs.Common.{◌≡◌, Bool, IsTrue, List, Result, Ok, Err, OnOk, IfOk, sym, subst}
use Rattle.py_tree.specs.declared.statements.Def.{Def}
use Rattle.py_tree.specs.declared.statements.Stmt.{Stmt}
use Rattle.py_heap.specs.declared.state.State.{State}
use Rattle.py_heap.specs.Valid.{IsValidBy}
use Rattle.py_meaning.specs.declared.end.CellEnd.{CellEnd}
use Rattle.py_meaning.specs.Cells.{end_state}
use Rattle.py_laws.specs.Allowed.{AreAllowedBy}
use Rattle.py_laws.proofs.Validity.{valid_after}

-- valid before, it is valid after
abbrev pub StaysValid : List Stmt → State → State → Type 0
StaysValid body s t = (test : Def → Bool) → AreAllowedBy test body → ((def : Def) → IsTrue (test def) → AreAllowedBy test def.body) → IsValidBy test s → IsValidBy test t

pub stays_valid : {E : Type 0} (body : List Stmt) (s t : State) (r : Result CellEnd E) → IfOk r (λ end. t ≡ end_state body s end.draws) → OnOk r (StaysValid body s t)
stays_valid body s t (Ok end) e = λ test allowed bodies valid. subst (IsValidBy test) (sym e) (valid_after (λ def. IsTrue (test def)) bodies body end.draws s allowed valid)
stays_valid body s t (Err fault) e = tt
