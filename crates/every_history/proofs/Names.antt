-- Cells of codes bind only names that a program may bind, and look up only identifiers: such names are in their trees.
use Rattle.std.proofs.Common.{◌≡◌, ◌&&◌, ℕ, zero, suc, Bool, true, false, IsTrue, List, Ok, Err, refl, inl, inr}
use Rattle.std.proofs.lemmas.List.Elements.{All-nil}
use Rattle.py_names.specs.Names.{is_identifier, is_variable}
use Rattle.py_tree.specs.declared.statements.Stmt.{Stmt}
use Rattle.py_heap.specs.declared.state.State.{State}
use Rattle.py_heap.specs.References.{IsClosed}
use Rattle.py_machine.specs.Runs.{Name}
use Rattle.py_laws.specs.Mentioned.{names_in, AllPass, NamesPass, FunctionsPass}
use Rattle.py_laws.proofs.Knowing.{used, functions_after}
use Rattle.py_reader.specs.Verdict.{Judged, verdict}
use Rattle.reader_laws.proofs.Variables.{in_cell}
use Rattle.run_graph.specs.Histories.{Looks, Binds}
use Rattle.run_graph.specs.Soundness.{HasNames, statements}
use Rattle.run_graph.specs.RunLists.{ListedCell, entry, raised, state_after, run_of}
use Rattle.run_graph.proofs.Runs.{is_run}
use Rattle.every_history.specs.Reading.{tree_in, read}

tree_named : (o : Judged) → ((body : List Stmt) → o ≡ Ok body → AllPass is_variable (names_in body)) → AllPass is_variable (names_in (statements (tree_in o)))
tree_named (Ok body) h = h body refl
tree_named (Err fault) h = All-nil (λ name. IsTrue (is_variable name))

-- the names that are in what a code runs
pub named : (code : List ℕ) → AllPass is_variable (names_in (statements (read code)))
named code = tree_named (verdict code) (in_cell code)

pub first_holds : (a b : Bool) → IsTrue (a && b) → a ≡ true
first_holds true b h = refl
first_holds false b h = cc

module _ (size : List Name → State → ℕ) (entries : List ListedCell) where
  abbrev at : ℕ → ListedCell
  at c = entry entries c

  abbrev before : ℕ → State
  before c = raised (at c) (state_after read entries c)

  closed : (c : ℕ) → IsClosed (before c)
  closed c = let h : IsClosed (state_after read entries c) = (is_run read entries size).closed c in record { names = h.names; objects = h.objects }

  functions : (c : ℕ) → FunctionsPass is_variable (state_after read entries c)
  functions zero = All-nil (NamesPass is_variable)
  functions (suc c) = functions_after is_variable (statements (read (at c).code)) (at c).draws (before c) (closed c) (named (at c).code) (functions c)

  bound : (c : ℕ) (x : Name) → Binds (run_of read size entries) c x → IsTrue (is_variable x)
  bound c x b = used is_variable (statements (read (at c).code)) (at c).draws (before c) (closed c) (named (at c).code) (functions c) x (inr b)

  looked : (c : ℕ) (x : Name) → Looks (run_of read size entries) c x → IsTrue (is_variable x)
  looked c x l = used is_variable (statements (read (at c).code)) (at c).draws (before c) (closed c) (named (at c).code) (functions c) x (inl l)

  pub has_names : HasNames (run_of read size entries)
  has_names = record { bound = bound; looked = λ c x l. first_holds (is_identifier x) _ (looked c x l) }
