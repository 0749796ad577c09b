-- The states that cells with codes leave.
use Rattle.std.proofs.Common.{ℕ, zero, suc, ◌≤◌, List, [], ◌∷◌, arith}
use Rattle.std.specs.Str.{IsUtf8}
use Rattle.std.proofs.lemmas.Str.{IsUtf8-nil, IsUtf8-from_is_utf8}
use Rattle.py_machine.specs.Runs.{start}
use Rattle.py_meaning.specs.Meaning.{cell}
use Rattle.py_meaning.proofs.Growing.{rises}
use Rattle.reader_laws.specs.Valid.{IsValidState}
use Rattle.run_graph.specs.Soundness.{statements}
use Rattle.run_graph.specs.RunLists.{ListedCell, entry, raised, state_after, steps_of}
use Rattle.every_history.specs.Reading.{read}
use Rattle.every_history.proofs.Valid.{empty_valid, cell_valid}
use Rattle.notebook_meaning.specs.Codes.{HaveCodes}

-- each entry of the list, and the one that is given past its end, has a text as its code
text_of_entry : (cells : List ListedCell) (n : ℕ) → HaveCodes cells → IsUtf8 (entry cells n).code
text_of_entry [] n h = IsUtf8-nil
text_of_entry (e ∷ cells) zero h = IsUtf8-from_is_utf8 e.code h.0.0
text_of_entry (e ∷ cells) (suc n) h = text_of_entry cells n h.1

pub valid_at : (cells : List ListedCell) (n : ℕ) → HaveCodes cells → IsValidState (state_after read cells n)
valid_at cells zero h = empty_valid
valid_at cells (suc c) h = cell_valid (entry cells c) (state_after read cells c) (text_of_entry cells c h) (valid_at cells c h)

pub few_steps : (cells : List ListedCell) (n : ℕ) → steps_of read cells n ≤ 1000000
few_steps cells zero = omega arith
few_steps cells (suc c) =
    let e : ListedCell = entry cells c in
    (rises (cell (statements (read e.code))) e.draws (start (raised e (state_after read cells c)))).few_steps (omega arith)
