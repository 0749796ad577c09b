-- The states that cells of texts leave are plain.
use Rattle.std.proofs.Common.{◌≡◌, ℕ, zero, suc, ◌≤◌, List, [], ◌∷◌, Ok, Err, refl, arith}
use Rattle.std.specs.Str.{IsUtf8}
use Rattle.std.specs.FinMap as finite
use Rattle.std.proofs.lemmas.Str.{IsUtf8-nil, IsUtf8-from_is_utf8}
use Rattle.py_heap.specs.declared.state.State.{State}
use Rattle.py_reader.specs.Verdict.{Judged, verdict}
use Rattle.run_graph.specs.Soundness.{statements}
use Rattle.run_graph.specs.RunLists.{ListedCell, entry, raised, state_after, marks_of, steps_of}
use Rattle.every_history.specs.Reading.{tree_in, read}
use Rattle.notebook_meaning.specs.Codes.{HaveCodes}
use Rattle.notebook_meaning.proofs.Validity.{few_steps}
use Rattle.plain_states.specs.Constants.{constants_in}
use Rattle.plain_states.specs.Plain.{ArePlain, AreWords, IsPlainState}
use Rattle.plain_states.proofs.Cells.{plain_empty, plain_after, few_looked}
use Rattle.session_texts.proofs.Tokens.{constants_plain}
use Rattle.session_texts.specs.Words.{HaveWords}

text_of_entry : (cells : List ListedCell) (n : ℕ) → HaveCodes cells → IsUtf8 (entry cells n).code
text_of_entry [] n h = IsUtf8-nil
text_of_entry (e ∷ cells) zero h = IsUtf8-from_is_utf8 e.code h.0.0
text_of_entry (e ∷ cells) (suc n) h = text_of_entry cells n h.1

words_of_entry : (cells : List ListedCell) (n : ℕ) → HaveWords cells → AreWords (entry cells n).draws
words_of_entry [] n h = tt
words_of_entry (e ∷ cells) zero h = h.0
words_of_entry (e ∷ cells) (suc n) h = words_of_entry cells n h.1

tree_plain : (code : List ℕ) (judged : Judged) → verdict code ≡ judged → IsUtf8 code → ArePlain (constants_in (statements (tree_in judged)))
tree_plain code (Ok body) e u = constants_plain code body u e
tree_plain code (Err fault) e u = tt

read_plain : (code : List ℕ) → IsUtf8 code → ArePlain (constants_in (statements (read code)))
read_plain code u = tree_plain code (verdict code) refl u

raised_plain : (e : ListedCell) (s : State) → IsPlainState s → IsPlainState (raised e s)
raised_plain e s h = record { names = h.names; objects = h.objects; few = h.few; meter = h.meter }

pub plain_at : (cells : List ListedCell) (n : ℕ) → HaveCodes cells → HaveWords cells → IsPlainState (state_after read cells n)
plain_at cells zero codes words = plain_empty
plain_at cells (suc c) codes words =
    let e : ListedCell = entry cells c in
    plain_after (statements (read e.code)) e.draws (raised e (state_after read cells c)) (read_plain e.code (text_of_entry cells c codes)) (words_of_entry cells c words)
    (raised_plain e (state_after read cells c) (plain_at cells c codes words))

pub few_looked_at : (cells : List ListedCell) (c : ℕ) → HaveCodes cells → HaveWords cells → finite.len (marks_of read cells (suc c)).looked ≤ 1000000
few_looked_at cells c codes words =
    let e : ListedCell = entry cells c in
    let l = few_looked (statements (read e.code)) e.draws (raised e (state_after read cells c)) (read_plain e.code (text_of_entry cells c codes)) (words_of_entry cells c words)
    (raised_plain e (state_after read cells c) (plain_at cells c codes words)) in
    let m : steps_of read cells (suc c) ≤ 1000000 = few_steps cells (suc c) in
    omega (arith, l, m)
