use Rattle.std.proofs.Common.{◌≡◌, ℕ, List, not, ap, ◌∙◌}
use Rattle.std.specs.Prelude.{Contains, ◌↔◌, filter}
use Rattle.std.proofs.lemmas.Result.{IfOk-weaker}
use Rattle.py_machine.specs.Marked.{has_member}
use Rattle.graph_model.specs.Faults.{TextBelow, Ascends}
use Rattle.history_graph.specs.Touched.{Misses}
use Rattle.history_graph.proofs.Missed.{missing_are}
use Rattle.history_graph.proofs.missing.missing_of.Goals as goal

pub returns-clause-ascends : goal.returns-clause-ascends
returns-clause-ascends c =
    let held = c.in_ok-held.held in
    let keys = c.as_slice.ensures ∙ c.in_ok-looked.ensures in
    IfOk-weaker c.outside.result (λ (rest : List (List ℕ)). rest ≡ filter (λ name. not (has_member held name)) c.as_slice.result.now) (λ (rest : List (List ℕ)). Ascends TextBelow rest)
    (λ (rest : List (List ℕ)) e. (missing_are c.args.graph.now c.args.marks.now held rest c.in_ok-held.ensures (e ∙ ap (λ (ns : List (List ℕ)). filter (λ name. not (has_member held name)) ns) keys)).0)
    c.outside.ensures

pub returns-clause-missing : goal.returns-clause-missing
returns-clause-missing c =
    let held = c.in_ok-held.held in
    let keys = c.as_slice.ensures ∙ c.in_ok-looked.ensures in
    IfOk-weaker c.outside.result (λ (rest : List (List ℕ)). rest ≡ filter (λ name. not (has_member held name)) c.as_slice.result.now)
    (λ (rest : List (List ℕ)). (name : List ℕ) → Contains rest name ↔ Misses c.args.graph.now c.args.marks.now name)
    (λ (rest : List (List ℕ)) e. (missing_are c.args.graph.now c.args.marks.now held rest c.in_ok-held.ensures (e ∙ ap (λ (ns : List (List ℕ)). filter (λ name. not (has_member held name)) ns) keys)).1)
    c.outside.ensures
