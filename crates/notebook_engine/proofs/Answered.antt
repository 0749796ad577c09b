-- What is answered for a cell, wherever the session has been.
use Rattle.std.proofs.Common.{◌≡◌, ℕ, ◌+◌, Bool, cond, List, [], Option, None, Some, option_map, Ok, Err, refl, ap, sym, ◌∙◌}
use Rattle.std.specs.Str.{IsUtf8}
use Rattle.nb_outside.specs.declared.feed.Drawn.{Drawn}
use Rattle.py_heap.specs.declared.state.State.{State}
use Rattle.py_meaning.specs.declared.end.CellError.{CellError}
use Rattle.py_meaning.specs.Cells.{outcome, end, error_in, result_in}
use Rattle.py_reader.specs.declared.fault.SyntaxFault.{SyntaxFault}
use Rattle.py_reader.specs.Verdict.{Judged, verdict}
use Rattle.notebook_meaning.specs.Errors.{failure, refused}
use Rattle.run_graph.specs.RunLists.{ListedCell, raised, entry_done}
use Rattle.run_graph.specs.Soundness.{statements}
use Rattle.every_history.specs.Reading.{tree_in, read}
use Rattle.graph_model.specs.declared.graph.Graph.{Graph}
use Rattle.part_bytes.specs.Sizing.{size_of}
use Rattle.replay_laws.specs.Sessions.{StandsFor}
use Rattle.replay_laws.proofs.GoingOn.{entry_alike}
use Rattle.notebook_meaning.specs.Cells.{recorded, unmoved}
use Rattle.session_core.specs.declared.reply.Reply.TheVariants.{Executed}
use Rattle.notebook_meaning.specs.Answers.{answer_from}
use Rattle.notebook_meaning.proofs.Recorded.{reads_alike}
use Rattle.notebook_engine.specs.Holding.{fault_in, reply_from}

module _ (cells : List ListedCell) (g : Graph) (t : State) (stands : StandsFor read size_of cells g t) (code : List ℕ) (utf8 : IsUtf8 code) (draws : List Drawn) (counted : Bool) (silent : Bool) where
  abbrev E : ListedCell
  E = record { code = recorded code; draws = draws; counted = counted }

  abbrev U : State
  U = unmoved cells

  same_count : (raised E t).count ≡ (raised E U).count
  same_count = ap (λ (n : ℕ). n + cond counted 1 0) (sym stands.same.count)

  -- what the statements did
  done_as : (o : Judged) → verdict code ≡ o → (s : State) → entry_done read E s ≡ outcome (statements (tree_in o)) (raised E s) draws
  done_as o v s = ap (λ tree. outcome (statements tree) (raised E s) draws) (reads_alike code utf8 ∙ ap tree_in v)

  by_verdict : (o : Judged) → verdict code ≡ o
      → reply_from (raised E t).count silent (fault_in o) (end (statements (tree_in o)) (raised E t) draws).printed (end (statements (tree_in o)) (raised E t) draws).result (end (statements (tree_in o)) (raised E t) draws).error
      ≡ answer_from (raised E U) silent draws o
  by_verdict (Err fault) v = ap (λ (n : ℕ). Executed n silent [] None (Some (refused fault))) same_count
  by_verdict (Ok body) v =
      let both = entry_alike read E U t stands.same in
      let here = done_as (Ok body) v t in
      let there = done_as (Ok body) v U in
      let printed : (outcome body (raised E t) draws).1.printed ≡ (outcome body (raised E U) draws).1.printed =
      sym (ap (λ o. o.1.printed) here) ∙ (sym both.printed ∙ ap (λ o. o.1.printed) there) in
      let result : (outcome body (raised E t) draws).0 ≡ (outcome body (raised E U) draws).0 = sym (ap (λ o. o.0) here) ∙ (sym both.result ∙ ap (λ o. o.0) there) in
      ap (λ (n : ℕ). Executed n silent (outcome body (raised E t) draws).1.printed (result_in (outcome body (raised E t) draws).0) (option_map failure (error_in (outcome body (raised E t) draws).0))) same_count
      ∙ (ap (λ (text : List ℕ). Executed (raised E U).count silent text (result_in (outcome body (raised E t) draws).0) (option_map failure (error_in (outcome body (raised E t) draws).0))) printed
      ∙ ap (λ r. Executed (raised E U).count silent (outcome body (raised E U) draws).1.printed (result_in r) (option_map failure (error_in r))) result)

  pub answered : (count : ℕ) (fault : Option SyntaxFault) (printed : List ℕ) (shown : Option (List ℕ)) (error : Option CellError)
      → count ≡ (raised E t).count → fault ≡ fault_in (verdict code)
      → printed ≡ (end (statements (read code)) (raised E t) draws).printed → shown ≡ (end (statements (read code)) (raised E t) draws).result
      → error ≡ (end (statements (read code)) (raised E t) draws).error
      → reply_from count silent fault printed shown error ≡ answer_from (raised E U) silent draws (verdict code)
  answered count fault printed shown error n f p s e =
      ap (λ (z : ℕ). reply_from z silent fault printed shown error) n
      ∙ (ap (λ z. reply_from (raised E t).count silent z printed shown error) f
      ∙ (ap (λ z. reply_from (raised E t).count silent (fault_in (verdict code)) z shown error) p
      ∙ (ap (λ z. reply_from (raised E t).count silent (fault_in (verdict code)) (end (statements (read code)) (raised E t) draws).printed z error) s
      ∙ (ap (λ z. reply_from (raised E t).count silent (fault_in (verdict code)) (end (statements (read code)) (raised E t) draws).printed (end (statements (read code)) (raised E t) draws).result z) e
      ∙ by_verdict (verdict code) refl))))
