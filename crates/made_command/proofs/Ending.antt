-- A source of whole frames that never fails is read to its end.
use Rattle.std.proofs.Common.{◌≡◌, ℕ, suc, ◌<◌, inl, inr, List, [], ◌∷◌, ◌++◌, length, map, Some, refl, sym, ap, ◌∙◌, subst, append_assoc, append-nil, arith}
use Rattle.std.specs.List.{flat_map, AllByRecursion}
use Rattle.nb_outside.specs.Counts.{HasRisen, HasRisenBy}
use Rattle.jupyter_frames.specs.Framing.{frame, IsBody, IsBad, IsRest, stream as bytes_of}
use Rattle.jupyter_frames.proofs.Cutting.{one_cutting}
use Rattle.reply_frames.specs.declared.node.NodeError.{NodeError}
use Rattle.notebook_meaning.specs.Notebooks.{notebooks}
use Rattle.node_run.specs.declared.end.RunEnd.{RunEnd}
use Rattle.node_run.specs.declared.end.RunEnd.TheVariants.{Whole, Broken, SourceFailed, TooManyReads}
use Rattle.node_run.specs.Ends.{EndsAt}
use Rattle.node_run.specs.Journals.{ServedSession, journals_of}
use Rattle.node_run.specs.Streams.{IsNodeOf, HasRun}
use Rattle.node_run.proofs.Ending.{are_journals}
use Rattle.serde_json.specs.Written.{compact_text}
use Rattle.made_command.specs.Made.{sent, stream}
use Rattle.made_command.specs.Counting.{no_draws, capped, counts_of, line, IsCount}

-- a bad length stays one, whatever comes
abbrev pub BadStays : Type 0
BadStays = (held piece : List ℕ) (n : ℕ) → IsBad held n → IsBad (held ++ piece) n

none_risen : HasRisen 0 0 → ⊥
none_risen (inl few) = omega (arith, few)
none_risen (inr many) = omega (arith, many)

few_risen : (reads : ℕ) → reads < 4294967295 → HasRisenBy 4294967295 0 reads → ⊥
few_risen reads few (inl more) = omega (arith, few, more)
few_risen reads few (inr many) = omega (arith, few, many)

empty_front : (a b : List ℕ) → a ++ b ≡ [] → a ≡ []
empty_front [] b e = refl
empty_front (x ∷ xs) b e = absurd (let l : suc (length (xs ++ b)) ≡ 0 = ap length e in let no : ⊥ = omega (arith, l) in no)

module _ (stays : BadStays) (texts bodies : List (List ℕ)) (taken left rest : List ℕ) (are : AllByRecursion IsBody texts) (be : AllByRecursion IsBody bodies)
    (had : flat_map frame texts ≡ taken ++ left) (came : taken ≡ bytes_of bodies rest) where
  -- what comes after the frames and what is left are no rest of frames alone
  no_rest : IsRest (rest ++ left) → rest ≡ []
  no_rest is =
      let all : bytes_of bodies (rest ++ left) ≡ bytes_of texts [] = sym (append_assoc (flat_map frame bodies) rest left) ∙ (ap (λ (bs : List ℕ). bs ++ left) (sym came) ∙ (sym had ∙ sym (append-nil (flat_map frame texts)))) in
      let none : rest ++ left ≡ [] = (one_cutting bodies texts (rest ++ left) [] be are is (inl (inl (omega arith))) all).1 in
      empty_front rest left none

  not_broken : EndsAt Broken (Some left) rest → ⊥
  not_broken (some, inl (none, begun)) = some (no_rest (subst (λ (l : List ℕ). IsRest (rest ++ l)) (sym none) (subst IsRest (sym (append-nil rest)) (inl begun))))
  not_broken (some, inr (n, bad)) = some (no_rest (inr (n, stays rest left n bad)))

  -- it is read to its end
  at_end : (end : RunEnd) (reads : ℕ) → (end ≡ SourceFailed → HasRisen 0 0) → (end ≡ TooManyReads → HasRisenBy 4294967295 0 reads) → reads < 4294967295
      → EndsAt end (Some left) rest → (end ≡ Whole) × (left ≡ [])
  at_end Whole reads failed many few ends = (refl, ends.0)
  at_end Broken reads failed many few ends = absurd (not_broken ends)
  at_end SourceFailed reads failed many few ends = absurd (none_risen (failed refl))
  at_end TooManyReads reads failed many few ends = absurd (few_risen reads few (many refl))

pub counted : BadStays → (cells : ℕ) (texts : List (List ℕ)) (taken left text : List ℕ) (end : RunEnd) (reads : ℕ) (errors : List NodeError) (runs : List ServedSession)
    → AllByRecursion IsBody texts → flat_map frame texts ≡ stream cells → stream cells ≡ taken ++ left
    → (end ≡ SourceFailed → HasRisen 0 0) → (end ≡ TooManyReads → HasRisenBy 4294967295 0 reads) → reads < 4294967295
    → HasRun notebooks 3 no_draws end taken (Some left) errors runs → text ≡ line (capped (counts_of (journals_of runs))) → IsCount cells text
counted stays cells texts taken left text end reads errors runs are frames had failed many few run told =
    let is = run.is_node in
    let whole = at_end stays texts is.bodies taken left is.rest are is.are_bodies (frames ∙ had) is.is_stream end reads failed many few is.ends in
    let all : taken ≡ stream cells = sym (append-nil taken) ∙ (ap (λ (l : List ℕ). taken ++ l) (sym whole.1) ∙ sym had) in
    let ended = subst (λ (e : RunEnd). IsNodeOf 3 e taken (Some left) run.node) whole.0 is in
    let emptied = subst (λ (l : List ℕ). IsNodeOf 3 Whole taken (Some l) run.node) whole.1 ended in
    record {
      node = run.node;
      journals = journals_of runs;
      is_node = subst (λ (bs : List ℕ). IsNodeOf 3 Whole bs (Some []) run.node) all emptied;
      are_journals = are_journals notebooks 3 no_draws run.node.sessions runs run.are_runs;
      text_is = told;
    }

-- the stream is the frames of its messages
pub stream_framed : (cells : ℕ) → flat_map frame (map compact_text (sent cells)) ≡ stream cells
unfolding stream
stream_framed cells = refl
