-- The frames of errors, entries and sessions, one after the other.
use Rattle.std.proofs.Common.{◌≡◌, ℕ, ◌+◌, ◌<◌, ◌≤◌, List, [], ◌∷◌, ◌++◌, length, get_or, drop, refl, ap, sym, ◌∙◌}
use Rattle.std.proofs.lemmas.List.{drop_more, drop_all}
use Rattle.session_core.specs.declared.entry.Entry.{Entry}
use Rattle.reply_frames.specs.declared.node.NodeError.{NodeError}
use Rattle.reply_frames.specs.Nodes.{frame_of}
use Rattle.reply_frames.specs.Replies.{entry_frames, entry_length}
use Rattle.node_run.specs.Journals.{ServedSession, journal_of}
use Rattle.node_run.specs.Frames.{error_frames, journal_frames, run_frames, parts_together}

pub error_first : (first : ℕ) (e : NodeError) (errors : List NodeError) → error_frames first (e ∷ errors) ≡ frame_of first e ++ error_frames (first + 1) errors
unfolding error_frames
error_first first e errors = refl

pub error_end : (first : ℕ) → error_frames first [] ≡ []
unfolding error_frames
error_end first = refl

-- the error at an index comes next
pub error_next : (at : ℕ) (e : NodeError) (errors : List NodeError) → at < length errors → e ≡ get_or errors at e
    → error_frames (at + 1) (drop at errors) ≡ frame_of (at + 1) e ++ error_frames ((at + 1) + 1) (drop (at + 1) errors)
error_next at e errors within is =
    ap (error_frames (at + 1)) (drop_more errors at e within ∙ ap (λ z. z ∷ drop (at + 1) errors) (sym is)) ∙ error_first (at + 1) e (drop (at + 1) errors)

pub error_past : (at first : ℕ) (errors : List NodeError) → length errors ≤ at → error_frames first (drop at errors) ≡ []
error_past at first errors past = ap (error_frames first) (drop_all at errors past) ∙ error_end first

pub entry_first : (kernel first : ℕ) (e : Entry) (es : List Entry) → journal_frames kernel first (e ∷ es) ≡ entry_frames kernel e first ++ journal_frames kernel (first + entry_length e) es
unfolding journal_frames
entry_first kernel first e es = refl

pub entry_end : (kernel first : ℕ) → journal_frames kernel first [] ≡ []
unfolding journal_frames
entry_end kernel first = refl

pub entry_next : (kernel first next at : ℕ) (e : Entry) (es : List Entry) → at < length es → e ≡ get_or es at e → next ≡ first + entry_length e
    → journal_frames kernel first (drop at es) ≡ entry_frames kernel e first ++ journal_frames kernel next (drop (at + 1) es)
entry_next kernel first next at e es within is then =
    ap (journal_frames kernel first) (drop_more es at e within ∙ ap (λ z. z ∷ drop (at + 1) es) (sym is)) ∙ entry_first kernel first e (drop (at + 1) es)
    ∙ ap (λ n. entry_frames kernel e first ++ journal_frames kernel n (drop (at + 1) es)) (sym then)

pub entry_past : (kernel first at : ℕ) (es : List Entry) → length es ≤ at → journal_frames kernel first (drop at es) ≡ []
entry_past kernel first at es past = ap (journal_frames kernel first) (drop_all at es past) ∙ entry_end kernel first

pub run_first : (r : ServedSession) (runs : List ServedSession) → run_frames (r ∷ runs) ≡ journal_frames r.0 1 (journal_of r) ++ run_frames runs
unfolding run_frames
run_first r runs = refl

pub run_end : run_frames [] ≡ []
unfolding run_frames
run_end = refl

pub run_next : (at : ℕ) (r : ServedSession) (runs : List ServedSession) → at < length runs → r ≡ get_or runs at r → run_frames (drop at runs) ≡ journal_frames r.0 1 (journal_of r) ++ run_frames (drop (at + 1) runs)
run_next at r runs within is = ap run_frames (drop_more runs at r within ∙ ap (λ z. z ∷ drop (at + 1) runs) (sym is)) ∙ run_first r (drop (at + 1) runs)

pub run_past : (at : ℕ) (runs : List ServedSession) → length runs ≤ at → run_frames (drop at runs) ≡ []
run_past at runs past = ap run_frames (drop_all at runs past) ∙ run_end

-- parts of frames, one after the other

pub parts_end : parts_together [] ≡ []
parts_end = refl

pub parts_next : (at : ℕ) (part : List ℕ) (parts : List (List ℕ)) → at < length parts → part ≡ get_or parts at part → parts_together (drop at parts) ≡ part ++ parts_together (drop (at + 1) parts)
parts_next at part parts within is = ap parts_together (drop_more parts at part within ∙ ap (λ z. z ∷ drop (at + 1) parts) (sym is))

pub parts_past : (at : ℕ) (parts : List (List ℕ)) → length parts ≤ at → parts_together (drop at parts) ≡ []
parts_past at parts past = ap parts_together (drop_all at parts past)
