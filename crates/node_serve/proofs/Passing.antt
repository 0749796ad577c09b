-- Errors and entries that are told one after the other.
use Rattle.std.proofs.Common.{◌≡◌, ℕ, zero, suc, ◌+◌, ◌≤◌, ◌<◌, Bool, true, false, List, [], ◌∷◌, ◌++◌, length, take, drop, get_or, refl, ap, subst, arith}
use Rattle.std.proofs.lemmas.List.{take-append-drop}
use Rattle.session_core.specs.declared.entry.Entry.{Entry}
use Rattle.reply_frames.specs.declared.node.NodeError.{NodeError}
use Rattle.reply_frames.specs.Nodes.{frame_of}
use Rattle.reply_frames.specs.Replies.{entry_frames, entry_length}
use Rattle.node_run.specs.Unsent.{frames_in}
use Rattle.node_run.proofs.Seating.{read_there}
use Rattle.node_serve.specs.Units.{error_units, entry_units}
use Rattle.node_serve.specs.Sent.{Wire, TellsWhile, SendsOn}
use Rattle.node_serve.proofs.Sendings.{unit_told, sends_longer}
use Rattle.node_serve.proofs.Tellings.{error_next, errors_front, entry_next, entries_front, number_next}

pub take_all : {X : Type 0} (n : ℕ) (xs : List X) → length xs ≤ n → take n xs ≡ xs
take_all zero [] few = refl
take_all zero (x ∷ xs) few = absurd (omega arith)
take_all (suc n) [] few = refl
take_all (suc n) (x ∷ xs) few = let less : length xs ≤ n = omega arith in ap (λ z. x ∷ z) (take_all n xs less)

-- ---- errors

abbrev pub ErrorsTold : Bool → Wire → Wire → List NodeError → ℕ → ℕ → Type 0
ErrorsTold suffices first now errors told at = SendsOn true suffices first now (error_units 1 (take told errors)) (error_units 1 (take at errors))

pub errors_on : (suffices : Bool) (first old new : Wire) (errors : List NodeError) (told at next running : ℕ) (e : NodeError) → e ≡ get_or errors at e → at < length errors → next ≡ at + 1 → running ≡ at + 1 → TellsWhile suffices old new (frame_of running e)
    → ErrorsTold true first old errors told at → ErrorsTold suffices first new errors told next
errors_on suffices first old new errors told at next running e is within after number tells on =
    unit_told suffices first old new (error_units 1 (take told errors)) (error_units 1 (take at errors)) (error_units 1 (take next errors)) (frame_of running e) tells
    (error_next errors at next running e (read_there errors at e within is) within after number) on

pub errors_done : (first now : Wire) (errors : List NodeError) (told at : ℕ) → length errors ≤ at → ErrorsTold true first now errors told at → SendsOn true true first now (error_units 1 (take told errors)) (error_units 1 errors)
errors_done first now errors told at past on = subst (λ es. SendsOn true true first now (error_units 1 (take told errors)) (error_units 1 es)) (take_all at errors past) on

-- memory ran out at the next one
pub errors_short : (first now : Wire) (errors : List NodeError) (told next : ℕ) → ErrorsTold false first now errors told next → SendsOn true false first now (error_units 1 (take told errors)) (error_units 1 errors)
errors_short first now errors told next on =
    sends_longer true first now (error_units 1 (take told errors)) (error_units 1 (take next errors)) (error_units 1 errors) (errors_front next errors) on

-- ---- entries

abbrev pub EntriesTold : Bool → Wire → Wire → ℕ → List Entry → ℕ → ℕ → Type 0
EntriesTold suffices first now kernel entries place at = SendsOn true suffices first now (entry_units kernel 1 (take place entries)) (entry_units kernel 1 (take at entries))

pub entries_on : (suffices : Bool) (first old new : Wire) (kernel : ℕ) (entries : List Entry) (place at next running : ℕ) (e : Entry) → e ≡ get_or entries at e → at < length entries → next ≡ at + 1 → running ≡ 1 + frames_in (take at entries)
    → TellsWhile suffices old new (entry_frames kernel e running) → EntriesTold true first old kernel entries place at → EntriesTold suffices first new kernel entries place next
entries_on suffices first old new kernel entries place at next running e is within after number tells on =
    unit_told suffices first old new (entry_units kernel 1 (take place entries)) (entry_units kernel 1 (take at entries)) (entry_units kernel 1 (take next entries)) (entry_frames kernel e running) tells
    (entry_next kernel running at next entries e (read_there entries at e within is) after number) on

pub number_on : (entries : List Entry) (at next running later : ℕ) (e : Entry) → e ≡ get_or entries at e → at < length entries → next ≡ at + 1 → running ≡ 1 + frames_in (take at entries) → later ≡ running + entry_length e → later ≡ 1 + frames_in (take next entries)
number_on entries at next running later e is within after number more = number_next running later at next entries e (read_there entries at e within is) after number more

pub entries_done : (first now : Wire) (kernel : ℕ) (entries : List Entry) (place at : ℕ) → length entries ≤ at → EntriesTold true first now kernel entries place at
    → SendsOn true true first now (entry_units kernel 1 (take place entries)) (entry_units kernel 1 entries)
entries_done first now kernel entries place at past on = subst (λ es. SendsOn true true first now (entry_units kernel 1 (take place entries)) (entry_units kernel 1 es)) (take_all at entries past) on

-- memory ran out at the next one
pub entries_short : (first now : Wire) (kernel : ℕ) (entries : List Entry) (place next : ℕ) → EntriesTold false first now kernel entries place next
    → SendsOn true false first now (entry_units kernel 1 (take place entries)) (entry_units kernel 1 entries)
entries_short first now kernel entries place next on =
    sends_longer true first now (entry_units kernel 1 (take place entries)) (entry_units kernel 1 (take next entries)) (entry_units kernel 1 entries)
    (subst (λ es. (more : List (List ℕ)) × (entry_units kernel 1 es ≡ entry_units kernel 1 (take next entries) ++ more)) (take-append-drop next entries) (entries_front kernel (take next entries) (drop next entries))) on
