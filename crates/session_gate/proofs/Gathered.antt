-- A session that was served to its end.
use Rattle.std.proofs.Common.{◌≡◌, ℕ, ◌<◌, ◌≤◌, List, [], ◌++◌, append-nil, sym, ap, ◌∙◌}
use Rattle.ruled_queue.specs.Rule.{of, Keeps}
use Rattle.session_core.specs.declared.request.Request.{Request}
use Rattle.session_core.specs.declared.entry.Entry.{Entry}
use Rattle.session_core.specs.Legal.{asked}
use Rattle.session_queues.specs.declared.items.MainItem.{MainItem}
use Rattle.session_queues.specs.Items.{number_of, frontend_of}
use Rattle.session_queues.specs.Ends.{Held, FoundNothing}
use Rattle.session_gate.specs.Answered.{opening_of, as_main, as_control, IsAnswered}

main_is : (kernel : ℕ) (entries : List Entry) (ends : Held) → IsAnswered kernel entries ends [] → ends.main.popped ++ [] ≡ opening_of kernel entries ++ as_main (asked entries)
main_is kernel entries ends h = append-nil ends.main.popped ∙ h.0 ∙ ap (λ rs. opening_of kernel entries ++ as_main rs) (append-nil (asked entries))

control_is : (kernel : ℕ) (entries : List Entry) (ends : Held) → IsAnswered kernel entries ends [] → ends.control.popped ++ [] ≡ as_control (asked entries)
control_is kernel entries ends h = append-nil ends.control.popped ∙ h.1 ∙ ap as_control (append-nil (asked entries))

pub main_all : (kernel : ℕ) (entries : List Entry) (ends : Held) (n : ℕ) (l : List MainItem) → IsAnswered kernel entries ends [] → FoundNothing ends → Keeps n l ends.main.lists → l ≡ of number_of n (opening_of kernel entries ++ as_main (asked entries))
main_all kernel entries ends n l h none keeps = none.0.of_each n l keeps ∙ ap (of number_of n) (main_is kernel entries ends h)

pub control_all : (kernel : ℕ) (entries : List Entry) (ends : Held) (n : ℕ) (l : List Request) → IsAnswered kernel entries ends [] → FoundNothing ends → Keeps n l ends.control.lists → l ≡ of frontend_of n (as_control (asked entries))
control_all kernel entries ends n l h none keeps = none.1.of_each n l keeps ∙ ap (of frontend_of n) (control_is kernel entries ends h)

pub main_none : (kernel : ℕ) (entries : List Entry) (ends : Held) (n : ℕ) → IsAnswered kernel entries ends [] → FoundNothing ends → 0 < ends.main.given → ends.main.given ≤ n → of number_of n (opening_of kernel entries ++ as_main (asked entries)) ≡ []
main_none kernel entries ends n h none some above = ap (of number_of n) (sym (main_is kernel entries ends h)) ∙ none.0.later some n above

pub control_none : (kernel : ℕ) (entries : List Entry) (ends : Held) (n : ℕ) → IsAnswered kernel entries ends [] → FoundNothing ends → 0 < ends.control.given → ends.control.given ≤ n → of frontend_of n (as_control (asked entries)) ≡ []
control_none kernel entries ends n h none some above = ap (of frontend_of n) (sym (control_is kernel entries ends h)) ∙ none.1.later some n above
