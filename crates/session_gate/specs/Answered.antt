-- Which items a journal answers, as the queues of its session have them.
use Rattle.std.specs.Prelude.{◌≡◌, ℕ, List, [], ◌∷◌, ◌++◌, filter, map}
use Rattle.session_core.specs.declared.request.Request.{Request}
use Rattle.session_core.specs.declared.entry.Entry.{Entry}
use Rattle.session_core.specs.declared.entry.Entry.TheVariants.{Opened, Ran, Died, Dead, Sealed, Moved, Adopted, Refused, Resumed}
use Rattle.session_core.specs.Asks.{is_main, is_control}
use Rattle.session_core.specs.Legal.{asked}
use Rattle.session_queues.specs.declared.items.MainItem.{MainItem}
use Rattle.session_queues.specs.declared.items.MainItem.TheVariants.{Opening, Asked}
use Rattle.session_queues.specs.Ends.{Held}

-- the opening of this kernel's session
abbrev pub opening_by : ℕ → Entry → List MainItem
opening_by kernel (Opened host request channel) = Opening kernel host request channel ∷ []
opening_by kernel (Ran host request draws reply) = []
opening_by kernel (Died host request count cause) = []
opening_by kernel (Dead host request count) = []
opening_by kernel (Sealed host request to) = []
opening_by kernel (Moved to) = []
opening_by kernel (Adopted from to request certified objects) = []
opening_by kernel (Refused host request reason) = []
opening_by kernel (Resumed host request) = []

-- the opening, as the main queue has it
abbrev pub opening_of : ℕ → List Entry → List MainItem
opening_of kernel [] = []
opening_of kernel (e ∷ es) = opening_by kernel e ++ opening_of kernel es

-- of these requests, what the main queue has and what the control queue has
abbrev pub as_main : List Request → List MainItem
as_main rs = map (λ r. Asked r) (filter is_main rs)

abbrev pub as_control : List Request → List Request
as_control rs = filter is_control rs

-- What was popped of main is the opening of this kernel's session, then what the journal answers of it, and then what is owed; what was popped of control
-- is what the journal answers of it, and then what is owed.
abbrev pub IsAnswered : ℕ → List Entry → Held → List Request → Type 0
IsAnswered kernel entries ends owed = (ends.main.popped ≡ opening_of kernel entries ++ as_main (asked entries ++ owed)) × (ends.control.popped ≡ as_control (asked entries ++ owed))
