-- What is in the three queues of a session, and under which number.
use Rattle.std.specs.Prelude.{◌≡◌, ℕ, Bool, true, false, ⊤}
use Rattle.session_core.specs.declared.request.Request.{Request}
use Rattle.session_core.specs.declared.entry.Entry.{Entry}
use Rattle.session_core.specs.Asks.{is_control}
use Rattle.session_queues.specs.declared.items.MainItem.{MainItem}
use Rattle.session_queues.specs.declared.items.MainItem.TheVariants.{Opening, Asked}

-- the opening has the number 0, a request that of its frontend
abbrev pub number_of : MainItem → ℕ
number_of (Opening kernel host request channel) = 0
number_of (Asked request) = request.frontend

abbrev pub is_opening : MainItem → Bool
is_opening (Opening kernel host request channel) = true
is_opening (Asked request) = false

-- no request of the control list is in the main queue
abbrev pub IsForMain : MainItem → Type 0
IsForMain (Opening kernel host request channel) = ⊤
IsForMain (Asked request) = is_control request ≡ false

abbrev pub frontend_of : Request → ℕ
frontend_of r = r.frontend

abbrev pub IsForControl : Request → Type 0
IsForControl r = is_control r ≡ true

-- no request of the control list has to come first
abbrev pub opens_control : Request → Bool
opens_control r = false

-- all entries have one number, and each may be anywhere
abbrev pub number_of_entry : Entry → ℕ
number_of_entry e = 0

abbrev pub IsForOut : Entry → Type 0
IsForOut e = ⊤

abbrev pub opens_out : Entry → Bool
opens_out e = false
