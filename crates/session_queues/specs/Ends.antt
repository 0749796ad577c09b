-- The ends of the queues that the owner of a session has: the consumer's passes on main and control, and the producer's pass on
-- out; and the reader's end of out.
use Rattle.std.specs.Prelude.{◌≡◌, ℕ, ◌⊎◌, Bool, true, false, ⊤, List, [], ◌∷◌, ◌++◌, Option, Some, None, length}
use Rattle.std.specs.declared.alloc.Global.{Global}
use Rattle.crossbeam_queue.specs.SegTies.{SegId}
use Rattle.ruled_queue.specs.declared.rule.View.{View}
use Rattle.ruled_queue.specs.Rule.{knows, grown, joined, looked, Took, Waits}
use Rattle.session_core.specs.declared.request.Request.{Request}
use Rattle.session_core.specs.declared.entry.Entry.{Entry}
use Rattle.session_core.specs.Asks.{is_control}
use Rattle.session_queues.specs.declared.items.MainItem.{MainItem}
use Rattle.session_queues.specs.declared.items.MainItem.TheVariants.{Asked}
use Rattle.session_queues.specs.declared.shared.SharedQueues.{SharedQueues}
use Rattle.session_queues.specs.Items.{number_of, is_opening, IsForMain, frontend_of, IsForControl, opens_control}
use Rattle.session_queues.specs.Passes.{Producer}

-- what the owner's ends of main and control know
pub record Held : Type 0 where
  pub queues : SharedQueues
  pub main : View MainItem
  pub control : View Request

-- what the reader took from out
pub record OnOut : Type 0 where
  pub out_queue : SegId Global
  pub entries : List Entry

-- what the owner pushed on out; none once the reader is closed and nothing is queued there any more
pub record Outgoing : Type 0 where
  pub out_queue : SegId Global
  pub pushed : Option (List Entry)

-- the first of its lists, which is the only one
abbrev pub first_list : List (ℕ × List Entry) → List Entry
first_list [] = []
first_list (e ∷ es) = e.1

-- the producer's pass on out pushed these
abbrev pub pushed_by : View Entry → List Entry
pushed_by v = first_list v.lists

abbrev pub publishes : List Entry → View Entry
publishes pushed = knows false [] ((0, pushed) ∷ []) 1

abbrev pub takes : List Entry → View Entry
takes entries = knows true entries [] 0

-- once the reader's seat was taken back
abbrev pub drains : List Entry → List Entry → View Entry
drains popped pushed = knows true popped ((0, pushed) ∷ []) 1

-- the consumer's pass pops, and knows that these were pushed
pub record KnowsPushed (v : View Entry) (pushed : List Entry) : Type 0 where
  pub known : v ≡ drains v.popped pushed

-- what was popped are the first of those that were pushed
abbrev pub AreFirstPushed : View Entry → Type 0
AreFirstPushed v = (pushed : List Entry) → KnowsPushed v pushed → (rest : List Entry) × (pushed ≡ v.popped ++ rest)

abbrev pub pushed_while : Bool → View Entry → Option (List Entry)
pushed_while true v = None
pushed_while false v = Some (pushed_by v)

-- all that was pushed was popped: nothing is queued any more
pub record IsDrainedOf (v : View Entry) (pushed : List Entry) : Type 0 where
  pub drained : v ≡ drains pushed pushed

-- the owner's side of out, by whether the reader is closed, with its count of what was pushed
abbrev pub IsOutlet : Bool → View Entry → ℕ → Type 0
IsOutlet true v count = (pushed : List Entry) × IsDrainedOf v pushed
IsOutlet false v count = (v ≡ publishes (pushed_by v)) × (count ≡ length (pushed_by v))

-- an entry more, if the reader isn't closed
abbrev pub one_more : Option (List Entry) → Entry → Option (List Entry)
one_more None e = None
one_more (Some pushed) e = Some (pushed ++ e ∷ [])

-- each of these entries was pushed
abbrev pub all_of : Option (List Entry) → List Entry → Option (List Entry)
all_of None entries = None
all_of (Some pushed) entries = Some entries

-- what was pushed are the first of these entries
abbrev pub AreFirst : Option (List Entry) → List Entry → Type 0
AreFirst None entries = ⊤
AreFirst (Some pushed) entries = (rest : List Entry) × (entries ≡ pushed ++ rest)

-- the reader isn't closed
abbrev pub IsOpen : Option (List Entry) → Type 0
IsOpen None = ⊥
IsOpen (Some pushed) = ⊤

-- these entries were pushed, and perhaps more
abbrev pub GoesOn : Option (List Entry) → Option (List Entry) → Type 0
GoesOn None new = new ≡ None
GoesOn (Some pushed) new = (more : List Entry) × (new ≡ Some (pushed ++ more))

-- what a reader took are the first of those that were pushed, and the reader isn't closed
abbrev pub IsTakenOf : Option (List Entry) → List Entry → Type 0
IsTakenOf None taken = ⊥
IsTakenOf (Some pushed) taken = (rest : List Entry) × (pushed ≡ taken ++ rest)

-- ---- what a pop tells

abbrev pub FoundNoControl : Held → Type 0
FoundNoControl h = Waits frontend_of h.control []

-- each of the two queues was found empty
abbrev pub FoundNothing : Held → Type 0
FoundNothing h = Waits number_of h.main [] × FoundNoControl h

-- These wait in the two queues: each list that is kept is what was popped of its number, and then what waits of it.
abbrev pub HasWaiting : Held → Type 0
HasWaiting h = ((items : List MainItem) × Waits number_of h.main items) × ((requests : List Request) × Waits frontend_of h.control requests)

-- each of the two was found empty once more
abbrev pub looked_at_both : Held → Held
looked_at_both h = record h { main = looked h.main; control = looked h.control }

-- The request was the front of the control queue; or it was the front of the main queue, and the control queue was found empty,
-- which is counted.
abbrev pub TookRequest : Held → Request → Held → Type 0
TookRequest old r new = ((is_control r ≡ true) × Took frontend_of IsForControl opens_control old.control r new.control × (new ≡ record old { control = new.control }))
    ⊎ ((is_control r ≡ false) × Took number_of IsForMain is_opening old.main (Asked r) new.main × FoundNoControl old × (new ≡ record old { main = new.main; control = looked old.control }))

-- all passes that a producer has were taken in
abbrev pub gathered : Held → Producer → Held
gathered h p = record h { main = joined h.main p.main; control = joined h.control p.control }

-- a request more, on its queue, under a number that is kept here
abbrev pub admitted_main : Held → Request → Held
admitted_main h r = record h { main = grown number_of h.main (Asked r) }

abbrev pub admitted_control : Held → Request → Held
admitted_control h r = record h { control = grown frontend_of h.control r }

-- ---- an opening

-- the first pass on main once the opening was pushed
abbrev pub pushed_first : MainItem → View MainItem
pushed_first opening = knows true [] ((0, opening ∷ []) ∷ []) 1

-- the owner's ends once the opening was popped too
abbrev pub opened_ends : SharedQueues → MainItem → Held
opened_ends queues opening = record { queues = queues; main = knows true (opening ∷ []) [] 0; control = knows true [] [] 0 }

-- the first pass
abbrev pub first_pass : SharedQueues → MainItem → Producer
first_pass queues opening = record {
  main_queue = queues.main;
  control_queue = queues.control;
  number = 0;
  main = knows false [] ((0, opening ∷ []) ∷ []) 1;
  control = knows false [] ((0, []) ∷ []) 1;
}

-- nothing was read yet
abbrev pub nothing_on : SharedQueues → OnOut
nothing_on queues = record { out_queue = queues.out; entries = [] }

-- nothing was pushed yet
abbrev pub nothing_pushed : SharedQueues → Outgoing
nothing_pushed queues = record { out_queue = queues.out; pushed = Some [] }
