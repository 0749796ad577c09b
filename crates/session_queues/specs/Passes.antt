-- A producer's pass on the main and the control queue of a session.
use Rattle.std.specs.Prelude.{◌≡◌, ℕ, ◌<◌, ◌≤◌, ◌⊎◌, ◌^◌, cond, List}
use Rattle.std.specs.declared.alloc.Global.{Global}
use Rattle.crossbeam_queue.specs.SegTies.{SegId}
use Rattle.ruled_queue.specs.declared.rule.View.{View}
use Rattle.ruled_queue.specs.Rule.{Keeps, gave_number, next_number, joined, grown}
use Rattle.session_core.specs.declared.request.Request.{Request}
use Rattle.session_core.specs.Asks.{is_control}
use Rattle.session_queues.specs.declared.items.MainItem.{MainItem}
use Rattle.session_queues.specs.declared.items.MainItem.TheVariants.{Asked}
use Rattle.session_queues.specs.declared.shared.SharedQueues.{SharedQueues}
use Rattle.session_queues.specs.Items.{number_of, frontend_of}

-- which queues it is of, its number, and what it knows of each
pub record Producer : Type 0 where
  pub main_queue : SegId Global
  pub control_queue : SegId Global
  pub number : ℕ
  pub main : View MainItem
  pub control : View Request

abbrev pub IsPassOf : SharedQueues → Producer → Type 0
IsPassOf queues p = (p.main_queue ≡ queues.main) × (p.control_queue ≡ queues.control)

-- a request more, on its queue
abbrev pub admitted_by : Producer → Request → Producer
admitted_by p r = cond (is_control r) (record p { control = grown frontend_of p.control r }) (record p { main = grown number_of p.main (Asked r) })

-- it gave the next number away
abbrev pub parted : Producer → Producer
parted p = record p { main = gave_number p.main; control = gave_number p.control }

-- the pass that got it
abbrev pub next_pass : Producer → Producer
next_pass p = record p { number = p.main.given; main = next_number p.main; control = next_number p.control }

-- it took in the lists of another
abbrev pub taking_in : Producer → Producer → Producer
taking_in p other = record p { main = joined p.main other.main; control = joined p.control other.control }

module _ {T : Type 0} where
  -- each number that was given is kept here
  abbrev pub KeepsAll : View T → Type 0
  KeepsAll v = (0 < v.given) × ((n : ℕ) → n < v.given → (l : List T) × Keeps n l v.lists)

-- all passes were joined into it
abbrev pub HoldsAll : Producer → Type 0
HoldsAll p = KeepsAll p.main × KeepsAll p.control

-- how many numbers were given, as a pass counts them: the count is right as long as it is below 2^32
abbrev pub Counts : ℕ → ℕ → Type 0
Counts count given = (count ≡ given) ⊎ (2 ^ 32 ≤ given)
