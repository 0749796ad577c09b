-- What a request asks, and in which list it waits.
use Rattle.std.specs.Prelude.{ℕ, Bool, true, false, not, ◌&&◌}
use Rattle.graph_model.specs.declared.plan.Weights.{Weights}
use Rattle.session_core.specs.declared.request.Channel.{Channel}
use Rattle.session_core.specs.declared.request.Channel.TheVariants.{Shell, Control}
use Rattle.session_core.specs.declared.request.Ask.{Ask}
use Rattle.session_core.specs.declared.request.Ask.TheVariants.{Execute, Info, Complete, Shutdown, Migrate}
use Rattle.session_core.specs.declared.request.Request.{Request}

-- a shutdown without a restart
abbrev pub is_end : Ask → Bool
is_end (Execute code silent store) = false
is_end Info = false
is_end (Complete code) = false
is_end (Shutdown restart) = not restart
is_end (Migrate to weights) = false

abbrev pub is_move : Ask → Bool
is_move (Execute code silent store) = false
is_move Info = false
is_move (Complete code) = false
is_move (Shutdown restart) = false
is_move (Migrate to weights) = true

-- anything but a move
abbrev pub IsWork : Ask → Type 0
IsWork (Execute code silent store) = Unit {0}
IsWork Info = Unit {0}
IsWork (Complete code) = Unit {0}
IsWork (Shutdown restart) = Unit {0}
IsWork (Migrate to weights) = ⊥

-- a move, of whose host and weights this holds
abbrev pub IsMove : (ℕ → Weights → Type 0) → Ask → Type 0
IsMove P (Execute code silent store) = ⊥
IsMove P Info = ⊥
IsMove P (Complete code) = ⊥
IsMove P (Shutdown restart) = ⊥
IsMove P (Migrate to weights) = P to weights

abbrev pub came_on_control : Channel → Bool
came_on_control Shell = false
came_on_control Control = true

-- moves that came on control wait in the control list, all other requests in the main list
abbrev pub is_control : Request → Bool
is_control r = is_move r.ask && came_on_control r.channel

abbrev pub is_main : Request → Bool
is_main r = not (is_control r)
