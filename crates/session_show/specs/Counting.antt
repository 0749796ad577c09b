-- The least engine: each ask adds one, a restart sets back, and 4 is too many; at 2 it holds a handle.
use Rattle.std.specs.Prelude.{◌≡◌, ℕ, ◌+◌, ◌==◌, ◌<◌, ◌≤◌, true, false, cond, codes, List, [], ◌∷◌, None}
use Rattle.graph_model.specs.declared.graph.CellRecord.{CellRecord}
use Rattle.graph_model.specs.declared.graph.Version.{Version}
use Rattle.graph_model.specs.declared.graph.Graph.{Graph}
use Rattle.graph_model.specs.declared.plan.Tally.TheVariants.{Count}
use Rattle.session_core.specs.declared.request.Ask.{Ask}
use Rattle.session_core.specs.declared.request.Ask.TheVariants as asks
use Rattle.session_core.specs.declared.reply.Reply.TheVariants.{Executed}
use Rattle.session_core.specs.Meanings.{Served, Meaning, more}

abbrev pub added : ℕ → Ask → ℕ
added n (asks.Execute code silent store) = n + 1
added n asks.Info = n + 1
added n (asks.Complete code) = n + 1
added n (asks.Shutdown restart) = 0
added n (asks.Migrate to weights) = n + 1

abbrev pub added_all : ℕ → List Served → ℕ
added_all n [] = n
added_all n (s ∷ served) = added_all (added n s.ask) served

abbrev pub total : List Served → ℕ
total served = added_all 0 served

abbrev pub no_graph : Graph
no_graph = record { cells = []; versions = [] }

-- a cell that drew
abbrev pub drawing : CellRecord
drawing = record { code = []; meter = 0; steps = 0; drew = true; reads = []; missing = [] }

-- the name `h`, which that cell wrote, has a handle
abbrev pub held : Version
held = record { names = codes "h" ∷ []; writer = 1; replaced = 0; absent = false; handle = true; size = 0 }

-- what can be neither copied nor made again
abbrev pub stuck_graph : Graph
stuck_graph = record { cells = drawing ∷ []; versions = held ∷ [] }

abbrev pub graph_at : ℕ → Graph
graph_at n = cond (n == 2) stuck_graph no_graph

-- it answers the total, and this is also how many objects it has
abbrev pub counting : Meaning
counting = record {
  IsRun = λ served. total served < 4;
  answer = λ served ask draws. Executed (total (more served ask draws)) false [] None None;
  Passes = λ served ask draws which. (which ≡ Count) × (4 ≤ total (more served ask draws));
  count = total;
  IsGraph = λ served g. g ≡ graph_at (total served);
  HasObjects = λ served n. n ≡ total served;
  IsText = λ served plan bytes. bytes ≡ total served ∷ [];
}
