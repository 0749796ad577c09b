-- What an engine gives: which lists of asks may be served, what is answered, and what such a list leaves.
use Rattle.std.specs.Prelude.{◌≡◌, ℕ, false, List, [], ◌∷◌, ◌++◌}
use Rattle.nb_outside.specs.declared.feed.Drawn.{Drawn}
use Rattle.graph_model.specs.declared.graph.Graph.{Graph}
use Rattle.graph_model.specs.declared.plan.Plan.{Plan}
use Rattle.graph_model.specs.declared.plan.Tally.{Tally}
use Rattle.graph_model.specs.Plans.{NamesOf, IsFeasible}
use Rattle.session_core.specs.declared.request.Ask.{Ask}
use Rattle.session_core.specs.declared.reply.Reply.{Reply}
use Rattle.session_core.specs.Asks.{is_end}

-- an ask that was served, and what was drawn for it
pub record Served : Type 0 where
  pub ask : Ask
  pub draws : List Drawn

pub record Meaning : Type 1 where
  -- the list may be served: each ask uses up exactly its draws, and none follows an end
  pub IsRun : List Served → Type 0
  -- the reply to an ask with its draws after a list
  pub answer : List Served → Ask → List Drawn → Reply
  -- the first of the six numbers that an ask with its draws would make reach 2^32 after a list
  pub Passes : List Served → Ask → List Drawn → Tally → Type 0
  -- what a list leaves: its count, its history graph, how many objects, and its checkpoint's text under a plan
  pub count : List Served → ℕ
  pub IsGraph : List Served → Graph → Type 0
  pub HasObjects : List Served → ℕ → Type 0
  pub IsText : List Served → Plan → List ℕ → Type 0

-- one ask more
abbrev pub more : List Served → Ask → List Drawn → List Served
more run ask draws = run ++ record { ask = ask; draws = draws } ∷ []

-- no ask of the list ended the session
abbrev pub HasNoEnd : List Served → Type 0
HasNoEnd [] = Unit {0}
HasNoEnd (s ∷ run) = (is_end s.ask ≡ false) × HasNoEnd run

-- the bytes are the text that a run list, which is not at its end, has under this plan, which is feasible for its graph
pub record IsPacked (meaning : Meaning) (run : List Served) (plan : Plan) (bytes : List ℕ) : Type 0 where
  pub is_run : meaning.IsRun run
  pub has_no_end : HasNoEnd run
  pub graph : Graph
  pub is_graph : meaning.IsGraph run graph
  pub names : NamesOf graph plan
  pub feasible : IsFeasible graph plan
  pub text : meaning.IsText run plan bytes
