-- What calls on an engine promise.
use Rattle.std.specs.Prelude.{◌≡◌, ℕ, List, Result, Ok, Err}
use Rattle.nb_outside.specs.declared.feed.Drawn.{Drawn}
use Rattle.nb_outside.specs.Feeds.{Seen, Fed}
use Rattle.graph_model.specs.declared.graph.Graph.{Graph}
use Rattle.graph_model.specs.declared.graph.Version.{Version}
use Rattle.graph_model.specs.declared.plan.Weights.{Weights}
use Rattle.graph_model.specs.Graphs.{VersionAt, IsStuck, IsFirstStuck}
use Rattle.graph_model.specs.Plans.{AreAdmitted}
use Rattle.graph_model.specs.Networks.{IsCertified}
use Rattle.plan_model.specs.Weighing.{IsWeightFault}
use Rattle.session_core.specs.declared.request.Ask.{Ask}
use Rattle.session_core.specs.declared.reply.Done.{Done}
use Rattle.session_core.specs.declared.engine.RunFault.{RunFault}
use Rattle.session_core.specs.declared.engine.RunFault.TheVariants as run
use Rattle.session_core.specs.declared.engine.Packed.{Packed}
use Rattle.session_core.specs.declared.engine.PackFault.{PackFault}
use Rattle.session_core.specs.declared.engine.PackFault.TheVariants as pack
use Rattle.session_core.specs.Meanings.{Served, Meaning, more}

-- what a call of run took from its feed: if it answers, the draws that it says
abbrev pub HasDrawn : Result Done RunFault → Seen → Seen → Type 0
HasDrawn (Ok done) old new = Fed old done.draws new
HasDrawn (Err run.OutOfMemory) old new = (draws : List Drawn) × Fed old draws new
HasDrawn (Err (run.TooMany which draws)) old new = Fed old draws new

module _ (meaning : Meaning) where
  -- after this list, the reply is the answer to the ask with what was drawn, or a number passes its end
  abbrev pub RunsOn : List Served → Ask → Result Done RunFault → Type 0
  RunsOn served ask (Ok done) = (done.reply ≡ meaning.answer served ask done.draws) × meaning.IsRun (more served ask done.draws)
  RunsOn served ask (Err run.OutOfMemory) = Unit {0}
  RunsOn served ask (Err (run.TooMany which draws)) = meaning.Passes served ask draws which

  -- The pack of what this list leaves: its graph's certified plan under the weights, and its text under that plan; or the
  -- first reason against it.
  abbrev pub Packs : List Served → Weights → Result Packed PackFault → Type 0
  Packs served w (Ok packed) = (g : Graph) × meaning.IsGraph served g × AreAdmitted g w × ((version cell : ℕ) → ¬ IsStuck g version cell)
      × IsCertified g w packed.certified × meaning.IsText served packed.certified.plan packed.bytes
  Packs served w (Err pack.OutOfMemory) = (g : Graph) × meaning.IsGraph served g × AreAdmitted g w
  Packs served w (Err (pack.BadWeights fault)) = (g : Graph) × meaning.IsGraph served g × IsWeightFault g w fault
  Packs served w (Err (pack.Stuck version cell names)) = (g : Graph) × meaning.IsGraph served g × AreAdmitted g w
      × IsFirstStuck g version cell × ((x : Version) × VersionAt g version x × (names ≡ x.names))
