-- What a notebook holds. Contracts see a notebook as its session.
use Rattle.std.specs.Prelude.{◌≡◌, ℕ, ◌<◌, ◌^◌, Bool, List, [], ◌∷◌, ◌++◌, length, Option, Some, None, option_map, Ok, Err}
use Rattle.graph_model.specs.declared.plan.Tally.{Tally}
use Rattle.linked_parts.specs.Parts.{ArePartsOf}
use Rattle.py_meaning.specs.declared.end.CellError.{CellError}
use Rattle.py_reader.specs.declared.fault.SyntaxFault.{SyntaxFault}
use Rattle.py_reader.specs.Verdict.{Judged, verdict}
use Rattle.notebook_meaning.specs.Errors.{failure, refused}
use Rattle.run_graph.specs.RunLists.{ListedCell, raised}
use Rattle.every_history.specs.Reading.{read}
use Rattle.part_bytes.specs.Sizing.{size_of}
use Rattle.replay_laws.specs.Sessions.{StandsFor}
use Rattle.session_core.specs.declared.reply.Reply.{Reply}
use Rattle.session_core.specs.Meanings.{Served}
use Rattle.notebook_meaning.specs.Cells.{cells_of, unmoved}
use Rattle.notebook_meaning.specs.Codes.{HaveCodes}
use Rattle.notebook_meaning.specs.Lists.{MayRun, Fills, IsRunOfAsks}
use Rattle.session_core.specs.declared.reply.Reply.TheVariants.{Executed}
use Rattle.notebook_meaning.specs.Answers.{answer_from}
use Rattle.restore_run.specs.Restoring.{IsRestoredOn}
use Rattle.notebook_engine.specs.declared.session.Session.{Session}

-- it is as one that ran these cells and never moved
pub record HoldsCells (n : Session) (cells : List ListedCell) : Type 0 where
  pub session : StandsFor read size_of cells n.history.graph n.kernel.state
  pub parts : ArePartsOf n.kernel.state n.history.parts
  pub few_cells : length n.history.graph.cells < 2 ^ 32
  pub few_versions : length n.history.graph.versions < 2 ^ 32
  pub codes : HaveCodes cells

-- it is as one that served these asks and never moved
abbrev pub StandsForAsks : Session → List Served → Type 0
StandsForAsks n served = IsRunOfAsks served × HoldsCells n (cells_of served)

-- each notebook may be used: its type keeps that its session may go on
abbrev pub IsUsable : Session → Type 0
IsUsable n = Unit {0}

-- it is what the bytes restore on the host
abbrev pub IsImage : Session → List ℕ → ℕ → Type 0
IsImage n bytes host = IsRestoredOn bytes host (record { kernel = n.kernel; history = n.history; objects = length n.kernel.state.heap })

-- whatever cells it holds: this one takes just its draws after them, and with it this is the first number that reaches 2^32
abbrev pub PassesWith : Session → ListedCell → Tally → Type 0
PassesWith n e which = (cells : List ListedCell) → HoldsCells n cells → Fills cells e which

-- after these cells, which the notebook held, it ran this one, and now it holds that one too; and this is the reply to it
pub record HasRun (now : Session) (cells : List ListedCell) (silent : Bool) (code : List ℕ) (e : ListedCell) (reply : Reply) : Type 0 where
  pub may : MayRun cells e
  pub holds : HoldsCells now (cells ++ e ∷ [])
  pub reply_is : reply ≡ answer_from (raised e (unmoved cells)) silent e.draws (verdict code)

-- ---- how a cell ended

abbrev pub fault_in : Judged → Option SyntaxFault
fault_in (Ok body) = None
fault_in (Err fault) = Some fault

-- what is answered for it
abbrev pub reply_from : ℕ → Bool → Option SyntaxFault → List ℕ → Option (List ℕ) → Option CellError → Reply
reply_from count silent (Some fault) printed shown error = Executed count silent [] None (Some (refused fault))
reply_from count silent None printed shown error = Executed count silent printed shown (option_map failure error)
