-- What answers each entry of a journal. (Jupyter messaging 5.3; `docs/PROTOCOL.md` lists the messages.)
use Rattle.std.specs.Prelude.{◌≡◌, ℕ, Bool, true, false, List, [], ◌∷◌, ◌++◌, codes, decimal, length, map, take, drop, zero, suc, Option, Some, None}
use Rattle.std.specs.List.{repeat}
use Rattle.serde_json.specs.Data.{Data, string, boolean, array, no_items, item}
use Rattle.serde_json.specs.View.{items_of}
use Rattle.graph_model.specs.declared.plan.Node.{Node}
use Rattle.graph_model.specs.declared.plan.Node.TheVariants.{Source, Version, Cell, Sink}
use Rattle.graph_model.specs.declared.plan.FlowArc.{FlowArc}
use Rattle.graph_model.specs.declared.plan.Plan.{Plan}
use Rattle.graph_model.specs.declared.plan.Certified.{Certified}
use Rattle.plan_model.specs.declared.weights.Weight.{Weight}
use Rattle.plan_model.specs.declared.weights.Weight.TheVariants.{CopyBase, PerByte, RunBase, PerStep}
use Rattle.plan_model.specs.declared.weights.WeightFault.{WeightFault}
use Rattle.plan_model.specs.declared.weights.WeightFault.TheVariants.{Over, TooMuch}
use Rattle.session_core.specs.declared.request.Channel.{Channel}
use Rattle.session_core.specs.declared.request.Header.{Header}
use Rattle.session_core.specs.declared.request.Request.{Request}
use Rattle.session_core.specs.declared.request.Ask.{Ask}
use Rattle.session_core.specs.declared.request.Ask.TheVariants as ask
use Rattle.session_core.specs.declared.reply.Reply.{Reply}
use Rattle.session_core.specs.declared.reply.Reply.TheVariants as reply
use Rattle.session_core.specs.declared.reply.Completion.{Completion}
use Rattle.session_core.specs.declared.reply.Completion.TheVariants as completion
use Rattle.session_core.specs.declared.entry.DiedCause.{DiedCause}
use Rattle.session_core.specs.declared.entry.DiedCause.TheVariants as died
use Rattle.session_core.specs.declared.entry.MoveRefusal.{MoveRefusal}
use Rattle.session_core.specs.declared.entry.MoveRefusal.TheVariants as refusal
use Rattle.session_core.specs.declared.entry.Entry.{Entry}
use Rattle.session_core.specs.declared.entry.Entry.TheVariants as entry
use Rattle.session_core.specs.declared.reply.Failure.{Failure}
use Rattle.reply_frames.specs.declared.lists.Listing.{Listing}
use Rattle.reply_frames.specs.declared.lists.Listing.TheVariants as listing
use Rattle.reply_frames.specs.Messages.{Said, json, whole, on_iopub, channel_name, busy, idle, evalue, traceback, input, streams, results, error, reply_content}
use Rattle.reply_frames.specs.Frames.{Outgoing, kernel_name, frames, say_all}

-- a reply goes on the channel of its request
abbrev pub on_channel : Channel → List ℕ → Data → Said
on_channel channel kind content = record { channel = channel_name channel; kind = kind; content = content }

abbrev pub replied : Request → List ℕ → Data → Said
replied request kind content = on_channel request.channel kind content

-- ---- opening a kernel

unfoldable pub open_content : ℕ → Data
open_content host = json ((codes "host", whole host) ∷ (codes "status", string (codes "ok")) ∷ [])

-- ---- what ran

-- the error of a cell, or its result if it has one
unfoldable pub outcome : ℕ → Option (List ℕ) → Option Failure → List Said
outcome count shown None = results count shown
outcome count shown (Some failure) = error failure ∷ []

abbrev pub code_of : Ask → List ℕ
code_of (ask.Execute code silent store) = code
code_of ask.Info = []
code_of (ask.Complete code) = code
code_of (ask.Shutdown restart) = []
code_of (ask.Migrate to weights) = []

unfoldable pub cell_reply : Request → ℕ → Option Failure → Said
cell_reply request count failure = replied request (codes "execute_reply") (reply_content count failure)

-- a silent cell says its reply alone
unfoldable pub cell_said : Bool → Request → ℕ → List ℕ → Option (List ℕ) → Option Failure → List Said
cell_said true request count printed shown failure = cell_reply request count failure ∷ []
cell_said false request count printed shown failure =
    input (code_of request.ask) count ∷ (streams printed ++ (outcome count shown failure ++ cell_reply request count failure ∷ []))

unfoldable pub language_content : Data
language_content = json ((codes "file_extension", string (codes ".py")) ∷ (codes "mimetype", string (codes "text/x-python"))
    ∷ (codes "name", string (codes "python")) ∷ (codes "version", string (codes "3")) ∷ [])

unfoldable pub info_content : Data
info_content = json ((codes "banner", string (codes "elastic_notebook")) ∷ (codes "help_links", array no_items)
    ∷ (codes "implementation", string (codes "elastic_notebook")) ∷ (codes "implementation_version", string (codes "1"))
    ∷ (codes "language_info", language_content) ∷ (codes "protocol_version", string (codes "5.3")) ∷ (codes "status", string (codes "ok")) ∷ [])

-- a code that may be gone on with names the spaces of its next line
unfoldable pub completion_content : Completion → Data
completion_content completion.Complete = json ((codes "status", string (codes "complete")) ∷ [])
completion_content (completion.Incomplete indent) = json ((codes "indent", string (repeat indent (codes " "))) ∷ (codes "status", string (codes "incomplete")) ∷ [])
completion_content completion.Invalid = json ((codes "status", string (codes "invalid")) ∷ [])

unfoldable pub shutdown_content : Bool → Data
shutdown_content restart = json ((codes "restart", boolean restart) ∷ (codes "status", string (codes "ok")) ∷ [])

unfoldable pub ran_said : Request → Reply → List Said
ran_said request (reply.Executed count silent printed shown failure) = cell_said silent request count printed shown failure
ran_said request reply.Info = replied request (codes "kernel_info_reply") info_content ∷ []
ran_said request (reply.Complete whether) = replied request (codes "is_complete_reply") (completion_content whether) ∷ []
ran_said request (reply.Shut restart) = replied request (codes "shutdown_reply") (shutdown_content restart) ∷ []

-- ---- what a session that is dead answers

abbrev pub reply_kind : Ask → List ℕ
reply_kind (ask.Execute code silent store) = codes "execute_reply"
reply_kind ask.Info = codes "kernel_info_reply"
reply_kind (ask.Complete code) = codes "is_complete_reply"
reply_kind (ask.Shutdown restart) = codes "shutdown_reply"
reply_kind (ask.Migrate to weights) = codes "migrate_reply"

unfoldable pub failed_content : Failure → Data
failed_content f = json ((codes "ename", string f.name) ∷ (codes "evalue", string (evalue f)) ∷ (codes "status", string (codes "error")) ∷ (codes "traceback", traceback f) ∷ [])

-- the reply to a cell has the count too
unfoldable pub failed_reply : ℕ → Ask → Failure → Data
failed_reply count (ask.Execute code silent store) f = reply_content count (Some f)
failed_reply count ask.Info f = failed_content f
failed_reply count (ask.Complete code) f = failed_content f
failed_reply count (ask.Shutdown restart) f = failed_content f
failed_reply count (ask.Migrate to weights) f = failed_content f

unfoldable pub failed_said : Request → ℕ → Failure → List Said
failed_said request count f = replied request (reply_kind request.ask) (failed_reply count request.ask f) ∷ []

abbrev pub died_text : DiedCause → List ℕ
died_text died.OutOfMemory = codes "out of memory"
died_text (died.TooMany which draws) = codes "session full"

unfoldable pub died_failure : DiedCause → Failure
died_failure cause = record { name = codes "KernelDied"; text = died_text cause }

unfoldable pub dead_failure : Failure
dead_failure = record { name = codes "DeadKernel"; text = codes "kernel is dead" }

-- ---- plans and flows

-- a version that is copied, or a cell that runs again
unfoldable pub step : List ℕ → ℕ → Data
step word number = array (item (string word) (item (whole number) no_items))

-- copies, then reruns
unfoldable pub steps : Plan → List Data
steps plan = map (step (codes "copy")) plan.copied ++ map (step (codes "run")) plan.rerun

abbrev pub node_name : Node → List ℕ
node_name Source = codes "s"
node_name (Version v) = codes "v" ++ decimal v
node_name (Cell c) = codes "c" ++ decimal c
node_name Sink = codes "t"

unfoldable pub arc_said : FlowArc → Data
arc_said arc = array (item (string (node_name arc.from)) (item (string (node_name arc.to)) (item (whole arc.flow) no_items)))

-- a list in chunks of n items, the last of which may be shorter; there are no more chunks than the first number says
unfoldable pub chunks : ℕ → ℕ → List Data → List (List Data)
chunks zero n ds = []
chunks (suc more) n [] = []
chunks (suc more) n (d ∷ ds) = take n (d ∷ ds) ∷ chunks more n (drop n (d ∷ ds))

unfoldable pub listed : Listing → List Data → Said
listed listing.Plan chunk = on_iopub (codes "migrate_plan") (json ((codes "items", array (items_of chunk)) ∷ []))
listed listing.Flow chunk = on_iopub (codes "migrate_flow") (json ((codes "arcs", array (items_of chunk)) ∷ []))

-- a list without items says nothing
unfoldable pub lists : Listing → List Data → List Said
lists which items = map (listed which) (chunks (length items) 4096 items)

-- ---- the reply to a move

-- the value of the flow is the cost of the plan
unfoldable pub moved_content : ℕ → ℕ → Certified → ℕ → Data
moved_content from to c objects = json ((codes "copied", whole (length c.plan.copied)) ∷ (codes "cost", whole c.cost) ∷ (codes "flow", whole c.cost)
    ∷ (codes "from", whole from) ∷ (codes "objects", whole objects) ∷ (codes "rerun", whole (length c.plan.rerun))
    ∷ (codes "status", string (codes "ok")) ∷ (codes "to", whole to) ∷ [])

unfoldable pub stayed_content : List ℕ → List ℕ → Data
stayed_content name text = json ((codes "ename", string name) ∷ (codes "evalue", string text) ∷ (codes "status", string (codes "error")) ∷ [])

-- at most 1,000 names, and how many there are
unfoldable pub stuck_content : ℕ → ℕ → List (List ℕ) → Data
stuck_content version cell names = json ((codes "cell", whole cell) ∷ (codes "ename", string (codes "Stuck"))
    ∷ (codes "evalue", string (codes "neither copied nor recomputed")) ∷ (codes "names", array (items_of (map string (take 1000 names))))
    ∷ (codes "size", whole (length names)) ∷ (codes "status", string (codes "error")) ∷ (codes "version", whole version) ∷ [])

abbrev pub weight_name : Weight → List ℕ
weight_name CopyBase = codes "copy_base"
weight_name PerByte = codes "per_byte"
weight_name RunBase = codes "run_base"
weight_name PerStep = codes "per_step"

abbrev pub weight_text : WeightFault → List ℕ
weight_text (Over weight) = weight_name weight
weight_text (TooMuch sum) = codes "sum"

unfoldable pub refused_content : ℕ → MoveRefusal → Data
refused_content owner (refusal.Stuck version cell names) = stuck_content version cell names
refused_content owner refusal.SameHost = stayed_content (codes "SameHost") (codes "host " ++ decimal owner)
refused_content owner (refusal.UnknownHost host) = stayed_content (codes "UnknownHost") (codes "host " ++ decimal host)
refused_content owner (refusal.BadWeights fault) = stayed_content (codes "BadWeights") (weight_text fault)
refused_content owner refusal.DeadKernel = stayed_content (codes "DeadKernel") (codes "kernel is dead")

unfoldable pub resumed_content : Data
resumed_content = stayed_content (codes "Resumed") (codes "out of memory")

abbrev pub move_reply : Request → Data → Said
move_reply request content = replied request (codes "migrate_reply") content

unfoldable pub adopted_said : Request → ℕ → ℕ → Certified → ℕ → List Said
adopted_said request from to certified objects = lists listing.Plan (steps certified.plan)
    ++ (lists listing.Flow (map arc_said certified.arcs) ++ move_reply request (moved_content from to certified objects) ∷ [])

-- ---- entries

-- what is said between busy and idle to whom, if anyone asked
pub record Answer : Type 0 where
  pub request : Header
  pub said : List Said

abbrev pub answers : Request → List Said → Option Answer
answers request said = Some (record { request = request.header; said = said })

unfoldable pub answer_of : Entry → Option Answer
answer_of (entry.Opened host request channel) = Some (record { request = request; said = on_channel channel (codes "kernel_open_reply") (open_content host) ∷ [] })
answer_of (entry.Ran host request draws reply) = answers request (ran_said request reply)
answer_of (entry.Died host request count cause) = answers request (failed_said request count (died_failure cause))
answer_of (entry.Dead host request count) = answers request (failed_said request count dead_failure)
answer_of (entry.Sealed host request to) = None
answer_of (entry.Moved to) = None
answer_of (entry.Adopted from to request certified objects) = answers request (adopted_said request from to certified objects)
answer_of (entry.Refused host request reason) = answers request (move_reply request (refused_content host reason) ∷ [])
answer_of (entry.Resumed host request) = answers request (move_reply request resumed_content ∷ [])

abbrev pub between : List Said → List Said
between said = busy ∷ (said ++ idle ∷ [])

abbrev pub answer_frames : ℕ → Option Answer → ℕ → List ℕ
answer_frames kernel None first = []
answer_frames kernel (Some answer) first = frames (kernel_name kernel) answer.request first (between answer.said)

abbrev pub answer_length : Option Answer → ℕ
answer_length None = 0
answer_length (Some answer) = length (between answer.said)

-- the frames of an entry, with running numbers from the first on
abbrev pub entry_frames : ℕ → Entry → ℕ → List ℕ
entry_frames kernel e first = answer_frames kernel (answer_of e) first

-- how many there are
abbrev pub entry_length : Entry → ℕ
entry_length e = answer_length (answer_of e)

-- ---- saying an entry

abbrev pub say_middle : Option Answer → Outgoing → Outgoing
say_middle None o = o
say_middle (Some answer) o = say_all answer.said o

-- the header of the request that is answered
abbrev pub IsAnswered : Option Answer → Option Header → Type 0
IsAnswered None header = header ≡ None
IsAnswered (Some answer) header = header ≡ Some answer.request
