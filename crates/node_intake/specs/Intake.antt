-- What a node takes in of a stream of bytes: the sessions that are opened, what is asked of each, and the errors.
use Rattle.std.specs.Prelude.{◌≡◌, ℕ, ◌==◌, cond, nat_le, List, [], ◌∷◌, ◌++◌, length, map, filter, Option, Some, None, Result, Ok, Err, codes}
use Rattle.std.specs.List.{flat_map, AllByRecursion}
use Rattle.jupyter_frames.specs.Framing.{frame, IsBody, IsRest, stream, place_after}
use Rattle.session_core.specs.declared.request.Header.{Header}
use Rattle.session_core.specs.declared.request.Channel.{Channel}
use Rattle.session_core.specs.declared.request.Ask.{Ask}
use Rattle.session_core.specs.declared.request.Request.{Request}
use Rattle.session_core.specs.Asks.{is_main, is_control}
use Rattle.jupyter_messages.specs.declared.message.Message.{Message}
use Rattle.jupyter_messages.specs.declared.message.MessageKind.{MessageKind}
use Rattle.jupyter_messages.specs.declared.message.MessageKind.TheVariants as asked
use Rattle.jupyter_messages.specs.declared.fault.MessageFault.{MessageFault}
use Rattle.jupyter_messages.specs.declared.fault.MessageFault.TheVariants as fault
use Rattle.jupyter_messages.specs.Reading.{message_in}
use Rattle.reply_frames.specs.declared.node.NodeErrorKind.{NodeErrorKind}
use Rattle.reply_frames.specs.declared.node.NodeErrorKind.TheVariants as kind
use Rattle.reply_frames.specs.declared.node.About.{About}
use Rattle.reply_frames.specs.declared.node.NodeError.{NodeError}

-- a session as it was opened, and all that was asked of it
pub record Taken : Type 0 where
  pub kernel : ℕ
  pub host : ℕ
  pub request : Header
  pub channel : Channel
  pub requests : List Request

-- its two lists
abbrev pub main_requests : Taken → List Request
main_requests s = filter is_main s.requests

abbrev pub control_requests : Taken → List Request
control_requests s = filter is_control s.requests

-- the sessions in the order in which they were opened, and the errors in order
pub record Node : Type 0 where
  pub sessions : List Taken
  pub errors : List NodeError

abbrev pub no_sessions : Node
no_sessions = record { sessions = []; errors = [] }

-- the most sessions of a node, and the most requests of a session
abbrev pub most_sessions : ℕ
most_sessions = 256

abbrev pub most_requests : ℕ
most_requests = 65536

abbrev pub failed : Node → NodeErrorKind → Option About → Node
failed node what about = record node { errors = node.errors ++ record { kind = what; about = about } ∷ [] }

-- ---- a message that isn't read

abbrev pub unread : Node → MessageFault → Node
unread node fault.OutOfMemory = node
unread node fault.NotJson = failed node kind.NotJson None
unread node (fault.NoField name) = failed node (kind.BadRecord name) None
unread node (fault.WrongKind name) = failed node (kind.BadRecord name) None
unread node fault.BadUuid = failed node (kind.BadRecord (codes "kernel")) None
unread node (fault.UnknownType name) = failed node (kind.UnknownType name) None

-- ---- a message

abbrev pub about : Message → Option About
about m = Some (record { kernel = m.kernel; header = m.header })

-- the session of a kernel
abbrev pub session_of : ℕ → List Taken → Option Taken
session_of kernel [] = None
session_of kernel (s ∷ more) = cond (s.kernel == kernel) (Some s) (session_of kernel more)

abbrev pub opened : Node → Message → ℕ → Node
opened node m host = record node {
  sessions = node.sessions ++ record { kernel = m.kernel; host = host; request = m.header; channel = m.channel; requests = [] } ∷ [];
}

-- an opening makes a session if the kernel has none, the host is there, and less than 256 sessions are open
abbrev pub opening : ℕ → Node → Message → ℕ → Option Taken → Node
opening hosts node m host (Some known) = failed node kind.OpenedTwice (about m)
opening hosts node m host None = cond (nat_le hosts host) (failed node (kind.UnknownHost host) (about m))
    (cond (nat_le most_sessions (length node.sessions)) (failed node kind.TooManySessions (about m)) (opened node m host))

-- the request is put after the others of its session
abbrev pub with_request : ℕ → Request → Taken → Taken
with_request kernel r s = cond (s.kernel == kernel) (record s { requests = s.requests ++ r ∷ [] }) s

abbrev pub admitted : Node → Message → Ask → Node
admitted node m what = record node {
  sessions = map (with_request m.kernel (record { header = m.header; channel = m.channel; frontend = 0; ask = what })) node.sessions;
}

-- a request is admitted if its kernel has a session, and that had less than 65,536 requests
abbrev pub asking : Node → Message → Ask → Option Taken → Node
asking node m what None = failed node kind.UnknownKernel (about m)
asking node m what (Some known) = cond (nat_le most_requests (length known.requests)) (failed node kind.TooManyRequests (about m)) (admitted node m what)

abbrev pub with_kind : ℕ → Node → Message → MessageKind → Node
with_kind hosts node m (asked.Open host) = opening hosts node m host (session_of m.kernel node.sessions)
with_kind hosts node m (asked.Ask what) = asking node m what (session_of m.kernel node.sessions)

-- a message more
abbrev pub with_message : ℕ → Node → Result Message MessageFault → Node
with_message hosts node (Ok m) = with_kind hosts node m m.kind
with_message hosts node (Err why) = unread node why

-- messages more, one after the other
abbrev pub with_messages : ℕ → Node → List (Result Message MessageFault) → Node
with_messages hosts node [] = node
with_messages hosts node (read ∷ more) = with_messages hosts (with_message hosts node read) more

-- ---- a stream

-- frames with these bodies more, on a node with this number of hosts
abbrev pub with_frames : ℕ → Node → List (List ℕ) → Node
with_frames hosts node [] = node
with_frames hosts node (body ∷ more) = with_frames hosts (with_message hosts node (message_in body)) more

-- what comes after the last whole frame is an error, with its place
abbrev pub ended : Node → ℕ → List ℕ → Node
ended node place [] = node
ended node place (byte ∷ rest) = failed node (kind.BadFrame place) None

abbrev pub node_of : ℕ → List (List ℕ) → List ℕ → Node
node_of hosts bodies rest = ended (with_frames hosts no_sessions bodies) (place_after 0 (length (flat_map frame bodies))) rest

-- what is taken in of these bytes: of the frames up to the first place where no whole frame begins, in order
pub record IsIntake (hosts : ℕ) (bytes : List ℕ) (node : Node) : Type 0 where
  pub bodies : List (List ℕ)
  pub rest : List ℕ
  pub are_bodies : AllByRecursion IsBody bodies
  pub is_rest : IsRest rest
  pub is_stream : bytes ≡ stream bodies rest
  pub is_node : node ≡ node_of hosts bodies rest
