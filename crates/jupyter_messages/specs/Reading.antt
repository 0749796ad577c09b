-- What a JSON text says as a message, or the first thing that is wrong with it. (Jupyter messaging protocol 5.3, in its
-- JSON form.)
use Rattle.std.specs.Prelude.{ℕ, Bool, true, false, not, ◌&&◌, cond, nat_le, nat_eq, List, [], length, codes, Option, Some, None, is_some, Result, Ok, Err}
use Rattle.std.specs.Str.{is_utf8}
use Rattle.std.specs.Int.{w128, from_be_bytes}
use Rattle.std.specs.Cmp.Lexicographic.{pointwise}
use Rattle.serde_json.specs.Data.{Data}
use Rattle.serde_json.specs.Read.{read}
use Rattle.serde_json.specs.Find.{get, as_str, as_bool, as_object, as_number, as_u64}
use Rattle.uuid.specs.Text.{parsed}
use Rattle.session_core.specs.declared.request.Header.{Header}
use Rattle.session_core.specs.declared.request.Channel.{Channel}
use Rattle.session_core.specs.declared.request.Channel.TheVariants.{Shell, Control}
use Rattle.session_core.specs.declared.request.Ask.TheVariants.{Execute, Info, Complete, Shutdown, Migrate}
use Rattle.jupyter_messages.specs.declared.message.MessageKind.{MessageKind}
use Rattle.jupyter_messages.specs.declared.message.MessageKind.TheVariants.{Open, Ask}
use Rattle.jupyter_messages.specs.declared.message.Message.{Message}
use Rattle.jupyter_messages.specs.declared.read.RequestType.{RequestType}
use Rattle.jupyter_messages.specs.declared.read.RequestType.TheVariants as type
use Rattle.jupyter_messages.specs.declared.fault.MessageFault.{MessageFault}
use Rattle.jupyter_messages.specs.declared.fault.MessageFault.TheVariants.{NotJson, NoField, WrongKind, BadUuid, UnknownType}
use Rattle.jupyter_messages.specs.Outcomes.{◌>>=◌}

abbrev pub same_text : List ℕ → List ℕ → Bool
same_text = pointwise nat_eq

-- ---- members

-- a member that has to be there
unfoldable pub member : List ℕ → Data → Result Data MessageFault
member name d = elim (get name d) [ None ↦ Err (NoField name) | Some x ↦ Ok x ]

-- of a kind: what is found, or the fault of that name
unfoldable pub of_kind : {X : Type 0} → List ℕ → Option X → Result X MessageFault
of_kind name None = Err (WrongKind name)
of_kind name (Some x) = Ok x

unfoldable pub text_of : List ℕ → Data → Result (List ℕ) MessageFault
text_of name d = of_kind name (as_str d)

-- a text of at most 256 bytes
unfoldable pub short_text : List ℕ → Data → Result (List ℕ) MessageFault
short_text name d = do
  text ← text_of name d
  cond (nat_le (length text) 256) (Ok text) (Err (WrongKind name))

unfoldable pub required_text : List ℕ → Data → Result (List ℕ) MessageFault
required_text name d = member name d >>= short_text name

-- a member that may be absent, and is empty then
unfoldable pub optional_text : List ℕ → Data → Result (List ℕ) MessageFault
optional_text name d = elim (get name d) [ None ↦ Ok [] | Some x ↦ short_text name x ]

-- a member that may be absent, and is this truth value then
unfoldable pub optional_bool : List ℕ → Bool → Data → Result Bool MessageFault
optional_bool name absent d = elim (get name d) [ None ↦ Ok absent | Some x ↦ of_kind name (as_bool x) ]

-- a member that may be absent, and else is an object
unfoldable pub optional_object : List ℕ → Data → Result Bool MessageFault
optional_object name d = elim (get name d) [ None ↦ Ok true | Some x ↦ cond (is_some (as_object x)) (Ok true) (Err (WrongKind name)) ]

-- a whole number from 0 to 2^64 - 1
unfoldable pub whole_number : Data → Option ℕ
whole_number d = elim (as_number d) [ None ↦ None | Some n ↦ as_u64 n ]

unfoldable pub required_number : List ℕ → Data → Result ℕ MessageFault
required_number name d = do
  x ← member name d
  of_kind name (whole_number x)

unfoldable pub required_object : List ℕ → Data → Result Data MessageFault
required_object name d = do
  x ← member name d
  cond (is_some (as_object x)) (Ok x) (Err (WrongKind name))

-- a text of any length
unfoldable pub required_long_text : List ℕ → Data → Result (List ℕ) MessageFault
required_long_text name d = do
  x ← member name d
  text_of name x

-- ---- header, channel and kernel

unfoldable pub header_of : Data → Result Header MessageFault
header_of d = do
  msg_id ← required_text (codes "msg_id") d
  session ← required_text (codes "session") d
  msg_type ← required_text (codes "msg_type") d
  username ← optional_text (codes "username") d
  date ← optional_text (codes "date") d
  version ← optional_text (codes "version") d
  Ok (record { msg_id = msg_id; username = username; session = session; date = date; msg_type = msg_type; version = version })

unfoldable pub channel_named : List ℕ → Result Channel MessageFault
channel_named text = cond (same_text text (codes "shell")) (Ok Shell) (cond (same_text text (codes "control")) (Ok Control) (Err (WrongKind (codes "channel"))))

-- an absent channel is shell
unfoldable pub channel_of : Data → Result Channel MessageFault
channel_of d = elim (get (codes "channel") d) [ None ↦ Ok Shell | Some x ↦ text_of (codes "channel") x >>= channel_named ]

-- the number that a UUID's text means, in any of its spellings
unfoldable pub kernel_named : List ℕ → Result ℕ MessageFault
kernel_named text = elim (parsed text) [ None ↦ Err BadUuid | Some bytes ↦ Ok (from_be_bytes w128 bytes) ]

unfoldable pub kernel_of : Data → Result ℕ MessageFault
kernel_of d = do
  text ← required_long_text (codes "kernel") d
  kernel_named text

-- ---- what is asked

unfoldable pub open_of : Data → Result MessageKind MessageFault
open_of content = do
  host ← required_number (codes "host") content
  Ok (Open host)

-- a cell; a silent one is never stored
unfoldable pub execute_of : Data → Result MessageKind MessageFault
execute_of content = do
  code ← required_long_text (codes "code") content
  silent ← optional_bool (codes "silent") false content
  store ← optional_bool (codes "store_history") (not silent) content
  expressions ← optional_object (codes "user_expressions") content
  stdin ← optional_bool (codes "allow_stdin") true content
  stop ← optional_bool (codes "stop_on_error") true content
  Ok (Ask (Execute code silent (not silent && store)))

unfoldable pub complete_of : Data → Result MessageKind MessageFault
complete_of content = do
  code ← required_long_text (codes "code") content
  Ok (Ask (Complete code))

unfoldable pub shutdown_of : Data → Result MessageKind MessageFault
shutdown_of content = do
  restart ← optional_bool (codes "restart") false content
  Ok (Ask (Shutdown restart))

unfoldable pub migrate_of : Data → Result MessageKind MessageFault
migrate_of content = do
  to ← required_number (codes "to") content
  copy_base ← required_number (codes "copy_base") content
  per_byte ← required_number (codes "per_byte") content
  run_base ← required_number (codes "run_base") content
  per_step ← required_number (codes "per_step") content
  Ok (Ask (Migrate to (record { copy_base = copy_base; per_byte = per_byte; run_base = run_base; per_step = per_step })))

-- ---- types

unfoldable pub type_named : List ℕ → Result RequestType MessageFault
type_named name =
    cond (same_text name (codes "kernel_open_request")) (Ok type.Open)
    (cond (same_text name (codes "execute_request")) (Ok type.Execute)
    (cond (same_text name (codes "kernel_info_request")) (Ok type.Info)
    (cond (same_text name (codes "is_complete_request")) (Ok type.Complete)
    (cond (same_text name (codes "shutdown_request")) (Ok type.Shutdown)
    (cond (same_text name (codes "migrate_request")) (Ok type.Migrate)
    (Err (UnknownType name)))))))

-- cells and codes come on shell, all others on either channel
abbrev pub is_on_shell_alone : RequestType → Bool
is_on_shell_alone type.Open = false
is_on_shell_alone type.Execute = true
is_on_shell_alone type.Info = false
is_on_shell_alone type.Complete = true
is_on_shell_alone type.Shutdown = false
is_on_shell_alone type.Migrate = false

abbrev pub is_control_channel : Channel → Bool
is_control_channel Shell = false
is_control_channel Control = true

-- the channel is one of the type's
unfoldable pub channel_for : RequestType → Channel → Result Channel MessageFault
channel_for kind channel = cond (is_on_shell_alone kind && is_control_channel channel) (Err (WrongKind (codes "channel"))) (Ok channel)

abbrev pub kind_of : RequestType → Data → Result MessageKind MessageFault
kind_of type.Open content = open_of content
kind_of type.Execute content = execute_of content
kind_of type.Info content = Ok (Ask Info)
kind_of type.Complete content = complete_of content
kind_of type.Shutdown content = shutdown_of content
kind_of type.Migrate content = migrate_of content

-- ---- the message

unfoldable pub whole_of : Data → Result Data MessageFault
whole_of d = cond (is_some (as_object d)) (Ok d) (Err (WrongKind (codes "message")))

unfoldable pub message_of : Data → Result Message MessageFault
message_of d = do
  whole ← whole_of d
  head ← required_object (codes "header") whole
  header ← header_of head
  channel ← channel_of whole
  kernel ← kernel_of whole
  kind ← type_named header.msg_type
  fits ← channel_for kind channel
  content ← required_object (codes "content") whole
  asked ← kind_of kind content
  Ok (record { header = header; channel = fits; kernel = kernel; kind = asked })

-- the JSON text that the bytes are
unfoldable pub json_in : List ℕ → Result Data MessageFault
json_in bytes = cond (is_utf8 bytes) (elim (read bytes) [ None ↦ Err NotJson | Some d ↦ Ok d ]) (Err NotJson)

-- the message that the bytes are, or the first thing that is wrong with them
unfoldable pub message_in : List ℕ → Result Message MessageFault
message_in bytes = json_in bytes >>= message_of
