-- The frames of messages: their envelopes and their bytes.
use Rattle.std.specs.Prelude.{ℕ, ◌+◌, List, [], ◌∷◌, ◌++◌, codes, decimal, length}
use Rattle.std.specs.Int.{w32, w128, to_be_bytes}
use Rattle.serde_json.specs.Data.{Data, string}
use Rattle.serde_json.specs.Written.{compact_text}
use Rattle.uuid.specs.Text.{hyphenated_text, lower}
use Rattle.session_core.specs.declared.request.Header.{Header}
use Rattle.reply_frames.specs.Messages.{Said, json}

-- a kernel in its hyphenated lower-case text
unfoldable pub kernel_name : ℕ → List ℕ
kernel_name kernel = hyphenated_text lower (to_be_bytes w128 kernel)

-- the six texts of a header
abbrev pub header_json : Header → Data
header_json h = json ((codes "date", string h.date) ∷ (codes "msg_id", string h.msg_id) ∷ (codes "msg_type", string h.msg_type)
    ∷ (codes "session", string h.session) ∷ (codes "username", string h.username) ∷ (codes "version", string h.version) ∷ [])

-- the header of the session's message with this running number, which answers the request
abbrev pub own_header : List ℕ → Header → ℕ → List ℕ → Header
own_header kernel request running kind = record {
  msg_id = (kernel ++ codes "_") ++ decimal running;
  username = codes "kernel";
  session = kernel;
  date = request.date;
  msg_type = kind;
  version = codes "5.3";
}

-- a message with all its members
abbrev pub envelope : List ℕ → Data → Header → List ℕ → Data → Data
envelope channel content header kernel parent = json ((codes "channel", string channel) ∷ (codes "content", content)
    ∷ (codes "header", header_json header) ∷ (codes "kernel", string kernel) ∷ (codes "metadata", json []) ∷ (codes "parent_header", parent) ∷ [])

unfoldable pub message : List ℕ → Header → ℕ → Said → Data
message kernel request running said = envelope said.channel said.content (own_header kernel request running said.kind) kernel (header_json request)

-- a frame is the length of its body, as four bytes with the high byte first, and the body
unfoldable pub frame : List ℕ → List ℕ
frame body = to_be_bytes w32 (length body) ++ body

unfoldable pub framed : List ℕ → Header → ℕ → Said → List ℕ
framed kernel request running said = frame (compact_text (message kernel request running said))

-- the frames of messages that answer a request, with running numbers from the first on
unfoldable pub frames : List ℕ → Header → ℕ → List Said → List ℕ
frames kernel request first [] = []
frames kernel request first (said ∷ more) = framed kernel request first said ++ frames kernel request (first + 1) more

-- ---- messages said one after the other

-- who answers which request, the running number of the next message, and the frames so far
pub record Outgoing : Type 0 where
  pub kernel : List ℕ
  pub request : Header
  pub running : ℕ
  pub bytes : List ℕ

-- nothing is said yet
abbrev pub empty : List ℕ → Header → ℕ → Outgoing
empty kernel request first = record { kernel = kernel; request = request; running = first; bytes = [] }

-- one message more
abbrev pub say : Said → Outgoing → Outgoing
say said o = record { kernel = o.kernel; request = o.request; running = o.running + 1; bytes = o.bytes ++ framed o.kernel o.request o.running said }

abbrev pub say_all : List Said → Outgoing → Outgoing
say_all [] o = o
say_all (said ∷ more) o = say_all more (say said o)
