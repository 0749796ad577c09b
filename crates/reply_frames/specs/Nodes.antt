-- The errors of the node itself.
use Rattle.std.specs.Prelude.{ℕ, List, [], ◌∷◌, ◌++◌, codes, decimal, Option, Some, None}
use Rattle.serde_json.specs.Data.{Data, string}
use Rattle.serde_json.specs.Written.{compact_text}
use Rattle.session_core.specs.declared.request.Header.{Header}
use Rattle.reply_frames.specs.declared.node.NodeErrorKind.{NodeErrorKind}
use Rattle.reply_frames.specs.declared.node.NodeErrorKind.TheVariants as kind
use Rattle.reply_frames.specs.declared.node.About.{About}
use Rattle.reply_frames.specs.declared.node.NodeError.{NodeError}
use Rattle.reply_frames.specs.Messages.{json, whole}
use Rattle.reply_frames.specs.Frames.{kernel_name, header_json, envelope, frame}

abbrev pub name_of : NodeErrorKind → List ℕ
name_of kind.NotJson = codes "NotJson"
name_of (kind.BadRecord name) = codes "BadRecord"
name_of kind.UnknownKernel = codes "UnknownKernel"
name_of kind.OpenedTwice = codes "OpenedTwice"
name_of (kind.UnknownHost n) = codes "UnknownHost"
name_of (kind.UnknownType name) = codes "UnknownType"
name_of kind.TooManySessions = codes "TooManySessions"
name_of kind.TooManyRequests = codes "TooManyRequests"
name_of (kind.BadFrame at) = codes "BadFrame"

abbrev pub number_of : NodeErrorKind → ℕ
number_of kind.NotJson = 1
number_of (kind.BadRecord name) = 2
number_of kind.UnknownKernel = 3
number_of kind.OpenedTwice = 4
number_of (kind.UnknownHost n) = 5
number_of (kind.UnknownType name) = 6
number_of kind.TooManySessions = 7
number_of kind.TooManyRequests = 8
number_of (kind.BadFrame at) = 9

-- what the error names: a member, a type, a host or a place
abbrev pub detail_of : NodeErrorKind → List ℕ
detail_of kind.NotJson = []
detail_of (kind.BadRecord name) = name
detail_of kind.UnknownKernel = []
detail_of kind.OpenedTwice = []
detail_of (kind.UnknownHost n) = decimal n
detail_of (kind.UnknownType name) = name
detail_of kind.TooManySessions = []
detail_of kind.TooManyRequests = []
detail_of (kind.BadFrame at) = decimal at

-- if a message was read, its date, kernel and header are said again
abbrev pub date_of : Option About → List ℕ
date_of None = []
date_of (Some about) = about.header.date

abbrev pub kernel_of : Option About → List ℕ
kernel_of None = []
kernel_of (Some about) = kernel_name about.kernel

abbrev pub parent_of : Option About → Data
parent_of None = json []
parent_of (Some about) = header_json about.header

abbrev pub node_header : List ℕ → ℕ → Header
node_header date running = record {
  msg_id = codes "node_" ++ decimal running;
  username = codes "node";
  session = codes "node";
  date = date;
  msg_type = codes "node_error";
  version = codes "5.3";
}

unfoldable pub content : NodeErrorKind → Data
content kind = json ((codes "detail", string (detail_of kind)) ∷ (codes "name", string (name_of kind)) ∷ (codes "number", whole (number_of kind)) ∷ [])

unfoldable pub message : ℕ → NodeError → Data
message running error = envelope (codes "control") (content error.kind)
    (node_header (date_of error.about) running) (kernel_of error.about) (parent_of error.about)

-- the error's frame, under this running number of the node's
abbrev pub frame_of : ℕ → NodeError → List ℕ
frame_of running error = frame (compact_text (message running error))
