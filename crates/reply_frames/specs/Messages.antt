-- The messages that answer a request. (Jupyter messaging 5.3; `docs/PROTOCOL.md` lists them.)
use Rattle.std.specs.Prelude.{ℕ, List, [], ◌∷◌, ◌++◌, codes, length, map, nat_le, Option, Some, None, if◌then◌else◌}
use Rattle.serde_json.specs.Data.{Data, number, unsigned, string, array, object, no_items, item, Members, no_members, member}
use Rattle.session_core.specs.declared.request.Channel.{Channel}
use Rattle.session_core.specs.declared.request.Channel.TheVariants.{Shell, Control}
use Rattle.session_core.specs.declared.reply.Failure.{Failure}
use Rattle.plain_data.specs.Cuts.{prefix_within, pieces}

-- ---- JSON

abbrev pub members : List (List ℕ × Data) → Members
members [] = no_members
members (m ∷ more) = member m.0 m.1 (members more)

abbrev pub json : List (List ℕ × Data) → Data
json ms = object (members ms)

abbrev pub whole : ℕ → Data
whole n = number (unsigned n)

-- ---- a message without its envelope

pub record Said : Type 0 where
  pub channel : List ℕ
  pub kind : List ℕ
  pub content : Data

abbrev pub on_iopub : List ℕ → Data → Said
on_iopub kind content = record { channel = codes "iopub"; kind = kind; content = content }

abbrev pub channel_name : Channel → List ℕ
channel_name Shell = codes "shell"
channel_name Control = codes "control"

abbrev pub status : List ℕ → Said
status state = on_iopub (codes "status") (json ((codes "execution_state", string state) ∷ []))

abbrev pub busy : Said
busy = status (codes "busy")

abbrev pub idle : Said
idle = status (codes "idle")

-- ---- a cell

-- the code within 262,144 bytes
abbrev pub input : List ℕ → ℕ → Said
input code count = on_iopub (codes "execute_input") (json ((codes "code", string (prefix_within 262144 code)) ∷ (codes "execution_count", whole count) ∷ []))

abbrev pub stream : List ℕ → Said
stream piece = on_iopub (codes "stream") (json ((codes "name", string (codes "stdout")) ∷ (codes "text", string piece) ∷ []))

-- the printed text in pieces of at most 65,536 bytes
abbrev pub streams : List ℕ → List Said
streams printed = map stream (pieces (length printed) 65536 printed)

-- the text of a result, or its beginning within 65,536 bytes and three dots
unfoldable pub shortened : List ℕ → List ℕ
shortened text = if nat_le (length text) 65536 then text else prefix_within 65536 text ++ codes "..."

abbrev pub result : ℕ → List ℕ → Said
result count text = on_iopub (codes "execute_result") (json ((codes "data", json ((codes "text/plain", string (shortened text)) ∷ []))
    ∷ (codes "execution_count", whole count) ∷ (codes "metadata", json []) ∷ []))

abbrev pub results : ℕ → Option (List ℕ) → List Said
results count None = []
results count (Some text) = result count text ∷ []

-- the text of an error within 4,096 bytes, and its one line
abbrev pub evalue : Failure → List ℕ
evalue f = prefix_within 4096 f.text

abbrev pub traceback : Failure → Data
traceback f = array (item (string ((f.name ++ codes ": ") ++ evalue f)) no_items)

abbrev pub error : Failure → Said
error f = on_iopub (codes "error") (json ((codes "ename", string f.name) ∷ (codes "evalue", string (evalue f)) ∷ (codes "traceback", traceback f) ∷ []))

abbrev pub errors : Option Failure → List Said
errors None = []
errors (Some f) = error f ∷ []

abbrev pub reply_content : ℕ → Option Failure → Data
reply_content count None = json ((codes "execution_count", whole count) ∷ (codes "status", string (codes "ok")) ∷ (codes "user_expressions", json []) ∷ [])
reply_content count (Some f) = json ((codes "ename", string f.name) ∷ (codes "evalue", string (evalue f)) ∷ (codes "execution_count", whole count)
    ∷ (codes "status", string (codes "error")) ∷ (codes "traceback", traceback f) ∷ [])
