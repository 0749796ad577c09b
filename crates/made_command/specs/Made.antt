-- The stream of `made n`: a session that is opened, its cells one after the other, and a move after every fourth.
use Rattle.std.specs.Prelude.{ℕ, zero, suc, ◌/◌, ◌%◌, ◌==◌, List, [], ◌∷◌, ◌++◌, codes, map, if◌then◌else◌}
use Rattle.std.specs.Fmt.{decimal}
use Rattle.std.specs.List.{flat_map}
use Rattle.serde_json.specs.Data.{Data, string}
use Rattle.serde_json.specs.Written.{compact_text}
use Rattle.jupyter_frames.specs.Framing.{frame}
use Rattle.reply_frames.specs.Frames.{header_json}
use Rattle.reply_frames.specs.Messages.{json, whole}

-- ---- the cells

-- what the first cell defines
unfoldable pub first_code : List ℕ
first_code = codes "def add(d, k, v):\n    if k in d:\n        d[k].append(v)\n    else:\n        d[k] = [v]\nd = {}\ntotal = 0"

-- cell j puts j under one of seven keys, counts the keys, counts what is under them, or prints the count
unfoldable pub later_code : ℕ → List ℕ
later_code j = if j % 4 == 0 then codes "add(d, \"k" ++ (decimal (j % 7) ++ (codes "\", " ++ (decimal j ++ codes ")")))
    else (if j % 4 == 1 then codes "total += len(d)"
    else (if j % 4 == 2 then codes "for k in d:\n    total += len(d[k])"
    else codes "print(total)"))

abbrev pub code_of : ℕ → List ℕ
code_of j = if j == 1 then first_code else later_code j

-- ---- the messages

-- odd cells are asked by one frontend, even ones by another
abbrev pub session_of : ℕ → List ℕ
session_of j = if j % 2 == 1 then codes "f1" else codes "f2"

-- a message on shell to the one kernel
unfoldable pub message : List ℕ → List ℕ → List ℕ → Data → Data
message session id type content = json ((codes "channel", string (codes "shell")) ∷ (codes "content", content)
    ∷ (codes "header", header_json (record { msg_id = id; username = codes "made"; session = session; date = []; msg_type = type; version = codes "5.3" }))
    ∷ (codes "kernel", string (codes "00000000-0000-4000-8000-000000000001")) ∷ [])

unfoldable pub opening : Data
opening = message (codes "f1") (codes "o") (codes "kernel_open_request") (json ((codes "host", whole 0) ∷ []))

unfoldable pub cell : ℕ → Data
cell j = message (session_of j) (codes "c" ++ decimal j) (codes "execute_request") (json ((codes "code", string (code_of j)) ∷ []))

-- a move to each of three hosts in turn, where all costs are 1
unfoldable pub moving : ℕ → Data
moving j = message (codes "f1") (codes "m" ++ decimal j) (codes "migrate_request")
    (json ((codes "copy_base", whole 1) ∷ (codes "per_byte", whole 1) ∷ (codes "per_step", whole 1) ∷ (codes "run_base", whole 1) ∷ (codes "to", whole (j / 4 % 3)) ∷ []))

-- cell j, and the move after it if j is a multiple of 4
unfoldable pub asked : ℕ → List Data
asked j = cell j ∷ (if j % 4 == 0 then moving j ∷ [] else [])

-- ---- the stream

-- the messages up to cell n
unfoldable pub sent : ℕ → List Data
sent zero = opening ∷ []
sent (suc before) = sent before ++ asked (suc before)

-- the frames of messages
abbrev pub framed : List Data → List ℕ
framed messages = flat_map frame (map compact_text messages)

unfoldable pub stream : ℕ → List ℕ
stream n = framed (sent n)
