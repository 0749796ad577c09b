-- The JSON of a message in pieces, and what goes between quotes as it is.
use Rattle.std.specs.Prelude.{ℕ, Bool, not, ◌&&◌, nat_le, ◌==◌, List, [], ◌++◌, codes, Option, Some, None}
use Rattle.json.specs.Print.{quoted}
use Rattle.serde_json.specs.Data.{Data}
use Rattle.serde_json.specs.Written.{compact_text}
use Rattle.session_core.specs.declared.request.Header.{Header}
use Rattle.reply_frames.specs.Messages.{json}
use Rattle.reply_frames.specs.Frames.{header_json}

-- JSON has the byte of a text as it is: it is no control character, no quote and no backslash. (RFC 8259, section 7.)
abbrev pub is_plain : ℕ → Bool
is_plain b = nat_le 32 b && (not (b == 34) && not (b == 92))

-- the header of the message that is answered, if one is
abbrev pub parent_json : Option Header → Data
parent_json None = json []
parent_json (Some header) = header_json header

-- from the content of a message to its id
abbrev pub before_id : List ℕ → List ℕ
before_id date = codes ",\"header\":{\"date\":" ++ (quoted date ++ codes ",\"msg_id\":")

-- from the type of a message to its end
abbrev pub after_type : List ℕ → List ℕ → List ℕ → Data → List ℕ
after_type session username kernel parent = codes ",\"session\":" ++ (quoted session ++ (codes ",\"username\":" ++ (quoted username
    ++ (codes ",\"version\":\"5.3\"},\"kernel\":" ++ (quoted kernel ++ (codes ",\"metadata\":{},\"parent_header\":" ++ (compact_text parent ++ codes "}")))))))
