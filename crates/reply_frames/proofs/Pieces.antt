-- JSON put together from pieces.
use Rattle.std.proofs.Common.{◌≡◌, ◌∙◌, ℕ, true, List, [], ◌∷◌, ◌++◌, codes, refl, ap, append_assoc, arith}
use Rattle.std.proofs.lemmas.Bool.{and_parts}
use Rattle.std.proofs.lemmas.Bool.Decides.{nat_tests}
use Rattle.std.specs.List.{list_all}
use Rattle.json.specs.Print.{escape, escape_byte, quoted}
use Rattle.json.proofs.Printed.Strings.{escape_byte_plain}
use Rattle.serde_json.specs.Data.{Data, string}
use Rattle.serde_json.specs.Written.{compact_text}
use Rattle.session_core.specs.declared.request.Header.{Header}
use Rattle.reply_frames.specs.Messages.{json}
use Rattle.reply_frames.specs.Frames.{header_json, envelope}
use Rattle.reply_frames.specs.Pieces.{is_plain, before_id, after_type}

plain_byte : (b : ℕ) → is_plain b ≡ true → escape_byte b ≡ b ∷ []
plain_byte b e = escape_byte_plain b (λ q. grind (arith, nat_tests)) (λ q. grind (arith, nat_tests)) (grind (arith, nat_tests))

-- nothing is escaped in a plain text
pub escape_plain : (bs : List ℕ) → list_all is_plain bs ≡ true → escape bs ≡ bs
escape_plain [] e = refl
escape_plain (b ∷ bs) e =
    let both = and_parts _ _ e in
    ap (λ front. front ++ escape bs) (plain_byte b both.0) ∙ ap (λ rest. b ∷ rest) (escape_plain bs both.1)

pub header_pieces : (out : List ℕ) (h : Header)
    → ((((((out ++ (codes "{\"date\":" ++ quoted h.date)) ++ (codes ",\"msg_id\":" ++ quoted h.msg_id)) ++ (codes ",\"msg_type\":" ++ quoted h.msg_type))
    ++ (codes ",\"session\":" ++ quoted h.session)) ++ (codes ",\"username\":" ++ quoted h.username)) ++ (codes ",\"version\":" ++ quoted h.version)) ++ codes "}"
    ≡ out ++ compact_text (header_json h)
unfolding escape_byte
header_pieces out h = simp append_assoc

-- ---- one piece after the other

pub plain_chain : (out before text a b c d : List ℕ) → list_all is_plain text ≡ true → a ≡ out ++ before → b ≡ a ++ codes "\"" → c ≡ b ++ text → d ≡ c ++ codes "\""
    → d ≡ out ++ (before ++ quoted text)
plain_chain out before text a b c d e p q r s = rw (s, r, q, p, escape_plain text e) simp append_assoc

pub header_chain : (out a b c d e f g date id kind session username version : List ℕ) (h : Header) → date ≡ h.date → id ≡ h.msg_id → kind ≡ h.msg_type → session ≡ h.session
    → username ≡ h.username → version ≡ h.version → a ≡ out ++ (codes "{\"date\":" ++ quoted date) → b ≡ a ++ (codes ",\"msg_id\":" ++ quoted id)
    → c ≡ b ++ (codes ",\"msg_type\":" ++ quoted kind) → d ≡ c ++ (codes ",\"session\":" ++ quoted session) → e ≡ d ++ (codes ",\"username\":" ++ quoted username)
    → f ≡ e ++ (codes ",\"version\":" ++ quoted version) → g ≡ f ++ codes "}" → g ≡ out ++ compact_text (header_json h)
header_chain out a b c d e f g date id kind session username version h i j k l m n p q r s t u v = rw (v, u, t, s, r, q, p, i, j, k, l, m, n) (header_pieces out h)

-- ---- a message

before_pieces : (date : List ℕ) → ([] ++ (codes ",\"header\":{\"date\":" ++ quoted date)) ++ codes ",\"msg_id\":" ≡ before_id date
before_pieces date = simp append_assoc

pub before_chain : (a b c date : List ℕ) → a ≡ [] → b ≡ a ++ (codes ",\"header\":{\"date\":" ++ quoted date) → c ≡ b ++ codes ",\"msg_id\":" → c ≡ before_id date
before_chain a b c date p q r = rw (r, q, p) (before_pieces date)

after_pieces : (session username kernel : List ℕ) (parent : Data)
    → (((((([] ++ (codes ",\"session\":" ++ quoted session)) ++ (codes ",\"username\":" ++ quoted username)) ++ codes ",\"version\":\"5.3\"}") ++ (codes ",\"kernel\":" ++ quoted kernel))
    ++ codes ",\"metadata\":{},\"parent_header\":") ++ compact_text parent) ++ codes "}"
    ≡ after_type session username kernel parent
after_pieces session username kernel parent = simp append_assoc

pub after_chain : (a b c d e f g h session username kernel : List ℕ) (parent : Data) → a ≡ [] → b ≡ a ++ (codes ",\"session\":" ++ quoted session)
    → c ≡ b ++ (codes ",\"username\":" ++ quoted username) → d ≡ c ++ codes ",\"version\":\"5.3\"}" → e ≡ d ++ (codes ",\"kernel\":" ++ quoted kernel)
    → f ≡ e ++ codes ",\"metadata\":{},\"parent_header\":" → g ≡ f ++ compact_text parent → h ≡ g ++ codes "}" → h ≡ after_type session username kernel parent
after_chain a b c d e f g h session username kernel parent p q r s t u v w = rw (w, v, u, t, s, r, q, p) (after_pieces session username kernel parent)

regrouped : (channel content before id kind after : List ℕ)
    → (((((([] ++ (codes "{\"channel\":" ++ quoted channel)) ++ codes ",\"content\":") ++ content) ++ (before ++ quoted id)) ++ (codes ",\"msg_type\":" ++ quoted kind)) ++ after)
    ≡ codes "{\"channel\":" ++ (quoted channel ++ (codes ",\"content\":" ++ (content ++ (before ++ (quoted id ++ (codes ",\"msg_type\":" ++ (quoted kind ++ after)))))))
regrouped channel content before id kind after = simp append_assoc

message_pieces : (channel id kind date session username kernel : List ℕ) (content parent : Data)
    → codes "{\"channel\":" ++ (quoted channel ++ (codes ",\"content\":" ++ (compact_text content ++ (before_id date ++ (quoted id ++ (codes ",\"msg_type\":" ++ (quoted kind
    ++ after_type session username kernel parent)))))))
    ≡ compact_text (envelope channel content (record { msg_id = id; username = username; session = session; date = date; msg_type = kind; version = codes "5.3" }) kernel parent)
unfolding escape_byte
message_pieces channel id kind date session username kernel content parent = simp append_assoc

pub message_chain : (a b c d e f g channel content before id kind after date session username kernel : List ℕ) (said parent : Data)
    → content ≡ compact_text said → before ≡ before_id date → after ≡ after_type session username kernel parent
    → a ≡ [] → b ≡ a ++ (codes "{\"channel\":" ++ quoted channel) → c ≡ b ++ codes ",\"content\":" → d ≡ c ++ content → e ≡ d ++ (before ++ quoted id)
    → f ≡ e ++ (codes ",\"msg_type\":" ++ quoted kind) → g ≡ f ++ after
    → g ≡ compact_text (envelope channel said (record { msg_id = id; username = username; session = session; date = date; msg_type = kind; version = codes "5.3" }) kernel parent)
message_chain a b c d e f g channel content before id kind after date session username kernel said parent w x z p q r s t u v =
    rw (v, u, t, s, r, q, p, w, x, z)
    (regrouped channel (compact_text said) (before_id date) id kind (after_type session username kernel parent)
    ∙ message_pieces channel id kind date session username kernel said parent)

-- ---- the content of a status

status_pieces : (state : List ℕ) → ([] ++ (codes "{\"execution_state\":" ++ quoted state)) ++ codes "}" ≡ compact_text (json ((codes "execution_state", string state) ∷ []))
unfolding escape_byte
status_pieces state = simp append_assoc

pub status_chain : (a b c state : List ℕ) → a ≡ [] → b ≡ a ++ (codes "{\"execution_state\":" ++ quoted state) → c ≡ b ++ codes "}"
    → c ≡ compact_text (json ((codes "execution_state", string state) ∷ []))
status_chain a b c state p q r = rw (r, q, p) (status_pieces state)
