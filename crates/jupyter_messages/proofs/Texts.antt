-- When bytes are a message.
use Rattle.std.proofs.Common.{◌≡◌, Bool, true, false, cond, ℕ, List, Option, Some, None, Result, Ok, Err, refl, ap, ◌∙◌}
use Rattle.std.specs.Str.{IsUtf8, is_utf8}
use Rattle.std.proofs.lemmas.Str.{is_utf8-from_IsUtf8, IsUtf8-from_is_utf8}
use Rattle.serde_json.specs.Data.{Data}
use Rattle.serde_json.specs.Read.{read}
use Rattle.jupyter_messages.specs.declared.fault.MessageFault.{MessageFault}
use Rattle.jupyter_messages.specs.declared.fault.MessageFault.TheVariants.{NotJson}
use Rattle.jupyter_messages.specs.Outcomes.{◌>>=◌}
use Rattle.jupyter_messages.specs.Reading.{message_of, json_in, message_in}

abbrev pub json_of : Option Data → Result Data MessageFault
json_of found = elim found [ None ↦ Err NotJson | Some d ↦ Ok d ]

pub message_in-value : (bytes : List ℕ) (d : Data) → IsUtf8 bytes → read bytes ≡ Some d → message_in bytes ≡ message_of d
unfolding message_in json_in
message_in-value bytes d text reads =
    ap (λ b. cond b (json_of (read bytes)) (Err NotJson) >>= message_of) (is_utf8-from_IsUtf8 bytes text) ∙ ap (λ found. json_of found >>= message_of) reads

none_step : (bytes : List ℕ) (b : Bool) → is_utf8 bytes ≡ b → (IsUtf8 bytes → read bytes ≡ None) → cond b (json_of (read bytes)) (Err NotJson) >>= message_of ≡ Err NotJson
none_step bytes true e h = ap (λ found. json_of found >>= message_of) (h (IsUtf8-from_is_utf8 bytes e))
none_step bytes false e h = refl

pub message_in-none : (bytes : List ℕ) → (IsUtf8 bytes → read bytes ≡ None) → message_in bytes ≡ Err NotJson
unfolding message_in json_in
message_in-none bytes h = none_step bytes (is_utf8 bytes) refl h
