-- Bytes that are a text, and others.
use Rattle.std.proofs.Common.{◌≡◌, ℕ, Bool, true, false, List, [], refl}
use Rattle.std.specs.Prelude.{if◌then◌else◌}
use Rattle.std.specs.Str.{IsUtf8, is_utf8}
use Rattle.std.proofs.lemmas.Str.{IsUtf8-from_is_utf8, is_utf8-from_IsUtf8}
use Rattle.py_blocks.specs.Source.{text_of}

pub text_of-utf8 : (bytes : List ℕ) → IsUtf8 bytes → text_of bytes ≡ bytes
text_of-utf8 bytes is = rw (is_utf8-from_IsUtf8 bytes is) refl

tested : (bytes : List ℕ) → (IsUtf8 bytes → ⊥) → (test : Bool) → is_utf8 bytes ≡ test → (if test then bytes else []) ≡ []
tested bytes isnt true is = absurd (isnt (IsUtf8-from_is_utf8 bytes is))
tested bytes isnt false is = refl

pub text_of-other : (bytes : List ℕ) → (IsUtf8 bytes → ⊥) → text_of bytes ≡ []
text_of-other bytes isnt = tested bytes isnt (is_utf8 bytes) refl

pub ruleset texts = (text_of-utf8, text_of-other)
