-- A text as far as the meter's limit: of a longer one it is only known that it is longer. Every charge for that one is
-- refused, so nobody sees its bytes.
use Rattle.std.specs.Prelude.{ℕ, ◌-◌, cond, nat_le, List, ◌++◌, length, Option, Some, None}
use Rattle.py_heap.specs.Valid.{meter_limit}

-- the text, or nothing if it is longer than the limit
abbrev pub Limit : Type 0
Limit = Option (List ℕ)

unfoldable pub limited : List ℕ → Limit
limited bytes = cond (nat_le (length bytes) meter_limit) (Some bytes) None

-- with these bytes after it
abbrev pub pushed : Limit → List ℕ → Limit
pushed (Some text) more = limited (text ++ more)
pushed None more = None

-- how many bytes more can be kept
abbrev pub room : Limit → ℕ
room (Some text) = meter_limit - length text
room None = 0
