-- The names of the language, as bytes.
use Rattle.std.specs.Prelude.{ℕ, Bool, false, not, ◌&&◌, ◌||◌, nat_eq, nat_le, List, [], ◌∷◌, length, codes}
use Rattle.std.specs.List.{list_any, list_all}
use Rattle.std.specs.Char.{is_ascii_alphabetic, is_ascii_digit}
use Rattle.std.specs.Cmp.Lexicographic.{pointwise}

-- an ASCII letter or an underscore
abbrev pub begins_name : ℕ → Bool
begins_name c = is_ascii_alphabetic c || nat_eq c 95

-- an ASCII letter, an underscore or a digit
abbrev pub continues_name : ℕ → Bool
continues_name c = begins_name c || is_ascii_digit c

-- one byte that begins a name, and then bytes that continue it
abbrev pub is_spelled_as_name : List ℕ → Bool
is_spelled_as_name [] = false
is_spelled_as_name (c ∷ cs) = begins_name c && list_all continues_name cs

-- an identifier has at most 255 bytes
abbrev pub is_identifier : List ℕ → Bool
is_identifier bytes = is_spelled_as_name bytes && nat_le (length bytes) 255

-- two equal texts
abbrev pub same_text : List ℕ → List ℕ → Bool
same_text = pointwise nat_eq

unfoldable pub keywords : List (List ℕ)
keywords = codes "False" ∷ codes "None" ∷ codes "True" ∷ codes "and" ∷ codes "as" ∷ codes "assert" ∷ codes "async" ∷ codes "await" ∷ codes "break"
    ∷ codes "class" ∷ codes "continue" ∷ codes "def" ∷ codes "del" ∷ codes "elif" ∷ codes "else" ∷ codes "except" ∷ codes "finally" ∷ codes "for"
    ∷ codes "from" ∷ codes "global" ∷ codes "if" ∷ codes "import" ∷ codes "in" ∷ codes "is" ∷ codes "lambda" ∷ codes "nonlocal" ∷ codes "not"
    ∷ codes "or" ∷ codes "pass" ∷ codes "raise" ∷ codes "return" ∷ codes "try" ∷ codes "while" ∷ codes "with" ∷ codes "yield" ∷ []

-- the functions that every session has
unfoldable pub builtins : List (List ℕ)
builtins = codes "print" ∷ codes "len" ∷ codes "str" ∷ codes "repr" ∷ codes "int" ∷ codes "range" ∷ codes "draw" ∷ codes "handle" ∷ codes "tell" ∷ []

abbrev pub is_keyword : List ℕ → Bool
is_keyword bytes = list_any (λ word. same_text word bytes) keywords

abbrev pub is_builtin : List ℕ → Bool
is_builtin bytes = list_any (λ word. same_text word bytes) builtins

-- what a program may bind: an identifier that is no keyword
abbrev pub is_variable : List ℕ → Bool
is_variable bytes = is_identifier bytes && not (is_keyword bytes)
