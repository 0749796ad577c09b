-- What a fault says.
use Rattle.std.specs.Prelude.{ℕ, List, ◌++◌, codes}
use Rattle.std.specs.Fmt.{decimal}
use Rattle.py_token.specs.declared.faults.TokenFault.{TokenFault}
use Rattle.py_token.specs.declared.faults.TokenFault.TheVariants.{BadChar, OpenText, BadIndent, Tab, WideNumber, LongName}
use Rattle.py_token.specs.Laws.{place}

-- what offends
abbrev pub fault_words : TokenFault → List ℕ
fault_words (BadChar at) = codes "bad character"
fault_words (OpenText at) = codes "open text"
fault_words (BadIndent at) = codes "bad indent"
fault_words (Tab at) = codes "tab in indent"
fault_words (WideNumber at) = codes "number too wide"
fault_words (LongName at) = codes "name too long"

-- those words, and the byte
abbrev pub at_byte : List ℕ → ℕ → List ℕ
at_byte words at = (words ++ codes " at byte ") ++ decimal at

abbrev pub fault_text : TokenFault → List ℕ
fault_text fault = at_byte (fault_words fault) (place fault)
