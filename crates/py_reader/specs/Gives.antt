-- What a call answers: the verdict, unless memory fails.
use Rattle.std.specs.Prelude.{◌≡◌, ℕ, List, Result, Ok, Err}
use Rattle.py_token.specs.declared.faults.TokenError.{TokenError}
use Rattle.py_token.specs.declared.faults.TokenError.TheVariants as token
use Rattle.py_tree.specs.declared.statements.Tree.{Tree}
use Rattle.py_tree.specs.declared.statements.Def.{Def}
use Rattle.py_reader.specs.declared.fault.SyntaxFault.{SyntaxFault}
use Rattle.py_reader.specs.declared.fault.SyntaxFault.TheVariants.{Token}
use Rattle.py_reader.specs.declared.fault.ReadError.{ReadError}
use Rattle.py_reader.specs.declared.fault.ReadError.TheVariants.{OutOfMemory, Fault}
use Rattle.py_reader.specs.Verdicts.{Verdict}
use Rattle.py_reader.specs.Verdict.{Judged}
use Rattle.py_reader.specs.Definitions.{DefinitionVerdict}

abbrev pub of_token : TokenError → ReadError
of_token token.OutOfMemory = OutOfMemory
of_token (token.Fault fault) = Fault (Token fault)

abbrev pub Refuses : {A : Type 0} → ReadError → Result A SyntaxFault → Type 0
Refuses OutOfMemory judged = Unit {0}
Refuses (Fault fault) judged = judged ≡ Err fault

abbrev pub Gives : Result Tree ReadError → Judged → Type 0
Gives (Ok tree) judged = judged ≡ Ok tree.body
Gives (Err error) judged = Refuses error judged

-- the same of tokens, statements or a definition
abbrev pub Answers : {A : Type 0} → Result A ReadError → Result A SyntaxFault → Type 0
Answers (Ok a) judged = judged ≡ Ok a
Answers (Err error) judged = Refuses error judged

-- the same in the words of the grammar
abbrev pub MeansFault : List ℕ → ReadError → Type 0
MeansFault code OutOfMemory = Unit {0}
MeansFault code (Fault fault) = Verdict code (Err fault)

abbrev pub Means : List ℕ → Result Tree ReadError → Type 0
Means code (Ok tree) = Verdict code (Ok tree.body)
Means code (Err error) = MeansFault code error

-- ---- a text that is to be one function alone

abbrev pub MeansDefinitionFault : List ℕ → ReadError → Type 0
MeansDefinitionFault code OutOfMemory = Unit {0}
MeansDefinitionFault code (Fault fault) = DefinitionVerdict code (Err fault)

abbrev pub MeansDefinition : List ℕ → Result Def ReadError → Type 0
MeansDefinition code (Ok def) = DefinitionVerdict code (Ok def)
MeansDefinition code (Err error) = MeansDefinitionFault code error
