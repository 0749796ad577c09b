-- What a fault says.
use Rattle.std.specs.Prelude.{ℕ, List, ◌++◌, codes}
use Rattle.py_token.specs.Texts.{at_byte, fault_text as token_text}
use Rattle.py_token.specs.Spellings.{word}
use Rattle.py_grammar.specs.declared.constructs.Construct.{Construct}
use Rattle.py_grammar.specs.declared.constructs.Construct.TheVariants as c
use Rattle.py_reader.specs.declared.fault.SyntaxFault.{SyntaxFault}
use Rattle.py_reader.specs.declared.fault.SyntaxFault.TheVariants.{TooLong, Token, NoParse, TooDeep, Outside}

-- what such a construct is called
abbrev pub construct_words : Construct → List ℕ
construct_words (c.Word keyword) = word keyword
construct_words c.Comprehension = codes "comprehension"
construct_words c.Set = codes "set"
construct_words c.Is = codes "is"
construct_words c.Attribute = codes "attribute"
construct_words c.ChainedAssignment = codes "chained assignment"
construct_words c.KeywordArgument = codes "keyword argument"
construct_words c.Default = codes "default"
construct_words c.NestedFunction = codes "nested function"

abbrev pub fault_text : SyntaxFault → List ℕ
fault_text TooLong = codes "cell too long"
fault_text (Token fault) = token_text fault
fault_text (NoParse at end) = at_byte (codes "no parse") at
fault_text (TooDeep at) = at_byte (codes "too deep") at
fault_text (Outside at construct) = at_byte (construct_words construct ++ codes " is outside this subset") at
