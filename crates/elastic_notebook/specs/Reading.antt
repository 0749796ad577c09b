-- How reading a source to its end goes.
use Rattle.std.specs.Prelude.{Option, Some, None}
use Rattle.elastic_notebook.specs.declared.streams.ReadingEnd.{ReadingEnd}
use Rattle.elastic_notebook.specs.declared.streams.ReadingEnd.TheVariants.{End, Failed, TooMany, OutOfMemory}

-- all that was taken is kept: memory didn't run out
abbrev pub KeepsAll : ReadingEnd → Type 0
KeepsAll OutOfMemory = ⊥
KeepsAll End = Unit {0}
KeepsAll Failed = Unit {0}
KeepsAll TooMany = Unit {0}

abbrev pub MayGoOn : Option ReadingEnd → Type 0
MayGoOn None = Unit {0}
MayGoOn (Some end) = KeepsAll end
