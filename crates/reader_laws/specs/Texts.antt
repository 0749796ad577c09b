-- Functions whose text reads as them.
use Rattle.std.specs.Prelude.{◌≡◌, Ok}
use Rattle.py_tree.specs.declared.statements.Def.{Def}
use Rattle.py_reader.specs.DefinitionVerdict.{verdict_alone}

-- the function is the one that its text alone is read as
abbrev pub IsItsText : Def → Type 0
IsItsText def = verdict_alone def.source ≡ Ok def
