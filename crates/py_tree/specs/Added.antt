-- Names that are collected.
use Rattle.std.specs.Prelude.{◌++◌}
use Rattle.py_tree.specs.declared.locals.Names.{Names}
use Rattle.py_tree.specs.Locals as of

-- names with those after them
abbrev pub added : Names → of.Names → of.Names → Names
added names bound global = record { bound = names.bound ++ bound; global = names.global ++ global }
