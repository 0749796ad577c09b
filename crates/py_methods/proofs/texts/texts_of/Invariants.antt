use Rattle.std.proofs.Common.{◌≡◌, ◌++◌, drop}
use Rattle.std.specs.Option.{option_map}
use Rattle.py_meaning.specs.Methods.{texts_of}
use Rattle.py_methods.proofs.texts.texts_of.Given as goal

abbrev pub invariant-loop-item : goal.invariant-loop-item
invariant-loop-item l = texts_of l.items ≡ option_map (λ more. l.texts ++ more) (texts_of (drop l.item-index l.items))
