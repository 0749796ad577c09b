-- Reading a text that is one function alone: as a cell, but only `def` begins it, and only the end is after the function.
use Rattle.std.specs.Prelude.{List, [], ◌∷◌, Option, Some, None}
use Rattle.py_token.specs.declared.kinds.Kind.{Kind}
use Rattle.py_token.specs.declared.kinds.Kind.TheVariants as t
use Rattle.py_grammar.specs.Words.{def_word}
use Rattle.py_grammar.specs.Statements.{Statements}
use Rattle.py_grammar.specs.States.{State, line, after_def, done, step}

-- the first token
abbrev pub on_first : Kind → Option State
on_first def_word = Some (after_def None)
on_first _ = None

-- the token after what has ended
abbrev pub on_last : Statements → Kind → Option State
on_last ss t.End = Some (done (Some ss))
on_last ss _ = None

-- one more token of a function alone
abbrev pub step_alone : State → Kind → Option State
step_alone (line [] None) t = on_first t
step_alone (line [] (Some ss)) t = on_last ss t
step_alone s t = step s t

abbrev pub run_alone : State → List Kind → Option State
run_alone s [] = Some s
run_alone s (t ∷ ts) = elim (step_alone s t) [ None ↦ None | Some u ↦ run_alone u ts ]
