-- The names of the function that is open, as far as it is read.
use Rattle.std.specs.Prelude.{if◌then◌else◌, List, [], ◌∷◌, Option, Some, None}
use Rattle.py_token.specs.declared.kinds.Kind.{Kind}
use Rattle.py_token.specs.declared.kinds.Kind.TheVariants as t
use Rattle.py_grammar.specs.Words.{else_word, for_word, global_word}
use Rattle.py_grammar.specs.Open.{spell_reading}
use Rattle.py_grammar.specs.Statements.{spell_names, spell_params, keyword, hear, inside, spell_branches, spell_front}
use Rattle.py_grammar.specs.States.{Outer, outer, State, line, in_simple, after_word, in_global, has_global, in_test, in_variables, has_variables, after_else, after_def, after_def_name, in_params, has_params, after_params, after_colon, after_newline, done, around, heard, spot_around, spot_heard, spell_names_before, spell_purpose, spell_lead}

abbrev in_function : List Outer → List Kind → Option (List Kind)
in_function os ks = if (around os).in_function then Some ks else None

-- the tokens of the function that is open, its parameters first; none if no function is open
abbrev pub heard_now : State → Option (List Kind)
heard_now (line os before) = in_function os (heard os (spell_front before []))
heard_now (in_simple os at u r) = if (spot_around os at).in_function then Some (spot_heard os at (spell_purpose u (spell_reading r []))) else None
heard_now (after_word os at w) = if (spot_around os at).in_function then Some (spot_heard os at (keyword w ∷ [])) else None
heard_now (in_global os at ns) = if (spot_around os at).in_function then Some (spot_heard os at (global_word ∷ spell_names_before ns [])) else None
heard_now (has_global os at ns) = if (spot_around os at).in_function then Some (spot_heard os at (global_word ∷ spell_names ns [])) else None
heard_now (in_test os before lead r) = in_function os (heard os (spell_front before (spell_lead lead (spell_reading r []))))
heard_now (in_variables os before ns) = in_function os (heard os (spell_front before (for_word ∷ spell_names_before ns [])))
heard_now (has_variables os before ns) = in_function os (heard os (spell_front before (for_word ∷ spell_names ns [])))
heard_now (after_else os before bs) = in_function os (heard os (spell_front before (spell_branches bs (else_word ∷ []))))
heard_now (after_def before) = None
heard_now (after_def_name before n) = None
heard_now (in_params before n ns) = Some (spell_names_before ns [])
heard_now (has_params before n ns) = Some (spell_names ns [])
heard_now (after_params before n ps) = Some (spell_params ps [])
heard_now (after_colon os (outer before h)) = if (inside h (around os)).in_function then Some (hear h (λ more. heard os (spell_front before more)) []) else None
heard_now (after_newline os (outer before h)) = if (inside h (around os)).in_function then Some (hear h (λ more. heard os (spell_front before more)) (t.Newline ∷ [])) else None
heard_now (done c) = None
