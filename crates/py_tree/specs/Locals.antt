-- Which names of a function are its locals.
use Rattle.std.specs.Prelude.{ℕ, Bool, not, nat_eq, List, [], ◌∷◌, ◌++◌, map, filter, if◌then◌else◌}
use Rattle.std.specs.List.{list_any}
use Rattle.std.specs.Cmp.Lexicographic.{pointwise}
use Rattle.py_tree.specs.declared.expressions.Target.{Target}
use Rattle.py_tree.specs.declared.expressions.Target.TheVariants.{Name, Item}
use Rattle.py_tree.specs.declared.statements.Arm.{Arm}
use Rattle.py_tree.specs.declared.statements.Def.{Def, out-Def}
use Rattle.py_tree.specs.declared.statements.Stmt.{Stmt}
use Rattle.py_tree.specs.declared.statements.Stmt.TheOpen.{Stmt-F, Arm-F, Def-F}
use Rattle.py_tree.specs.declared.statements.Stmt.TheFolds.{fold-Stmt, fold-Arm}

abbrev pub Names : Type 0
Names = List (List ℕ)

abbrev pub joined : List Names → Names
joined [] = []
joined (names ∷ others) = names ++ joined others

-- ---- bound by a block, in the order of the text

-- an item of a list or dict binds no name
abbrev pub bound_at : Target → Names
bound_at (Name name) = name ∷ []
bound_at (Item value at) = []

abbrev pub bound_at_all : List Target → Names
bound_at_all targets = joined (map bound_at targets)

-- by one statement, with the names of each inner statement at its position
abbrev pub bound_step : Stmt-F Names Names Names → Names
bound_step (Stmt-F.Delete target) = bound_at target
bound_step (Stmt-F.Assign targets comma value) = bound_at_all targets
bound_step (Stmt-F.Augment target op value) = bound_at target
bound_step (Stmt-F.If arms other) = joined arms ++ joined other
bound_step (Stmt-F.While test body) = joined body
bound_step (Stmt-F.For names comma iterable body) = names ++ joined body
bound_step _ = []

-- ---- declared global by a block

abbrev pub globals_step : Stmt-F Names Names Names → Names
globals_step (Stmt-F.Global names) = names
globals_step (Stmt-F.If arms other) = joined arms ++ joined other
globals_step (Stmt-F.While test body) = joined body
globals_step (Stmt-F.For names comma iterable body) = joined body
globals_step _ = []

-- ---- both, over whole statements

abbrev pub arm_step : Arm-F Names Names Names → Names
arm_step arm = joined arm.body

-- a function has names of its own
abbrev pub def_step : Def-F Names Names Names → Names
def_step def = []

unfoldable pub bound_by : Stmt → Names
bound_by = fold-Stmt Names Names Names bound_step arm_step def_step

unfoldable pub global_by : Stmt → Names
global_by = fold-Stmt Names Names Names globals_step arm_step def_step

unfoldable pub bound_by_arm : Arm → Names
bound_by_arm = fold-Arm Names Names Names bound_step arm_step def_step

unfoldable pub global_by_arm : Arm → Names
global_by_arm = fold-Arm Names Names Names globals_step arm_step def_step

abbrev pub bound_in : List Stmt → Names
bound_in body = joined (map bound_by body)

abbrev pub globals_in : List Stmt → Names
globals_in body = joined (map global_by body)

abbrev pub bound_in_arms : List Arm → Names
bound_in_arms arms = joined (map bound_by_arm arms)

abbrev pub globals_in_arms : List Arm → Names
globals_in_arms arms = joined (map global_by_arm arms)

-- ---- the locals

abbrev pub is_among : Names → List ℕ → Bool
is_among names name = list_any (λ other. pointwise nat_eq other name) names

-- the names after those, each once, at its first position
abbrev pub distinct_after : Names → Names → Names
distinct_after seen [] = []
distinct_after seen (name ∷ names) =
    if is_among seen name then distinct_after seen names else name ∷ distinct_after (seen ++ name ∷ []) names

abbrev pub distinct : Names → Names
distinct names = distinct_after [] names

-- the parameters, then what the body binds and doesn't declare global
unfoldable pub locals : List (List ℕ) → List Stmt → Names
locals params body = distinct (params ++ filter (λ name. not (is_among (globals_in body) name)) (bound_in body))

abbrev pub locals_of : Def → Names
locals_of def = locals (out-Def def).params (out-Def def).body
