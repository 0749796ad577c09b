-- Statements that bind only names that a program may bind, and define only functions of a kind.
use Rattle.std.specs.Prelude.{ℕ, Bool, IsTrue, List, All}
use Rattle.py_names.specs.Names.{is_variable}
use Rattle.py_tree.specs.declared.expressions.Target.{Target}
use Rattle.py_tree.specs.declared.expressions.Target.TheVariants as target
use Rattle.py_tree.specs.declared.statements.Arm.{Arm}
use Rattle.py_tree.specs.declared.statements.Def.{Def}
use Rattle.py_tree.specs.declared.statements.Stmt.{Stmt}
use Rattle.py_tree.specs.declared.statements.Stmt.TheOpen.{Stmt-F, Arm-F, Def-F}
use Rattle.py_tree.specs.declared.statements.Stmt.TheFolds.{every-Stmt}

-- an item of a list or dict binds no name
abbrev pub MayBindAt : Target → Type 0
MayBindAt (target.Name name) = IsTrue (is_variable name)
MayBindAt (target.Item on at) = Unit {0}

-- a statement by itself: each name that it binds is one that a program may bind, and the function that it defines is of the kind
abbrev pub IsAllowedHere : (Def → Type 0) → Stmt-F Stmt Arm Def → Type 0
IsAllowedHere IsOfKind (Stmt-F.Assign targets comma e) = All MayBindAt targets
IsAllowedHere IsOfKind (Stmt-F.Augment into op e) = MayBindAt into
IsAllowedHere IsOfKind (Stmt-F.For names comma source body) = All (λ name. IsTrue (is_variable name)) names
IsAllowedHere IsOfKind (Stmt-F.Function def) = IsTrue (is_variable def.name) × IsOfKind def
IsAllowedHere IsOfKind _ = Unit {0}

abbrev pub ArmAny : Arm-F Stmt Arm Def → Type 0
ArmAny arm = Unit {0}

abbrev pub DefAny : Def-F Stmt Arm Def → Type 0
DefAny def = Unit {0}

-- it and each statement inside it, at any depth, those of functions too
abbrev pub IsAllowed : (Def → Type 0) → Stmt → Type 0
IsAllowed IsOfKind = every-Stmt (IsAllowedHere IsOfKind) ArmAny DefAny

abbrev pub AreAllowed : (Def → Type 0) → List Stmt → Type 0
AreAllowed IsOfKind body = All (IsAllowed IsOfKind) body

-- the same, with the kind told by a test
abbrev pub AreAllowedBy : (Def → Bool) → List Stmt → Type 0
AreAllowedBy test = AreAllowed (λ def. IsTrue (test def))
