-- What a block holds: the statements that have ended in it, with the places of what is in them.
use Rattle.std.specs.Prelude.{ℕ, Bool, true, false, if◌then◌else◌, nat_lt, List, [], ◌∷◌, ◌++◌, length, Option, Some, None}
use Rattle.py_tree.specs.declared.statements.Arm.{Arm}
use Rattle.py_tree.specs.declared.statements.Def.{roll-Def}
use Rattle.py_tree.specs.declared.statements.Stmt.{Stmt}
use Rattle.py_tree.specs.declared.statements.Stmt.TheVariants as s
use Rattle.py_frames.specs.Values.{beside}
use Rattle.py_blocks.specs.declared.state.Around.{Around}
use Rattle.py_blocks.specs.declared.state.Branches.{Branches}
use Rattle.py_blocks.specs.declared.state.Done.{Done}
use Rattle.py_blocks.specs.declared.state.Head.{Head}
use Rattle.py_blocks.specs.declared.state.Head.TheVariants as head
use Rattle.py_blocks.specs.declared.state.Last.{Last}
use Rattle.py_blocks.specs.declared.state.Last.TheVariants as last
use Rattle.py_blocks.specs.declared.state.Outer.{Outer}
use Rattle.py_blocks.specs.declared.state.Spot.{Spot}
use Rattle.py_blocks.specs.declared.state.Spot.TheVariants as spot
use Rattle.py_blocks.specs.declared.state.State.{State}
use Rattle.py_blocks.specs.declared.state.State.TheVariants as h

abbrev pub Texts : Type 0
Texts = ℕ → ℕ → List ℕ

-- what is 64 deep below its first depth is too deep in every cell, and its tree isn't kept
abbrev pub kept_statement : List ℕ → Stmt → Stmt
kept_statement under tree = if nat_lt (length under) 64 then tree else s.Pass

abbrev pub nothing : Done
nothing = record { statements = []; under = [] }

-- one more statement ends
abbrev pub add : Done → Stmt → ℕ → List ℕ → Done
add done tree from under = record { statements = done.statements ++ kept_statement under tree ∷ []; under = beside done.under (from ∷ under) }

abbrev pub add_branches : Done → Branches → Done
add_branches done b = add done (s.If b.arms []) b.from b.under

-- with the last, after which no `elif` and no `else` comes
abbrev pub settled : Done → Last → Done
settled done (last.Branches b) = add_branches done b
settled done _ = done

abbrev pub grown : Branches → Arm → List ℕ → Branches
grown b arm inner = record { arms = b.arms ++ arm ∷ []; from = b.from; under = beside b.under inner }

abbrev pub branch_closed : List Outer → Done → Branches → Arm → List ℕ → State
branch_closed os before b arm inner = h.Line os before (last.Branches (grown b arm inner))

abbrev pub line_after : List Outer → Done → Stmt → ℕ → List ℕ → State
line_after os before tree from under = h.Line os (add before tree from under) last.Other

-- what a head and its block make, with the text of a function
abbrev pub statement_of : Texts → ℕ → ℕ → Head → List Stmt → Stmt
statement_of texts from left (head.Branch arms test) body = s.If (arms ++ record { test = test; body = body } ∷ []) []
statement_of texts from left (head.Else arms) body = s.If arms body
statement_of texts from left (head.While test) body = s.While test body
statement_of texts from left (head.For names comma iterable) body = s.For names comma iterable body
statement_of texts from left (head.Function name params) body = s.Function (roll-Def (record { name = name; params = params; body = body; source = texts from left }))

-- a block ends, and with it its statement, or its branch
abbrev pub closed_in : Texts → ℕ → Head → List Outer → Outer → Done → State
closed_in texts left (head.Branch arms test) os o body = branch_closed os o.before (record { arms = arms; from = o.from; under = o.under }) (record { test = test; body = body.statements }) body.under
closed_in texts left hd os o body = line_after os o.before (statement_of texts o.from left hd body.statements) o.from (beside o.under body.under)

abbrev pub closed : Texts → ℕ → List Outer → Outer → Done → State
closed texts left os o body = closed_in texts left o.head os o body

-- a simple statement ends
abbrev pub ended : Texts → ℕ → List Outer → Spot → ℕ → Stmt → List ℕ → State
ended texts left os (spot.Own done) from tree under = line_after os done tree from under
ended texts left os (spot.Behind o) from tree under = closed texts left os o (add nothing tree from under)

-- ---- where it is

abbrev pub outside_all : Around
outside_all = record { in_function = false; in_loop = false }

abbrev pub around_of : List Outer → Around
around_of [] = outside_all
around_of (o ∷ os) = o.around

abbrev pub spot_around : List Outer → Spot → Around
spot_around os (spot.Own done) = around_of os
spot_around os (spot.Behind o) = o.around

-- where the block of such a head is
abbrev pub block_around : Head → Around → Around
block_around (head.Branch arms test) a = a
block_around (head.Else arms) a = a
block_around (head.While test) a = record { in_function = a.in_function; in_loop = true }
block_around (head.For names comma iterable) a = record { in_function = a.in_function; in_loop = true }
block_around (head.Function name params) a = record { in_function = true; in_loop = false }
