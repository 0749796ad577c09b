-- Small texts, read by hand.
use Rattle.std.proofs.Common.{◌≡◌, ℕ, zero, suc, true, false, List, [], ◌∷◌, Option, Some, None, refl}
use Rattle.py_token.specs.declared.kinds.Kind.{Kind}
use Rattle.py_token.specs.declared.kinds.Kind.TheVariants as t
use Rattle.std.specs.Prelude.{pos}
use Rattle.py_tree.specs.declared.expressions.Expr.{Expr}
use Rattle.py_tree.specs.declared.expressions.Expr.TheVariants as e
use Rattle.py_tree.specs.declared.expressions.Literal.TheVariants as literal
use Rattle.py_tree.specs.declared.expressions.Relation.TheVariants as relation
use Rattle.py_tree.specs.declared.expressions.Op.TheVariants as o
use Rattle.py_tree.specs.declared.expressions.Target.TheVariants as place
use Rattle.py_tree.specs.declared.statements.Stmt.{Stmt}
use Rattle.py_tree.specs.declared.statements.Stmt.TheVariants as s
use Rattle.py_tree.specs.declared.statements.Def.{roll-Def}
use Rattle.py_token.specs.declared.kinds.Keyword.TheVariants as k
use Rattle.py_grammar.specs.declared.constructs.Construct.{Construct}
use Rattle.py_grammar.specs.declared.constructs.Construct.TheVariants.{Word as Word_, Comprehension, Set, Is, Attribute, ChainedAssignment, KeywordArgument, Default, NestedFunction}
use Rattle.py_grammar.specs.Words.{not_word, if_word, else_word, elif_word, while_word, for_word, in_word, is_word, none_word, pass_word, break_word, continue_word, return_word, global_word, del_word, def_word, import_word, plus_assign_sign, plus_sign, minus_sign, times_sign, assign_sign, open_parenthesis, close_parenthesis, open_bracket, close_bracket, open_brace, close_brace, colon, comma, dot}
use Rattle.py_grammar.specs.States.{State, done, start, step, run}
use Rattle.py_grammar.specs.Trees.{tree_cell}
use Rattle.py_grammar.specs.Outside.{outside}

-- what the machine makes of tokens: the tree of the cell, if it is one
cell_of : Option State → Option (List Stmt)
cell_of (Some (done c)) = Some (tree_cell (λ from to. from ∷ to ∷ []) c)
cell_of _ = None

tree_of_tokens : List Kind → Option (List Stmt)
tree_of_tokens tokens = cell_of (run start tokens)

-- or else where it stops, and the construct that begins there
stops_from : ℕ → State → List Kind → Option (ℕ × Option Construct)
stops_from n s [] = None
stops_from n s (t ∷ ts) = elim (step s t) [ None ↦ Some (n, outside s t) | Some u ↦ stops_from (suc n) u ts ]

stops : List Kind → Option (ℕ × Option Construct)
stops tokens = stops_from zero start tokens

abbrev a : List ℕ
a = 97 ∷ []

abbrev b : List ℕ
b = 98 ∷ []

abbrev f : List ℕ
f = 102 ∷ []

abbrev named : List ℕ → Expr
named n = e.Name n

abbrev numbered : ℕ → Expr
numbered n = e.Literal (literal.Number (pos n))

abbrev digit : ℕ → Kind
digit n = t.Number (pos n)

-- no text
empty : tree_of_tokens (t.End ∷ []) ≡ Some []
unfolding tree_of_tokens cell_of
empty = refl

-- a = 1 + 2 * 3 - 4
sums : tree_of_tokens (t.Name a ∷ assign_sign ∷ digit 1 ∷ plus_sign ∷ digit 2 ∷ times_sign ∷ digit 3 ∷ minus_sign ∷ digit 4 ∷ t.Newline ∷ t.End ∷ [])
    ≡ Some (s.Assign (place.Name a ∷ []) false (e.Sum (numbered 1) (record { op = o.Plus; value = e.Product (numbered 2) (record { op = o.Times; value = numbered 3 } ∷ []) } ∷ record { op = o.Minus; value = numbered 4 } ∷ [])) ∷ [])
unfolding tree_of_tokens cell_of
sums = refl

-- a if b else - - a
picks : tree_of_tokens (t.Name a ∷ if_word ∷ t.Name b ∷ else_word ∷ minus_sign ∷ minus_sign ∷ t.Name a ∷ t.Newline ∷ t.End ∷ [])
    ≡ Some (s.Expression (e.Conditional (named b) (named a) (e.Sign true (e.Sign true (named a)))) ∷ [])
unfolding tree_of_tokens cell_of
picks = refl

-- not a is not None not in b
relations : tree_of_tokens (not_word ∷ t.Name a ∷ is_word ∷ not_word ∷ none_word ∷ not_word ∷ in_word ∷ t.Name b ∷ t.Newline ∷ t.End ∷ [])
    ≡ Some (s.Expression (e.Not (e.Compare (named a) (relation.IsNotNone ∷ relation.With o.NotIn (named b) ∷ []))) ∷ [])
unfolding tree_of_tokens cell_of
relations = refl

-- a(b, [],)[1:].f({a: b})
calls : tree_of_tokens (t.Name a ∷ open_parenthesis ∷ t.Name b ∷ comma ∷ open_bracket ∷ close_bracket ∷ comma ∷ close_parenthesis ∷ open_bracket ∷ digit 1 ∷ colon ∷ close_bracket ∷ dot ∷ t.Name f
    ∷ open_parenthesis ∷ open_brace ∷ t.Name a ∷ colon ∷ t.Name b ∷ close_brace ∷ close_parenthesis ∷ t.Newline ∷ t.End ∷ [])
    ≡ Some (s.Expression (e.Method (e.Slice (e.Call (named a) (named b ∷ e.ListOf [] ∷ [])) (Some (numbered 1)) None) f (e.DictOf (record { key = named a; value = named b } ∷ []) ∷ [])) ∷ [])
unfolding tree_of_tokens cell_of
calls = refl

-- if a: pass / elif b: b[1] += 2 / else: del a
branch : tree_of_tokens (if_word ∷ t.Name a ∷ colon ∷ pass_word ∷ t.Newline ∷ elif_word ∷ t.Name b ∷ colon ∷ t.Newline ∷ t.Indent ∷ t.Name b ∷ open_bracket ∷ digit 1 ∷ close_bracket ∷ plus_assign_sign ∷ digit 2 ∷ t.Newline ∷ t.Dedent
    ∷ else_word ∷ colon ∷ del_word ∷ t.Name a ∷ t.Newline ∷ t.End ∷ [])
    ≡ Some (s.If (record { test = named a; body = s.Pass ∷ [] } ∷ record { test = named b; body = s.Augment (place.Item (named b) (numbered 1)) o.Plus (numbered 2) ∷ [] } ∷ []) (s.Delete (place.Name a) ∷ []) ∷ [])
unfolding tree_of_tokens cell_of
branch = refl

-- while a: break, then for a in b: continue
loops : tree_of_tokens (while_word ∷ t.Name a ∷ colon ∷ break_word ∷ t.Newline ∷ for_word ∷ t.Name a ∷ in_word ∷ t.Name b ∷ colon ∷ continue_word ∷ t.Newline ∷ t.End ∷ [])
    ≡ Some (s.While (named a) (s.Break ∷ []) ∷ s.For (a ∷ []) false (named b) (s.Continue ∷ []) ∷ [])
unfolding tree_of_tokens cell_of
loops = refl

-- def f(a,): global b / return a
functions : tree_of_tokens (def_word ∷ t.Name f ∷ open_parenthesis ∷ t.Name a ∷ comma ∷ close_parenthesis ∷ colon ∷ t.Newline ∷ t.Indent ∷ global_word ∷ t.Name b ∷ t.Newline ∷ return_word ∷ t.Name a ∷ t.Newline ∷ t.Dedent ∷ t.End ∷ [])
    ≡ Some (s.Function (roll-Def (record { name = f; params = a ∷ []; body = s.Global (b ∷ []) ∷ s.Return (Some (named a)) ∷ []; source = 0 ∷ 16 ∷ [] })) ∷ [])
unfolding tree_of_tokens cell_of
functions = refl

-- def f(a): global a
global_param : stops (def_word ∷ t.Name f ∷ open_parenthesis ∷ t.Name a ∷ close_parenthesis ∷ colon ∷ global_word ∷ t.Name a ∷ t.Newline ∷ t.End ∷ []) ≡ Some (7, None)
unfolding stops stops_from
global_param = refl

-- def f(): a.b() / global b
global_late : stops (def_word ∷ t.Name f ∷ open_parenthesis ∷ close_parenthesis ∷ colon ∷ t.Newline ∷ t.Indent ∷ t.Name a ∷ dot ∷ t.Name b ∷ open_parenthesis ∷ close_parenthesis ∷ t.Newline ∷ global_word ∷ t.Name b ∷ []) ≡ Some (14, None)
unfolding stops stops_from
global_late = refl

-- def f(a, a
same_param : stops (def_word ∷ t.Name f ∷ open_parenthesis ∷ t.Name a ∷ comma ∷ t.Name a ∷ []) ≡ Some (5, None)
unfolding stops stops_from
same_param = refl

-- break, outside a loop; return, outside a function; del a +, which is no target
break_alone : stops (break_word ∷ []) ≡ Some (0, None)
unfolding stops stops_from
break_alone = refl

return_alone : stops (return_word ∷ []) ≡ Some (0, None)
unfolding stops stops_from
return_alone = refl

delete_sum : stops (del_word ∷ t.Name a ∷ plus_sign ∷ []) ≡ Some (2, None)
unfolding stops stops_from
delete_sum = refl

-- while a: def; def f(): while a: break
break_in_function : stops (while_word ∷ t.Name a ∷ colon ∷ def_word ∷ []) ≡ Some (3, Some NestedFunction)
unfolding stops stops_from
break_in_function = refl

-- a, b[1], = b, (a,)
tuples : tree_of_tokens (t.Name a ∷ comma ∷ t.Name b ∷ open_bracket ∷ digit 1 ∷ close_bracket ∷ comma ∷ assign_sign ∷ t.Name b ∷ comma ∷ open_parenthesis ∷ t.Name a ∷ comma ∷ close_parenthesis ∷ t.Newline ∷ t.End ∷ [])
    ≡ Some (s.Assign (place.Name a ∷ place.Item (named b) (numbered 1) ∷ []) true (e.TupleOf (named b ∷ e.TupleOf (named a ∷ []) ∷ [])) ∷ [])
unfolding tree_of_tokens cell_of
tuples = refl

-- a, = (), and (b), which is no tuple
ones : tree_of_tokens (t.Name a ∷ comma ∷ assign_sign ∷ open_parenthesis ∷ close_parenthesis ∷ t.Newline ∷ open_parenthesis ∷ t.Name b ∷ close_parenthesis ∷ t.Newline ∷ t.End ∷ [])
    ≡ Some (s.Assign (place.Name a ∷ []) true (e.TupleOf []) ∷ s.Expression (named b) ∷ [])
unfolding tree_of_tokens cell_of
ones = refl

-- for a, b in f, : a += 1,
pairs : tree_of_tokens (for_word ∷ t.Name a ∷ comma ∷ t.Name b ∷ in_word ∷ t.Name f ∷ comma ∷ colon ∷ t.Name a ∷ plus_assign_sign ∷ digit 1 ∷ comma ∷ t.Newline ∷ t.End ∷ [])
    ≡ Some (s.For (a ∷ b ∷ []) true (e.TupleOf (named f ∷ [])) (s.Augment (place.Name a) o.Plus (e.TupleOf (numbered 1 ∷ [])) ∷ []) ∷ [])
unfolding tree_of_tokens cell_of
pairs = refl

-- targets in parentheses; a sum among targets; a, += ; if a, ; del a, ; a comma alone
enclosed_targets : stops (open_parenthesis ∷ t.Name a ∷ comma ∷ t.Name b ∷ close_parenthesis ∷ assign_sign ∷ []) ≡ Some (5, None)
unfolding stops stops_from
enclosed_targets = refl

sum_target : stops (t.Name a ∷ comma ∷ t.Name a ∷ plus_sign ∷ t.Name b ∷ assign_sign ∷ []) ≡ Some (5, None)
unfolding stops stops_from
sum_target = refl

augmented_list : stops (t.Name a ∷ comma ∷ plus_assign_sign ∷ []) ≡ Some (2, None)
unfolding stops stops_from
augmented_list = refl

tested_tuple : stops (if_word ∷ t.Name a ∷ comma ∷ []) ≡ Some (2, None)
unfolding stops stops_from
tested_tuple = refl

deleted_tuple : stops (del_word ∷ t.Name a ∷ comma ∷ []) ≡ Some (2, None)
unfolding stops stops_from
deleted_tuple = refl

lone_comma : stops (open_parenthesis ∷ comma ∷ []) ≡ Some (1, None)
unfolding stops stops_from
lone_comma = refl

-- a, = b, = ; a = b = 1; a(b=1); {a, b}; [a for b; a is 1; a.b = 1; import
chained_tuples : stops (t.Name a ∷ comma ∷ assign_sign ∷ t.Name b ∷ comma ∷ assign_sign ∷ []) ≡ Some (5, Some ChainedAssignment)
unfolding stops stops_from
chained_tuples = refl

chain : stops (t.Name a ∷ assign_sign ∷ t.Name b ∷ assign_sign ∷ digit 1 ∷ []) ≡ Some (3, Some ChainedAssignment)
unfolding stops stops_from
chain = refl

keyword_argument : stops (t.Name a ∷ open_parenthesis ∷ t.Name b ∷ assign_sign ∷ digit 1 ∷ []) ≡ Some (3, Some KeywordArgument)
unfolding stops stops_from
keyword_argument = refl

set : stops (open_brace ∷ t.Name a ∷ comma ∷ []) ≡ Some (2, Some Set)
unfolding stops stops_from
set = refl

comprehension : stops (open_bracket ∷ t.Name a ∷ for_word ∷ []) ≡ Some (2, Some Comprehension)
unfolding stops stops_from
comprehension = refl

is_one : stops (t.Name a ∷ is_word ∷ digit 1 ∷ []) ≡ Some (2, Some Is)
unfolding stops stops_from
is_one = refl

attribute : stops (t.Name a ∷ dot ∷ t.Name b ∷ assign_sign ∷ []) ≡ Some (3, Some Attribute)
unfolding stops stops_from
attribute = refl

default_value : stops (def_word ∷ t.Name f ∷ open_parenthesis ∷ t.Name a ∷ assign_sign ∷ []) ≡ Some (4, Some Default)
unfolding stops stops_from
default_value = refl

import_word_alone : stops (import_word ∷ []) ≡ Some (0, Some (Word_ k.Import))
unfolding stops stops_from
import_word_alone = refl
