-- What a cell means, by cases on its tree. (Python language reference: expressions, simple and compound statements.)
use Rattle.std.specs.Prelude.{ℕ, zero, suc, ◌+◌, ℤ, pos, Bool, true, false, cond, not, ◌==◌, List, [], ◌∷◌, ◌++◌, length, codes, Option, Some, None, Result, Ok, Err}
use Rattle.std.specs.FinMap as finite
use Rattle.std.specs.Str.{chars}
use Rattle.py_tree.specs.declared.expressions.Expr.{Expr, out-Expr}
use Rattle.py_tree.specs.declared.expressions.Expr.TheOpen.{Expr-F, Relation-F}
use Rattle.py_tree.specs.declared.expressions.Literal.{Literal}
use Rattle.py_tree.specs.declared.expressions.Literal.TheVariants as literal
use Rattle.py_tree.specs.declared.expressions.Op.{Op}
use Rattle.py_tree.specs.declared.expressions.Op.TheVariants as op
use Rattle.py_tree.specs.declared.expressions.Operand.{Operand, out-Operand}
use Rattle.py_tree.specs.declared.expressions.Pair.{Pair, out-Pair}
use Rattle.py_tree.specs.declared.expressions.Relation.{Relation, out-Relation}
use Rattle.py_tree.specs.declared.expressions.Target.{Target}
use Rattle.py_tree.specs.declared.expressions.Target.TheVariants as target
use Rattle.py_tree.specs.declared.statements.Arm.{Arm, out-Arm}
use Rattle.py_tree.specs.declared.statements.Def.{Def}
use Rattle.py_tree.specs.declared.statements.Stmt.{Stmt, out-Stmt}
use Rattle.py_tree.specs.declared.statements.Stmt.TheOpen.{Stmt-F}
use Rattle.py_tree.specs.Locals.{locals_of}
use Rattle.py_value.specs.declared.value.Builtin.{Builtin}
use Rattle.py_value.specs.declared.value.Builtin.TheVariants as builtin
use Rattle.py_value.specs.declared.value.Value.{Value}
use Rattle.py_value.specs.declared.value.Value.TheVariants as value
use Rattle.py_value.specs.declared.key.Key.{Key}
use Rattle.py_value.specs.declared.key.Key.TheVariants as key
use Rattle.py_value.specs.declared.number.NumberFault.{NumberFault}
use Rattle.py_value.specs.declared.number.NumberFault.TheVariants as number_fault
use Rattle.py_value.specs.Numbers.{number_of}
use Rattle.py_value.specs.Reprs.{key_text}
use Rattle.py_heap.specs.declared.heap.Object.{Object}
use Rattle.py_heap.specs.declared.heap.Object.TheVariants as object
use Rattle.py_heap.specs.declared.heap.SequenceKind.{SequenceKind}
use Rattle.py_heap.specs.declared.heap.SequenceKind.TheVariants as kind
use Rattle.py_heap.specs.States.{raised}
use Rattle.py_machine.specs.declared.frame.Change.TheVariants as changes
use Rattle.py_machine.specs.declared.frame.Flow.{Flow}
use Rattle.py_machine.specs.declared.frame.Flow.TheVariants as flow
use Rattle.py_machine.specs.declared.frame.Frame.{Frame}
use Rattle.py_machine.specs.declared.frame.FrameSlot.TheVariants.{Empty, Held}
use Rattle.py_machine.specs.Changes.{object_kind}
use Rattle.py_machine.specs.declared.iteration.Iteration.{Iteration}
use Rattle.py_machine.specs.Errors.{recursion_error, step_limit_error, overflow_error, not_callable, wrong_number, wrong_argument, range_elsewhere, invalid_literal}
use Rattle.py_machine.specs.Runs.{Name}
use Rattle.py_meaning.specs.Acts.{Act, ◌>>=◌, ◌>>◌, pure, fail, step, charge, look, seek, bind, unbind, is_local, enter, leave, add, object_at, change, list_at, kind_of, write, draw, choose}
use Rattle.py_meaning.specs.Truth.{truth_of}
use Rattle.py_meaning.specs.Operators.{sequence_units, made, made_text, operated, signed}
use Rattle.py_meaning.specs.Compared.{compared}
use Rattle.py_meaning.specs.Items.{keyed, put_in, indexed, sliced, item_stored, item_deleted}
use Rattle.py_meaning.specs.Iterating.{Next, iterated, range_of, advance}
use Rattle.py_meaning.specs.Unpacking.{unpacked}
use Rattle.py_meaning.specs.Methods.{pairs_in, extend, method_of, method_called}
use Rattle.py_meaning.specs.Numbers.{as_number}
use Rattle.py_meaning.specs.Shown.{shown, written}

-- ---- constants

unfoldable pub literal_value : Literal → Act Value
literal_value literal.Nothing = step >> pure value.Nothing
literal_value (literal.Bool truth) = step >> pure (value.Bool truth)
literal_value (literal.Number n) = step >> pure (value.Number n)
literal_value (literal.Text text) = step >> pure (value.Text text)

-- ---- calls

unfoldable pub not_called : Value → Act Value
not_called callee = kind_of callee >>= (λ kind. fail (not_callable kind))

-- the feed's next word
unfoldable pub drawn : Act Value
drawn = draw >>= (λ word. pure (value.Number (pos word)))

abbrev pub draw_called : List Value → Act Value
draw_called [] = drawn
draw_called args = fail (wrong_number (codes "draw"))

abbrev pub object_length : Option Object → Act Value
object_length (Some (object.List items)) = pure (value.Number (pos (length items)))
object_length (Some (object.Tuple items)) = pure (value.Number (pos (length items)))
object_length (Some (object.Dict pairs)) = pure (value.Number (pos (length pairs)))
object_length _ = fail (wrong_argument (codes "len"))

-- the characters of a text, the items of a list or a tuple, the pairs of a dict
unfoldable pub length_of : Value → Act Value
length_of (value.Text text) = pure (value.Number (pos (length (chars text))))
length_of (value.Ref at) = object_at at >>= object_length
length_of held = fail (wrong_argument (codes "len"))

abbrev pub len_called : List Value → Act Value
len_called (held ∷ []) = length_of held
len_called args = fail (wrong_number (codes "len"))

abbrev pub number_read : List ℕ → Result ℤ NumberFault → Act Value
number_read text (Ok n) = pure (value.Number n)
number_read text (Err number_fault.Invalid) = fail (invalid_literal (key_text (key.Text text)))
number_read text (Err number_fault.Wide) = fail overflow_error

-- a text is read as a decimal number
abbrev pub text_as_int : Value → Act Value
text_as_int (value.Text text) = number_read text (number_of text)
text_as_int held = fail (wrong_argument (codes "int"))

abbrev pub as_int : Option ℤ → Value → Act Value
as_int (Some n) held = pure (value.Number n)
as_int None held = text_as_int held

abbrev pub int_called : List Value → Act Value
int_called (held ∷ []) = as_int (as_number held) held
int_called args = fail (wrong_number (codes "int"))

-- a new handle with no uses
unfoldable pub opened : List ℕ → Act Value
opened name = do
  charge (1 + length name)
  at ← add (object.Handle name 0)
  pure (value.Ref at)

abbrev pub open_handle : Value → Act Value
open_handle (value.Text name) = opened name
open_handle held = fail (wrong_argument (codes "handle"))

abbrev pub handle_called : List Value → Act Value
handle_called (held ∷ []) = open_handle held
handle_called args = fail (wrong_number (codes "handle"))

abbrev pub object_told : ℕ → Option Object → Act Value
object_told at (Some (object.Handle name uses)) = change at changes.Use >> pure (value.Number (pos (raised uses)))
object_told at other = fail (wrong_argument (codes "tell"))

unfoldable pub told_at : ℕ → Act Value
told_at at = object_at at >>= object_told at

-- a handle is used once more, and says how often it was
abbrev pub tell : Value → Act Value
tell (value.Ref at) = told_at at
tell held = fail (wrong_argument (codes "tell"))

abbrev pub tell_called : List Value → Act Value
tell_called (held ∷ []) = tell held
tell_called args = fail (wrong_number (codes "tell"))

-- the locals of a call: each is empty but the parameters, which hold the arguments
abbrev pub Slots : Type 0
Slots = Frame

abbrev pub with_empty : Slots → List Name → Slots
with_empty frame [] = frame
with_empty frame (name ∷ names) = with_empty (record { slots = finite.insert frame.slots name Empty }) names

abbrev pub with_held : Slots → List Name → List Value → Slots
with_held frame (name ∷ names) (held ∷ more) = with_held (record { slots = finite.insert frame.slots name (Held held) }) names more
with_held frame _ _ = frame

unfoldable pub frame_of : Def → List Value → Frame
frame_of def args = with_held (with_empty (record { slots = finite.empty }) (locals_of def)) def.params args

-- what a function gives if its body ended in this way
abbrev pub returned : Flow → Value
returned (flow.Return held) = held
returned _ = value.Nothing

abbrev pub is_none : Value → Bool
is_none value.Nothing = true
is_none _ = false

-- ---- names

-- a text that a global name is bound to is charged by its bytes
abbrev pub text_units : Value → ℕ
text_units (value.Text text) = length text
text_units _ = 0

unfoldable pub store : Name → Value → Act (Unit {0})
store name held = is_local name >>= (λ local. choose local (bind name held) (charge (text_units held) >> bind name held))

-- each name gets its value, from left to right
abbrev pub names_stored : List Name → List Value → Act (Unit {0})
names_stored (name ∷ names) (held ∷ more) = store name held >> names_stored names more
names_stored _ _ = pure tt

-- a value goes to a name by itself, or if a comma stands among the names, what it unpacks into goes to them
abbrev pub names_given : Bool → List Name → Value → Act (Unit {0})
names_given true names held = unpacked (length names) held >>= names_stored names
names_given false (name ∷ others) held = store name held
names_given false [] held = pure tt

-- ---- augmented assignments

-- a list itself is extended by the items of a list as they are
abbrev pub extended : ℕ → ℕ → Option (List Value) → Option (List Value) → Act Value
extended a b (Some items) (Some more) = extend a more >> pure (value.Ref a)
extended a b _ _ = operated op.Plus (value.Ref a) (value.Ref b)

unfoldable pub refs_added : ℕ → ℕ → Act Value
refs_added a b = do
  items ← list_at a
  more ← list_at b
  extended a b items more

abbrev pub added : Value → Value → Act Value
added (value.Ref a) (value.Ref b) = refs_added a b
added left right = operated op.Plus left right

abbrev pub augmented : Op → Value → Value → Act Value
augmented op.Plus left right = added left right
augmented o left right = operated o left right

-- ---- deletions and definitions

unfoldable pub delete : Name → Act Flow
delete name = step >> seek name >> unbind name >> pure flow.Next

unfoldable pub define : Def → Act Flow
define def = do
  step
  charge (1 + length def.source)
  at ← add (object.Function def)
  bind def.name (value.Ref at)
  pure flow.Next

-- ---- dict displays

-- each of the first values is a key
abbrev pub keys_from : List (Key × Value) → List (Value × Value) → Act (List (Key × Value))
keys_from pairs [] = pure pairs
keys_from pairs (pair ∷ more) = keyed pair.0 >>= (λ key. keys_from (pairs ++ (key, pair.1) ∷ []) more)

unfoldable pub put : ℕ → Key → Value → Act (Unit {0})
put at key held = object_at at >>= (λ object. put_in at (pairs_in object) key held)

abbrev pub filled : ℕ → List (Key × Value) → Act Value
filled at [] = pure (value.Ref at)
filled at (pair ∷ more) = put at pair.0 pair.1 >> filled at more

-- ---- loops

-- what a loop does after a turn that ended in this way; `more` is how it goes on
abbrev pub after_turn : Flow → Act Flow → Act Flow
after_turn flow.Next more = more
after_turn flow.Continue more = more
after_turn flow.Break more = pure flow.Next
after_turn (flow.Return held) more = pure (flow.Return held)

-- each turn takes a step, so a loop has no more turns than a cell has steps
abbrev pub most_turns : ℕ
most_turns = 1000001

-- what is one level below
pub record Inner : Type 1 where
  pub eval : Expr → Act Value
  pub exec : Stmt → Act Flow
  -- the levels that are left for it
  pub left : ℕ
  -- evaluates the expressions inside an expression that is there, and makes its calls
  pub deeper : Expr → Act Value
  pub calls : Value → List Value → Act Value

module _ (inner : Inner) where
  -- ---- statements one after the other

  abbrev pub goes_on : Flow → Act Flow → Act Flow
  goes_on flow.Next more = more
  goes_on ended more = pure ended

  -- up to the first that leads elsewhere
  abbrev pub block : List Stmt → Act Flow
  block [] = pure flow.Next
  block (s ∷ more) = inner.exec s >>= (λ ended. goes_on ended (block more))

  -- ---- expressions

  -- the values of expressions, after those that are there already
  abbrev pub items_from : List Value → List Expr → Act (List Value)
  items_from values [] = pure values
  items_from values (e ∷ es) = inner.eval e >>= (λ held. items_from (values ++ held ∷ []) es)

  unfoldable pub items : List Expr → Act (List Value)
  items es = items_from [] es

  unfoldable pub display : SequenceKind → List Expr → Act Value
  display kind es = do
    step
    values ← items es
    charge (sequence_units values)
    made kind values

  -- each operator takes its step before its right operand
  abbrev pub operands : Value → List Operand → Act Value
  operands total [] = pure total
  operands total (operand ∷ more) =
      step >> inner.eval (out-Operand operand).value >>= operated (out-Operand operand).op total >>= (λ sum. operands sum more)

  unfoldable pub sum : Expr → List Operand → Act Value
  sum first rest = inner.eval first >>= (λ total. operands total rest)

  unfoldable pub sign : Bool → Expr → Act Value
  sign minus e = step >> inner.eval e >>= signed minus

  unfoldable pub negation : Expr → Act Value
  negation e = do
    step
    held ← inner.eval e
    truth ← truth_of held
    pure (value.Bool (not truth))

  unfoldable pub conditional : Expr → Expr → Expr → Act Value
  conditional test first second = do
    step
    held ← inner.eval test
    truth ← truth_of held
    choose truth (inner.eval first) (inner.eval second)

  -- the first operand that counts as true, or the last
  abbrev pub any_of : Expr → List Expr → Act Value
  any_of e [] = inner.eval e
  any_of e (next ∷ more) = inner.eval e >>= (λ held. truth_of held >>= (λ truth. choose truth (pure held) (step >> any_of next more)))

  abbrev pub disjunction : List Expr → Act Value
  disjunction [] = pure (value.Bool false)
  disjunction (e ∷ more) = any_of e more

  -- the first operand that counts as false, or the last
  abbrev pub all_of : Expr → List Expr → Act Value
  all_of e [] = inner.eval e
  all_of e (next ∷ more) = inner.eval e >>= (λ held. truth_of held >>= (λ truth. choose truth (step >> all_of next more) (pure held)))

  abbrev pub conjunction : List Expr → Act Value
  conjunction [] = pure (value.Bool true)
  conjunction (e ∷ more) = all_of e more

  -- the right operand, if the comparison holds
  unfoldable pub with_right : Value → Op → Expr → Act (Option Value)
  with_right left o e = do
    right ← inner.eval e
    holds ← compared inner.left o left right
    pure (cond holds (Some right) None)

  -- the operand that a chain goes on with, if its comparison holds: after `is None` and `is not None` it is None
  abbrev pub related : Value → Relation-F Expr Relation Operand Pair → Act (Option Value)
  related left (Relation-F.With o e) = with_right left o e
  related left Relation-F.IsNone = pure (cond (is_none left) (Some left) None)
  related left Relation-F.IsNotNone = pure (cond (is_none left) None (Some value.Nothing))

  abbrev pub if_related : Option Value → (Value → Act Value) → Act Value
  if_related None next = pure (value.Bool false)
  if_related (Some held) next = next held

  -- a chain goes on while its comparisons hold
  abbrev pub relations : Value → List Relation → Act Value
  relations left [] = pure (value.Bool true)
  relations left (r ∷ more) = step >> related left (out-Relation r) >>= (λ next. if_related next (λ held. relations held more))

  unfoldable pub comparison : Expr → List Relation → Act Value
  comparison first rest = inner.eval first >>= (λ left. relations left rest)

  -- ---- dicts

  abbrev pub pairs_from : List (Value × Value) → List Pair → Act (List (Value × Value))
  pairs_from values [] = pure values
  pairs_from values (p ∷ ps) = inner.eval (out-Pair p).key >>= (λ at. inner.eval (out-Pair p).value >>= (λ held. pairs_from (values ++ (at, held) ∷ []) ps))

  -- all keys and values are evaluated first, then the kinds of the keys are tested, then the dict is made and filled
  unfoldable pub dict_display : List Pair → Act Value
  dict_display ps = do
    step
    values ← pairs_from [] ps
    pairs ← keys_from [] values
    charge 1
    at ← add (object.Dict [])
    filled at pairs

  -- ---- items and methods

  unfoldable pub index : Expr → Expr → Act Value
  index e at = do
    step
    container ← inner.eval e
    key ← inner.eval at
    indexed container key

  abbrev pub if_there : Option Expr → Act (Option Value)
  if_there None = pure None
  if_there (Some e) = inner.eval e >>= (λ held. pure (Some held))

  unfoldable pub slice : Expr → Option Expr → Option Expr → Act Value
  slice e from to = do
    step
    container ← inner.eval e
    first ← if_there from
    past ← if_there to
    sliced container first past

  -- the object comes first, and the method is looked for before its arguments
  unfoldable pub method : Expr → Name → List Expr → Act Value
  method on name args = do
    step
    object ← inner.eval on
    found ← method_of object name
    values ← items args
    method_called found values

  -- the texts of values, with a space before each
  abbrev pub words : List ℕ → List Value → Act (List ℕ)
  words text [] = pure (text ++ 10 ∷ [])
  words text (held ∷ more) = written inner.left held >>= (λ word. words ((text ++ codes " ") ++ word) more)

  -- a line: the texts of values with a space between, and a line feed
  abbrev pub line : List Value → Act (List ℕ)
  line [] = pure (10 ∷ [])
  line (held ∷ more) = written inner.left held >>= (λ word. words word more)

  -- charged by its bytes
  unfoldable pub print : List Value → Act Value
  print values = do
    text ← line values
    charge (length text)
    write text
    pure value.Nothing

  -- a text is itself, and nothing is made
  abbrev pub str_of : Value → List ℕ → Act Value
  str_of (value.Text bytes) text = pure (value.Text text)
  str_of held text = made_text text

  unfoldable pub str : Value → Act Value
  str held = written inner.left held >>= str_of held

  abbrev pub str_called : List Value → Act Value
  str_called (held ∷ []) = str held
  str_called args = fail (wrong_number (codes "str"))

  unfoldable pub repr : Value → Act Value
  repr held = shown inner.left [] [] held >>= made_text

  abbrev pub repr_called : List Value → Act Value
  repr_called (held ∷ []) = repr held
  repr_called args = fail (wrong_number (codes "repr"))

  abbrev pub builtin_called : Builtin → List Value → Act Value
  builtin_called builtin.Print args = print args
  builtin_called builtin.Draw args = draw_called args
  builtin_called builtin.Len args = len_called args
  builtin_called builtin.Str args = str_called args
  builtin_called builtin.Repr args = repr_called args
  builtin_called builtin.Int args = int_called args
  builtin_called builtin.Range args = fail range_elsewhere
  builtin_called builtin.Handle args = handle_called args
  builtin_called builtin.Tell args = tell_called args

  -- the body runs on a frame of its own, and the frame outside counts again after it
  unfoldable pub entered : Def → List Value → Act Value
  entered def args = do
    outer ← enter (frame_of def args)
    ended ← block def.body
    leave outer
    pure (returned ended)

  abbrev pub function_called : Def → List Value → Act Value
  function_called def args = choose (length args == length def.params) (entered def args) (fail (wrong_number def.name))

  abbrev pub object_called : List Value → Option Object → Act Value
  object_called args (Some (object.Function def)) = function_called def args
  object_called args object = fail (not_callable (object_kind object))

  unfoldable pub ref_called : ℕ → List Value → Act Value
  ref_called at args = object_at at >>= object_called args

  abbrev pub called : Value → List Value → Act Value
  called (value.Builtin builtin) args = builtin_called builtin args
  called (value.Ref at) args = ref_called at args
  called callee args = not_called callee

  unfoldable pub call : Expr → List Expr → Act Value
  call callee args = do
    step
    function ← inner.eval callee
    values ← items args
    called function values

  abbrev pub expression : Expr-F Expr Relation Operand Pair → Act Value
  expression (Expr-F.Name name) = step >> look name
  expression (Expr-F.Literal constant) = literal_value constant
  expression (Expr-F.ListOf es) = display kind.List es
  expression (Expr-F.TupleOf es) = display kind.Tuple es
  expression (Expr-F.Conditional test first second) = conditional test first second
  expression (Expr-F.Or es) = disjunction es
  expression (Expr-F.And es) = conjunction es
  expression (Expr-F.Not e) = negation e
  expression (Expr-F.Compare first rest) = comparison first rest
  expression (Expr-F.Sum first rest) = sum first rest
  expression (Expr-F.Product first rest) = sum first rest
  expression (Expr-F.Sign minus e) = sign minus e
  expression (Expr-F.Call callee args) = call callee args
  expression (Expr-F.Method on name args) = method on name args
  expression (Expr-F.DictOf pairs) = dict_display pairs
  expression (Expr-F.Index e at) = index e at
  expression (Expr-F.Slice e from to) = slice e from to

  -- ---- statements

  unfoldable pub stored_in_item : Expr → Expr → Value → Act (Unit {0})
  stored_in_item on at held = do
    container ← inner.eval on
    key ← inner.eval at
    item_stored container key held

  abbrev pub stored : Target → Value → Act (Unit {0})
  stored (target.Name name) held = store name held
  stored (target.Item on at) held = stored_in_item on at held

  -- each target gets its value, from left to right
  abbrev pub all_stored : List Target → List Value → Act (Unit {0})
  all_stored (target ∷ targets) (held ∷ more) = stored target held >> all_stored targets more
  all_stored _ _ = pure tt

  -- a value goes to a target by itself, or if a comma stands among the targets, what it unpacks into goes to them
  abbrev pub given : Bool → List Target → Value → Act (Unit {0})
  given true targets held = unpacked (length targets) held >>= all_stored targets
  given false (target ∷ others) held = stored target held
  given false [] held = pure tt

  -- the value comes before the targets
  unfoldable pub assign : List Target → Bool → Expr → Act Flow
  assign targets comma e = do
    step
    held ← inner.eval e
    given comma targets held
    pure flow.Next

  -- the target of an augmented assignment is evaluated once, as an expression is
  unfoldable pub as_expression : Act (Unit {0})
  as_expression = choose (inner.left == 0) (fail recursion_error) step

  unfoldable pub augment : Name → Op → Expr → Act Flow
  augment name o e = do
    step
    as_expression
    held ← look name
    right ← inner.eval e
    new ← augmented o held right
    store name new
    pure flow.Next

  unfoldable pub augment_item : Expr → Expr → Op → Expr → Act Flow
  augment_item on at o e = do
    step
    as_expression
    container ← inner.deeper on
    key ← inner.deeper at
    held ← indexed container key
    right ← inner.eval e
    new ← augmented o held right
    item_stored container key new
    pure flow.Next

  abbrev pub augment_at : Target → Op → Expr → Act Flow
  augment_at (target.Name name) o e = augment name o e
  augment_at (target.Item on at) o e = augment_item on at o e

  unfoldable pub delete_item : Expr → Expr → Act Flow
  delete_item on at = do
    step
    container ← inner.eval on
    key ← inner.eval at
    item_deleted container key
    pure flow.Next

  abbrev pub deleted : Target → Act Flow
  deleted (target.Name name) = delete name
  deleted (target.Item on at) = delete_item on at

  abbrev pub show : Expr → Act Flow
  show e = step >> inner.eval e >> pure flow.Next

  abbrev pub return : Option Expr → Act Flow
  return None = step >> pure (flow.Return value.Nothing)
  return (Some e) = step >> inner.eval e >>= (λ held. pure (flow.Return held))

  -- the block after the first test that counts as true
  abbrev pub arms : List Arm → List Stmt → Act Flow
  arms [] other = block other
  arms (arm ∷ more) other = inner.eval (out-Arm arm).test >>= (λ held. truth_of held >>= (λ truth. choose truth (block (out-Arm arm).body) (arms more other)))

  unfoldable pub turns : ℕ → Expr → List Stmt → Act Flow
  turns zero test body = fail step_limit_error
  turns (suc n) test body =
      inner.eval test >>= (λ held. truth_of held >>= (λ truth. choose truth (block body >>= (λ ended. after_turn ended (turns n test body))) (pure flow.Next)))

  unfoldable pub repeat : Expr → List Stmt → Act Flow
  repeat test body = step >> turns most_turns test body

  -- ---- `for`

  abbrev pub deeper_items_from : List Value → List Expr → Act (List Value)
  deeper_items_from values [] = pure values
  deeper_items_from values (e ∷ es) = inner.deeper e >>= (λ held. deeper_items_from (values ++ held ∷ []) es)

  -- `range` is for this alone
  abbrev pub source_called : Value → List Value → Act Iteration
  source_called (value.Builtin builtin.Range) args = range_of args
  source_called callee args = inner.calls callee args >>= iterated

  unfoldable pub call_source : Expr → List Expr → Act Iteration
  call_source callee args = do
    as_expression
    function ← inner.deeper callee
    values ← deeper_items_from [] args
    source_called function values

  -- what a `for` goes over: a call as its source may be one of `range`
  abbrev pub source_of : Expr → Expr-F Expr Relation Operand Pair → Act Iteration
  source_of e (Expr-F.Call callee args) = call_source callee args
  source_of e other = inner.eval e >>= iterated

  -- a turn takes a step and binds the names
  abbrev pub turn : List Name → Bool → Next → (Iteration → Act Flow) → Act Flow
  turn names comma None go = pure flow.Next
  turn names comma (Some next) go = step >> names_given comma names next.0 >> go next.1

  unfoldable pub rounds : ℕ → List Name → Bool → List Stmt → Iteration → Act Flow
  rounds zero names comma body from = fail step_limit_error
  rounds (suc n) names comma body from =
      advance from >>= (λ next. turn names comma next (λ rest. block body >>= (λ ended. after_turn ended (rounds n names comma body rest))))

  unfoldable pub for_each : List Name → Bool → Expr → List Stmt → Act Flow
  for_each names comma e body = step >> source_of e (out-Expr e) >>= rounds most_turns names comma body

  abbrev pub statement : Stmt-F Stmt Arm Def → Act Flow
  statement Stmt-F.Pass = step >> pure flow.Next
  statement Stmt-F.Break = step >> pure flow.Break
  statement Stmt-F.Continue = step >> pure flow.Continue
  statement (Stmt-F.Return e) = return e
  statement (Stmt-F.Global names) = step >> pure flow.Next
  statement (Stmt-F.Delete target) = deleted target
  statement (Stmt-F.Assign targets comma e) = assign targets comma e
  statement (Stmt-F.Augment target o e) = augment_at target o e
  statement (Stmt-F.Expression e) = show e
  statement (Stmt-F.If tests other) = step >> arms tests other
  statement (Stmt-F.While test body) = repeat test body
  statement (Stmt-F.For names comma source body) = for_each names comma source body
  statement (Stmt-F.Function def) = define def

-- with this many levels left
unfoldable pub level : ℕ → Inner
level zero = record { eval = λ _. fail recursion_error; exec = λ _. fail recursion_error; left = 0; deeper = λ _. fail recursion_error; calls = λ _ _. fail recursion_error }
level (suc n) = record {
  eval = λ e. expression (level n) (out-Expr e);
  exec = λ s. statement (level n) (out-Stmt s);
  left = suc n;
  deeper = (level n).eval;
  calls = called (level n);
}

-- ---- a cell: its statements are at level 1 of 800

-- A result is shown as by a call of `repr`: at level 3, with its bytes charged after its steps.
unfoldable pub result_text : Value → Act (Option (List ℕ))
result_text held = do
  text ← shown 798 [] [] held
  charge (length text)
  pure (Some text)

-- None is no result
abbrev pub result : Value → Act (Option (List ℕ))
result value.Nothing = pure None
result held = result_text held

abbrev pub show_last : Expr → Act (Option (List ℕ))
show_last e = step >> (level 799).eval e >>= result

-- a last statement gives a result if it is an expression
abbrev pub last : Stmt → Stmt-F Stmt Arm Def → Act (Option (List ℕ))
last s (Stmt-F.Expression e) = show_last e
last s _ = (level 800).exec s >> pure None

abbrev pub top_from : Stmt → List Stmt → Act (Option (List ℕ))
top_from s [] = last s (out-Stmt s)
top_from s (t ∷ more) = (level 800).exec s >> top_from t more

abbrev pub cell : List Stmt → Act (Option (List ℕ))
cell [] = pure None
cell (s ∷ more) = top_from s more
