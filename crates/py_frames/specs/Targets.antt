-- What has been read, seen as targets: when a `=` comes.
use Rattle.std.specs.Prelude.{◌≡◌, ℕ, ◌<◌, length, Bool, true, false, ◌&&◌, if◌then◌else◌, List, [], ◌∷◌, ◌++◌, map, drop, Option, Some, None}
use Rattle.py_tree.specs.declared.expressions.Expr.{Expr, out-Expr}
use Rattle.py_tree.specs.declared.expressions.Expr.TheOpen.{Expr-F}
use Rattle.py_tree.specs.declared.expressions.Relation.{Relation}
use Rattle.py_tree.specs.declared.expressions.Operand.{Operand}
use Rattle.py_tree.specs.declared.expressions.Pair.{Pair}
use Rattle.py_tree.specs.declared.expressions.Target.{Target}
use Rattle.py_tree.specs.declared.expressions.Target.TheVariants as t
use Rattle.py_grammar.specs.Statements.{Targets}
use Rattle.py_grammar.specs.Trees.{tree_targets, targets_divided}
use Rattle.py_frames.specs.declared.seeing.Sight.{Sight}
use Rattle.py_frames.specs.declared.frames.Value.{Value}
use Rattle.py_frames.specs.declared.frames.Frame.{Frame}
use Rattle.py_frames.specs.declared.frames.Hole.{Hole}
use Rattle.py_frames.specs.declared.frames.Hole.TheVariants as h
use Rattle.py_frames.specs.declared.frames.State.{State}
use Rattle.py_frames.specs.declared.frames.State.TheVariants.{Wants, Has, Compared}
use Rattle.py_frames.specs.Values.{places, beside, closes, finished}
use Rattle.py_frames.specs.Steps.{with_both}

abbrev pub target_in : Expr-F Expr Relation Operand Pair → Target
target_in (Expr-F.Name n) = t.Name n
target_in (Expr-F.Index p a) = t.Item p a
-- only of what is too deep
target_in _ = t.Name []

abbrev pub target_of : Expr → Target
target_of x = target_in (out-Expr x)

abbrev pub sight_if : Bool → Bool → List Expr → List ℕ → Option Sight
sight_if divided may xs under = if may then Some (record { targets = map target_of xs; divided = divided; under = under }) else None

-- the last target
abbrev pub sight_in : Hole → Frame → List Frame → Value → Option Sight
sight_in (h.Tuple xs may) f [] v = sight_if true (may && v.target) (xs ++ v.tree ∷ []) (drop 1 (beside f.under (places v)))
sight_in _ f fs v = None

abbrev pub sight_after : List Frame → Value → Option Sight
sight_after [] v = sight_if false v.target (v.tree ∷ []) v.under
sight_after (f ∷ fs) v = sight_in f.hole f fs v

-- after a comma
abbrev pub sight_at_in : Hole → Frame → List Frame → Option Sight
sight_at_in (h.Tuple xs may) f [] = sight_if true may xs (drop 1 f.under)
sight_at_in _ f fs = None

abbrev pub sight_at : List Frame → Option Sight
sight_at [] = None
sight_at (f ∷ fs) = sight_at_in f.hole f fs

-- the targets that have been read, if they are targets
abbrev pub sight : State → Option Sight
sight (Wants fs) = sight_at fs
sight (Has fs v) = with_both (closes 2 fs v) sight_after
sight (Compared fs c) = with_both (closes 2 fs (finished c)) sight_after
sight _ = None

-- what the machine sees is what the forms are: all targets or none, and their trees unless they are too deep
abbrev pub Agrees : Option Sight → Option Targets → Type 0
Agrees None None = Unit {0}
Agrees (Some x) (Some ts) = (x.divided ≡ targets_divided ts) × (length x.under < 64 → x.targets ≡ tree_targets ts)
Agrees _ _ = ⊥
