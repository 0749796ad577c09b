-- The construct that a token begins after what the machine holds is that of the forms.
use Rattle.std.proofs.Common.{◌≡◌, ℕ, suc, false, nat_eq, ne_eqb, arith, ◌&&◌, ◌++◌, length, is_some, List, [], ◌∷◌, Option, Some, None, refl, ap, ◌∙◌, sym}
use Rattle.py_token.specs.declared.kinds.Kind.{Kind}
use Rattle.py_tree.specs.declared.expressions.Pair.{Pair}
use Rattle.py_grammar.specs.Words.{for_word, close_brace, assign_sign, colon, comma}
use Rattle.py_grammar.specs.Expressions.{Expression, Ors, Ands, Compares, compares_none, compares_not_none, function, method, Exprs, Pairs, pairs_one, pairs_more, spell_expression, spell_compares}
use Rattle.py_grammar.specs.Readings as r
use Rattle.py_grammar.specs.Readings.{Picked, upper, Opened, opened, listed, in_group, in_display, in_dict, in_pair, in_call, in_index, in_slice, wants, has, has_none, has_not_none, after_is, after_is_not, after_not, after_dot, after_method, compares_of, expression_of, whole}
use Rattle.py_grammar.specs.Outside.{behind_whole, comma_begins, for_begins, brace_begins, equals_begins, outside_reading}
use Rattle.py_frames.specs.declared.frames.Value.{Value}
use Rattle.py_frames.specs.declared.frames.Frame.{Frame}
use Rattle.py_frames.specs.declared.frames.Hole.{Hole}
use Rattle.py_frames.specs.declared.frames.Hole.TheVariants as h
use Rattle.py_frames.specs.declared.frames.State.{State}
use Rattle.py_frames.specs.declared.frames.State.TheVariants.{Wants, Has, Compared}
use Rattle.py_frames.specs.Values.{closes, finished, is_tuple}
use Rattle.py_frames.specs.Kept.{kept_pairs}
use Rattle.py_frames.specs.Held.{value_compares, frames_opened, above, held, value_if}
use Rattle.py_frames.specs.Constructs.{behind_hole, behind_top, construct, lone, lone_tuple, may_end}
use Rattle.py_frames.specs.Ends.{ended, ended_in, ended_after, ended_at_in, ended_at}
use Rattle.py_frames.proofs.Wholes.{reading-ended}
use Rattle.py_frames.proofs.Stepped.{ends-2, ends-2-test, whole_of}
use Rattle.py_frames.proofs.Closed.{compares-end}

module _ (place : ℕ → ℕ) where
  -- after pairs nothing begins
  more-pairs : (xs : List Pair) (x : Pair) (t : Kind) → behind_hole (h.Dict (xs ++ x ∷ [])) t ≡ None
  more-pairs [] x t = refl
  more-pairs (y ∷ xs) x t = refl

  pairs-begin : (ps : Pairs) (rest : List Kind) (t : Kind) → behind_hole (h.Dict (kept_pairs place ps rest)) t ≡ None
  pairs-begin (pairs_one a b) rest t = refl
  pairs-begin (pairs_more ps a b) rest t = more-pairs (kept_pairs place ps (comma ∷ spell_expression a (colon ∷ spell_expression b rest))) _ t

  -- after a whole expression
  top-begins : (os : List Opened) (a : Expression) (t : Kind) (rest : List Kind) → behind_top (frames_opened place os (spell_expression a rest)) t ≡ behind_whole os (Some a) t
  top-begins [] a comma rest = refl
  top-begins [] a for_word rest = refl
  top-begins [] a close_brace rest = refl
  top-begins [] a assign_sign rest = refl
  top-begins [] a t rest = refl
  top-begins (listed es ∷ os) a comma rest = refl
  top-begins (listed es ∷ os) a for_word rest = refl
  top-begins (listed es ∷ os) a close_brace rest = refl
  top-begins (listed es ∷ os) a assign_sign rest = refl
  top-begins (listed es ∷ os) a t rest = refl
  top-begins (opened u w in_group ∷ os) a comma rest = refl
  top-begins (opened u w in_group ∷ os) a for_word rest = refl
  top-begins (opened u w in_group ∷ os) a close_brace rest = refl
  top-begins (opened u w in_group ∷ os) a assign_sign rest = refl
  top-begins (opened u w in_group ∷ os) a t rest = refl
  top-begins (opened u w (in_display None) ∷ os) a comma rest = refl
  top-begins (opened u w (in_display None) ∷ os) a for_word rest = refl
  top-begins (opened u w (in_display None) ∷ os) a close_brace rest = refl
  top-begins (opened u w (in_display None) ∷ os) a assign_sign rest = refl
  top-begins (opened u w (in_display None) ∷ os) a t rest = refl
  top-begins (opened u w (in_display (Some es)) ∷ os) a comma rest = refl
  top-begins (opened u w (in_display (Some es)) ∷ os) a for_word rest = refl
  top-begins (opened u w (in_display (Some es)) ∷ os) a close_brace rest = refl
  top-begins (opened u w (in_display (Some es)) ∷ os) a assign_sign rest = refl
  top-begins (opened u w (in_display (Some es)) ∷ os) a t rest = refl
  top-begins (opened u w (in_dict None) ∷ os) a comma rest = refl
  top-begins (opened u w (in_dict None) ∷ os) a for_word rest = refl
  top-begins (opened u w (in_dict None) ∷ os) a close_brace rest = refl
  top-begins (opened u w (in_dict None) ∷ os) a assign_sign rest = refl
  top-begins (opened u w (in_dict None) ∷ os) a t rest = refl
  top-begins (opened u w (in_dict (Some ps)) ∷ os) a comma rest = pairs-begin ps _ comma
  top-begins (opened u w (in_dict (Some ps)) ∷ os) a for_word rest = pairs-begin ps _ for_word
  top-begins (opened u w (in_dict (Some ps)) ∷ os) a close_brace rest = pairs-begin ps _ close_brace
  top-begins (opened u w (in_dict (Some ps)) ∷ os) a assign_sign rest = pairs-begin ps _ assign_sign
  top-begins (opened u w (in_dict (Some ps)) ∷ os) a t rest = pairs-begin ps _ t
  top-begins (opened u w (in_pair ps k) ∷ os) a comma rest = refl
  top-begins (opened u w (in_pair ps k) ∷ os) a for_word rest = refl
  top-begins (opened u w (in_pair ps k) ∷ os) a close_brace rest = refl
  top-begins (opened u w (in_pair ps k) ∷ os) a assign_sign rest = refl
  top-begins (opened u w (in_pair ps k) ∷ os) a t rest = refl
  top-begins (opened u w (in_call (function p) None) ∷ os) a comma rest = refl
  top-begins (opened u w (in_call (function p) None) ∷ os) a for_word rest = refl
  top-begins (opened u w (in_call (function p) None) ∷ os) a close_brace rest = refl
  top-begins (opened u w (in_call (function p) None) ∷ os) a assign_sign rest = refl
  top-begins (opened u w (in_call (function p) None) ∷ os) a t rest = refl
  top-begins (opened u w (in_call (function p) (Some es)) ∷ os) a comma rest = refl
  top-begins (opened u w (in_call (function p) (Some es)) ∷ os) a for_word rest = refl
  top-begins (opened u w (in_call (function p) (Some es)) ∷ os) a close_brace rest = refl
  top-begins (opened u w (in_call (function p) (Some es)) ∷ os) a assign_sign rest = refl
  top-begins (opened u w (in_call (function p) (Some es)) ∷ os) a t rest = refl
  top-begins (opened u w (in_call (method p n) None) ∷ os) a comma rest = refl
  top-begins (opened u w (in_call (method p n) None) ∷ os) a for_word rest = refl
  top-begins (opened u w (in_call (method p n) None) ∷ os) a close_brace rest = refl
  top-begins (opened u w (in_call (method p n) None) ∷ os) a assign_sign rest = refl
  top-begins (opened u w (in_call (method p n) None) ∷ os) a t rest = refl
  top-begins (opened u w (in_call (method p n) (Some es)) ∷ os) a comma rest = refl
  top-begins (opened u w (in_call (method p n) (Some es)) ∷ os) a for_word rest = refl
  top-begins (opened u w (in_call (method p n) (Some es)) ∷ os) a close_brace rest = refl
  top-begins (opened u w (in_call (method p n) (Some es)) ∷ os) a assign_sign rest = refl
  top-begins (opened u w (in_call (method p n) (Some es)) ∷ os) a t rest = refl
  top-begins (opened u w (in_index p) ∷ os) a comma rest = refl
  top-begins (opened u w (in_index p) ∷ os) a for_word rest = refl
  top-begins (opened u w (in_index p) ∷ os) a close_brace rest = refl
  top-begins (opened u w (in_index p) ∷ os) a assign_sign rest = refl
  top-begins (opened u w (in_index p) ∷ os) a t rest = refl
  top-begins (opened u w (in_slice p b) ∷ os) a comma rest = refl
  top-begins (opened u w (in_slice p b) ∷ os) a for_word rest = refl
  top-begins (opened u w (in_slice p b) ∷ os) a close_brace rest = refl
  top-begins (opened u w (in_slice p b) ∷ os) a assign_sign rest = refl
  top-begins (opened u w (in_slice p b) ∷ os) a t rest = refl

  -- after none, which waits for its `else`
  none-begins : (os : List Opened) (t : Kind) → behind_whole os None t ≡ None
  none-begins os comma = no-comma os
    where
      no-comma : (os : List Opened) → comma_begins os None ≡ None
      no-comma (opened u w (in_dict None) ∷ os) = refl
      no-comma _ = refl
  none-begins os for_word = no-for os
    where
      no-for : (os : List Opened) → for_begins os None ≡ None
      no-for (opened u w (in_display es) ∷ os) = refl
      no-for (opened u w (in_call f es) ∷ os) = refl
      no-for _ = refl
  none-begins os close_brace = no-brace os
    where
      no-brace : (os : List Opened) → brace_begins os None ≡ None
      no-brace (opened u w (in_dict None) ∷ os) = refl
      no-brace _ = refl
  none-begins os assign_sign = no-equals os
    where
      no-equals : (os : List Opened) → equals_begins os None ≡ None
      no-equals (opened u w (in_display es) ∷ os) = refl
      no-equals (opened u w (in_call f es) ∷ os) = refl
      no-equals _ = refl
  none-begins os t = refl

  compared-begins : (os : List Opened) (ps : List Picked) (test o : Option Ors) (a : Option Ands) (n : ℕ) (c : Compares) (t : Kind) (rest : List Kind)
      → behind_top (closes 2 (above place os (upper ps test o a n) (spell_compares c rest)) (value_compares place c rest)).0 t ≡ behind_whole os (expression_of (upper ps test o a n) c) t
  compared-begins os ps None o a n c t rest = ap (λ b. behind_top b.0 t) (ends-2 place os ps o a n c rest) ∙ top-begins os (whole_of place ps o a n c) t rest
  compared-begins os ps (Some y) o a n c t rest = ap (λ b. behind_top b.0 t) (ends-2-test place os ps y o a n c rest) ∙ sym (none-begins os t)

  pub reading-begins : (x : r.Reading) (t : Kind) (rest : List Kind) → construct (held place x rest) t ≡ outside_reading x t
  reading-begins (has os (upper ps test o a n) w p) t rest = ap (λ b. behind_top b.0 t) (compares-end place 2 refl refl refl refl w p rest (above place os (upper ps test o a n))) ∙ compared-begins os ps test o a n (compares_of w p) t rest
  reading-begins (has_none os (upper ps test o a n) c) t rest = compared-begins os ps test o a n (compares_none c) t rest
  reading-begins (has_not_none os (upper ps test o a n) c) t rest = compared-begins os ps test o a n (compares_not_none c) t rest
  reading-begins (wants os u w) t rest = refl
  reading-begins (after_is os u c) t rest = refl
  reading-begins (after_is_not os u c) t rest = refl
  reading-begins (after_not os u c) t rest = refl
  reading-begins (after_dot os u w p) t rest = refl
  reading-begins (after_method os u w p n) t rest = refl

  -- ---- what may end

  not-one : (n : ℕ) → nat_eq (suc (suc n)) 1 ≡ false
  not-one n = ne_eqb (suc (suc n)) 1 (λ e. omega (arith, e))

  after-may : (fs : List Frame) (v : Value) → lone fs ≡ is_some (ended_after fs v)
  after-may [] v = refl
  after-may (f ∷ fs) v = hole-may f.hole f fs v
    where
      hole-may : (hole : Hole) (f : Frame) (fs : List Frame) (v : Value) → (is_tuple hole && nat_eq (length (f ∷ fs)) 1) ≡ is_some (ended_in hole f fs v)
      hole-may (h.Tuple xs may) f [] v = refl
      hole-may (h.Tuple xs may) f (g ∷ fs) v = not-one (length fs)
      hole-may _ f fs v = refl

  at-may : (fs : List Frame) → lone_tuple fs ≡ is_some (ended_at fs)
  at-may [] = refl
  at-may (f ∷ fs) = hole-may f.hole f fs
    where
      hole-may : (hole : Hole) (f : Frame) (fs : List Frame) → (is_tuple hole && nat_eq (length (f ∷ fs)) 1) ≡ is_some (ended_at_in hole f fs)
      hole-may (h.Tuple xs may) f [] = refl
      hole-may (h.Tuple xs may) f (g ∷ fs) = not-one (length fs)
      hole-may _ f fs = refl

  state-may : (s : State) → may_end s ≡ is_some (ended s)
  state-may (Wants fs) = at-may fs
  state-may (Has fs v) = after-may (closes 2 fs v).0 (closes 2 fs v).1
  state-may (Compared fs c) = after-may (closes 2 fs (finished c)).0 (closes 2 fs (finished c)).1
  state-may _ = refl

  whole-may : (o : Option Exprs) (rest : List Kind) → is_some (value_if place o rest) ≡ is_some o
  whole-may None rest = refl
  whole-may (Some a) rest = refl

  pub reading-may : (x : r.Reading) (rest : List Kind) → may_end (held place x rest) ≡ is_some (whole x)
  reading-may x rest = state-may (held place x rest) ∙ ap is_some (reading-ended place x rest) ∙ whole-may (whole x) rest
