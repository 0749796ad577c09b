-- Each reading goes on to a whole one by tokens that begin no part before themselves.
use Rattle.std.proofs.Common.{◌≡◌, ℕ, zero, Bool, true, false, IsTrue, ◌&&◌, List, [], ◌∷◌, Option, Some, None, refl, ap, ◌∙◌}
use Rattle.std.proofs.lemmas.Bool.{false≢true}
use Rattle.py_token.specs.declared.kinds.Kind.{Kind}
use Rattle.py_token.specs.declared.kinds.Kind.TheVariants as t
use Rattle.py_grammar.specs.Words.{else_word, in_word, none_word, open_parenthesis, close_parenthesis, close_bracket, close_brace, colon}
use Rattle.py_grammar.specs.Expressions.{Expression, Elements, Pairs, Compares, plain, Ors, Ands, compared, compares_none, compares_not_none, within, not_within, Primary, name, group, display, dict, call, index, slice, single, tuple, bounded, args, no_args, entries, method, spell_primary}
use Rattle.py_grammar.specs.Readings.{Picked, Upper, upper, no_upper, related, Lower, lower, no_lower, in_group, in_display, in_dict, in_pair, in_call, in_index, in_slice, Opened, opened, listed, Reading, wants, has, has_none, has_not_none, after_is, after_is_not, after_not, after_dot, after_method, add_nots, add_and, add_or, add_picked, add_element, add_pair, compares_of, bare, bare_below, narrow, no_lower_part, no_upper_part, is_none, is_zero, is_empty, undivided, lists_stand, reading_stands, read}
use Rattle.py_grammar.specs.States.{Outer, Spot, Purpose, on_simple, then_simple}
use Rattle.py_frames.specs.Forced.{of_dict, Ending, a_name, no_args as none_given, parenthesis, bracket, brace, otherwise, key, related as goes_on, no_value, not_no_value, within as denied, a_method, called}
use Rattle.py_frames.specs.Values.{closes}
use Rattle.py_frames.specs.Held.{around, above, value_primary, held}
use Rattle.py_frames.proofs.Closed.{compares-end}
use Rattle.py_frames.proofs.Stepped.{ends-2}

-- one more token that ends something
pub record Next (r : Reading) (t : Kind) (s : Reading) : Type 0 where
  pub reads : read r t ≡ Some s
  pub ending : (place : ℕ → ℕ) (rest : List Kind) → Ending (held place r (t ∷ rest)) t
  pub narrows : IsTrue (narrow r) → IsTrue (narrow s)
  pub divides : IsTrue (undivided r) → IsTrue (undivided s)
  pub simply : (os : List Outer) (at : Spot) (u : Purpose) → on_simple os at u r t ≡ then_simple os at u (read r t)

pub data Leads : Reading → List Kind → Reading → Type 0 where
  here : (r : Reading) → Leads r [] r
  onward : (r s u : Reading) (t : Kind) (ts : List Kind) → Next r t s → Leads s ts u → Leads r (t ∷ ts) u

-- nothing is open but the elements of a tuple outside all brackets
pub data Outermost : List Opened → Type 0 where
  alone : Outermost []
  in_tuple : (es : Elements) → Outermost (listed es ∷ [])

pub record Completion (r : Reading) : Type 0 where
  pub more : List Kind
  pub os : List Opened
  pub ps : List Picked
  pub o : Option Ors
  pub a : Option Ands
  pub n : ℕ
  pub w : Lower
  pub p : Primary
  pub leads : Leads r more (has os (upper ps None o a n) w p)
  pub outermost : Outermost os

first : {r s : Reading} (t : Kind) → Next r t s → Completion s → Completion r
first {r} {s} t x c = record { more = t ∷ c.more; os = c.os; ps = c.ps; o = c.o; a = c.a; n = c.n; w = c.w; p = c.p; leads = onward r s _ t c.more x c.leads; outermost = c.outermost }

abbrev pub blank : List ℕ
blank = 95 ∷ []

-- an operand comes
named : (os : List Opened) (u : Upper) (w : Lower) → Next (wants os u w) (t.Name blank) (has os u w (name blank))
named os u w = record { reads = refl; ending = λ place rest. a_name _ blank; narrows = λ h. h; divides = λ h. h; simply = λ os at u. refl }

second : (a b : Bool) → IsTrue (a && b) → IsTrue b
second true b h = h
second false b h = absurd (false≢true h)

-- what has a test isn't bare
not-bare : (os : List Opened) (ps : List Picked) (b : Ors) (o : Option Ors) (a : Option Ands) (n : ℕ) (w : Lower) (c : Bool) → IsTrue (bare_below os (bare (upper ps (Some b) o a n) w)) → IsTrue (bare_below os c)
not-bare [] ps b o a n w c h =
    let x = second (no_lower_part w) (no_upper_part (upper ps (Some b) o a n)) h in
    absurd (false≢true (second (is_none o) (is_none (Some b) && is_empty ps) (second (is_none a) (is_none o && (is_none (Some b) && is_empty ps)) (second (is_zero n) (is_none a && (is_none o && (is_none (Some b) && is_empty ps))) x))))
not-bare (opened u v k ∷ os) ps b o a n w c h = h
not-bare (listed es ∷ os) ps b o a n w c h = h

abbrev Closed : List Opened → Type 0
Closed os = (ps : List Picked) (o : Option Ors) (a : Option Ands) (n : ℕ) (w : Lower) (p : Primary) → Completion (has os (upper ps None o a n) w p)

-- an `if` gets its `else`
with-else : (os : List Opened) (u : Upper) (w : Lower) (p : Primary) → Closed os → Completion (has os u w p)
with-else os (upper ps None o a n) w p f = f ps o a n w p
with-else os (upper ps (Some b) o a n) w p f =
    first else_word (record { reads = refl; ending = λ place rest. otherwise _ _; narrows = not-bare os ps b o a n w _; divides = λ h. h; simply = λ os at u. refl })
    (first (t.Name blank) (named os _ _) (f _ None None zero no_lower (name blank)))

abbrev whole : List Picked → Option Ors → Option Ands → ℕ → Lower → Primary → Expression
whole ps o a n w p = add_picked ps (plain (add_or o (add_and a (add_nots n (compared (compares_of w p))))))

-- a key is innermost
in-dict : (place : ℕ → ℕ) (os : List Opened) (u : Upper) (v : Lower) (qs : Option Pairs) (ps : List Picked) (o : Option Ors) (a : Option Ands) (n : ℕ) (w : Lower) (p : Primary) (rest : List Kind)
    → of_dict (closes 2 (around place (opened u v (in_dict qs) ∷ os) (upper ps None o a n) w (spell_primary p rest)) (value_primary place p rest)).0 ≡ true
in-dict place os u v qs ps o a n w p rest =
    ap (λ b. of_dict b.0) (compares-end place 2 refl refl refl refl w p rest (above place (opened u v (in_dict qs) ∷ os) (upper ps None o a n)))
    ∙ ap (λ b. of_dict b.0) (ends-2 place (opened u v (in_dict qs) ∷ os) ps o a n (compares_of w p) rest)

closes-all : (os : List Opened) → lists_stand os → Closed os
closes-all [] k ps o a n w p = record { more = []; os = []; ps = ps; o = o; a = a; n = n; w = w; p = p; leads = here _; outermost = alone }
closes-all (listed es ∷ []) k ps o a n w p = record { more = []; os = listed es ∷ []; ps = ps; o = o; a = a; n = n; w = w; p = p; leads = here _; outermost = in_tuple es }
closes-all (listed es ∷ opened u v in_group ∷ os) k ps o a n w p =
    first close_parenthesis (record { reads = refl; ending = λ place rest. parenthesis _ _; narrows = λ h. h; divides = λ h. h; simply = λ os at u. refl }) (with-else os u v (group (tuple es (whole ps o a n w p))) (closes-all os k.1))
closes-all (listed es ∷ _) k ps o a n w p = absurd (false≢true k.0)
closes-all (opened u v in_group ∷ os) k ps o a n w p =
    first close_parenthesis (record { reads = refl; ending = λ place rest. parenthesis _ _; narrows = λ h. h; divides = λ h. h; simply = λ os at u. refl }) (with-else os u v (group (single (whole ps o a n w p))) (closes-all os k))
closes-all (opened u v (in_call f es) ∷ os) k ps o a n w p =
    first close_parenthesis (record { reads = refl; ending = λ place rest. parenthesis _ _; narrows = λ h. h; divides = λ h. h; simply = λ os at u. refl }) (with-else os u v (call f (args (add_element es (whole ps o a n w p)))) (closes-all os k))
closes-all (opened u v (in_display es) ∷ os) k ps o a n w p =
    first close_bracket (record { reads = refl; ending = λ place rest. bracket _ _; narrows = λ h. h; divides = λ h. h; simply = λ os at u. refl }) (with-else os u v (display (args (add_element es (whole ps o a n w p)))) (closes-all os k))
closes-all (opened u v (in_index q) ∷ os) k ps o a n w p =
    first close_bracket (record { reads = refl; ending = λ place rest. bracket _ _; narrows = λ h. h; divides = λ h. h; simply = λ os at u. refl }) (with-else os u v (index q (whole ps o a n w p)) (closes-all os k))
closes-all (opened u v (in_slice q b) ∷ os) k ps o a n w p =
    first close_bracket (record { reads = refl; ending = λ place rest. bracket _ _; narrows = λ h. h; divides = λ h. h; simply = λ os at u. refl }) (with-else os u v (slice q b (bounded (whole ps o a n w p))) (closes-all os k))
closes-all (opened u v (in_pair qs b) ∷ os) k ps o a n w p =
    first close_brace (record { reads = refl; ending = λ place rest. brace _ _; narrows = λ h. h; divides = λ h. h; simply = λ os at u. refl }) (with-else os u v (dict (entries (add_pair qs b (whole ps o a n w p)))) (closes-all os k))
closes-all (opened u v (in_dict qs) ∷ os) k ps o a n w p =
    first colon (record { reads = refl; ending = λ place rest. key _ _ (in-dict place os u v qs ps o a n w p (colon ∷ rest)); narrows = λ h. h; divides = λ h. h; simply = λ os at u. refl })
    (first (t.Name blank) (named (opened u v (in_pair qs (whole ps o a n w p)) ∷ os) no_upper no_lower)
    (first close_brace (record { reads = refl; ending = λ place rest. brace _ _; narrows = λ h. h; divides = λ h. h; simply = λ os at u. refl })
    (with-else os u v (dict (entries (add_pair qs (whole ps o a n w p) (whole [] None None zero no_lower (name blank))))) (closes-all os k))))

operand-completes : (os : List Opened) (u : Upper) (w : Lower) → lists_stand os → Completion (wants os u w)
operand-completes os u w k = first (t.Name blank) (named os u w) (with-else os u w (name blank) (closes-all os k))

none-completes : (os : List Opened) (u : Upper) (c : Compares) → lists_stand os → Completion (has_none os u c)
none-completes os u c k = first in_word (record { reads = refl; ending = λ place rest. goes_on _ _; narrows = λ h. h; divides = λ h. h; simply = λ os at u. refl }) (operand-completes os u (lower (Some (related (compares_none c) within)) None None []) k)

not_none-completes : (os : List Opened) (u : Upper) (c : Compares) → lists_stand os → Completion (has_not_none os u c)
not_none-completes os u c k = first in_word (record { reads = refl; ending = λ place rest. goes_on _ _; narrows = λ h. h; divides = λ h. h; simply = λ os at u. refl }) (operand-completes os u (lower (Some (related (compares_not_none c) within)) None None []) k)

call-completes : (os : List Opened) (u : Upper) (w : Lower) (p : Primary) (n : List ℕ) → lists_stand os → Completion (after_method os u w p n)
call-completes os u w p n k =
    first open_parenthesis (record { reads = refl; ending = λ place rest. called _ _ n; narrows = λ h. h; divides = λ h. h; simply = λ os at u. refl })
    (first close_parenthesis (record { reads = refl; ending = λ place rest. none_given _; narrows = λ h. h; divides = λ h. h; simply = λ os at u. refl })
    (with-else os u w (call (method p n) no_args) (closes-all os k)))

pub completes : (r : Reading) → reading_stands r → Completion r
completes (wants os u w) k = operand-completes os u w k
completes (has os u w p) k = with-else os u w p (closes-all os k)
completes (has_none os u c) k = none-completes os u c k
completes (has_not_none os u c) k = not_none-completes os u c k
completes (after_is os u c) k = first none_word (record { reads = refl; ending = λ place rest. no_value _ _; narrows = λ h. h; divides = λ h. h; simply = λ os at u. refl }) (none-completes os u c k)
completes (after_is_not os u c) k = first none_word (record { reads = refl; ending = λ place rest. not_no_value _ _; narrows = λ h. h; divides = λ h. h; simply = λ os at u. refl }) (not_none-completes os u c k)
completes (after_not os u c) k = first in_word (record { reads = refl; ending = λ place rest. denied _ _; narrows = λ h. h; divides = λ h. h; simply = λ os at u. refl }) (operand-completes os u (lower (Some (related c not_within)) None None []) k)
completes (after_dot os u w p) k = first (t.Name blank) (record { reads = refl; ending = λ place rest. a_method _ _ blank; narrows = λ h. h; divides = λ h. h; simply = λ os at u. refl }) (call-completes os u w p blank k)
completes (after_method os u w p n) k = call-completes os u w p n k
