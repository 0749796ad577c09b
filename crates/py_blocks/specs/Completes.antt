-- How a cell that has begun can end with no more than what is forced of it.
use Rattle.std.specs.Prelude.{◌≡◌, ℕ, ℤ, true, List, [], ◌∷◌, Option, Some, None}
use Rattle.py_token.specs.declared.kinds.Kind.{Kind}
use Rattle.py_token.specs.declared.kinds.Kind.TheVariants as t
use Rattle.py_tree.specs.declared.statements.Stmt.{Stmt}
use Rattle.py_grammar.specs.Words.{in_word, assign_sign, open_parenthesis, close_parenthesis, open_bracket, colon}
use Rattle.py_frames.specs.declared.frames.State as reading
use Rattle.py_frames.specs.declared.frames.Value.{Value}
use Rattle.py_frames.specs.declared.seeing.Sight.{Sight}
use Rattle.py_frames.specs.Steps as e
use Rattle.py_frames.specs.Ends.{ended}
use Rattle.py_frames.specs.Targets.{sight}
use Rattle.py_frames.specs.Forced.{forced, AddsAt, Ending}
use Rattle.py_blocks.specs.declared.state.Begun.{Begun}
use Rattle.py_blocks.specs.declared.state.Branches.{Branches}
use Rattle.py_blocks.specs.declared.state.Done.{Done}
use Rattle.py_blocks.specs.declared.state.Last.{Last}
use Rattle.py_blocks.specs.declared.state.Outer.{Outer}
use Rattle.py_blocks.specs.declared.state.Purpose.{Purpose}
use Rattle.py_blocks.specs.declared.state.Purpose.TheVariants as purpose
use Rattle.py_blocks.specs.declared.state.Simple.{Simple}
use Rattle.py_blocks.specs.declared.state.State.{State}
use Rattle.py_blocks.specs.declared.state.State.TheVariants as h
use Rattle.py_blocks.specs.declared.state.Test.{Test}
use Rattle.py_blocks.specs.declared.state.Word.{Word}
use Rattle.py_blocks.specs.Steps.{finished}
use Rattle.py_blocks.specs.Forced.{in_purpose, forced_now}

-- no more than this, but for what begins at this place or later
abbrev pub Adds : ℕ → List ℕ → Option State → Type 0
Adds at p None = Unit {0}
Adds at p (Some s) = AddsAt at p (forced_now s)

abbrev pub ReadingAdds : ℕ → Purpose → List ℕ → Option reading.State → Type 0
ReadingAdds at u p None = Unit {0}
ReadingAdds at u p (Some r) = AddsAt at p (in_purpose u r)

abbrev pub Finishes : ℕ → List ℕ → Option (Stmt × List ℕ) → Type 0
Finishes at p None = Unit {0}
Finishes at p (Some q) = AddsAt at p q.1

abbrev pub Sees : ℕ → List ℕ → Option Sight → Type 0
Sees at p None = Unit {0}
Sees at p (Some x) = AddsAt at p x.under

-- the tokens by which it can end
pub data Closing : State → Kind → Type 0 where
  statement : (os : List Outer) (done : Done) (l : Last) (n : ℤ) → Closing (h.Line os done l) (t.Number n)
  dedent : (o : Outer) (os : List Outer) (done : Done) (l : Last) → Closing (h.Line (o ∷ os) done l) t.Dedent
  finish : (done : Done) (l : Last) → Closing (h.Line [] done l) t.End
  goes : (x : Simple) (u : Purpose) (r : reading.State) (token : Kind) → Ending r token → Closing (h.InSimple x u r) token
  item : (x : Simple) (u : Purpose) (r : reading.State) → ((at : ℕ) → ReadingAdds at u (in_purpose u r) (e.step r open_bracket at)) → Closing (h.InSimple x u r) open_bracket
  ends : (x : Simple) (u : Purpose) (r : reading.State) → ((at : ℕ) → Finishes at (in_purpose u r) (finished u r)) → Closing (h.InSimple x u r) t.Newline
  assigned : (x : Simple) (r : reading.State) → ((at : ℕ) → Sees at (forced true r) (sight r)) → Closing (h.InSimple x purpose.Showing r) assign_sign
  after_word : (x : Simple) (w : Word) → Closing (h.AfterWord x w) t.Newline
  global_name : (x : Simple) (ns : List (List ℕ)) (n : List ℕ) → Closing (h.InGlobal x ns) (t.Name n)
  after_global : (x : Simple) (ns : List (List ℕ)) → Closing (h.HasGlobal x ns) t.Newline
  test : (x : Test) (r : reading.State) (token : Kind) → Ending r token → Closing (h.InTest x r) token
  head : (x : Test) (r : reading.State) (v : Value) → ended r ≡ Some v → Closing (h.InTest x r) colon
  variable : (b : Begun) (ns : List (List ℕ)) (n : List ℕ) → Closing (h.InVariables b ns) (t.Name n)
  variables : (b : Begun) (ns : List (List ℕ)) → Closing (h.HasVariables b ns) in_word
  after_else : (os : List Outer) (done : Done) (b : Branches) → Closing (h.AfterElse os done b) colon
  after_def : (b : Begun) (n : List ℕ) → Closing (h.AfterDef b) (t.Name n)
  after_name : (b : Begun) (n : List ℕ) → Closing (h.AfterDefName b n) open_parenthesis
  no_param : (b : Begun) (n : List ℕ) (ps : List (List ℕ)) → Closing (h.InParams b n ps) close_parenthesis
  params : (b : Begun) (n : List ℕ) (ps : List (List ℕ)) → Closing (h.HasParams b n ps) close_parenthesis
  after_params : (b : Begun) (n : List ℕ) (ps : List (List ℕ)) → Closing (h.AfterParams b n ps) colon
  block : (os : List Outer) (o : Outer) (n : ℤ) → Closing (h.AfterColon os o) (t.Number n)
  indent : (os : List Outer) (o : Outer) → Closing (h.AfterNewline os o) t.Indent
