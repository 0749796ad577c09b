-- The rule of indentation: a stack of open depths over the lines of a text.
use Rattle.std.specs.Prelude.{◌≡◌, ◌≢◌, ◌⊎◌, ℕ, ◌+◌, ◌<◌, ◌≤◌, true, List, [], ◌∷◌, ◌++◌, map, take, drop, get_or, replicate, slice_range, Ok}
use Rattle.std.specs.List.{AllByRecursion}
use Rattle.py_token.specs.declared.kinds.Kind.{Kind}
use Rattle.py_token.specs.declared.kinds.Kind.TheVariants.{Newline, Indent, Dedent, End}
use Rattle.py_token.specs.declared.kinds.Token.{Token}
use Rattle.py_token.specs.Lines.{brackets_after, tokens_of}
use Rattle.py_token.specs.Laws.{Blank}
use Rattle.py_token.specs.Cuts.{kinds, is_word}

-- ---- the stack

-- the depths of the open blocks, the deepest first: they descend to 0
abbrev pub Descends : List ℕ → Type 0
Descends [] = ⊥
Descends (d ∷ []) = d ≡ 0
Descends (d ∷ e ∷ below) = (e < d) × Descends (e ∷ below)

-- a line of that depth: the depths that are open before it, the Indents and Dedents that it gives, and the depths that are open then
pub data Shifts (depth : ℕ) : List ℕ → List Kind → List ℕ → Type 0 where
  -- a deeper line opens its depth, with an Indent
  opens : (top : ℕ) (below : List ℕ) → top < depth → Shifts depth (top ∷ below) (Indent ∷ []) (depth ∷ top ∷ below)
  -- the depth of any other line is open, and each deeper one ends, with a Dedent
  ends : (deeper below : List ℕ) → AllByRecursion (λ d. depth < d) deeper → Shifts depth (deeper ++ depth ∷ below) (map (λ d. Dedent) deeper) (depth ∷ below)

-- no line has that depth: it is less than the deepest depth that is open, and isn't open
pub record IsMisfit (depth : ℕ) (stack : List ℕ) : Type 0 where
  pub deepest : ℕ
  pub others : List ℕ
  pub is_stack : stack ≡ deepest ∷ others
  pub less : depth < deepest
  pub not_open : AllByRecursion (λ d. d ≢ depth) stack

-- ---- lines of tokens

-- a place has a depth: before it are that many spaces, and before these nothing, or the line feed of the line above
pub record IsDepth (code : List ℕ) (at depth : ℕ) : Type 0 where
  pub above : List ℕ
  pub spaces : take at code ≡ above ++ replicate depth 32
  pub begins : (above ≡ []) ⊎ ((lines : List ℕ) × (above ≡ lines ++ 10 ∷ []))

-- how many brackets are open after those tokens, if `n` are before them
abbrev pub brackets : ℕ → List Kind → ℕ
brackets n [] = n
brackets n (k ∷ ks) = brackets (brackets_after k n) ks

-- A line: the Indents and Dedents for the depth of its first word, at that word, and its words. Before and after it those
-- depths are open.
pub record IsLine (code : List ℕ) (stack after : List ℕ) (line : List Token) : Type 0 where
  pub depth : ℕ
  pub markers : List Token
  pub first : Token
  pub words : List Token
  pub parts : line ≡ markers ++ first ∷ words
  pub are_words : AllByRecursion (λ word. is_word word.kind ≡ true) (first ∷ words)
  pub stands : IsDepth code first.start depth
  pub at_first : AllByRecursion (λ marker. (marker.start ≡ first.start) × (marker.end ≡ first.start)) markers
  pub shifts : Shifts depth stack (kinds markers) after

-- the text ends: each open depth above 0 ends with a Dedent, as before a line of depth 0, and then comes End
abbrev pub Closes : List ℕ → List Token → Type 0
Closes stack tokens = (markers : List Kind) × Shifts 0 stack markers (0 ∷ []) × (kinds tokens ≡ markers ++ End ∷ [])

-- The tokens of a text from a line on: the depths that are open before it, the tokens, and the depths that are open after
-- the last line.
pub data Lines (code : List ℕ) : List ℕ → List Token → List ℕ → Type 0 where
  -- a line ends with a Newline, where no bracket is open
  line : {stack after left : List ℕ} (line more : List Token) (newline : Token) → IsLine code stack after line → brackets 0 (kinds line) ≡ 0 → newline.kind ≡ Newline
      → Lines code after more left → Lines code stack (line ++ newline ∷ more) left
  -- the text ends in a line where a bracket is open
  unended : {stack left : List ℕ} (line last : List Token) → IsLine code stack left line → 0 < brackets 0 (kinds line) → Closes left last → Lines code stack (line ++ last) left
  -- the text ends after its lines
  end : {stack : List ℕ} {tokens : List Token} → Closes stack tokens → Lines code stack tokens stack

-- ---- a line that is refused

-- none of the bytes from a place up to another is a line feed
abbrev pub InOneLine : List ℕ → ℕ → ℕ → Type 0
InOneLine code from to = (i : ℕ) → from ≤ i → i < to → get_or code i 0 ≢ 10

-- A line begins at `from`, after a line feed, and what is at `at` is the first in it that isn't blank. The text above it has tokens,
-- after which no bracket is open. Its depth misfits the depths that they leave open.
pub record Misfits (code : List ℕ) (at : ℕ) : Type 0 where
  pub from : ℕ
  pub depth : ℕ
  pub place : at ≡ from + depth
  pub begins : (lines : List ℕ) × (take from code ≡ lines ++ 10 ∷ [])
  pub blank : Blank (slice_range code from at) (drop at code)
  pub one_line : InOneLine code from at
  pub above : List Token
  pub stack : List ℕ
  pub are_tokens : tokens_of (take from code) ≡ Ok above
  pub leaves : Lines (take from code) (0 ∷ []) above stack
  pub no_bracket : brackets 0 (kinds above) ≡ 0
  pub misfit : IsMisfit depth stack
