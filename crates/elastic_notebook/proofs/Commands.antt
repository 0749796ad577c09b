-- What the words of a command say, they say once.
use Rattle.std.proofs.Common.{◌≡◌, ◌≤◌, ℕ, codes, List, [], ◌∷◌, get_or, ap, sym, subst, ◌∙◌, refl, inr, arith, Option, Some, None}
use Rattle.std.specs.Prelude.{MatchOption}
use Rattle.graph_model.specs.declared.plan.Weights.{Weights}
use Rattle.command_words.specs.declared.words.Command.{Command}
use Rattle.command_words.specs.declared.words.Command.TheVariants.{Run, Plan, Save, Restore, Made, Serve}
use Rattle.command_words.specs.Grammar.{IsCommand}
use Rattle.command_words.proofs.OneCommand.{one_command}
use Rattle.elastic_notebook.specs.Statuses.{IsStatusOf}

abbrev hosts_of : Command → ℕ
hosts_of (Run h w) = h
hosts_of (Plan w) = 0
hosts_of (Save w) = 0
hosts_of Restore = 0
hosts_of (Made n) = 0
hosts_of (Serve n) = 0

-- one number of hosts
pub one_count : (words : List (List ℕ)) (h w g v : ℕ) → IsCommand words (Run h w) → IsCommand words (Run g v) → h ≡ g
one_count words h w g v a b = ap hosts_of (one_command words (Run h w) (Run g v) a b)

abbrev weights_of : Weights → Command → Weights
weights_of other (Run h w) = other
weights_of other (Plan v) = v
weights_of other (Save v) = v
weights_of other Restore = other
weights_of other (Made n) = other
weights_of other (Serve n) = other

-- and one list of weights
pub one_plan : (words : List (List ℕ)) (v w : Weights) → IsCommand words (Plan v) → IsCommand words (Plan w) → v ≡ w
one_plan words v w a b = ap (weights_of v) (one_command words (Plan v) (Plan w) a b)

pub one_save : (words : List (List ℕ)) (v w : Weights) → IsCommand words (Save v) → IsCommand words (Save w) → v ≡ w
one_save words v w a b = ap (weights_of v) (one_command words (Save v) (Save w) a b)

abbrev number_of : Command → ℕ
number_of (Run h w) = 0
number_of (Plan w) = 0
number_of (Save w) = 0
number_of Restore = 0
number_of (Made n) = n
number_of (Serve n) = n

-- one number of cells, and of links
pub one_made : (words : List (List ℕ)) (m n : ℕ) → IsCommand words (Made m) → IsCommand words (Made n) → m ≡ n
one_made words m n a b = ap number_of (one_command words (Made m) (Made n) a b)

pub few_made : (words : List (List ℕ)) (n : ℕ) → IsCommand words (Made n) → n ≤ 4000
few_made words n is = is.0.1

pub one_serve : (words : List (List ℕ)) (m n : ℕ) → IsCommand words (Serve m) → IsCommand words (Serve n) → m ≡ n
one_serve words m n a b = ap number_of (one_command words (Serve m) (Serve n) a b)

-- ---- what was read of them

pub no_command : (o : Option Command) (IsNone : Type 0) (IsSome : Command → Type 0) → o ≡ None → MatchOption o IsNone IsSome → IsNone
no_command o IsNone IsSome is m = subst (λ (p : Option Command). MatchOption p IsNone IsSome) is m

pub some_command : (o : Option Command) (c d : Command) (IsNone : Type 0) (IsSome : Command → Type 0) → o ≡ Some c → c ≡ d → MatchOption o IsNone IsSome → IsSome d
some_command o c d IsNone IsSome is also m = subst IsSome also (subst (λ (p : Option Command). MatchOption p IsNone IsSome) is m)

-- ---- words after `run`

first_is : (words : List (List ℕ)) (first : List ℕ) (rest : List (List ℕ)) → get_or words 0 [] ≡ codes "run" → words ≡ first ∷ rest → codes "run" ≡ first
first_is words first rest run are = sym run ∙ ap (λ (ws : List (List ℕ)). get_or ws 0 []) are

module _ (words : List (List ℕ)) (run : get_or words 0 [] ≡ codes "run") where
  pub no_save : (w : Weights) → ¬ IsCommand words (Save w)
  no_save w is = let same = ap (λ (bs : List ℕ). get_or bs 0 0) (first_is words (codes "save") _ run is.1) in let no : ⊥ = omega (arith, same) in no

  pub no_plan : (w : Weights) → ¬ IsCommand words (Plan w)
  no_plan w is = let same = ap (λ (bs : List ℕ). get_or bs 0 0) (first_is words (codes "plan") _ run is.1) in let no : ⊥ = omega (arith, same) in no

  pub no_restore : ¬ IsCommand words Restore
  no_restore is = let same = ap (λ (bs : List ℕ). get_or bs 1 0) (first_is words (codes "restore") _ run is) in let no : ⊥ = omega (arith, same) in no

  pub no_made : (n : ℕ) → ¬ IsCommand words (Made n)
  no_made n is = let same = ap (λ (bs : List ℕ). get_or bs 0 0) (first_is words (codes "made") _ run is.1) in let no : ⊥ = omega (arith, same) in no

  pub no_serve : (n : ℕ) → ¬ IsCommand words (Serve n)
  no_serve n is = let same = ap (λ (bs : List ℕ). get_or bs 0 0) (first_is words (codes "serve") _ run is.2) in let no : ⊥ = omega (arith, same) in no

  -- want of memory is a status of `run`
  pub run_status : (c : Command) → IsCommand words c → IsStatusOf c 5
  run_status (Run h w) is = inr (inr refl)
  run_status (Save w) is = absurd (no_save w is)
  run_status (Plan w) is = absurd (no_plan w is)
  run_status Restore is = absurd (no_restore is)
  run_status (Made n) is = absurd (no_made n is)
  run_status (Serve n) is = absurd (no_serve n is)
