-- The words of each command.
use Rattle.std.specs.Prelude.{◌≡◌, ◌≢◌, ◌⊎◌, ℕ, ◌≤◌, codes, List, [], ◌∷◌, ◌++◌, All, AllPairs, Any, flat_map}
use Rattle.std.specs.Fmt.{decimal}
use Rattle.graph_model.specs.declared.plan.Weights.{Weights}
use Rattle.plan_model.specs.Weighing.{AreSmall}
use Rattle.command_words.specs.declared.words.Command.{Command}
use Rattle.command_words.specs.declared.words.Command.TheVariants.{Run, Plan, Save, Restore, Made, Serve}
use Rattle.command_words.specs.declared.settings.Kind.{Kind}
use Rattle.command_words.specs.declared.settings.Kind.TheVariants.{Hosts, Workers}

-- the weights, each in decimal digits without zeros before
abbrev pub weight_words : Weights → List (List ℕ)
weight_words w = decimal w.copy_base ∷ decimal w.per_byte ∷ decimal w.run_base ∷ decimal w.per_step ∷ []

-- what a setting of `run` is called
abbrev pub name_of : Kind → List ℕ
name_of Hosts = codes "--hosts"
name_of Workers = codes "--workers"

-- the greatest number of hosts, and of workers
abbrev pub most : Kind → ℕ
most Hosts = 64
most Workers = 16

-- how a setting of `run` is written: as two words, or as one
pub data Form : Type 0 where
  Spaced : Form
  Joined : Form

-- a setting of `run`: what it is of, how it is written, and its number
pub record Setting : Type 0 where
  pub kind : Kind
  pub form : Form
  pub number : ℕ

-- a name and its number as two words, or as one
abbrev pub spelled : Form → Kind → ℕ → List (List ℕ)
spelled Spaced kind n = name_of kind ∷ decimal n ∷ []
spelled Joined kind n = (name_of kind ++ codes "=" ++ decimal n) ∷ []

-- the words of a setting
abbrev pub words_of : Setting → List (List ℕ)
words_of s = spelled s.form s.kind s.number

-- the words of settings in their order
abbrev pub setting_words : List Setting → List (List ℕ)
setting_words settings = flat_map words_of settings

-- n is from a to b
abbrev pub IsWithin : ℕ → ℕ → ℕ → Type 0
IsWithin a b n = (a ≤ n) × (n ≤ b)

-- the number is 1 or more, and no more than its kind has at most
abbrev pub IsAllowed : Setting → Type 0
IsAllowed s = IsWithin 1 (most s.kind) s.number

-- n is what one of the settings says of this kind, or 1 if none does
abbrev pub IsSet : List Setting → Kind → ℕ → Type 0
IsSet settings kind n =
    Any (λ s. (s.kind ≡ kind) × (s.number ≡ n)) settings ⊎ (All (λ s. s.kind ≢ kind) settings × (n ≡ 1))

-- the settings, none of them twice, say how many hosts there are, and how many workers each has
pub record Says (settings : List Setting) (hosts workers : ℕ) : Type 0 where
  pub allowed : All IsAllowed settings
  pub once : AllPairs (λ s t. s.kind ≢ t.kind) settings
  pub hosts_set : IsSet settings Hosts hosts
  pub workers_set : IsSet settings Workers workers

-- the words say this command; no weight exceeds 1,000,000; there are at most 4,000 cells, and at most 100 links; an address is any word
abbrev pub IsCommand : List (List ℕ) → Command → Type 0
IsCommand words (Run hosts workers) = (settings : List Setting) × Says settings hosts workers × (words ≡ codes "run" ∷ setting_words settings)
IsCommand words (Plan w) = AreSmall w × (words ≡ codes "plan" ∷ weight_words w)
IsCommand words (Save w) = AreSmall w × (words ≡ codes "save" ∷ weight_words w)
IsCommand words Restore = words ≡ codes "restore" ∷ []
IsCommand words (Made cells) = IsWithin 1 4000 cells × (words ≡ codes "made" ∷ decimal cells ∷ [])
IsCommand words (Serve links) = IsWithin 1 100 links × (address : List ℕ) × (words ≡ codes "serve" ∷ address ∷ decimal links ∷ [])
