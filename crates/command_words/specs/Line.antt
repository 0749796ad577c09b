-- What clap is told of `run`, and what its matches say.
use Rattle.std.specs.Prelude.{◌≡◌, ℕ, Bool, bytes_eq, codes, List, Option, Some, true, MatchOption}
use Rattle.std.specs.Fmt.{decimal}
use Rattle.clap.specs.Words.{App, Rule, new_app, new_rule, with_rule}
use Rattle.clap.specs.Simple.{Shape}
use Rattle.command_words.specs.declared.settings.Kind.{Kind}
use Rattle.command_words.specs.declared.settings.Kind.TheVariants.{Hosts, Workers}
use Rattle.command_words.specs.declared.words.Command.{Command}
use Rattle.command_words.specs.declared.words.Command.TheVariants.{Run}
use Rattle.command_words.specs.Grammar.{most, IsWithin}

-- the word is two hyphens
abbrev pub is_hyphens : List ℕ → Bool
is_hyphens word = bytes_eq word (codes "--")

-- a setting's name without its hyphens
abbrev pub label_of : Kind → List ℕ
label_of Hosts = codes "hosts"
label_of Workers = codes "workers"

-- an option with a value
abbrev pub option_of : Kind → Rule
option_of k = record (new_rule (label_of k)) { long = Some (label_of k) }

-- every word is an argument, and none asks for help or for the version
abbrev pub bare : Shape → Shape
bare s = record s { no_binary_name = true; disable_help_flag = true; disable_version_flag = true }

-- `run` with its two options
abbrev pub line : App
line = with_rule (with_rule (record (new_app (codes "run")) { top = bare (new_app (codes "run")).top }) (option_of Hosts)) (option_of Workers)

-- n is what this text says of a setting, or 1 if there is none
abbrev pub IsRead : Kind → Option (List ℕ) → ℕ → Type 0
IsRead k given n = MatchOption given (n ≡ 1) (λ text. IsWithin 1 (most k) n × (text ≡ decimal n))

-- the command is `run` with what these texts say
abbrev pub RunIs : Option (List ℕ) → Option (List ℕ) → Command → Type 0
RunIs hosts workers (Run h w) = IsRead Hosts hosts h × IsRead Workers workers w
RunIs hosts workers other = ⊥
