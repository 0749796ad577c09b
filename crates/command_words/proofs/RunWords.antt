-- The settings that `run` is told, as clap reads them.
use Rattle.std.proofs.Common.{◌≡◌, ◌≢◌, inl, inr, ◌⊎◌, ℕ, ◌<◌, ◌^◌, codes, Bool, true, false, List, [], ◌∷◌, ◌++◌, Option, Some, None, map, length, drop, get_or, true≢false, refl, sym, ap, ap₂, subst, ◌∙◌, arith}
use Rattle.std.specs.Prelude.{◌==◌, ◌||◌, if◌then◌else◌, All, AllPairs, flat_map, option_and_then, MatchOption}
use Rattle.std.specs.Fmt.{decimal}
use Rattle.std.specs.List.{list_any}
use Rattle.std.proofs.lemmas.Bool.Decides.{nat_tests}
use Rattle.std.proofs.lemmas.List.{get_or-map, length-map}
use Rattle.std.proofs.lemmas.Slice.Eq.{bytes_eq-Decides}
use Rattle.std.proofs.lemmas.List.Elements.{All-append, All-cons, All-tail}
use Rattle.clap.specs.Lexer.{long_of_rest, short_of_rest, strip_byte}
use Rattle.clap.specs.Words.{HasKind, IsAmong, Kinds, Text, fault_of, first_of, kind_of, matches_of}
use Rattle.clap.specs.declared.error.Error.{Error}
use Rattle.clap.specs.declared.error.kind.ErrorKind.TheVariants.{OutOfMemory}
use Rattle.command_words.specs.declared.settings.Kind.{Kind}
use Rattle.command_words.specs.declared.settings.Kind.TheVariants.{Hosts, Workers}
use Rattle.command_words.specs.declared.words.Command.{Command}
use Rattle.command_words.specs.declared.words.Command.TheVariants.{Run, Plan, Save, Restore, Made, Serve}
use Rattle.command_words.specs.Grammar.{Form, Spaced, Joined, Setting, most, name_of, spelled, words_of, setting_words, IsWithin, IsAllowed, IsCommand}
use Rattle.command_words.specs.Line.{is_hyphens, label_of, line, IsRead, RunIs}
use Rattle.command_words.proofs.Digits.{digits_begin}
use Rattle.command_words.proofs.Line.{IsPlain, Said, joined, written}
use Rattle.command_words.proofs.Runs.{no_run, says_none, says_hosts, says_workers, says_hosts_first, says_workers_first}
use Rattle.command_words.proofs.Takes.{Apart, HasNoHyphens, given, is_kind, said_taken, said_words, takes_said}

-- ---- numbers as words

plain_of : (bs : Text) → 45 < get_or bs 0 0 → IsPlain bs
plain_of [] above = absurd (omega arith)
plain_of (x ∷ xs) above =
    let other : (x == 45) ≡ false = grind (arith, nat_tests) in record {
      long = ap (λ (b : Bool). option_and_then long_of_rest (option_and_then (strip_byte 45) (if b then Some xs else None))) other;
      short = ap (λ (b : Bool). option_and_then short_of_rest (if b then Some xs else None)) other;
      other = λ e. let same = ap (λ (ws : Text). get_or ws 0 0) e in omega (arith, above, same);
    }

fits : (k : Kind) (n : ℕ) → IsWithin 1 (most k) n → n < 2 ^ 64
fits Hosts n within = omega (arith, within.1)
fits Workers n within = omega (arith, within.1)

number_plain : (n : ℕ) → n < 2 ^ 64 → IsPlain (decimal n)
number_plain n l = plain_of (decimal n) (elim (digits_begin n l) [
  | inl e ↦ subst (λ (bs : Text). 45 < get_or bs 0 0) (sym e.1) (omega arith)
  | inr above ↦ omega (arith, above)
])

-- ---- settings as they are written

abbrev said_of : Setting → Said
said_of s = record { form = s.form; kind = s.kind; text = decimal s.number }

spelled_is : (f : Form) (k : Kind) (n : ℕ) → written f k (decimal n) ≡ spelled f k n
spelled_is Spaced k n = refl
spelled_is Joined k n = refl

words_are : (xs : List Setting) → flat_map said_words (map said_of xs) ≡ setting_words xs
words_are [] = refl
words_are (s ∷ xs) = ap₂ (λ (a b : List Text). a ++ b) (spelled_is s.form s.kind s.number) (words_are xs)

all_plain : (xs : List Setting) → All IsAllowed xs → All (λ s. IsPlain s.text) (map said_of xs)
all_plain [] allowed = λ k d l. absurd (omega arith)
all_plain (s ∷ xs) allowed =
    All-cons (λ (t : Said). IsPlain t.text) (said_of s) (map said_of xs) (number_plain s.number (fits s.kind s.number (allowed 0 s (omega arith)))) (all_plain xs (All-tail IsAllowed s xs allowed))

all_apart : (xs : List Setting) → AllPairs (λ s t. s.kind ≢ t.kind) xs → AllPairs Apart (map said_of xs)
all_apart [] once i j d below l = absurd (omega arith)
all_apart (s ∷ xs) once i j d below l =
    let n : j < length (s ∷ xs) = omega (arith, l, length-map (s ∷ xs) said_of) in
    let first = ap (λ (x : Said). x.kind) (get_or-map said_of (s ∷ xs) i s d (omega (arith, below, n))) in
    let second = ap (λ (x : Said). x.kind) (get_or-map said_of (s ∷ xs) j s d n) in
    λ e. once i j s below n (sym first ∙ (e ∙ second))

-- ---- words that are two hyphens

module _ {X : Type 0} (text : X → Text) where
  none_first : (w : X) (ws : List X) (b : Bool) → is_hyphens (text w) ≡ b → (b || list_any (λ x. is_hyphens (text x)) ws) ≡ false → (text w ≢ codes "--") × (list_any (λ x. is_hyphens (text x)) ws ≡ false)
  none_first w ws true is e = absurd (true≢false e)
  none_first w ws false is e = (λ same. true≢false (sym ((bytes_eq-Decides (text w) (codes "--")).1 same) ∙ is), e)

  some_first : (w : X) (ws : List X) (b : Bool) → is_hyphens (text w) ≡ b → (b || list_any (λ x. is_hyphens (text x)) ws) ≡ true → (text w ≡ codes "--") ⊎ (list_any (λ x. is_hyphens (text x)) ws ≡ true)
  some_first w ws true is e = inl ((bytes_eq-Decides (text w) (codes "--")).0 is)
  some_first w ws false is e = inr e

  pub none_hyphens : (ws : List X) → list_any (λ w. is_hyphens (text w)) ws ≡ false → HasNoHyphens (map text ws)
  none_hyphens [] none = λ i d l. absurd (omega arith)
  none_hyphens (w ∷ ws) none =
      let each = none_first w ws (is_hyphens (text w)) refl none in
      All-cons (λ (x : Text). x ≢ codes "--") (text w) (map text ws) each.0 (none_hyphens ws each.1)

  pub some_hyphens : (ws : List X) → list_any (λ w. is_hyphens (text w)) ws ≡ true → HasNoHyphens (map text ws) → ⊥
  some_hyphens [] some clean = true≢false (sym some)
  some_hyphens (w ∷ ws) some clean = elim (some_first w ws (is_hyphens (text w)) refl some) [
    | inl is ↦ clean 0 (text w) (omega arith) is
    | inr rest ↦ some_hyphens ws rest (All-tail (λ (x : Text). x ≢ codes "--") (text w) (map text ws) clean)
  ]

-- no word of a setting is two hyphens
word_other : (f : Form) (k : Kind) (n : ℕ) → n < 2 ^ 64 → HasNoHyphens (spelled f k n)
word_other Spaced k n l = All-cons (λ (w : Text). w ≢ codes "--") (name_of k) (decimal n ∷ []) (name_other k) (All-cons (λ (w : Text). w ≢ codes "--") (decimal n) [] (number_plain n l).other (λ i d m. absurd (omega arith)))
  where
    name_other : (k : Kind) → name_of k ≢ codes "--"
    name_other Hosts e = let same = ap (λ (ws : Text). get_or ws 2 0) e in omega (arith, same)
    name_other Workers e = let same = ap (λ (ws : Text). get_or ws 2 0) e in omega (arith, same)
word_other Joined k n l = All-cons (λ (w : Text). w ≢ codes "--") (joined k (decimal n)) [] (joined_other k) (λ i d m. absurd (omega arith))
  where
    joined_other : (k : Kind) → joined k (decimal n) ≢ codes "--"
    joined_other Hosts e = let same = ap (λ (ws : Text). get_or ws 2 0) e in omega (arith, same)
    joined_other Workers e = let same = ap (λ (ws : Text). get_or ws 2 0) e in omega (arith, same)

settings_other : (xs : List Setting) → All IsAllowed xs → HasNoHyphens (setting_words xs)
settings_other [] allowed = λ i d l. absurd (omega arith)
settings_other (s ∷ xs) allowed =
    All-append (λ (w : Text). w ≢ codes "--") (words_of s) (setting_words xs) (word_other s.form s.kind s.number (fits s.kind s.number (allowed 0 s (omega arith)))) (settings_other xs (All-tail IsAllowed s xs allowed))

-- ---- numbers as they are read

same_kind : (j k : Kind) → (j ≡ k) ⊎ (j ≢ k)
same_kind Hosts Hosts = inl refl
same_kind Hosts Workers = inr (λ e. let no : ⊥ = cc in no)
same_kind Workers Hosts = inr (λ e. let no : ⊥ = cc in no)
same_kind Workers Workers = inl refl

-- a number that settings say is read
some_read : (k : Kind) (xs : List Setting) → All IsAllowed xs → (n : ℕ) × IsRead k (given (map said_of xs) k) n
some_read k [] allowed = (1, refl)
some_read k (s ∷ xs) allowed = by_kind s.kind k s.number (allowed 0 s (omega arith)) (some_read k xs (All-tail IsAllowed s xs allowed))
  where
    by_kind : (j k : Kind) (m : ℕ) → IsWithin 1 (most j) m → (n : ℕ) × IsRead k (given (map said_of xs) k) n → (n : ℕ) × IsRead k (if is_kind j k then Some (decimal m) else given (map said_of xs) k) n
    by_kind Hosts Hosts m within rest = (m, (within, refl))
    by_kind Hosts Workers m within rest = rest
    by_kind Workers Hosts m within rest = rest
    by_kind Workers Workers m within rest = (m, (within, refl))

-- ---- which command it is

abbrev GivesRun : (h w : ℕ) → List Said → List Text → Type 0
GivesRun h w ys words = IsRead Hosts (given ys Hosts) h → IsRead Workers (given ys Workers) w → IsCommand (codes "run" ∷ words) (Run h w)

abbrev setting : Form → Kind → ℕ → Setting
setting f k n = record { form = f; kind = k; number = n }

-- settings with these texts
spelled_as : (f : Form) (k : Kind) (text : Text) (n : ℕ) → text ≡ decimal n → written f k text ≡ words_of (setting f k n)
spelled_as f k text n is = ap (written f k) is ∙ spelled_is f k n

none_run : (h w : ℕ) → GivesRun h w [] []
none_run h w hosts workers = subst (λ (n : ℕ). IsCommand (codes "run" ∷ []) (Run n w)) (sym hosts) (subst (λ (n : ℕ). IsCommand (codes "run" ∷ []) (Run 1 n)) (sym workers) ([], says_none, refl))

one_run : (f : Form) (k : Kind) (text : Text) (h w : ℕ) → GivesRun h w (record { form = f; kind = k; text = text } ∷ []) (written f k text ++ [])
one_run f Hosts text h w hosts workers =
    subst (λ (n : ℕ). IsCommand (codes "run" ∷ (written f Hosts text ++ [])) (Run h n)) (sym workers)
    (setting f Hosts h ∷ [], says_hosts (setting f Hosts h) hosts.0 refl, ap (λ (ws : List Text). codes "run" ∷ (ws ++ [])) (spelled_as f Hosts text h hosts.1))
one_run f Workers text h w hosts workers =
    subst (λ (n : ℕ). IsCommand (codes "run" ∷ (written f Workers text ++ [])) (Run n w)) (sym hosts)
    (setting f Workers w ∷ [], says_workers (setting f Workers w) workers.0 refl, ap (λ (ws : List Text). codes "run" ∷ (ws ++ [])) (spelled_as f Workers text w workers.1))

two_run : (f g : Form) (k l : Kind) (text more : Text) (h w : ℕ) → k ≢ l → GivesRun h w (record { form = f; kind = k; text = text } ∷ record { form = g; kind = l; text = more } ∷ []) (written f k text ++ (written g l more ++ []))
two_run f g Hosts Hosts text more h w apart hosts workers = absurd (apart refl)
two_run f g Workers Workers text more h w apart hosts workers = absurd (apart refl)
two_run f g Hosts Workers text more h w apart hosts workers =
    (setting f Hosts h ∷ setting g Workers w ∷ [], says_hosts_first (setting f Hosts h) (setting g Workers w) hosts.0 workers.0 refl refl, ap₂ (λ (a b : List Text). codes "run" ∷ (a ++ (b ++ []))) (spelled_as f Hosts text h hosts.1) (spelled_as g Workers more w workers.1))
two_run f g Workers Hosts text more h w apart hosts workers =
    (setting f Workers w ∷ setting g Hosts h ∷ [], says_workers_first (setting f Workers w) (setting g Hosts h) workers.0 hosts.0 refl refl, ap₂ (λ (a b : List Text). codes "run" ∷ (a ++ (b ++ []))) (spelled_as f Workers text w workers.1) (spelled_as g Hosts more h hosts.1))

three_kinds : (a b c : Kind) → a ≢ b → a ≢ c → b ≢ c → ⊥
three_kinds Hosts Hosts c ab ac bc = ab refl
three_kinds Hosts Workers Hosts ab ac bc = ac refl
three_kinds Hosts Workers Workers ab ac bc = bc refl
three_kinds Workers Workers c ab ac bc = ab refl
three_kinds Workers Hosts Workers ab ac bc = ac refl
three_kinds Workers Hosts Hosts ab ac bc = bc refl

said_run : (ys : List Said) → AllPairs Apart ys → (h w : ℕ) → GivesRun h w ys (flat_map said_words ys)
said_run [] once h w = none_run h w
said_run (s ∷ []) once h w = one_run s.form s.kind s.text h w
said_run (s ∷ t ∷ []) once h w = two_run s.form t.form s.kind t.kind s.text t.text h w (once 0 1 s (omega arith) (omega arith))
said_run (a ∷ b ∷ c ∷ more) once h w =
    absurd (three_kinds a.kind b.kind c.kind (once 0 1 a (omega arith) (omega arith)) (once 0 2 a (omega arith) (omega arith)) (once 1 2 a (omega arith) (omega arith)))

-- what clap says of this kind
abbrev pub read_of : List Text → Kind → Option Text
read_of words k = first_of (label_of k) (matches_of line words)

-- words that clap takes, with these numbers
pub run_taken : (words : List Text) (h w : ℕ) → HasNoHyphens words → fault_of line words ≡ [] → IsRead Hosts (read_of words Hosts) h → IsRead Workers (read_of words Workers) w → IsCommand (codes "run" ∷ words) (Run h w)
run_taken words h w clean passes hosts workers =
    let taken = takes_said words clean passes in
    subst (λ (ws : List Text). IsCommand (codes "run" ∷ ws) (Run h w)) (sym taken.1.are)
    (said_run taken.0 taken.1.once h w (subst (λ (o : Option Text). IsRead Hosts o h) (taken.1.gives Hosts) hosts) (subst (λ (o : Option Text). IsRead Workers o w) (taken.1.gives Workers) workers))

-- words of a command
module _ (words : List Text) (h w : ℕ) (is : IsCommand (codes "run" ∷ words) (Run h w)) where
  abbrev settings : List Setting
  settings = is.0

  words_is : words ≡ setting_words settings
  words_is = ap (λ (ws : List Text). drop 1 ws) is.2

  pub run_clean : HasNoHyphens words
  run_clean = subst HasNoHyphens (sym words_is) (settings_other settings is.1.allowed)

  pub run_passes : fault_of line words ≡ []
  run_passes = ap (fault_of line) (words_is ∙ sym (words_are settings)) ∙ (said_taken (map said_of settings) (all_apart settings is.1.once) (all_plain settings is.1.allowed)).passes

  pub run_reads : (k : Kind) → (n : ℕ) × IsRead k (read_of words k) n
  run_reads k =
      let some = some_read k settings is.1.allowed in
      let gives = ap (λ (ws : List Text). read_of ws k) (words_is ∙ sym (words_are settings)) ∙ (said_taken (map said_of settings) (all_apart settings is.1.once) (all_plain settings is.1.allowed)).gives k in
      (some.0, subst (λ (o : Option Text). IsRead k o some.0) (sym gives) some.1)

-- what is read of words that clap takes is what they say
pub as_read : (o : Option Command) (words : List Text) (hosts workers : Option Text) → hosts ≡ read_of words Hosts → workers ≡ read_of words Workers → HasNoHyphens words → fault_of line words ≡ []
    → MatchOption o ((h w : ℕ) → IsRead Hosts hosts h → ¬ IsRead Workers workers w) (RunIs hosts workers)
    → MatchOption o ((c : Command) → ¬ IsCommand (codes "run" ∷ words) c) (IsCommand (codes "run" ∷ words))
as_read None words hosts workers are_hosts are_workers clean passes none = no_run words (λ h w is.
    let a = run_reads words h w is Hosts in
    let b = run_reads words h w is Workers in
    none a.0 b.0 (subst (λ (x : Option Text). IsRead Hosts x a.0) (sym are_hosts) a.1) (subst (λ (x : Option Text). IsRead Workers x b.0) (sym are_workers) b.1))
as_read (Some (Run h w)) words hosts workers are_hosts are_workers clean passes some =
    run_taken words h w clean passes (subst (λ (x : Option Text). IsRead Hosts x h) are_hosts some.0) (subst (λ (x : Option Text). IsRead Workers x w) are_workers some.1)
as_read (Some (Plan v)) words hosts workers are_hosts are_workers clean passes some = absurd some
as_read (Some (Save v)) words hosts workers are_hosts are_workers clean passes some = absurd some
as_read (Some Restore) words hosts workers are_hosts are_workers clean passes some = absurd some
as_read (Some (Made n)) words hosts workers are_hosts are_workers clean passes some = absurd some
as_read (Some (Serve n)) words hosts workers are_hosts are_workers clean passes some = absurd some

-- words that clap refuses for a cause
refused : (kinds : Kinds) (e : Error) → HasKind kinds e → kind_of e ≢ OutOfMemory → kinds ≢ []
refused kinds e (inl memory) other none = other memory
refused kinds e (inr among) other none = subst (IsAmong (kind_of e)) none among

pub no_words : (words : List Text) (e : Error) → HasKind (fault_of line words) e → kind_of e ≢ OutOfMemory → (c : Command) → ¬ IsCommand (codes "run" ∷ words) c
no_words words e has other = no_run words (λ h w is. refused (fault_of line words) e has other (run_passes words h w is))
