-- Which words say the settings of `run`.
use Rattle.std.proofs.Common.{◌≡◌, ◌≢◌, inl, inr, ℕ, codes, List, [], ◌∷◌, ◌++◌, length, get_or, drop, refl, sym, ap, subst, ◌∙◌, arith}
use Rattle.std.specs.Prelude.{All, AllPairs}
use Rattle.std.proofs.lemmas.List.Elements.{All-cons}
use Rattle.std.proofs.lemmas.List.Kept.{AllPairs-cons}
use Rattle.command_words.specs.declared.words.Command.{Command}
use Rattle.command_words.specs.declared.words.Command.TheVariants.{Run, Plan, Save, Restore, Made, Serve}
use Rattle.command_words.specs.declared.settings.Kind.{Kind}
use Rattle.command_words.specs.declared.settings.Kind.TheVariants.{Hosts, Workers}
use Rattle.command_words.specs.Grammar.{Form, Spaced, Joined, Setting, name_of, spelled, IsAllowed, Says, IsCommand}

-- ---- settings that are said

-- they aren't of one kind
abbrev pub Apart : Setting → Setting → Type 0
Apart s t = s.kind ≢ t.kind

all_none : (P : Setting → Type 0) → All P []
all_none P k d l = absurd (omega arith)

all_one : (P : Setting → Type 0) (s : Setting) → P s → All P (s ∷ [])
all_one P s p = All-cons P s [] p (all_none P)

no_pairs : AllPairs Apart []
no_pairs i j d below l = absurd (omega arith)

no_pair : (s : Setting) → AllPairs Apart (s ∷ [])
no_pair s = AllPairs-cons Apart s [] (all_none (Apart s)) no_pairs

apart : (k l : Kind) → k ≡ Hosts → l ≡ Workers → k ≢ l
apart k l hosts workers e = let no : ⊥ = cc in no

pub says_none : Says [] 1 1
says_none = record {
  allowed = all_none IsAllowed;
  once = no_pairs;
  hosts_set = inr (all_none (λ s. s.kind ≢ Hosts), refl);
  workers_set = inr (all_none (λ s. s.kind ≢ Workers), refl);
}

module _ (s : Setting) (a : IsAllowed s) where
  pub says_hosts : s.kind ≡ Hosts → Says (s ∷ []) s.number 1
  says_hosts is = record {
    allowed = all_one IsAllowed s a;
    once = no_pair s;
    hosts_set = inl (0, s, omega arith, refl, (is, refl));
    workers_set = inr (all_one (λ s. s.kind ≢ Workers) s (apart s.kind Workers is refl), refl);
  }

  pub says_workers : s.kind ≡ Workers → Says (s ∷ []) 1 s.number
  says_workers is = record {
    allowed = all_one IsAllowed s a;
    once = no_pair s;
    hosts_set = inr (all_one (λ s. s.kind ≢ Hosts) s (λ e. apart Hosts s.kind refl is (sym e)), refl);
    workers_set = inl (0, s, omega arith, refl, (is, refl));
  }

module _ (s t : Setting) (a : IsAllowed s) (b : IsAllowed t) where
  both_allowed : All IsAllowed (s ∷ t ∷ [])
  both_allowed = All-cons IsAllowed s (t ∷ []) a (all_one IsAllowed t b)

  both_apart : Apart s t → AllPairs Apart (s ∷ t ∷ [])
  both_apart other = AllPairs-cons Apart s (t ∷ []) (all_one (Apart s) t other) (no_pair t)

  pub says_hosts_first : s.kind ≡ Hosts → t.kind ≡ Workers → Says (s ∷ t ∷ []) s.number t.number
  says_hosts_first hosts workers = record {
    allowed = both_allowed;
    once = both_apart (apart s.kind t.kind hosts workers);
    hosts_set = inl (0, s, omega arith, refl, (hosts, refl));
    workers_set = inl (1, t, omega arith, refl, (workers, refl));
  }

  pub says_workers_first : s.kind ≡ Workers → t.kind ≡ Hosts → Says (s ∷ t ∷ []) t.number s.number
  says_workers_first workers hosts = record {
    allowed = both_allowed;
    once = both_apart (λ e. apart t.kind s.kind hosts workers (sym e));
    hosts_set = inl (1, t, omega arith, refl, (hosts, refl));
    workers_set = inl (0, s, omega arith, refl, (workers, refl));
  }

-- ---- words that begin with a setting

-- a byte of the first word, or 0
abbrev pub byte : ℕ → List (List ℕ) → ℕ
byte at words = get_or (get_or words 0 []) at 0

-- the first letter of a name
abbrev letter : Kind → ℕ
letter Hosts = 104
letter Workers = 119

pub letter_at : (f : Form) (k : Kind) (n : ℕ) (rest : List (List ℕ)) → byte 2 (spelled f k n ++ rest) ≡ letter k
letter_at Spaced Hosts n rest = refl
letter_at Spaced Workers n rest = refl
letter_at Joined Hosts n rest = refl
letter_at Joined Workers n rest = refl

same_letter : (k l : Kind) → letter k ≡ letter l → k ≡ l
same_letter Hosts Hosts e = refl
same_letter Hosts Workers e = absurd (omega arith)
same_letter Workers Hosts e = absurd (omega arith)
same_letter Workers Workers e = refl

-- the byte after the name in its word, or 0
abbrev after_name : Form → ℕ
after_name Spaced = 0
after_name Joined = 61

after_at : (f : Form) (k : Kind) (n : ℕ) (rest : List (List ℕ)) → byte (length (name_of k)) (spelled f k n ++ rest) ≡ after_name f
after_at Spaced Hosts n rest = refl
after_at Spaced Workers n rest = refl
after_at Joined Hosts n rest = refl
after_at Joined Workers n rest = refl

same_after : (f g : Form) → after_name f ≡ after_name g → f ≡ g
same_after Spaced Spaced e = refl
same_after Spaced Joined e = absurd (omega arith)
same_after Joined Spaced e = absurd (omega arith)
same_after Joined Joined e = refl

abbrev size : Form → ℕ
size Spaced = 2
size Joined = 1

rest_of : (f : Form) (k : Kind) (n : ℕ) (rest : List (List ℕ)) → drop (size f) (spelled f k n ++ rest) ≡ rest
rest_of Spaced k n rest = refl
rest_of Joined k n rest = refl

-- words begin with settings of one kind and form alone, and what comes after such a setting is the same
pub same_first : (f g : Form) (k l : Kind) (m n : ℕ) (r q : List (List ℕ)) → spelled f k m ++ r ≡ spelled g l n ++ q → (k ≡ l) × (f ≡ g) × (r ≡ q)
same_first f g k l m n r q e =
    let kinds : k ≡ l = same_letter k l (sym (letter_at f k m r) ∙ (ap (byte 2) e ∙ letter_at g l n q)) in
    let after = subst (λ (j : Kind). byte (length (name_of j)) (spelled g l n ++ q) ≡ after_name g) (sym kinds) (after_at g l n q) in
    let forms : f ≡ g = same_after f g (sym (after_at f k m r) ∙ (ap (byte (length (name_of k))) e ∙ after)) in
    let rest = subst (λ (h : Form). drop (size h) (spelled g l n ++ q) ≡ q) (sym forms) (rest_of g l n q) in
    (kinds, forms, sym (rest_of f k m r) ∙ (ap (drop (size f)) e ∙ rest))

-- a setting has a word
pub some_word : (f : Form) (k : Kind) (n : ℕ) (rest : List (List ℕ)) → spelled f k n ++ rest ≢ []
some_word f k n rest e = let same = sym (letter_at f k n rest) ∙ ap (byte 2) e in no_letter k same
  where
    no_letter : (k : Kind) → letter k ≢ 0
    no_letter Hosts e = let no : ⊥ = omega arith in no
    no_letter Workers e = let no : ⊥ = omega arith in no

-- what `run` with these words says is a number of hosts and of workers
pub no_run : (words : List (List ℕ)) → ((h w : ℕ) → ¬ IsCommand (codes "run" ∷ words) (Run h w)) → (c : Command) → ¬ IsCommand (codes "run" ∷ words) c
no_run words none (Run h w) is = none h w is
no_run words none (Plan w) is = let same = ap (byte 0) is.1 in let no : ⊥ = omega (arith, same) in no
no_run words none (Save w) is = let same = ap (byte 0) is.1 in let no : ⊥ = omega (arith, same) in no
no_run words none Restore is = let same = ap (byte 2) is in let no : ⊥ = omega (arith, same) in no
no_run words none (Made n) is = let same = ap (byte 0) is.1 in let no : ⊥ = omega (arith, same) in no
no_run words none (Serve n) is = let same = ap (byte 0) is.2 in let no : ⊥ = omega (arith, same) in no
