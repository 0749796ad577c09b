-- Words say one command at most.
use Rattle.std.proofs.Common.{◌≡◌, inl, inr, ℕ, ◌<◌, ◌≤◌, ◌^◌, List, [], ◌∷◌, ◌++◌, length, get_or, drop, refl, sym, ap, subst, ◌∙◌, arith}
use Rattle.std.specs.Prelude.{All, AllPairs}
use Rattle.std.specs.Fmt.{decimal}
use Rattle.std.proofs.lemmas.Bool.{cases_lt}
use Rattle.std.proofs.lemmas.Fmt.{decimal_injective}
use Rattle.std.proofs.lemmas.List.{get_or_default}
use Rattle.std.proofs.lemmas.List.Elements.{All-tail}
use Rattle.graph_model.specs.declared.plan.Weights.{Weights}
use Rattle.plan_model.specs.Weighing.{AreSmall}
use Rattle.command_words.specs.declared.words.Command.{Command}
use Rattle.command_words.specs.declared.words.Command.TheVariants.{Run, Plan, Save, Restore, Made, Serve}
use Rattle.command_words.specs.declared.settings.Kind.{Kind}
use Rattle.command_words.specs.declared.settings.Kind.TheVariants.{Hosts, Workers}
use Rattle.command_words.specs.Grammar.{Form, Spaced, Joined, Setting, weight_words, most, spelled, words_of, setting_words, IsWithin, IsAllowed, IsSet, IsCommand}
use Rattle.command_words.proofs.Runs.{Apart, byte, same_first, some_word}

-- ---- the same words are of the same settings

fits : (k : Kind) (n : ℕ) → IsWithin 1 (most k) n → n < 2 ^ 64
fits Hosts n within = omega (arith, within.1)
fits Workers n within = omega (arith, within.1)

same_number : (f : Form) (k : Kind) (m n : ℕ) (r q : List (List ℕ)) → spelled f k m ++ r ≡ spelled f k n ++ q → decimal m ≡ decimal n
same_number Spaced k m n r q e = ap (λ (ws : List (List ℕ)). get_or ws 1 []) e
same_number Joined Hosts m n r q e = ap (λ (ws : List (List ℕ)). drop 8 (get_or ws 0 [])) e
same_number Joined Workers m n r q e = ap (λ (ws : List (List ℕ)). drop 10 (get_or ws 0 [])) e

abbrev made : Kind → Form → ℕ → Setting
made k f n = record { kind = k; form = f; number = n }

same_made : (k l : Kind) (f g : Form) (m n : ℕ) → k ≡ l → f ≡ g → m ≡ n → made k f m ≡ made l g n
same_made k l f g m n kinds forms numbers =
    ap (λ (j : Kind). made j f m) kinds ∙ (ap (λ (h : Form). made l h m) forms ∙ ap (λ (i : ℕ). made l g i) numbers)

same_setting : (s t : Setting) (r q : List (List ℕ)) → IsAllowed s → IsAllowed t → words_of s ++ r ≡ words_of t ++ q → s ≡ t
same_setting s t r q a b e =
    let same = same_first s.form t.form s.kind t.kind s.number t.number r q e in
    let formed = subst (λ (f : Form). words_of s ++ r ≡ spelled f t.kind t.number ++ q) (sym same.1) e in
    let kinded = subst (λ (k : Kind). words_of s ++ r ≡ spelled s.form k t.number ++ q) (sym same.0) formed in
    let digits = same_number s.form s.kind s.number t.number r q kinded in
    same_made s.kind t.kind s.form t.form s.number t.number same.0 same.1 (decimal_injective s.number t.number (fits s.kind s.number a) (fits t.kind t.number b) digits)

same_settings : (xs ys : List Setting) → All IsAllowed xs → All IsAllowed ys → setting_words xs ≡ setting_words ys → xs ≡ ys
same_settings [] [] a b e = refl
same_settings [] (y ∷ ys) a b e = absurd (some_word y.form y.kind y.number (setting_words ys) (sym e))
same_settings (x ∷ xs) [] a b e = absurd (some_word x.form x.kind x.number (setting_words xs) e)
same_settings (x ∷ xs) (y ∷ ys) a b e =
    let first = same_setting x y (setting_words xs) (setting_words ys) (a 0 x (omega arith)) (b 0 y (omega arith)) e in
    let after = (same_first x.form y.form x.kind y.kind x.number y.number (setting_words xs) (setting_words ys) e).2 in
    ap (λ (z : Setting). z ∷ xs) first ∙ ap (λ (zs : List Setting). y ∷ zs) (same_settings xs ys (All-tail IsAllowed x xs a) (All-tail IsAllowed y ys b) after)

-- ---- settings, none of them twice, say one number of a kind

module _ (xs : List Setting) (once : AllPairs Apart xs) where
  not_later : (i j : ℕ) (s t : Setting) → j < length xs → get_or xs i s ≡ s → get_or xs j t ≡ t → s.kind ≡ t.kind → i < j → ⊥
  not_later i j s t within is it same below =
      let second : get_or xs j s ≡ t = get_or_default xs j s t within ∙ it in
      once i j s below within (ap (λ (x : Setting). x.kind) is ∙ (same ∙ sym (ap (λ (x : Setting). x.kind) second)))

  same_place : (i j : ℕ) (s t : Setting) → i < length xs → j < length xs → get_or xs i s ≡ s → get_or xs j t ≡ t → s.kind ≡ t.kind → i ≡ j
  same_place i j s t li lj is it same = elim (cases_lt i j) [
    | inl below ↦ absurd (not_later i j s t lj is it same below)
    | inr above ↦ elim (cases_lt j i) [
      | inl below ↦ absurd (not_later j i t s li it is (sym same) below)
      | inr other ↦ omega arith
    ]
  ]

  one_number : (k : Kind) (m n : ℕ) → IsSet xs k m → IsSet xs k n → m ≡ n
  one_number k m n (inl (i, s, li, is, told)) (inl (j, t, lj, it, said)) =
      let place = same_place i j s t li lj is it (told.0 ∙ sym said.0) in
      let same : s ≡ t = sym is ∙ (get_or_default xs i s t li ∙ (ap (λ (at : ℕ). get_or xs at t) place ∙ it)) in
      sym told.1 ∙ (ap (λ (x : Setting). x.number) same ∙ said.1)
  one_number k m n (inl (i, s, li, is, told)) (inr none) = absurd (none.0 i s li (ap (λ (x : Setting). x.kind) is ∙ told.0))
  one_number k m n (inr none) (inl (j, t, lj, it, said)) = absurd (none.0 j t lj (ap (λ (x : Setting). x.kind) it ∙ said.0))
  one_number k m n (inr none) (inr also) = none.1 ∙ sym also.1

-- ---- weights

low : (n : ℕ) → n ≤ 1000000 → n < 2 ^ 64
low n l = omega (arith, l)

same_weights : (v w : Weights) → AreSmall v → AreSmall w → weight_words v ≡ weight_words w → v ≡ w
same_weights v w a b same =
    let one = decimal_injective v.copy_base w.copy_base (low v.copy_base a.copy_base) (low w.copy_base b.copy_base) (ap (λ (ws : List (List ℕ)). get_or ws 0 []) same) in
    let two = decimal_injective v.per_byte w.per_byte (low v.per_byte a.per_byte) (low w.per_byte b.per_byte) (ap (λ (ws : List (List ℕ)). get_or ws 1 []) same) in
    let three = decimal_injective v.run_base w.run_base (low v.run_base a.run_base) (low w.run_base b.run_base) (ap (λ (ws : List (List ℕ)). get_or ws 2 []) same) in
    let four = decimal_injective v.per_step w.per_step (low v.per_step a.per_step) (low w.per_step b.per_step) (ap (λ (ws : List (List ℕ)). get_or ws 3 []) same) in
    ap (λ (n : ℕ). let x : Weights = record v { copy_base = n } in x) one
    ∙ (ap (λ (n : ℕ). let x : Weights = record { copy_base = w.copy_base; per_byte = n; run_base = v.run_base; per_step = v.per_step } in x) two
    ∙ (ap (λ (n : ℕ). let x : Weights = record { copy_base = w.copy_base; per_byte = w.per_byte; run_base = n; per_step = v.per_step } in x) three
    ∙ ap (λ (n : ℕ). let x : Weights = record { copy_base = w.copy_base; per_byte = w.per_byte; run_base = w.run_base; per_step = n } in x) four))

-- ---- commands

few : (most n : ℕ) → most < 2 ^ 64 → IsWithin 1 most n → n < 2 ^ 64
few most n l within = omega (arith, l, within.1)

-- the third letter of a command's first word
abbrev third : Command → ℕ
third (Run h w) = 110
third (Plan w) = 97
third (Save w) = 118
third Restore = 115
third (Made n) = 100
third (Serve n) = 114

third_at : (words : List (List ℕ)) (c : Command) → IsCommand words c → byte 2 words ≡ third c
third_at words (Run h w) is = ap (byte 2) is.2
third_at words (Plan w) is = ap (byte 2) is.1
third_at words (Save w) is = ap (byte 2) is.1
third_at words Restore is = ap (byte 2) is
third_at words (Made n) is = ap (byte 2) is.1
third_at words (Serve n) is = ap (byte 2) is.2

pub one_command : (words : List (List ℕ)) (c d : Command) → IsCommand words c → IsCommand words d → c ≡ d
one_command words (Run h w) (Run g v) a b =
    let same = same_settings a.0 b.0 a.1.allowed b.1.allowed (ap (drop 1) (sym a.2 ∙ b.2)) in
    let hosts = one_number a.0 a.1.once Hosts h g a.1.hosts_set (subst (λ (xs : List Setting). IsSet xs Hosts g) (sym same) b.1.hosts_set) in
    let workers = one_number a.0 a.1.once Workers w v a.1.workers_set (subst (λ (xs : List Setting). IsSet xs Workers v) (sym same) b.1.workers_set) in
    ap (λ (n : ℕ). Run n w) hosts ∙ ap (λ (n : ℕ). Run g n) workers
one_command words (Plan v) (Plan w) a b = ap Plan (same_weights v w a.0 b.0 (ap (drop 1) (sym a.1 ∙ b.1)))
one_command words (Save v) (Save w) a b = ap Save (same_weights v w a.0 b.0 (ap (drop 1) (sym a.1 ∙ b.1)))
one_command words Restore Restore a b = refl
one_command words (Made m) (Made n) a b =
    ap Made (decimal_injective m n (few 4000 m (omega arith) a.0) (few 4000 n (omega arith) b.0) (ap (λ (ws : List (List ℕ)). get_or ws 1 []) (sym a.1 ∙ b.1)))
one_command words (Serve m) (Serve n) a b =
    ap Serve (decimal_injective m n (few 100 m (omega arith) a.0) (few 100 n (omega arith) b.0) (ap (λ (ws : List (List ℕ)). get_or ws 2 []) (sym a.2 ∙ b.2)))
one_command words c d a b = let same = sym (third_at words c a) ∙ third_at words d b in let no : ⊥ = omega (arith, same) in absurd no
