-- Which words clap takes after `run`, one word after the other.
use Rattle.std.proofs.Common.{◌≡◌, ◌≢◌, inl, inr, ◌⊎◌, ℕ, zero, suc, codes, Bool, true, false, List, [], ◌∷◌, ◌++◌, Option, Some, None, length, refl, sym, ap, ap₂, subst, ◌∙◌, arith}
use Rattle.std.specs.Prelude.{◌==◌, ◌&&◌, slice_get, if◌then◌else◌, ◌||◌, option_and_then}
use Rattle.std.specs.Option.{option_map_or}
use Rattle.std.specs.Str.{bytes_eq, chars}
use Rattle.std.specs.List.{after_first}
use Rattle.std.proofs.lemmas.Bool.{cases_eq}
use Rattle.std.proofs.lemmas.Bool.Decides.{nat_tests}
use Rattle.std.proofs.lemmas.Slice.Eq.{bytes_eq-Decides}
use Rattle.clap.specs.Lexer.{long_of, short_of, long_of_rest, strip_byte, name_and_value}
use Rattle.clap.specs.Words.{Row, Rule, Text, is_simple, is_simple_and_free}
use Rattle.clap.specs.Kinds.{Kinds, or_else}
use Rattle.clap.specs.Walk.{Held, Outcome, Step, Waiting, Walk, after_flag, after_step, arg_by_long, bundle, bundle_met, bundle_step, has_row, idle, long_or_other, option, plain, plain_word, positional, settled_rows, short_or_plain, trailing, used, walked}
use Rattle.clap.specs.Faults.{bundle_fault, bundle_step_fault, flag_word_fault, flags_fault, long_fault, settle_fault, step_fault, turn_fault, use_fault}
use Rattle.clap.specs.Simple.{Shape, built, filled, with_index}
use Rattle.clap.specs.declared.error.kind.ErrorKind.TheVariants as kind
use Rattle.clap.proofs.CutLemmas.{Lacks, list_any-Lacks, list_any-at, before_first-Lacks, before_first-at, after_first-at}
use Rattle.clap.proofs.OnLiterals.{clap_on_literals}
use Rattle.command_words.specs.declared.settings.Kind.{Kind}
use Rattle.command_words.specs.declared.settings.Kind.TheVariants.{Hosts, Workers}
use Rattle.command_words.specs.Grammar.{Form, Spaced, Joined, name_of}
use Rattle.command_words.specs.Line.{label_of, line, option_of}

-- `run` as clap builds it
abbrev pub shape : Shape
shape = (built line).top

abbrev pub rules : List Rule
rules = shape.rules

abbrev pub rule : Kind → Rule
rule k = with_index 1 (filled (option_of k))

pub is_ours : is_simple line ≡ true
unfolding clap_on_literals
is_ours = refl

pub is_free : is_simple_and_free line ≡ true
unfolding clap_on_literals
is_free = refl

-- ---- lists of kinds of errors

pub no_error : (a b : Kinds) → or_else a b ≡ [] → (a ≡ []) × (b ≡ [])
no_error [] b e = (refl, e)
no_error (k ∷ ks) b e = let no : ⊥ = cc in absurd no

pub an_error : {X : Type 0} (x : X) (xs : List X) → (x ∷ xs) ≢ []
an_error x xs e = let no : ⊥ = cc in no

-- ---- words by their first bytes

cut_at : (c : ℕ) (xs : List ℕ) → Lacks c xs ⊎ ((ys : List ℕ) × (zs : List ℕ) × Lacks c ys × (xs ≡ ys ++ c ∷ zs))
cut_at c [] = inl (λ i l. absurd (omega arith))
cut_at c (x ∷ xs) = elim (cases_eq x c) [
  | inl e ↦ inr ([], xs, (λ i l. absurd (omega arith)), ap (λ (y : ℕ). y ∷ xs) e)
  | inr other ↦ elim (cut_at c xs) [
    | inl none ↦ inl (lacks x xs other none)
    | inr some ↦ inr (x ∷ some.0, some.1, lacks x some.0 other some.2, ap (λ (zs : List ℕ). x ∷ zs) some.3)
  ]
]
  where
    lacks : (x : ℕ) (ys : List ℕ) → x ≢ c → Lacks c ys → Lacks c (x ∷ ys)
    lacks x ys other none zero l = other
    lacks x ys other none (suc i) l = none i (omega (arith, l))

-- a name, and a text after an equals sign or none
abbrev pub with_text : Text → Option Text → Text
with_text name None = name
with_text name (Some text) = name ++ 61 ∷ text

cut_word : (xs : Text) → with_text (name_and_value xs).0 (name_and_value xs).1 ≡ xs
cut_word xs = elim (cut_at 61 xs) [
  | inl none ↦ ap (λ (b : Bool). with_text (name_and_value xs).0 (if b then Some (after_first (λ x. x == 61) xs) else None)) (list_any-Lacks 61 xs none) ∙ before_first-Lacks 61 xs none
  | inr some ↦ subst (λ (zs : List ℕ). with_text (name_and_value zs).0 (name_and_value zs).1 ≡ zs) (sym some.3) (cut_at_mark some.0 some.1 some.2)
]
  where
    cut_at_mark : (ys zs : List ℕ) → Lacks 61 ys → with_text (name_and_value (ys ++ 61 ∷ zs)).0 (name_and_value (ys ++ 61 ∷ zs)).1 ≡ ys ++ 61 ∷ zs
    cut_at_mark ys zs lacks =
        ap (λ (b : Bool). with_text (name_and_value (ys ++ 61 ∷ zs)).0 (if b then Some (after_first (λ x. x == 61) (ys ++ 61 ∷ zs)) else None)) (list_any-at 61 ys zs)
        ∙ ap₂ (λ (a b : List ℕ). a ++ 61 ∷ b) (before_first-at 61 ys zs lacks) (after_first-at 61 ys zs lacks)

-- what is under `Some`
some_same : {X : Type 0} (x y : X) → Some x ≡ Some y → x ≡ y
some_same x y e = ap (λ (o : Option _). option_map_or (λ z. z) o x) e

and_then_some : {X Y : Type 0} (f : X → Option Y) (o : Option X) (y : Y) → option_and_then f o ≡ Some y → (x : X) × (o ≡ Some x) × (f x ≡ Some y)
and_then_some f None y e = let no : ⊥ = cc in absurd no
and_then_some f (Some x) y e = (x, refl, e)

strip_is : (c : ℕ) (xs ys : List ℕ) → strip_byte c xs ≡ Some ys → xs ≡ c ∷ ys
strip_is c [] ys e = let no : ⊥ = cc in absurd no
strip_is c (x ∷ xs) ys e = elim (cases_eq x c) [
  | inl same ↦ ap₂ (λ (y : ℕ) (zs : List ℕ). y ∷ zs) same (some_same xs ys (sym (ap (λ (b : Bool). if b then Some xs else None) (eqb-refl x c same)) ∙ e))
  | inr other ↦ let no : None ≡ Some ys = sym (ap (λ (b : Bool). if b then Some xs else None) (eqb-other x c other)) ∙ e in let never : ⊥ = cc in absurd never
]
  where
    eqb-refl : (x c : ℕ) → x ≡ c → (x == c) ≡ true
    eqb-refl x c same = grind (arith, nat_tests)

    eqb-other : (x c : ℕ) → x ≢ c → (x == c) ≡ false
    eqb-other x c other = grind (arith, nat_tests)

-- a word that begins with two hyphens and isn't these alone
long_is : (w : Text) (p : Text × Option Text) → long_of w ≡ Some p → w ≡ 45 ∷ 45 ∷ with_text p.0 p.1
long_is w p e =
    let one = and_then_some long_of_rest (option_and_then (strip_byte 45) (strip_byte 45 w)) p e in
    let two = and_then_some (strip_byte 45) (strip_byte 45 w) one.0 one.1 in
    strip_is 45 w two.0 two.1 ∙ ap (λ (xs : Text). 45 ∷ xs) (strip_is 45 two.0 one.0 two.2 ∙ ap (λ (xs : Text). 45 ∷ xs) (whole one.0 one.2))
  where
    whole : (r : Text) → long_of_rest r ≡ Some p → r ≡ with_text p.0 p.1
    whole [] f = let no : ⊥ = cc in absurd no
    whole (x ∷ xs) f = sym (cut_word (x ∷ xs)) ∙ ap (λ (q : Text × Option Text). with_text q.0 q.1) (some_same (name_and_value (x ∷ xs)) p f)

-- ---- the names of options

abbrev picks : Bool → Bool → Option Rule
picks a b = if a || false then Some (rule Hosts) else (if b || false then Some (rule Workers) else None)

by_name : (name : Text) → arg_by_long rules name ≡ picks (bytes_eq (codes "hosts") name) (bytes_eq (codes "workers") name)
by_name name = refl

no_name : (name : Text) → bytes_eq (codes "hosts") name ≡ false → bytes_eq (codes "workers") name ≡ false → arg_by_long rules name ≡ None
no_name name h w = ap₂ picks h w

-- it is an option's name, or no option has it
names : (name : Text) → ((k : Kind) × (label_of k ≡ name)) ⊎ (arg_by_long rules name ≡ None)
names name = by_hosts (bytes_eq (codes "hosts") name) (bytes_eq (codes "workers") name) refl refl
  where
    by_hosts : (a b : Bool) → bytes_eq (codes "hosts") name ≡ a → bytes_eq (codes "workers") name ≡ b → ((k : Kind) × (label_of k ≡ name)) ⊎ (arg_by_long rules name ≡ None)
    by_hosts true b h w = inl (Hosts, (bytes_eq-Decides (codes "hosts") name).0 h)
    by_hosts false true h w = inl (Workers, (bytes_eq-Decides (codes "workers") name).0 w)
    by_hosts false false h w = inr (no_name name h w)

not_hyphens : (w : Text) → w ≢ codes "--" → bytes_eq w (codes "--") ≡ false
not_hyphens w other = by_test (bytes_eq w (codes "--")) refl
  where
    by_test : (b : Bool) → bytes_eq w (codes "--") ≡ b → b ≡ false
    by_test true e = absurd (other ((bytes_eq-Decides w (codes "--")).0 e))
    by_test false e = refl

-- ---- a word of the walk

module _ (waiting : Waiting) (rows : List Row) (pending : Option (Text × List Text)) where
  abbrev pub held : Held
  held = record { rows = rows; pending = pending; skip = 0 }

  abbrev pub at : Walk
  at = record { held = held; waiting = waiting; position = 1; is_trailing = false; stopped = None }

  -- by whether the word is two hyphens, and by its name
  abbrev met_by : Text → Bool → Option (Text × Option Text) → Held × Step
  met_by word b l = if b then (held, trailing 1) else long_or_other rules waiting word l held

  abbrev fault_by : Text → Bool → Option (Text × Option Text) → Kinds
  fault_by word b l = or_else (if b then [] else flag_word_fault rules false l word held) (step_fault shape 1 (met_by word b l).0 (met_by word b l).1)

  -- by what comes after its hyphen
  abbrev met_short : Text → Option Text → Held × Step
  met_short word s = short_or_plain rules waiting word s held

  abbrev fault_short : Text → Option Text → Kinds
  fault_short word s = or_else (option_map_or (λ flags. bundle_fault rules false flags held) s []) (step_fault shape 1 (met_short word s).0 (met_short word s).1)

turn_is : (waiting : Waiting) (rows : List Row) (pending : Option (Text × List Text)) (word : Text) → turn_fault shape [] (at waiting rows pending) word ≡ fault_by waiting rows pending word (bytes_eq word (codes "--")) (long_of word)
turn_is idle rows pending word = refl
turn_is (option id) rows pending word = refl
turn_is positional rows pending word = refl

walked_is : (waiting : Waiting) (rows : List Row) (pending : Option (Text × List Text)) (word : Text)
    → walked rules [] (at waiting rows pending) word ≡ after_step rules word (at waiting rows pending) (met_by waiting rows pending word (bytes_eq word (codes "--")) (long_of word)).0 (met_by waiting rows pending word (bytes_eq word (codes "--")) (long_of word)).1
unfolding walked
walked_is idle rows pending word = refl
walked_is (option id) rows pending word = refl
walked_is positional rows pending word = refl

-- no option has a letter
module _ (flags : Text) (h : Held) where
  abbrev IsNoFlag : ℕ → Option ℕ → Type 0
  IsNoFlag n o = ((bundle_step_fault rules false o flags 0 h (flags_fault rules false n) ≡ []) × (bundle_step rules o flags 0 plain h (bundle_met rules n) ≡ (h, plain)))
      ⊎ (bundle_step_fault rules false o flags 0 h (flags_fault rules false n) ≡ kind.UnknownArgument ∷ [])

  by_letter : (n : ℕ) (o : Option ℕ) → IsNoFlag n o
  by_letter n None = inl (refl, refl)
  by_letter n (Some x) = inr refl

  by_count : (n : ℕ) → ((flags_fault rules false n flags 0 h ≡ []) × (bundle_met rules n flags 0 plain h ≡ (h, plain))) ⊎ (flags_fault rules false n flags 0 h ≡ kind.UnknownArgument ∷ [])
  unfolding flags_fault bundle_met
  by_count zero = inl (refl, refl)
  by_count (suc n) = by_letter n (slice_get (chars flags) 0)

no_flag : (flags : Text) (rows : List Row) (pending : Option (Text × List Text)) → ((bundle_fault rules false flags (held idle rows pending) ≡ []) × (bundle rules flags (held idle rows pending) ≡ (held idle rows pending, plain))) ⊎ (bundle_fault rules false flags (held idle rows pending) ≡ kind.UnknownArgument ∷ [])
no_flag flags rows pending = by_count flags (held idle rows pending) (length flags)

-- ---- a word that is refused, or read

-- what no option is called
module _ (waiting : Waiting) (rows : List Row) (pending : Option (Text × List Text)) (w : Text) (other : w ≢ codes "--") where
  fault_at : (l : Option (Text × Option Text)) → long_of w ≡ l → turn_fault shape [] (at waiting rows pending) w ≡ fault_by waiting rows pending w false l
  fault_at l e = turn_is waiting rows pending w ∙ ap₂ (fault_by waiting rows pending w) (not_hyphens w other) e

  walked_at : (l : Option (Text × Option Text)) → long_of w ≡ l
      → walked rules [] (at waiting rows pending) w ≡ after_step rules w (at waiting rows pending) (met_by waiting rows pending w false l).0 (met_by waiting rows pending w false l).1
  walked_at l e = walked_is waiting rows pending w ∙ ap₂ (λ (b : Bool) (m : Option (Text × Option Text)). after_step rules w (at waiting rows pending) (met_by waiting rows pending w b m).0 (met_by waiting rows pending w b m).1) (not_hyphens w other) e

  unnamed : (p : Text × Option Text) → long_of w ≡ Some p → arg_by_long rules p.0 ≡ None → turn_fault shape [] (at waiting rows pending) w ≢ []
  unnamed p e none passed =
      let whole = sym (fault_at (Some p) e) ∙ passed in
      an_error kind.UnknownArgument [] (sym (ap (λ (o : Option Rule). long_fault rules false o p.1 (held waiting rows pending)) none) ∙ (no_error _ _ whole).0)

module _ (rows : List Row) (pending : Option (Text × List Text)) (w : Text) where
  stray_after : (flags : Text) → bundle rules flags (held idle rows pending) ≡ (held idle rows pending, plain) → step_fault shape 1 (met_short idle rows pending w (Some flags)).0 (met_short idle rows pending w (Some flags)).1 ≢ []
  stray_after flags met e = an_error kind.UnknownArgument [] (sym (ap (λ (m : Held × Outcome). step_fault shape 1 (after_flag rules idle w m.0 m.1).0 (after_flag rules idle w m.0 m.1).1) met) ∙ e)

  -- a word without two hyphens before it is refused where no option waits
  stray : (s : Option Text) → fault_short idle rows pending w s ≢ []
  stray None e = an_error kind.UnknownArgument [] e
  stray (Some flags) e = elim (no_flag flags rows pending) [
    | inl none ↦ stray_after flags none.1 (no_error _ _ e).1
    | inr some ↦ an_error kind.UnknownArgument [] (sym some ∙ (no_error _ _ e).0)
  ]

abbrev pub joined : Kind → Text → Text
joined k text = name_of k ++ codes "=" ++ text

-- an option with its text in one word, or its name
abbrev Named : Text → Type 0
Named w = ((k : Kind) × (text : Text) × (w ≡ joined k text)) ⊎ ((k : Kind) × (w ≡ name_of k))

named : (k : Kind) (name : Text) (v : Option Text) (w : Text) → label_of k ≡ name → w ≡ 45 ∷ 45 ∷ with_text name v → Named w
named Hosts name None w is e = inr (Hosts, e ∙ ap (λ (xs : Text). 45 ∷ 45 ∷ xs) (sym is))
named Hosts name (Some text) w is e = inl (Hosts, text, e ∙ ap (λ (xs : Text). 45 ∷ 45 ∷ (xs ++ 61 ∷ text)) (sym is))
named Workers name None w is e = inr (Workers, e ∙ ap (λ (xs : Text). 45 ∷ 45 ∷ xs) (sym is))
named Workers name (Some text) w is e = inl (Workers, text, e ∙ ap (λ (xs : Text). 45 ∷ 45 ∷ (xs ++ 61 ∷ text)) (sym is))

-- where no option waits, a word that passes is an option's
pub first_word : (rows : List Row) (pending : Option (Text × List Text)) (w : Text) → w ≢ codes "--" → turn_fault shape [] (at idle rows pending) w ≡ [] → Named w
first_word rows pending w other passed = by_long (long_of w) refl
  where
    by_long : (l : Option (Text × Option Text)) → long_of w ≡ l → Named w
    by_long None e = absurd (stray rows pending w (short_of w) (sym (fault_at idle rows pending w other None e) ∙ passed))
    by_long (Some p) e = elim (names p.0) [
      | inl is ↦ named is.0 p.0 p.1 w is.1 (long_is w p e)
      | inr none ↦ absurd (unnamed idle rows pending w other p e none passed)
    ]

-- an option waits for its text
abbrev pub waits : Kind → List Row → Walk
waits k rows = at (option (label_of k)) rows (Some (label_of k, []))

-- and no option stands there
unfilled : (j k : Kind) (name : Text) (v : Option Text) (rows : List Row) → label_of j ≡ name → long_fault rules false (arg_by_long rules name) v (waits k rows).held ≢ []
unfilled j k name v rows is e = go j k v (subst (λ (n : Text). long_fault rules false (arg_by_long rules n) v (waits k rows).held ≡ []) (sym is) e)
  where
    go : (j k : Kind) (v : Option Text) → long_fault rules false (arg_by_long rules (label_of j)) v (waits k rows).held ≢ []
    go Hosts Hosts None e = an_error kind.InvalidValue [] e
    go Hosts Workers None e = an_error kind.InvalidValue [] e
    go Workers Hosts None e = an_error kind.InvalidValue [] e
    go Workers Workers None e = an_error kind.InvalidValue [] e
    go Hosts Hosts (Some text) e = an_error kind.InvalidValue [] e
    go Hosts Workers (Some text) e = an_error kind.InvalidValue [] e
    go Workers Hosts (Some text) e = an_error kind.InvalidValue [] e
    go Workers Workers (Some text) e = an_error kind.InvalidValue [] e

-- its text is there
abbrev pub filled_by : Kind → Text → List Row → Walk
filled_by k text rows = at idle rows (Some (label_of k, text ∷ []))

taken_plain : (k : Kind) (rows : List Row) (w : Text) → after_step rules w (waits k rows) (plain_word rules (option (label_of k)) w (waits k rows).held).0 (plain_word rules (option (label_of k)) w (waits k rows).held).1 ≡ filled_by k w rows
taken_plain Hosts rows w = refl
taken_plain Workers rows w = refl

module _ (k : Kind) (rows : List Row) (w : Text) where
  taken : (s : Option Text) → fault_short (option (label_of k)) rows (Some (label_of k, [])) w s ≡ []
      → after_step rules w (waits k rows) (met_short (option (label_of k)) rows (Some (label_of k, [])) w s).0 (met_short (option (label_of k)) rows (Some (label_of k, [])) w s).1 ≡ filled_by k w rows
  taken None e = taken_plain k rows w
  taken (Some flags) e = elim (no_flag flags rows (Some (label_of k, []))) [
    | inl none ↦ ap (λ (m : Held × Outcome). after_step rules w (waits k rows) (after_flag rules (option (label_of k)) w m.0 m.1).0 (after_flag rules (option (label_of k)) w m.0 m.1).1) none.1 ∙ taken_plain k rows w
    | inr some ↦ absurd (an_error kind.UnknownArgument [] (sym some ∙ (no_error _ _ e).0))
  ]

-- where an option waits, a word that passes is its text
pub second_word : (k : Kind) (rows : List Row) (w : Text) → w ≢ codes "--" → turn_fault shape [] (waits k rows) w ≡ [] → walked rules [] (waits k rows) w ≡ filled_by k w rows
second_word k rows w other passed = by_long (long_of w) refl
  where
    by_long : (l : Option (Text × Option Text)) → long_of w ≡ l → walked rules [] (waits k rows) w ≡ filled_by k w rows
    by_long None e =
        walked_at (option (label_of k)) rows (Some (label_of k, [])) w other None e
        ∙ taken k rows w (short_of w) (sym (fault_at (option (label_of k)) rows (Some (label_of k, [])) w other None e) ∙ passed)
    by_long (Some p) e = elim (names p.0) [
      | inl is ↦ absurd (unfilled is.0 k p.0 p.1 rows is.1 (no_error _ _ (sym (fault_at (option (label_of k)) rows (Some (label_of k, [])) w other (Some p) e) ∙ passed)).0)
      | inr none ↦ absurd (unnamed (option (label_of k)) rows (Some (label_of k, [])) w other p e none passed)
    ]

-- a text that begins with no hyphen passes where an option waits
pub record IsPlain (text : Text) : Type 0 where
  pub long : long_of text ≡ None
  pub short : short_of text ≡ None
  pub other : text ≢ codes "--"

pub plain_passes : (k : Kind) (rows : List Row) (w : Text) → IsPlain w → turn_fault shape [] (waits k rows) w ≡ []
plain_passes k rows w p = fault_at (option (label_of k)) rows (Some (label_of k, [])) w p.other None p.long ∙ (ap (fault_short (option (label_of k)) rows (Some (label_of k, [])) w) p.short ∙ go k)
  where
    go : (k : Kind) → fault_short (option (label_of k)) rows (Some (label_of k, [])) w None ≡ []
    go Hosts = refl
    go Workers = refl

-- ---- settings

-- a setting as it is written: its text may be no number
pub record Said : Type 0 where
  pub form : Form
  pub kind : Kind
  pub text : Text

abbrev pub written : Form → Kind → Text → List Text
written Spaced k text = name_of k ∷ text ∷ []
written Joined k text = joined k text ∷ []

abbrev pub rows_after_one : Form → Kind → Text → List Row → Option (Text × List Text) → List Row
rows_after_one Spaced k text rows pending = settled_rows rules pending rows
rows_after_one Joined k text rows pending = used (rule k) (text ∷ []) (settled_rows rules pending rows)

abbrev pub pending_after_one : Form → Kind → Text → Option (Text × List Text)
pending_after_one Spaced k text = Some (label_of k, text ∷ [])
pending_after_one Joined k text = None

-- the walk after a setting
abbrev pub after_one : Form → Kind → Text → List Row → Option (Text × List Text) → Walk
after_one f k text rows pending = at idle (rows_after_one f k text rows pending) (pending_after_one f k text)

-- the rows at its end
pub settles : (f : Form) (k : Kind) (text : Text) (rows : List Row) (pending : Option (Text × List Text)) → settled_rows rules (pending_after_one f k text) (rows_after_one f k text rows pending) ≡ used (rule k) (text ∷ []) (settled_rows rules pending rows)
settles Spaced Hosts text rows pending = refl
settles Spaced Workers text rows pending = refl
settles Joined k text rows pending = refl

pub fresh_use : (k : Kind) (text : Text) (rows : List Row) → use_fault false (rule k) (text ∷ []) rows ≡ [] → has_row (label_of k) rows ≡ false
fresh_use Hosts text rows e = by_row (has_row (label_of Hosts) rows) e
  where
    by_row : (b : Bool) → or_else (if b && true then kind.ArgumentConflict ∷ [] else []) [] ≡ [] → b ≡ false
    by_row true e = absurd (an_error kind.ArgumentConflict [] e)
    by_row false e = refl
fresh_use Workers text rows e = by_row (has_row (label_of Workers) rows) e
  where
    by_row : (b : Bool) → or_else (if b && true then kind.ArgumentConflict ∷ [] else []) [] ≡ [] → b ≡ false
    by_row true e = absurd (an_error kind.ArgumentConflict [] e)
    by_row false e = refl

pub use_passes : (k : Kind) (text : Text) (rows : List Row) → has_row (label_of k) rows ≡ false → use_fault false (rule k) (text ∷ []) rows ≡ []
use_passes Hosts text rows e = ap (λ (b : Bool). or_else (if b && true then kind.ArgumentConflict ∷ [] else []) []) e
use_passes Workers text rows e = ap (λ (b : Bool). or_else (if b && true then kind.ArgumentConflict ∷ [] else []) []) e

pub joined_fault : (k : Kind) (text : Text) (rows : List Row) (pending : Option (Text × List Text)) → turn_fault shape [] (at idle rows pending) (joined k text) ≡ or_else (or_else (settle_fault rules false (held idle rows pending)) (use_fault false (rule k) (text ∷ []) (settled_rows rules pending rows))) []
joined_fault Hosts text rows pending = refl
joined_fault Workers text rows pending = refl

pub joined_walked : (k : Kind) (text : Text) (rows : List Row) (pending : Option (Text × List Text)) → walked rules [] (at idle rows pending) (joined k text) ≡ after_one Joined k text rows pending
unfolding walked
joined_walked Hosts text rows pending = refl
joined_walked Workers text rows pending = refl

pub name_fault : (k : Kind) (rows : List Row) (pending : Option (Text × List Text)) → turn_fault shape [] (at idle rows pending) (name_of k) ≡ or_else (settle_fault rules false (held idle rows pending)) []
name_fault Hosts rows pending = refl
name_fault Workers rows pending = refl

pub name_walked : (k : Kind) (rows : List Row) (pending : Option (Text × List Text)) → walked rules [] (at idle rows pending) (name_of k) ≡ waits k (settled_rows rules pending rows)
unfolding walked
name_walked Hosts rows pending = refl
name_walked Workers rows pending = refl

-- the end of an option's text is a use of it
pub filled_settles : (k : Kind) (text : Text) (rows : List Row) → settle_fault rules false (filled_by k text rows).held ≡ use_fault false (rule k) (text ∷ []) rows
filled_settles Hosts text rows = refl
filled_settles Workers text rows = refl

pub unfilled_end : (k : Kind) (rows : List Row) → settle_fault rules false (waits k rows).held ≢ []
unfilled_end Hosts rows e = an_error kind.InvalidValue [] e
unfilled_end Workers rows e = an_error kind.InvalidValue [] e
