-- Which words clap takes after `run`, and what it reads of them.
use Rattle.std.proofs.Common.{◌≡◌, ◌≢◌, inl, inr, ◌⊎◌, codes, Bool, true, false, List, [], ◌∷◌, ◌++◌, Option, Some, None, fold, refl, sym, ap, ap₂, subst, ◌∙◌, arith, true≢false}
use Rattle.std.specs.Prelude.{◌||◌, if◌then◌else◌, All, AllPairs, flat_map}
use Rattle.std.proofs.lemmas.List.Elements.{All-cons, All-tail}
use Rattle.std.proofs.lemmas.List.Kept.{AllPairs-cons}
use Rattle.clap.specs.Words.{Row, Text, fault_of, first_of, matches_of}
use Rattle.clap.specs.Kinds.{Kinds, or_else}
use Rattle.clap.specs.Walk.{Walk, finished, has_row, idle, nothing_held, settled_rows, used, walked, with_default}
use Rattle.clap.specs.Faults.{check_fault, default_fault, defaults_fault, settle_fault, turn_fault, use_fault, walk_fault}
use Rattle.clap.specs.Simple.{built}
use Rattle.clap.proofs.FaultLemmas.{leaf_fault}
use Rattle.command_words.specs.declared.settings.Kind.{Kind}
use Rattle.command_words.specs.declared.settings.Kind.TheVariants.{Hosts, Workers}
use Rattle.command_words.specs.Grammar.{Form, Spaced, Joined, name_of}
use Rattle.command_words.specs.Line.{label_of, line}
use Rattle.command_words.proofs.Line.{IsPlain, Said, after_one, at, filled_by, filled_settles, first_word, fresh_use, held, joined, joined_fault, joined_walked, name_fault, name_walked, no_error, pending_after_one, plain_passes, rows_after_one, rule, rules, second_word, settles, shape, unfilled_end, use_passes, waits, written}

both_none : (a b : Kinds) → a ≡ [] → b ≡ [] → or_else a b ≡ []
both_none a b first second = ap (λ (ks : Kinds). or_else ks b) first ∙ second

-- no word is two hyphens
abbrev pub HasNoHyphens : List Text → Type 0
HasNoHyphens = All (λ w. w ≢ codes "--")

-- the errors after the walk
abbrev closing : Walk → Kinds
closing w = or_else (settle_fault rules false w.held) (or_else (defaults_fault (settled_rows rules w.held.pending w.held.rows) rules) (check_fault shape (finished rules w.held) false))

abbrev walked_over : Walk → List Text → Walk
walked_over w words = fold (walked rules []) w words

-- the errors of a walk over words and after it
abbrev faults : Walk → List Text → Kinds
faults w words = or_else (walk_fault shape [] w words) (closing (walked_over w words))

start : Walk
start = at idle [] None

fault_is : (words : List Text) → fault_of line words ≡ faults (at idle [] None) words
fault_is words = leaf_fault (built line) nothing_held words refl

-- ---- the first setting of words that pass

record Begun (rows : List Row) (pending : Option (Text × List Text)) (words : List Text) : Type 0 where
  pub form : Form
  pub kind : Kind
  pub text : Text
  pub rest : List Text
  pub are : words ≡ written form kind text ++ rest
  pub clean : HasNoHyphens rest
  pub passes : faults (after_one form kind text rows pending) rest ≡ []
  pub same : walked_over (at idle rows pending) words ≡ walked_over (after_one form kind text rows pending) rest
  pub fresh : has_row (label_of kind) (settled_rows rules pending rows) ≡ false

-- where a text is held, its option had none before
held_fresh : (k : Kind) (text : Text) (rows : List Row) (words : List Text) → HasNoHyphens words → faults (filled_by k text rows) words ≡ [] → has_row (label_of k) rows ≡ false
unfolding walk_fault
held_fresh k text rows [] clean passes = fresh_use k text rows (sym (filled_settles k text rows) ∙ (no_error _ _ passes).0)
held_fresh k text rows (w ∷ ws) clean passes =
    let turn = (no_error (turn_fault shape [] (filled_by k text rows) w) (walk_fault shape [] (walked rules [] (filled_by k text rows) w) ws) (no_error (walk_fault shape [] (filled_by k text rows) (w ∷ ws)) _ passes).0).0 in
    fresh_use k text rows (sym (filled_settles k text rows) ∙ elim (first_word rows (Some (label_of k, text ∷ [])) w (clean 0 w (omega arith)) turn) [
      | inl is ↦ (no_error _ _ (no_error _ _ (sym (joined_fault is.0 is.1 rows (Some (label_of k, text ∷ []))) ∙ subst (λ (v : Text). turn_fault shape [] (filled_by k text rows) v ≡ []) is.2 turn)).0).0
      | inr is ↦ (no_error _ _ (sym (name_fault is.0 rows (Some (label_of k, text ∷ []))) ∙ subst (λ (v : Text). turn_fault shape [] (filled_by k text rows) v ≡ []) is.1 turn)).0
    ])

-- the first word and the words after it pass
word_passes : (w : Walk) (word : Text) (words : List Text) → faults w (word ∷ words) ≡ [] → (turn_fault shape [] w word ≡ []) × (faults (walked rules [] w word) words ≡ [])
unfolding walk_fault
word_passes w word words passes =
    let all = no_error (walk_fault shape [] w (word ∷ words)) (closing (walked_over w (word ∷ words))) passes in
    let each = no_error (turn_fault shape [] w word) (walk_fault shape [] (walked rules [] w word) words) all.0 in
    (each.0, both_none (walk_fault shape [] (walked rules [] w word) words) (closing (walked_over (walked rules [] w word) words)) each.1 all.1)

module _ (rows : List Row) (pending : Option (Text × List Text)) where
  begun_joined : (k : Kind) (text w : Text) (ws : List Text) → w ≡ joined k text → HasNoHyphens ws → turn_fault shape [] (at idle rows pending) w ≡ [] → faults (walked rules [] (at idle rows pending) w) ws ≡ [] → Begun rows pending (w ∷ ws)
  begun_joined k text w ws is clean turn passes =
      let walks : walked rules [] (at idle rows pending) w ≡ after_one Joined k text rows pending = ap (walked rules [] (at idle rows pending)) is ∙ joined_walked k text rows pending in
      let used_once = no_error _ _ (no_error _ _ (sym (joined_fault k text rows pending) ∙ subst (λ (v : Text). turn_fault shape [] (at idle rows pending) v ≡ []) is turn)).0 in
      record {
        form = Joined;
        kind = k;
        text = text;
        rest = ws;
        are = ap (λ (v : Text). v ∷ ws) is;
        clean = clean;
        passes = subst (λ (v : Walk). faults v ws ≡ []) walks passes;
        same = ap (λ (v : Walk). walked_over v ws) walks;
        fresh = fresh_use k text (settled_rows rules pending rows) used_once.1;
      }

  begun_spaced : (k : Kind) (w v : Text) (vs : List Text) → w ≡ name_of k → HasNoHyphens (v ∷ vs) → faults (waits k (settled_rows rules pending rows)) (v ∷ vs) ≡ [] → walked rules [] (at idle rows pending) w ≡ waits k (settled_rows rules pending rows) → Begun rows pending (w ∷ v ∷ vs)
  begun_spaced k w v vs is clean passes named =
      let each = word_passes (waits k (settled_rows rules pending rows)) v vs passes in
      let walks = second_word k (settled_rows rules pending rows) v (clean 0 v (omega arith)) each.0 in
      let after = subst (λ (x : Walk). faults x vs ≡ []) walks each.1 in
      let rest = All-tail (λ (x : Text). x ≢ codes "--") v vs clean in
      record {
        form = Spaced;
        kind = k;
        text = v;
        rest = vs;
        are = ap (λ (x : Text). x ∷ v ∷ vs) is;
        clean = rest;
        passes = after;
        same = ap (λ (x : Walk). walked_over x (v ∷ vs)) named ∙ ap (λ (x : Walk). walked_over x vs) walks;
        fresh = held_fresh k v (settled_rows rules pending rows) vs rest after;
      }

  begun_named : (k : Kind) (w : Text) (ws : List Text) → w ≡ name_of k → HasNoHyphens ws → faults (walked rules [] (at idle rows pending) w) ws ≡ [] → Begun rows pending (w ∷ ws)
  unfolding walk_fault
  begun_named k w [] is clean passes =
      let walks : walked rules [] (at idle rows pending) w ≡ waits k (settled_rows rules pending rows) = ap (walked rules [] (at idle rows pending)) is ∙ name_walked k rows pending in
      let closes : faults (waits k (settled_rows rules pending rows)) [] ≡ [] = subst (λ (x : Walk). faults x [] ≡ []) walks passes in
      absurd (unfilled_end k (settled_rows rules pending rows) (no_error _ _ closes).0)
  begun_named k w (v ∷ vs) is clean passes =
      let walks : walked rules [] (at idle rows pending) w ≡ waits k (settled_rows rules pending rows) = ap (walked rules [] (at idle rows pending)) is ∙ name_walked k rows pending in
      begun_spaced k w v vs is clean (subst (λ (x : Walk). faults x (v ∷ vs) ≡ []) walks passes) walks

  begun : (words : List Text) → HasNoHyphens words → faults (at idle rows pending) words ≡ [] → (words ≡ []) ⊎ Begun rows pending words
  begun [] clean passes = inl refl
  begun (w ∷ ws) clean passes =
      let each = word_passes (at idle rows pending) w ws passes in
      let rest = All-tail (λ (x : Text). x ≢ codes "--") w ws clean in
      elim (first_word rows pending w (clean 0 w (omega arith)) each.0) [
        | inl is ↦ inr (begun_joined is.0 is.1 w ws is.2 rest each.0 each.1)
        | inr is ↦ inr (begun_named is.0 w ws is.1 rest each.1)
      ]

-- ---- the rows at the end

defaulted : (k : Kind) (rows : List Row) → with_default rows (rule k) ≡ rows
defaulted k rows = by_row (has_row (label_of k) rows)
  where
    by_row : (b : Bool) → (if b then rows else rows) ≡ rows
    by_row true = refl
    by_row false = refl

end_rows : (w : Walk) → finished rules w.held ≡ settled_rows rules w.held.pending w.held.rows
end_rows w =
    let rows = settled_rows rules w.held.pending w.held.rows in
    ap (λ (xs : List Row). with_default xs (rule Workers)) (defaulted Hosts rows) ∙ defaulted Workers rows

matches_are : (words : List Text) → matches_of line words ≡ settled_rows rules (walked_over (at idle [] None) words).held.pending (walked_over (at idle [] None) words).held.rows
matches_are words = end_rows (walked_over (at idle [] None) words)

-- what was used
abbrev put : Kind → Text → List Row → List Row
put k text rows = used (rule k) (text ∷ []) rows

used_twice : (k l : Kind) (text : Text) → has_row (label_of l) (put k text []) ≡ false → k ≢ l
used_twice Hosts Hosts text fresh same = true≢false fresh
used_twice Hosts Workers text fresh same = let no : ⊥ = cc in no
used_twice Workers Hosts text fresh same = let no : ⊥ = cc in no
used_twice Workers Workers text fresh same = true≢false fresh

used_thrice : (k l m : Kind) (text more : Text) → k ≢ l → has_row (label_of m) (put l more (put k text [])) ≢ false
used_thrice Hosts Hosts m text more apart e = apart refl
used_thrice Workers Workers m text more apart e = apart refl
used_thrice Hosts Workers Hosts text more apart e = true≢false e
used_thrice Hosts Workers Workers text more apart e = true≢false e
used_thrice Workers Hosts Hosts text more apart e = true≢false e
used_thrice Workers Hosts Workers text more apart e = true≢false e

abbrev pub is_kind : Kind → Kind → Bool
is_kind Hosts Hosts = true
is_kind Hosts Workers = false
is_kind Workers Hosts = false
is_kind Workers Workers = true

-- the text of the first of this kind
abbrev pub given : List Said → Kind → Option Text
given [] k = None
given (s ∷ xs) k = if is_kind s.kind k then Some s.text else given xs k

abbrev pub said_words : Said → List Text
said_words s = written s.form s.kind s.text

pub none_given : (k : Kind) → first_of (label_of k) [] ≡ None
none_given k = refl

one_given : (s : Said) (k : Kind) → first_of (label_of k) (put s.kind s.text []) ≡ given (s ∷ []) k
one_given s k = by_kind s.kind k s.text
  where
    by_kind : (j k : Kind) (text : Text) → first_of (label_of k) (put j text []) ≡ (if is_kind j k then Some text else None)
    by_kind Hosts Hosts text = refl
    by_kind Hosts Workers text = refl
    by_kind Workers Hosts text = refl
    by_kind Workers Workers text = refl

two_given : (s t : Said) (k : Kind) → s.kind ≢ t.kind → first_of (label_of k) (put t.kind t.text (put s.kind s.text [])) ≡ given (s ∷ t ∷ []) k
two_given s t k apart = by_kind s.kind t.kind k s.text t.text apart
  where
    by_kind : (i j k : Kind) (text more : Text) → i ≢ j → first_of (label_of k) (put j more (put i text [])) ≡ (if is_kind i k then Some text else (if is_kind j k then Some more else None))
    by_kind Hosts Hosts k text more apart = absurd (apart refl)
    by_kind Workers Workers k text more apart = absurd (apart refl)
    by_kind Hosts Workers Hosts text more apart = refl
    by_kind Hosts Workers Workers text more apart = refl
    by_kind Workers Hosts Hosts text more apart = refl
    by_kind Workers Hosts Workers text more apart = refl

-- ---- words that clap takes are those of settings, none of them twice

abbrev pub Apart : Said → Said → Type 0
Apart s t = s.kind ≢ t.kind

-- the settings' words, and what is read of them
pub record IsTaken (words : List Text) (xs : List Said) : Type 0 where
  pub are : words ≡ flat_map said_words xs
  pub once : AllPairs Apart xs
  pub gives : (k : Kind) → first_of (label_of k) (matches_of line words) ≡ given xs k

no_pairs : AllPairs Apart []
no_pairs i j d below l = absurd (omega arith)

no_pair : (s : Said) → AllPairs Apart (s ∷ [])
no_pair s = AllPairs-cons Apart s [] (λ k d l. absurd (omega arith)) no_pairs

a_pair : (s t : Said) → Apart s t → AllPairs Apart (s ∷ t ∷ [])
a_pair s t apart = AllPairs-cons Apart s (t ∷ []) (All-cons (Apart s) t [] apart (λ k d l. absurd (omega arith))) (no_pair t)

abbrev said : Form → Kind → Text → Said
said f k text = record { form = f; kind = k; text = text }

taken_none : (words : List Text) → words ≡ [] → IsTaken words []
taken_none words none = record {
  are = none;
  once = no_pairs;
  gives = λ k. ap (λ (ws : List Text). first_of (label_of k) (matches_of line ws)) none ∙ none_given k;
}

module _ (words : List Text) (b : Begun [] None words) where
  one_rows : settled_rows rules (pending_after_one b.form b.kind b.text) (rows_after_one b.form b.kind b.text [] None) ≡ put b.kind b.text []
  one_rows = settles b.form b.kind b.text [] None

  taken_one : b.rest ≡ [] → IsTaken words (said b.form b.kind b.text ∷ [])
  taken_one none = record {
    are = b.are ∙ ap (λ (ws : List Text). written b.form b.kind b.text ++ ws) none;
    once = no_pair (said b.form b.kind b.text);
    gives = λ k. ap (first_of (label_of k)) (matches_are words ∙ (ap (λ (w : Walk). settled_rows rules w.held.pending w.held.rows) (b.same ∙ ap (walked_over (after_one b.form b.kind b.text [] None)) none) ∙ one_rows))
        ∙ one_given (said b.form b.kind b.text) k;
  }

  module _ (d : Begun (rows_after_one b.form b.kind b.text [] None) (pending_after_one b.form b.kind b.text) b.rest) where
    apart_two : b.kind ≢ d.kind
    apart_two = used_twice b.kind d.kind b.text (subst (λ (rows : List Row). has_row (label_of d.kind) rows ≡ false) one_rows d.fresh)

    two_rows : settled_rows rules (pending_after_one d.form d.kind d.text) (rows_after_one d.form d.kind d.text (rows_after_one b.form b.kind b.text [] None) (pending_after_one b.form b.kind b.text)) ≡ put d.kind d.text (put b.kind b.text [])
    two_rows = settles d.form d.kind d.text (rows_after_one b.form b.kind b.text [] None) (pending_after_one b.form b.kind b.text) ∙ ap (put d.kind d.text) one_rows

    taken_two : d.rest ≡ [] → IsTaken words (said b.form b.kind b.text ∷ said d.form d.kind d.text ∷ [])
    taken_two none = record {
      are = b.are ∙ ap (λ (ws : List Text). written b.form b.kind b.text ++ ws) (d.are ∙ ap (λ (ws : List Text). written d.form d.kind d.text ++ ws) none);
      once = a_pair (said b.form b.kind b.text) (said d.form d.kind d.text) apart_two;
      gives = λ k. ap (first_of (label_of k)) (matches_are words ∙ (ap (λ (w : Walk). settled_rows rules w.held.pending w.held.rows) (b.same ∙ (d.same ∙ ap (walked_over (after_one d.form d.kind d.text (rows_after_one b.form b.kind b.text [] None) (pending_after_one b.form b.kind b.text))) none)) ∙ two_rows))
          ∙ two_given (said b.form b.kind b.text) (said d.form d.kind d.text) k apart_two;
    }

    no_third : Begun (rows_after_one d.form d.kind d.text (rows_after_one b.form b.kind b.text [] None) (pending_after_one b.form b.kind b.text)) (pending_after_one d.form d.kind d.text) d.rest → ⊥
    no_third e = used_thrice b.kind d.kind e.kind b.text d.text apart_two (subst (λ (rows : List Row). has_row (label_of e.kind) rows ≡ false) two_rows e.fresh)

    taken_some : (xs : List Said) × IsTaken words xs
    taken_some = elim (begun (rows_after_one d.form d.kind d.text (rows_after_one b.form b.kind b.text [] None) (pending_after_one b.form b.kind b.text)) (pending_after_one d.form d.kind d.text) d.rest d.clean d.passes) [
      | inl none ↦ (said b.form b.kind b.text ∷ said d.form d.kind d.text ∷ [], taken_two none)
      | inr more ↦ absurd (no_third more)
    ]

pub takes_said : (words : List Text) → HasNoHyphens words → fault_of line words ≡ [] → (xs : List Said) × IsTaken words xs
takes_said words clean passes = elim (begun [] None words clean (sym (fault_is words) ∙ passes)) [
  | inl none ↦ ([], taken_none words none)
  | inr b ↦ elim (begun (rows_after_one b.form b.kind b.text [] None) (pending_after_one b.form b.kind b.text) b.rest b.clean b.passes) [
    | inl none ↦ (said b.form b.kind b.text ∷ [], taken_one words b none)
    | inr d ↦ taken_some words b d
  ]
]

-- ---- and the words of such settings are taken

-- the walk goes past the setting without an error
pub record Passes (rows : List Row) (pending : Option (Text × List Text)) (f : Form) (k : Kind) (text : Text) (rest : List Text) : Type 0 where
  pub none : walk_fault shape [] (at idle rows pending) (written f k text ++ rest) ≡ walk_fault shape [] (after_one f k text rows pending) rest
  pub same : walked_over (at idle rows pending) (written f k text ++ rest) ≡ walked_over (after_one f k text rows pending) rest
  pub settled : settle_fault rules false (after_one f k text rows pending).held ≡ []

module _ (rows : List Row) (pending : Option (Text × List Text)) (k : Kind) (text : Text) (rest : List Text) (plain : IsPlain text) (settled : settle_fault rules false (held idle rows pending) ≡ []) (fresh : has_row (label_of k) (settled_rows rules pending rows) ≡ false) where
  used_well : use_fault false (rule k) (text ∷ []) (settled_rows rules pending rows) ≡ []
  used_well = use_passes k text (settled_rows rules pending rows) fresh

  passes_joined : Passes rows pending Joined k text rest
  unfolding walk_fault
  passes_joined = record {
    none = ap₂ or_else (joined_fault k text rows pending ∙ ap₂ (λ (a b : Kinds). or_else (or_else a b) []) settled used_well) (ap (λ (w : Walk). walk_fault shape [] w rest) (joined_walked k text rows pending));
    same = ap (λ (w : Walk). walked_over w rest) (joined_walked k text rows pending);
    settled = refl;
  }

  passes_spaced : Passes rows pending Spaced k text rest
  unfolding walk_fault
  passes_spaced =
      let all = settled_rows rules pending rows in
      let turn = plain_passes k all text plain in
      let walks = second_word k all text plain.other turn in record {
        none = ap₂ or_else (name_fault k rows pending ∙ ap (λ (a : Kinds). or_else a []) settled) (ap (λ (w : Walk). walk_fault shape [] w (text ∷ rest)) (name_walked k rows pending) ∙ ap₂ or_else turn (ap (λ (w : Walk). walk_fault shape [] w rest) walks));
        same = ap (λ (w : Walk). walked_over w (text ∷ rest)) (name_walked k rows pending) ∙ ap (λ (w : Walk). walked_over w rest) walks;
        settled = filled_settles k text all ∙ used_well;
      }

  passes : (f : Form) → Passes rows pending f k text rest
  passes Spaced = passes_spaced
  passes Joined = passes_joined

no_default : (k : Kind) (rows : List Row) → default_fault rows (rule k) ≡ []
no_default k rows = by_row [] (has_row (label_of k) rows)
  where
    by_row : (none : Kinds) (b : Bool) → (if b || true then none else none) ≡ none
    by_row none true = refl
    by_row none false = refl

no_defaults : (rows : List Row) → defaults_fault rows rules ≡ []
unfolding defaults_fault
no_defaults rows = both_none _ _ (no_default Hosts rows) (both_none _ _ (no_default Workers (with_default rows (rule Hosts))) refl)

closes : (w : Walk) → settle_fault rules false w.held ≡ [] → closing w ≡ []
closes w settled = both_none _ _ settled (both_none _ _ (no_defaults (settled_rows rules w.held.pending w.held.rows)) refl)

-- at the end of the words
passes_end : (words : List Text) (w : Walk) → walk_fault shape [] (at idle [] None) words ≡ [] → walked_over (at idle [] None) words ≡ w → settle_fault rules false w.held ≡ [] → fault_of line words ≡ []
passes_end words w none same settled =
    fault_is words ∙ both_none (walk_fault shape [] (at idle [] None) words) (closing (walked_over (at idle [] None) words)) none (ap closing same ∙ closes w settled)

-- with these errors and matches
pub record IsRead (words : List Text) (xs : List Said) : Type 0 where
  pub passes : fault_of line words ≡ []
  pub gives : (k : Kind) → first_of (label_of k) (matches_of line words) ≡ given xs k

read_none : IsRead [] []
unfolding walk_fault
read_none = record { passes = passes_end [] (at idle [] None) refl refl refl; gives = none_given }

fresh_first : (k : Kind) → has_row (label_of k) [] ≡ false
fresh_first k = refl

fresh_second : (k l : Kind) (text : Text) → k ≢ l → has_row (label_of l) (put k text []) ≡ false
fresh_second Hosts Hosts text apart = absurd (apart refl)
fresh_second Workers Workers text apart = absurd (apart refl)
fresh_second Hosts Workers text apart = refl
fresh_second Workers Hosts text apart = refl

read_one : (s : Said) → IsPlain s.text → IsRead (written s.form s.kind s.text ++ []) (s ∷ [])
unfolding walk_fault
read_one s plain =
    let p = passes [] None s.kind s.text [] plain refl (fresh_first s.kind) s.form in
    let w = after_one s.form s.kind s.text [] None in record {
      passes = passes_end (written s.form s.kind s.text ++ []) w p.none p.same p.settled;
      gives = λ k. ap (first_of (label_of k)) (matches_are (written s.form s.kind s.text ++ []) ∙ (ap (λ (x : Walk). settled_rows rules x.held.pending x.held.rows) p.same ∙ settles s.form s.kind s.text [] None)) ∙ one_given s k;
    }

module _ (s t : Said) (plain : IsPlain s.text) (also : IsPlain t.text) (apart : s.kind ≢ t.kind) where
  abbrev rows_one : List Row
  rows_one = rows_after_one s.form s.kind s.text [] None

  abbrev pending_one : Option (Text × List Text)
  pending_one = pending_after_one s.form s.kind s.text

  first_passes : Passes [] None s.form s.kind s.text (written t.form t.kind t.text ++ [])
  first_passes = passes [] None s.kind s.text (written t.form t.kind t.text ++ []) plain refl (fresh_first s.kind) s.form

  settled_one : settled_rows rules pending_one rows_one ≡ put s.kind s.text []
  settled_one = settles s.form s.kind s.text [] None

  fresh_two : has_row (label_of t.kind) (settled_rows rules pending_one rows_one) ≡ false
  fresh_two = ap (has_row (label_of t.kind)) settled_one ∙ fresh_second s.kind t.kind s.text apart

  second_passes : Passes rows_one pending_one t.form t.kind t.text []
  second_passes = passes rows_one pending_one t.kind t.text [] also first_passes.settled fresh_two t.form

  read_two : IsRead (written s.form s.kind s.text ++ (written t.form t.kind t.text ++ [])) (s ∷ t ∷ [])
  unfolding walk_fault
  read_two =
      let words = written s.form s.kind s.text ++ (written t.form t.kind t.text ++ []) in
      let w = after_one t.form t.kind t.text rows_one pending_one in record {
        passes = passes_end words w (first_passes.none ∙ second_passes.none) (first_passes.same ∙ second_passes.same) second_passes.settled;
        gives = λ k. ap (first_of (label_of k)) (matches_are words ∙ (ap (λ (x : Walk). settled_rows rules x.held.pending x.held.rows) (first_passes.same ∙ second_passes.same) ∙ (settles t.form t.kind t.text rows_one pending_one ∙ ap (put t.kind t.text) settled_one)))
            ∙ two_given s t k apart;
      }

three : (a b c : Kind) → a ≢ b → a ≢ c → b ≢ c → ⊥
three Hosts Hosts c ab ac bc = ab refl
three Hosts Workers Hosts ab ac bc = ac refl
three Hosts Workers Workers ab ac bc = bc refl
three Workers Workers c ab ac bc = ab refl
three Workers Hosts Workers ab ac bc = ac refl
three Workers Hosts Hosts ab ac bc = bc refl

pub said_taken : (xs : List Said) → AllPairs Apart xs → All (λ s. IsPlain s.text) xs → IsRead (flat_map said_words xs) xs
said_taken [] once plain = read_none
said_taken (s ∷ []) once plain = read_one s (plain 0 s (omega arith))
said_taken (s ∷ t ∷ []) once plain = read_two s t (plain 0 s (omega arith)) (plain 1 s (omega arith)) (once 0 1 s (omega arith) (omega arith))
said_taken (a ∷ b ∷ c ∷ more) once plain =
    absurd (three a.kind b.kind c.kind (once 0 1 a (omega arith) (omega arith)) (once 0 2 a (omega arith) (omega arith)) (once 1 2 a (omega arith) (omega arith)))
