-- The next name with the label of each, found from the last name to the first.
use Rattle.std.proofs.Common.{◌≡◌, ◌≢◌, ℕ, ◌+◌, ◌<◌, ◌≤◌, List, length, set, replicate, slice_index, sym, ap, ◌∙◌, inl, inr, subst, arith}
use Rattle.std.proofs.lemmas.Bool.{cases_eq}
use Rattle.std.proofs.lemmas.List.{length-set, length-replicate, get_or-set_same, get_or-set_other, get_or-replicate}
use Rattle.linked_parts.specs.Labels.{IsFirstFrom, AreNext}

-- as far as the names from one on tell it: for each of them the next with its label, and for each label the first with it
pub record AreNextFrom (labels next first : List ℕ) (index : ℕ) : Type 0 where
  pub size : length next ≡ length labels
  pub room : length first ≡ length labels
  pub within : index ≤ length labels
  pub each : (k : ℕ) → index ≤ k → k < length labels → IsFirstFrom labels (k + 1) (slice_index labels k) (slice_index next k)
  pub under : (label : ℕ) → label < length labels → IsFirstFrom labels index label (slice_index first label)

no_more : (labels : List ℕ) (label found : ℕ) → found ≡ length labels → IsFirstFrom labels (length labels) label found
no_more labels label found e = record {
  low = omega (arith, e);
  high = omega (arith, e);
  is = λ l. absurd (omega (arith, e));
  none = λ k low high. absurd (omega (arith, e));
}

pub next_begun : (labels next first : List ℕ) (count : ℕ) → count ≡ length labels → next ≡ replicate count count → first ≡ replicate count count → AreNextFrom labels next first count
next_begun labels next first count is made held = record {
  size = ap (λ (xs : List ℕ). length xs) made ∙ length-replicate count count ∙ is;
  room = ap (λ (xs : List ℕ). length xs) held ∙ length-replicate count count ∙ is;
  within = omega (arith, is);
  each = λ k low high. absurd (omega (arith, is));
  under = λ label l. subst (λ (n : ℕ). IsFirstFrom labels n label (slice_index first label)) (sym is)
      (no_more labels label (slice_index first label) (ap (λ (xs : List ℕ). slice_index xs label) held ∙ get_or-replicate count label count 0 (omega (arith, is)) ∙ is));
}

module _ (labels next first : List ℕ) (index now : ℕ) (a : AreNextFrom labels next first index) (before : now + 1 ≡ index) (label_in : slice_index labels now < length labels) where
  abbrev label : ℕ
  label = slice_index labels now

  -- of a name with another label, the first is as it was
  first_still : (other found : ℕ) → other ≢ label → IsFirstFrom labels index other found → IsFirstFrom labels now other found
  first_still other found apart f = record {
    low = let l = f.low in omega (arith, l, before);
    high = f.high;
    is = f.is;
    none = λ k low high. elim (cases_eq k now) [
      | inl here ↦ λ e. apart (sym e ∙ ap (slice_index labels) here)
      | inr later ↦ f.none k (omega (arith, before)) high
    ];
  }

  -- of one with this label it is this name
  first_now : IsFirstFrom labels now label now
  first_now = record {
    low = omega arith;
    high = let w = a.within in omega (arith, w, before);
    is = λ l. ap (slice_index labels) (let e : now ≡ now = omega arith in e);
    none = λ k low high. absurd (omega arith);
  }

  pub next_more : (found : ℕ) → found ≡ slice_index first label → AreNextFrom labels (set next now found) (set first label now) now
  next_more found is = record {
    size = length-set next now found ∙ a.size;
    room = length-set first label now ∙ a.room;
    within = let w = a.within in omega (arith, w, before);
    each = λ k low high. elim (cases_eq k now) [
      | inl here ↦
          let there : slice_index (set next now found) now ≡ slice_index first label = (let s = a.size in let w = a.within in get_or-set_same next now found 0 (omega (arith, s, w, before))) ∙ is in
          subst (λ (n : ℕ). IsFirstFrom labels (n + 1) (slice_index labels n) (slice_index (set next now found) n)) (sym here)
          (subst (IsFirstFrom labels (now + 1) label) (sym there) (subst (λ (n : ℕ). IsFirstFrom labels n label (slice_index first label)) (sym before) (a.under label label_in)))
      | inr later ↦
          subst (IsFirstFrom labels (k + 1) (slice_index labels k)) (sym (get_or-set_other next now k found 0 later)) (a.each k (omega (arith, before)) high)
    ];
    under = λ other l. elim (cases_eq other label) [
      | inl same ↦
          let there : slice_index (set first label now) label ≡ now = (let r = a.room in get_or-set_same first label now 0 (omega (arith, r, label_in))) in
          subst (λ (n : ℕ). IsFirstFrom labels now n (slice_index (set first label now) n)) (sym same) (subst (IsFirstFrom labels now label) (sym there) first_now)
      | inr apart ↦
          subst (IsFirstFrom labels now other) (sym (get_or-set_other first label other now 0 apart)) (first_still other (slice_index first other) apart (a.under other l))
    ];
  }

pub next_all : (labels next first : List ℕ) (index : ℕ) → AreNextFrom labels next first index → index ≡ 0 → AreNext labels next
next_all labels next first index a none = record {
  size = a.size;
  each = λ k l. a.each k (omega (arith, none)) l;
}
