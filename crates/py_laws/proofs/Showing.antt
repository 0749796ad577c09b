-- Values that match show the same text, and the runs that show them respect alikeness.
use Rattle.std.proofs.Common.{◌≡◌, ℕ, zero, suc, ◌==◌, ◌||◌, List, [], ◌∷◌, ◌++◌, Option, Some, None, refl, sym, ap, ap₂, inl, inr, subst}
use Rattle.std.specs.Prelude.{codes}
use Rattle.std.specs.List.{AllZip}
use Rattle.std.proofs.lemmas.Bool.{cases_eq, eq-eqb, ne_eqb}
use Rattle.std.proofs.lemmas.List.Elements.{AllZip-push}
use Rattle.py_tree.specs.declared.statements.Def.{Def}
use Rattle.py_value.specs.declared.key.Key.{Key}
use Rattle.py_value.specs.declared.key.Key.TheVariants as key
use Rattle.py_value.specs.declared.value.Value.{Value}
use Rattle.py_value.specs.declared.value.Value.TheVariants as value
use Rattle.py_value.specs.Keys.{value_of}
use Rattle.py_heap.specs.declared.heap.Object.{Object}
use Rattle.py_heap.specs.declared.heap.Object.TheVariants as object
use Rattle.py_heap.specs.declared.heap.SequenceKind.{SequenceKind}
use Rattle.py_heap.specs.declared.heap.SequenceKind.TheVariants as sequences
use Rattle.py_heap.specs.Dicts.{Pairs}
use Rattle.py_heap.specs.References.{value_refs}
use Rattle.py_heap.specs.Searches.{has}
use Rattle.py_machine.specs.Errors.{recursion_error}
use Rattle.py_meaning.specs.Acts.{Act, pure}
use Rattle.py_meaning.specs.Shown.{Shows, opening, closing, more_items, all_items, sequence_text, open_text, function_text, handle_text, pair_text, more_pairs, all_pairs, object_shown, object_text, value_text, str_text, shown_one, shown, written}
use Rattle.py_laws.specs.Same.{equal, refs, PairsMatch}
use Rattle.py_laws.proofs.Respecting.{Setting, Paired, Respects, Equal, next, pure_respects, fail_respects, choose_respects}
use Rattle.py_laws.proofs.LeastActs.{Values, Slots, left_one, right_one, step_respects, object_at_respects}

no_refs : (k : Key) → value_refs (value_of k) ≡ []
no_refs key.Nothing = refl
no_refs (key.Bool b) = refl
no_refs (key.Number n) = refl
no_refs (key.Text t) = refl

pub keys_match : (c : Setting) (k l : Key) → k ≡ l → Values c (value_of k) (value_of l)
keys_match c k l e = subst (λ x. Values c (value_of k) (value_of x)) e (equal (value_of k) (no_refs k))

module _ (c : Setting) where
  -- the lists that are open are paired one by one
  abbrev Paths : List ℕ → List ℕ → Type 0
  Paths = AllZip (Paired c)

  pub same_address : (a b x y : ℕ) → Paired c a b → Paired c x y → (a == x) ≡ (b == y)
  same_address a b x y p q = elim (cases_eq a x) [
    | inl e ↦
        let f : b ≡ y = left_one c a b y p (subst (λ z. Paired c z y) (sym e) q) in
        rw (eq-eqb a x e, eq-eqb b y f) refl
    | inr differ ↦
        let off : b ≡ y → ⊥ = λ f. differ (right_one c a x y (subst (λ z. Paired c a z) f p) q) in
        rw (ne_eqb a x differ, ne_eqb b y off) refl
  ]

  -- a list is open in both runs or in neither
  same_open : (path route : List ℕ) (x y : ℕ) → Paths path route → Paired c x y → has path x ≡ has route y
  same_open [] [] x y h q = refl
  same_open (a ∷ path) (b ∷ route) x y h q = ap₂ (λ u v. u || v) (same_address a b x y h.0 q) (same_open path route x y h.1 q)
  same_open [] (b ∷ route) x y h q = absurd h
  same_open (a ∷ path) [] x y h q = absurd h

  abbrev Shown : Act (List ℕ) → Act (List ℕ) → Type 0
  Shown = Respects c Equal

  -- what shows values along paths shows those that match alike
  abbrev pub ShowsAlike : Shows → Type 0
  ShowsAlike show = (path route text : List ℕ) (v w : Value) → Paths path route → Values c v w → Shown (show path text v) (show route text w)

  same_text : (text more : List ℕ) → text ≡ more → Shown (pure text) (pure more)
  same_text text more e = pure_respects c Equal text more e

  module _ (below : Shows) (shows : ShowsAlike below) where
    more_respect : (end path route text : List ℕ) (vs ws : List Value) → Paths path route → AllZip (Values c) vs ws → Shown (more_items below end path text vs) (more_items below end route text ws)
    more_respect end path route text [] [] p h = same_text _ _ refl
    more_respect end path route text (v ∷ vs) (w ∷ ws) p h =
        next c (shows path route (text ++ codes ", ") v w p h.0) λ longer other e.
        subst (λ z. Shown (more_items below end path longer vs) (more_items below end route z ws)) e (more_respect end path route longer vs ws p h.1)
    more_respect end path route text [] (w ∷ ws) p h = absurd h
    more_respect end path route text (v ∷ vs) [] p h = absurd h

    all_respect : (end path route text : List ℕ) (vs ws : List Value) → Paths path route → AllZip (Values c) vs ws → Shown (all_items below end path text vs) (all_items below end route text ws)
    all_respect end path route text [] [] p h = same_text _ _ refl
    all_respect end path route text (v ∷ vs) (w ∷ ws) p h =
        next c (shows path route text v w p h.0) λ longer other e.
        subst (λ z. Shown (more_items below end path longer vs) (more_items below end route z ws)) e (more_respect end path route longer vs ws p h.1)
    all_respect end path route text [] (w ∷ ws) p h = absurd h
    all_respect end path route text (v ∷ vs) [] p h = absurd h

    same_closing : (kind : SequenceKind) (vs ws : List Value) → AllZip (Values c) vs ws → closing kind vs ≡ closing kind ws
    same_closing sequences.List vs ws h = refl
    same_closing sequences.Tuple [] [] h = refl
    same_closing sequences.Tuple (v ∷ []) (w ∷ []) h = refl
    same_closing sequences.Tuple (v ∷ v' ∷ vs) (w ∷ w' ∷ ws) h = refl
    same_closing sequences.Tuple [] (w ∷ ws) h = absurd h
    same_closing sequences.Tuple (v ∷ vs) [] h = absurd h
    same_closing sequences.Tuple (v ∷ []) (w ∷ w' ∷ ws) h = absurd h.1
    same_closing sequences.Tuple (v ∷ v' ∷ vs) (w ∷ []) h = absurd h.1

    sequence_respects : (kind : SequenceKind) (path route text : List ℕ) (a b : ℕ) (vs ws : List Value) → Paths path route → Paired c a b → AllZip (Values c) vs ws
        → Shown (sequence_text below kind path text a vs) (sequence_text below kind route text b ws)
    sequence_respects kind path route text a b vs ws p q h =
        subst (λ (end : List ℕ). Shown (sequence_text below kind path text a vs) (all_items below end (route ++ b ∷ []) (text ++ opening kind) ws)) (same_closing kind vs ws h)
        (all_respect (closing kind vs) (path ++ a ∷ []) (route ++ b ∷ []) (text ++ opening kind) vs ws (AllZip-push (Paired c) path route a b p q) h)

    pair_respects : (path route text : List ℕ) (x y : Key × Value) → Paths path route → PairsMatch (Paired c) x y → Shown (pair_text below path text x) (pair_text below route text y)
    pair_respects path route text x y p h =
        next c (shows path route text (value_of x.0) (value_of y.0) p (keys_match c x.0 y.0 h.0)) λ longer other e.
        subst (λ z. Shown (below path (longer ++ codes ": ") x.1) (below route (z ++ codes ": ") y.1)) e (shows path route (longer ++ codes ": ") x.1 y.1 p h.1)

    more_pairs_respect : (path route text : List ℕ) (vs ws : Pairs) → Paths path route → AllZip (PairsMatch (Paired c)) vs ws → Shown (more_pairs below path text vs) (more_pairs below route text ws)
    more_pairs_respect path route text [] [] p h = same_text _ _ refl
    more_pairs_respect path route text (v ∷ vs) (w ∷ ws) p h =
        next c (pair_respects path route (text ++ codes ", ") v w p h.0) λ longer other e.
        subst (λ z. Shown (more_pairs below path longer vs) (more_pairs below route z ws)) e (more_pairs_respect path route longer vs ws p h.1)
    more_pairs_respect path route text [] (w ∷ ws) p h = absurd h
    more_pairs_respect path route text (v ∷ vs) [] p h = absurd h

    all_pairs_respect : (path route text : List ℕ) (vs ws : Pairs) → Paths path route → AllZip (PairsMatch (Paired c)) vs ws → Shown (all_pairs below path text vs) (all_pairs below route text ws)
    all_pairs_respect path route text [] [] p h = same_text _ _ refl
    all_pairs_respect path route text (v ∷ vs) (w ∷ ws) p h =
        next c (pair_respects path route text v w p h.0) λ longer other e.
        subst (λ z. Shown (more_pairs below path longer vs) (more_pairs below route z ws)) e (more_pairs_respect path route longer vs ws p h.1)
    all_pairs_respect path route text [] (w ∷ ws) p h = absurd h
    all_pairs_respect path route text (v ∷ vs) [] p h = absurd h

    shown_object : (path route text : List ℕ) (a b : ℕ) (o u : Option Object) → Paths path route → Paired c a b → Slots c o u → Shown (object_shown below path text a o) (object_shown below route text b u)
    shown_object path route text a b (Some (object.List vs)) (Some (object.List ws)) p q h = sequence_respects sequences.List path route text a b vs ws p q h
    shown_object path route text a b (Some (object.Tuple vs)) (Some (object.Tuple ws)) p q h = sequence_respects sequences.Tuple path route text a b vs ws p q h
    shown_object path route text a b (Some (object.Dict vs)) (Some (object.Dict ws)) p q h = all_pairs_respect (path ++ a ∷ []) (route ++ b ∷ []) (text ++ codes "{") vs ws (AllZip-push (Paired c) path route a b p q) h
    shown_object path route text a b (Some (object.Function def)) (Some (object.Function other)) p q h = same_text _ _ (ap (λ (d : Def). text ++ function_text d.name) h)
    shown_object path route text a b (Some (object.Handle name uses)) (Some (object.Handle other others)) p q h = same_text _ _ (ap (λ (x : List ℕ). text ++ handle_text x) h.0)
    shown_object path route text a b (Some _) (Some _) p q h = absurd h
    shown_object path route text a b None None p q h = same_text _ _ refl
    shown_object path route text a b None (Some u) p q h = absurd h
    shown_object path route text a b (Some o) None p q h = absurd h

    same_open_text : (o u : Option Object) → Slots c o u → open_text o ≡ open_text u
    same_open_text (Some (object.List vs)) (Some (object.List ws)) h = refl
    same_open_text (Some (object.Tuple vs)) (Some (object.Tuple ws)) h = refl
    same_open_text (Some (object.Dict vs)) (Some (object.Dict ws)) h = refl
    same_open_text (Some (object.Function def)) (Some (object.Function other)) h = refl
    same_open_text (Some (object.Handle name uses)) (Some (object.Handle other others)) h = refl
    same_open_text (Some _) (Some _) h = absurd h
    same_open_text None None h = refl
    same_open_text None (Some u) h = absurd h
    same_open_text (Some o) None h = absurd h

    object_respects : (path route text : List ℕ) (a b : ℕ) → Paths path route → Paired c a b → Shown (object_text below path text a) (object_text below route text b)
    unfolding object_text
    object_respects path route text a b p q =
        next c (object_at_respects c a b q) λ o u h.
        choose_respects c Equal (has path a) (has route b) _ _ _ _ (same_open path route a b p q) (same_text _ _ (ap (λ (x : List ℕ). text ++ x) (same_open_text o u h)))
        (shown_object path route text a b o u p q h)

    plain_respects : (path route text : List ℕ) (v : Value) → value_refs v ≡ [] → Shown (value_text below path text v) (value_text below route text v)
    plain_respects path route text (value.Ref at) none = cc
    plain_respects path route text value.Nothing none = same_text _ _ refl
    plain_respects path route text (value.Bool truth) none = same_text _ _ refl
    plain_respects path route text (value.Number number) none = same_text _ _ refl
    plain_respects path route text (value.Text bytes) none = same_text _ _ refl
    plain_respects path route text (value.Builtin builtin) none = same_text _ _ refl

    value_respects : ShowsAlike (value_text below)
    value_respects path route text _ _ p (equal v none) = plain_respects path route text v none
    value_respects path route text _ _ p (refs a b q) = object_respects path route text a b p q

    plain_str : (v : Value) → value_refs v ≡ [] → Shown (str_text below v) (str_text below v)
    plain_str (value.Ref at) none = cc
    plain_str (value.Text bytes) none = same_text _ _ refl
    plain_str value.Nothing none = same_text _ _ refl
    plain_str (value.Bool truth) none = same_text _ _ refl
    plain_str (value.Number number) none = same_text _ _ refl
    plain_str (value.Builtin builtin) none = same_text _ _ refl

    str_respects : (v w : Value) → Values c v w → Shown (str_text below v) (str_text below w)
    str_respects _ _ (equal v none) = plain_str v none
    str_respects _ _ (refs a b q) = object_respects [] [] [] a b tt q

    shown_one_respects : ShowsAlike (shown_one below)
    shown_one_respects path route text v w p h = next c (step_respects c) λ _ _ _. value_respects path route text v w p h

  pub shown_respects : (n : ℕ) → ShowsAlike (shown n)
  unfolding shown
  shown_respects zero path route text v w p h = fail_respects c Equal recursion_error recursion_error refl
  shown_respects (suc n) path route text v w p h = shown_one_respects (shown n) (shown_respects n) path route text v w p h

  pub written_respects : (n : ℕ) (v w : Value) → Values c v w → Shown (written n v) (written n w)
  unfolding written
  written_respects zero v w h = fail_respects c Equal recursion_error recursion_error refl
  written_respects (suc n) v w h = next c (step_respects c) λ _ _ _. str_respects (shown n) (shown_respects n) v w h
