-- The names of a state: those with a value, each before the next.
use Rattle.std.proofs.Common.{◌≡◌, ℕ, ◌<◌, Bool, true, false, T, List, [], ◌∷◌, map, length, is_some, Option, Some, None, refl, sym, ap, ◌∙◌, ◌⊎◌, inl, inr, subst, arith}
use Rattle.std.specs.Prelude.{Contains, All}
use Rattle.std.specs.List.{AllPairs, list_any}
use Rattle.std.specs.declared.cmp.Ordering.{Ordering}
use Rattle.std.specs.declared.cmp.Ordering.TheVariants.{Less, Equal, Greater}
use Rattle.std.specs.Ordering.{is_lt, is_eq, nat_cmp, eq_by_cmp}
use Rattle.std.specs.Cmp.{eq_by_cmp_equiv}
use Rattle.std.specs.Cmp.Lexicographic.{slice_cmp, nat_list_cmp_total}
use Rattle.std.specs.FinMap as finite
use Rattle.std.specs.FinMap.{is_sorted, slice_cmp-IsAntisymmetric, nat_cmp-IsAntisymmetric}
use Rattle.std.specs.FinMap.Entries.{below_all}
use Rattle.std.proofs.lemmas.Bool.{false≢true, and_parts, cases_order}
use Rattle.std.proofs.lemmas.Option.{none-some}
use Rattle.std.proofs.lemmas.List.Elements.{All-nil, All-cons, Contains-get_or}
use Rattle.std.proofs.lemmas.List.Kept.{AllPairs-cons}
use Rattle.std.proofs.lemmas.List.{get_or_default}
use Rattle.std.proofs.lemmas.Map.Views.{Contains-from_any, list_any-from_Contains}
use Rattle.py_value.specs.declared.value.Value.{Value}
use Rattle.py_heap.specs.declared.state.State.{State}
use Rattle.py_heap.specs.References.{value_refs}
use Rattle.py_heap.specs.Reaching.{held_refs}
use Rattle.py_heap.specs.Reaching as reaching
use Rattle.py_machine.specs.Marked.{Name}
use Rattle.graph_model.specs.Faults.{TextBelow}
use Rattle.linked_parts.specs.Labels.{name_at}
use Rattle.linked_parts.specs.Parts.{HasValue, HasNone, Reaches, Linked, itself, shared, back, on}
use Rattle.linked_parts.proofs.Lists.{none_in, one_in, never_below_itself}

is_true : (b : Bool) → T b → b ≡ true
is_true true h = refl
is_true false h = absurd h

is_less : (o : Ordering) → is_lt o ≡ true → o ≡ Less
is_less Less e = refl
is_less Equal e = absurd (false≢true e)
is_less Greater e = absurd (false≢true e)

is_equal : (o : Ordering) → is_eq o ≡ true → o ≡ Equal
is_equal Less e = absurd (false≢true e)
is_equal Equal e = refl
is_equal Greater e = absurd (false≢true e)

abbrev names_of : List (Name × Value) → List Name
names_of es = map (λ e. e.0) es

below_rest : (x : Name) (es : List (Name × Value)) → below_all (slice_cmp nat_cmp) x es ≡ true → All (TextBelow x) (names_of es)
below_rest x [] h = All-nil (TextBelow x)
below_rest x (e ∷ es) h =
    let p = and_parts (is_lt (slice_cmp nat_cmp x e.0)) (below_all (slice_cmp nat_cmp) x es) h in
    All-cons (TextBelow x) e.0 (names_of es) (is_less (slice_cmp nat_cmp x e.0) p.0) (below_rest x es p.1)

rising : (es : List (Name × Value)) → is_sorted (slice_cmp nat_cmp) es ≡ true → AllPairs TextBelow (names_of es)
rising [] h = λ i j d l k. absurd (let none : j < 0 = k in omega arith)
rising (e ∷ es) h =
    let p = and_parts (below_all (slice_cmp nat_cmp) e.0 es) (is_sorted (slice_cmp nat_cmp) es) h in
    AllPairs-cons TextBelow e.0 (names_of es) (below_rest e.0 es p.0) (rising es p.1)

some_value : (o : Option Value) → is_some o ≡ true → (held : Value) × (o ≡ Some held)
some_value (Some held) e = (held, refl)
some_value None e = absurd (false≢true e)

pub same_name : (x y : Name) → eq_by_cmp (slice_cmp nat_cmp) x y ≡ true → x ≡ y
same_name x y e = slice_cmp-IsAntisymmetric nat_cmp-IsAntisymmetric x y (is_equal (slice_cmp nat_cmp x y) e)

-- these are the names with a value, each before the next
pub record AreNames (s : State) (names : List Name) : Type 0 where
  pub rises : (j k : ℕ) → j < k → k < length names → TextBelow (name_at names j) (name_at names k)
  pub positioned : (x : Name) → HasValue s x → (k : ℕ) × (k < length names) × (name_at names k ≡ x)
  pub valued : (k : ℕ) → k < length names → HasValue s (name_at names k)

keys_are_names : (s : State) → AreNames s (finite.keys s.globals)
keys_are_names s =
    let names : List Name = finite.keys s.globals in
    record {
      rises = λ j k l k_in. rising (finite.entries s.globals) (is_true _ (finite.entries_sorted s.globals)) j k [] l k_in;
      positioned = λ x v.
          let any : list_any (eq_by_cmp (slice_cmp nat_cmp) x) names ≡ true = sym (finite.contains_key-keys s.globals x) ∙ ap is_some v.1 in
          let c = Contains-from_any same_name x names any in
          (c.0, c.1, get_or_default names c.0 [] x c.1 ∙ c.2);
      valued = λ k l.
          let any = list_any-from_Contains (eq_by_cmp_equiv nat_list_cmp_total) (name_at names k) names (Contains-get_or names k [] l) in
          some_value (finite.get s.globals (name_at names k)) (finite.contains_key-keys s.globals (name_at names k) ∙ any);
    }

pub are_names : (s : State) (names : List Name) → names ≡ finite.keys s.globals → AreNames s names
are_names s names e = subst (AreNames s) (sym e) (keys_are_names s)

pub one_position : (s : State) (names : List Name) → AreNames s names → (j k : ℕ) → j < length names → k < length names → name_at names j ≡ name_at names k → j ≡ k
one_position s names n j k j_in k_in e = elim (cases_order j k) [
  | inl same ↦ same
  | inr (inl l) ↦ absurd (never_below_itself (name_at names k) (subst (λ x. TextBelow x (name_at names k)) e (n.rises j k l k_in)))
  | inr (inr l) ↦ absurd (never_below_itself (name_at names j) (subst (λ x. TextBelow x (name_at names j)) (sym e) (n.rises k j l j_in)))
]

-- ---- a name that reaches an object has a value, and so has one that is linked

no_refs : (o : Option Value) → o ≡ None → (at : ℕ) → ¬ Contains (held_refs value_refs o) at
no_refs None e at h = none_in at h
no_refs (Some v) e at h = none-some v (sym e)

pub none_reaches : (s : State) (x : Name) → HasNone s x → (at : ℕ) → ¬ Reaches s x at
none_reaches s x e n (reaching.named y at c r) = no_refs (finite.get s.globals y) (subst (λ z. HasNone s z) (one_in x y c) e) at r
none_reaches s x e n (reaching.held from at r c) = none_reaches s x e from r

value_cases : (o : Option Value) → ((held : Value) × (o ≡ Some held)) ⊎ (o ≡ None)
value_cases (Some v) = inl (v, refl)
value_cases None = inr refl

pub reaches_value : (s : State) (x : Name) (at : ℕ) → Reaches s x at → HasValue s x
reaches_value s x at r = elim (value_cases (finite.get s.globals x)) [ inl v ↦ v | inr none ↦ absurd (none_reaches s x none at r) ]

pub linked_values : (s : State) (x y : Name) → Linked s x y → HasValue s x × HasValue s y
linked_values s _ _ (itself x v) = (v, v)
linked_values s _ _ (shared x y at p q) = (reaches_value s x at p, reaches_value s y at q)
linked_values s _ _ (back x y l) = let w = linked_values s x y l in (w.1, w.0)
linked_values s _ _ (on x y z l m) = ((linked_values s x y l).0, (linked_values s y z m).1)
