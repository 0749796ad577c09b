-- A part that is loaded is a copy that is loaded: each of its names is there once, and has a value.
use Rattle.std.proofs.Common.{◌≡◌, ℕ, ◌<◌, List, [], ◌∷◌, map, length, Option, Some, None, Result, Ok, Err, refl, sym, ap, ◌∙◌, subst, inl, inr, arith}
use Rattle.std.specs.Prelude.{Contains, All, OnOk}
use Rattle.std.specs.List.{AllZip}
use Rattle.std.specs.FinMap as finite
use Rattle.std.specs.Ordering.{nat_cmp}
use Rattle.std.specs.Cmp.Lexicographic.{slice_cmp}
use Rattle.std.proofs.lemmas.Option.{none-some, same_Some}
use Rattle.std.proofs.lemmas.List.Elements.{All-head, All-tail}
use Rattle.py_value.specs.declared.value.Value.{Value}
use Rattle.py_heap.specs.declared.state.State.{State}
use Rattle.py_heap.specs.References.{value_refs, object_refs, AreLive, IsClosed}
use Rattle.py_heap.specs.Reaching.{held_refs}
use Rattle.py_machine.specs.Runs.{Name}
use Rattle.py_laws.proofs.Members.{name_cases, name_itself}
use Rattle.py_laws.proofs.Partners.{none_in, first_in, later_in}
use Rattle.py_laws.proofs.Bindings.{bound, bound_other}
use Rattle.graph_model.specs.Faults.{TextBelow, Ascends}
use Rattle.linked_parts.proofs.Lists.{cons_cases, below_on, never_below_itself}
use Rattle.part_bytes.specs.declared.part.PartValue.{PartValue}
use Rattle.replay_laws.specs.Copies.{higher_object, put_name, put_names, with_objects, with_copy}
use Rattle.replay_laws.specs.Walks.{IsLoaded}
use Rattle.replay_laws.proofs.Copying.{copy_loaded}
use Rattle.part_loader.specs.Loading.{Globals, globals_of, state_of, AreDistinct, IsWhole, put_held, loaded}

-- ---- names that ascend are distinct

above_first : (x : Name) (xs : List Name) → Ascends TextBelow (x ∷ xs) → (y : Name) → Contains xs y → TextBelow x y
above_first x [] a y c = absurd (none_in y c)
above_first x (z ∷ zs) a y c = elim (cons_cases z zs y c) [
  | inl e ↦ subst (TextBelow x) e a.0
  | inr more ↦ below_on x z y a.0 (above_first z zs a.1 y more)
]

pub ascending_distinct : (xs : List Name) → Ascends TextBelow xs → AreDistinct xs
ascending_distinct [] a = tt
ascending_distinct (x ∷ []) a = (λ c. none_in x c, tt)
ascending_distinct (x ∷ y ∷ xs) a = (λ c. never_below_itself x (above_first x (y ∷ xs) a x c), ascending_distinct (y ∷ xs) a.1)

ascends_rest : (x : Name) (xs : List Name) → Ascends TextBelow (x ∷ xs) → Ascends TextBelow xs
ascends_rest x [] a = tt
ascends_rest x (y ∷ xs) a = a.1

-- names are distinct if it can't be that they don't ascend
pub never_descending_distinct : (xs : List Name) → ((Ascends TextBelow xs → ⊥) → ⊥) → AreDistinct xs
never_descending_distinct [] n = tt
never_descending_distinct (x ∷ xs) n = (
  λ c. n (λ a. (ascending_distinct (x ∷ xs) a).0 c),
  never_descending_distinct xs (λ none. n (λ a. none (ascends_rest x xs a))),
)

-- ---- what each name has in the part

abbrev HasIn : Globals → Name → Option Value → Type 0
HasIn g x o = finite.get g x ≡ o

not_in : (names : List Name) (held : List (Option Value)) (y : Name) → ¬ Contains names y → finite.get (globals_of names held) y ≡ None
not_in [] held y out = finite.get-empty (slice_cmp nat_cmp) y
not_in (x ∷ xs) [] y out = finite.get-empty (slice_cmp nat_cmp) y
not_in (x ∷ xs) (None ∷ held) y out = not_in xs held y (λ c. out (later_in x xs y c))
not_in (x ∷ xs) (Some v ∷ held) y out =
    bound_other (globals_of xs held) x y v (λ e. out (subst (Contains (x ∷ xs)) (sym e) (first_in x xs))) ∙ not_in xs held y (λ c. out (later_in x xs y c))

zip_kept : (xs : List Name) (held : List (Option Value)) (g h : Globals) → ((y : Name) → Contains xs y → finite.get h y ≡ finite.get g y) → AllZip (HasIn g) xs held → AllZip (HasIn h) xs held
zip_kept [] [] g h k z = tt
zip_kept (x ∷ xs) (o ∷ held) g h k z = (k x (first_in x xs) ∙ z.0, zip_kept xs held g h (λ y c. k y (later_in x xs y c)) z.1)
zip_kept [] (o ∷ held) g h k z = absurd z
zip_kept (x ∷ xs) [] g h k z = absurd z

all_in : (xs : List Name) (held : List (Option Value)) → AreDistinct xs → length held ≡ length xs → AllZip (HasIn (globals_of xs held)) xs held
all_in [] [] d e = tt
all_in [] (o ∷ held) d e = absurd (omega (arith, e))
all_in (x ∷ xs) [] d e = absurd (omega (arith, e))
all_in (x ∷ xs) (None ∷ held) d e = (not_in xs held x d.0, all_in xs held d.1 (omega (arith, e)))
all_in (x ∷ xs) (Some v ∷ held) d e =
    let g : Globals = globals_of xs held in (
      bound g x x v ∙ rw (name_itself x) refl,
      zip_kept xs held g (finite.insert g x v) (λ y c. bound_other g x y v (λ same. d.0 (subst (Contains xs) same c))) (all_in xs held d.1 (omega (arith, e))),
    )

puts_same : (base : ℕ) (copy : State) (xs : List Name) (held : List (Option Value)) (t : State) → AllZip (HasIn copy.globals) xs held → put_held base xs held t ≡ put_names base copy xs t
puts_same base copy [] [] t z = refl
puts_same base copy (x ∷ xs) (o ∷ held) t z =
    puts_same base copy xs held (put_name base t x o) z.1 ∙ ap (λ (u : State). put_names base copy xs u) (ap (put_name base t x) (sym z.0))
puts_same base copy [] (o ∷ held) t z = absurd z
puts_same base copy (x ∷ xs) [] t z = absurd z

-- ---- the part is closed

held_live : (os : ℕ → Type 0) (xs : List Name) (held : List (Option Value)) → All (λ o. All os (held_refs value_refs o)) held → (y : Name) (v : Value) → finite.get (globals_of xs held) y ≡ Some v → All os (value_refs v)
held_live os [] held h y v e = absurd (none-some v (sym (finite.get-empty (slice_cmp nat_cmp) y) ∙ e))
held_live os (x ∷ xs) [] h y v e = absurd (none-some v (sym (finite.get-empty (slice_cmp nat_cmp) y) ∙ e))
held_live os (x ∷ xs) (None ∷ held) h y v e = held_live os xs held (All-tail (λ o. All os (held_refs value_refs o)) None held h) y v e
held_live os (x ∷ xs) (Some w ∷ held) h y v e = elim (name_cases y x) [
  | inl same ↦
      let here : finite.get (finite.insert (globals_of xs held) x w) y ≡ Some w = subst (λ z. finite.get (finite.insert (globals_of xs held) x w) z ≡ Some w) (sym same) (bound (globals_of xs held) x x w ∙ rw (name_itself x) refl) in
      subst (λ (z : Value). All os (value_refs z)) (same_Some w v (sym here ∙ e)) (All-head (λ o. All os (held_refs value_refs o)) (Some w) held h)
  | inr other ↦ held_live os xs held (All-tail (λ o. All os (held_refs value_refs o)) (Some w) held h) y v (sym (bound_other (globals_of xs held) x y w other) ∙ e)
]

module _ (p : PartValue) (values : All (λ o. AreLive p.objects (held_refs value_refs o)) p.values) (objects : All (λ o. AreLive p.objects (object_refs o)) p.objects) where
  pub part_closed : IsClosed (state_of p)
  part_closed = record {
    names = λ x v e. held_live (λ a. a < length p.objects) p.names p.values values x v e;
    objects = objects;
  }

  pub part_loaded : (t : State) → IsClosed t → AreDistinct p.names → length p.values ≡ length p.names → IsLoaded p.names (state_of p) t (loaded p t)
  part_loaded t closed distinct many =
      let base : ℕ = length t.heap in
      let same : loaded p t ≡ with_copy (state_of p) p.names t =
      puts_same base (state_of p) p.names p.values (with_objects (map (higher_object base) p.objects) t) (all_in p.names p.values distinct many) in
      subst (λ (u : State). IsLoaded p.names (state_of p) t u) (sym same) (copy_loaded (state_of p) part_closed p.names t closed)

pub whole_loaded : (p : PartValue) (t u : State) → u ≡ loaded p t → IsWhole p → IsClosed t → IsLoaded p.names (state_of p) t u
whole_loaded p t u is w closed = subst (λ (s : State). IsLoaded p.names (state_of p) t s) (sym is) (part_loaded p w.values w.objects t closed w.distinct w.as_many)

pub loaded_if_ok : {E : Type 0} (p : PartValue) (t u : State) (result : Result (Unit {0}) E) → OnOk result (u ≡ loaded p t) → OnOk result (IsWhole p → IsClosed t → IsLoaded p.names (state_of p) t u)
loaded_if_ok p t u (Ok done) is = λ w closed. whole_loaded p t u is w closed
loaded_if_ok p t u (Err e) is = tt
