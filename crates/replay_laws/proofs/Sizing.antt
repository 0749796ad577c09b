-- States that are the same tell one size of a version.
use Rattle.std.proofs.Common.{◌≡◌, ◌↔◌, ◌⊎◌, ℕ, Bool, true, false, cond, ◌&&◌, List, [], ◌∷◌, length, Option, Some, None, is_some, refl, sym, ap, ◌∙◌, subst, inl, inr}
use Rattle.std.specs.Prelude.{Contains, slice_get}
use Rattle.std.specs.List.{list_any}
use Rattle.std.specs.FinMap as finite
use Rattle.std.proofs.lemmas.Bool.{cases_Bool, or_cases}
use Rattle.std.proofs.lemmas.List.Folds.{list_any_at}
use Rattle.py_value.specs.declared.value.Value.{Value}
use Rattle.py_heap.specs.declared.heap.Object.{Object}
use Rattle.py_heap.specs.declared.heap.Object.TheVariants as object
use Rattle.py_heap.specs.declared.state.State.{State}
use Rattle.py_heap.specs.References.{IsClosed}
use Rattle.py_heap.specs.Reaching.{Reach}
use Rattle.py_machine.specs.Runs.{Name}
use Rattle.py_laws.specs.Same.{HasPair, ValuesMatch, BothOrNone}
use Rattle.py_laws.proofs.Partners.{first_in, later_in}
use Rattle.part_bytes.specs.Parts.{order}
use Rattle.part_bytes.specs.Texts.{bytes_of, part_text}
use Rattle.part_bytes.proofs.Orders.{order_lists}
use Rattle.replay_laws.proofs.PartsAlike.{one_part}
use Rattle.run_graph.specs.Histories.{Run}
use Rattle.run_graph.specs.Fitting.{TellsParts}
use Rattle.run_graph.proofs.Weighing.{same_truth, handles_alike}
use Rattle.run_graph.specs.Parts.{HasHandle}
use Rattle.linked_parts.specs.Parts.{HasValue, HasNone, IsPart}
use Rattle.run_graph.proofs.Kept.{in_part_value}
use Rattle.replay_laws.specs.Restored.{TellsAlike}
use Rattle.part_bytes.specs.Sizing.{is_handle, holds_handle, have_values, size_of}

-- ---- whether a handle is in a part

any_in : (p : ℕ → Bool) (xs : List ℕ) → list_any p xs ≡ true → (x : ℕ) × Contains xs x × (p x ≡ true)
any_in p [] h = cc
any_in p (x ∷ xs) h = elim (or_cases (p x) (list_any p xs) h) [
  | inl e ↦ (x, first_in x xs, e)
  | inr more ↦ let w = any_in p xs more in (w.0, later_in x xs w.0 w.1, w.2)
]

in_any : (p : ℕ → Bool) (xs : List ℕ) (x : ℕ) → Contains xs x → p x ≡ true → list_any p xs ≡ true
in_any p xs x c e = list_any_at p xs c.0 x c.1 (subst (λ y. p y ≡ true) (sym c.2) e)

module _ (s : State) (names : List Name) (closed : IsClosed s) where
  handle_at : (at : ℕ) (o : Option Object) → slice_get s.heap at ≡ o → is_handle o ≡ true → Reach s names at → HasHandle s names
  handle_at at (Some (object.Handle name uses)) e h r = (at, name, uses, r, e)
  handle_at at (Some (object.List items)) e h r = cc
  handle_at at (Some (object.Tuple items)) e h r = cc
  handle_at at (Some (object.Dict pairs)) e h r = cc
  handle_at at (Some (object.Function def)) e h r = cc
  handle_at at None e h r = cc

  abbrev is_at : ℕ → Bool
  is_at at = is_handle (slice_get s.heap at)

  pub handle_told : (holds_handle names s ≡ true) ↔ HasHandle s names
  handle_told = (
    λ e. let w = any_in is_at (order s names) e in handle_at w.0 (slice_get s.heap w.0) refl w.2 ((order_lists s names closed w.0).0 w.1),
    λ h. in_any is_at (order s names) h.0 ((order_lists s names closed h.0).1 h.3) (ap is_handle h.4),
  )

-- ---- the size of a version

no_truth : (b : Bool) → (b ≡ true → ⊥) → b ≡ false
no_truth true h = absurd (h refl)
no_truth false h = refl

-- with a handle, or without a value, it is 0
pub no_size : (names : List Name) (s : State) → (holds_handle names s ≡ true) ⊎ (have_values names s ≡ false) → size_of names s ≡ 0
no_size names s (inl h) = rw h refl
no_size names s (inr none) = elim (cases_Bool (holds_handle names s)) [ inl h ↦ rw h refl | inr f ↦ rw (f, none) refl ]

pub one_has_none : (name : Name) (s : State) → HasNone s name → have_values (name ∷ []) s ≡ false
one_has_none name s none = ap (λ o. is_some o && true) none

all_have : (s : State) (names : List Name) → ((x : Name) → Contains names x → HasValue s x) → have_values names s ≡ true
all_have s [] h = refl
all_have s (x ∷ xs) h =
    let v = h x (first_in x xs) in
    let here : is_some (finite.get s.globals x) ≡ true = ap is_some v.1 in
    rw here (all_have s xs (λ y c. h y (later_in x xs y c)))

-- of a part without a handle it is the length of its text
pub size_plain : (s : State) (names : List Name) → IsClosed s → IsPart s names → (HasHandle s names → ⊥) → size_of names s ≡ length (part_text s names)
size_plain s names closed part none =
    let free : holds_handle names s ≡ false = no_truth (holds_handle names s) (λ t. none ((handle_told s names closed).0 t)) in
    let all : have_values names s ≡ true = all_have s names (λ x c. in_part_value s names part x c) in
    rw (free, all) refl

-- ---- in states that are the same

pub both_some : (M : Value → Value → Type 0) (o u : Option Value) → BothOrNone M o u → is_some o ≡ is_some u
both_some M (Some v) (Some w) h = refl
both_some M None None h = refl
both_some M (Some v) None h = absurd h
both_some M None (Some w) h = absurd h

values_alike : (names : List Name) (s t : State) → ((name : Name) → Contains names name → is_some (finite.get s.globals name) ≡ is_some (finite.get t.globals name)) → have_values names s ≡ have_values names t
values_alike [] s t h = refl
values_alike (name ∷ names) s t h =
    ap (λ b. b && have_values names s) (h name (first_in name names))
    ∙ ap (λ b. is_some (finite.get t.globals name) && b) (values_alike names s t (λ n c. h n (later_in name names n c)))

pub tells_alike : TellsAlike size_of
tells_alike names s t closed other same =
    let left : Bool = holds_handle names s in
    let right : Bool = holds_handle names t in
    let k = handles_alike names s t same in
    let h = handle_told t names other in
    let handles : left ≡ right = same_truth left right (HasHandle s names) (handle_told s names closed) (λ e. k.1 (h.0 e), λ q. h.1 (k.0 q)) in
    let values : have_values names s ≡ have_values names t =
    values_alike names s t (λ name c. both_some (ValuesMatch (HasPair same.by)) (finite.get s.globals name) (finite.get t.globals name) (same.same.names name c)) in
    let texts : length (part_text s names) ≡ length (part_text t names) = ap (λ p. length (bytes_of p)) (one_part names s t closed other same) in
    ap (λ b. cond b 0 (cond (have_values names s) (length (part_text s names)) 0)) handles
    ∙ (ap (λ b. cond right 0 (cond b (length (part_text s names)) 0)) values
    ∙ ap (λ n. cond right 0 (cond (have_values names t) n 0)) texts)

pub tells_parts : (r : Run) → ((c : ℕ) (names : List Name) → r.size c names ≡ size_of names (r.state c)) → TellsParts r
tells_parts r is = record {
  alike = λ c d names closed other same. is c names ∙ (tells_alike names (r.state c) (r.state d) closed other same ∙ sym (is d names));
}
