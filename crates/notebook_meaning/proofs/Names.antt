-- Items by their indices, and names.
use Rattle.std.proofs.Common.{◌≡◌, ℕ, suc, ◌≤◌, ◌==◌, true, List, [], ◌∷◌, length, Some, refl, subst, inl, inr, arith}
use Rattle.std.specs.Prelude.{Contains, All, slice_get}
use Rattle.std.specs.List.{AllByRecursion}
use Rattle.std.proofs.lemmas.Bool.{and_parts, leb-true, eq-eqb, cases_Bool}
use Rattle.std.proofs.lemmas.Option.{slice_get_within, get_or_from_slice_get}
use Rattle.std.proofs.lemmas.Str.{is_utf8-from_IsUtf8}
use Rattle.py_names.specs.Names.{is_identifier, is_variable}
use Rattle.py_heap.specs.declared.state.State.{State}
use Rattle.py_heap.specs.References.{value_refs}
use Rattle.py_heap.specs.Reaching.{held_refs, Reach, named, held}
use Rattle.py_machine.specs.Runs.{Name}
use Rattle.py_laws.proofs.Partners.{none_in, first_in, later_in}
use Rattle.linked_parts.specs.Parts.{HasNone}
use Rattle.run_graph.proofs.Lists.{cons_cases}
use Rattle.checkpoint_reader.proofs.PartNames.{identifier-utf8}
use Rattle.checkpoint_bytes.specs.Texts.{lists}
use Rattle.checkpoint_laws.specs.Spelled.{IsName}

pub by_places : {A : Type 0} (P : A → Type 0) (xs : List A) → ((k : ℕ) (x : A) → slice_get xs k ≡ Some x → P x) → AllByRecursion P xs
by_places P [] h = tt
by_places P (x ∷ xs) h = (h 0 x refl, by_places P xs (λ k y e. h (suc k) y e))

pub of_contained : {A : Type 0} (P : A → Type 0) (xs : List A) → ((x : A) → Contains xs x → P x) → AllByRecursion P xs
of_contained P [] h = tt
of_contained P (x ∷ xs) h = (h x (first_in x xs), of_contained P xs (λ y c. h y (later_in x xs y c)))

pub at_position : {A : Type 0} (P : A → Type 0) (xs : List A) → All P xs → (k : ℕ) (x : A) → slice_get xs k ≡ Some x → P x
at_position P xs h k x e = subst P (get_or_from_slice_get xs k x x e) (h k x (slice_get_within xs k x e))

pub listed : (ns : List ℕ) (n : ℕ) → Contains ns n → lists ns n ≡ true
listed [] n c = absurd (none_in n c)
listed (m ∷ ns) n c = elim (cons_cases m ns n c) [
  | inl e ↦ rw (eq-eqb m n e) refl
  | inr k ↦ elim (cases_Bool (m == n)) [ inl t ↦ rw t refl | inr f ↦ rw f (listed ns n k) ]
]

pub none_reached : (s : State) (names : List Name) → ((x : Name) → Contains names x → HasNone s x) → (at : ℕ) → Reach s names at → ⊥
none_reached s names none _ (named x at c k) = none_in at (subst (λ o. Contains (held_refs value_refs o) at) (none x c) k)
none_reached s names none _ (held from at r k) = none_reached s names none from r

pub name_of_identifier : (name : Name) → is_identifier name ≡ true → IsName name
name_of_identifier name e = (
  is_utf8-from_IsUtf8 name (identifier-utf8 name e),
  let l : length name ≤ 255 = leb-true (length name) 255 (and_parts _ _ e).1 in omega (arith, l),
)

pub identifier_of_variable : (name : Name) → is_variable name ≡ true → is_identifier name ≡ true
identifier_of_variable name e = (and_parts _ _ e).0
