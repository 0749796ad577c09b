-- A valid part keeps a valid state valid, and so does tidying.
use Rattle.std.proofs.Common.{◌≡◌, ℕ, Bool, IsTrue, List, [], ◌∷◌, ◌++◌, map, length, Option, Some, None, ◌≤◌, Result, Ok, Err, get_or, refl, sym, ap, ◌∙◌, subst, inl, inr, arith}
use Rattle.std.specs.Prelude.{All, OnOk, slice_get}
use Rattle.std.specs.FinMap as finite
use Rattle.std.specs.List.{IsDistinct, AllZip}
use Rattle.std.proofs.lemmas.Option.{none-some, slice_get_within, get_or_from_slice_get, slice_get-get_or}
use Rattle.std.proofs.lemmas.List.Elements.{All-nil, All-cons, All-head, All-tail, All-append}
use Rattle.py_names.specs.Names.{is_variable}
use Rattle.py_tree.specs.declared.statements.Def.{Def}
use Rattle.py_value.specs.declared.key.Key.{Key}
use Rattle.py_value.specs.declared.value.Value.{Value}
use Rattle.py_value.specs.Keys.{same_key}
use Rattle.py_heap.specs.declared.heap.Object.{Object}
use Rattle.py_heap.specs.declared.heap.Object.TheVariants as object
use Rattle.py_heap.specs.declared.state.State.{State}
use Rattle.py_heap.specs.Dicts.{Pairs}
use Rattle.py_heap.specs.Valid.{IsValidObject, IsValid, IsValidBy}
use Rattle.py_machine.specs.Runs.{Name}
use Rattle.py_laws.specs.Same.{ValuesMatch, PairsMatch, ObjectsMatch, BothOrNone, Both}
use Rattle.py_laws.proofs.Members.{name_cases}
use Rattle.py_laws.proofs.Bindings.{bound_other, unbound_other}
use Rattle.part_bytes.specs.declared.part.PartValue.{PartValue}
use Rattle.replay_laws.specs.Copies.{higher_pair, higher_object, put_name, with_objects}
use Rattle.replay_laws.specs.Tidied.{AtPosition, IsTidied}
use Rattle.replay_laws.proofs.Tidying.{tidied_closed}
use Rattle.part_loader.specs.Loading.{IsWhole, IsValidPart, IsValidPartBy, put_held, loaded}
use Rattle.part_loader.proofs.Loads.{whole_loaded}

-- ---- objects at other addresses

keys_stay : (base : ℕ) (pairs : Pairs) → map (λ (pair : Key × Value). pair.0) (map (higher_pair base) pairs) ≡ map (λ (pair : Key × Value). pair.0) pairs
keys_stay base [] = refl
keys_stay base (p ∷ pairs) = ap (λ (ks : List Key). p.0 ∷ ks) (keys_stay base pairs)

module _ (IsOfKind : Def → Type 0) where
  moved_valid : (base : ℕ) (o : Object) → IsValidObject IsOfKind o → IsValidObject IsOfKind (higher_object base o)
  moved_valid base (object.List items) v = tt
  moved_valid base (object.Tuple items) v = tt
  moved_valid base (object.Dict pairs) v = subst (λ (ks : List Key). IsDistinct same_key ks) (sym (keys_stay base pairs)) v
  moved_valid base (object.Function def) v = v
  moved_valid base (object.Handle name uses) v = tt

  all_moved : (base : ℕ) (os : List Object) → All (IsValidObject IsOfKind) os → All (IsValidObject IsOfKind) (map (higher_object base) os)
  all_moved base [] v = All-nil (IsValidObject IsOfKind)
  all_moved base (o ∷ os) v = All-cons (IsValidObject IsOfKind) (higher_object base o) (map (higher_object base) os)
      (moved_valid base o (All-head (IsValidObject IsOfKind) o os v)) (all_moved base os (All-tail (IsValidObject IsOfKind) o os v))

-- ---- names

-- each name with a value is one that a program may bind
abbrev AreVariables : State → Type 0
AreVariables t = (x : Name) (v : Value) → finite.get t.globals x ≡ Some v → IsTrue (is_variable x)

put_variable : (base : ℕ) (t : State) (x : Name) (o : Option Value) → AreVariables t → IsTrue (is_variable x) → AreVariables (put_name base t x o)
put_variable base t x (Some held) named is = λ y v e. elim (name_cases y x) [
  | inl same ↦ subst (λ (z : Name). IsTrue (is_variable z)) (sym same) is
  | inr other ↦ named y v (sym (bound_other t.globals x y _ other) ∙ e)
]
put_variable base t x None named is = λ y v e. elim (name_cases y x) [
  | inl same ↦ subst (λ (z : Name). IsTrue (is_variable z)) (sym same) is
  | inr other ↦ named y v (sym (unbound_other t.globals x y other) ∙ e)
]

held_variables : (base : ℕ) (xs : List Name) (held : List (Option Value)) (t : State) → AreVariables t → All (λ x. IsTrue (is_variable x)) xs → AreVariables (put_held base xs held t)
held_variables base [] held t named all = named
held_variables base (x ∷ xs) [] t named all = named
held_variables base (x ∷ xs) (o ∷ held) t named all =
    held_variables base xs held (put_name base t x o) (put_variable base t x o named (All-head (λ y. IsTrue (is_variable y)) x xs all)) (All-tail (λ y. IsTrue (is_variable y)) x xs all)

-- names alone change
record HasBeside (t u : State) : Type 0 where
  pub heap : u.heap ≡ t.heap
  pub meter : u.meter ≡ t.meter

put_beside : (base : ℕ) (t : State) (x : Name) (o : Option Value) → HasBeside t (put_name base t x o)
put_beside base t x (Some held) = record { heap = refl; meter = refl }
put_beside base t x None = record { heap = refl; meter = refl }

held_beside : (base : ℕ) (xs : List Name) (held : List (Option Value)) (t : State) → HasBeside t (put_held base xs held t)
held_beside base [] held t = record { heap = refl; meter = refl }
held_beside base (x ∷ xs) [] t = record { heap = refl; meter = refl }
held_beside base (x ∷ xs) (o ∷ held) t =
    let first = put_beside base t x o in
    let rest = held_beside base xs held (put_name base t x o) in
    record { heap = rest.heap ∙ first.heap; meter = rest.meter ∙ first.meter }

-- ---- a part

pub loaded_valid : (IsOfKind : Def → Type 0) (p : PartValue) (t : State) → IsWhole p → IsValidPart IsOfKind p → IsValid IsOfKind t → IsValid IsOfKind (loaded p t)
loaded_valid IsOfKind p t whole part valid =
    let base : ℕ = length t.heap in
    let more : List Object = map (higher_object base) p.objects in
    let put : State = with_objects more t in
    let beside = held_beside base p.names p.values put in
    record {
      closed = (whole_loaded p t (loaded p t) refl whole valid.closed).closed;
      names = held_variables base p.names p.values put valid.names part.names;
      objects = subst (λ (os : List Object). All (IsValidObject IsOfKind) os) (sym beside.heap)
          (All-append (IsValidObject IsOfKind) t.heap more valid.objects (all_moved IsOfKind base p.objects part.objects));
      meter = subst (λ (n : ℕ). n ≤ 16777216) (sym beside.meter) valid.meter;
    }

-- whatever test functions have to pass, if there was memory
abbrev pub StaysValid : PartValue → State → State → Type 0
StaysValid p t u = (test : Def → Bool) → IsWhole p → IsValidPartBy test p → IsValidBy test t → IsValidBy test u

pub valid_if_ok : {E : Type 0} (p : PartValue) (t u : State) (result : Result (Unit {0}) E) → OnOk result (u ≡ loaded p t) → OnOk result (StaysValid p t u)
valid_if_ok p t u (Ok done) is = λ test whole part valid. subst (IsValidBy test) (sym is) (loaded_valid (λ def. IsTrue (test def)) p t whole part valid)
valid_if_ok p t u (Err e) is = tt

-- ---- objects that match

module _ (paired : ℕ → ℕ → Type 0) where
  keys_alike : (pairs others : Pairs) → AllZip (PairsMatch paired) pairs others → map (λ (pair : Key × Value). pair.0) pairs ≡ map (λ (pair : Key × Value). pair.0) others
  keys_alike [] [] z = refl
  keys_alike (p ∷ pairs) (q ∷ others) z =
      ap (λ (k : Key). k ∷ map (λ (pair : Key × Value). pair.0) pairs) z.0.0 ∙ ap (λ (ks : List Key). q.0 ∷ ks) (keys_alike pairs others z.1)
  keys_alike [] (q ∷ others) z = absurd z
  keys_alike (p ∷ pairs) [] z = absurd z

  named_too : (a b : Option Value) (held : Value) → b ≡ Some held → BothOrNone (ValuesMatch paired) a b → (v : Value) × (a ≡ Some v)
  named_too (Some v) (Some w) held e m = (v, refl)
  named_too (Some v) None held e m = absurd m
  named_too None (Some w) held e m = absurd m
  named_too None None held e m = absurd (none-some held e)

  module _ (IsOfKind : Def → Type 0) where
    match_valid : (o p : Object) → IsValidObject IsOfKind o → ObjectsMatch paired o p → IsValidObject IsOfKind p
    match_valid o (object.List items) v m = tt
    match_valid o (object.Tuple items) v m = tt
    match_valid o (object.Handle name uses) v m = tt
    match_valid (object.Dict pairs) (object.Dict others) v m = subst (λ (ks : List Key). IsDistinct same_key ks) (keys_alike pairs others m) v
    match_valid (object.List items) (object.Dict others) v m = absurd m
    match_valid (object.Tuple items) (object.Dict others) v m = absurd m
    match_valid (object.Function def) (object.Dict others) v m = absurd m
    match_valid (object.Handle name uses) (object.Dict others) v m = absurd m
    match_valid (object.Function def) (object.Function other) v m = subst IsOfKind m v
    match_valid (object.List items) (object.Function other) v m = absurd m
    match_valid (object.Tuple items) (object.Function other) v m = absurd m
    match_valid (object.Dict pairs) (object.Function other) v m = absurd m
    match_valid (object.Handle name uses) (object.Function other) v m = absurd m

    valid_there : (o : Option Object) (p : Object) → ((held : Object) → o ≡ Some held → IsValidObject IsOfKind held) → Both (ObjectsMatch paired) o (Some p) → IsValidObject IsOfKind p
    valid_there (Some o) p v m = match_valid o p (v o refl) m
    valid_there None p v m = absurd m

pub tidied_valid : (IsOfKind : Def → Type 0) (t u : State) → IsTidied t u → IsValid IsOfKind t → IsValid IsOfKind u
tidied_valid IsOfKind t u h valid =
    let Positions : ℕ → ℕ → Type 0 = AtPosition h.order in
    record {
      closed = tidied_closed t u h;
      names = λ x held e. let w = named_too Positions (finite.get t.globals x) (finite.get u.globals x) held e (h.same.names x tt) in valid.names x w.0 w.1;
      objects = λ k d l.
          let at : ℕ = get_or h.order k 0 in
          let size = h.size in
          let here : slice_get h.order k ≡ Some at = slice_get-get_or h.order k 0 (omega (arith, l, size)) in
          valid_there Positions IsOfKind (slice_get t.heap at) (get_or u.heap k d)
          (λ held e. subst (IsValidObject IsOfKind) (get_or_from_slice_get t.heap at held held e) (valid.objects at held (slice_get_within t.heap at held e)))
          (subst (λ (o : Option Object). Both (ObjectsMatch Positions) (slice_get t.heap at) o) (slice_get-get_or u.heap k d l) (h.same.objects at k here));
      meter = subst (λ (n : ℕ). n ≤ 16777216) (sym h.meter) valid.meter;
    }
