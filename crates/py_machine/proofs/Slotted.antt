-- Slots by number, as a finite map from names.
use Rattle.std.proofs.Common.{◌≡◌, ℕ, Bool, true, false, cond, List, [], ◌∷◌, map, length, replicate, Option, Some, None, refl, sym, ap, subst, ◌∙◌, true≢false, get_or-set_same, get_or-set_other}
use Rattle.std.specs.Prelude.{option_map, slice_index_or, slice_set, zero, suc}
use Rattle.std.specs.Ordering.{nat_cmp}
use Rattle.std.specs.Cmp.Lexicographic.{slice_cmp, nat_list_cmp_total}
use Rattle.std.specs.FinMap as finite
use Rattle.std.specs.FinMap.{find}
use Rattle.py_heap.specs.Numbering.{Numbers, IsNumbering}
use Rattle.py_machine.specs.declared.frame.FrameSlot.{FrameSlot}
use Rattle.py_machine.specs.declared.frame.FrameSlot.TheVariants.{Empty}
use Rattle.py_machine.specs.Slots.{filled, emptied}
use Rattle.py_machine.proofs.Sets.{same, itself, from_same, names_antisymmetric}

abbrev pub Name : Type 0
Name = List ℕ

abbrev pub is_same : Name → Name → Bool
is_same = same nat_list_cmp_total names_antisymmetric

cond_map : {X Y : Type 0} (g : X → Y) (b : Bool) (x : X) (o : Option X) → cond b (Some (g x)) (option_map g o) ≡ option_map g (cond b (Some x) o)
cond_map g true x o = refl
cond_map g false x o = refl

find_map : {X Y : Type 0} (g : X → Y) (q : Name) (es : List (Name × X)) → find (slice_cmp nat_cmp) q (map (λ e. (e.0, g e.1)) es) ≡ option_map g (find (slice_cmp nat_cmp) q es)
find_map g q [] = refl
find_map g q (e ∷ es) = ap (cond (is_same q e.0) (Some (g e.1))) (find_map g q es) ∙ cond_map g (is_same q e.0) e.1 (find (slice_cmp nat_cmp) q es)

-- what the map answers after each value is replaced
pub get_mapped : {X Y : Type 0} (g : X → Y) (m : finite.FinMap (slice_cmp nat_cmp) X) (q : Name)
    → finite.get (finite.from_entries {R = slice_cmp nat_cmp} (map (λ e. (e.0, g e.1)) (finite.entries m))) q ≡ option_map g (finite.get m q)
get_mapped g m q = finite.get-from_entries nat_list_cmp_total (map (λ e. (e.0, g e.1)) (finite.entries m)) q ∙ find_map g q (finite.entries m) ∙ ap (option_map g) (sym (finite.get-entries m q))

abbrev at_number : List FrameSlot → ℕ → FrameSlot
at_number slots i = slice_index_or slots i Empty

-- ---- all of them empty

all_empty : (n i : ℕ) → at_number (replicate n Empty) i ≡ Empty
all_empty zero i = refl
all_empty (suc n) zero = refl
all_empty (suc n) (suc i) = all_empty n i

pub filled_empty : (m : Numbers) (n : ℕ) → filled m (replicate n Empty) ≡ emptied m
filled_empty m n = λ i. finite.from_entries (map (λ e. (e.0, all_empty n e.1 i)) (finite.entries m))

-- ---- a look

pub look_some : (m : Numbers) (slots : List FrameSlot) (q : Name) (i : ℕ) → finite.get m q ≡ Some i → Some (at_number slots i) ≡ finite.get (filled m slots) q
look_some m slots q i e = sym (get_mapped (at_number slots) m q ∙ ap (option_map (at_number slots)) e)

pub look_none : (m : Numbers) (slots : List FrameSlot) (q : Name) → finite.get m q ≡ None → finite.get (filled m slots) q ≡ None
look_none m slots q e = get_mapped (at_number slots) m q ∙ ap (option_map (at_number slots)) e

-- ---- a change

changed_by : (m : Numbers) (slots : List FrameSlot) (name : Name) (i : ℕ) (new : FrameSlot) → IsNumbering m (length slots) → finite.get m name ≡ Some i
    → (q : Name) (b : Bool) → is_same q name ≡ b → (o : Option ℕ) → finite.get m q ≡ o
    → option_map (at_number (slice_set slots i new)) o ≡ cond b (Some new) (option_map (at_number slots) o)
changed_by m slots name i new h at q true p o e =
    subst (λ u. option_map (at_number (slice_set slots i new)) u ≡ Some new)
    (sym at ∙ ap (finite.get m) (sym (from_same nat_list_cmp_total names_antisymmetric q name p)) ∙ e)
    (ap (λ x. Some x) (get_or-set_same slots i new Empty (h.below name i at)))
changed_by m slots name i new h at q false p None e = refl
changed_by m slots name i new h at q false p (Some j) e =
    ap (λ x. Some x) (get_or-set_other slots i j new Empty (λ k. true≢false (sym (subst (λ z. is_same z name ≡ true) (h.apart name q i at (e ∙ ap (λ x. Some x) k)) (itself nat_list_cmp_total names_antisymmetric name)) ∙ p)))

pub changed : (m : Numbers) (slots : List FrameSlot) (name : Name) (i : ℕ) (new : FrameSlot) → IsNumbering m (length slots) → finite.get m name ≡ Some i
    → filled m (slice_set slots i new) ≡ finite.insert (filled m slots) name new
changed m slots name i new h at = finite.same_map nat_list_cmp_total names_antisymmetric (filled m (slice_set slots i new)) (finite.insert (filled m slots) name new) λ q.
    get_mapped (at_number (slice_set slots i new)) m q
    ∙ changed_by m slots name i new h at q (is_same q name) refl (finite.get m q) refl
    ∙ sym (finite.get-insert nat_list_cmp_total (filled m slots) name new q ∙ ap (cond (is_same q name) (Some new)) (get_mapped (at_number slots) m q))
