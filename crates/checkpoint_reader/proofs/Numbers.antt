-- The numbers of what the plan runs again or copies ascend, and what is copied holds at the end.
use Rattle.std.proofs.Common.{◌≡◌, ℕ, zero, suc, ◌+◌, ◌-◌, ◌<◌, Bool, true, false, List, [], ◌∷◌, ◌++◌, length, Option, Some, None, refl, sym, ap, ◌∙◌, subst, inl, inr, arith}
use Rattle.std.specs.Prelude.{slice_get, not, nat_eq, Ok, All}
use Rattle.std.specs.List.{AllZip}
use Rattle.std.proofs.lemmas.Bool.{or_parts, not-false, eqb-true}
use Rattle.std.proofs.lemmas.List.{length-append}
use Rattle.std.proofs.lemmas.List.Elements.{Contains-push_cases, All-nil, All-cons, All-append}
use Rattle.graph_model.specs.declared.graph.CellRecord.{CellRecord}
use Rattle.graph_model.specs.declared.graph.Version.{Version}
use Rattle.graph_model.proofs.Ascending.{ascends-push}
use Rattle.checkpoint_bytes.specs.Sessions.{IsWithinBounds}
use Rattle.part_bytes.specs.declared.part.PartValue.{PartValue}
use Rattle.checkpoint_reader.specs.declared.forms.Texts.{Texts}
use Rattle.checkpoint_reader.specs.PartReading.{part_read2}
use Rattle.checkpoint_reader.specs.declared.fields.Cells.{Cells}
use Rattle.checkpoint_reader.specs.declared.fields.Versions.{Versions}
use Rattle.checkpoint_reader.specs.Fields.{marked, with_cell, with_version, with_copy, first_found, is_unlike}
use Rattle.checkpoint_reader.specs.Numbered.{AreNumbers, AreCells, IsEmptyIfAbsent, AreVersions, IsKeptActive, IsCopyAt}

numbers_stay : (n : ℕ) (xs : List ℕ) → AreNumbers n xs → AreNumbers (n + 1) xs
numbers_stay n xs a = record { ascend = a.ascend; within = λ m c. let p = a.within m c in (p.0, omega (arith, p.1)) }

numbers_put : (n : ℕ) (xs : List ℕ) → AreNumbers n xs → AreNumbers (n + 1) (xs ++ (n + 1) ∷ [])
numbers_put n xs a = record {
  ascend = ascends-push (λ m n. m < n) xs (n + 1) a.ascend (λ m c. omega (arith, (a.within m c).1));
  within = λ m c. elim (Contains-push_cases xs (n + 1) m c) [
    | inl old ↦ let p = a.within m old in (p.0, omega (arith, p.1))
    | inr e ↦ (omega (arith, e), omega (arith, e))
  ];
}

numbers_marked : (n : ℕ) (xs : List ℕ) (mark : Bool) → AreNumbers n xs → AreNumbers (n + 1) (marked xs (n + 1) mark)
numbers_marked n xs true a = numbers_put n xs a
numbers_marked n xs false a = numbers_stay n xs a

one_longer : {X : Type 0} (n : ℕ) (xs : List X) (x : X) → length xs ≡ n → length (xs ++ x ∷ []) ≡ n + 1
one_longer n xs x e = length-append xs (x ∷ []) ∙ ap (λ k. k + 1) e

pub cells_grow : (n : ℕ) (before : Cells) (cell : CellRecord × Bool × ℕ) → AreCells n before → IsWithinBounds cell.0 → AreCells (n + 1) (with_cell before cell)
cells_grow n before cell a within = record {
  size = one_longer n before.records cell.0 a.size;
  bounds = All-append IsWithinBounds before.records (cell.0 ∷ []) a.bounds (All-cons IsWithinBounds cell.0 [] within (All-nil IsWithinBounds));
  rerun = subst (λ k. AreNumbers (n + 1) (marked before.rerun (k + 1) cell.1)) (sym a.size) (numbers_marked n before.rerun cell.1 a.rerun);
}

-- an element keeps its index when others come after it
pub stays_at : {X : Type 0} (xs ys : List X) (i : ℕ) (x : X) → slice_get xs i ≡ Some x → slice_get (xs ++ ys) i ≡ Some x
stays_at [] ys i x e = absurd (let n = e in cc)
stays_at (y ∷ xs) ys zero x e = e
stays_at (y ∷ xs) ys (suc i) x e = stays_at xs ys i x e

pub stands_last : {X : Type 0} (xs : List X) (x : X) → slice_get (xs ++ x ∷ []) (length xs) ≡ Some x
stands_last [] x = refl
stands_last (y ∷ xs) x = stands_last xs x

active_stays : (records : List Version) (x : Version) (v : ℕ) → IsKeptActive records v → IsKeptActive (records ++ x ∷ []) v
active_stays records x v a = (a.0, stays_at records (x ∷ []) (v - 1) a.0 a.1, a.2)

-- ---- what was read for a version

module _ {A B : Type 0} (R S : A → B → Type 0) (on : (a : A) (b : B) → R a b → S a b) where
  zip_weaker : (xs : List A) (ys : List B) → AllZip R xs ys → AllZip S xs ys
  zip_weaker [] [] h = tt
  zip_weaker (x ∷ xs) (y ∷ ys) h = (on x y h.0, zip_weaker xs ys h.1)
  zip_weaker [] (y ∷ ys) h = absurd h
  zip_weaker (x ∷ xs) [] h = absurd h

zip_put : {A B : Type 0} (R : A → B → Type 0) (xs : List A) (ys : List B) (x : A) (y : B) → AllZip R xs ys → R x y → AllZip R (xs ++ x ∷ []) (ys ++ y ∷ [])
zip_put R [] [] x y h k = (k, tt)
zip_put R (a ∷ xs) (b ∷ ys) x y h k = (h.0, zip_put R xs ys x y h.1 k)
zip_put R [] (b ∷ ys) x y h k = absurd h
zip_put R (a ∷ xs) [] x y h k = absurd h

copies_stay : (records : List Version) (x : Version) (copied : List ℕ) (parts : List PartValue) → AllZip (IsCopyAt records) copied parts → AllZip (IsCopyAt (records ++ x ∷ [])) copied parts
copies_stay records x copied parts h =
    zip_weaker (IsCopyAt records) (IsCopyAt (records ++ x ∷ [])) (λ v part c. (c.0, stays_at records (x ∷ []) (v - 1) c.0 c.1, c.2)) copied parts h

empty_grow : (records : List Version) (x : Version) → All IsEmptyIfAbsent records → IsEmptyIfAbsent x → All IsEmptyIfAbsent (records ++ x ∷ [])
empty_grow records x h e = All-append IsEmptyIfAbsent records (x ∷ []) h (All-cons IsEmptyIfAbsent x [] e (All-nil IsEmptyIfAbsent))

pub versions_grow : (n : ℕ) (before : Versions) (x : Version) → AreVersions n before → IsEmptyIfAbsent x → AreVersions (n + 1) (with_version before x)
versions_grow n before x a e = record {
  size = one_longer n before.records x a.size;
  copied = numbers_stay n before.copied a.copied;
  absent = empty_grow before.records x a.absent e;
  active = λ u v c. active_stays before.records x v (a.active u v c);
  copies = λ u. copies_stay before.records x before.copied before.parts (a.copies u);
}

none_found : (o : Option ℕ) (n : ℕ) (b : Bool) → first_found o n b ≡ None → (o ≡ None) × (b ≡ false)
none_found (Some m) n b e = absurd (let n = e in cc)
none_found None n true e = absurd (let n = e in cc)
none_found None n false e = (refl, refl)

like_is_active : (x : Version) (part : PartValue) → is_unlike x part ≡ false → x.replaced ≡ 0
like_is_active x part e = eqb-true x.replaced 0 (not-false (nat_eq x.replaced 0) (or_parts (not (nat_eq x.replaced 0)) _ e).0)

copy_active : (n : ℕ) (records : List Version) (x : Version) (v : ℕ) → length records ≡ n → n + 1 ≡ v → x.replaced ≡ 0 → IsKeptActive (records ++ x ∷ []) v
copy_active n records x v size e r = let at : length records ≡ v - 1 = omega (arith, size, e) in
    (x, ap (λ (i : ℕ). slice_get (records ++ x ∷ []) i) (sym at) ∙ stands_last records x, r)

last_copy : (records : List Version) (x : Version) (part : PartValue) (texts : Texts) (known : ℕ) (front : List ℕ) (size later : ℕ) → part_read2 texts known front ≡ Ok (part, size, later)
    → is_unlike x part ≡ false → IsCopyAt (records ++ x ∷ []) (length records + 1) part
last_copy records x part texts known front size later was like =
    let at : length records + 1 - 1 ≡ length records = omega arith in
    (x, ap (slice_get (records ++ x ∷ [])) at ∙ stands_last records x, record { texts = texts; known = known; bytes = front; size = size; later = later; was_read = was; agrees = like })

pub copies_grow : (n : ℕ) (before : Versions) (x : Version) (copy : PartValue × ℕ) (texts : Texts) (known : ℕ) (front : List ℕ) (size later : ℕ) → part_read2 texts known front ≡ Ok (copy.0, size, later)
    → AreVersions n before → IsEmptyIfAbsent x → AreVersions (n + 1) (with_copy before x copy)
copies_grow n before x copy texts known front size later was a e = record {
  size = one_longer n before.records x a.size;
  absent = empty_grow before.records x a.absent e;
  copied = subst (λ k. AreNumbers (n + 1) (before.copied ++ (k + 1) ∷ [])) (sym a.size) (numbers_put n before.copied a.copied);
  active = λ u v c. let none = none_found before.unlike (length before.records + 1) (is_unlike x copy.0) u in
      elim (Contains-push_cases before.copied (length before.records + 1) v c) [
        | inl old ↦ active_stays before.records x v (a.active none.0 v old)
        | inr last ↦ copy_active n before.records x v a.size (ap (λ k. k + 1) (sym a.size) ∙ last) (like_is_active x copy.0 none.1)
      ];
  copies = λ u. let none = none_found before.unlike (length before.records + 1) (is_unlike x copy.0) u in
      zip_put (IsCopyAt (before.records ++ x ∷ [])) before.copied before.parts (length before.records + 1) copy.0 (copies_stay before.records x before.copied before.parts (a.copies none.0))
      (last_copy before.records x copy.0 texts known front size later was none.1);
}
