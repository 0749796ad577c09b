-- A part is read piece by piece.
use Rattle.std.proofs.Common.{◌≡◌, ℕ, ◌==◌, true, Bool, List, [], length, Option, Result, Ok, sym, ap, ◌∙◌, subst}
use Rattle.py_value.specs.declared.value.Value.{Value}
use Rattle.py_heap.specs.declared.heap.Object.{Object}
use Rattle.part_bytes.specs.declared.part.PartValue.{PartValue}
use Rattle.checkpoint_reader.specs.declared.part_fault.PartFault.{PartFault}
use Rattle.checkpoint_reader.specs.declared.forms.Texts.{Texts}
use Rattle.checkpoint_reader.specs.declared.spot.Spot.{Spot}
use Rattle.checkpoint_reader.specs.PartReads.{Answer, Read, pure, after, more, tells, told}
use Rattle.checkpoint_reader.specs.PartReading.{held, objects, names, values, part}
use Rattle.checkpoint_reader.proofs.PartTurns.{refused, tells_any}

abbrev pub read_names_and : List (List ℕ) → List (Option Value) → List Object → Read PartValue
read_names_and ns vs os = let whole : PartValue = record { names = ns; values = vs; objects = os } in pure whole

module _ (texts : Texts) (bytes : List ℕ) (s u v : Spot) (ns : List (List ℕ)) (vs : List (Option Value)) (n : ℕ) (alone : Bool) (first : names bytes s ≡ Ok (ns, u)) (size : n ≡ length ns) (is_alone : alone ≡ (n == 1))
    (second : more (λ before. held texts bytes alone) n [] u ≡ Ok (vs, v)) where
  abbrev Held : ℕ → Bool → Type 0
  Held k one = more (λ before. held texts bytes one) k [] u ≡ Ok (vs, v)

  -- a part whose names and values were read
  so_far : part texts bytes s ≡ after (objects texts bytes v) (λ os. read_names_and ns vs os)
  unfolding part values
  so_far =
      let last : List (List ℕ) → List (Option Value) → Read PartValue = λ xs ys t. after (objects texts bytes t) (λ os. read_names_and xs ys os) in
      let there : values texts bytes (length ns) u ≡ Ok (vs, v) = subst (λ (k : ℕ). Held k (k == 1)) size (subst (λ (one : Bool). Held n one) is_alone second) in
      ap (λ (r : Answer (List (List ℕ))). after r (λ xs t. after (values texts bytes (length xs) t) (λ ys. last xs ys))) first
      ∙ ap (λ (r : Answer (List (Option Value))). after r (λ ys. last ns ys)) there

  pub whole_read : (os : List Object) (w : Spot) → objects texts bytes v ≡ Ok (os, w) → part texts bytes s ≡ read_names_and ns vs os w
  whole_read os w third = so_far ∙ ap (λ (r : Answer (List Object)). after r (λ xs. read_names_and ns vs xs)) third

  pub objects_failed : (w : Spot) (fault : PartFault) (result : Result PartValue PartFault) → result ≡ refused PartValue fault → tells result ≡ true
      → (tells (refused (List Object) fault) ≡ true → objects texts bytes v ≡ told (refused (List Object) fault) w) → part texts bytes s ≡ told result w
  objects_failed w fault result is t fails =
      let same : tells (refused PartValue fault) ≡ true = subst (λ (r : Result PartValue PartFault). tells r ≡ true) is t in
      let e = fails (tells_any PartValue (List Object) fault same) in
      so_far ∙ (ap (λ (r : Answer (List Object)). after r (λ xs. read_names_and ns vs xs)) e ∙ ap (λ (r : Result PartValue PartFault). told r w) (sym is))
