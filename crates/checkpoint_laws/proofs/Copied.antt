-- The versions that a plan copies, one after the other.
use Rattle.std.proofs.Common.{◌≡◌, ℕ, ◌+◌, ◌-◌, true, List, [], ◌∷◌, ◌++◌, length, Some, refl, sym, ap, ◌∙◌, subst, arith}
use Rattle.std.specs.Prelude.{slice_get}
use Rattle.std.proofs.lemmas.List.{append_assoc, length-append}
use Rattle.std.proofs.lemmas.Option.{slice_get-get_or}
use Rattle.std.proofs.Math.Seq.{get_or-append_seam}
use Rattle.graph_model.specs.declared.graph.Version.{Version}
use Rattle.graph_model.specs.declared.graph.Graph.{Graph}
use Rattle.graph_model.specs.declared.plan.Plan.{Plan}
use Rattle.graph_model.specs.Graphs.{VersionAt}
use Rattle.py_heap.proofs.Numbers.{contains_of_has}
use Rattle.checkpoint_bytes.specs.Texts.{lists}
use Rattle.checkpoint_laws.specs.Spelled.{EachCopied}

-- it is so of those of these versions that are copied, which are numbered from n on
abbrev pub AllCopied : Plan → (Version → Type 0) → ℕ → List Version → Type 0
AllCopied p P n [] = Unit {0}
AllCopied p P n (x ∷ xs) = (lists p.copied n ≡ true → P x) × AllCopied p P (n + 1) xs

module _ (g : Graph) where
  pub version_at : (front : List Version) (x : Version) (xs : List Version) → g.versions ≡ front ++ x ∷ xs → VersionAt g (length front + 1) x
  version_at front x xs e =
      let size : length (front ++ x ∷ xs) ≡ length front + length (x ∷ xs) = length-append front (x ∷ xs) in
      let at : length front + 1 - 1 ≡ length front = omega arith in
      let there : slice_get (front ++ x ∷ xs) (length front) ≡ Some x = slice_get-get_or (front ++ x ∷ xs) (length front) x (omega (arith, size)) ∙ ap (λ (y : Version). Some y) (get_or-append_seam front x xs x) in
      (omega arith, ap (λ (ys : List Version). slice_get ys (length front + 1 - 1)) e ∙ (ap (λ (k : ℕ). slice_get (front ++ x ∷ xs) k) at ∙ there))

module _ (g : Graph) (p : Plan) (P : Version → Type 0) (each : EachCopied g p P) where
  from_front : (xs front : List Version) → g.versions ≡ front ++ xs → (n : ℕ) → n ≡ length front + 1 → AllCopied p P n xs
  from_front [] front e n k = tt
  from_front (x ∷ xs) front e n k =
      let size : length (front ++ x ∷ []) ≡ length front + 1 = length-append front (x ∷ []) in (
        λ yes. each n x (contains_of_has p.copied n yes) (subst (λ (j : ℕ). VersionAt g j x) (sym k) (version_at g front x xs e)),
        from_front xs (front ++ x ∷ []) (e ∙ sym (append_assoc front (x ∷ []) xs)) (n + 1) (omega (arith, size, k)),
      )

  pub each_copied : AllCopied p P 1 g.versions
  each_copied = from_front g.versions [] refl 1 refl
