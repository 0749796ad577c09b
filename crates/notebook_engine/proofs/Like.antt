-- A copied version is as the part of the session.
use Rattle.std.proofs.Common.{◌≡◌, ℕ, ◌<◌, Bool, true, false, List, [], ◌∷◌, map, length, is_some, Some, None, option_map, refl, sym, ap, ◌∙◌, arith}
use Rattle.std.specs.Prelude.{Contains, nat_eq}
use Rattle.std.specs.FinMap as finite
use Rattle.std.specs.Cmp.Lexicographic.{pointwise}
use Rattle.std.proofs.lemmas.Bool.{eq-eqb, false≢true}
use Rattle.std.proofs.lemmas.Option.{same_Some}
use Rattle.py_heap.specs.declared.state.State.{State}
use Rattle.py_machine.specs.Runs.{Name}
use Rattle.py_laws.proofs.Partners.{first_in, later_in}
use Rattle.graph_model.specs.declared.graph.Version.{Version}
use Rattle.graph_model.specs.declared.graph.Graph.{Graph}
use Rattle.graph_model.specs.declared.plan.Plan.{Plan}
use Rattle.graph_model.specs.Graphs.{VersionAt, IsActive}
use Rattle.graph_model.specs.Plans.{NamesOf, IsFeasible}
use Rattle.linked_parts.specs.Parts.{HasValue, HasNone}
use Rattle.run_graph.specs.RunLists.{ListedCell}
use Rattle.run_graph.proofs.Kept.{in_part_value}
use Rattle.every_history.specs.Reading.{read}
use Rattle.part_bytes.specs.Parts.{order, number_in, numbered, held_of, part_of}
use Rattle.part_bytes.specs.Texts.{part_text}
use Rattle.checkpoint_laws.specs.SpelledParts.{HasPartText}
use Rattle.checkpoint_reader.specs.Fields.{has_no_value, is_same, is_otherwise}
use Rattle.checkpoint_laws.specs.Spelled.{EachCopied, IsLike}
use Rattle.replay_laws.specs.Restored.{HasVersions}
use Rattle.part_bytes.specs.Sizing.{holds_handle, have_values, size_of}
use Rattle.replay_laws.specs.Sessions.{StandsFor}
use Rattle.replay_laws.proofs.GoingOn.{versions_so, sizes_so}
use Rattle.replay_laws.proofs.Sizing.{handle_told, tells_alike}

same_text : (xs : List ℕ) → pointwise nat_eq xs xs ≡ true
same_text [] = refl
same_text (x ∷ xs) = rw (eq-eqb x x refl) (same_text xs)

same_texts : (xs : List (List ℕ)) → is_same xs xs ≡ true
same_texts [] = refl
same_texts (x ∷ xs) = rw (same_text x) (same_texts xs)

module _ (s : State) (number : ℕ → ℕ) where
  -- each has a value
  all_have : (names : List Name) → ((x : Name) → Contains names x → HasValue s x) → has_no_value (map (held_of s number) names) ≡ false
  all_have [] h = refl
  all_have (x ∷ xs) h =
      let v = h x (first_in x xs) in
      let here : held_of s number x ≡ Some (numbered number v.0) = ap (option_map (numbered number)) v.1 in
      rw here refl

  first_has_none : (x : Name) (xs : List Name) → HasNone s x → has_no_value (map (held_of s number) (x ∷ xs)) ≡ true
  first_has_none x xs none = let here : held_of s number x ≡ None = ap (option_map (numbered number)) none in rw here refl

none_first : (s : State) (number : ℕ → ℕ) (names : List Name) → 0 < length names → ((x : Name) → Contains names x → HasNone s x) → has_no_value (map (held_of s number) names) ≡ true
none_first s number [] l h = absurd (omega (arith, l))
none_first s number (x ∷ xs) l h = first_has_none s number x xs (h x (first_in x xs))

have_all : (s : State) (names : List Name) → ((x : Name) → Contains names x → HasValue s x) → have_values names s ≡ true
have_all s [] h = refl
have_all s (x ∷ xs) h =
    let v = h x (first_in x xs) in
    let here : is_some (finite.get s.globals x) ≡ true = ap is_some v.1 in
    rw here (have_all s xs (λ y c. h y (later_in x xs y c)))

no_truth : (b : Bool) → (b ≡ true → ⊥) → b ≡ false
no_truth true h = absurd (h refl)
no_truth false h = refl

module _ (entries : List ListedCell) (g : Graph) (s : State) (p : Plan) (stands : StandsFor read size_of entries g s) (plan : NamesOf g p) (feasible : IsFeasible g p) where
  versions : HasVersions g s
  versions = versions_so read size_of entries g s stands

  -- a copied version is active
  pub active_of : (v : ℕ) (x : Version) → Contains p.copied v → VersionAt g v x → IsActive g v x
  active_of v x c at =
      let a = plan.copied v c in
      (at, ap (λ (y : Version). y.replaced) (sym (same_Some a.0 x (sym a.1.0.1 ∙ at.1))) ∙ a.1.1)

  no_handle_in : (v : ℕ) (x : Version) → IsActive g v x → x.handle ≡ false → holds_handle x.names s ≡ false
  no_handle_in v x active h = no_truth (holds_handle x.names s) (λ t.
      false≢true (sym h ∙ (versions.handles v x active).1 ((handle_told s x.names stands.closed).0 t)))

  otherwise : (v : ℕ) (x : Version) (b : Bool) → x.absent ≡ b → IsActive g v x → x.handle ≡ false → 0 < length x.names
      → is_otherwise x (part_of s x.names) ≡ false
  otherwise v x true e active h some =
      let none : has_no_value (map (held_of s (number_in (order s x.names))) x.names) ≡ true = none_first s (number_in (order s x.names)) x.names some (λ y c. versions.are_absent v x active e y c) in
      rw (e, none) refl
  otherwise v x false e active h some =
      let number : ℕ → ℕ = number_in (order s x.names) in
      let has : (y : Name) → Contains x.names y → HasValue s y = in_part_value s x.names (versions.are_parts v x active e) in
      let all : has_no_value (map (held_of s number) x.names) ≡ false = all_have s number x.names has in
      let size : x.size ≡ length (part_text s x.names) = sizes_so read size_of entries g s stands tells_alike v x active ∙ rw (no_handle_in v x active h, have_all s x.names has) refl in
      rw (e, all, eq-eqb (length (part_text s x.names)) x.size (sym size)) refl

  pub like : EachCopied g p (λ x. HasPartText (part_of s x.names)) → EachCopied g p (IsLike s)
  like parts v x c at =
      let active = active_of v x c at in
      let h = feasible.no_handle v x c at in
      let last = otherwise v x x.absent refl active h (parts v x c at).some in
      rw (active.1, h, same_texts x.names, last) refl
