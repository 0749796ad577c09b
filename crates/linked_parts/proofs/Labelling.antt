-- When every object that was found is open: labels and owners.
use Rattle.std.proofs.Common.{◌≡◌, ℕ, ◌<◌, ◌≤◌, List, length, slice_index, refl, sym, ap, ◌∙◌, subst, arith}
use Rattle.std.specs.Prelude.{Contains}
use Rattle.std.specs.FinMap as finite
use Rattle.std.proofs.lemmas.Option.{same_Some}
use Rattle.std.proofs.lemmas.List.{get_or_default}
use Rattle.py_heap.specs.declared.state.State.{State}
use Rattle.py_heap.specs.Reaching.{name_refs, refs_at}
use Rattle.py_heap.specs.Reaching as reaching
use Rattle.py_machine.specs.Marked.{Name}
use Rattle.linked_parts.specs.declared.search.Search.{Search}
use Rattle.linked_parts.specs.Parts.{Reaches, Linked, itself, shared, back, on}
use Rattle.linked_parts.specs.Labels.{name_count, nth_name, Joined, alone, parent, turned, chained, IsShortened, IsOwner, IsMet, IsSearch, IsLabelling, AreOwners}
use Rattle.linked_parts.proofs.Lists.{one_in}
use Rattle.linked_parts.proofs.Names.{are_names, one_position, linked_values}
use Rattle.linked_parts.proofs.Searching.{joined_linked}

-- ---- what a name reaches is met

module _ (s : State) (now : Search) (h : IsSearch s (name_count s) now) (all : length now.found ≤ now.opened) where
  met_all : (k : ℕ) → k < name_count s → (at : ℕ) → Reaches s (nth_name s k) at → IsMet now k at
  met_all k l _ (reaching.named name at c r) = h.values k at l (subst (λ z. Contains (name_refs s z) at) (sym (one_in (nth_name s k) name c)) r)
  met_all k l _ (reaching.held from at r c) =
      let m = met_all k l from r in
      let p = (h.owned from m.0 m.1).found in
      let p_in : p.0 < length now.found = p.1 in
      let there : slice_index now.found p.0 ≡ from = get_or_default now.found p.0 0 from p.1 ∙ p.2 in
      let o = h.opened p.0 m.0 at (omega (arith, p_in, all)) (subst (λ (z : ℕ). IsOwner now.owners z m.0) (sym there) m.1) (subst (λ z. Contains (refs_at s z) at) (sym there) c) in
      (o.0, o.1, chained o.0 m.0 k o.2 m.2)

  -- ---- with the root of its class as the label of each name

  module _ (labels : List ℕ) (sh : IsShortened now.classes.parents labels)
      (flat : (k : ℕ) → k < length now.classes.parents → slice_index labels (slice_index labels k) ≡ slice_index labels k) where
    size : length labels ≡ name_count s
    size = sh.size ∙ h.size

    one_label : (j k : ℕ) → Joined labels j k → slice_index labels j ≡ slice_index labels k
    one_label _ _ (alone k l) = refl
    one_label _ _ (parent k l) = sym (flat k (omega (arith, sh.size, l)))
    one_label _ _ (turned j k w) = sym (one_label j k w)
    one_label _ _ (chained i j k v w) = one_label i j v ∙ one_label j k w

    met_label : (k at : ℕ) → k < name_count s → Reaches s (nth_name s k) at → (owner : ℕ) × IsOwner now.owners at owner × (slice_index labels owner ≡ slice_index labels k)
    met_label k at l r = let m = met_all k l at r in (m.0, m.1, one_label m.0 k (sh.keeps m.0 k m.2))

    linked_label : (x y : Name) → Linked s x y → (j k : ℕ) → j < name_count s → k < name_count s → nth_name s j ≡ x → nth_name s k ≡ y → slice_index labels j ≡ slice_index labels k
    linked_label _ _ (itself x v) j k j_in k_in e f =
        ap (slice_index labels) (one_position s (finite.keys s.globals) (are_names s (finite.keys s.globals) refl) j k j_in k_in (e ∙ sym f))
    linked_label _ _ (shared x y at p q) j k j_in k_in e f =
        let a = met_label j at j_in (subst (λ z. Reaches s z at) (sym e) p) in
        let b = met_label k at k_in (subst (λ z. Reaches s z at) (sym f) q) in
        let o : a.0 ≡ b.0 = same_Some a.0 b.0 (sym a.1 ∙ b.1) in
        sym a.2 ∙ (ap (slice_index labels) o ∙ b.2)
    linked_label _ _ (back x y l) j k j_in k_in e f = sym (linked_label x y l k j k_in j_in f e)
    linked_label _ _ (on x y z l m) j k j_in k_in e f =
        let w = (are_names s (finite.keys s.globals) refl).positioned y (linked_values s x y l).1 in
        linked_label x y l j w.0 j_in w.1 e w.2 ∙ linked_label y z m w.0 k w.1 k_in w.2 f

    label_linked : (j k : ℕ) → j < name_count s → k < name_count s → slice_index labels j ≡ slice_index labels k → Linked s (nth_name s j) (nth_name s k)
    label_linked j k j_in k_in e =
        let up = λ (i : ℕ) (l : i < name_count s). sh.only i (slice_index labels i) (parent i (omega (arith, size, l))) in
        joined_linked s now.classes.parents h.size h.linked j k
        (chained j (slice_index labels j) k (up j j_in) (subst (λ z. Joined now.classes.parents z k) (sym e) (turned k (slice_index labels k) (up k k_in))))

    pub labelling : (names : List Name) → names ≡ finite.keys s.globals → IsLabelling s names labels
    labelling names is = subst (λ ns. IsLabelling s ns labels) (sym is) (record {
      size = size;
      least = λ k l. sh.forest k (omega (arith, size, l));
      heads = λ k l. flat k (omega (arith, h.size, l));
      linked = λ j k j_in k_in. (label_linked j k j_in k_in, λ l. linked_label (nth_name s j) (nth_name s k) l j k j_in k_in refl refl);
    })

    pub owners : (names : List Name) → names ≡ finite.keys s.globals → AreOwners s names labels now.owners
    owners names is = subst (λ ns. AreOwners s ns labels now.owners) (sym is) (record {
      within = λ at k e. (h.owned at k e).within;
      reaches = λ at k e. (h.owned at k e).reaches;
      fits = λ at k e. (h.owned at k e).fits;
      met = λ k at l r. met_label k at l r;
    })
