use Rattle.std.proofs.Common.{◌≡◌, ℕ, ◌+◌, List, [], ◌∷◌, ◌++◌, take, Some, sym, ap, ◌∙◌}
use Rattle.std.specs.Prelude.{slice_get}
use Rattle.std.specs.List.{flat_map}
use Rattle.std.proofs.lemmas.List.{append-nil, take_more}
use Rattle.std.proofs.lemmas.Grind.{flat_map-append}
use Rattle.std.proofs.lemmas.Option.{slice_get_within, get_or_from_slice_get}
use Rattle.py_value.specs.declared.key.Key.{Key}
use Rattle.py_value.specs.declared.value.Value.{Value}
use Rattle.py_heap.specs.Dicts.{Pairs}
use Rattle.py_heap.specs.References.{value_refs, pair_refs}
use Rattle.linked_parts.proofs.references.refs_of_pairs.Goals as goal

one_more : (pairs : Pairs) (index : ℕ) (key : Key) (value : Value) → slice_get pairs index ≡ Some (key, value)
    → flat_map pair_refs (take index pairs) ++ value_refs value ≡ flat_map pair_refs (take (index + 1) pairs)
one_more pairs index key value there =
    let pair : Key × Value = (key, value) in
    let front : Pairs = take index pairs in
    let more : take (index + 1) pairs ≡ front ++ pair ∷ [] =
    take_more pairs index pair (slice_get_within pairs index pair there) ∙ ap (λ last. front ++ last ∷ []) (get_or_from_slice_get pairs index pair pair there) in
    let last : flat_map pair_refs (pair ∷ []) ≡ value_refs value = append-nil (value_refs value) in
    ap (λ (refs : List ℕ). flat_map pair_refs front ++ refs) (sym last) ∙ (sym (flat_map-append pair_refs front (pair ∷ [])) ∙ ap (flat_map pair_refs) (sym more))

pub loop-index-preserved : goal.loop-index-preserved
loop-index-preserved c = c.in_ok-push_ref.ensures ∙ (ap (λ (refs : List ℕ). refs ++ value_refs c.pair_at.result.1.now) c.loop-index.invariant
    ∙ one_more c.args.dict.now c.loop-index.index _ _ c.pair_at.ensures)
