use Rattle.std.proofs.Common.{◌≡◌, ℕ, ◌^◌, ◌<◌, List, [], ◌∷◌, ◌++◌, set, ap, ◌∙◌, arith}
use Rattle.flow_model.specs.Flows.{Net, IsNet}
use Rattle.flow_arcs.specs.Searches.{IsSearch}
use Rattle.flow_arcs.proofs.Searching.{blank, search_begins}
use Rattle.flow_arcs.proofs.search.Search.new.Goals as goal

begun : (net : Net) (rest level by order order' : List ℕ) → IsNet net → net.nodes < 2 ^ 32 → level ≡ blank net.nodes → by ≡ blank net.nodes → order ≡ [] → order' ≡ order ++ 0 ∷ []
    → IsSearch net rest (set level 0 1) by order'
begun net rest level by order order' n f l b e o = rw (o, e, l, b) (search_begins net rest n f)

pub returns : goal.returns
returns c = λ rest.
    begun c.args.net.now rest _ _ _ _ c.nodes-nodes.ensures.net (let v = c.nodes-nodes.ensures.value in omega arith)
    (c.in_ok-level.ensures.items_if_clones_equal (λ y h. h) ∙ ap blank c.nodes-nodes.ensures.value)
    (c.in_ok-by.ensures.items_if_clones_equal (λ y h. h) ∙ ap blank c.nodes-nodes.ensures.value)
    c.new-order.ensures.items c.in_ok-push.ensures.items
