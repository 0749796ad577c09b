use Rattle.std.proofs.Common.{◌≡◌, ℕ, ◌+◌, ◌<◌, List, [], length, get_or, ap, sym, ◌∙◌, subst, arith}
use Rattle.std.specs.FinMap as finite
use Rattle.std.proofs.lemmas.List.{get_or_read}
use Rattle.graph_model.specs.declared.graph.Graph.{Graph}
use Rattle.graph_model.specs.Walks.{NameIndex}
use Rattle.graph_model.proofs.Indexing.{IsBegun, index_goes_on, index_ends}
use Rattle.graph_model.proofs.graph.Graph.index_names.Goals as goal

goes_on : (g : Graph) (v : ℕ) (names items : List (List ℕ)) (i : ℕ) (index index' : NameIndex) (name copy : List ℕ) → items ≡ names → i < length items → name ≡ get_or items i name → copy ≡ name → index' ≡ finite.insert index copy v
    → IsBegun g v names i index → IsBegun g v names (i + 1) index'
goes_on g v names items i index index' name copy s l r c e h =
    subst (λ m. IsBegun g v names (i + 1) m) (sym e)
    (index_goes_on g v names i index copy (c ∙ (get_or_read items i name l r [] ∙ ap (λ xs. get_or xs i []) s)) h)

pub loop-name-preserved : goal.loop-name-preserved
loop-name-preserved c =
    goes_on c.args.self.now c.args.v c.args.version.now.names c.as_slice-name-items.result.now c.loop-name.name-index c.loop-name.index c.bind.new.self c.name-item.result c.in_ok-copy.field-0
    c.as_slice-name-items.ensures c.loop-name-test.true c.name-item.is c.in_ok-copy.ensures c.in_ok-bind.ensures.ok c.loop-name.invariant

pub returns : goal.returns
returns c =
    let e = ap length c.as_slice-name-items.ensures in
    let a = c.loop-name.auto.name-index-end in
    let b = c.loop-name-test.false in
    index_ends c.args.self.now c.args.v c.args.version.now c.loop-name.name-index c.loop-name.index c.requires.version (omega arith) c.loop-name.invariant
