use Rattle.std.proofs.Common.{◌≡◌, ℕ, Bool, List, get_or}
use Rattle.flow_model.specs.Flows.{Net, IsNet, IsLegal, IsGreatest, value, cut_capacity}
use Rattle.flow_arcs.specs.Pairs.{carried, IsPaired}
use Rattle.flow_arcs.specs.Sides.{side}
use Rattle.flow_arcs.specs.Searches.{IsSearch, IsClosed}
use Rattle.flow_arcs.proofs.Solving.{reached, cut_reached, capacity_reached, greatest_from_cut}
use Rattle.flow_arcs.proofs.solve.flow_and_cut.Goals as goal

least_from : (net : Net) (rest level level' by order on on' : List ℕ) (inside inside' : List Bool) → IsNet net → IsPaired net.arcs rest → IsLegal net (carried rest) → IsSearch net rest level by order
    → get_or level 1 0 ≡ 0 → IsClosed net.arcs rest level → level' ≡ level → inside ≡ reached level' → inside' ≡ inside → on ≡ carried rest → on' ≡ on
    → cut_capacity (side inside') net.arcs ≡ value net on'
least_from net rest level level' by order on on' inside inside' n p l h u c v i j o q = rw (j, i, v, q, o) (capacity_reached net rest level by order n p l h u c)

greatest_from : (net : Net) (rest level by order on on' : List ℕ) → IsNet net → IsPaired net.arcs rest → IsLegal net (carried rest) → IsSearch net rest level by order
    → get_or level 1 0 ≡ 0 → IsClosed net.arcs rest level → on ≡ carried rest → on' ≡ on → IsGreatest net on'
greatest_from net rest level by order on on' n p l h u c o q =
    rw (q, o) (greatest_from_cut net (carried rest) (side (reached level)) n (cut_reached net rest level by order h u) (capacity_reached net rest level by order n p l h u c))

pub returns-clause-least : goal.returns-clause-least
returns-clause-least c =
    least_from c.args.net.now c.args.rest.now c.args.search.now.level.items c.deref.result.now c.args.search.now.by.items c.args.search.now.order.items c.in_ok-on.on.items c.from_vec.result
    c.in_ok-inside.inside.items c.from_vec-2.result c.requires.net c.requires.paired c.requires.legal c.requires.search c.requires.unreached c.requires.closed
    c.deref.ensures.value c.in_ok-inside.ensures c.from_vec-2.ensures c.in_ok-on.ensures c.from_vec.ensures

pub returns-clause-greatest : goal.returns-clause-greatest
returns-clause-greatest c =
    greatest_from c.args.net.now c.args.rest.now c.args.search.now.level.items c.args.search.now.by.items c.args.search.now.order.items c.in_ok-on.on.items c.from_vec.result
    c.requires.net c.requires.paired c.requires.legal c.requires.search c.requires.unreached c.requires.closed c.in_ok-on.ensures c.from_vec.ensures
