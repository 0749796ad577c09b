use Rattle.std.proofs.Common.{ℕ, ◌+◌, ◌<◌, ◌≤◌, ◌^◌, ◌++◌, All, List, length, sym, ap, subst, arith, length-append}
use Rattle.graph_model.specs.declared.graph.Version.{Version}
use Rattle.graph_model.specs.declared.graph.Graph.{Graph}
use Rattle.history_graph.specs.Active.{AreActive, AreNoted}
use Rattle.history_graph.specs.Grown.{AreNamesOf, count_on, AreMarked, IsGrown}
use Rattle.history_graph.proofs.Aging.{go_fits, aged_to, active_then, is_grown}
use Rattle.history_graph.proofs.active.ActiveGraph.grow.Goals as goal

pub invariant_of-self : goal.invariant_of-self
invariant_of-self c =
    subst (λ (g : Graph). (length g.versions < 2 ^ 32) × AreNoted g c.self.inside.active) (sym c.in_err-add_cell.ensures.err) c.self.invariant

pub age-requires : goal.age-requires
age-requires c =
    let g = c.self.inside.graph in
    let active = c.as_slice-2.result.now in
    let is : AreActive g active = subst (λ (ns : List ℕ). AreActive g ns) (sym c.as_slice-2.ensures) (subst (λ (k : Graph). AreActive k c.args.active) (sym c.self.view_is) c.requires.active) in
    let n : ℕ = length c.add_cell.new.graph.versions in
    subst (λ (vs : List ℕ). All (λ v. (0 < v) × (v ≤ n)) vs) (sym c.as_slice-3.ensures)
    (go_fits c.args.writer g active is c.args.news c.in_ok-fresh.fresh c.in_ok-stay.field-0.stay c.in_ok-stay.field-0.go c.in_ok-stay.ensures.stay c.in_ok-stay.ensures.go n
    (ap (λ (k : Graph). length k.versions) c.in_ok-add_cell.ensures.ok))

pub invariant_of-self-2 : goal.invariant_of-self-2
invariant_of-self-2 c =
    let g = c.self.inside.graph in
    let w = c.args.writer in
    let news = c.args.news in
    let active = c.as_slice-2.result.now in
    let is : AreActive g active = subst (λ (ns : List ℕ). AreActive g ns) (sym c.as_slice-2.ensures) (subst (λ (k : Graph). AreActive k c.args.active) (sym c.self.view_is) c.requires.active) in
    let stay = c.in_ok-stay.field-0.stay in
    let go = c.in_ok-stay.field-0.go in
    let now = c.age.new.versions in
    let marked : AreMarked w c.as_slice-3.result.now c.add_cell.new.graph.versions now = record { size = c.age.ensures.size; marked = c.age.ensures.marked; rest = c.age.ensures.rest } in
    let m : AreMarked w go (g.versions ++ news) now = subst (λ (vs : List ℕ). AreMarked w vs (g.versions ++ news) now) c.as_slice-3.ensures
    (subst (λ (k : Graph). AreMarked w c.as_slice-3.result.now k.versions now) c.in_ok-add_cell.ensures.ok marked) in
    let cells = c.add_cell.new.graph.cells in
    let K : Graph = record { cells = cells; versions = now } in
    let k : AreActive K (stay ++ count_on (length g.versions) (length news)) =
    active_then w g active is news c.in_ok-fresh.fresh stay go c.in_ok-stay.ensures.stay c.in_ok-stay.ensures.go now m c.requires.writer c.requires.news cells in
    let few : length g.versions + length news < 2 ^ 32 = subst (λ (z : Graph). length z.versions + length news < 2 ^ 32) (sym c.self.view_is) c.requires.few in
    let size = m.size in
    let sum = length-append g.versions news in (
      omega (arith, few, size, sum),
      subst (λ (ns : List ℕ). AreActive K ns) (sym c.in_ok-add_numbers.ensures)
          (subst (λ (n : ℕ). AreActive K (stay ++ count_on c.len-last.result n)) (sym c.len.ensures)
          (subst (λ (n : ℕ). AreActive K (stay ++ count_on n (length news))) (sym c.len-last.ensures) k)),
    )

pub returns-clause-ok : goal.returns-clause-ok
returns-clause-ok c =
    let g = c.self.inside.graph in
    let w = c.args.writer in
    let news = c.args.news in
    let fresh = c.in_ok-fresh.fresh in
    let active = c.as_slice-2.result.now in
    let is : AreActive g active = subst (λ (ns : List ℕ). AreActive g ns) (sym c.as_slice-2.ensures) (subst (λ (k : Graph). AreActive k c.args.active) (sym c.self.view_is) c.requires.active) in
    let stay = c.in_ok-stay.field-0.stay in
    let go = c.in_ok-stay.field-0.go in
    let now = c.age.new.versions in
    let marked : AreMarked w c.as_slice-3.result.now c.add_cell.new.graph.versions now = record { size = c.age.ensures.size; marked = c.age.ensures.marked; rest = c.age.ensures.rest } in
    let m : AreMarked w go (g.versions ++ news) now = subst (λ (vs : List ℕ). AreMarked w vs (g.versions ++ news) now) c.as_slice-3.ensures
    (subst (λ (k : Graph). AreMarked w c.as_slice-3.result.now k.versions now) c.in_ok-add_cell.ensures.ok marked) in
    let K : Graph = record { cells = c.add_cell.new.graph.cells; versions = now } in
    subst (λ (old : Graph). IsGrown w c.args.cell news old K) c.self.view_is
    (is_grown w c.args.cell news g K fresh (subst (λ (vs : List Version). AreNamesOf vs fresh) c.as_slice.ensures c.in_ok-fresh.ensures) (ap (λ (k : Graph). k.cells) c.in_ok-add_cell.ensures.ok)
    (aged_to w g active is news fresh stay go c.in_ok-stay.ensures.stay c.in_ok-stay.ensures.go now m))
