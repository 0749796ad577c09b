-- The arcs that carry something, by the numbers of their nodes.
use Rattle.std.proofs.Common.{◌≡◌, ℕ, zero, suc, ◌+◌, ◌-◌, ◌<◌, ◌≤◌, cond, List, [], ◌∷◌, ◌++◌, map, length, get_or, drop, Option, Some, None, refl, sym, ap, ◌∙◌, arith}
use Rattle.std.specs.Prelude.{Contains, ◌==◌, slice_get, count_by, nat_lt}
use Rattle.std.specs.List.{flat_map, AllByRecursion}
use Rattle.std.proofs.lemmas.Bool.{cond-true, cond-false, eq-eqb, ne_eqb}
use Rattle.std.proofs.lemmas.List.{append_assoc, drop_more}
use Rattle.std.proofs.lemmas.Option.{slice_get-get_or}
use Rattle.flow_model.specs.declared.Arc.{Arc}
use Rattle.graph_model.specs.declared.graph.Graph.{Graph}
use Rattle.graph_model.specs.declared.plan.Weights.{Weights}
use Rattle.graph_model.specs.declared.plan.Node.{Node}
use Rattle.graph_model.specs.declared.plan.Node.TheVariants.{Source, Sink}
use Rattle.graph_model.specs.declared.plan.Node.TheVariants as node
use Rattle.graph_model.specs.declared.plan.FlowArc.{FlowArc}
use Rattle.graph_model.specs.Faults.{IsGraph}
use Rattle.graph_model.specs.Networks.{PlanArc, cell_numbers, actives, old_writers, writer_of, copy_arc, writer_arc, read_arc, rerun_arc, network, number_of, numbered, carrying}
use Rattle.plan_model.proofs.Listing.{every-append, every-map, every-flat_map}
use Rattle.plan_model.proofs.Reading.{actives-rise, rank-below, rank-at, cell_numbers-at, old_writers-from}
use Rattle.plan_model.proofs.Cutting.{cell-number, writer-numbered}
use Rattle.flow_arcs.specs.Arcs.{no_arc}
use Rattle.cut_network.specs.Shown.{inner_node, node_of, shown}

-- a node is found by its number
abbrev IsKnown : Graph → Node → Type 0
IsKnown g n = node_of (actives g) (number_of g n) ≡ n

inner : (active : List ℕ) (n : ℕ) → 2 ≤ n → node_of active n ≡ inner_node active n
inner active n l =
    cond-false (n == 0) Source (cond (n == 1) Sink (inner_node active n)) (ne_eqb n 0 (λ e. omega arith))
    ∙ cond-false (n == 1) Sink (inner_node active n) (ne_eqb n 1 (λ e. omega arith))

abbrev at_node : ℕ → Option ℕ → Node
at_node c None = node.Cell c
at_node c (Some v) = node.Version v

known-version : (g : Graph) (v : ℕ) → Contains (actives g) v → IsKnown g (node.Version v)
known-version g v c =
    let active = actives g in
    let k = count_by (λ u. nat_lt u v) active in
    let e : 2 + k - 2 ≡ k = omega arith in
    let b = rank-below active v (actives-rise g) c in
    inner active (2 + k) (omega arith)
    ∙ ap (at_node (2 + k - 1 - length active)) (ap (slice_get active) e ∙ (slice_get-get_or active k 0 b ∙ ap (λ (n : ℕ). Some n) (rank-at active v 0 (actives-rise g) c)))

past : (xs : List ℕ) (n : ℕ) → length xs ≤ n → slice_get xs n ≡ None
past [] n l = refl
past (x ∷ xs) zero l = absurd (omega arith)
past (x ∷ xs) (suc n) l = past xs n (omega arith)

known-cell : (g : Graph) (c : ℕ) → Contains (cell_numbers g) c → IsKnown g (node.Cell c)
known-cell g c m =
    let active = actives g in
    let n = 1 + length active + c in
    let l = (cell-number g c m).0 in
    let e : n - 1 - length active ≡ c = omega arith in
    inner active n (omega arith) ∙ (ap (at_node (n - 1 - length active)) (past active (n - 2) (omega arith)) ∙ ap (λ (k : ℕ). node.Cell k) e)

abbrev IsKnownArc : Graph → PlanArc → Type 0
IsKnownArc g arc = IsKnown g arc.from × IsKnown g arc.to

known-network : (g : Graph) (w : Weights) → IsGraph g → AllByRecursion (IsKnownArc g) (network g w)
known-network g w is =
    let A = map (copy_arc g w) (actives g) in
    let B = map (writer_arc g) (actives g) in
    let C = flat_map (λ c. map (read_arc c) (old_writers g c)) (cell_numbers g) in
    let D = map (rerun_arc g w) (cell_numbers g) in
    every-append (IsKnownArc g) (A ++ B ++ C) D
    (every-append (IsKnownArc g) (A ++ B) C
    (every-append (IsKnownArc g) A B
    (every-map (IsKnownArc g) (copy_arc g w) (actives g) (λ v c. (refl, known-version g v c)))
    (every-map (IsKnownArc g) (writer_arc g) (actives g) (λ v c. (known-version g v c, known-cell g (writer_of g v) (writer-numbered g is v c)))))
    (every-flat_map (IsKnownArc g) (λ c. map (read_arc c) (old_writers g c)) (cell_numbers g) (λ c m.
    every-map (IsKnownArc g) (read_arc c) (old_writers g c) (λ d o.
    let x = cell_numbers-at g c m in (known-cell g c m, known-cell g d (old_writers-from g is c d x.0 x.1 o).0)))))
    (every-map (IsKnownArc g) (rerun_arc g w) (cell_numbers g) (λ c m. (known-cell g c m, refl)))

shown-carrying : (g : Graph) (arcs : List PlanArc) (flow : List ℕ) → AllByRecursion (IsKnownArc g) arcs → shown (actives g) (map (numbered g) arcs) flow ≡ carrying arcs flow
shown-carrying g [] flow h = refl
shown-carrying g (arc ∷ arcs) [] h = refl
shown-carrying g (arc ∷ arcs) (x ∷ flow) h =
    let rest = shown-carrying g arcs flow h.1 in
    let one : Node → Node → FlowArc = λ a b. record { from = a; to = b; flow = x } in
    let e : one (node_of (actives g) (number_of g arc.from)) (node_of (actives g) (number_of g arc.to)) ≡ one arc.from arc.to =
    ap (λ (n : Node). one n (node_of (actives g) (number_of g arc.to))) h.0.0 ∙ ap (one arc.from) h.0.1 in
    ap (λ (ys : List FlowArc). cond (x == 0) ys (one (node_of (actives g) (number_of g arc.from)) (node_of (actives g) (number_of g arc.to)) ∷ ys)) rest
    ∙ ap (λ (y : FlowArc). cond (x == 0) (carrying arcs flow) (y ∷ carrying arcs flow)) e

pub shown-network : (g : Graph) (w : Weights) → IsGraph g → (flow : List ℕ) → shown (actives g) (map (numbered g) (network g w)) flow ≡ carrying (network g w) flow
shown-network g w is flow = shown-carrying g (network g w) flow (known-network g w is)

-- a walk along the arcs

abbrev pub flow_arc : List ℕ → Arc → ℕ → FlowArc
flow_arc active arc x = record { from = node_of active arc.from; to = node_of active arc.to; flow = x }

walked : (active : List ℕ) (arcs : List Arc) (on : List ℕ) (i : ℕ) → i < length arcs → length on ≡ length arcs
    → shown active (drop i arcs) (drop i on) ≡ cond (get_or on i 0 == 0) (shown active (drop (i + 1) arcs) (drop (i + 1) on)) (flow_arc active (get_or arcs i no_arc) (get_or on i 0) ∷ shown active (drop (i + 1) arcs) (drop (i + 1) on))
walked active arcs on i l e =
    ap (λ (xs : List Arc). shown active xs (drop i on)) (drop_more arcs i no_arc l)
    ∙ ap (λ (xs : List ℕ). shown active (get_or arcs i no_arc ∷ drop (i + 1) arcs) xs) (drop_more on i 0 (omega arith))

pub walked_none : (active : List ℕ) (arcs : List Arc) (on : List ℕ) (i : ℕ) (now next all : List FlowArc) → i < length arcs → length on ≡ length arcs
    → now ++ shown active (drop i arcs) (drop i on) ≡ all → get_or on i 0 ≡ 0 → next ≡ now → next ++ shown active (drop (i + 1) arcs) (drop (i + 1) on) ≡ all
walked_none active arcs on i now next all l e h z n =
    let w = walked active arcs on i l e ∙ cond-true (get_or on i 0 == 0) _ _ (eq-eqb (get_or on i 0) 0 z) in
    ap (λ (xs : List FlowArc). xs ++ shown active (drop (i + 1) arcs) (drop (i + 1) on)) n ∙ (ap (λ (xs : List FlowArc). now ++ xs) (sym w) ∙ h)

pub walked_some : (active : List ℕ) (arcs : List Arc) (on : List ℕ) (i : ℕ) (now next all : List FlowArc) (from to : Node) → i < length arcs → length on ≡ length arcs
    → now ++ shown active (drop i arcs) (drop i on) ≡ all → (get_or on i 0 ≡ 0 → ⊥) → from ≡ node_of active (get_or arcs i no_arc).from → to ≡ node_of active (get_or arcs i no_arc).to
    → next ≡ now ++ record { from = from; to = to; flow = get_or on i 0 } ∷ [] → next ++ shown active (drop (i + 1) arcs) (drop (i + 1) on) ≡ all
walked_some active arcs on i now next all from to l e h z a b n =
    let rest = shown active (drop (i + 1) arcs) (drop (i + 1) on) in
    let one : Node → Node → FlowArc = λ p q. record { from = p; to = q; flow = get_or on i 0 } in
    let w = walked active arcs on i l e ∙ cond-false (get_or on i 0 == 0) _ _ (ne_eqb (get_or on i 0) 0 z) in
    let r : one from to ≡ flow_arc active (get_or arcs i no_arc) (get_or on i 0) = ap (λ (p : Node). one p to) a ∙ ap (one (node_of active (get_or arcs i no_arc).from)) b in
    ap (λ (xs : List FlowArc). xs ++ rest) n ∙ (append_assoc now (one from to ∷ []) rest ∙ (ap (λ (y : FlowArc). now ++ y ∷ rest) r ∙ (ap (λ (xs : List FlowArc). now ++ xs) (sym w) ∙ h)))
