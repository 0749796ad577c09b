-- Adding arcs to a network, one after another.
use Rattle.std.proofs.Common.{◌≡◌, ℕ, ◌+◌, ◌<◌, ◌≤◌, List, [], ◌∷◌, ◌++◌, map, length, get_or, take, refl, sym, ap, ◌∙◌, subst, arith}
use Rattle.std.specs.Prelude.{Contains, count_by, nat_lt}
use Rattle.std.specs.List.{flat_map}
use Rattle.std.proofs.lemmas.List.{append_assoc, map_push, map-append, take_more, flat_map_more}
use Rattle.std.proofs.lemmas.List.Elements.{Contains-get_or}
use Rattle.flow_model.specs.declared.Arc.{Arc}
use Rattle.flow_model.specs.Flows.{Net}
use Rattle.graph_model.specs.declared.graph.Graph.{Graph}
use Rattle.graph_model.specs.declared.graph.CellRecord.{CellRecord}
use Rattle.graph_model.specs.declared.plan.Weights.{Weights}
use Rattle.graph_model.specs.Faults.{IsGraph}
use Rattle.graph_model.specs.Graphs.{CellAt}
use Rattle.graph_model.specs.Networks.{unbounded, PlanArc, cell_numbers, actives, old_writers, writer_of, copy_capacity, rerun_capacity, copy_arc, writer_arc, read_arc, rerun_arc, network, number_of, numbered, net_of}
use Rattle.graph_model.specs.declared.plan.Node.TheVariants as node
use Rattle.plan_model.proofs.Listing.{count_up-to}
use Rattle.plan_model.proofs.Reading.{actives-rise, old_writers-from}
use Rattle.plan_model.proofs.Cutting.{writer-numbered}
use Rattle.cut_network.proofs.Rising.{rank-of}
use Rattle.cut_network.specs.Arcs.{more, node_count, copy_numbers, writer_numbers, read_numbers, reads_numbers, rerun_numbers}

pub more-more : (net : Net) (xs ys : List Arc) → more (more net xs) ys ≡ more net (xs ++ ys)
more-more net xs ys = ap (λ (zs : List Arc). record net { arcs = zs }) (append_assoc net.arcs xs ys)

-- one arc more, for one number more
pub added : (F : ℕ → Arc) (net now new : Net) (xs ys : List ℕ) (x : ℕ) (arc : Arc) → ys ≡ xs ++ x ∷ [] → now ≡ more net (map F xs)
    → new ≡ more now (arc ∷ []) → arc ≡ F x → new ≡ more net (map F ys)
added F net now new xs ys x arc s n e a =
    e ∙ (ap (λ (m : Net). more m (arc ∷ [])) n ∙ (more-more net (map F xs) (arc ∷ [])
    ∙ ap (more net) (ap (λ (r : Arc). map F xs ++ r ∷ []) a ∙ (sym (map_push F xs x) ∙ ap (map F) (sym s)))))

-- the same along a list
pub added_at : (F : ℕ → Arc) (net now new : Net) (xs : List ℕ) (i : ℕ) (arc : Arc) → i < length xs → now ≡ more net (map F (take i xs))
    → new ≡ more now (arc ∷ []) → arc ≡ F (get_or xs i 0) → new ≡ more net (map F (take (i + 1) xs))
added_at F net now new xs i arc l n e a = added F net now new (take i xs) (take (i + 1) xs) (get_or xs i 0) arc (take_more xs i 0 l) n e a

-- some arcs more, for one number more
pub added_some : (F : ℕ → List Arc) (net now new : Net) (xs ys : List ℕ) (x : ℕ) → ys ≡ xs ++ x ∷ [] → now ≡ more net (flat_map F xs)
    → new ≡ more now (F x) → new ≡ more net (flat_map F ys)
added_some F net now new xs ys x s n e =
    e ∙ (ap (λ (m : Net). more m (F x)) n ∙ (more-more net (flat_map F xs) (F x)
    ∙ ap (more net) (flat_map_more F [] xs x ∙ ap (flat_map F) (sym s))))

-- an arc, by its three numbers

abbrev arc_of : ℕ → ℕ → ℕ → Arc
arc_of from to capacity = record { from = from; to = to; capacity = capacity }

same_arc : (a b c p q r : ℕ) → a ≡ p → b ≡ q → c ≡ r → arc_of a b c ≡ arc_of p q r
same_arc a b c p q r e f g = ap (λ (n : ℕ). arc_of n b c) e ∙ (ap (λ (n : ℕ). arc_of p n c) f ∙ ap (λ (n : ℕ). arc_of p q n) g)

-- the node of the active version at index i
pub node_at : (g : Graph) (active : List ℕ) (i : ℕ) → active ≡ actives g → i < length active → i + 2 ≡ number_of g (node.Version (get_or active i 0))
node_at g active i e l =
    let P : List ℕ → Type 0 = λ xs. i < length xs in
    let r = rank-of (actives g) i 0 (actives-rise g) (subst P e l) in
    let n : count_by (λ u. nat_lt u (get_or active i 0)) (actives g) ≡ i = ap (λ (xs : List ℕ). count_by (λ u. nat_lt u (get_or xs i 0)) (actives g)) e ∙ r in
    omega (arith, n)

pub copy_at : (g : Graph) (w : Weights) (active : List ℕ) (i r : ℕ) → active ≡ actives g → i < length active → r ≡ copy_capacity g w (get_or active i 0)
    → arc_of 0 (i + 2) r ≡ copy_numbers g w (get_or active i 0)
copy_at g w active i r e l c = same_arc 0 (i + 2) r 0 (number_of g (node.Version (get_or active i 0))) (copy_capacity g w (get_or active i 0)) refl (node_at g active i e l) c

pub writer_at : (g : Graph) (active : List ℕ) (i r : ℕ) → active ≡ actives g → i < length active → r ≡ writer_of g (get_or active i 0)
    → arc_of (i + 2) (length active + 1 + r) unbounded ≡ writer_numbers g (get_or active i 0)
writer_at g active i r e l c =
    let n = ap length e in
    same_arc (i + 2) (length active + 1 + r) unbounded (number_of g (node.Version (get_or active i 0))) (number_of g (node.Cell (writer_of g (get_or active i 0)))) unbounded
    (node_at g active i e l) (omega (arith, n, c)) refl

-- the writer of an active version is a cell
pub writer_low : (g : Graph) → IsGraph g → (active : List ℕ) (i : ℕ) → active ≡ actives g → i < length active → writer_of g (get_or active i 0) ≤ length g.cells
writer_low g is active i e l =
    let P : List ℕ → Type 0 = λ xs. Contains xs (get_or active i 0) in
    let c = count_up-to 1 (length g.cells) (writer_of g (get_or active i 0)) (writer-numbered g is (get_or active i 0) (subst P e (Contains-get_or active i 0 l))) in
    omega arith

pub read_at : (g : Graph) (cells c d : ℕ) → cells ≡ 1 + length (actives g) → arc_of (cells + c) (cells + d) unbounded ≡ read_numbers g c d
read_at g cells c d e = same_arc (cells + c) (cells + d) unbounded (number_of g (node.Cell c)) (number_of g (node.Cell d)) unbounded (omega (arith, e)) (omega (arith, e)) refl

-- the old writers of a cell are cells
pub old_writer_low : (g : Graph) → IsGraph g → (c : ℕ) (x : CellRecord) → CellAt g c x → (writers : List ℕ) (i : ℕ) → writers ≡ old_writers g c → i < length writers → get_or writers i 0 ≤ length g.cells
old_writer_low g is c x at writers i e l =
    let P : List ℕ → Type 0 = λ xs. Contains xs (get_or writers i 0) in
    let h = count_up-to 1 (length g.cells) (get_or writers i 0) (old_writers-from g is c (get_or writers i 0) x at (subst P e (Contains-get_or writers i 0 l))).0 in
    omega arith

pub rerun_at : (g : Graph) (w : Weights) (cells c r : ℕ) → cells ≡ 1 + length (actives g) → r ≡ rerun_capacity g w c → arc_of (cells + c) 1 r ≡ rerun_numbers g w c
rerun_at g w cells c r e h = same_arc (cells + c) 1 r (number_of g (node.Cell c)) 1 (rerun_capacity g w c) (omega (arith, e)) refl h

-- the whole

numbers-map : (g : Graph) (f : ℕ → PlanArc) (xs : List ℕ) → map (numbered g) (map f xs) ≡ map (λ x. numbered g (f x)) xs
numbers-map g f [] = refl
numbers-map g f (x ∷ xs) = ap (λ (arcs : List Arc). numbered g (f x) ∷ arcs) (numbers-map g f xs)

numbers-flat_map : (g : Graph) (f : ℕ → ℕ → PlanArc) (h : ℕ → List ℕ) (xs : List ℕ)
    → map (numbered g) (flat_map (λ c. map (f c) (h c)) xs) ≡ flat_map (λ c. map (λ d. numbered g (f c d)) (h c)) xs
numbers-flat_map g f h [] = refl
numbers-flat_map g f h (x ∷ xs) =
    map-append (numbered g) (map (f x) (h x)) (flat_map (λ c. map (f c) (h c)) xs)
    ∙ (ap (λ (arcs : List Arc). arcs ++ map (numbered g) (flat_map (λ c. map (f c) (h c)) xs)) (numbers-map g (f x) (h x))
    ∙ ap (λ (arcs : List Arc). map (λ d. numbered g (f x d)) (h x) ++ arcs) (numbers-flat_map g f h xs))

abbrev pub all_numbers : Graph → Weights → List Arc
all_numbers g w = ((map (copy_numbers g w) (actives g) ++ map (writer_numbers g) (actives g)) ++ flat_map (reads_numbers g) (cell_numbers g)) ++ map (rerun_numbers g w) (cell_numbers g)

pub network-numbers : (g : Graph) (w : Weights) → map (numbered g) (network g w) ≡ all_numbers g w
network-numbers g w =
    let N : List PlanArc → List Arc = map (numbered g) in
    let A = map (copy_arc g w) (actives g) in
    let B = map (writer_arc g) (actives g) in
    let C = flat_map (λ c. map (read_arc c) (old_writers g c)) (cell_numbers g) in
    let D = map (rerun_arc g w) (cell_numbers g) in
    let a = numbers-map g (copy_arc g w) (actives g) in
    let b = numbers-map g (writer_arc g) (actives g) in
    let c = numbers-flat_map g read_arc (old_writers g) (cell_numbers g) in
    let d = numbers-map g (rerun_arc g w) (cell_numbers g) in
    map-append (numbered g) (A ++ B ++ C) D
    ∙ (ap (λ (arcs : List Arc). arcs ++ N D) (map-append (numbered g) (A ++ B) C)
    ∙ (ap (λ (arcs : List Arc). arcs ++ N C ++ N D) (map-append (numbered g) A B)
    ∙ (ap (λ (arcs : List Arc). arcs ++ N B ++ N C ++ N D) a
    ∙ (ap (λ (arcs : List Arc). map (copy_numbers g w) (actives g) ++ arcs ++ N C ++ N D) b
    ∙ (ap (λ (arcs : List Arc). (map (copy_numbers g w) (actives g) ++ map (writer_numbers g) (actives g)) ++ arcs ++ N D) c
    ∙ ap (λ (arcs : List Arc). ((map (copy_numbers g w) (actives g) ++ map (writer_numbers g) (actives g)) ++ flat_map (reads_numbers g) (cell_numbers g)) ++ arcs) d)))))

-- the four segments, one after the other, are the network
pub built : (g : Graph) (w : Weights) (n : ℕ) (net one two three four : Net) → n ≡ node_count g → net ≡ record { nodes = n; arcs = [] }
    → one ≡ more net (map (copy_numbers g w) (actives g)) → two ≡ more one (map (writer_numbers g) (actives g))
    → three ≡ more two (flat_map (reads_numbers g) (cell_numbers g)) → four ≡ more three (map (rerun_numbers g w) (cell_numbers g)) → four ≡ net_of g w
built g w n net one two three four e z a b c d =
    let A = map (copy_numbers g w) (actives g) in
    let B = map (writer_numbers g) (actives g) in
    let C = flat_map (reads_numbers g) (cell_numbers g) in
    let D = map (rerun_numbers g w) (cell_numbers g) in
    let none : Net = record { nodes = n; arcs = [] } in
    d ∙ (ap (λ (m : Net). more m D) (c ∙ (ap (λ (m : Net). more m C) (b ∙ (ap (λ (m : Net). more m B) (a ∙ ap (λ (m : Net). more m A) z)
    ∙ more-more none A B)) ∙ more-more none (A ++ B) C))
    ∙ (more-more none (A ++ B ++ C) D
    ∙ (ap (λ (m : ℕ). let r : Net = record { nodes = m; arcs = all_numbers g w } in r) e
    ∙ ap (λ (arcs : List Arc). let r : Net = record { nodes = node_count g; arcs = arcs } in r) (sym (network-numbers g w)))))
