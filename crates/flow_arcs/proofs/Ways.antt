-- The steps of a sender keep what it holds.
use Rattle.std.proofs.Common.{◌≡◌, ◌≢◌, ◌⊎◌, ℕ, zero, suc, ◌+◌, ◌-◌, ◌*◌, ◌^◌, ◌<◌, ◌≤◌, cond, ◌==◌, Bool, true, false, List, [], ◌∷◌, length, get_or, set, refl, sym, ap, ◌∙◌, subst, arith, inl, inr}
use Rattle.std.proofs.lemmas.Bool.{cases_eq, ne_eqb}
use Rattle.std.proofs.lemmas.List.{get_or-set_same, get_or-set_other, get_or_read, length-set}
use Rattle.std.specs.List.{AllByRecursion}
use Rattle.flow_model.specs.declared.Arc.{Arc}
use Rattle.flow_model.specs.Flows.{Net, Joins, IsNet, IsLegal, value}
use Rattle.flow_model.proofs.Cuts.{taken-source}
use Rattle.flow_arcs.specs.declared.send.Stop.{Stop}
use Rattle.flow_arcs.specs.Arcs.{no_arc}
use Rattle.flow_arcs.specs.Pairs.{tails, heads, IsPaired, carried, pushed}
use Rattle.flow_arcs.specs.Ways.{LeavesEach, IsLinks, IsWay, owed, IsSending, IsCarried}
use Rattle.flow_arcs.proofs.Partners.{pairs_length, pushed_paired, pushed_other, pushed_moves, carried_within, both_arcs}

-- the directed arcs enter nodes
pub heads_below : (nodes : ℕ) (arcs : List Arc) → AllByRecursion (Joins nodes) arcs → (e : ℕ) → e < length (heads arcs) → get_or (heads arcs) e 0 < nodes
heads_below nodes [] j e h = absurd (omega arith)
heads_below nodes (arc ∷ arcs) j zero h = j.0.to
heads_below nodes (arc ∷ arcs) j (suc zero) h = j.0.from
heads_below nodes (arc ∷ arcs) j (suc (suc e)) h = heads_below nodes arcs j.1 e (omega arith)

pub tails_below : (nodes : ℕ) (arcs : List Arc) → AllByRecursion (Joins nodes) arcs → (e : ℕ) → e < length (heads arcs) → get_or (tails arcs) e 0 < nodes
tails_below nodes [] j e h = absurd (omega arith)
tails_below nodes (arc ∷ arcs) j zero h = j.0.from
tails_below nodes (arc ∷ arcs) j (suc zero) h = j.0.to
tails_below nodes (arc ∷ arcs) j (suc (suc e)) h = tails_below nodes arcs j.1 e (omega arith)

-- a push along an arc from a node of no lower level keeps the way
pub way_pushed : (arcs : List Arc) (rest level : List ℕ) (stop : Stop) (more : List Stop) (e amount : ℕ)
    → get_or level stop.node 0 ≤ get_or level (get_or (tails arcs) e 0) 0 → IsWay arcs rest level stop more → IsWay arcs (pushed rest e amount) level stop more
way_pushed arcs rest level stop [] e amount l h = h
way_pushed arcs rest level stop (before ∷ more) e amount l h =
    let w = h.0.higher in
    let f = h.0.fits in
    let o = pushed_other rest e amount stop.arc (λ q.
    let a : get_or (tails arcs) e 0 ≡ before.node = subst (λ d. get_or (tails arcs) d 0 ≡ before.node) q h.0.begins in
    let b = ap (λ n. get_or level n 0) a in omega arith) in (
      record {
        numbered = h.0.numbered;
        begins = h.0.begins;
        arrives = h.0.arrives;
        fits = omega arith;
        asked = h.0.asked;
        higher = h.0.higher;
      },
      way_pushed arcs rest level before more e amount (omega arith) h.1,
    )

-- another level of a node of a higher level keeps the way
pub way_levelled : (arcs : List Arc) (rest level : List ℕ) (stop : Stop) (more : List Stop) (node mark : ℕ)
    → get_or level stop.node 0 < get_or level node 0 → IsWay arcs rest level stop more → IsWay arcs rest (set level node mark) stop more
way_levelled arcs rest level stop [] node mark l h = h
way_levelled arcs rest level stop (before ∷ more) node mark l h =
    let w = h.0.higher in
    let a = get_or-set_other level node stop.node mark 0 (λ q. let b = ap (λ n. get_or level n 0) q in omega arith) in
    let c = get_or-set_other level node before.node mark 0 (λ q. let b = ap (λ n. get_or level n 0) q in omega arith) in (
      record {
        numbered = h.0.numbered;
        begins = h.0.begins;
        arrives = h.0.arrives;
        fits = h.0.fits;
        asked = h.0.asked;
        higher = omega arith;
      },
      way_levelled arcs rest level before more node mark (omega arith) h.1,
    )

-- what a stop asks and sent fits 64 bits
pub way_fits : (arcs : List Arc) (rest level : List ℕ) (stop : Stop) (more : List Stop) → IsWay arcs rest level stop more → stop.need + stop.got < 2 ^ 64
way_fits arcs rest level stop [] h = h.1
way_fits arcs rest level stop (before ∷ more) h = let r = way_fits arcs rest level before more h.1 in let a = h.0.asked in omega arith

-- a stop that sent on some of what it asks
abbrev pub sent : Stop → ℕ → Stop
sent stop amount = record { node = stop.node; arc = stop.arc; need = stop.need - amount; got = stop.got + amount }

way_sent : (arcs : List Arc) (rest level : List ℕ) (stop : Stop) (more : List Stop) (amount : ℕ) → amount ≤ stop.need → IsWay arcs rest level stop more → IsWay arcs rest level (sent stop amount) more
way_sent arcs rest level stop [] amount l h = (h.0, let r = h.1 in omega arith)
way_sent arcs rest level stop (before ∷ more) amount l h = (
  record {
    numbered = h.0.numbered;
    begins = h.0.begins;
    arrives = h.0.arrives;
    fits = let f = h.0.fits in omega arith;
    asked = let f = h.0.asked in omega arith;
    higher = h.0.higher;
  },
  h.1,
)

cond_none : (b : Bool) → ◌≡◌ {A = ℕ} (cond b 0 0) 0
cond_none true = refl
cond_none false = refl

deliver_sums : (b : Bool) (g g' t t' x f o : ℕ) → g' + t + 0 ≡ g + t' + cond b f 0 → g' + t + (cond b x 0 + o) ≡ g + t' + (cond b (x + f) 0 + o)
deliver_sums true g g' t t' x f o h = omega arith
deliver_sums false g g' t t' x f o h = omega arith

leave_sums : (b c : Bool) (g g' t t' x f o : ℕ) → g' + t + cond c f 0 ≡ g + t' + cond b f 0 → g' + t + (cond c f 0 + (cond b x 0 + o)) ≡ g + t' + (cond b (x + f) 0 + o)
leave_sums true true g g' t t' x f o h = omega arith
leave_sums true false g g' t t' x f o h = omega arith
leave_sums false true g g' t t' x f o h = omega arith
leave_sums false false g g' t t' x f o h = omega arith

-- an amount goes from the last stop to the sink
pub delivered : (net : Net) (rest level turn : List ℕ) (stop : Stop) (more : List Stop) (e amount : ℕ) → IsSending net rest level turn stop more → e < length (heads net.arcs)
    → get_or (tails net.arcs) e 0 ≡ stop.node → amount ≤ get_or rest e 0 → amount ≤ stop.need
    → IsSending net (pushed rest e amount) level turn (sent stop amount) more
delivered net rest level turn stop more e amount h k t f a = record {
  paired = pushed_paired net.arcs rest e amount h.paired f;
  levels = h.levels;
  turns = h.turns;
  leaves = h.leaves;
  way = way_sent net.arcs (pushed rest e amount) level stop more amount a (way_pushed net.arcs rest level stop more e amount (let q = ap (λ n. get_or level n 0) t in omega arith) h.way);
}

pub delivered_carries : (net : Net) (rest level turn : List ℕ) (stop : Stop) (more : List Stop) (e amount : ℕ) → IsSending net rest level turn stop more → e < length (heads net.arcs)
    → get_or (tails net.arcs) e 0 ≡ stop.node → get_or (heads net.arcs) e 0 ≡ 1 → amount ≤ get_or rest e 0
    → IsCarried net.arcs rest (pushed rest e amount) (stop ∷ more) (sent stop amount ∷ more)
delivered_carries net rest level turn stop more e amount h k t i f = λ node ne.
    let l = pairs_length net.arcs rest h.paired in
    let m = pushed_moves net.arcs rest e amount node h.paired (omega arith) f in
    let n = rw (i, t, ne_eqb 1 node (λ q. ne (sym q))) at m in
    deliver_sums (stop.node == node) _ _ _ _ stop.got amount (owed more node) n

-- the last stop is left, at its level or shut
pub left : (net : Net) (rest level level' turn : List ℕ) (stop before : Stop) (more : List Stop) (mark : ℕ) → IsSending net rest level turn stop (before ∷ more)
    → (level' ≡ level) ⊎ (level' ≡ set level stop.node mark)
    → IsSending net (pushed rest stop.arc stop.got) level' turn (sent before stop.got) more
left net rest level level' turn stop before more mark h r =
    let s = h.way.0 in
    let a = s.asked in
    let f = s.fits in
    let w = way_sent net.arcs (pushed rest stop.arc stop.got) level before more stop.got (omega arith) (way_pushed net.arcs rest level before more stop.arc stop.got (let q = ap (λ n. get_or level n 0) s.begins in omega arith) h.way.1) in
    record {
      paired = pushed_paired net.arcs rest stop.arc stop.got h.paired (omega arith);
      levels = elim r [ inl e ↦ rw e h.levels | inr e ↦ rw e (let l = length-set level stop.node mark in let k = h.levels in omega arith) ];
      turns = h.turns;
      leaves = h.leaves;
      way = elim r [ inl e ↦ rw e w | inr e ↦ rw e (way_levelled net.arcs (pushed rest stop.arc stop.got) level (sent before stop.got) more stop.node mark s.higher w) ];
    }

pub left_carries : (net : Net) (rest level turn : List ℕ) (stop before : Stop) (more : List Stop) → IsSending net rest level turn stop (before ∷ more)
    → IsCarried net.arcs rest (pushed rest stop.arc stop.got) (stop ∷ before ∷ more) (sent before stop.got ∷ more)
left_carries net rest level turn stop before more h = λ node ne.
    let s = h.way.0 in
    let f = s.fits in
    let n = s.numbered in
    let l = pairs_length net.arcs rest h.paired in
    let m = pushed_moves net.arcs rest stop.arc stop.got node h.paired (omega arith) (omega arith) in
    let q = rw (s.arrives, s.begins) at m in
    leave_sums (before.node == node) (stop.node == node) _ _ _ _ before.got stop.got (owed more node) q

-- the node of the last stop is a node
pub way_node : (net : Net) (rest level : List ℕ) (stop : Stop) (more : List Stop) → IsNet net → IsWay net.arcs rest level stop more → stop.node < net.nodes
way_node net rest level stop [] n h = let e = n.ends in let z = h.0 in omega arith
way_node net rest level stop (before ∷ more) n h = subst (λ x. x < net.nodes) h.0.arrives (heads_below net.nodes net.arcs n.joined stop.arc h.0.numbered)

-- another entry of the list of the last stop's node
pub went_on : (net : Net) (rest level turn : List ℕ) (stop : Stop) (more : List Stop) (arc position : ℕ) → IsNet net → IsSending net rest level turn stop more → get_or (tails net.arcs) arc 0 ≡ stop.node
    → ((e : ℕ) → position ≡ e + 1 → (e < length (heads net.arcs)) × (get_or (tails net.arcs) e 0 ≡ get_or (tails net.arcs) arc 0))
    → IsSending net rest level (set turn stop.node position) stop more
went_on net rest level turn stop more arc position n h t p = record {
  paired = h.paired;
  levels = h.levels;
  turns = let l = length-set turn stop.node position in let k = h.turns in omega arith;
  leaves = λ node e q. elim (cases_eq node stop.node) [
    | inl s ↦ (let b : stop.node < length turn = (let w = way_node net rest level stop more n h.way in let k = h.turns in omega arith) in
        let g = get_or-set_same turn stop.node position 0 b in
        let r = rw (s, g) at q in
        let f = p e r in
        (f.0, f.1 ∙ (t ∙ sym s)))
    | inr s ↦ h.leaves node e (sym (get_or-set_other turn stop.node node position 0 s) ∙ q)
  ];
  way = h.way;
}

pub carried_along : (arcs : List Arc) (a b c : List ℕ) (r s t : List Stop) → IsCarried arcs a b r s → IsCarried arcs b c s t → IsCarried arcs a c r t
carried_along arcs a b c r s t h k = λ node ne. let x = h node ne in let y = k node ne in omega arith

pub begins_carried : (arcs : List Arc) (rest : List ℕ) (stop : Stop) → stop.got ≡ 0 → IsCarried arcs rest rest [] (stop ∷ [])
begins_carried arcs rest stop z = λ node ne. rw z (let c = cond_none (stop.node == node) in omega arith)

-- back at the source, the flow is legal, and its value has grown by what was sent
pub sent_all : (net : Net) (old new level turn : List ℕ) (stop : Stop) → IsNet net → IsLegal net (carried old) → IsSending net new level turn stop [] → IsCarried net.arcs old new [] (stop ∷ [])
    → IsLegal net (carried new) × (value net (carried new) ≡ value net (carried old) + stop.got)
sent_all net old new level turn stop n l h c = (
  record {
    within = carried_within net.arcs new h.paired;
    balanced = λ node low high.
        let m = c node (λ e. omega arith) in
        let z : cond (stop.node == node) stop.got 0 ≡ 0 = rw (h.way.0, ne_eqb 0 node (λ e. omega arith)) in
        let b = l.balanced node low high in
        omega arith;
  },
  (let m = c 0 (λ e. omega arith) in
      let z : cond (stop.node == 0) stop.got 0 ≡ stop.got = rw h.way.0 in
      let s = taken-source net.nodes net.arcs (carried old) n.joined in
      let t = taken-source net.nodes net.arcs (carried new) n.joined in
      omega arith),
)

-- an arc of the source leaves the stop at the source
pub source_arc : (net : Net) (rest level turn : List ℕ) (stop : Stop) (before : List Stop) (a e : ℕ) → IsSending net rest level turn stop before → before ≡ [] → a < length net.arcs → e ≡ 2 * a → (get_or net.arcs a no_arc).from ≡ 0
    → (e < length (heads net.arcs)) × (get_or (tails net.arcs) e 0 ≡ stop.node)
source_arc net rest level turn stop before a e h b l q z =
    let s = subst (λ xs. IsSending net rest level turn stop xs) b h in
    let k = both_arcs net.arcs rest a e s.paired l q in
    let n = k.numbered in
    (omega arith, k.along_from ∙ (z ∙ sym s.way.0))

-- the stop at the source with which a sender begins
pub begins_sending : (net : Net) (rest level turn : List ℕ) (stop : Stop) → IsNet net → IsPaired net.arcs rest → length level ≡ net.nodes → length turn ≡ net.nodes → LeavesEach net.arcs turn
    → stop.node ≡ 0 → stop.need + stop.got < 2 ^ 64 → IsSending net rest level turn stop []
begins_sending net rest level turn stop n p r t l z f = record { paired = p; levels = r; turns = t; leaves = l; way = (z, f) }

-- the arc whose turn it is
pub turn_arc : (net : Net) (rest level turn : List ℕ) (stop : Stop) (more : List Stop) (position : ℕ) → IsNet net → IsSending net rest level turn stop more → position ≡ get_or turn stop.node position → position ≢ 0
    → (position - 1 < length (heads net.arcs)) × (get_or (tails net.arcs) (position - 1) 0 ≡ stop.node)
turn_arc net rest level turn stop more position n h r z =
    let w = way_node net rest level stop more n h.way in
    let k = h.turns in
    let g = get_or_read turn stop.node position (omega arith) r 0 in
    h.leaves stop.node (position - 1) (omega arith)

-- where a node's list goes on
pub next_arc : (net : Net) (to first next : List ℕ) (arc position : ℕ) → IsLinks net to first next → arc < length (heads net.arcs) → position ≡ get_or next arc position
    → (e : ℕ) → position ≡ e + 1 → (e < length (heads net.arcs)) × (get_or (tails net.arcs) e 0 ≡ get_or (tails net.arcs) arc 0)
next_arc net to first next arc position t k r e q =
    let l = t.nexts in
    let g = get_or_read next arc position (omega arith) r 0 in
    t.goes_on arc e (omega arith)

-- the node that an arc enters
pub enters : (net : Net) (to first next : List ℕ) (arc node : ℕ) → IsLinks net to first next → arc < length (heads net.arcs) → node ≡ get_or to arc node → get_or (heads net.arcs) arc 0 ≡ node
enters net to first next arc node t k r =
    let e : length to ≡ length (heads net.arcs) = ap length t.ends in
    rw (← t.ends) (sym (get_or_read to arc node (omega arith) r 0))
