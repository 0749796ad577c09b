use Rattle.std.proofs.Common.{◌≡◌, ℕ, ◌+◌, ◌*◌, ◌<◌, ◌≤◌, List, [], ◌∷◌, ◌++◌, length, get_or, drop, append_assoc, sym, ap, ◌∙◌, arith}
use Rattle.std.proofs.lemmas.List.{append-nil}
use Rattle.flow_model.specs.declared.Arc.{Arc}
use Rattle.flow_arcs.specs.Pairs.{IsPaired, carried}
use Rattle.flow_arcs.proofs.Partners.{carried_at, carried_none}
use Rattle.flow_arcs.proofs.pairs.carried_flow.Goals as goal

more : (arcs : List Arc) (rest on on' : List ℕ) (i : ℕ) → IsPaired arcs rest → i < length arcs → on' ≡ on ++ get_or rest (2 * i + 1) 0 ∷ [] → on ++ carried (drop (2 * i) rest) ≡ carried rest
    → on' ++ carried (drop (2 * (i + 1)) rest) ≡ carried rest
more arcs rest on on' i h l e f =
    rw (e, append_assoc on (get_or rest (2 * i + 1) 0 ∷ []) (carried (drop (2 * (i + 1)) rest))) (ap (λ xs. on ++ xs) (sym (carried_at arcs rest i h l).1) ∙ f)

all : (arcs : List Arc) (rest on : List ℕ) (i : ℕ) → IsPaired arcs rest → length arcs ≤ i → on ++ carried (drop (2 * i) rest) ≡ carried rest → on ≡ carried rest
all arcs rest on i h l f = sym (append-nil on) ∙ (ap (λ xs. on ++ xs) (sym (carried_none arcs rest i h l)) ∙ f)

pub bounds-rest-i : goal.bounds-rest-i
bounds-rest-i c =
    let e = ap length c.arcs-i-end.ensures.value in
    let k = (carried_at c.args.net.now.arcs c.args.rest.now c.loop-i.i c.requires (omega arith)).0 in
    omega arith

pub loop-i-preserved : goal.loop-i-preserved
loop-i-preserved c =
    let e = ap length c.arcs-i-end.ensures.value in
    more c.args.net.now.arcs c.args.rest.now c.loop-i.on.items _ c.loop-i.i c.requires (omega arith) c.in_ok-push.ensures.items c.loop-i.invariant

pub returns : goal.returns
returns c =
    let e = ap length c.arcs-i-end.ensures.value in
    all c.args.net.now.arcs c.args.rest.now c.loop-i.on.items c.loop-i.i c.requires (omega arith) c.loop-i.invariant
