use Rattle.std.proofs.Common.{◌≡◌, ℕ, ◌<◌, ◌≤◌, List, length, get_or, sym, ◌∙◌, arith}
use Rattle.flow_model.specs.declared.Arc.{Arc}
use Rattle.flow_model.specs.Flows.{IsWithin}
use Rattle.flow_arcs.specs.Arcs.{no_arc}
use Rattle.flow_arcs.proofs.Sums.{within_each}
use Rattle.flow_arcs.proofs.check.check_flow.Goals as goal

-- the arcs that were looked at were all
within_seen : (arcs arcs' : List Arc) (on on' : List ℕ) (i : ℕ) → arcs ≡ arcs' → on ≡ on' → length on ≡ length arcs → length arcs ≤ i
    → ((k : ℕ) → k < i → get_or on k 0 ≤ (get_or arcs k no_arc).capacity) → IsWithin arcs' on'
within_seen arcs arcs' on on' i a o e l h = rw (← a, ← o) (within_each arcs on e (λ k q. h k (omega arith)))

pub returns-then-sums : goal.returns-then-sums
returns-then-sums c =
    let a = c.arcs-arcs.ensures.value in
    let o = c.as_slice-on.ensures in
    let t = rw o at c.sums_at-sums.ensures.taken in
    let g = rw o at c.sums_at-sums.ensures.given in
    let w = c.if-sums.true in (
      within_seen _ _ _ _ c.loop-i.i a o (omega arith) (omega arith) c.loop-i.invariant,
      (
        (omega arith, omega arith, λ e. w (t ∙ (e ∙ sym g))),
        λ m h p. p.2 (c.loop-node.invariant m p.0 h),
      ),
    )

pub returns : goal.returns
returns c =
    let a = c.arcs-arcs.ensures.value in
    let o = c.as_slice-on.ensures in
    record {
      within = within_seen _ _ _ _ c.loop-i.i a o (omega arith) (omega arith) c.loop-i.invariant;
      balanced = λ k l h. c.loop-node.invariant k l (omega arith);
    }
