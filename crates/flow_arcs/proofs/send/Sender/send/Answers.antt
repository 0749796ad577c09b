use Rattle.std.proofs.Common.{◌≡◌, ℕ, ◌+◌, List, [], ◌∷◌, length, subst, refl, ap, arith}
use Rattle.flow_model.specs.Flows.{Net, IsNet, IsLegal, value}
use Rattle.flow_arcs.specs.declared.send.Stop.{Stop}
use Rattle.flow_arcs.specs.Pairs.{carried, IsPaired}
use Rattle.flow_arcs.specs.Ways.{IsLinks, IsSending, IsCarried}
use Rattle.flow_arcs.proofs.Ways.{begins_sending, begins_carried, source_arc, sent_all}
use Rattle.flow_arcs.proofs.send.Sender.send.Goals as goal

begun : (net : Net) (old rest level level' to first next turn : List ℕ) (stop : Stop) (before : List Stop) → IsNet net → IsPaired net.arcs old → length level ≡ net.nodes → IsLinks net to first next
    → rest ≡ old → level' ≡ level → turn ≡ first → stop ≡ record { node = 0; arc = 0; need = 18446744073709551615; got = 0 } → before ≡ []
    → IsSending net rest level' turn stop before × IsCarried net.arcs old rest [] (stop ∷ before)
begun net old rest level level' to first next turn stop before n p r t a b c d e =
    rw (a, b, c, d, e) (
      begins_sending net old level first (record { node = 0; arc = 0; need = 18446744073709551615; got = 0 }) n p r t.firsts t.leaves refl (omega arith),
      begins_carried net.arcs old (record { node = 0; arc = 0; need = 18446744073709551615; got = 0 }) refl,
    )

ended : (net : Net) (old new level turn : List ℕ) (stop : Stop) (before : List Stop) → IsNet net → IsLegal net (carried old) → IsSending net new level turn stop before → IsCarried net.arcs old new [] (stop ∷ before) → before ≡ []
    → IsLegal net (carried new) × (value net (carried new) ≡ value net (carried old) + stop.got)
ended net old new level turn stop before n l h c e =
    sent_all net old new level turn stop n l
    (subst (λ xs. IsSending net new level turn stop xs) e h)
    (subst (λ xs. IsCarried net.arcs old new [] (stop ∷ xs)) e c)

pub loop-i-init : goal.loop-i-init
loop-i-init c =
    let b = begun c.args.net.now c.args.self.now.rest.items _ c.args.self.now.level.items _ c.args.links.now.to.items c.args.links.now.first.items c.args.links.now.next.items _ _ _
    c.requires.net c.requires.paired c.requires.levels c.requires.links c.in_ok-begin.ensures.rest c.in_ok-begin.ensures.level c.in_ok-begin.ensures.turn c.in_ok-begin.ensures.last c.in_ok-begin.ensures.before in
    record { sending = b.0; carried = b.1; back = c.in_ok-begin.ensures.before }

pub send_along-requires-clause-arc : goal.send_along-requires-clause-arc
send_along-requires-clause-arc c =
    let e = ap length c.arcs-arc-items.ensures.value in
    (source_arc c.args.net.now c.loop-i.self.rest.items c.loop-i.self.level.items c.loop-i.self.turn.items c.loop-i.self.last c.loop-i.self.before c.loop-i.i _ c.loop-i.invariant.sending c.loop-i.invariant.back (omega arith) refl
    (rw c.arcs-arc-items.ensures.value at c.if-arc-eq-SOURCE.true)).0

pub send_along-requires-clause-leaves : goal.send_along-requires-clause-leaves
send_along-requires-clause-leaves c =
    let e = ap length c.arcs-arc-items.ensures.value in
    (source_arc c.args.net.now c.loop-i.self.rest.items c.loop-i.self.level.items c.loop-i.self.turn.items c.loop-i.self.last c.loop-i.self.before c.loop-i.i _ c.loop-i.invariant.sending c.loop-i.invariant.back (omega arith) refl
    (rw c.arcs-arc-items.ensures.value at c.if-arc-eq-SOURCE.true)).1

pub returns-clause-legal : goal.returns-clause-legal
returns-clause-legal c =
    (ended c.args.net.now c.args.self.now.rest.items c.loop-i.self.rest.items c.loop-i.self.level.items c.loop-i.self.turn.items c.loop-i.self.last c.loop-i.self.before
    c.requires.net c.requires.legal c.loop-i.invariant.sending c.loop-i.invariant.carried c.loop-i.invariant.back).0

pub returns-clause-value : goal.returns-clause-value
returns-clause-value c =
    let e = (ended c.args.net.now c.args.self.now.rest.items c.loop-i.self.rest.items c.loop-i.self.level.items c.loop-i.self.turn.items c.loop-i.self.last c.loop-i.self.before
    c.requires.net c.requires.legal c.loop-i.invariant.sending c.loop-i.invariant.carried c.loop-i.invariant.back).1 in
    omega arith
