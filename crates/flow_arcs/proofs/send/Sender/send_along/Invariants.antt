use Rattle.std.proofs.Common.{◌∷◌, length}
use Rattle.flow_arcs.specs.Ways.{IsSending, IsCarried}
use Rattle.flow_arcs.proofs.send.Sender.send_along.Given as goal

abbrev pub invariant-steps : goal.invariant-steps
invariant-steps l = record {
  sending : IsSending l.net l.self.rest.items l.self.level.items l.self.turn.items l.self.last l.self.before;
  carried : IsCarried l.net.arcs l.fn.self.rest.items l.self.rest.items (l.fn.self.last ∷ l.fn.self.before) (l.self.last ∷ l.self.before);
}

abbrev pub invariant-back : goal.invariant-back
invariant-back l = record {
  sending : IsSending l.net l.self.rest.items l.self.level.items l.self.turn.items l.self.last l.self.before;
  carried : IsCarried l.net.arcs l.fn.self.rest.items l.self.rest.items (l.fn.self.last ∷ l.fn.self.before) (l.self.last ∷ l.self.before);
}

abbrev pub decreases-back : goal.decreases-back
decreases-back l = length l.self.before
