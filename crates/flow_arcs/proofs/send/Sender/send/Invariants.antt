use Rattle.std.proofs.Common.{◌≡◌, [], ◌∷◌}
use Rattle.flow_arcs.specs.Ways.{IsSending, IsCarried}
use Rattle.flow_arcs.proofs.send.Sender.send.Given as goal

abbrev pub invariant-loop-i : goal.invariant-loop-i
invariant-loop-i l = record {
  sending : IsSending l.net l.self.rest.items l.self.level.items l.self.turn.items l.self.last l.self.before;
  carried : IsCarried l.net.arcs l.fn.self.rest.items l.self.rest.items [] (l.self.last ∷ l.self.before);
  back : l.self.before ≡ [];
}
