use Rattle.std.proofs.Common.{sym, ◌∙◌}
use Rattle.part_bytes.proofs.ByAddress.{none_there}
use Rattle.part_bytes.proofs.numbers.Numbers.number.Goals as goal

pub returns-in-None : goal.returns-in-None
returns-in-None c =
    let n = c.args.self.now in
    sym (none_there n.by_address c.args.at n.total (sym c.in-None.ensures.value)) ∙ n.numbered_by c.args.at
