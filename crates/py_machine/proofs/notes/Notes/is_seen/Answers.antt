use Rattle.std.proofs.Common.{rules, ◌≡◌, Some, true, ap}
use Rattle.std.specs.Prelude.{is_some}
use Rattle.std.specs.FinMap as finite
use Rattle.py_machine.proofs.Noted.{look_again}
use Rattle.py_machine.proofs.notes.Notes.is_seen.Goals as goal

pub returns : goal.returns
returns c = λ is.
    let m = c.self.inside.marks in
    let there : is_some (finite.get c.self.inside.seen c.args.name.now) ≡ true = search rules in
    rw (← c.self.view_is) (ap (λ z. record m { looked = z }) (look_again m c.self.inside.seen c.args.name.now c.self.invariant.0 there))
