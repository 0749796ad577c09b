use Rattle.std.proofs.Common.{rules, ◌≡◌, true, sym, ap, ◌∙◌}
use Rattle.py_machine.specs.Marked.{has_member}
use Rattle.py_machine.proofs.Sets.{name_there}
use Rattle.py_machine.proofs.Noted.{on_ok}
use Rattle.py_machine.proofs.notes.Notes.bind.Goals as goal

pub returns-then-is_seen_bound : goal.returns-then-is_seen_bound
returns-then-is_seen_bound c =
    let m = c.args.self.now in
    let is : has_member m.bound c.args.name.now ≡ true = search rules in
    ap (λ z. record m { bound = z }) (sym (name_there m.bound c.args.name.now is))

pub returns-then-is_bound : goal.returns-then-is_bound
returns-then-is_bound c =
    let m = c.args.self.now in
    let is : has_member m.bound c.args.name.now ≡ true = search rules in
    on_ok c.remember.result (c.remember.ensures ∙ ap (λ z. record m { bound = z }) (sym (name_there m.bound c.args.name.now is)))
