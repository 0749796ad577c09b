use Rattle.std.proofs.Common.{rules, ◌≡◌, true, false, cond, sym, ap, ◌∙◌}
use Rattle.py_machine.specs.Marked.{with_member, has_member}
use Rattle.py_machine.proofs.Sets.{name_there}
use Rattle.py_machine.proofs.Noted.{on_ok}
use Rattle.py_machine.proofs.notes.Notes.look.Goals as goal

pub returns-then-is_looked : goal.returns-then-is_looked
returns-then-is_looked c =
    let m = c.args.self.now in
    let free : has_member m.bound c.args.name.now ≡ false = search rules in
    let is : has_member m.looked c.args.name.now ≡ true = search rules in
    let same : cond (has_member m.bound c.args.name.now) m.looked (with_member m.looked c.args.name.now) ≡ m.looked =
    ap (λ b. cond b m.looked (with_member m.looked c.args.name.now)) free ∙ name_there m.looked c.args.name.now is in
    on_ok c.remember-then-is_looked.result (c.remember-then-is_looked.ensures ∙ ap (λ z. record m { looked = z }) (sym same))
