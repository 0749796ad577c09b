use Rattle.std.proofs.Common.{Bor, List, ℕ, map, sym, ap, ◌∙◌, arith}
use Rattle.part_bytes.proofs.Tables.{mapped_with, known_stays}
use Rattle.part_bytes.proofs.table.TextTable.number.Goals as goal

pub returns-then-place-len-clause-ok : goal.returns-then-place-len-clause-ok
returns-then-place-len-clause-ok c = sym (known_stays c.args.self.now c.args.text.now (omega (arith, c.if-place-len.true, c.len.ensures, c.place-place.ensures.value)))

pub returns-clause-ok : goal.returns-clause-ok
returns-clause-ok c = rw (← c.self.view_is)
    (ap (map (λ (t : Bor (List ℕ)). t.now)) c.in_ok-insert.ensures.keys ∙ mapped_with (λ (t : Bor (List ℕ)). t.now) c.self.inside.texts.keys c.args.text)
