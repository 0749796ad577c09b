use Rattle.std.proofs.Common.{Bor, List, ℕ, sym, ◌∙◌}
use Rattle.part_bytes.proofs.Tables.{placed, unplaced}
use Rattle.part_bytes.proofs.table.TextTable.place.Goals as goal

pub returns-in-Some-clause-value : goal.returns-in-Some-clause-value
returns-in-Some-clause-value c = rw (← c.self.view_is) (sym (placed (λ (t : Bor (List ℕ)). t.now) c.self.inside.texts.keys c.args.text.now c.in-Some.place (sym c.in-Some.ensures.index)))

pub returns-in-None-clause-value : goal.returns-in-None-clause-value
returns-in-None-clause-value c = c.len.ensures ∙ rw (← c.self.view_is) (sym (unplaced (λ (t : Bor (List ℕ)). t.now) c.self.inside.texts.keys c.args.text.now (sym c.in-None.ensures.index)))
