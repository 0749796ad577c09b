use Rattle.std.proofs.Common.{◌≡◌, ◌+◌, ◌≤◌, ◌∷◌, ◌++◌, [], length, sym, ap, ◌∙◌, subst, arith}
use Rattle.std.specs.Vec.{vec_len, vec_capacity}
use Rattle.host_workers.specs.Tables.{AreNumbered}
use Rattle.host_workers.proofs.Numbering.{numbered_more, ok_gives}
use Rattle.host_workers.proofs.hosts.with_cell.Goals as goal

pub push_reserved-requires : goal.push_reserved-requires
push_reserved-requires g c =
    let room : vec_len c.reserve.new.self + 1 ≤ vec_capacity c.reserve.new.self = ok_gives c.reserve.result (vec_len c.reserve.new.self + 1 ≤ vec_capacity c.reserve.new.self) (sym c.is_err.ensures.value ∙ c.if-is_err.false) c.reserve.ensures.ok in
    omega arith

pub returns-in-Ok-clause-numbered : goal.returns-in-Ok-clause-numbered
returns-in-Ok-clause-numbered g c =
    let number : c.in-Ok.cell.1 ≡ c.args.number = ap (λ x. x.1) c.in-Ok.ensures in
    let next : length c.args.cells.items ≡ c.args.number = c.requires.next in
    subst (AreNumbered 0) (sym (c.push_reserved.ensures.items ∙ ap (λ l. l ++ c.in-Ok.cell ∷ []) c.reserve.ensures.items))
    (numbered_more 0 c.args.cells.items c.in-Ok.cell c.requires.numbered (omega arith))
