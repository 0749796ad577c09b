use Rattle.std.proofs.Common.{◌≡◌, refl, sym, ◌∙◌, Ok}
use Rattle.session_core.specs.Engines.{Packs}
use Rattle.session_core.specs.Legal.{progress_of, IsReason, CanGo, MayTry}
use Rattle.session_core.proofs.Stepping.{alive_has_no_end}
use Rattle.session_core.proofs.Going.{is_move_of, against, no_memory}
use Rattle.session_core.proofs.judging.judge.Goals as goal

pub returns-in-Ok-copy : goal.returns-in-Ok-copy
returns-in-Ok-copy g c =
    let es = c.args.journal.now.entries in
    let p = progress_of es in
    let free = c.in_default.ensures in
    let packs = c.in-Ok.ensures p.served (c.requires.stands (c.requires.dead ∙ free.0)) (alive_has_no_end es free.0) in (
      c.in-Ok-copy.ensures,
      is_move_of (λ t w. (c.aim_of-to.result.0 ≡ t) × CanGo g.E.Engine.meaning c.args.hosts p t × Packs g.E.Engine.meaning p.served w (Ok c.in-Ok.packed)) c.args.request.now.ask c.aim_of-to.result.0 c.aim_of-to.result.1
          c.aim_of-to.ensures (refl, free, packs),
    )

pub returns-in-Err-copy : goal.returns-in-Err-copy
returns-in-Err-copy g c =
    let es = c.args.journal.now.entries in
    let p = progress_of es in
    let free = c.in_default.ensures in
    let packs = c.in-Ok.ensures p.served (c.requires.stands (c.requires.dead ∙ free.0)) (alive_has_no_end es free.0) in
    is_move_of (MayTry g.E.Engine.meaning c.args.hosts p) c.args.request.now.ask c.aim_of-to.result.0 c.aim_of-to.result.1 c.aim_of-to.ensures (free, (packs.0, packs.1, packs.2))

pub returns-in-Some-reason : goal.returns-in-Some-reason
returns-in-Some-reason g c =
    let es = c.args.journal.now.entries in
    let p = progress_of es in
    let free = c.in_default.ensures in
    let packs = c.in-Err.ensures p.served (c.requires.stands (c.requires.dead ∙ free.0)) (alive_has_no_end es free.0) in
    is_move_of (λ t w. IsReason g.E.Engine.meaning c.args.hosts p t w c.in-Some-reason.reason) c.args.request.now.ask c.aim_of-to.result.0 c.aim_of-to.result.1 c.aim_of-to.ensures
    (against g.E.Engine.meaning c.args.hosts p c.aim_of-to.result.0 c.aim_of-to.result.1 c.in-Err.fault c.in-Some-reason.reason free packs (sym c.in-Some-reason.ensures))

pub returns-in-None : goal.returns-in-None
returns-in-None g c =
    let es = c.args.journal.now.entries in
    let p = progress_of es in
    let free = c.in_default.ensures in
    let packs = c.in-Err.ensures p.served (c.requires.stands (c.requires.dead ∙ free.0)) (alive_has_no_end es free.0) in
    is_move_of (MayTry g.E.Engine.meaning c.args.hosts p) c.args.request.now.ask c.aim_of-to.result.0 c.aim_of-to.result.1 c.aim_of-to.ensures
    (no_memory g.E.Engine.meaning c.args.hosts p c.aim_of-to.result.0 c.aim_of-to.result.1 c.in-Err.fault free packs (sym c.in-None.ensures))
