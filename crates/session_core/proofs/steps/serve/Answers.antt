use Rattle.std.proofs.Common.{◌≡◌, true, false, ◌||◌, refl, sym, ap, ◌∙◌, subst}
use Rattle.session_core.specs.declared.entry.Entry.TheVariants.{Ran, Died}
use Rattle.session_core.specs.Asks.{is_end}
use Rattle.session_core.specs.Legal.{progress_of}
use Rattle.session_core.proofs.Progressing.{progress_more}
use Rattle.session_core.proofs.Feeding.{drew_at_fault}
use Rattle.session_core.proofs.Stepping.{alive_has_no_end, cause_is}
use Rattle.session_core.proofs.steps.serve.Goals as goal

pub returns-in-Ok-clause-noted : goal.returns-in-Ok-clause-noted
returns-in-Ok-clause-noted g c = λ hosts.
    let es = c.args.journal.now.entries in
    let ran = c.in-Ok.ensures.reply (progress_of es).served c.requires.stands (alive_has_no_end es c.requires.alive) in (
      Ran c.settled_owner-host.result c.args.request c.in-Ok.done.draws c.in-Ok.done.reply,
      refl,
      ((c.requires.settled, c.requires.alive, c.settled_owner-host.ensures, c.requires.work, ran.0, ran.1), c.push.ensures.entries),
    )

pub returns-in-Ok-clause-stands : goal.returns-in-Ok-clause-stands
returns-in-Ok-clause-stands g c = λ _.
    let es = c.args.journal.now.entries in
    let now = ap progress_of c.push.ensures.entries ∙ progress_more es (Ran c.settled_owner-host.result c.args.request c.in-Ok.done.draws c.in-Ok.done.reply) in
    subst (λ z. g.E.Engine.stands_for c.run.new.self z) (ap (λ p. p.served) (sym now))
    (c.in-Ok.ensures.stands (progress_of es).served c.requires.stands (alive_has_no_end es c.requires.alive))

pub returns-in-Err-clause-noted : goal.returns-in-Err-clause-noted
returns-in-Err-clause-noted g c = λ hosts.
    let es = c.args.journal.now.entries in
    let failed = c.in-Err.ensures.reply (progress_of es).served c.requires.stands (alive_has_no_end es c.requires.alive) in (
      Died c.settled_owner-host.result c.args.request c.count-count.result c.cause-cause.result,
      refl,
      (
        (
          c.requires.settled,
          c.requires.alive,
          c.settled_owner-host.ensures,
          c.requires.work,
          c.count-count.ensures (progress_of es).served c.requires.stands,
          cause_is g.E.Engine.meaning hosts (progress_of es) c.args.request.ask c.in-Err.fault c.cause-cause.result failed c.cause-cause.ensures,
        ),
        c.push-in-Err.ensures.entries,
      ),
    )

pub returns-in-Err-clause-dead : goal.returns-in-Err-clause-dead
returns-in-Err-clause-dead g c = λ _.
    let es = c.args.journal.now.entries in
    ap (λ p. p.dead) (ap progress_of c.push-in-Err.ensures.entries ∙ progress_more es (Died c.settled_owner-host.result c.args.request c.count-count.result c.cause-cause.result))

pub returns-in-Ok-clause-ends : goal.returns-in-Ok-clause-ends
returns-in-Ok-clause-ends g c = λ _.
    let es = c.args.journal.now.entries in
    ap (λ p. p.dead) (ap progress_of c.push.ensures.entries ∙ progress_more es (Ran c.settled_owner-host.result c.args.request c.in-Ok.done.draws c.in-Ok.done.reply))
    ∙ ap (λ b. b || is_end c.args.request.ask) c.requires.alive

pub returns-in-Err-clause-served : goal.returns-in-Err-clause-served
returns-in-Err-clause-served g c = λ _.
    let es = c.args.journal.now.entries in
    ap (λ p. p.served) (ap progress_of c.push-in-Err.ensures.entries ∙ progress_more es (Died c.settled_owner-host.result c.args.request c.count-count.result c.cause-cause.result))

pub returns-in-Ok-clause-fed : goal.returns-in-Ok-clause-fed
returns-in-Ok-clause-fed g c =
    let draws = c.in-Ok.done.draws in
    (Ran c.settled_owner-host.result c.args.request draws c.in-Ok.done.reply, c.push.ensures.entries, (draws, c.in-Ok.ensures.drawn, λ _. refl), λ _. tt)

pub returns-in-Err-clause-fed : goal.returns-in-Err-clause-fed
returns-in-Err-clause-fed g c =
    let host = c.settled_owner-host.result in
    let count = c.count-count.result in
    let cause = c.cause-cause.result in (
      Died host c.args.request count cause,
      c.push-in-Err.ensures.entries,
      drew_at_fault c.in-Err.fault cause host c.args.request count _ _ c.in-Err.ensures.drawn c.cause-cause.ensures,
      λ ran. let never : false ≡ true = ran in cc,
    )

pub returns-in-Ok-clause-how : goal.returns-in-Ok-clause-how
returns-in-Ok-clause-how g c = (Ran c.settled_owner-host.result c.args.request c.in-Ok.done.draws c.in-Ok.done.reply, c.push.ensures.entries, (refl, c.settled_owner-host.ensures, refl))

pub returns-in-Err-clause-how : goal.returns-in-Err-clause-how
returns-in-Err-clause-how g c = (Died c.settled_owner-host.result c.args.request c.count-count.result c.cause-cause.result, c.push-in-Err.ensures.entries, (refl, c.settled_owner-host.ensures, refl))
