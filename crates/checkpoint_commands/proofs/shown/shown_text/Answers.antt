use Rattle.std.proofs.Common.{Err, [], sym, ◌∙◌, subst}
use Rattle.std.specs.Prelude.{codes}
use Rattle.py_machine.specs.declared.error.Fault.{Fault}
use Rattle.py_meaning.specs.Acts.{run}
use Rattle.py_meaning.specs.Shown.{shown}
use Rattle.py_show.specs.Uses.{PutsRun}
use Rattle.checkpoint_commands.specs.Told.{shown_text}
use Rattle.checkpoint_commands.proofs.Telling.{shown_held, shown_long, shown_raised, shown_failed, as_shown}
use Rattle.checkpoint_commands.proofs.shown.shown_text.Goals as goal

pub returns-in-Some : goal.returns-in-Some
unfolding shown_text
returns-in-Some c =
    sym (shown_held (run (shown 800 [] [] c.args.value.now)) c.args.state.now c.in_ok-out.out c.put_repr.new.out c.put_repr.new.steps c.in_ok-out.ensures c.in-Some.text c.in-Ok.ensures (sym c.in-Some.ensures.value))

pub returns-in-Ok : goal.returns-in-Ok
unfolding shown_text
returns-in-Ok c =
    as_shown c.new-in-None.result (codes "MemoryError") (shown_text c.args.state.now c.args.value.now)
    (shown_long (run (shown 800 [] [] c.args.value.now)) c.args.state.now c.in_ok-out.out c.put_repr.new.out c.put_repr.new.steps c.in_ok-out.ensures c.in-Ok.ensures (sym c.in-None.ensures.value))
    c.new-in-None.ensures

pub returns-in-Err-Raised : goal.returns-in-Err-Raised
unfolding shown_text
returns-in-Err-Raised c =
    let go = run (shown 800 [] [] c.args.value.now) in
    let s = c.args.state.now in
    let error = c.in-Err-Raised.error in
    let puts = subst (λ (f : Fault). PutsRun go s c.in_ok-out.out 0 (Err f) c.put_repr.new.out c.put_repr.new.steps) c.in-Err-Raised.field-0-is c.in-Err-Raised.ensures in
    let got = rw c.get.ensures at c.name.ensures in
    let named = rw c.in-Err-Raised.field-0-is at got in
    as_shown c.new-in-Err-Raised.result c.name.result.now (shown_text s c.args.value.now)
    (shown_raised go s c.in_ok-out.out c.put_repr.new.out c.put_repr.new.steps c.in_ok-out.ensures error puts ∙ sym named)
    c.new-in-Err-Raised.ensures

pub returns-in-Err-DrawFailed : goal.returns-in-Err-DrawFailed
unfolding shown_text
returns-in-Err-DrawFailed c =
    let go = run (shown 800 [] [] c.args.value.now) in
    let s = c.args.state.now in
    let puts = subst (λ (f : Fault). PutsRun go s c.in_ok-out.out 0 (Err f) c.put_repr.new.out c.put_repr.new.steps) c.in-Err-DrawFailed.field-0-is c.in-Err-DrawFailed.ensures in
    as_shown c.new-in-Err-DrawFailed.result (codes "OSError") (shown_text s c.args.value.now)
    (shown_failed go s c.in_ok-out.out c.put_repr.new.out c.put_repr.new.steps c.in_ok-out.ensures puts)
    c.new-in-Err-DrawFailed.ensures
