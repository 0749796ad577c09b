use Rattle.std.proofs.Common.{◌≡◌, ℕ, List, [], Err, refl, ap, sym, ◌∙◌, subst}
use Rattle.session_core.specs.declared.reply.Reply.TheVariants as reply
use Rattle.py_reader.specs.Completeness.{completeness_of}
use Rattle.py_reader.specs.Verdict.{verdict}
use Rattle.notebook_meaning.specs.Cells.{cells_of, with_ask}
use Rattle.notebook_meaning.specs.Lists.{MayServe}
use Rattle.notebook_meaning.specs.Answers.{answer_after, completion_in}
use Rattle.notebook_engine.specs.Holding.{HoldsCells}
use Rattle.notebook_engine.proofs.Served.{shut_holds, cell_reply, cell_stands, cell_fails, told_reply, told_stands}
use Rattle.notebook_engine.proofs.engine.NotebookEngine.run.Goals as goal

pub returns-in-Ok-clause-reply : goal.returns-in-Ok-clause-reply
returns-in-Ok-clause-reply g c = λ served h no_end.
    cell_reply c.args.self.now served h no_end c.execute.new.self c.args.ask.now c.in-Execute.silent c.in-Execute.store c.is_counted-counted.result c.in-Execute.code c.as_str.result.now c.as_str.utf8
    c.in-Ok.done.draws c.in-Ok.done.reply c.in-Execute.is c.as_str.ensures c.is_counted-counted.ensures (c.in-Ok.ensures.ran (cells_of served) h.1)

pub returns-in-Ok-clause-stands : goal.returns-in-Ok-clause-stands
returns-in-Ok-clause-stands g c = λ served h no_end.
    cell_stands c.args.self.now served h no_end c.execute.new.self c.args.ask.now c.in-Execute.silent c.in-Execute.store c.is_counted-counted.result c.in-Execute.code c.as_str.result.now c.as_str.utf8
    c.in-Ok.done.draws c.in-Ok.done.reply c.in-Execute.is c.as_str.ensures c.is_counted-counted.ensures (c.in-Ok.ensures.ran (cells_of served) h.1)

pub returns-in-Err-clause-reply : goal.returns-in-Err-clause-reply
returns-in-Err-clause-reply g c = λ served h no_end.
    cell_fails c.args.self.now served h no_end c.args.ask.now c.in-Execute.silent c.in-Execute.store c.is_counted-counted.result c.in-Execute.code c.as_str.result.now c.as_str.utf8 c.in-Err.fault
    c.in-Execute.is c.as_str.ensures c.is_counted-counted.ensures (λ which draws e. c.execute.ensures.passes which draws (c.in-Err.is ∙ ap (λ f. Err f) e))

pub returns-in-Info-clause-reply : goal.returns-in-Info-clause-reply
returns-in-Info-clause-reply g c = λ served h no_end.
    told_reply c.args.self.now served h no_end c.args.ask.now reply.Info c.told.result c.told.ensures (subst (λ a. MayServe (cells_of served) a []) (sym c.in-Info.is) refl)
    (subst (λ a. reply.Info ≡ answer_after (cells_of served) a []) (sym c.in-Info.is) refl)

pub returns-in-Info-clause-stands : goal.returns-in-Info-clause-stands
returns-in-Info-clause-stands g c = λ served h no_end.
    told_stands c.args.self.now served h no_end c.args.self.now c.args.ask.now reply.Info c.told.result c.told.ensures (subst (λ a. MayServe (cells_of served) a []) (sym c.in-Info.is) refl)
    (subst (λ a. HoldsCells c.args.self.now (with_ask (cells_of served) a [])) (sym c.in-Info.is) h.1)

pub returns-in-Ok-completion-clause-reply : goal.returns-in-Ok-completion-clause-reply
returns-in-Ok-completion-clause-reply g c = λ served h no_end.
    told_reply c.args.self.now served h no_end c.args.ask.now (reply.Complete c.in-Ok-completion.answer) c.told-in-Ok-completion.result c.told-in-Ok-completion.ensures
    (subst (λ a. MayServe (cells_of served) a []) (sym c.in-Complete.is) refl)
    (subst (λ a. reply.Complete c.in-Ok-completion.answer ≡ answer_after (cells_of served) a []) (sym c.in-Complete.is) (ap (λ z. reply.Complete z) (c.in-Ok-completion.ensures ∙ ap (λ (text : List ℕ). completion_in (completeness_of text (verdict text))) c.as_str-in-Complete.ensures)))

pub returns-in-Ok-completion-clause-stands : goal.returns-in-Ok-completion-clause-stands
returns-in-Ok-completion-clause-stands g c = λ served h no_end.
    told_stands c.args.self.now served h no_end c.args.self.now c.args.ask.now (reply.Complete c.in-Ok-completion.answer) c.told-in-Ok-completion.result c.told-in-Ok-completion.ensures
    (subst (λ a. MayServe (cells_of served) a []) (sym c.in-Complete.is) refl)
    (subst (λ a. HoldsCells c.args.self.now (with_ask (cells_of served) a [])) (sym c.in-Complete.is) h.1)

pub returns-in-Shutdown-clause-reply : goal.returns-in-Shutdown-clause-reply
returns-in-Shutdown-clause-reply g c = λ served h no_end.
    told_reply c.args.self.now served h no_end c.args.ask.now (reply.Shut c.in-Shutdown.restart) c.shut.result c.shut.ensures.done (subst (λ a. MayServe (cells_of served) a []) (sym c.in-Shutdown.is) refl)
    (subst (λ a. reply.Shut c.in-Shutdown.restart ≡ answer_after (cells_of served) a []) (sym c.in-Shutdown.is) refl)

pub returns-in-Shutdown-clause-stands : goal.returns-in-Shutdown-clause-stands
returns-in-Shutdown-clause-stands g c = λ served h no_end.
    told_stands c.args.self.now served h no_end c.shut.new.self c.args.ask.now (reply.Shut c.in-Shutdown.restart) c.shut.result c.shut.ensures.done (subst (λ a. MayServe (cells_of served) a []) (sym c.in-Shutdown.is) refl)
    (subst (λ a. HoldsCells c.shut.new.self (with_ask (cells_of served) a [])) (sym c.in-Shutdown.is)
    (shut_holds c.args.self.now c.shut.new.self (cells_of served) c.in-Shutdown.restart h.1 c.shut.ensures.anew c.shut.ensures.stays))
