use Rattle.std.proofs.Common.{List, ◌∙◌, sym, ap, subst}
use Rattle.std.specs.Prelude.{map}
use Rattle.jupyter_messages.specs.Reading.{message_in}
use Rattle.node_intake.specs.Intake.{with_messages}
use Rattle.node_intake.specs.Standing.{StandsFor}
use Rattle.node_intake.proofs.Standing.{kept_all}
use Rattle.node_intake.proofs.Taking.{many_more, some_more, front_taken, on_err}
use Rattle.node_intake.proofs.frames.take_frames.Goals as goal

pub returns-clause-took : goal.returns-clause-took
returns-clause-took g c = λ bytes t.
    let read = c.in_ok-all.ensures ∙ ap (map message_in) c.as_slice.ensures.value in
    many_more c.args.hosts bytes c.in_ok-bodies.bodies.items c.args.framer.now c.cut_off.new.framer (StandsFor g.D.Desk.holds c.args.node.now) (StandsFor g.D.Desk.holds c.take_all.new.self)
    c.in_ok-bodies.ensures.cut
    (λ node stands. subst (λ ms. StandsFor g.D.Desk.holds c.take_all.new.self (with_messages c.args.hosts node ms)) read (c.in_ok-take_all.ensures.node node stands)) t

pub returns-in_err-bodies-clause-err : goal.returns-in_err-bodies-clause-err
returns-in_err-bodies-clause-err g c = on_err c.from_residual.result (λ bytes so.
    front_taken c.args.hosts bytes c.args.framer.now (StandsFor g.D.Desk.holds c.args.node.now) (StandsFor g.D.Desk.holds c.args.node.now) (λ node stands. stands) so)

pub returns-in_err-bodies-clause-kept : goal.returns-in_err-bodies-clause-kept
returns-in_err-bodies-clause-kept g c = kept_all g.D.Desk.keeps c.args.node.now g.D.Desk.keeps_all

pub returns-in_err-all-clause-err : goal.returns-in_err-all-clause-err
returns-in_err-all-clause-err g c = on_err c.from_residual-in_err-all.result (λ bytes so.
    front_taken c.args.hosts bytes c.args.framer.now (StandsFor g.D.Desk.holds c.args.node.now) (StandsFor g.D.Desk.holds c.args.node.now) (λ node stands. stands) so)

pub returns-in_err-all-clause-kept : goal.returns-in_err-all-clause-kept
returns-in_err-all-clause-kept g c = kept_all g.D.Desk.keeps c.args.node.now g.D.Desk.keeps_all

pub returns-in_err-take_all-clause-err : goal.returns-in_err-take_all-clause-err
returns-in_err-take_all-clause-err g c = on_err c.from_residual-in_err-take_all.result (λ bytes so.
    let read = c.in_ok-all.ensures ∙ ap (map message_in) c.as_slice.ensures.value in
    let some = c.in_err-take_all.ensures.err in
    some_more c.args.hosts bytes c.in_ok-bodies.bodies.items some.front some.later c.args.framer.now c.cut_off.new.framer (StandsFor g.D.Desk.holds c.args.node.now) (StandsFor g.D.Desk.holds c.take_all.new.self)
    c.in_ok-bodies.ensures.cut (sym read ∙ some.parts) some.becomes so)
