use Rattle.std.proofs.Common.{◌-◌, ◌∙◌, length, Ok, sym, ap, subst, inl, inr, arith}
use Rattle.graph_model.specs.declared.plan.Plan.{Plan}
use Rattle.py_heap.specs.declared.state.State.{State}
use Rattle.replay_laws.specs.Walks.{GivesAllBack}
use Rattle.restore_run.specs.Restoring.{copies}
use Rattle.restore_run.proofs.Walking.{before_of, gave_begin, gave_more, gave_all, before_begin, between_more, ends_between, none_after}
use Rattle.restore_run.proofs.walk.give_back.Goals as goal

pub loop-next-init : goal.loop-next-init
loop-next-init g c =
    let read = g.k in
    let sound = c.requires.0 in
    let b = c.args.number - 1 in
    let e = before_of c.args.number c.requires.1.1.1.1.1.0 in
    let start = c.requires.1.1.1.1.0 b e in
    record {
      gave = gave_begin read sound b c.args.number c.args.from c.args.state.now e start;
      before = before_begin read sound b c.args.number c.args.from e start;
      on = omega arith;
      within = start.within;
      valid = c.requires.1.1.1.1.1.1;
      left = c.requires.1.1.1.0;
    }

pub loop-next-preserved : goal.loop-next-preserved
loop-next-preserved g c =
    let read = g.k in
    let sound = c.requires.0 in
    let number = c.args.number in
    let next = c.loop-next.next in
    let gave = c.loop-next.invariant in
    let w = c.in_ok-given.ensures.yes (ap (λ b. Ok b) c.if-not-given.false) in
    let low = gave.on in
    let size = c.len.ensures ∙ ap (λ (p : Plan). length p.copied) c.requires.1.1.0 in
    let more = c.loop-next-test.true in
    record {
      gave = gave_more read sound number next w.0 w.1 c.args.state.now c.loop-next.state c.give_next.new.state w.2 w.3.0 w.3.1 gave.gave;
      before = between_more read sound (number - 1) number next w.0 w.1 (before_of number c.requires.1.1.1.1.1.0) w.2 w.3.0 gave.before;
      on = omega (arith, low);
      within = omega (arith, size, more);
      valid = c.in_ok-given.ensures.valid;
      left = c.in_ok-given.ensures.left (ap (λ b. Ok b) c.if-not-given.false);
    }

pub returns-then-not-given-clause-between : goal.returns-then-not-given-clause-between
returns-then-not-given-clause-between g c =
    let e = before_of c.args.number c.requires.1.1.1.1.1.0 in
    let b = c.args.number - 1 in
    let gave = c.loop-next.invariant in
    ends_between g.k c.requires.0 b c.args.number c.args.from e (c.requires.1.1.1.1.0 b e) c.loop-next.next gave.on gave.within gave.before
    (inl (c.in_ok-given.ensures.no (ap (λ d. Ok d) c.if-not-given.true)).1)

pub returns-then-not-given-clause-gives : goal.returns-then-not-given-clause-gives
returns-then-not-given-clause-gives g c =
    let read = g.k in
    let sound = c.requires.0 in
    let number = c.args.number in
    let next = c.loop-next.next in
    let e = before_of number c.requires.1.1.1.1.1.0 in
    let b = number - 1 in
    let gave = c.loop-next.invariant in
    let no = c.in_ok-given.ensures.no (ap (λ d. Ok d) c.if-not-given.true) in
    let between = ends_between read sound b number c.args.from e (c.requires.1.1.1.1.0 b e) next gave.on gave.within gave.before (inl no.1) in
    subst (λ (s : State). GivesAllBack (copies read) read.graph number read.plan.copied c.args.state.now s) (sym no.0)
    (gave_all read sound number next c.args.state.now c.loop-next.state gave.gave (none_after read sound number next between))

pub returns-clause-between : goal.returns-clause-between
returns-clause-between g c =
    let e = before_of c.args.number c.requires.1.1.1.1.1.0 in
    let b = c.args.number - 1 in
    let gave = c.loop-next.invariant in
    let size = c.len.ensures ∙ ap (λ (p : Plan). length p.copied) c.requires.1.1.0 in
    let done = c.loop-next-test.false in
    ends_between g.k c.requires.0 b c.args.number c.args.from e (c.requires.1.1.1.1.0 b e) c.loop-next.next gave.on gave.within gave.before (inr (omega (arith, size, done)))
