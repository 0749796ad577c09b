use Rattle.std.proofs.Common.{◌≡◌, ◌∷◌, [], ◌++◌, ◌∙◌, length, refl, sym, ap, subst, append_assoc, append-nil, rules, arith}
use Rattle.node_intake.specs.Intake.{with_message, with_messages}
use Rattle.node_intake.specs.Standing.{StandsFor}
use Rattle.node_intake.proofs.Standing.{kept_all, kept_on}
use Rattle.node_intake.proofs.Taking.{none_left, messages_more, on_err}
use Rattle.node_intake.proofs.node.Intake.take_all.Goals as goal

pub loop-read-init : goal.loop-read-init
loop-read-init g c =
    let same : c.into_iter-read-iterator.result.rest.items ≡ c.args.all.items = search rules in
    record {
      done = [];
      parts = sym same;
      becomes = λ node stands. stands;
      kept = kept_all g.D.Desk.keeps c.args.self.now g.D.Desk.keeps_all;
    }

pub loop-read-preserved : goal.loop-read-preserved
loop-read-preserved g c =
    let i = c.loop-read.invariant in
    let next : c.loop-read.read-iterator.rest.items ≡ c.in-Some.read ∷ c.next.new.self.rest.items = search rules in
    record {
      done = i.done ++ c.in-Some.read ∷ [];
      parts = i.parts ∙ ap (λ rest. i.done ++ rest) next ∙ sym (append_assoc i.done (c.in-Some.read ∷ []) c.next.new.self.rest.items);
      becomes = λ node stands. subst (StandsFor g.D.Desk.holds c.take_read.new.self) (sym (messages_more c.args.hosts node i.done c.in-Some.read))
          (c.in_ok-take_read.ensures.node (with_messages c.args.hosts node i.done) (i.becomes node stands));
      kept = kept_on g.D.Desk.keeps c.args.self.now c.loop-read.self c.take_read.new.self g.D.Desk.keeps_on i.kept c.in_ok-take_read.ensures.kept;
    }

pub returns-clause-node : goal.returns-clause-node
returns-clause-node g c = λ node stands.
    let i = c.loop-read.invariant in
    let count = c.loop-read.read-iterator.rest.ok.0 in
    let end = c.in-None.ensures.steps.0 in
    let none : c.loop-read.read-iterator.rest.items ≡ [] = none_left c.loop-read.read-iterator.rest.items (omega (arith, count, end)) in
    let all = i.parts ∙ ap (λ rest. i.done ++ rest) none ∙ append-nil i.done in
    subst (λ ms. StandsFor g.D.Desk.holds c.loop-read.self (with_messages c.args.hosts node ms)) (sym all) (i.becomes node stands)

pub returns-in_err-take_read-clause-err : goal.returns-in_err-take_read-clause-err
returns-in_err-take_read-clause-err g c = on_err c.from_residual.result (
    let i = c.loop-read.invariant in record {
      front = i.done;
      later = c.loop-read.read-iterator.rest.items;
      parts = i.parts;
      becomes = λ node stands. c.in_err-take_read.ensures.err (with_messages c.args.hosts node i.done) (i.becomes node stands);
    })

pub returns-in_err-take_read-clause-kept : goal.returns-in_err-take_read-clause-kept
returns-in_err-take_read-clause-kept g c =
    kept_on g.D.Desk.keeps c.args.self.now c.loop-read.self c.take_read.new.self g.D.Desk.keeps_on c.loop-read.invariant.kept c.in_err-take_read.ensures.kept
