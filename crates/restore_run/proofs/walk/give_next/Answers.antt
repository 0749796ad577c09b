use Rattle.std.proofs.Common.{get_or, refl, ap, ◌∙◌}
use Rattle.graph_model.specs.declared.graph.Graph.{Graph}
use Rattle.graph_model.specs.declared.plan.Plan.{Plan}
use Rattle.restore_run.proofs.Walking.{copied_above, copied_within, copied_at, left_within, taken, given_back}
use Rattle.restore_run.proofs.walk.give_next.Goals as goal

-- the premises of the contract, in their order: sound, graph, plan, left, within, valid

pub overflow_sub-version : goal.overflow_sub-version
overflow_sub-version g c =
    copied_above g.k c.requires.0 c.as_slice.result.now g.k.graph.versions (c.as_slice.ensures ∙ ap (λ (p : Plan). p.copied) c.requires.1.1.0) refl c.args.next c.requires.1.1.1.1.0

pub bounds-as_slice-v : goal.bounds-as_slice-v
bounds-as_slice-v g c =
    copied_within g.k c.requires.0 c.as_slice.result.now c.as_slice-2.result.now (c.as_slice.ensures ∙ ap (λ (p : Plan). p.copied) c.requires.1.1.0)
    (c.as_slice-2.ensures ∙ ap (λ (q : Graph). q.versions) c.requires.1.0) c.args.next c.requires.1.1.1.1.0

pub returns-then-version-number-clause-no : goal.returns-then-version-number-clause-no
returns-then-version-number-clause-no g c =
    let v = get_or c.as_slice.result.now c.args.next 0 in
    let x = c.index-as_slice-v.result in
    let at = copied_at g.k c.requires.0 c.as_slice.result.now c.as_slice-2.result.now (c.as_slice.ensures ∙ ap (λ (p : Plan). p.copied) c.requires.1.1.0)
    (c.as_slice-2.ensures ∙ ap (λ (q : Graph). q.versions) c.requires.1.0) c.args.next c.requires.1.1.1.1.0 x c.index-as_slice-v.is in
    λ _. (refl, (v, x, at, c.if-version-number.true))

pub take_part-part-requires : goal.take_part-part-requires
take_part-part-requires g c = left_within g.k c.requires.0 g.k.plan.copied g.k.graph.versions refl refl c.args.next c.requires.1.1.1.1.0 c.args.parts.now c.requires.1.1.1.0

pub returns-clause-yes : goal.returns-clause-yes
returns-clause-yes g c =
    let v = get_or c.as_slice.result.now c.args.next 0 in
    let x = c.index-as_slice-v.result in
    let p = c.take_part-part.result in
    let at = copied_at g.k c.requires.0 c.as_slice.result.now c.as_slice-2.result.now (c.as_slice.ensures ∙ ap (λ (p : Plan). p.copied) c.requires.1.1.0)
    (c.as_slice-2.ensures ∙ ap (λ (q : Graph). q.versions) c.requires.1.0) c.args.next c.requires.1.1.1.1.0 x c.index-as_slice-v.is in
    let part = taken g.k c.args.next p c.args.parts.now c.take_part-part.new.parts c.requires.1.1.1.0 c.take_part-part.ensures.part c.take_part-part.ensures.left in
    let given = given_back g.k c.requires.0 c.args.next v x p c.args.state.now c.give.new.state at part.0 c.requires.1.1.1.1.1 c.in_ok-give.ensures.present c.in_ok-give.ensures.absent in
    λ _. (v, x, at, (c.if-version-number.false, given.0))

pub returns-clause-left : goal.returns-clause-left
returns-clause-left g c =
    let part = taken g.k c.args.next c.take_part-part.result c.args.parts.now c.take_part-part.new.parts c.requires.1.1.1.0 c.take_part-part.ensures.part c.take_part-part.ensures.left in
    λ _. part.1

pub returns-clause-valid : goal.returns-clause-valid
returns-clause-valid g c =
    let v = get_or c.as_slice.result.now c.args.next 0 in
    let x = c.index-as_slice-v.result in
    let p = c.take_part-part.result in
    let at = copied_at g.k c.requires.0 c.as_slice.result.now c.as_slice-2.result.now (c.as_slice.ensures ∙ ap (λ (p : Plan). p.copied) c.requires.1.1.0)
    (c.as_slice-2.ensures ∙ ap (λ (q : Graph). q.versions) c.requires.1.0) c.args.next c.requires.1.1.1.1.0 x c.index-as_slice-v.is in
    let part = taken g.k c.args.next p c.args.parts.now c.take_part-part.new.parts c.requires.1.1.1.0 c.take_part-part.ensures.part c.take_part-part.ensures.left in
    (given_back g.k c.requires.0 c.args.next v x p c.args.state.now c.give.new.state at part.0 c.requires.1.1.1.1.1 c.in_ok-give.ensures.present c.in_ok-give.ensures.absent).1
