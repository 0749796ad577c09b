use Rattle.std.proofs.Common.{Bool, List, sym, ◌∙◌, subst, arith}
use Rattle.graph_model.specs.Marks.{IsMarked}
use Rattle.cut_network.proofs.Sticking.{marks_begin, marks_more, marks_whole}
use Rattle.cut_network.proofs.stuck.drawn_marks.Goals as goal

pub loop-before-init : goal.loop-before-init
loop-before-init c = record {
  room = let e = c.len.ensures in omega (arith, c.in_ok-marks.marks.ok.0, c.in_ok-marks.ensures.len);
  marks = marks_begin c.args.graph.now c.in_ok-marks.marks.items;
}

pub loop-before-preserved : goal.loop-before-preserved
loop-before-preserved c = record {
  room = c.mark_if.ensures.room ∙ c.loop-before.invariant.room;
  marks = marks_more c.args.graph.now c.requires c.loop-before.marks.items c.mark_if.new.marks.items c.loop-before.before c.leads_on-lead.result c.leads_on-lead.ensures.drew
      (λ w r m. let P : List Bool → Type 0 = λ xs. IsMarked xs w in c.leads_on-lead.ensures.before w r (subst P (sym c.deref.ensures.value) m))
      c.mark_if.ensures.here c.mark_if.ensures.kept c.loop-before.invariant.marks;
}

pub returns : goal.returns
returns c = marks_whole c.args.graph.now c.loop-before.marks.items c.loop-before.before (omega arith) c.loop-before.invariant.marks
