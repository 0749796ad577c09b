use Rattle.std.proofs.Common.{◌≡◌, ◌<◌, ◌-◌, List, Bool, Vec, Global, length, sym, ap, ◌∙◌, subst, arith}
use Rattle.std.proofs.lemmas.List.{with_items_is}
use Rattle.graph_model.specs.Marks.{IsMarked}
use Rattle.graph_model.proofs.Needing.{NeedSo, need_start, need_marked, need_unmarked, need_end, read_marked, read_unmarked}
use Rattle.graph_model.proofs.graph.Graph.marks_of_need.Goals as goal
use Rattle.graph_model.proofs.graph.Graph.marks_of_need.Goals.{then-index, else-index}

pub loop-left-init : goal.loop-left-init
loop-left-init c = need_start c.args.self.now c.args.v _ _ c.cell_count-left.ensures c.in_ok-marks.ensures.room c.in_ok-marks.ensures.writer

pub loop-left-preserved : goal.loop-left-preserved
loop-left-preserved c =
    let P : List Bool → Type 0 = λ marks. NeedSo c.args.self.now c.args.v marks (c.loop-left.left - 1) in
    let r = c.loop-left.invariant.room in
    let b = c.loop-left.invariant.within in
    let l : c.loop-left.left < length c.loop-left.marks.items = omega arith in
    elim c.if-index.branch [
      | then-index w ↦
          let e = w.deref_mut.ensures.value in
          let n = w.mark_old.auto.marks in
          let k = w.deref_mut.ensures.len in
          let ok = c.loop-left.marks.ok.0 in
          let same : c.if-index.marks.items ≡ w.mark_old.new.marks =
          ap (λ (v : Vec Bool Global). v.items) w.marks-is ∙ with_items_is c.loop-left.marks w.mark_old.new.marks (omega arith) in
          let Q : List Bool → Type 0 = λ old. NeedSo c.args.self.now c.args.v old c.loop-left.left in
          let M : List Bool → Type 0 = λ old. IsMarked old c.loop-left.left in
          subst P (sym same) (need_marked c.args.self.now c.requires.graph c.args.v _ _ c.loop-left.left
          (subst Q (sym e) c.loop-left.invariant) c.loop-left-test.true (subst M (sym e) (read_marked _ _ _ l c.index.ensures w.if-index.true)) n w.mark_old.ensures)
      | else-index w ↦
          subst P (sym (ap (λ (v : Vec Bool Global). v.items) w.marks-is)) (need_unmarked c.args.self.now c.args.v _ c.loop-left.left
          c.loop-left.invariant c.loop-left-test.true (read_unmarked _ _ _ l c.index.ensures w.if-index.false))
    ]

pub returns-clause-needed : goal.returns-clause-needed
returns-clause-needed c = need_end c.args.self.now c.args.v _ _ c.loop-left-test.false c.loop-left.invariant
