use Rattle.std.proofs.Common.{ℕ, ◌+◌, ◌≤◌, length, sym, subst, arith}
use Rattle.py_heap.specs.declared.heap.Object.{Object}
use Rattle.py_heap.specs.declared.heap.Object.TheVariants as object
use Rattle.history_graph.specs.Texts.{HasText, AreAtMost}
use Rattle.history_graph.proofs.Amounts.{most_one}
use Rattle.history_graph.proofs.Counted.{most_values, most_pairs}
use Rattle.history_graph.proofs.texts.room_in.Goals as goal

pub returns-in-List : goal.returns-in-List
returns-in-List c = λ few.
    subst (λ (o : Object). AreAtMost (HasText o) c.len.result) (sym c.in-List.is) (subst (λ (n : ℕ). AreAtMost (HasText (object.List c.in-List.items)) n) (sym c.len.ensures) (most_values c.in-List.items))

pub returns-in-Tuple : goal.returns-in-Tuple
returns-in-Tuple c = λ few.
    subst (λ (o : Object). AreAtMost (HasText o) c.len-in-Tuple.result) (sym c.in-Tuple.is) (subst (λ (n : ℕ). AreAtMost (HasText (object.Tuple c.in-Tuple.items)) n) (sym c.len-in-Tuple.ensures) (most_values c.in-Tuple.items))

pub returns-in-Dict : goal.returns-in-Dict
returns-in-Dict c = λ few.
    let pairs = c.in-Dict.dict in
    let a = c.len-in-Dict.ensures.value in
    let b = c.len-in-Dict-2.ensures.value in
    let e = c.saturating_add.ensures in
    let l : length pairs + length pairs ≤ c.saturating_add.result = omega (arith, few, a, b, e) in
    subst (λ (o : Object). AreAtMost (HasText o) c.saturating_add.result) (sym c.in-Dict.is) (most_pairs pairs c.saturating_add.result l)

pub returns-in-Function : goal.returns-in-Function
returns-in-Function c = λ few. subst (λ (o : Object). AreAtMost (HasText o) 1) (sym c.in-Function.is) (most_one c.in-Function.field-0.source)

pub returns-in-Handle : goal.returns-in-Handle
returns-in-Handle c = λ few. subst (λ (o : Object). AreAtMost (HasText o) 1) (sym c.in-Handle.is) (most_one c.in-Handle.name)
