use Rattle.std.proofs.Common.{◌≡◌, ℕ, ◌<◌, ◌≤◌, List, length, refl, subst, arith}
use Rattle.std.specs.Prelude.{Contains}
use Rattle.py_value.specs.declared.value.Value.{Value}
use Rattle.py_value.specs.declared.value.Value.TheVariants as value
use Rattle.history_graph.specs.Texts.{OneHas}
use Rattle.history_graph.proofs.Items.{with_such, items_more, items_all}
use Rattle.history_graph.proofs.texts.add_values.Goals as goal

abbrev IsText : Value → List ℕ → Type 0
IsText v t = v ≡ value.Text t

pub loop-held-preserved : goal.loop-held-preserved
loop-held-preserved c =
    let i = c.loop-held.held-index in
    let l : i < length c.args.values.now = omega arith in
    items_more IsText c.args.values.now i c.args.texts.now c.loop-held.texts c.add_value.new.texts c.held-item.result l c.held-item.is c.loop-held.invariant c.in_ok-add_value.ensures

pub returns : goal.returns
returns c =
    let values = c.args.values.now in
    let l : length values ≤ c.loop-held.held-index = omega arith in
    with_such (OneHas IsText values) (λ (t : List ℕ). Contains values (value.Text t)) c.args.texts.now c.loop-held.texts (λ t h. subst (λ v. Contains values v) h.2 h.1) (λ t i. (value.Text t, i, refl))
    (items_all IsText values c.loop-held.held-index c.args.texts.now c.loop-held.texts l c.loop-held.invariant)
