use Rattle.std.proofs.Common.{◌≡◌, ℕ, ◌<◌, List, length, Some, None, sym, ap, ◌∙◌, subst, arith}
use Rattle.std.specs.Option.{option_copied}
use Rattle.std.specs.FinMap as finite
use Rattle.std.proofs.lemmas.Option.{none-some, same_Some}
use Rattle.py_value.specs.declared.value.Value.{Value}
use Rattle.py_value.specs.declared.value.Value.TheVariants as value
use Rattle.history_graph.specs.Sets.{Names}
use Rattle.history_graph.specs.Texts.{IsNamed, IsWithAll}
use Rattle.history_graph.proofs.Items.{with_none, with_such, items_more}
use Rattle.history_graph.proofs.texts.add_named.Goals as goal
use Rattle.history_graph.proofs.texts.add_named.Goals.{in-Some+in_ok-add_value, in_default}

pub loop-name-preserved : goal.loop-name-preserved
loop-name-preserved c =
    let s = c.args.state.now in
    let names = c.args.names.now in
    let i = c.loop-name.name-index in
    let x = c.name-item.result in
    let l : i < length names = omega arith in
    let before = c.loop-name.texts in
    let here : IsWithAll before (IsNamed s x) c.match-look.texts = elim c.match-look.branch [
      | in-Some+in_ok-add_value w ↦
          let held : Value = w.in-Some.held.now in
          let got : finite.get s.globals x ≡ Some held = sym c.look.ensures ∙ ap option_copied w.in-Some.is in
          subst (λ (z : Names). IsWithAll before (IsNamed s x) z) (sym w.texts-is)
          (with_such (λ (t : List ℕ). held ≡ value.Text t) (IsNamed s x) before w.add_value.new.texts (λ t e. got ∙ ap (λ (v : Value). Some v) e)
          (λ t e. same_Some held (value.Text t) (sym got ∙ e)) w.in_ok-add_value.ensures)
      | in_default w ↦
          let none : finite.get s.globals x ≡ None = sym c.look.ensures ∙ ap option_copied w.in_default.is in
          subst (λ (z : Names). IsWithAll before (IsNamed s x) z) (sym w.texts-is) (with_none (IsNamed s x) before (λ t e. none-some (value.Text t) (sym none ∙ e)))
    ] in
    items_more (IsNamed s) names i c.args.texts.now before c.match-look.texts x l c.name-item.is c.loop-name.invariant here
