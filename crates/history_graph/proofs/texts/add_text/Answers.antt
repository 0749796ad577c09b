use Rattle.std.proofs.Common.{◌≡◌, ℕ, List, sym, subst}
use Rattle.py_machine.specs.Marked.{with_member}
use Rattle.history_graph.specs.Sets.{Names}
use Rattle.history_graph.specs.Texts.{IsWithAll}
use Rattle.history_graph.proofs.Items.{with_one}
use Rattle.history_graph.proofs.texts.add_text.Goals as goal

pub returns : goal.returns
returns c =
    let old = c.args.texts.now in
    let text = c.in_ok-new.field-0 in
    subst (λ (s : Names). IsWithAll old (λ t. t ≡ c.args.text.now) s) (sym c.in_ok-bind.ensures.ok)
    (subst (λ (x : List ℕ). IsWithAll old (λ t. t ≡ x) (with_member old text)) c.in_ok-new.ensures (with_one old text))
