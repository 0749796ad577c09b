use Rattle.std.proofs.Common.{◌≡◌, ℕ, List}
use Rattle.py_value.specs.declared.key.Key.TheVariants as key
use Rattle.py_value.specs.declared.value.Value.TheVariants as value
use Rattle.history_graph.proofs.Items.{with_both}
use Rattle.history_graph.proofs.texts.add_pair.Goals as goal

pub returns : goal.returns
returns c =
    with_both (λ (t : List ℕ). c.args.name.now ≡ key.Text t) (λ (t : List ℕ). c.args.held.now ≡ value.Text t) c.args.texts.now c.add_key.new.texts c.add_value.new.texts
    c.in_ok-add_key.ensures c.in_ok-add_value.ensures
