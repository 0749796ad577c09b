use Rattle.py_laws.specs.Same.{HasPair}
use Rattle.replay_laws.proofs.Ordering.{in_one_order}
use Rattle.replay_laws.proofs.laws.same_states_are_reached_in_one_order.Goals as goal

pub returns : goal.returns
returns c = λ names s t same left right is_left is_right order other.
    in_one_order s t names (HasPair same.by) same.same left right (λ at k. (is_left at).0 k) (λ at k. (is_right at).0 k) order other
