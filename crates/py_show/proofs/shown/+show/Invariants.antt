use Rattle.std.proofs.Common.{◌≡◌, ◌+◌, ◌*◌, drop}
use Rattle.py_show.specs.OnState as spec
use Rattle.py_show.proofs.shown.+show.Given as goal

abbrev pub decreases-show : goal.decreases-show
decreases-show l = 11 * l.left + 0

abbrev pub decreases-show_more : goal.decreases-show_more
decreases-show_more l = 11 * l.left + 1

abbrev pub decreases-show_items : goal.decreases-show_items
decreases-show_items l = 11 * l.left + 2

abbrev pub decreases-show_sequence : goal.decreases-show_sequence
decreases-show_sequence l = 11 * l.left + 3

abbrev pub decreases-show_pair : goal.decreases-show_pair
decreases-show_pair l = 11 * l.left + 1

abbrev pub decreases-show_more_pairs : goal.decreases-show_more_pairs
decreases-show_more_pairs l = 11 * l.left + 2

abbrev pub decreases-show_pairs : goal.decreases-show_pairs
decreases-show_pairs l = 11 * l.left + 3

abbrev pub decreases-show_dict : goal.decreases-show_dict
decreases-show_dict l = 11 * l.left + 4

abbrev pub decreases-show_ref : goal.decreases-show_ref
decreases-show_ref l = 11 * l.left + 5

abbrev pub decreases-show_value : goal.decreases-show_value
decreases-show_value l = 11 * l.left + 6

abbrev pub decreases-show_one : goal.decreases-show_one
decreases-show_one l = 11 * l.left + 7

abbrev pub invariant-show_more-loop-item : goal.invariant-show_more-loop-item
invariant-show_more-loop-item l = record {
  shows : spec.more_items l.state (spec.shown l.state l.left) l.end l.fn.path l.items l.initial.out l.initial.steps ≡ spec.more_items l.state (spec.shown l.state l.left) l.end l.path (drop l.item-index l.items) l.out l.steps;
  path : l.path ≡ l.fn.path;
}

abbrev pub invariant-show_more_pairs-loop-index : goal.invariant-show_more_pairs-loop-index
invariant-show_more_pairs-loop-index l = record {
  shows : spec.more_pairs l.state (spec.shown l.state l.left) l.fn.path (drop 1 l.dict) l.initial.out l.initial.steps ≡ spec.more_pairs l.state (spec.shown l.state l.left) l.path (drop l.index l.dict) l.out l.steps;
  path : l.path ≡ l.fn.path;
}
