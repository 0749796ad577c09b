-- The locals of a call: the slot of a name is the one in the list at the name's number.
use Rattle.std.specs.Prelude.{◌≡◌, ℕ, true, List, map, is_some, slice_index_or}
use Rattle.std.specs.Ordering.{nat_cmp}
use Rattle.std.specs.Cmp.Lexicographic.{slice_cmp}
use Rattle.std.specs.FinMap as finite
use Rattle.py_heap.specs.Numbering.{Numbers}
use Rattle.py_machine.specs.declared.frame.FrameSlot.{FrameSlot}
use Rattle.py_machine.specs.declared.frame.FrameSlot.TheVariants.{Empty}

abbrev pub Locals : Type 0
Locals = finite.FinMap (slice_cmp nat_cmp) FrameSlot

abbrev pub filled : Numbers → List FrameSlot → Locals
filled numbers slots = finite.from_entries (map (λ e. (e.0, slice_index_or slots e.1 Empty)) (finite.entries numbers))

-- each name that has a number, unbound
abbrev pub emptied : Numbers → Locals
emptied numbers = finite.from_entries (map (λ e. (e.0, Empty)) (finite.entries numbers))

abbrev pub HasSlot : Locals → List ℕ → Type 0
HasSlot slots name = is_some (finite.get slots name) ≡ true
