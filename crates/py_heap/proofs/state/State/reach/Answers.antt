use Rattle.std.proofs.Common.{ℕ, ◌<◌, List, length, get_or, ap, ◌∙◌, arith}
use Rattle.std.specs.List.{flat_map}
use Rattle.py_heap.specs.Reaching.{name_refs}
use Rattle.py_heap.specs.Searches.{all_noted}
use Rattle.std.proofs.lemmas.List.{get_or_default}
use Rattle.py_heap.proofs.Numbers.{marked_room}
use Rattle.py_heap.proofs.Searching.{found_first, found_more, found_members, found_order, found_apart}
use Rattle.py_heap.proofs.state.State.reach.Goals as goal

pub loop-next-init : goal.loop-next-init
loop-next-init c = record {
  room = c.note_names.ensures.room ∙ (c.in_ok-search.ensures.room ∙ c.len.ensures);
  found = found_first c.args.self.now c.args.names.now _
      (c.in_ok-note_names.ensures.found ∙ ap (λ (ns : List ℕ). all_noted ns (flat_map (name_refs c.args.self.now) c.args.names.now)) c.in_ok-search.ensures.found);
}

pub loop-next-preserved : goal.loop-next-preserved
loop-next-preserved c = record {
  room = c.note_from.ensures.room ∙ c.loop-next.invariant.room;
  found = found_more c.args.self.now c.args.names.now c.loop-next.search.found _ c.loop-next.next c.loop-next.invariant.found
      (omega (arith, c.len-in-loop-next.ensures.value)) c.in_ok-note_from.ensures.found;
}

pub returns-clause-members : goal.returns-clause-members
returns-clause-members c = found_members c.args.self.now c.args.names.now _ _ (omega (arith, c.len-in-loop-next.ensures.value)) c.loop-next.invariant.found

pub returns-clause-live : goal.returns-clause-live
returns-clause-live c = λ k d l.
    let search = c.loop-next.search in
    let read = get_or_default search.found k d 0 l in
    let less : get_or search.found k 0 < length search.marks.items = marked_room search.marks.items search.found search.marked k l in
    rw read (omega (arith, search.marks.ok.0, c.loop-next.invariant.room))

pub returns-clause-distinct : goal.returns-clause-distinct
returns-clause-distinct c = found_apart c.args.self.now c.args.names.now _ _ c.loop-next.invariant.found

pub returns-clause-order : goal.returns-clause-order
returns-clause-order c = found_order c.args.self.now c.args.names.now _ _ (omega (arith, c.len-in-loop-next.ensures.value)) c.loop-next.invariant.found
