use Rattle.std.proofs.Common.{rules, ◌≡◌, ℕ, ◌-◌, ◌<◌, List, length, replicate, set, slice_index, sym, ap, subst, arith}
use Rattle.linked_parts.proofs.Linking.{AreNextFrom, next_begun, next_more, next_all}
use Rattle.linked_parts.proofs.listing.next_of.Goals as goal

pub loop-index-init : goal.loop-index-init
loop-index-init c =
    let count = length c.args.labels.now in
    let made : c.from_vec-next.result ≡ replicate count count = search rules in
    let held : c.from_vec-first.result ≡ replicate count count = search rules in
    let begun = next_begun c.args.labels.now c.from_vec-next.result c.from_vec-first.result count (omega arith) made held in
    record { within = begun.within; size = begun.size; room = begun.room; are_next = begun }

pub bounds-as_slice-label : goal.bounds-as_slice-label
bounds-as_slice-label c =
    let label = c.requires (c.loop-index.index - 1) (omega (arith, c.loop-index.invariant.within, c.loop-index-test.true)) in
    subst (λ (xs : List ℕ). slice_index c.args.labels.now (c.loop-index.index - 1) < length xs) (sym c.as_slice.ensures) (omega (arith, label, c.loop-index.invariant.room))

pub set-requires-in-loop-index : goal.set-requires-in-loop-index
set-requires-in-loop-index c =
    let label = c.requires (c.loop-index.index - 1) (omega (arith, c.loop-index.invariant.within, c.loop-index-test.true)) in
    omega (arith, label, c.loop-index.invariant.room)

pub loop-index-preserved : goal.loop-index-preserved
loop-index-preserved c =
    let labels = c.args.labels.now in
    let now = c.loop-index.index - 1 in
    let next = c.loop-index.next in
    let first = c.loop-index.first in
    let i = c.loop-index.invariant in
    let label_in = c.requires now (omega (arith, i.within, c.loop-index-test.true)) in
    let found = slice_index c.as_slice.result.now (slice_index labels now) in
    let more = next_more labels next first c.loop-index.index now i.are_next (omega (arith, c.loop-index-test.true)) label_in found
    (ap (λ (xs : List ℕ). slice_index xs (slice_index labels now)) c.as_slice.ensures) in
    let are_next : AreNextFrom labels c.set.new.self c.set-in-loop-index.new.self now =
    subst (λ (ns : List ℕ). AreNextFrom labels ns c.set-in-loop-index.new.self now) (sym c.set.ensures)
    (subst (λ (fs : List ℕ). AreNextFrom labels (set next now found) fs now) (sym c.set-in-loop-index.ensures) more) in
    record { within = are_next.within; size = are_next.size; room = are_next.room; are_next = are_next }

pub returns : goal.returns
returns c = next_all _ _ c.loop-index.first c.loop-index.index c.loop-index.invariant.are_next (omega arith)
