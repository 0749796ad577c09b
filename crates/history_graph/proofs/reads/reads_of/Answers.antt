use Rattle.std.proofs.Common.{ℕ, ◌+◌, ◌<◌, ◌≤◌, List, [], length, get_or, take, sym, ◌∙◌, subst, arith}
use Rattle.std.proofs.lemmas.Bool.{iff_false}
use Rattle.std.proofs.lemmas.List.{get_or_default}
use Rattle.history_graph.specs.Active.{AreThose}
use Rattle.history_graph.specs.Touched.{Reads}
use Rattle.history_graph.proofs.Listing.{those_none, holds_at}
use Rattle.history_graph.proofs.Reading.{reads_push, reads_skip, reads_all}
use Rattle.history_graph.proofs.reads.reads_of.Goals as goal
use Rattle.history_graph.proofs.reads.reads_of.Goals.{then-is_touched+in_ok-push, else-is_touched}

pub loop-v-init : goal.loop-v-init
loop-v-init c =
    let R = Reads c.args.graph.now c.args.marks.now in
    subst (λ (found : List ℕ). AreThose R [] found) (sym c.new-reads.ensures) (those_none R)

pub active_version-version-requires : goal.active_version-version-requires
active_version-version-requires c =
    let active = c.args.active.now in
    let i = c.loop-v.v-index in
    let v = get_or active i 0 in
    holds_at c.args.graph.now active i v c.requires c.loop-v-test.true (get_or_default active i 0 v c.loop-v-test.true)

pub loop-v-preserved : goal.loop-v-preserved
loop-v-preserved c =
    let g = c.args.graph.now in
    let marks = c.args.marks.now in
    let active = c.args.active.now in
    let i = c.loop-v.v-index in
    let v = get_or active i 0 in
    let l : i < length active = c.loop-v-test.true in
    let x = c.active_version-version.result.now in
    elim c.if-is_touched.branch [
      | then-is_touched+in_ok-push w ↦
          subst (λ (found : List ℕ). AreThose (Reads g marks) (take (i + 1) active) found) (sym (w.reads-is ∙ w.in_ok-push.ensures.ok))
          (reads_push g marks active i v c.requires.ascends l (get_or_default active i 0 v l) c.loop-v.reads c.loop-v.invariant x c.active_version-version.ensures
          (c.is_touched.ensures.0 w.if-is_touched.true))
      | else-is_touched w ↦
          subst (λ (found : List ℕ). AreThose (Reads g marks) (take (i + 1) active) found) (sym w.reads-is)
          (reads_skip g marks active i v c.requires.ascends l (get_or_default active i 0 v l) c.loop-v.reads c.loop-v.invariant x c.active_version-version.ensures
          (iff_false c.is_touched.ensures w.if-is_touched.false))
    ]

pub returns-clause-reads : goal.returns-clause-reads
returns-clause-reads c =
    let l : length c.args.active.now ≤ c.loop-v.v-index = omega arith in
    reads_all c.args.graph.now c.args.marks.now c.args.active.now c.loop-v.v-index c.loop-v.reads c.requires l c.loop-v.invariant
