use Rattle.std.proofs.Common.{◌<◌, ◌≤◌, set, slice_index, sym, ap, ◌∙◌, subst, arith}
use Rattle.linked_parts.specs.Labels.{Joined, alone, chained, IsShortened}
use Rattle.linked_parts.proofs.Joining.{shortened_same, shortened_on, shortened, shortened_top, top_within}
use Rattle.linked_parts.proofs.classes.Classes.root.Goals as goal

pub loop-at-init : goal.loop-at-init
loop-at-init c = record {
  within = c.requires.within;
  classes = shortened_same c.args.self.now.parents c.requires.forest;
  joined = alone c.args.number c.requires.within;
}

pub loop-at-preserved : goal.loop-at-preserved
loop-at-preserved c =
    let first = c.args.self.now.parents in
    let old = c.loop-at.self.parents in
    let at = c.loop-at.at in
    let i = c.loop-at.invariant in
    let f = i.classes.forest in
    let to = c.shorten-at.ensures.value in
    let moved : IsShortened old c.shorten-at.new.self.parents = subst (IsShortened old) (sym (c.shorten-at.ensures.parents ∙ ap (set old at) to)) (shortened old at f i.within) in
    record {
      within = let top = top_within old at f i.within in omega (arith, moved.size, to, top);
      classes = shortened_on first old c.shorten-at.new.self.parents i.classes moved;
      joined = subst (Joined first c.args.number) (sym to)
          (chained c.args.number at (slice_index old (slice_index old at)) i.joined (i.classes.only at (slice_index old (slice_index old at)) (shortened_top old at f i.within)));
    }

pub loop-at-smaller : goal.loop-at-smaller
loop-at-smaller c =
    let old = c.loop-at.self.parents in
    let at = c.loop-at.at in
    let i = c.loop-at.invariant in
    let read = c.as_slice.ensures in
    let low : slice_index old at < at = subst (λ xs. slice_index xs at < at) read c.loop-at-test.true in
    let lower = i.classes.forest (slice_index old at) (omega (arith, low, i.within)) in
    omega (arith, c.shorten-at.ensures.value, low, lower)

pub returns-clause-root : goal.returns-clause-root
returns-clause-root c =
    let old = c.loop-at.self.parents in
    let at = c.loop-at.at in
    let i = c.loop-at.invariant in
    let high : at ≤ slice_index old at = subst (λ xs. at ≤ slice_index xs at) c.as_slice.ensures c.loop-at-test.false in
    let low = i.classes.forest at i.within in
    omega (arith, high, low)
