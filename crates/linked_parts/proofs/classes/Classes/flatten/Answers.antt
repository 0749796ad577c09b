use Rattle.std.proofs.Common.{◌≡◌, ℕ, ◌+◌, ◌<◌, List, length, set, slice_index, sym, ap, ◌∙◌, subst, arith}
use Rattle.linked_parts.specs.Labels.{IsShortened}
use Rattle.linked_parts.proofs.Joining.{shortened_same, shortened_on, shortened, flat_more}
use Rattle.linked_parts.proofs.classes.Classes.flatten.Goals as goal

pub loop-number-init : goal.loop-number-init
loop-number-init c = record {
  classes = shortened_same c.args.self.now.parents c.requires;
  flat = λ k l. absurd (omega arith);
}

pub loop-number-preserved : goal.loop-number-preserved
loop-number-preserved c =
    let first = c.args.self.now.parents in
    let old = c.loop-number.self.parents in
    let number = c.loop-number.number in
    let i = c.loop-number.invariant in
    let within : number < length old = omega (arith, i.classes.size) in
    let made = sym (c.shorten.ensures.parents ∙ ap (set old number) c.shorten.ensures.value) in
    record {
      classes = shortened_on first old c.shorten.new.self.parents i.classes (subst (IsShortened old) made (shortened old number i.classes.forest within));
      flat = subst (λ (now : List ℕ). (k : ℕ) → k < number + 1 → slice_index now (slice_index now k) ≡ slice_index now k) made
          (flat_more old number i.classes.forest within i.flat);
    }

pub returns-clause-flat : goal.returns-clause-flat
returns-clause-flat c = λ k l. c.loop-number.invariant.flat k (omega (arith, c.loop-number.invariant.classes.size))
