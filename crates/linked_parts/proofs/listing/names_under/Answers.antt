use Rattle.std.proofs.Common.{◌≡◌, ℕ, ◌+◌, List, [], ◌∷◌, ◌++◌, length, sym, ap, ◌∙◌, subst, arith}
use Rattle.linked_parts.specs.Labels.{name_at, AreUnder}
use Rattle.linked_parts.proofs.Partings.{under_start, under_push, under_until}
use Rattle.linked_parts.proofs.listing.names_under.Goals as goal

pub loop-index-init : goal.loop-index-init
loop-index-init c =
    let names = c.args.names.now in
    let labels = c.args.labels.now in
    record {
      within = omega (arith, c.requires.within);
      labelled = λ _. c.requires.root;
      under = subst (AreUnder names labels c.args.root c.args.root) (sym c.new-own.ensures)
          (under_start names labels c.args.root c.requires.least (omega (arith, c.requires.within)));
    }

pub loop-index-preserved : goal.loop-index-preserved
loop-index-preserved c =
    let names = c.args.names.now in
    let labels = c.args.labels.now in
    let root = c.args.root in
    let index = c.loop-index.index in
    let i = c.loop-index.invariant in
    let size = c.requires.size in
    let is_root = i.labelled c.loop-index-test.true in
    let then = c.requires.next.each index (omega (arith, size, c.loop-index-test.true)) in
    let pushed : c.push.new.self ≡ c.loop-index.own ++ name_at names index ∷ [] =
    c.in_ok-push.ensures.ok ∙ ap (λ (name : List ℕ). c.loop-index.own ++ name ∷ []) c.in_ok-name.ensures in
    record {
      within = let h = then.high in omega (arith, h, size);
      labelled = λ l. then.is (omega (arith, size, l)) ∙ is_root;
      under = under_until names labels root (index + 1) _ c.push.new.self
          (subst (AreUnder names labels root (index + 1)) (sym pushed) (under_push names labels root index c.loop-index.own i.under c.loop-index-test.true is_root))
          then.low (λ k low high e. then.none k low high (e ∙ sym is_root));
    }

pub returns : goal.returns
returns c =
    let e : c.loop-index.index ≡ length c.args.names.now = omega (arith, c.loop-index.invariant.within) in
    subst (λ (n : ℕ). AreUnder c.args.names.now c.args.labels.now c.args.root n c.loop-index.own) e c.loop-index.invariant.under
