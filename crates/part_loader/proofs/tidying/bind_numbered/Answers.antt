use Rattle.std.proofs.Common.{◌≡◌, ◌+◌, take, refl, sym, ap, ◌∙◌, subst}
use Rattle.std.specs.Option.{option_copied}
use Rattle.part_bytes.specs.Parts.{number_in}
use Rattle.py_heap.specs.declared.state.State.{State}
use Rattle.part_loader.specs.Loading.{AreMovedNames}
use Rattle.part_loader.proofs.Binding.{no_names, bound_more, bound_rest, skipped_more}
use Rattle.part_loader.proofs.tidying.bind_numbered.Goals.{in-Some+in_ok-moved_value+in_ok-bind, in_default}
use Rattle.part_loader.proofs.tidying.bind_numbered.Goals as goal

pub loop-name-init : goal.loop-name-init
loop-name-init c = (no_names c.args.state.now (number_in c.args.numbers.now.order) c.args.fresh.now.globals c.requires, refl)

pub loop-name-preserved : goal.loop-name-preserved
loop-name-preserved c =
    let t = c.args.state.now in
    let number = number_in c.args.numbers.now.order in
    let names = c.args.names.now in
    let i = c.loop-name.name-index in
    let name = c.name-item.result in
    elim c.match-look.branch [
      | in-Some+in_ok-moved_value+in_ok-bind w ↦
          let is = w.fresh-is ∙ w.in_ok-bind.ensures.ok in (
            bound_more t number names i name c.loop-name-test.true c.name-item.is c.loop-name.fresh.globals c.match-look.fresh.globals name w.in-Some.value.now w.in_ok-moved_value.field-0
                (sym c.look.ensures ∙ ap option_copied w.in-Some.is) refl w.in_ok-moved_value.ensures (ap (λ (s : State). s.globals) is) c.loop-name.invariant.0,
            bound_rest t number names i name c.loop-name-test.true c.name-item.is c.args.fresh.now c.loop-name.fresh c.match-look.fresh w.bind.new.self name w.in_ok-moved_value.field-0 c.loop-name.invariant.1 w.in_ok-bind.ensures.ok w.fresh-is,
          )
      | in_default w ↦
          subst (λ (s : State). AreMovedNames t number (take (i + 1) names) s.globals × (s ≡ record c.args.fresh.now { globals = s.globals })) (sym w.fresh-is)
          (skipped_more t number names i name c.loop-name-test.true c.name-item.is c.loop-name.fresh.globals (sym w.in_default.ensures) c.loop-name.invariant.0, c.loop-name.invariant.1)
    ]
