use Rattle.std.proofs.Common.{IsTrue}
use Rattle.part_loader.proofs.Binding.{made_of}
use Rattle.part_loader.proofs.Validity.{tidied_valid}
use Rattle.part_loader.proofs.tidying.tidied.Goals as goal

pub returns-clause-tidied : goal.returns-clause-tidied
returns-clause-tidied c = made_of c.args.state.now c.new-fresh.result c.add_numbered.new.fresh c.bind_numbered.new.fresh c.set_count.new.self c.set_meter.new.self c.in_ok-names.names c.as_slice.result.now
    c.as_slice-2.result.now c.in_ok-numbers.numbers.order c.count.result c.meter.result c.requires c.in_ok-names.ensures c.as_slice.ensures c.as_slice-2.ensures c.in_ok-numbers.ensures.order
    c.new-fresh.ensures c.in_ok-add_numbered.ensures c.in_ok-bind_numbered.ensures.names c.in_ok-bind_numbered.ensures.rest c.set_count.ensures c.set_meter.ensures c.count.ensures c.meter.ensures.value

pub returns-clause-valid : goal.returns-clause-valid
returns-clause-valid c = λ test valid. tidied_valid (λ def. IsTrue (test def)) c.args.state.now c.set_meter.new.self (returns-clause-tidied c) valid
