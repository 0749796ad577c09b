use Rattle.part_loader.proofs.Loads.{loaded_if_ok}
use Rattle.part_loader.proofs.Validity.{valid_if_ok}
use Rattle.part_loader.proofs.loading.load.Goals as goal

pub returns-clause-is_load : goal.returns-clause-is_load
returns-clause-is_load c = loaded_if_ok c.args.part c.args.state.now c.load_after.new.state c.load_after.result c.load_after.ensures

pub returns-clause-valid : goal.returns-clause-valid
returns-clause-valid c = valid_if_ok c.args.part c.args.state.now c.load_after.new.state c.load_after.result c.load_after.ensures
