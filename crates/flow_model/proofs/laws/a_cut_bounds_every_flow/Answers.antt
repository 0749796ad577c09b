use Rattle.flow_model.proofs.Cuts.{a_cut_bounds}
use Rattle.flow_model.proofs.laws.a_cut_bounds_every_flow.Goals as goal

pub returns : goal.returns
returns c = a_cut_bounds
