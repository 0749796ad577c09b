-- What is true of each network.
use Rattle.std.specs.Prelude.{◌<◌, ◌^◌, length}
use Rattle.flow_model.specs.Flows.{Net, IsNet}

-- a network of which two directed arcs for each arc have numbers that fit 32 bits
pub record IsNumbered (net : Net) : Type 0 where
  pub legal : IsNet net
  pub few : length net.arcs < 2 ^ 31
