use Rattle.std.proofs.Common.{refl, subst}
use Rattle.std.specs.Prelude.{Result, MatchResult}
use Rattle.graph_model.specs.declared.graph.GraphFault.{GraphFault}
use Rattle.graph_model.specs.Faults.{IsFault, IsGraph}
use Rattle.checkpoint_reader.specs.Judging.{graph_of}
use Rattle.checkpoint_reader.proofs.Plans.{names_of}
use Rattle.checkpoint_reader.proofs.judged.judged.Goals as goal

pub feasible-requires-clause-names : goal.feasible-requires-clause-names
feasible-requires-clause-names c = names_of c.args.read c.requires c.in_default-unlike.is

pub returns-clause-exact : goal.returns-clause-exact
returns-clause-exact c = λ _.
    let g = graph_of c.args.read in
    let graph : IsGraph g = subst (λ (r : Result (Unit {0}) GraphFault). MatchResult r (λ _. IsGraph g) (IsFault g)) c.in_default.is (c.in_ok-fault.ensures) in
    (refl, graph, c.in_default-unlike.is, names_of c.args.read c.requires c.in_default-unlike.is, c.in_default-feasible.ensures)

pub returns-clause-restorable : goal.returns-clause-restorable
returns-clause-restorable c = record {
  meter = c.requires.meter;
  bounds = c.requires.cells.bounds;
  absent = c.requires.versions.absent;
  copies = c.requires.versions.copies c.in_default-unlike.is;
}
