use Rattle.graph_model.specs.declared.graph.CellRecord.{CellRecord}
use Rattle.std.proofs.Common.{◌≡◌, true}
use Rattle.graph_model.specs.Marks.{WroteOldOf}
use Rattle.graph_model.proofs.Lookups.{of_cell}
use Rattle.cut_network.proofs.stuck.leads_on.Goals as goal

pub returns-in-Some-clause-drew : goal.returns-in-Some-clause-drew
returns-in-Some-clause-drew c = λ h. c.record_leads.ensures.drew (of_cell (λ (x : CellRecord). x.drew ≡ true) c.args.graph.now c.args.c _ h.0 c.in-Some.ensures h.1 h.2)

pub returns-in-Some-clause-before : goal.returns-in-Some-clause-before
returns-in-Some-clause-before c = λ w r.
    c.record_leads.ensures.before w (of_cell (λ (x : CellRecord). WroteOldOf c.args.graph.now x.reads w) c.args.graph.now c.args.c _ r.0 c.in-Some.ensures r.3 (r.1, r.4, (r.2, r.5, r.6, r.7)))
