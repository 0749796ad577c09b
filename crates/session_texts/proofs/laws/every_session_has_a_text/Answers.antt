use Rattle.std.proofs.Common.{refl}
use Rattle.session_texts.proofs.Written.{graph_of_run, plain_of_run, text_of_run, text_of_standing}
use Rattle.session_texts.proofs.laws.every_session_has_a_text.Goals as goal

pub returns-clause-graph : goal.returns-clause-graph
returns-clause-graph c = λ served run. graph_of_run served run

pub returns-clause-text : goal.returns-clause-text
returns-clause-text c = λ served run words g of p plan feasible. record { graph = g; is_graph = of; has_text = text_of_run served run words g of p plan feasible; text = refl }

pub returns-clause-standing : goal.returns-clause-standing
returns-clause-standing c = λ served run words g t stands p plan feasible. text_of_standing served run words g t stands p plan feasible

pub returns-clause-plain : goal.returns-clause-plain
returns-clause-plain c = λ served run words g of p. plain_of_run served run words g of p
