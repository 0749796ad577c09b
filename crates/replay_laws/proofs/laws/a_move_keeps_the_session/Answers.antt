use Rattle.std.proofs.Common.{subst, add-one}
use Rattle.std.specs.Prelude.{Contains}
use Rattle.graph_model.specs.Graphs.{CellAt}
use Rattle.replay_laws.proofs.GoingOn.{never_asks_so, moved, equal_so, tidied_so}
use Rattle.replay_laws.proofs.laws.a_move_keeps_the_session.Goals as goal

pub returns-clause-never_asks : goal.returns-clause-never_asks
returns-clause-never_asks c = λ read copy size entries g t p stands names feasible copies n u x walked rerun at.
    never_asks_so read size entries g t stands p copy names feasible copies n u x walked (subst (Contains p.rerun) (add-one n) rerun) (subst (λ m. CellAt g m x) (add-one n) at)

pub returns-clause-moves : goal.returns-clause-moves
returns-clause-moves c = λ read copy size entries g t p stands names feasible copies u walked. moved read size entries g t stands p copy names feasible copies u walked

pub returns-clause-equal : goal.returns-clause-equal
returns-clause-equal c = λ read copy size entries g t p stands names feasible copies u v w walked before after.
    equal_so read size entries g t stands p copy names feasible copies u v w walked before after

pub returns-clause-tidies : goal.returns-clause-tidies
returns-clause-tidies c = λ read size entries g t u stands tidied. tidied_so read size entries g t stands u tidied
