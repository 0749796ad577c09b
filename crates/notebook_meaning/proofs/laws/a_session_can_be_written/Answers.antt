use Rattle.notebook_meaning.proofs.Written.{text_alike, has_text, tells, all_bounded}
use Rattle.notebook_meaning.proofs.laws.a_session_can_be_written.Goals as goal

pub returns-clause-text : goal.returns-clause-text
returns-clause-text c = λ cells g t p stands. text_alike cells g t stands p

pub returns-clause-has_text : goal.returns-clause-has_text
returns-clause-has_text c = λ cells g t p codes stands of names feasible plain. has_text cells codes g of t stands p names feasible plain

pub returns-clause-tells : goal.returns-clause-tells
returns-clause-tells c = λ cells g t codes stands of. tells cells codes g of t stands

pub returns-clause-bounds : goal.returns-clause-bounds
returns-clause-bounds c = λ cells g codes of. all_bounded cells codes g of
