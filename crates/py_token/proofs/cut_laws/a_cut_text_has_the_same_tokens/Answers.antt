use Rattle.py_token.proofs.Cutting.{cuts}
use Rattle.py_token.proofs.cut_laws.a_cut_text_has_the_same_tokens.Goals as goal

pub returns : goal.returns
returns c = λ code before middle after first last end h f l n line top. cuts code before middle after first last end h f l n line top
