use Rattle.std.proofs.Common.{sym, ◌∙◌}
use Rattle.py_token.proofs.Quoted.{after_quote}
use Rattle.py_token.proofs.lexemes.lexeme_at.Goals as goal

pub text_at-requires-clause-text : goal.text_at-requires-clause-text
text_at-requires-clause-text c = after_quote c.args.bytes.now c.in-len1-up.len_at_least (sym c.is_quote.ensures ∙ c.if-is_quote.true) c.requires.text
