use Rattle.std.proofs.Common.{IsUtf8, sym, ◌∙◌, subst}
use Rattle.py_token.proofs.Quoted.{written_utf8}
use Rattle.py_token.proofs.texts.text_at.Goals as goal

pub text_of-requires : goal.text_of-requires
text_of-requires c =
    subst IsUtf8 (sym c.as_slice.ensures)
    (written_utf8 c.args.quote c.args.rest.now c.in-Closed.written c.in-Closed.width c.requires.ascii c.requires.text (sym c.in-Closed.is ∙ c.in_ok-body.ensures.value))
