use Rattle.std.proofs.Common.{sym, ◌∙◌}
use Rattle.py_value.specs.Reprs.{quoted}
use Rattle.py_show.proofs.Limiting.{past_room}
use Rattle.py_show.proofs.quoted.put_quoted.Goals as goal

pub returns : goal.returns
returns c =
    let told = rw (c.as_str.ensures, c.room.ensures.value) at c.quoted_fits-fits.ensures in
    c.lose.ensures ∙ sym (past_room c.args.out.now (quoted c.args.text.now) (sym told ∙ c.if-fits.false))
