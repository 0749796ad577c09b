use Rattle.std.proofs.Common.{◌∙◌, ap, sym, take, drop}
use Rattle.plain_data.proofs.CutLaws.{cut_within-is}
use Rattle.plain_data.proofs.cut.cut_at.Goals as goal

pub returns-clause-front : goal.returns-clause-front
returns-clause-front c =
    let e = c.floor_char_boundary.ensures in
    c.split_at.ensures.front ∙ ap (λ n. take n c.args.text.now) (sym (cut_within-is c.args.most _ c.args.text.now e.bound e.boundary e.nearest))

pub returns-clause-back : goal.returns-clause-back
returns-clause-back c =
    let e = c.floor_char_boundary.ensures in
    c.split_at.ensures.back ∙ ap (λ n. drop n c.args.text.now) (sym (cut_within-is c.args.most _ c.args.text.now e.bound e.boundary e.nearest))
