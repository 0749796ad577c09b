use Rattle.std.proofs.Common.{◌++◌, ◌≤◌, ◌<◌, length, Some, sym, ap, ◌∙◌, length-append, arith}
use Rattle.py_show.proofs.Limiting.{limited_short, limited_long}
use Rattle.py_show.proofs.limited.grown.Goals as goal
use Rattle.py_show.proofs.limited.grown.Goals.{then-held-gt-MAX_BYTES-via-then-held-gt-MAX_BYTES, then-held-gt-MAX_BYTES-via-else-held-gt-MAX_BYTES+then-more-held}

pub returns-then-held-gt-MAX_BYTES : goal.returns-then-held-gt-MAX_BYTES
returns-then-held-gt-MAX_BYTES c =
    let joined = length-append c.args.text c.args.more.now in
    let long : 16777216 < length (c.args.text ++ c.args.more.now) =
    elim c.then-held-gt-MAX_BYTES.branch [ then-held-gt-MAX_BYTES-via-then-held-gt-MAX_BYTES w ↦ omega arith | then-held-gt-MAX_BYTES-via-else-held-gt-MAX_BYTES+then-more-held w ↦ omega arith ] in
    sym (limited_long (c.args.text ++ c.args.more.now) long)

pub returns : goal.returns
returns c =
    let joined = length-append c.args.text c.args.more.now in
    let short : length (c.args.text ++ c.args.more.now) ≤ 16777216 = omega arith in
    ap (λ t. Some t) c.in_ok-push_str.ensures.ok ∙ sym (limited_short (c.args.text ++ c.args.more.now) short)
