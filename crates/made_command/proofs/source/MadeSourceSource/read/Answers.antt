use Rattle.std.proofs.Common.{◌≡◌, ◌++◌, ◌+◌, take, drop, refl, arith}
use Rattle.std.proofs.lemmas.List.{drop-drop, take_rest}
use Rattle.made_command.proofs.source.MadeSourceSource.read.Goals as goal

pub returns-then-count-gt0-clause-bytes : goal.returns-then-count-gt0-clause-bytes
returns-then-count-gt0-clause-bytes c =
    let n = c.fill-count.result in
    let at = c.args.self.now.at in
    let bytes = c.args.self.now.bytes in
    let parted : drop at bytes ≡ take n c.fill-count.new.into ++ drop (at + n) bytes =
    rw (← drop-drop n at bytes) (rw (c.as_slice.ensures, take_rest bytes at) at c.fill-count.ensures.parted) in
    (omega arith, (drop (at + n) bytes, parted, refl), λ none. absurd (omega arith))
