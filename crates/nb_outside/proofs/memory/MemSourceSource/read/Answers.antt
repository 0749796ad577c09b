use Rattle.std.proofs.Common.{◌≡◌, ◌++◌, ◌+◌, take, drop, refl, arith}
use Rattle.std.proofs.lemmas.List.{drop-drop, take_rest}
use Rattle.nb_outside.proofs.memory.MemSourceSource.read.Goals as goal

pub returns-then-count-gt0-clause-bytes : goal.returns-then-count-gt0-clause-bytes
returns-then-count-gt0-clause-bytes c =
    let n = c.fill-count.result in
    let at = c.args.self.now.at in
    let items = c.args.self.now.bytes.items in
    let parted : drop at items ≡ take n c.fill-count.new.into ++ drop (at + n) items =
    rw (← drop-drop n at items) (rw (c.deref.ensures.value, take_rest items at) at c.fill-count.ensures.parted) in
    (omega arith, (drop (at + n) items, parted, refl), λ none. absurd (omega arith))
