use Rattle.std.proofs.Common.{◌≡◌, ◌++◌, ◌+◌, length, take, drop, refl, arith}
use Rattle.std.proofs.lemmas.List.{drop-drop, length-take-le, take_rest}
use Rattle.nb_links.proofs.Giving.{taken}
use Rattle.nb_links.proofs.mem_link.MemLinkLink.poll.Goals as goal

pub returns-clause-bytes : goal.returns-clause-bytes
returns-clause-bytes c =
    let n = c.fill-count.result in
    let at = c.args.self.now.at in
    let items = c.args.self.now.bytes.items in
    let part = take n c.fill-count.new.into in
    let parted : drop at items ≡ part ++ drop (at + n) items =
    rw (← drop-drop n at items) (rw (c.deref.ensures.value, take_rest items at) at c.fill-count.ensures.parted) in
    let within : length part ≡ n = length-take-le n c.fill-count.new.into (omega arith) in
    let whole = taken at items part (drop (at + n) items) (omega arith) parted in
    let gave : take (at + n) items ≡ take at items ++ part = rw within at whole in
    (omega arith, omega arith, (drop (at + n) items, parted, rw gave refl))
