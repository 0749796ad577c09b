use Rattle.std.proofs.Common.{◌≡◌, ◌+◌, slice_get, sym, ap, ◌∙◌, arith}
use Rattle.std.proofs.lemmas.Option.{slice_get_read}
use Rattle.host_workers.proofs.Numbering.{numbered_at}
use Rattle.host_workers.proofs.hosts.Hosts.cell.Goals as goal

pub returns : goal.returns
returns g c =
    let found = c.index-cell.result.now in
    let cells = c.self.inside.cells.items in
    let at : found.1 ≡ 0 + c.args.session = numbered_at 0 cells c.args.session found c.self.invariant.numbered (slice_get_read cells 256 c.args.session found (sym c.self.invariant.all) c.requires c.index-cell.ensures) in
    let same : found.1 ≡ c.args.session = omega arith in
    (ap (slice_get g.N.Name.queues) (sym same) ∙ c.is_listed.ensures, same)
