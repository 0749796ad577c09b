use Rattle.node_run.proofs.Seating.{read_there}
use Rattle.node_run.proofs.Keeping.{readable_at, has_read, none_read}
use Rattle.node_run.proofs.desk.read_at.Goals as goal

pub next_entry-requires : goal.next_entry-requires
next_entry-requires g c =
    let os = c.args.sessions.now.items in
    let o = c.index_mut-opened.result.now in
    let there = read_there os c.args.at o c.requires.at c.index_mut-opened.ensures.value in
    readable_at os g.N.Name.queues c.args.at o c.args.cell.now.0 c.requires.readable there c.requires.cell

pub returns-in-None : goal.returns-in-None
returns-in-None g c =
    let os = c.args.sessions.now.items in
    let o = c.index_mut-opened.result.now in
    none_read os c.args.at o c.next_entry.new.reader (read_there os c.args.at o c.requires.at c.index_mut-opened.ensures.value) c.in-None.ensures

pub returns-in-Some : goal.returns-in-Some
returns-in-Some g c =
    let os = c.args.sessions.now.items in
    let o = c.index_mut-opened.result.now in
    has_read os c.args.at o c.in-Some.entry c.next_entry.new.reader (read_there os c.args.at o c.requires.at c.index_mut-opened.ensures.value) c.in-Some.ensures
