use Rattle.std.proofs.Common.{◌<◌, sym, subst}
use Rattle.node_run.proofs.Keeping.{alike_read, alike_numbered, alike_on, alike_length}
use Rattle.node_serve.proofs.Tellings.{next_entry, fronts_read}
use Rattle.node_serve.proofs.telling.next_frames.Goals as goal

pub set_next-requires : goal.set_next-requires
set_next-requires g c =
    let size = alike_length c.args.desk.now c.read.new.self (alike_read c.args.desk.now c.read.new.self c.args.at c.in-Some.next c.in-Some.ensures) in
    subst (λ n. c.args.at < n) (sym size) c.requires.at

pub returns-in-Ok-clause-same : goal.returns-in-Ok-clause-same
returns-in-Ok-clause-same g c =
    alike_on c.args.desk.now c.read.new.self c.set_next.new.self (alike_read c.args.desk.now c.read.new.self c.args.at c.in-Some.next c.in-Some.ensures)
    (alike_numbered c.read.new.self c.set_next.new.self c.args.at c.in-Ok.number c.set_next.ensures)

pub returns-in-Ok-clause-next : goal.returns-in-Ok-clause-next
returns-in-Ok-clause-next g c = λ counted.
    next_entry c.args.desk.now c.read.new.self c.set_next.new.self c.args.at c.in-Ok.number c.in-Some.next c.in-Ok.frames c.in-Some.ensures c.set_next.ensures counted c.in-Ok.ensures.bytes c.in-Ok.ensures.next

pub returns-in-Err-clause-err : goal.returns-in-Err-clause-err
returns-in-Err-clause-err g c = (
  alike_read c.args.desk.now c.read.new.self c.args.at c.in-Some.next c.in-Some.ensures,
  fronts_read c.args.desk.now c.read.new.self c.args.at c.in-Some.next c.in-Some.ensures,
)
