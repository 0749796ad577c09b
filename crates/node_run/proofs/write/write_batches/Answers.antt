use Rattle.std.proofs.Common.{◌≡◌, ◌++◌, [], subst, true-eqb, arith}
use Rattle.nb_outside.specs.Streams.{Adds}
use Rattle.node_run.specs.Frames.{journal_frames, parts_together, AddsFront, AddsBatchBefore, WritesSoFar}
use Rattle.node_run.proofs.Streaming.{map_ok, map_err}
use Rattle.node_run.proofs.Stopping.{fault_alike}
use Rattle.node_run.proofs.Batching.{halves, none_batched, more_batched, all_batched, front_batched, next_front, stops_in_batch}
use Rattle.node_run.proofs.Serving.{none_left}
use Rattle.node_run.proofs.write.write_batches.Goals as goal

pub loop-rest-init : goal.loop-rest-init
loop-rest-init g c = (
  none_batched (g.K.Sink.written c.args.sink.now) c.args.kernel c.args.entries.now c.new-parts.result.items c.new-parts.ensures.items,
  omega arith,
)

pub loop-rest-preserved : goal.loop-rest-preserved
loop-rest-preserved g c =
    let mid = g.K.Sink.written c.loop-rest.sink in
    let new = g.K.Sink.written c.write_next.new.sink in
    let batch = c.split_at.result.0.now in
    let cut = halves c.batch_len.result c.loop-rest.rest.now batch c.split_at.result.1.now c.split_at.ensures.front c.split_at.ensures.back in
    let step = subst (λ ps. WritesSoFar mid new (parts_together ps ++ journal_frames c.args.kernel c.loop-rest.running batch) (parts_together c.in-Ok.made.parts.items)) c.as_slice.ensures.value c.in-Ok.ensures.ok in (
      more_batched (g.K.Sink.written c.args.sink.now) mid new c.args.kernel c.loop-rest.running c.in-Ok.made.next c.args.entries.now c.loop-rest.rest.now batch c.split_at.result.1.now c.loop-rest.parts.items
          c.in-Ok.made.parts.items c.loop-rest.invariant.0 cut c.in-Ok.ensures.next step,
      omega (arith, c.in-Ok.ensures.faults_stay, c.loop-rest.invariant.1),
    )

pub returns-in-Err-clause-err : goal.returns-in-Err-clause-err
returns-in-Err-clause-err g c =
    let mid = g.K.Sink.written c.loop-rest.sink in
    let new = g.K.Sink.written c.write_next.new.sink in
    let batch = c.split_at.result.0.now in
    let cut = halves c.batch_len.result c.loop-rest.rest.now batch c.split_at.result.1.now c.split_at.ensures.front c.split_at.ensures.back in
    next_front (g.K.Sink.written c.args.sink.now) mid new c.args.kernel c.loop-rest.running c.args.entries.now c.loop-rest.rest.now batch c.split_at.result.1.now c.loop-rest.parts.items c.loop-rest.invariant.0 cut
    (subst (λ ps. AddsFront mid new (parts_together ps ++ journal_frames c.args.kernel c.loop-rest.running batch)) c.as_slice.ensures.value c.in-Err.ensures.err)

pub returns-in-Err-clause-memory : goal.returns-in-Err-clause-memory
returns-in-Err-clause-memory g c = λ is.
    let mid = g.K.Sink.written c.loop-rest.sink in
    let new = g.K.Sink.written c.write_next.new.sink in
    let batch = c.split_at.result.0.now in
    let cut = halves c.batch_len.result c.loop-rest.rest.now batch c.split_at.result.1.now c.split_at.ensures.front c.split_at.ensures.back in
    stops_in_batch (g.K.Sink.written c.args.sink.now) mid new c.args.kernel c.loop-rest.running c.args.entries.now c.loop-rest.rest.now batch c.split_at.result.1.now c.loop-rest.parts.items c.loop-rest.invariant.0 cut
    (subst (λ ps. AddsBatchBefore mid new (parts_together ps) c.args.kernel c.loop-rest.running batch) c.as_slice.ensures.value (c.in-Err.ensures.memory (fault_alike _ _ is)))

pub returns-clause-ok : goal.returns-clause-ok
returns-clause-ok g c =
    let mid = g.K.Sink.written c.loop-rest.sink in
    let new = g.K.Sink.written c.send_parts.new.sink in
    let none : c.loop-rest.rest.now ≡ [] = none_left c.loop-rest.rest.now (true-eqb _ 0 c.loop-rest-test.ensures) in
    map_ok c.send_parts.result c.send_parts.ensures.ok (λ adds. all_batched (g.K.Sink.written c.args.sink.now) mid new c.args.kernel c.loop-rest.running c.args.entries.now c.loop-rest.rest.now c.loop-rest.parts.items
    c.loop-rest.invariant.0 none (subst (λ ps. Adds mid new (parts_together ps)) c.as_slice-2.ensures.value adds))

pub returns-clause-err : goal.returns-clause-err
returns-clause-err g c =
    let mid = g.K.Sink.written c.loop-rest.sink in
    let new = g.K.Sink.written c.send_parts.new.sink in
    map_err c.send_parts.result c.send_parts.ensures.err (λ front. front_batched (g.K.Sink.written c.args.sink.now) mid new c.args.kernel c.loop-rest.running c.args.entries.now c.loop-rest.rest.now c.loop-rest.parts.items
    c.loop-rest.invariant.0 (subst (λ ps. AddsFront mid new (parts_together ps)) c.as_slice-2.ensures.value front))
