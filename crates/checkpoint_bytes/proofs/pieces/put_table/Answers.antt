use Rattle.std.proofs.Common.{◌+◌, ◌++◌, List, ℕ, length, take, ap, sym, ◌∙◌, subst, append_assoc, arith}
use Rattle.std.specs.List.{flat_map}
use Rattle.std.proofs.lemmas.List.{append-nil, take_all}
use Rattle.part_bytes.specs.Texts.{four, text_bytes}
use Rattle.checkpoint_bytes.specs.Written.{AddsFront, WritesSoFar}
use Rattle.checkpoint_bytes.proofs.Written.{all_held, on_err}
use Rattle.checkpoint_bytes.proofs.Tables.{put_item, put_item_front}
use Rattle.checkpoint_bytes.proofs.pieces.put_table.Goals as goal

pub loop-number-init : goal.loop-number-init
loop-number-init g c =
    let begun : List ℕ = c.args.held.now ++ four (length c.args.texts.now) in
    let is = c.in_ok-write_four.ensures ∙ (ap (λ (n : ℕ). c.args.held.now ++ four n) c.len-count.ensures ∙ sym (append-nil begun)) in
    record {
      written = subst (λ (zs : List ℕ). WritesSoFar (g.K.Sink.written c.args.sink.now) (g.K.Sink.written c.args.sink.now) zs c.write_four.new.out) is (all_held (g.K.Sink.written c.args.sink.now) c.write_four.new.out);
      stay = omega arith;
    }

pub loop-number-preserved : goal.loop-number-preserved
loop-number-preserved g c = record {
  written = put_item _ _ _ text_bytes (c.args.held.now ++ four (length c.args.texts.now)) c.args.texts.now c.loop-number.number c.text.result.now c.text.ensures c.loop-number.held
      c.loop-number.invariant.written c.put_text.new.held c.in_ok-put_text.ensures.ok;
  stay = omega (arith, c.loop-number.invariant.stay, c.in_ok-put_text.ensures.faults_stay);
}

pub returns-in_err-put_text-clause-err : goal.returns-in_err-put_text-clause-err
returns-in_err-put_text-clause-err g c =
    let begun : List ℕ = c.args.held.now ++ four (length c.args.texts.now) in
    on_err c.from_residual-in_err-put_text.result (subst (AddsFront (g.K.Sink.written c.args.sink.now) (g.K.Sink.written c.put_text.new.sink))
    (append_assoc c.args.held.now (four (length c.args.texts.now)) (flat_map text_bytes c.args.texts.now))
    (put_item_front _ _ _ text_bytes begun c.args.texts.now c.loop-number.number c.text.result.now c.text.ensures c.loop-number.held c.loop-number.invariant.written c.in_err-put_text.ensures.err))

pub returns-clause-ok : goal.returns-clause-ok
returns-clause-ok g c =
    let begun : List ℕ = c.args.held.now ++ four (length c.args.texts.now) in
    let all = take_all c.loop-number.number c.args.texts.now (omega (arith, c.loop-number-test.false, c.len-count.ensures)) in
    subst (λ (zs : List ℕ). WritesSoFar (g.K.Sink.written c.args.sink.now) (g.K.Sink.written c.loop-number.sink) zs c.loop-number.held)
    (ap (λ (ts : List (List ℕ)). begun ++ flat_map text_bytes ts) all ∙ append_assoc c.args.held.now (four (length c.args.texts.now)) (flat_map text_bytes c.args.texts.now))
    c.loop-number.invariant.written
