use Rattle.std.proofs.Common.{◌++◌, List, ℕ, OnOk, OnErr, ap, ◌∙◌, subst}
use Rattle.nb_outside.specs.Streams.{Adds}
use Rattle.part_bytes.specs.Texts.{part_text2}
use Rattle.checkpoint_bytes.specs.Written.{AddsFront, WritesSoFar}
use Rattle.checkpoint_bytes.proofs.Written.{both_added, front_first, front_second, none_held, map_ok, map_err, on_err}
use Rattle.checkpoint_bytes.proofs.pieces.put_part.Goals as goal

pub returns-then-len-lt-HELD-clause-ok : goal.returns-then-len-lt-HELD-clause-ok
returns-then-len-lt-HELD-clause-ok g c =
    let is = c.in_ok-extend_from_slice.ensures.ok ∙ ap (λ (zs : List ℕ). c.args.held.now ++ zs) (c.as_slice-then-len-lt-HELD.ensures ∙ c.in_ok-part.ensures.bytes ∙ ap (λ (ns : List (List ℕ)). part_text2 c.args.texts.now c.args.state.now ns) c.as_slice.ensures) in
    map_ok c.flush_much.result c.flush_much.ensures.ok (subst (λ zs. WritesSoFar (g.K.Sink.written c.args.sink.now) (g.K.Sink.written c.flush_much.new.sink) zs c.flush_much.new.held) is)

pub returns-then-len-lt-HELD-clause-err : goal.returns-then-len-lt-HELD-clause-err
returns-then-len-lt-HELD-clause-err g c =
    let is = c.in_ok-extend_from_slice.ensures.ok ∙ ap (λ (zs : List ℕ). c.args.held.now ++ zs) (c.as_slice-then-len-lt-HELD.ensures ∙ c.in_ok-part.ensures.bytes ∙ ap (λ (ns : List (List ℕ)). part_text2 c.args.texts.now c.args.state.now ns) c.as_slice.ensures) in
    map_err c.flush_much.result c.flush_much.ensures.err (subst (AddsFront (g.K.Sink.written c.args.sink.now) (g.K.Sink.written c.flush_much.new.sink)) is)

pub returns-in_err-flush-clause-err : goal.returns-in_err-flush-clause-err
returns-in_err-flush-clause-err g c = on_err c.from_residual-in_err-flush.result (front_first _ _ c.args.held.now (part_text2 c.args.texts.now c.args.state.now c.args.version.now.names) c.in_err-flush.ensures.err)

pub returns-clause-ok : goal.returns-clause-ok
returns-clause-ok g c =
    let is = c.as_slice-2.ensures ∙ c.in_ok-part.ensures.bytes ∙ ap (λ (ns : List (List ℕ)). part_text2 c.args.texts.now c.args.state.now ns) c.as_slice.ensures in
    map_ok c.send.result c.send.ensures.ok (λ adds. none_held _ _ _ _ (subst (λ zs. Adds (g.K.Sink.written c.args.sink.now) (g.K.Sink.written c.send.new.sink) (c.args.held.now ++ zs)) is
    (both_added _ _ _ _ _ c.in_ok-flush.ensures.ok adds)) c.in_ok-flush.ensures.empty)

pub returns-clause-err : goal.returns-clause-err
returns-clause-err g c =
    let is = c.as_slice-2.ensures ∙ c.in_ok-part.ensures.bytes ∙ ap (λ (ns : List (List ℕ)). part_text2 c.args.texts.now c.args.state.now ns) c.as_slice.ensures in
    map_err c.send.result c.send.ensures.err (λ front. subst (λ zs. AddsFront (g.K.Sink.written c.args.sink.now) (g.K.Sink.written c.send.new.sink) (c.args.held.now ++ zs)) is
    (front_second _ _ _ _ _ c.in_ok-flush.ensures.ok front))
