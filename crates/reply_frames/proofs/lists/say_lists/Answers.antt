use Rattle.std.proofs.Common.{◌≡◌, suc, ◌+◌, ◌-◌, ◌<◌, length, ap, ◌∙◌, sym, arith}
use Rattle.std.specs.Prelude.{map}
use Rattle.serde_json.specs.View.{view}
use Rattle.reply_frames.specs.Frames as frames
use Rattle.reply_frames.specs.Replies as spec
use Rattle.reply_frames.proofs.Floats.{chunk_no_float, rest_no_float}
use Rattle.reply_frames.proofs.Chunking.{chunk_said, none_left, no_turn_left, some_there, none_there}
use Rattle.reply_frames.proofs.lists.say_lists.Goals.{else-loop-turn-test, then-loop-turn-test+then-is_empty}
use Rattle.reply_frames.proofs.lists.say_lists.Goals as goal

pub say_list-requires : goal.say_list-requires
say_list-requires c = chunk_no_float 4096 _ _ c.in_ok-chunk.ensures.0 c.loop-turn.invariant.0

pub loop-turn-preserved : goal.loop-turn-preserved
loop-turn-preserved c =
    let left = c.len-count.result - (c.loop-turn.turn + 1) in
    let turns : c.len-count.result - c.loop-turn.turn ≡ suc left = omega (arith, c.loop-turn-test.true) in
    let more = some_there _ c.if-is_empty.ensures in
    let some : 0 < length c.loop-turn.rest.items = omega (arith, more, c.loop-turn.rest.ok.0) in (
      rest_no_float 4096 _ _ c.in_ok-chunk.ensures.1 c.loop-turn.invariant.0,
      chunk_said c.args.which left 4096 _ _ _ c.loop-turn.outbox _ some c.in_ok-chunk.ensures.0 c.in_ok-chunk.ensures.1 c.in_ok-say_list.ensures
          ∙ ap (λ n. frames.say_all (map (spec.listed c.args.which) (spec.chunks n 4096 (map view c.loop-turn.rest.items))) c.loop-turn.outbox) (sym turns) ∙ c.loop-turn.invariant.1,
    )

pub returns : goal.returns
returns c = elim c.loop-turn-test.branch [
  | else-loop-turn-test w ↦
      let none : c.len-count.result - c.loop-turn.turn ≡ 0 = omega (arith, w.loop-turn-test.false, c.loop-turn.auto.turn-end) in
      sym (no_turn_left c.args.which 4096 (map view c.loop-turn.rest.items) c.loop-turn.outbox)
      ∙ ap (λ n. frames.say_all (map (spec.listed c.args.which) (spec.chunks n 4096 (map view c.loop-turn.rest.items))) c.loop-turn.outbox) (sym none)
      ∙ c.loop-turn.invariant.1
  | then-loop-turn-test+then-is_empty w ↦
      let none = none_there _ w.if-is_empty.ensures in
      let empty : length c.loop-turn.rest.items ≡ 0 = omega (arith, none, c.loop-turn.rest.ok.0) in
      sym (none_left c.args.which _ 4096 _ c.loop-turn.outbox empty) ∙ c.loop-turn.invariant.1
]
