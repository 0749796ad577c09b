use Rattle.std.proofs.Common.{◌≡◌, ◌∙◌, ap, sym, subst, false, codes}
use Rattle.std.specs.Prelude.{map}
use Rattle.std.proofs.lemmas.Result.{on_ok_weaker}
use Rattle.serde_json.specs.View.{items_of}
use Rattle.serde_json.specs.Written.{items_have_float}
use Rattle.reply_frames.specs.declared.lists.Listing.TheVariants as listing
use Rattle.reply_frames.specs.Frames as frames
use Rattle.reply_frames.specs.Replies as spec
use Rattle.reply_frames.proofs.Floats.{steps_no_float, arcs_no_float}
use Rattle.reply_frames.proofs.Saying.{say_three}
use Rattle.reply_frames.proofs.journal.say_adopted.Goals as goal

pub say_lists-requires : goal.say_lists-requires
say_lists-requires c = subst (λ ds. items_have_float (items_of ds) ≡ false) (sym c.in_ok-steps.ensures) (steps_no_float c.args.certified.now.plan)

pub say_lists-requires-2 : goal.say_lists-requires-2
say_lists-requires-2 c = subst (λ ds. items_have_float (items_of ds) ≡ false) (sym c.in_ok-arcs.ensures) (arcs_no_float c.as_slice.result.now)

pub returns : goal.returns
unfolding spec.adopted_said
returns c =
    let request = c.args.request.now in
    let certified = c.args.certified.now in
    let first = c.in_ok-say_lists.ensures ∙ ap (λ ds. frames.say_all (spec.lists listing.Plan ds) c.args.outbox.now) c.in_ok-steps.ensures in
    let second = c.in_ok-say_lists-2.ensures ∙ ap (λ ds. frames.say_all (spec.lists listing.Flow ds) c.say_lists.new.outbox) (c.in_ok-arcs.ensures ∙ ap (map spec.arc_said) c.as_slice.ensures) in
    on_ok_weaker c.say_replied.result (λ is.
    say_three (spec.lists listing.Plan (spec.steps certified.plan)) (spec.lists listing.Flow (map spec.arc_said certified.arcs))
    (spec.move_reply request (spec.moved_content c.args.hosts.0 c.args.hosts.1 certified c.args.objects)) c.args.outbox.now c.say_lists.new.outbox c.say_lists-2.new.outbox c.say_replied.new.outbox first second
    (is ∙ ap (λ d. frames.say (spec.replied request (codes "migrate_reply") d) c.say_lists-2.new.outbox) c.in_ok-content.ensures)) c.say_replied.ensures
