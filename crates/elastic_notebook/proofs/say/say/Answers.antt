use Rattle.std.proofs.Common.{◌++◌, refl, ap, ◌∙◌, subst}
use Rattle.std.specs.Prelude.{List, ℕ}
use Rattle.nb_outside.specs.Streams.{Adds}
use Rattle.node_run.specs.Frames.{AddsFront}
use Rattle.elastic_notebook.proofs.Telling.{said_answered, told_all, told_front}
use Rattle.elastic_notebook.proofs.say.say.Goals as goal

pub returns-in-Ok-write_all-clause-said : goal.returns-in-Ok-write_all-clause-said
returns-in-Ok-write_all-clause-said g c =
    let t = c.in-End.ensures.taken in
    let bytes = c.as_slice.ensures.value ∙ (t.2 tt ∙ ap (λ (xs : List ℕ). xs ++ t.0) c.new-bytes.ensures.items) in
    let text = c.as_bytes.ensures.value ∙ c.as_str.ensures in
    let adds = subst (Adds (g.K.Sink.written c.args.sink.now) (g.K.Sink.written c.write_all.new.sink)) text c.in-Ok-write_all.ensures.ok in
    told_all c.args.question.now c.in-Ok.said.status _ _ _ _ t.0 c.in-Ok.said.text c.as_slice.result.now bytes c.in-Ok.ensures adds (c.in-End.ensures.end refl) t.1

pub returns-clause-said : goal.returns-clause-said
returns-clause-said g c =
    let t = c.in-End.ensures.taken in
    let bytes = c.as_slice.ensures.value ∙ (t.2 tt ∙ ap (λ (xs : List ℕ). xs ++ t.0) c.new-bytes.ensures.items) in
    let text = c.as_bytes.ensures.value ∙ c.as_str.ensures in
    let adds = subst (AddsFront (g.K.Sink.written c.args.sink.now) (g.K.Sink.written c.write_all.new.sink)) text c.in-Err.ensures.err in
    told_front c.args.question.now c.in-Ok.said.status _ _ _ _ t.0 c.in-Ok.said.text c.as_slice.result.now bytes c.in-Ok.ensures adds (c.in-End.ensures.end refl) t.1

pub returns-in-Ok-write_all-clause-answered : goal.returns-in-Ok-write_all-clause-answered
returns-in-Ok-write_all-clause-answered g c = said_answered c.args.question.now c.as_slice.result.now c.in-Ok.said.status c.in-Ok.said.text c.in-Ok.ensures
