use Rattle.std.proofs.Common.{◌++◌, Bool, List, [], ℕ, cond, ap, sym, ◌∙◌, subst, append_assoc}
use Rattle.std.proofs.lemmas.List.{append-nil}
use Rattle.part_bytes.specs.Texts.{part_text2}
use Rattle.checkpoint_bytes.specs.Texts as spec
use Rattle.checkpoint_bytes.specs.Written.{AddsFront}
use Rattle.checkpoint_bytes.proofs.Written.{map_err}
use Rattle.checkpoint_bytes.proofs.pieces.put_version.Goals as goal

pub returns-then-copied-clause-err : goal.returns-then-copied-clause-err
returns-then-copied-clause-err g c =
    let plain : List ℕ = spec.plain_version_bytes c.args.copied c.args.version.now in
    let part : List ℕ = part_text2 c.args.texts.now c.args.state.now c.args.version.now.names in
    let is = ap (λ (zs : List ℕ). zs ++ part) c.in_ok-write_version.ensures.bytes ∙ append_assoc c.args.held.now plain part
    ∙ ap (λ (b : Bool). c.args.held.now ++ (plain ++ cond b part [])) (sym c.if-copied.true) in
    map_err c.put_part.result c.put_part.ensures.err (subst (AddsFront (g.K.Sink.written c.args.sink.now) (g.K.Sink.written c.put_part.new.sink)) is)

pub returns-clause-err : goal.returns-clause-err
returns-clause-err g c =
    let plain : List ℕ = spec.plain_version_bytes c.args.copied c.args.version.now in
    let part : List ℕ = part_text2 c.args.texts.now c.args.state.now c.args.version.now.names in
    let is = c.in_ok-write_version.ensures.bytes ∙ ap (λ (zs : List ℕ). c.args.held.now ++ zs) (sym (append-nil plain))
    ∙ ap (λ (b : Bool). c.args.held.now ++ (plain ++ cond b part [])) (sym c.if-copied.false) in
    map_err c.flush_much.result c.flush_much.ensures.err (subst (AddsFront (g.K.Sink.written c.args.sink.now) (g.K.Sink.written c.flush_much.new.sink)) is)
