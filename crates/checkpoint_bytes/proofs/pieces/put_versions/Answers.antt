use Rattle.std.proofs.Common.{◌++◌, List, ℕ, length, ap, ◌∙◌, subst, append_assoc}
use Rattle.part_bytes.specs.Texts.{four, by_number}
use Rattle.checkpoint_bytes.specs.Texts as spec
use Rattle.checkpoint_bytes.specs.Written.{AddsFront, WritesSoFar}
use Rattle.checkpoint_bytes.proofs.Written.{map_ok, map_err}
use Rattle.checkpoint_bytes.proofs.pieces.put_versions.Goals as goal

pub returns-clause-ok : goal.returns-clause-ok
returns-clause-ok g c =
    let each : List ℕ = spec.each_from (λ n version. spec.version_bytes (by_number c.args.texts.now) c.args.state.now (spec.lists c.args.plan.now.copied n) version) 1 c.args.versions.now in
    let is = ap (λ (zs : List ℕ). zs ++ each) c.in_ok-write_count.ensures.bytes ∙ append_assoc c.args.held.now (four (length c.args.versions.now)) each in
    map_ok c.put_each_version.result c.put_each_version.ensures.ok (subst (λ (zs : List ℕ). WritesSoFar (g.K.Sink.written c.args.sink.now) (g.K.Sink.written c.put_each_version.new.sink) zs c.put_each_version.new.held) is)

pub returns-clause-err : goal.returns-clause-err
returns-clause-err g c =
    let each : List ℕ = spec.each_from (λ n version. spec.version_bytes (by_number c.args.texts.now) c.args.state.now (spec.lists c.args.plan.now.copied n) version) 1 c.args.versions.now in
    let is = ap (λ (zs : List ℕ). zs ++ each) c.in_ok-write_count.ensures.bytes ∙ append_assoc c.args.held.now (four (length c.args.versions.now)) each in
    map_err c.put_each_version.result c.put_each_version.ensures.err (subst (AddsFront (g.K.Sink.written c.args.sink.now) (g.K.Sink.written c.put_each_version.new.sink)) is)
