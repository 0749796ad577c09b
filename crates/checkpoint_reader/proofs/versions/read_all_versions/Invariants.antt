use Rattle.std.proofs.Common.{◌≡◌, ◌-◌}
use Rattle.checkpoint_reader.specs.Reads.{turns}
use Rattle.checkpoint_reader.specs.Fields as spec
use Rattle.checkpoint_reader.specs.Numbered.{AreVersions}
use Rattle.checkpoint_reader.proofs.versions.read_all_versions.Given as goal

abbrev pub invariant-loop-index : goal.invariant-loop-index
invariant-loop-index l = AreVersions l.index l.versions × (turns (spec.next_version l.bytes l.texts) (l.count - l.index) l.versions l.spot ≡ turns (spec.next_version l.bytes l.texts) l.count (spec.no_versions l.known) l.fn.spot)
