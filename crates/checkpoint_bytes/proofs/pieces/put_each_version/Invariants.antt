use Rattle.std.proofs.Common.{◌≡◌, ℕ, ◌+◌, ◌<◌, ◌≤◌, ◌++◌, take, get_or}
use Rattle.std.specs.List.{AllWithin}
use Rattle.graph_model.specs.declared.graph.Version.{Version}
use Rattle.checkpoint_bytes.specs.Plain.{IsPlainVersion, IsPlainIfCopied}
use Rattle.part_bytes.specs.Texts.{by_number}
use Rattle.checkpoint_bytes.specs.Texts as spec
use Rattle.checkpoint_bytes.specs.Written.{WritesSoFar}
use Rattle.checkpoint_bytes.proofs.pieces.put_each_version.Given as goal

abbrev pub invariant-loop-index : goal.invariant-loop-index
invariant-loop-index g l = record {
  written : WritesSoFar (g.K.Sink.written l.initial.sink) (g.K.Sink.written l.sink) (l.initial.held ++ spec.each_from (λ n version. spec.version_bytes (by_number l.texts) l.state (spec.lists l.plan.copied n) version) 1 (take l.index l.versions)) l.held;
  stay : g.K.Sink.faults l.initial.sink ≤ g.K.Sink.faults l.sink;
  plain : AllWithin IsPlainVersion l.versions 0 l.index;
  parts : (k : ℕ) (d : Version) → k < l.index → IsPlainIfCopied l.state l.plan (k + 1) (get_or l.versions k d);
}
