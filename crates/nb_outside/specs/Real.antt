-- The source and the sink over any reader and writer, when they have counted nothing yet.
use Rattle.std.specs.Prelude.{◌≡◌}
use Rattle.nb_outside.specs.declared.real.StdSource.{StdSource}
use Rattle.nb_outside.specs.declared.real.StdSink.{StdSink}

abbrev pub IsNewSource : {R : Type 0} → StdSource R → Type 0
IsNewSource source = (source.reads ≡ 0) × (source.faults ≡ 0)

abbrev pub IsNewSink : {W : Type 0} → StdSink W → Type 0
IsNewSink sink = sink.faults ≡ 0
