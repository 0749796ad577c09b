use Rattle.node_run.specs.Ends.{IsCaused}
use Rattle.unmoved_sessions.proofs.Streaming.{stream_answered}
use Rattle.unmoved_sessions.proofs.streams.a_stream_of_cells_is_answered_as_by_a_session_that_never_moves.Goals as goal

pub returns : goal.returns
returns c = λ hosts status gives faults_old faults_new reads_old reads_new bytes left sink_old sink_new cut s are hosted few cells streams.
    stream_answered hosts gives bytes left cut s are hosted few cells (IsCaused faults_old faults_new reads_old reads_new) status sink_old sink_new streams
