-- What a session answers that never moved.
use Rattle.std.specs.Prelude.{Bool, List, [], Some, None, option_map, Ok, Err}
use Rattle.nb_outside.specs.declared.feed.Drawn.{Drawn}
use Rattle.py_heap.specs.declared.state.State.{State}
use Rattle.py_meaning.specs.Cells.{end}
use Rattle.py_reader.specs.Verdict.{Judged, verdict}
use Rattle.py_reader.specs.Completeness.{completeness_of}
use Rattle.py_reader.specs.declared.answer.Completeness.{Completeness}
use Rattle.py_reader.specs.declared.answer.Completeness.TheVariants as completeness
use Rattle.notebook_meaning.specs.Errors.{failure, refused}
use Rattle.run_graph.specs.RunLists.{ListedCell, raised}
use Rattle.session_core.specs.declared.request.Ask.{Ask}
use Rattle.session_core.specs.declared.request.Ask.TheVariants.{Execute, Info, Complete, Shutdown, Migrate}
use Rattle.session_core.specs.declared.reply.Completion.{Completion}
use Rattle.session_core.specs.declared.reply.Completion.TheVariants as completion
use Rattle.session_core.specs.declared.reply.Reply.{Reply}
use Rattle.session_core.specs.declared.reply.Reply.TheVariants as reply
use Rattle.notebook_meaning.specs.Cells.{cell_of, unmoved}

-- what a cell with this tree answers from a state, or what a code without a tree does
abbrev pub answer_from : State → Bool → List Drawn → Judged → Reply
answer_from s silent draws (Err fault) = reply.Executed s.count silent [] None (Some (refused fault))
answer_from s silent draws (Ok body) =
    let cell = end body s draws in
    reply.Executed s.count silent cell.printed cell.result (option_map failure cell.error)

abbrev pub completion_in : Completeness → Completion
completion_in completeness.Complete = completion.Complete
completion_in (completeness.Incomplete indent) = completion.Incomplete indent
completion_in completeness.Invalid = completion.Invalid

-- the answer to an ask with its draws after these cells; a move is answered by the journal
abbrev pub answer_after : List ListedCell → Ask → List Drawn → Reply
answer_after cells (Execute code silent store) draws = answer_from (raised (cell_of code silent store draws) (unmoved cells)) silent draws (verdict code)
answer_after cells Info draws = reply.Info
answer_after cells (Complete code) draws = reply.Complete (completion_in (completeness_of code (verdict code)))
answer_after cells (Shutdown restart) draws = reply.Shut restart
answer_after cells (Migrate to weights) draws = reply.Info
