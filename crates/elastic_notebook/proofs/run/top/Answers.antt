use denote.Param.Send.{sendable}
use Rattle.std.proofs.Common.{ℕ, [], map, string_bytes, subst}
use Rattle.graph_model.specs.declared.plan.Weights.{Weights}
use Rattle.command_words.specs.Grammar.{IsCommand}
use Rattle.command_words.specs.declared.words.Command.{Command}
use Rattle.command_words.specs.declared.words.Command.TheVariants as command
use Rattle.command_words.proofs.OneCommand.{one_command}
use Rattle.node_intake.proofs.Taking.{Takes-none}
use Rattle.node_run.specs.Ends.{IsCaused}
use Rattle.node_run.specs.Streams.{StreamsTold}
use Rattle.node_run.proofs.Ending.{told_nothing}
use Rattle.notebook_meaning.specs.Notebooks.{notebooks}
use Rattle.notebook_engine.proofs.Crossing.{Notebook-send}
use Rattle.save_command.specs.Saved.{SavesTold}
use Rattle.node_serve.specs.Doors.{LinksServed}
use Rattle.made_command.specs.Counting.{MadeTold}
use Rattle.elastic_notebook.specs.declared.say.Question.TheVariants as question
use Rattle.elastic_notebook.specs.Saying.{SaysTold}
use Rattle.elastic_notebook.specs.Statuses.{IsStatusOf}
use Rattle.elastic_notebook.proofs.Commands.{few_made, no_command, no_made, no_plan, no_restore, no_save, no_serve, one_count, one_made, one_plan, one_save, one_serve, run_status, some_command}
use Rattle.elastic_notebook.proofs.run.top.Goals as goal

pub returns-in-Ok-Some-Run-clause-streams : goal.returns-in-Ok-Some-Run-clause-streams
returns-in-Ok-Some-Run-clause-streams g c = λ hosts workers is.
    subst (λ (n : ℕ). StreamsTold notebooks n (g.D.Feeds.gives c.args.feeds.now) (IsCaused (g.S.Source.faults c.args.source.now) (g.S.Source.faults c.run_stream.new.source) (g.S.Source.reads c.args.source.now) (g.S.Source.reads c.run_stream.new.source)) c.run_stream.result (g.S.Source.left c.args.source.now) (g.S.Source.left c.run_stream.new.source) (g.K.Sink.written c.args.sink.now) (g.K.Sink.written c.run_stream.new.sink))
    (one_count (map string_bytes c.args.words.now) c.in-Ok-Some-Run.hosts c.in-Ok-Some-Run.workers hosts workers (some_command _ _ _ _ (IsCommand (map string_bytes c.args.words.now)) c.in-Ok-Some-Run.field-0-is c.in-Ok-Some-Run.field-0-0-is c.in-Ok-Some-Run.ensures.command) is) c.run_stream.ensures.streams

pub returns-in-Ok-Some-Save-clause-saved : goal.returns-in-Ok-Some-Save-clause-saved
returns-in-Ok-Some-Save-clause-saved g c = λ w is.
    subst (λ (v : Weights). SavesTold (g.D.Feeds.gives c.args.feeds.now) v c.save.result (g.S.Source.left c.args.source.now) (g.S.Source.left c.save.new.source) (g.K.Sink.written c.args.sink.now) (g.K.Sink.written c.save.new.sink))
    (one_save (map string_bytes c.args.words.now) c.in-Ok-Some-Save.weights w (some_command _ _ _ _ (IsCommand (map string_bytes c.args.words.now)) c.in-Ok-Some-Save.field-0-is c.in-Ok-Some-Save.field-0-0-is c.in-Ok-Some-Save.ensures.command) is) c.save.ensures.saved

pub returns-in-Ok-Some-Plan-clause-planned : goal.returns-in-Ok-Some-Plan-clause-planned
returns-in-Ok-Some-Plan-clause-planned g c = λ w is.
    subst (λ (v : Weights). SaysTold (question.Plan v) c.say.result (g.S.Source.left c.args.source.now) (g.S.Source.left c.say.new.source) (g.K.Sink.written c.args.sink.now) (g.K.Sink.written c.say.new.sink))
    (one_plan (map string_bytes c.args.words.now) c.in-Ok-Some-Plan.weights w (some_command _ _ _ _ (IsCommand (map string_bytes c.args.words.now)) c.in-Ok-Some-Plan.field-0-is c.in-Ok-Some-Plan.field-0-0-is c.in-Ok-Some-Plan.ensures.command) is) c.say.ensures.said

pub returns-in-Ok-None-clause-streams : goal.returns-in-Ok-None-clause-streams
returns-in-Ok-None-clause-streams g c = λ hosts workers is. absurd (no_command _ _ _ c.in-Ok-None.field-0-is c.in-Ok-None.ensures.command (command.Run hosts workers) is)

pub returns-in-Ok-None-clause-statuses : goal.returns-in-Ok-None-clause-statuses
returns-in-Ok-None-clause-statuses g c = λ d is. absurd (no_command _ _ _ c.in-Ok-None.field-0-is c.in-Ok-None.ensures.command d is)

pub returns-in-Ok-None-clause-saved : goal.returns-in-Ok-None-clause-saved
returns-in-Ok-None-clause-saved g c = λ w is. absurd (no_command _ _ _ c.in-Ok-None.field-0-is c.in-Ok-None.ensures.command (command.Save w) is)

pub returns-in-Ok-None-clause-planned : goal.returns-in-Ok-None-clause-planned
returns-in-Ok-None-clause-planned g c = λ w is. absurd (no_command _ _ _ c.in-Ok-None.field-0-is c.in-Ok-None.ensures.command (command.Plan w) is)

pub returns-in-Ok-None-clause-restored : goal.returns-in-Ok-None-clause-restored
returns-in-Ok-None-clause-restored g c = λ is. absurd (no_command _ _ _ c.in-Ok-None.field-0-is c.in-Ok-None.ensures.command command.Restore is)

pub returns-in-Ok-Some-Run-clause-statuses : goal.returns-in-Ok-Some-Run-clause-statuses
returns-in-Ok-Some-Run-clause-statuses g c = λ d is.
    subst (λ (e : Command). IsStatusOf e c.run_stream.result)
    (one_command (map string_bytes c.args.words.now) (command.Run c.in-Ok-Some-Run.hosts c.in-Ok-Some-Run.workers) d (some_command _ _ _ _ (IsCommand (map string_bytes c.args.words.now)) c.in-Ok-Some-Run.field-0-is c.in-Ok-Some-Run.field-0-0-is c.in-Ok-Some-Run.ensures.command) is) c.run_stream.ensures.statuses

pub returns-in-Ok-Some-Save-clause-statuses : goal.returns-in-Ok-Some-Save-clause-statuses
returns-in-Ok-Some-Save-clause-statuses g c = λ d is.
    subst (λ (e : Command). IsStatusOf e c.save.result)
    (one_command (map string_bytes c.args.words.now) (command.Save c.in-Ok-Some-Save.weights) d (some_command _ _ _ _ (IsCommand (map string_bytes c.args.words.now)) c.in-Ok-Some-Save.field-0-is c.in-Ok-Some-Save.field-0-0-is c.in-Ok-Some-Save.ensures.command) is) c.save.ensures.answered

pub returns-in-Ok-Some-Plan-clause-statuses : goal.returns-in-Ok-Some-Plan-clause-statuses
returns-in-Ok-Some-Plan-clause-statuses g c = λ d is.
    subst (λ (e : Command). IsStatusOf e c.say.result)
    (one_command (map string_bytes c.args.words.now) (command.Plan c.in-Ok-Some-Plan.weights) d (some_command _ _ _ _ (IsCommand (map string_bytes c.args.words.now)) c.in-Ok-Some-Plan.field-0-is c.in-Ok-Some-Plan.field-0-0-is c.in-Ok-Some-Plan.ensures.command) is) c.say.ensures.answered

pub returns-in-Ok-Some-Restore-clause-statuses : goal.returns-in-Ok-Some-Restore-clause-statuses
returns-in-Ok-Some-Restore-clause-statuses g c = λ d is.
    subst (λ (e : Command). IsStatusOf e c.say-in-Ok-Some-Restore.result)
    (one_command (map string_bytes c.args.words.now) (command.Restore) d (some_command _ _ _ _ (IsCommand (map string_bytes c.args.words.now)) c.in-Ok-Some-Restore.field-0-is c.in-Ok-Some-Restore.field-0-0-is c.in-Ok-Some-Restore.ensures.command) is) c.say-in-Ok-Some-Restore.ensures.answered

pub returns-in-Err-clause-streams : goal.returns-in-Err-clause-streams
returns-in-Err-clause-streams g c = λ hosts workers is.
    told_nothing notebooks hosts (g.D.Feeds.gives c.args.feeds.now) (IsCaused (g.S.Source.faults c.args.source.now) (g.S.Source.faults c.args.source.now) (g.S.Source.reads c.args.source.now) (g.S.Source.reads c.args.source.now))
    (g.S.Source.left c.args.source.now) (g.S.Source.left c.args.source.now) (g.K.Sink.written c.args.sink.now) [] (Takes-none (g.S.Source.left c.args.source.now))

pub returns-in-Err-clause-saved : goal.returns-in-Err-clause-saved
returns-in-Err-clause-saved g c = λ w is. absurd (no_save (map string_bytes c.args.words.now) c.in-Err.ensures.memory w is)

pub returns-in-Err-clause-planned : goal.returns-in-Err-clause-planned
returns-in-Err-clause-planned g c = λ w is. absurd (no_plan (map string_bytes c.args.words.now) c.in-Err.ensures.memory w is)

pub returns-in-Err-clause-restored : goal.returns-in-Err-clause-restored
returns-in-Err-clause-restored g c = λ is. absurd (no_restore (map string_bytes c.args.words.now) c.in-Err.ensures.memory is)

pub returns-in-Err-clause-statuses : goal.returns-in-Err-clause-statuses
returns-in-Err-clause-statuses g c = λ d is. run_status (map string_bytes c.args.words.now) c.in-Err.ensures.memory d is

pub run_stream-requires-send-E : goal.run_stream-requires-send-E
run_stream-requires-send-E g c = λ κs within. search (Notebook-send, sendable) depth 6

pub serve_links-requires-send-E : goal.serve_links-requires-send-E
serve_links-requires-send-E g c = λ κs within. search (Notebook-send, sendable) depth 6

pub made-requires-clause-few : goal.made-requires-clause-few
made-requires-clause-few g c = λ κs within.
    few_made (map string_bytes c.args.words.now) c.in-Ok-Some-Made.cells
    (some_command _ _ _ _ (IsCommand (map string_bytes c.args.words.now)) c.in-Ok-Some-Made.field-0-is c.in-Ok-Some-Made.field-0-0-is c.in-Ok-Some-Made.ensures.command)

pub returns-in-Ok-Some-Made-clause-counted : goal.returns-in-Ok-Some-Made-clause-counted
returns-in-Ok-Some-Made-clause-counted g c = λ cells is.
    subst (λ (n : ℕ). MadeTold n c.made.result (g.K.Sink.written c.args.sink.now) (g.K.Sink.written c.made.new.sink))
    (one_made (map string_bytes c.args.words.now) c.in-Ok-Some-Made.cells cells (some_command _ _ _ _ (IsCommand (map string_bytes c.args.words.now)) c.in-Ok-Some-Made.field-0-is c.in-Ok-Some-Made.field-0-0-is c.in-Ok-Some-Made.ensures.command) is) c.made.ensures.told

pub returns-in-Ok-Some-Made-clause-statuses : goal.returns-in-Ok-Some-Made-clause-statuses
returns-in-Ok-Some-Made-clause-statuses g c = λ d is.
    subst (λ (e : Command). IsStatusOf e c.made.result)
    (one_command (map string_bytes c.args.words.now) (command.Made c.in-Ok-Some-Made.cells) d (some_command _ _ _ _ (IsCommand (map string_bytes c.args.words.now)) c.in-Ok-Some-Made.field-0-is c.in-Ok-Some-Made.field-0-0-is c.in-Ok-Some-Made.ensures.command) is) c.made.ensures.statuses

pub returns-in-Ok-Some-Serve-clause-served : goal.returns-in-Ok-Some-Serve-clause-served
returns-in-Ok-Some-Serve-clause-served g c = λ links is.
    subst (λ (n : ℕ). LinksServed notebooks g.O.Link.Link.line g.O.Link.Link.faults n c.serve_links.result (g.O.Door.passed c.args.door.now) (g.O.Door.passed c.serve_links.new.door))
    (one_serve (map string_bytes c.args.words.now) c.in-Ok-Some-Serve.links links (some_command _ _ _ _ (IsCommand (map string_bytes c.args.words.now)) c.in-Ok-Some-Serve.field-0-is c.in-Ok-Some-Serve.field-0-0-is c.in-Ok-Some-Serve.ensures.command) is) c.serve_links.ensures.links

pub returns-in-Ok-Some-Serve-clause-statuses : goal.returns-in-Ok-Some-Serve-clause-statuses
returns-in-Ok-Some-Serve-clause-statuses g c = λ d is.
    subst (λ (e : Command). IsStatusOf e c.serve_links.result)
    (one_command (map string_bytes c.args.words.now) (command.Serve c.in-Ok-Some-Serve.links) d (some_command _ _ _ _ (IsCommand (map string_bytes c.args.words.now)) c.in-Ok-Some-Serve.field-0-is c.in-Ok-Some-Serve.field-0-0-is c.in-Ok-Some-Serve.ensures.command) is) c.serve_links.ensures.statuses

pub returns-in-Ok-None-clause-counted : goal.returns-in-Ok-None-clause-counted
returns-in-Ok-None-clause-counted g c = λ cells is. absurd (no_command _ _ _ c.in-Ok-None.field-0-is c.in-Ok-None.ensures.command (command.Made cells) is)

pub returns-in-Ok-None-clause-served : goal.returns-in-Ok-None-clause-served
returns-in-Ok-None-clause-served g c = λ links is. absurd (no_command _ _ _ c.in-Ok-None.field-0-is c.in-Ok-None.ensures.command (command.Serve links) is)

pub returns-in-Err-clause-counted : goal.returns-in-Err-clause-counted
returns-in-Err-clause-counted g c = λ cells is. absurd (no_made (map string_bytes c.args.words.now) c.in-Err.ensures.memory cells is)

pub returns-in-Err-clause-served : goal.returns-in-Err-clause-served
returns-in-Err-clause-served g c = λ links is. absurd (no_serve (map string_bytes c.args.words.now) c.in-Err.ensures.memory links is)
