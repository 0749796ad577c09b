use denote.Param.Send.{sendable}
use Rattle.std.proofs.Common.{◌≡◌, ◌<◌, length, ◌∙◌, List, [], ℕ, Option, Some, ap, arith, map, subst, sym, string_bytes}
use Rattle.serde_json.specs.Written.{compact_text}
use Rattle.jupyter_frames.proofs.Cutting.{map_ok}
use Rattle.nb_outside.specs.declared.feed.Drawn.{Drawn}
use Rattle.nb_outside.specs.Counts.{HasRisenBy}
use Rattle.node_run.specs.declared.end.RunEnd.TheVariants.{TooManyReads}
use Rattle.node_run.specs.Journals.{Answers, ServedSession, journals_of}
use Rattle.node_run.specs.Streams.{HasRun}
use Rattle.notebook_engine.proofs.Crossing.{Notebook-send}
use Rattle.notebook_meaning.specs.Notebooks.{notebooks}
use Rattle.made_command.specs.Made.{sent}
use Rattle.made_command.specs.Counting.{capped, counts_of, line}
use Rattle.made_command.proofs.Ending.{counted, stream_framed}
use Rattle.made_command.proofs.Frames.{sent_bodies}
use Rattle.made_command.proofs.Short.{stream_short}
use Rattle.made_command.proofs.command.counted.Goals as goal

pub run_sessions-requires-send-E : goal.run_sessions-requires-send-E
run_sessions-requires-send-E g c = λ κs within. search (Notebook-send, sendable) depth 6

pub new-source-requires : goal.new-source-requires
new-source-requires g c =
    let short = stream_short c.args.cells c.requires in
    let same = ap (λ (bs : List ℕ). length bs) c.in_ok-bytes.ensures in
    omega (arith, short, same)

pub returns : goal.returns
returns g c =
    let told = c.in_ok-ran.ensures.told in
    let ran = c.in_ok-ran.ran in
    let source = c.run_sessions.new.source in
    let cells = c.args.cells in
    let nothing : (λ (kernel : ℕ). Some c.new-feeds.result.answers.items) ≡ λ kernel. Some [] = ap (λ (answers : List Drawn). λ (kernel : ℕ). Some answers) (c.new-feeds.ensures ∙ c.new.ensures.items) in
    let left = subst (λ (l : Option (List ℕ)). HasRun notebooks 3 (λ kernel. Some c.new-feeds.result.answers.items) ran.end told.0 l ran.errors ran.runs.items) told.1.2 told.2 in
    let run = subst (λ (gives : Answers). HasRun notebooks 3 gives ran.end told.0 (Some told.1.0) ran.errors ran.runs.items) nothing left in
    let few : source.reads < 4294967295 = omega (arith, source.few, source.within, source.short) in
    let had = sym c.in_ok-bytes.ensures ∙ (sym c.new-source.ensures.left ∙ told.1.1) in
    let reads = subst (λ (n : ℕ). ran.end ≡ TooManyReads → HasRisenBy 4294967295 n source.reads) c.new-source.ensures.reads c.in_ok-ran.ensures.reads in
    map_ok c.line_of.result
    (λ text is. counted c.a_bad_length_stays.ensures cells (map compact_text (sent cells)) told.0 told.1.0 (string_bytes text) ran.end source.reads ran.errors ran.runs.items
    (sent_bodies cells c.requires) (stream_framed cells) had c.in_ok-ran.ensures.failed reads few run
    (is ∙ ap line (c.counts_of.ensures ∙ ap (λ (runs : List ServedSession). capped (counts_of (journals_of runs))) c.as_slice.ensures.value)))
    c.line_of.ensures
