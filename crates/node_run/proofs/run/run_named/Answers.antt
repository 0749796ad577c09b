use Rattle.std.proofs.Common.{ap, length, sym, ◌∙◌, subst, List}
use Rattle.node_intake.specs.Intake.{Taken}
use Rattle.node_run.specs.declared.run.NodeRun.{NodeRun}
use Rattle.node_run.specs.Admitted.{AreOpen}
use Rattle.node_run.specs.Journals.{Answers, AreRuns}
use Rattle.node_run.proofs.Ending.{has_run, failed_end, many_end, if_ok, if_ok_all, if_ok_three}
use Rattle.node_run.proofs.run.run_named.Goals as goal

pub serve_fed-requires-clause-table : goal.serve_fed-requires-clause-table
serve_fed-requires-clause-table g c = (c.into_cells.ensures.table, ap length c.requires.queues.0 ∙ c.requires.queues.1)

pub returns-in-Ok-feed_workers-clause-told : goal.returns-in-Ok-feed_workers-clause-told
returns-in-Ok-feed_workers-clause-told g c =
    let m = g.E.Engine.meaning in
    let fed = c.in-Ok-feed_workers.fed in
    let t = c.in-Ok-feed_workers.ensures.told in
    let gives = g.Q.Feeds.gives c.args.feeds.now in (
      t.0,
      t.1,
      if_ok_three c.serve_fed.result c.serve_fed.ensures.errors (if_ok_all (λ (ran : NodeRun g.row.E.Denot) (ts : List Taken). AreRuns m g.N.Name.hosts g.N.Name.gives ts ran.runs.items) (λ ts. AreOpen ts fed.sessions.items g.N.Name.queues) c.serve_fed.result c.serve_fed.ensures.runs) c.serve_fed.ensures.end
          (λ ran errors runs end. has_run m c.args.hosts gives t.0 (g.S.Source.left c.feed_workers.new.source) (λ ts. AreOpen ts fed.sessions.items g.N.Name.queues) fed.errors fed.broken fed.end ran.end ran.errors ran.runs.items t.2.0 t.2.1 end errors
          (λ ts are. subst (λ n. AreRuns m n gives ts ran.runs.items) c.requires.hosts (subst (λ (a : Answers). AreRuns m g.N.Name.hosts a ts ran.runs.items) (sym c.requires.gives) (runs ts are)))),
    )

pub returns-in-Ok-feed_workers-clause-failed : goal.returns-in-Ok-feed_workers-clause-failed
returns-in-Ok-feed_workers-clause-failed g c =
    let fed = c.in-Ok-feed_workers.fed in
    if_ok c.serve_fed.result c.serve_fed.ensures.end (λ ran end is. c.in-Ok-feed_workers.ensures.failed (failed_end fed.end fed.broken (sym end ∙ is)))

pub returns-in-Ok-feed_workers-clause-reads : goal.returns-in-Ok-feed_workers-clause-reads
returns-in-Ok-feed_workers-clause-reads g c =
    let fed = c.in-Ok-feed_workers.fed in
    if_ok c.serve_fed.result c.serve_fed.ensures.end (λ ran end is. c.in-Ok-feed_workers.ensures.too_many (many_end fed.end fed.broken (sym end ∙ is)))
