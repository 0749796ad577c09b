use Rattle.restore_run.proofs.run.restore.Given as goal

-- what was read, but for its count and meter, of which the walk knows nothing
abbrev pub ghost-walk : goal.ghost-walk
ghost-walk a = record { count = 0; meter = 0; graph = a.graph.now; plan = a.plan.now; parts = a.parts }
