use Rattle.node_run.proofs.run.run_sessions.Given as goal

abbrev pub ghosts-run_named : goal.ghosts-run_named
ghosts-run_named g a = record { hosts = a.hosts; queues = a.queues.items; gives = g.Q.Feeds.gives a.feeds.now }
