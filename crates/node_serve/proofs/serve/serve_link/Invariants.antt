use Rattle.node_serve.proofs.serve.serve_link.Given as goal

abbrev pub ghosts-serve_named : goal.ghosts-serve_named
ghosts-serve_named g a = record { hosts = a.hosts; queues = a.queues.items; gives = g.Q.Feeds.gives a.feeds.now }
