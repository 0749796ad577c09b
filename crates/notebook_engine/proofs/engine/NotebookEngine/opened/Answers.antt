use Rattle.notebook_engine.proofs.engine.NotebookEngine.opened.Goals as goal

pub returns-clause-stands : goal.returns-clause-stands
returns-clause-stands c = (record { all = tt; ends_last = tt }, c.new.ensures.holds)
