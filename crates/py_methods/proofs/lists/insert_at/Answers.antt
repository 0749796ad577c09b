use Rattle.py_methods.proofs.lists.insert_at.Goals as goal

pub returns-in-Some-clause-runs : goal.returns-in-Some-clause-runs
returns-in-Some-clause-runs c = λ draws told. rw (← c.in-Some.ensures) (c.inserted.ensures.runs draws told)
