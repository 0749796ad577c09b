use Rattle.py_ops.proofs.numbers.calculated.Goals as goal

pub returns-in-Equal : goal.returns-in-Equal
returns-in-Equal c = λ draws told. rw c.in-Equal.is (c.not_calculated.ensures draws told)

pub returns-in-NotEqual : goal.returns-in-NotEqual
returns-in-NotEqual c = λ draws told. rw c.in-NotEqual.is (c.not_calculated-in-NotEqual.ensures draws told)

pub returns-in-Less : goal.returns-in-Less
returns-in-Less c = λ draws told. rw c.in-Less.is (c.not_calculated-in-Less.ensures draws told)

pub returns-in-AtMost : goal.returns-in-AtMost
returns-in-AtMost c = λ draws told. rw c.in-AtMost.is (c.not_calculated-in-AtMost.ensures draws told)

pub returns-in-More : goal.returns-in-More
returns-in-More c = λ draws told. rw c.in-More.is (c.not_calculated-in-More.ensures draws told)

pub returns-in-AtLeast : goal.returns-in-AtLeast
returns-in-AtLeast c = λ draws told. rw c.in-AtLeast.is (c.not_calculated-in-AtLeast.ensures draws told)

pub returns-in-In : goal.returns-in-In
returns-in-In c = λ draws told. rw c.in-In.is (c.not_calculated-in-In.ensures draws told)

pub returns-in-NotIn : goal.returns-in-NotIn
returns-in-NotIn c = λ draws told. rw c.in-NotIn.is (c.not_calculated-in-NotIn.ensures draws told)
