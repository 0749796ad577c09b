use Rattle.replay_laws.proofs.OneWalk.{walked_twins, asks_too}
use Rattle.replay_laws.proofs.laws.two_walks_end_alike.Goals as goal

pub returns-clause-same : goal.returns-clause-same
returns-clause-same c = λ read copy g p n t u left right. (walked_twins read copy g p n t u left right).same

pub returns-clause-asks : goal.returns-clause-asks
returns-clause-asks c = λ read copy g p n t u x left right asks. asks_too read copy g p n t u x left right asks
