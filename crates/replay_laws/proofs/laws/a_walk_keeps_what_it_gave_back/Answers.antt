use Rattle.replay_laws.proofs.Walking.{walk_good}
use Rattle.replay_laws.proofs.laws.a_walk_keeps_what_it_gave_back.Goals as goal

pub returns : goal.returns
returns c = λ read copy r g p run follows h names feasible copies n t l walked. walk_good read copy r g p run follows h names feasible copies n t walked l
