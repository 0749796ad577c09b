use Rattle.std.proofs.lemmas.Str.{IsUtf8-take}
use Rattle.plain_data.specs.Cuts.{cut_within}
use Rattle.plain_data.proofs.Near.{cut_at_boundary, cut_size, cut_whole, cut_near}
use Rattle.plain_data.proofs.cut_laws.a_text_is_cut_near_the_end_of_its_room.Goals as goal

pub returns-clause-text : goal.returns-clause-text
returns-clause-text c = λ n text u. IsUtf8-take text (cut_within n text) u (cut_at_boundary n text u)

pub returns-clause-within : goal.returns-clause-within
returns-clause-within c = λ n text. cut_size n text

pub returns-clause-whole : goal.returns-clause-whole
returns-clause-whole c = λ n text l. cut_whole n text l

pub returns-clause-near : goal.returns-clause-near
returns-clause-near c = λ n text u l. cut_near n text u l
