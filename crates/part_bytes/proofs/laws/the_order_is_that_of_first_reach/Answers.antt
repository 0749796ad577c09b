use Rattle.part_bytes.proofs.Orders.{order_lists, order_first, order_alone}
use Rattle.part_bytes.proofs.laws.the_order_is_that_of_first_reach.Goals as goal

pub returns-clause-reached : goal.returns-clause-reached
returns-clause-reached c = λ s names closed. order_lists s names closed

pub returns-clause-first : goal.returns-clause-first
returns-clause-first c = λ s names closed. order_first s names closed

pub returns-clause-alone : goal.returns-clause-alone
returns-clause-alone c = λ s names found closed sound first. order_alone s names closed found sound first
