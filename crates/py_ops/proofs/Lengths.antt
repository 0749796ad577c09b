-- How long lists are that were put together.
use Rattle.std.proofs.lemmas.List.{length-append}

pub ruleset lengths = (length-append)
