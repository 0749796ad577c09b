-- Bytes read piece by piece.
use Rattle.std.proofs.Common.{◌≡◌, ℕ, List, [], ◌++◌, Option, ap, sym, ◌∙◌, append_assoc, append-nil}
use Rattle.nb_outside.specs.Streams.{Takes}
use Rattle.node_intake.proofs.Taking.{Takes-none, Takes-both}

-- what was taken so far is what was added
pub record ReadsSoFar (old new : Option (List ℕ)) (before now : List ℕ) : Type 0 where
  pub taken : List ℕ
  pub takes : Takes old new taken
  pub added : now ≡ before ++ taken

pub none_read : (old : Option (List ℕ)) (before : List ℕ) → ReadsSoFar old old before before
none_read old before = record { taken = []; takes = Takes-none old; added = sym (append-nil before) }

pub more_read : (old mid new : Option (List ℕ)) (before now then : List ℕ) (more : List ℕ) → ReadsSoFar old mid before now → Takes mid new more → then ≡ now ++ more
    → ReadsSoFar old new before then
more_read old mid new before now then more r t e = record {
  taken = r.taken ++ more;
  takes = Takes-both old mid new r.taken more r.takes t;
  added = e ∙ ap (λ ys. ys ++ more) r.added ∙ append_assoc before r.taken more;
}
