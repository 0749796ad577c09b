-- Pieces that are sent one after the other.
use Rattle.std.proofs.Common.{◌≡◌, ℕ, List, [], ◌++◌, take, drop, Option, Some, None, refl, sym, ap, ◌∙◌, subst, append_assoc, append-nil}
use Rattle.std.proofs.lemmas.List.{take-append-drop}
use Rattle.nb_links.specs.Lines.{Line, Adds}
use Rattle.node_serve.specs.Sent.{AddsFront, SendsSoFar}

pub sent_none : (line : Option Line) → Adds line line []
sent_none None = refl
sent_none (Some line) = ap (λ sent. Some (record line { sent = sent })) (sym (append-nil line.sent))

pub sent_both : (old mid new : Option Line) (a b : List ℕ) → Adds old mid a → Adds mid new b → Adds old new (a ++ b)
sent_both None mid new a b first then = subst (λ line. Adds line new b) first then
sent_both (Some line) mid new a b first then =
    subst (λ line. Adds line new b) first then ∙ ap (λ sent. Some (record line { sent = sent })) (append_assoc line.sent a b)

pub begun : (line : Option Line) (bytes : List ℕ) → SendsSoFar line line bytes bytes
begun line bytes = record { done = []; parts = refl; adds = sent_none line }

pub more_sent : (old mid new : Option Line) (bytes rest : List ℕ) (n : ℕ) → SendsSoFar old mid bytes rest → Adds mid new (take n rest) → SendsSoFar old new bytes (drop n rest)
more_sent old mid new bytes rest n s adds = record {
  done = s.done ++ take n rest;
  parts = s.parts ∙ ap (λ ys. s.done ++ ys) (sym (take-append-drop n rest)) ∙ sym (append_assoc s.done (take n rest) (drop n rest));
  adds = sent_both old mid new s.done (take n rest) s.adds adds;
}

-- nothing is left
pub all_sent : (old new : Option Line) (bytes rest : List ℕ) → SendsSoFar old new bytes rest → rest ≡ [] → Adds old new bytes
all_sent old new bytes rest s none = subst (Adds old new) (sym (s.parts ∙ ap (λ ys. s.done ++ ys) none ∙ append-nil s.done)) s.adds

-- it stops there
pub front_sent : (old new : Option Line) (bytes rest : List ℕ) → SendsSoFar old new bytes rest → AddsFront old new bytes
front_sent old new bytes rest s = (s.done, rest, s.parts, s.adds)
