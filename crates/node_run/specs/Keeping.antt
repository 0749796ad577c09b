-- What is kept of open sessions is kept of itself, and from one to the next.
use Rattle.std.proofs.Common.{◌≡◌, List, [], ◌∷◌, refl, ap, ◌∙◌}
use Rattle.std.specs.List.{AllByRecursion}
use Rattle.node_run.specs.declared.open_session.OpenSession.{OpenSession}
use Rattle.node_run.specs.Unsent.{read_of, IsUnread, AreKept}

pub kept_all : (os : List OpenSession) → AreKept os os
kept_all [] = tt
kept_all (o ∷ os) = ((refl, refl, refl), kept_all os)

unread_on : (os later : List OpenSession) → AllByRecursion IsUnread os → AreKept os later → AllByRecursion IsUnread later
unread_on [] later h k = k
unread_on (o ∷ os) [] h k = absurd k
unread_on (o ∷ os) (l ∷ later) h k =
    let rest = unread_on os later h.1 k.1 in
    let same : read_of l ≡ [] = ap (λ r. let p : OpenSession = record l { reader = r } in read_of p) k.0.1 ∙ h.0.0 in
    ((same, k.0.2 ∙ h.0.1), rest)

pub kept_on : (os later last : List OpenSession) → AreKept os later → AreKept later last → AreKept os last
kept_on [] later last h k = unread_on later last h k
kept_on (o ∷ os) [] last h k = absurd h
kept_on (o ∷ os) (l ∷ later) [] h k = absurd k
kept_on (o ∷ os) (l ∷ later) (m ∷ last) h k = ((k.0.0 ∙ h.0.0, k.0.1 ∙ h.0.1, k.0.2 ∙ h.0.2), kept_on os later last h.1 k.1)
