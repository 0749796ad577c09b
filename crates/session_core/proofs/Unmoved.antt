-- A legal journal that answers no request to move.
use Rattle.std.proofs.Common.{◌≡◌, ◌≢◌, ℕ, false, List, [], ◌∷◌, ◌++◌, Some, refl, sym, ap, ◌∙◌, subst}
use Rattle.graph_model.specs.declared.plan.Weights.{Weights}
use Rattle.session_core.specs.declared.request.Ask.{Ask}
use Rattle.session_core.specs.declared.request.Ask.TheVariants.{Execute, Info, Complete, Shutdown, Migrate}
use Rattle.session_core.specs.declared.request.Header.{Header}
use Rattle.session_core.specs.declared.request.Channel.{Channel}
use Rattle.session_core.specs.declared.request.Request.{Request}
use Rattle.session_core.specs.declared.entry.Entry.{Entry}
use Rattle.session_core.specs.declared.entry.Entry.TheVariants.{Opened, Ran, Died, Dead, Sealed, Moved, Adopted, Refused, Resumed}
use Rattle.session_core.specs.Asks.{is_move, IsMove}
use Rattle.session_core.specs.Entries.{IsOfMove}
use Rattle.session_core.specs.Meanings.{Meaning}
use Rattle.session_core.specs.Legal.{settled, Progress, after, all_after, before_all, progress_of, owner_in, owner_after, MayCome, MayBeMoved, MayBeAdopted, MayBeResumed, AllMayCome, IsOpening, IsLegal, if_settled, asked_by, asked_after, asked}
use Rattle.session_core.specs.Answering.{Has, NoneMoves}

moves : (P : ℕ → Weights → Type 0) (ask : Ask) → IsMove P ask → is_move ask ≡ false → ⊥
moves P (Execute code silent store) h none = absurd h
moves P Info h none = absurd h
moves P (Complete code) h none = absurd h
moves P (Shutdown restart) h none = absurd h
moves P (Migrate to weights) h none = cc

module _ (meaning : Meaning) (hosts : ℕ) where
  -- an entry that comes to the owner and answers no move: it is of none, and the owner stays
  abbrev pub Stays : Progress → Entry → List Request → Type 0
  Stays p e rs = (¬ IsOfMove e) × ((after p e).phase ≡ settled) × ((after p e).owner ≡ p.owner) × NoneMoves rs

  stays : (p : Progress) (e : Entry) (rs : List Request) → p.phase ≡ settled → MayCome meaning hosts p e → NoneMoves (asked_by p.phase e ++ rs) → Stays p e rs
  stays p (Opened host request channel) rs is may none = absurd may
  stays p (Ran host request draws reply) rs is may none = (λ h. h, is, refl, none.1)
  stays p (Died host request count cause) rs is may none = (λ h. h, is, refl, none.1)
  stays p (Dead host request count) rs is may none = (λ h. h, is, refl, none.1)
  stays p (Sealed host request to) rs is may none = absurd (moves _ request.ask may.2 none.0)
  stays p (Moved to) rs is may none = absurd (subst (λ z. MayBeMoved meaning hosts z to) is may)
  stays p (Adopted from to request certified objects) rs is may none = absurd (subst (λ z. MayBeAdopted meaning hosts p z from to request certified objects) is may)
  stays p (Refused host request reason) rs is may none = absurd (moves _ request.ask may.2 none.0)
  stays p (Resumed host request) rs is may none =
      let there = subst (λ z. MayBeResumed meaning hosts p z host request) is may in
      absurd (moves _ request.ask there.1 (subst (λ z. NoneMoves (if_settled z request ++ rs)) is none).0)

  -- after the first of such entries the owner is the same, and the others may come
  pub keeps : (p : Progress) (es rest : List Entry) → p.phase ≡ settled → AllMayCome meaning hosts p (es ++ rest) → NoneMoves (asked_after p (es ++ rest))
      → ((all_after p es).phase ≡ settled) × ((all_after p es).owner ≡ p.owner) × AllMayCome meaning hosts (all_after p es) rest × NoneMoves (asked_after (all_after p es) rest)
  keeps p [] rest is may none = (is, refl, may, none)
  keeps p (e ∷ es) rest is may none =
      let one = stays p e (asked_after (after p e) (es ++ rest)) is may.0 none in
      let more = keeps (after p e) es rest one.1 may.1 one.3 in (more.0, more.1 ∙ one.2, more.2, more.3)

  -- what a journal begins with
  abbrev pub Begins : Entry → Type 0
  Begins e = (¬ IsOfMove e) × ((after before_all e).phase ≡ settled) × (asked_by settled e ≡ [])

  begins : (e : Entry) → IsOpening meaning hosts e → Begins e
  begins (Opened host request channel) h = (λ no. no, refl, refl)
  begins (Ran host request draws reply) h = absurd h
  begins (Died host request count cause) h = absurd h
  begins (Dead host request count) h = absurd h
  begins (Sealed host request to) h = absurd h
  begins (Moved to) h = absurd h
  begins (Adopted from to request certified objects) h = absurd h
  begins (Refused host request reason) h = absurd h
  begins (Resumed host request) h = absurd h

  none_after : (e : Entry) (es : List Entry) → asked_by settled e ≡ [] → NoneMoves (asked (e ∷ es)) → NoneMoves (asked_after (after before_all e) es)
  none_after e es is none = subst (λ z. NoneMoves (z ++ asked_after (after before_all e) es)) is none

  pub none_is_of_move : (journal before : List Entry) (e : Entry) → IsLegal meaning hosts journal → NoneMoves (asked journal) → Has journal before e → ¬ IsOfMove e
  none_is_of_move journal [] e legal none (rest, is) = (begins e (subst (IsLegal meaning hosts) is legal).0).0
  none_is_of_move journal (first ∷ before) e legal none (rest, is) =
      let parts = subst (IsLegal meaning hosts) is legal in
      let begun = begins first parts.0 in
      let kept = keeps (after before_all first) before (e ∷ rest) begun.1 parts.1 (none_after first (before ++ e ∷ rest) begun.2 (subst (λ z. NoneMoves (asked z)) is none)) in
      (stays (all_after (after before_all first) before) e (asked_after (after (all_after (after before_all first) before) e) rest) kept.0 kept.2.0 kept.3).0

  pub owner_throughout : (host : ℕ) (request : Header) (channel : Channel) (journal before rest : List Entry) → IsLegal meaning hosts journal → NoneMoves (asked journal)
      → Has journal [] (Opened host request channel) → journal ≡ before ++ rest → before ≢ [] → owner_after before ≡ Some host
  owner_throughout host request channel journal [] rest legal none has is some = absurd (some refl)
  owner_throughout host request channel journal (first ∷ before) rest legal none (others, opened) is some =
      let both : first ∷ (before ++ rest) ≡ Opened host request channel ∷ others = sym is ∙ opened in
      let same : first ≡ Opened host request channel = cc in
      let parts = subst (IsLegal meaning hosts) is legal in
      let begun = begins first parts.0 in
      let kept = keeps (after before_all first) before rest begun.1 parts.1 (none_after first (before ++ rest) begun.2 (subst (λ z. NoneMoves (asked z)) is none)) in
      ap (λ z. owner_in z (progress_of (first ∷ before)).owner) kept.0 ∙ ap Some (kept.1 ∙ ap (λ e. (after before_all e).owner) same)
