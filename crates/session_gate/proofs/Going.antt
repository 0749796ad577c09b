-- A move that sets out, and how it ends.
use Rattle.std.specs.Prelude.{Result, Err, IfOk}
use Rattle.std.proofs.Common.{◌≡◌, ◌≤◌, ◌+◌, ℕ, List, [], ◌∷◌, ◌++◌, refl, sym, ap, ◌∙◌, subst, Ok, arith}
use Rattle.session_core.specs.declared.request.Ask.{Ask}
use Rattle.session_core.specs.declared.request.Request.{Request}
use Rattle.session_core.specs.declared.entry.Entry.{Entry}
use Rattle.session_core.specs.declared.entry.Entry.TheVariants.{Sealed, Moved}
use Rattle.session_core.specs.declared.engine.Packed.{Packed}
use Rattle.session_core.specs.Asks.{IsMove}
use Rattle.session_core.specs.Engines.{Packs}
use Rattle.session_core.specs.Meanings.{Served, Meaning, HasNoEnd, IsPacked}
use Rattle.session_core.specs.Legal.{Phase, settled, sealed, arriving, moved, Progress, progress_of, CanGo, MayTry, HasPlan, MayBeMoved, MayBeAdopted, MayBeResumed}
use Rattle.session_core.proofs.Progressing.{progress_more}
use Rattle.session_core.proofs.Going.{move_more, move_gives, pack_of}
use Rattle.session_core.specs.Stepping.{GoesBy}
use Rattle.session_gate.specs.Facts.{IsOnItsWay, IsPackFor}

module _ (meaning : Meaning) (hosts : ℕ) where
  -- a pack by which the session may go is one for the move
  pub packs : (p : Progress) (packed : Packed) (to : ℕ) (ask : Ask) → GoesBy meaning hosts p packed to ask → IsPackFor meaning p.served packed ask
  packs p packed to ask goes =
      move_more (λ t w. (to ≡ t) × CanGo meaning hosts p t × Packs meaning p.served w (Ok packed)) (λ _ w. Packs meaning p.served w (Ok packed)) ask (λ t w h. h.2) goes

  has_plan : (p : Progress) (packed : Packed) (ask : Ask) → IsPackFor meaning p.served packed ask → IsMove (λ _ weights. HasPlan meaning hosts p packed.certified weights) ask
  has_plan p packed ask h =
      move_more (λ _ w. Packs meaning p.served w (Ok packed)) (λ _ w. HasPlan meaning hosts p packed.certified w) ask
      (λ t w k. let (g, of, admitted, free, certified, text) = k in (g, of, certified)) h

  pub is_packed : (served : List Served) (packed : Packed) (ask : Ask) → IsPackFor meaning served packed ask → meaning.IsRun served → HasNoEnd served → IsPacked meaning served packed.certified.plan packed.bytes
  is_packed served packed ask h runs open_ =
      move_gives (λ _ w. Packs meaning served w (Ok packed)) (IsPacked meaning served packed.certified.plan packed.bytes) ask (λ t w k. pack_of meaning served w packed runs open_ k) h

  pub may_resume : (p : Progress) (phase : Phase) (host : ℕ) (request : Request) → phase ≡ settled → host ≡ p.owner → IsMove (MayTry meaning hosts p) request.ask → MayBeResumed meaning hosts p phase host request
  may_resume p phase host request is own h = subst (λ z. MayBeResumed meaning hosts p z host request) (sym is) (own, h)

  pub may_move : (phase : Phase) (again : Request) (to : ℕ) → phase ≡ sealed again to → MayBeMoved meaning hosts phase to
  may_move phase again to is = subst (λ z. MayBeMoved meaning hosts z to) (sym is) refl

  pub may_stay : (p : Progress) (phase : Phase) (again : Request) (to host : ℕ) → phase ≡ arriving again to → host ≡ p.owner → MayBeResumed meaning hosts p phase host again
  may_stay p phase again to host is own = subst (λ z. MayBeResumed meaning hosts p z host again) (sym is) (own, refl)

  pub may_adopt : (p : Progress) (phase : Phase) (again : Request) (from to objects : ℕ) (packed : Packed) → phase ≡ arriving again to → from ≡ p.owner → IsPackFor meaning p.served packed again.ask
      → meaning.HasObjects p.served objects → MayBeAdopted meaning hosts p phase from to again packed.certified objects
  may_adopt p phase again from to objects packed is own pack all = subst (λ z. MayBeAdopted meaning hosts p z from to again packed.certified objects) (sym is) (own, refl, refl, has_plan p packed again.ask pack, all)

-- where a session is after an entry
pub sealed_way : (es fs : List Entry) (owner to spare : ℕ) (request again : Request) → fs ≡ es ++ Sealed owner request to ∷ [] → again ≡ request → 2 ≤ spare → IsOnItsWay (progress_of fs).phase again to spare
sealed_way es fs owner to spare request again is same room =
    subst (λ (p : Progress). IsOnItsWay p.phase again to spare) (sym (ap progress_of is ∙ progress_more es (Sealed owner request to))) (sym same, refl, room)

pub moved_way : (es fs : List Entry) (to was spare : ℕ) (again : Request) → fs ≡ es ++ Moved to ∷ [] → (progress_of es).phase ≡ sealed again to → IsOnItsWay (progress_of es).phase again to was → was ≡ spare + 1
    → IsOnItsWay (progress_of fs).phase again to spare
moved_way es fs to was spare again is phase h one =
    let room = (subst (λ z. IsOnItsWay z again to was) phase h).2 in
    let way : IsOnItsWay (moved (progress_of es).phase) again to spare = subst (λ z. IsOnItsWay (moved z) again to spare) (sym phase) (refl, refl, omega arith) in
    subst (λ (p : Progress). IsOnItsWay p.phase again to spare) (sym (ap progress_of is ∙ progress_more es (Moved to))) way

pub arriving_room : (phase : Phase) (again : Request) (to spare : ℕ) → phase ≡ arriving again to → IsOnItsWay phase again to spare → 1 ≤ spare
arriving_room phase again to spare is h = (subst (λ z. IsOnItsWay z again to spare) is h).2

pub sealed_room : (phase : Phase) (again : Request) (to spare : ℕ) → phase ≡ sealed again to → IsOnItsWay phase again to spare → 2 ≤ spare
sealed_room phase again to spare is h = (subst (λ z. IsOnItsWay z again to spare) is h).2

-- what follows of an answer that is Ok
pub if_ok_more : {A B : Type 0} → (P Q : A → Type 0) (r : Result A B) → IfOk r P → ((a : A) → P a → Q a) → IfOk r Q
if_ok_more P Q (Ok a) h f = f a h
if_ok_more P Q (Err e) h f = tt
