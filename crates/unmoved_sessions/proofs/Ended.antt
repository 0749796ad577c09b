-- A dead session stays dead.
use Rattle.std.proofs.Common.{◌≡◌, ℕ, Bool, true, false, ◌||◌, List, [], ◌∷◌, ◌++◌, refl, subst}
use Rattle.std.specs.List.{AllByRecursion}
use Rattle.graph_model.specs.declared.plan.Certified.{Certified}
use Rattle.graph_model.specs.declared.plan.Weights.{Weights}
use Rattle.session_core.specs.declared.request.Ask.{Ask}
use Rattle.session_core.specs.declared.request.Ask.TheVariants.{Execute, Info, Complete, Shutdown, Migrate}
use Rattle.session_core.specs.declared.request.Request.{Request}
use Rattle.session_core.specs.declared.entry.MoveRefusal.{MoveRefusal}
use Rattle.session_core.specs.declared.entry.MoveRefusal.TheVariants.{Stuck, SameHost, UnknownHost, BadWeights, DeadKernel}
use Rattle.session_core.specs.declared.entry.Entry.{Entry}
use Rattle.session_core.specs.declared.entry.Entry.TheVariants.{Opened, Ran, Died, Dead, Sealed, Moved, Adopted, Refused, Resumed}
use Rattle.session_core.specs.Asks.{is_end, IsMove}
use Rattle.session_core.specs.Meanings.{Meaning}
use Rattle.session_core.specs.Legal.{Phase, settled, Progress, after, all_after, before_all, IsReason, MayTry, MayGo, MayBeMoved, MayBeAdopted, MayBeResumed, MayCome, AllMayCome, IsOpening, IsLegal}
use Rattle.unmoved_sessions.specs.Ended.{EndsSession, TellsDeath}

either_true : (a b : Bool) → b ≡ true → a || b ≡ true
either_true true b is = refl
either_true false b is = is

-- what tells of the death changes nothing
tells_same : (p : Progress) (e : Entry) → TellsDeath e → after p e ≡ p
tells_same p (Opened host request channel) tells = absurd tells
tells_same p (Ran host request draws reply) tells = absurd tells
tells_same p (Died host request count cause) tells = absurd tells
tells_same p (Dead host request count) tells = refl
tells_same p (Sealed host request to) tells = absurd tells
tells_same p (Moved to) tells = absurd tells
tells_same p (Adopted from to request certified objects) tells = absurd tells
tells_same p (Refused host request reason) tells = refl
tells_same p (Resumed host request) tells = absurd tells

module _ (meaning : Meaning) (hosts : ℕ) where
  -- ---- of a session that is dead, and with its owner

  module _ (p : Progress) (here : p.phase ≡ settled) (dead : p.dead ≡ true) where
    no_life : p.dead ≡ false → ⊥
    no_life alive = cc

    reason_is : (to : ℕ) (weights : Weights) (reason : MoveRefusal) → IsReason meaning hosts p to weights reason → reason ≡ DeadKernel
    reason_is to weights DeadKernel is = refl
    reason_is to weights SameHost is = absurd (no_life is.0)
    reason_is to weights (UnknownHost host) is = absurd (no_life is.0)
    reason_is to weights (BadWeights fault) is = absurd (no_life is.0.0)
    reason_is to weights (Stuck version cell names) is = absurd (no_life is.0.0)

    refused_is : (ask : Ask) (reason : MoveRefusal) → IsMove (λ to weights. IsReason meaning hosts p to weights reason) ask → reason ≡ DeadKernel
    refused_is (Execute code silent store) reason is = absurd is
    refused_is Info reason is = absurd is
    refused_is (Complete code) reason is = absurd is
    refused_is (Shutdown restart) reason is = absurd is
    refused_is (Migrate to weights) reason is = reason_is to weights reason is

    not_sealed : (ask : Ask) (to : ℕ) → IsMove (λ asked weights. (to ≡ asked) × MayGo meaning hosts p asked weights) ask → ⊥
    not_sealed (Execute code silent store) to goes = goes
    not_sealed Info to goes = goes
    not_sealed (Complete code) to goes = goes
    not_sealed (Shutdown restart) to goes = goes
    not_sealed (Migrate asked weights) to (same, (can, rest)) = no_life can.0

    not_tried : (ask : Ask) → IsMove (MayTry meaning hosts p) ask → ⊥
    not_tried (Execute code silent store) tries = tries
    not_tried Info tries = tries
    not_tried (Complete code) tries = tries
    not_tried (Shutdown restart) tries = tries
    not_tried (Migrate asked weights) (can, rest) = no_life can.0

    not_moved : (to : ℕ) → MayBeMoved meaning hosts p.phase to → ⊥
    not_moved to may = subst (λ (phase : Phase). MayBeMoved meaning hosts phase to) here may

    not_adopted : (from to : ℕ) (request : Request) (certified : Certified) (objects : ℕ) → MayBeAdopted meaning hosts p p.phase from to request certified objects → ⊥
    not_adopted from to request certified objects may = subst (λ (phase : Phase). MayBeAdopted meaning hosts p phase from to request certified objects) here may

    resumes : (host : ℕ) (request : Request) → MayBeResumed meaning hosts p p.phase host request → MayBeResumed meaning hosts p settled host request
    resumes host request may = subst (λ (phase : Phase). MayBeResumed meaning hosts p phase host request) here may

    one_tells : (e : Entry) → MayCome meaning hosts p e → TellsDeath e
    one_tells (Opened host request channel) may = absurd may
    one_tells (Ran host request draws reply) may = absurd (no_life may.1)
    one_tells (Died host request count cause) may = absurd (no_life may.1)
    one_tells (Dead host request count) may = tt
    one_tells (Sealed host request to) may = absurd (not_sealed request.ask to may.2)
    one_tells (Moved to) may = absurd (not_moved to may)
    one_tells (Adopted from to request certified objects) may = absurd (not_adopted from to request certified objects may)
    one_tells (Refused host request reason) may = refused_is request.ask reason may.2
    one_tells (Resumed host request) may = absurd (not_tried request.ask (resumes host request may).1)

  all_tell : (p : Progress) (es : List Entry) → p.phase ≡ settled → p.dead ≡ true → AllMayCome meaning hosts p es → AllByRecursion TellsDeath es
  all_tell p [] here dead all = tt
  all_tell p (e ∷ es) here dead (may, all) =
      let tells = one_tells p here dead e may in
      (tells, all_tell p es here dead (subst (λ (q : Progress). AllMayCome meaning hosts q es) (tells_same p e tells) all))

  -- ---- the entry that ends it

  ends_dead : (p : Progress) (e : Entry) → MayCome meaning hosts p e → EndsSession e → ((after p e).phase ≡ settled) × ((after p e).dead ≡ true)
  ends_dead p (Opened host request channel) may ends = absurd ends
  ends_dead p (Ran host request draws reply) may ends = (may.0, either_true p.dead (is_end request.ask) ends)
  ends_dead p (Died host request count cause) may ends = (may.0, refl)
  ends_dead p (Dead host request count) may ends = absurd ends
  ends_dead p (Sealed host request to) may ends = absurd ends
  ends_dead p (Moved to) may ends = absurd ends
  ends_dead p (Adopted from to request certified objects) may ends = absurd ends
  ends_dead p (Refused host request reason) may ends = absurd ends
  ends_dead p (Resumed host request) may ends = absurd ends

  opens_nothing : (e : Entry) → IsOpening meaning hosts e → EndsSession e → ⊥
  opens_nothing (Opened host request channel) opens ends = ends
  opens_nothing (Ran host request draws reply) opens ends = opens
  opens_nothing (Died host request count cause) opens ends = opens
  opens_nothing (Dead host request count) opens ends = opens
  opens_nothing (Sealed host request to) opens ends = opens
  opens_nothing (Moved to) opens ends = opens
  opens_nothing (Adopted from to request certified objects) opens ends = opens
  opens_nothing (Refused host request reason) opens ends = opens
  opens_nothing (Resumed host request) opens ends = opens

  there : (p : Progress) (before later : List Entry) (e : Entry) → AllMayCome meaning hosts p (before ++ e ∷ later)
      → MayCome meaning hosts (all_after p before) e × AllMayCome meaning hosts (after (all_after p before) e) later
  there p [] later e all = all
  there p (b ∷ before) later e (may, all) = there (after p b) before later e all

  from_there : (before later : List Entry) (e : Entry) → IsLegal meaning hosts (before ++ e ∷ later) → EndsSession e → AllByRecursion TellsDeath later
  from_there [] later e (opens, all) ends = absurd (opens_nothing e opens ends)
  from_there (b ∷ before) later e (opens, all) ends =
      let p = all_after (after before_all b) before in
      let at = there (after before_all b) before later e all in
      let dead = ends_dead p e at.0 ends in
      all_tell (after p e) later dead.0 dead.1 at.1

  pub stays_dead : (journal before later : List Entry) (e : Entry) → IsLegal meaning hosts journal → journal ≡ before ++ e ∷ later → EndsSession e → AllByRecursion TellsDeath later
  stays_dead journal before later e legal is ends = from_there before later e (subst (λ (es : List Entry). IsLegal meaning hosts es) is legal) ends
