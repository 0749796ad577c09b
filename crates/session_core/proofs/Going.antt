-- What a request to move leaves.
use Rattle.std.proofs.Common.{◌≡◌, ℕ, false, inl, inr, List, [], ◌∷◌, ◌++◌, refl, sym, ap, ◌∙◌, subst, append_assoc, Ok, Err, Some, None, ◌≢◌, ◌<◌}
use Rattle.std.proofs.lemmas.List.{append-nil}
use Rattle.graph_model.specs.declared.plan.Weights.{Weights}
use Rattle.graph_model.specs.declared.plan.Certified.{Certified}
use Rattle.session_core.specs.declared.request.Ask.{Ask}
use Rattle.session_core.specs.declared.request.Ask.TheVariants.{Execute, Info, Complete, Shutdown, Migrate}
use Rattle.session_core.specs.declared.request.Request.{Request}
use Rattle.session_core.specs.declared.entry.MoveRefusal.{MoveRefusal}
use Rattle.session_core.specs.declared.entry.MoveRefusal.TheVariants.{Stuck, SameHost, UnknownHost, BadWeights, DeadKernel}
use Rattle.session_core.specs.declared.entry.Entry.{Entry}
use Rattle.session_core.specs.declared.entry.Entry.TheVariants.{Sealed, Moved, Adopted, Refused, Resumed}
use Rattle.session_core.specs.Asks.{IsMove}
use Rattle.session_core.specs.declared.engine.Packed.{Packed}
use Rattle.session_core.specs.declared.engine.PackFault.{PackFault}
use Rattle.session_core.specs.declared.engine.PackFault.TheVariants as pack
use Rattle.session_core.specs.Meanings.{Served, Meaning, HasNoEnd, IsPacked}
use Rattle.session_core.specs.Engines.{Packs}
use Rattle.session_core.specs.Legal.{Phase, settled, arriving, Progress, after, progress_of, IsReason, CanGo, MayTry, MayGo, HasPlan, MayCome, MayBeResumed, IsLegal, if_settled, asked_by, asked}
use Rattle.session_core.specs.Stepping.{IsEarly, HasGone, HasEnded, GoesBy, reason_of}
use Rattle.session_core.specs.Feeding.{drawn_by, drawn_in}
use Rattle.session_core.proofs.Progressing.{progress_more, asked_more, legal_more}
use Rattle.session_core.proofs.Feeding.{drawn_still}

-- ---- a move, of whose host and weights something holds

pub is_move_of : (P : ℕ → Weights → Type 0) (ask : Ask) (to : ℕ) (weights : Weights) → ask ≡ Migrate to weights → P to weights → IsMove P ask
is_move_of P ask to weights is h = subst (IsMove P) (sym is) h

-- what follows of every host and weights follows of those of a move
pub move_more : (P Q : ℕ → Weights → Type 0) (ask : Ask) → ((to : ℕ) (weights : Weights) → P to weights → Q to weights) → IsMove P ask → IsMove Q ask
move_more P Q (Execute code silent store) more h = h
move_more P Q Info more h = h
move_more P Q (Complete code) more h = h
move_more P Q (Shutdown restart) more h = h
move_more P Q (Migrate to weights) more h = more to weights h

pub move_gives : (P : ℕ → Weights → Type 0) (A : Type 0) (ask : Ask) → ((to : ℕ) (weights : Weights) → P to weights → A) → IsMove P ask → A
move_gives P A (Execute code silent store) gives h = absurd h
move_gives P A Info gives h = absurd h
move_gives P A (Complete code) gives h = absurd h
move_gives P A (Shutdown restart) gives h = absurd h
move_gives P A (Migrate to weights) gives h = gives to weights h

-- a pack of an engine that stands for a list
pub pack_of : (meaning : Meaning) (served : List Served) (weights : Weights) (packed : Packed) → meaning.IsRun served → HasNoEnd served → Packs meaning served weights (Ok packed)
    → IsPacked meaning served packed.certified.plan packed.bytes
pack_of meaning served weights packed runs open_ (g, is, admitted, free, certified, text) = record {
  is_run = runs;
  has_no_end = open_;
  graph = g;
  is_graph = is;
  names = certified.names;
  feasible = certified.feasible;
  text = text;
}

module _ (meaning : Meaning) (hosts : ℕ) where
  -- one entry that ends a request and draws nothing
  ended_by : (old new : List Entry) (e : Entry) (request : Request) → new ≡ old ++ e ∷ [] → MayCome meaning hosts (progress_of old) e
      → asked_by (progress_of old).phase e ≡ request ∷ [] → (after (progress_of old) e).phase ≡ settled
      → (after (progress_of old) e).served ≡ (progress_of old).served → drawn_by e ≡ [] → (after (progress_of old) e).dead ≡ (progress_of old).dead → HasEnded meaning hosts old new request
  ended_by old new e request is may asks phase served none dead = let now = ap progress_of is ∙ progress_more old e in record {
    goes_on = (e ∷ [], is);
    legal = λ legal. subst (IsLegal meaning hosts) (sym is) (legal_more meaning hosts old e legal may);
    answers = ap asked is ∙ asked_more old e ∙ ap (λ z. asked old ++ z) asks;
    phase = ap (λ p. p.phase) now ∙ phase;
    served = ap (λ p. p.served) now ∙ served;
    drawn = drawn_still old new e is none;
    dead = ap (λ p. p.dead) now ∙ dead;
  }

  pub refused : (old new : List Entry) (request : Request) (reason : MoveRefusal) → (progress_of old).phase ≡ settled → new ≡ old ++ Refused (progress_of old).owner request reason ∷ []
      → IsMove (λ to weights. IsReason meaning hosts (progress_of old) to weights reason) request.ask → HasEnded meaning hosts old new request
  refused old new request reason phase is why =
      ended_by old new (Refused (progress_of old).owner request reason) request is (phase, refl, why) refl phase refl refl refl

  pub early : (p : Progress) (to : ℕ) (weights : Weights) (reason : MoveRefusal) → IsEarly hosts p to reason → IsReason meaning hosts p to weights reason
  early p to weights DeadKernel h = h
  early p to weights SameHost h = h
  early p to weights (UnknownHost host) h = h
  early p to weights (BadWeights fault) h = absurd h
  early p to weights (Stuck version cell names) h = absurd h

  resumes : (p : Progress) (phase : Phase) (request : Request) → phase ≡ settled → IsMove (MayTry meaning hosts p) request.ask → MayBeResumed meaning hosts p phase p.owner request
  resumes p phase request is h = subst (λ z. MayBeResumed meaning hosts p z p.owner request) (sym is) (refl, h)

  pub resumed : (old new : List Entry) (request : Request) → (progress_of old).phase ≡ settled → new ≡ old ++ Resumed (progress_of old).owner request ∷ []
      → IsMove (MayTry meaning hosts (progress_of old)) request.ask → HasEnded meaning hosts old new request
  resumed old new request phase is may =
      ended_by old new (Resumed (progress_of old).owner request) request is (resumes (progress_of old) (progress_of old).phase request phase may)
      (ap (λ z. if_settled z request) phase) refl refl refl refl

  -- ---- a move by a pack

  pub goes_sealed : (p : Progress) (packed : Packed) (to : ℕ) (ask : Ask) → GoesBy meaning hosts p packed to ask → IsMove (λ asked weights. (to ≡ asked) × MayGo meaning hosts p asked weights) ask
  goes_sealed p packed to ask goes =
      move_more (λ t w. (to ≡ t) × CanGo meaning hosts p t × Packs meaning p.served w (Ok packed)) (λ t w. (to ≡ t) × MayGo meaning hosts p t w) ask
      (λ t w h. let (g, of, admitted, free, certified, text) = h.2 in (h.0, (h.1, (g, of, admitted, free)))) goes

  pub goes_planned : (p : Progress) (packed : Packed) (to : ℕ) (ask : Ask) → GoesBy meaning hosts p packed to ask → IsMove (λ _ weights. HasPlan meaning hosts p packed.certified weights) ask
  goes_planned p packed to ask goes =
      move_more (λ t w. (to ≡ t) × CanGo meaning hosts p t × Packs meaning p.served w (Ok packed)) (λ _ w. HasPlan meaning hosts p packed.certified w) ask
      (λ t w h. let (g, of, admitted, free, certified, text) = h.2 in (g, of, certified)) goes

  pub goes_packed : (p : Progress) (packed : Packed) (to : ℕ) (ask : Ask) → meaning.IsRun p.served → (p.dead ≡ false → HasNoEnd p.served) → GoesBy meaning hosts p packed to ask
      → IsPacked meaning p.served packed.certified.plan packed.bytes
  goes_packed p packed to ask runs open_ goes =
      move_gives (λ t w. (to ≡ t) × CanGo meaning hosts p t × Packs meaning p.served w (Ok packed)) (IsPacked meaning p.served packed.certified.plan packed.bytes) ask
      (λ t w h. pack_of meaning p.served w packed runs (open_ h.1.0) h.2) goes

  pub goes_alive : (p : Progress) (packed : Packed) (to : ℕ) (ask : Ask) → GoesBy meaning hosts p packed to ask → p.dead ≡ false
  goes_alive p packed to ask goes = move_gives (λ t w. (to ≡ t) × CanGo meaning hosts p t × Packs meaning p.served w (Ok packed)) (p.dead ≡ false) ask (λ t w h. h.1.0) goes

  -- ---- a move that sets out

  away : List Entry → Request → ℕ → List Entry
  away old request to = (old ++ Sealed (progress_of old).owner request to ∷ []) ++ Moved to ∷ []

  away_progress : (old : List Entry) (request : Request) (to : ℕ) → progress_of (away old request to) ≡ record (progress_of old) { phase = arriving request to }
  unfolding away
  away_progress old request to = let e = Sealed (progress_of old).owner request to in
      progress_more (old ++ e ∷ []) (Moved to) ∙ ap (λ p. after p (Moved to)) (progress_more old e)

  away_legal : (old : List Entry) (request : Request) (to : ℕ) → (progress_of old).phase ≡ settled
      → IsMove (λ asked weights. (to ≡ asked) × MayGo meaning hosts (progress_of old) asked weights) request.ask → IsLegal meaning hosts old → IsLegal meaning hosts (away old request to)
  unfolding away
  away_legal old request to phase may legal = let e = Sealed (progress_of old).owner request to in
      legal_more meaning hosts (old ++ e ∷ []) (Moved to)
      (legal_more meaning hosts old e legal (phase, refl, may))
      (subst (λ p. MayCome meaning hosts p (Moved to)) (sym (progress_more old e)) refl)

  away_asked : (old : List Entry) (request : Request) (to : ℕ) → asked (away old request to) ≡ asked old ++ request ∷ []
  unfolding away
  away_asked old request to = let e = Sealed (progress_of old).owner request to in
      asked_more (old ++ e ∷ []) (Moved to) ∙ append-nil (asked (old ++ e ∷ [])) ∙ asked_more old e

  away_drawn : (old : List Entry) (request : Request) (to : ℕ) → drawn_in (away old request to) ≡ drawn_in old
  unfolding away
  away_drawn old request to = let e = Sealed (progress_of old).owner request to in
      drawn_still (old ++ e ∷ []) ((old ++ e ∷ []) ++ Moved to ∷ []) (Moved to) refl refl ∙ drawn_still old (old ++ e ∷ []) e refl refl

  away_more : (old : List Entry) (request : Request) (to : ℕ) (e : Entry) → away old request to ++ e ∷ [] ≡ old ++ Sealed (progress_of old).owner request to ∷ Moved to ∷ e ∷ []
  unfolding away
  away_more old request to e = let s = Sealed (progress_of old).owner request to in
      append_assoc (old ++ s ∷ []) (Moved to ∷ []) (e ∷ []) ∙ append_assoc old (s ∷ []) (Moved to ∷ e ∷ [])

  -- it ends with an entry that asks nothing and draws nothing
  arrived : (old new : List Entry) (request : Request) (to : ℕ) (e : Entry) → (progress_of old).phase ≡ settled
      → IsMove (λ asked weights. (to ≡ asked) × MayGo meaning hosts (progress_of old) asked weights) request.ask → new ≡ away old request to ++ e ∷ []
      → MayCome meaning hosts (record (progress_of old) { phase = arriving request to }) e → asked_by (arriving request to) e ≡ []
      → (after (record (progress_of old) { phase = arriving request to }) e).phase ≡ settled
      → (after (record (progress_of old) { phase = arriving request to }) e).served ≡ (progress_of old).served → drawn_by e ≡ []
      → (after (record (progress_of old) { phase = arriving request to }) e).dead ≡ (progress_of old).dead → HasEnded meaning hosts old new request
  arrived old new request to e phase may is comes asks then served none dead =
      let gone = away_progress old request to in
      let now = ap progress_of is ∙ progress_more (away old request to) e ∙ ap (λ p. after p e) gone in record {
        goes_on = (Sealed (progress_of old).owner request to ∷ Moved to ∷ e ∷ [], is ∙ away_more old request to e);
        legal = λ legal. subst (IsLegal meaning hosts) (sym is) (legal_more meaning hosts (away old request to) e (away_legal old request to phase may legal)
            (subst (λ p. MayCome meaning hosts p e) (sym gone) comes));
        answers = ap asked is ∙ asked_more (away old request to) e ∙ ap (λ (p : Progress). asked (away old request to) ++ asked_by p.phase e) gone
            ∙ ap (λ z. asked (away old request to) ++ z) asks ∙ append-nil (asked (away old request to)) ∙ away_asked old request to;
        phase = ap (λ p. p.phase) now ∙ then;
        served = ap (λ p. p.served) now ∙ served;
        drawn = drawn_still (away old request to) new e is none ∙ away_drawn old request to;
        dead = ap (λ p. p.dead) now ∙ dead;
      }

  pub gone : (old new : List Entry) (request again : Request) (to : ℕ) (packed : Packed) (Holds : ℕ → Type 0) → again ≡ request → (progress_of old).phase ≡ settled
      → GoesBy meaning hosts (progress_of old) packed to request.ask → HasGone meaning old new to request again packed.certified Holds → HasEnded meaning hosts old new request
  unfolding away
  gone old new request again to packed Holds same phase goes (inl (objects, all, holds, is)) =
      arrived old new request to (Adopted (progress_of old).owner to again packed.certified objects) phase (goes_sealed (progress_of old) packed to request.ask goes) is
      (refl, refl, same, goes_planned (progress_of old) packed to request.ask goes, all) refl refl refl refl refl
  gone old new request again to packed Holds same phase goes (inr (holds, is)) =
      arrived old new request to (Resumed (progress_of old).owner again) phase (goes_sealed (progress_of old) packed to request.ask goes) is (refl, same) refl refl refl refl refl

  -- who owns it then has it
  pub gone_held : (old new : List Entry) (request again : Request) (to : ℕ) (certified : Certified) (Holds : ℕ → Type 0)
      → HasGone meaning old new to request again certified Holds → Holds (progress_of new).owner
  unfolding away
  gone_held old new request again to certified Holds (inl (objects, all, holds, is)) =
      subst Holds (sym (ap (λ es. (progress_of es).owner) is ∙ ap (λ p. p.owner) (progress_more (away old request to) (Adopted (progress_of old).owner to again certified objects)))) holds
  gone_held old new request again to certified Holds (inr (holds, is)) =
      subst Holds (sym (ap (λ es. (progress_of es).owner) is ∙ ap (λ p. p.owner) (progress_more (away old request to) (Resumed (progress_of old).owner again)) ∙ ap (λ p. p.owner) (away_progress old request to))) holds

-- an entry that changes neither the owner nor what was served: what stands for them still does
pub stays : (Stands : List Served → Type 0) (host : ℕ) (old new : List Entry) (e : Entry) → new ≡ old ++ e ∷ []
    → (after (progress_of old) e).served ≡ (progress_of old).served → (after (progress_of old) e).owner ≡ (progress_of old).owner
    → Stands (progress_of old).served × (host ≡ (progress_of old).owner) → Stands (progress_of new).served × (host ≡ (progress_of new).owner)
stays Stands host old new e is served owner h = let now = ap progress_of is ∙ progress_more old e in
    (subst Stands (sym (ap (λ p. p.served) now ∙ served)) h.0, h.1 ∙ sym (ap (λ p. p.owner) now ∙ owner))

-- a pack that failed is a reason, or leaves none but perhaps the last
module _ (meaning : Meaning) (hosts : ℕ) where
  pub against : (p : Progress) (to : ℕ) (weights : Weights) (fault : PackFault) (reason : MoveRefusal) → (p.dead ≡ false) × (to ≢ p.owner) × (to < hosts) → Packs meaning p.served weights (Err fault)
      → reason_of fault ≡ Some reason → IsReason meaning hosts p to weights reason
  against p to weights pack.OutOfMemory reason free packs is = let no : ⊥ = cc in absurd no
  against p to weights (pack.BadWeights fault) reason free packs is = let same : BadWeights fault ≡ reason = cc in subst (IsReason meaning hosts p to weights) same (free, packs)
  against p to weights (pack.Stuck version cell names) reason free packs is = let same : Stuck version cell names ≡ reason = cc in subst (IsReason meaning hosts p to weights) same (free, packs)

  pub no_memory : (p : Progress) (to : ℕ) (weights : Weights) (fault : PackFault) → (p.dead ≡ false) × (to ≢ p.owner) × (to < hosts) → Packs meaning p.served weights (Err fault)
      → reason_of fault ≡ None → MayTry meaning hosts p to weights
  no_memory p to weights pack.OutOfMemory free packs is = (free, packs)
  no_memory p to weights (pack.BadWeights fault) free packs is = let no : ⊥ = cc in absurd no
  no_memory p to weights (pack.Stuck version cell names) free packs is = let no : ⊥ = cc in absurd no

-- an entry that leaves the owner
pub owner_stays : (old new : List Entry) (e : Entry) → new ≡ old ++ e ∷ [] → (after (progress_of old) e).owner ≡ (progress_of old).owner → (progress_of new).owner ≡ (progress_of old).owner
owner_stays old new e is owner = ap (λ es. (progress_of es).owner) is ∙ ap (λ p. p.owner) (progress_more old e) ∙ owner
