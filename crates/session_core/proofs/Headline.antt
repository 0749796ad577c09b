-- What a legal journal says, entry by entry.
use Rattle.std.proofs.Common.{◌≡◌, ℕ, ◌≤◌, ◌⊎◌, inl, inr, List, [], ◌∷◌, ◌++◌, refl, sym, ◌∙◌, subst}
use Rattle.nb_outside.specs.declared.feed.Drawn.{Drawn}
use Rattle.graph_model.specs.declared.graph.Graph.{Graph}
use Rattle.graph_model.specs.declared.plan.Weights.{Weights}
use Rattle.graph_model.specs.declared.plan.Plan.{Plan}
use Rattle.graph_model.specs.declared.plan.Certified.{Certified}
use Rattle.graph_model.specs.Graphs.{IsStuck}
use Rattle.graph_model.specs.Faults.{IsGraph}
use Rattle.graph_model.specs.Plans.{NamesOf, IsFeasible, AreAdmitted, cost}
use Rattle.graph_model.specs.Networks.{IsCertified}
use Rattle.session_core.specs.declared.request.Ask.{Ask}
use Rattle.session_core.specs.declared.request.Ask.TheVariants.{Execute, Info, Complete, Shutdown, Migrate}
use Rattle.session_core.specs.declared.request.Request.{Request}
use Rattle.session_core.specs.declared.reply.Reply.{Reply}
use Rattle.session_core.specs.declared.entry.Entry.{Entry}
use Rattle.session_core.specs.declared.entry.Entry.TheVariants.{Opened, Ran, Died, Dead, Sealed, Moved, Adopted, Refused, Resumed}
use Rattle.session_core.specs.declared.entry.MoveRefusal.TheVariants.{Stuck}
use Rattle.session_core.specs.Asks.{IsMove}
use Rattle.session_core.specs.Meanings.{Served, Meaning, more}
use Rattle.session_core.specs.Legal.{Phase, settled, sealed, arriving, moved, Progress, after, all_after, before_all, progress_of, MayGo, MayCome, MayBeMoved, MayBeAdopted, AllMayCome, IsOpening, IsLegal, IsReason, HasBestPlan, NamesStuck}
use Rattle.session_core.specs.Answering.{Has}
use Rattle.session_core.proofs.Once.{came}

module _ (meaning : Meaning) (hosts : ℕ) where
  -- an entry is the opening, or could come where it is
  pub came_there : (journal before : List Entry) (e : Entry) → IsLegal meaning hosts journal → Has journal before e → IsOpening meaning hosts e ⊎ MayCome meaning hosts (progress_of before) e
  came_there journal [] e legal (rest, is) = inl (subst (IsLegal meaning hosts) is legal).0
  came_there journal (first ∷ before) e legal has = inr (came meaning hosts journal before e first legal has)

  abbrev pub IsReplied : Progress → Request → List Drawn → Reply → Type 0
  IsReplied p request draws reply = (reply ≡ meaning.answer p.served request.ask draws) × meaning.IsRun (more p.served request.ask draws)

  replied_by : (p : Progress) (host : ℕ) (request : Request) (draws : List Drawn) (reply : Reply)
      → IsOpening meaning hosts (Ran host request draws reply) ⊎ MayCome meaning hosts p (Ran host request draws reply) → IsReplied p request draws reply
  replied_by p host request draws reply (inl h) = absurd h
  replied_by p host request draws reply (inr h) = (h.4, h.5)

  pub replied : (journal before : List Entry) (host : ℕ) (request : Request) (draws : List Drawn) (reply : Reply) → IsLegal meaning hosts journal
      → Has journal before (Ran host request draws reply) → IsReplied (progress_of before) request draws reply
  replied journal before host request draws reply legal has = replied_by (progress_of before) host request draws reply (came_there journal before (Ran host request draws reply) legal has)

  stuck_in : (p : Progress) (ask : Ask) (version cell : ℕ) (names : List (List ℕ)) → IsMove (λ to weights. IsReason meaning hosts p to weights (Stuck version cell names)) ask
      → NamesStuck meaning p.served version cell names
  stuck_in p (Execute code silent store) version cell names h = absurd h
  stuck_in p Info version cell names h = absurd h
  stuck_in p (Complete code) version cell names h = absurd h
  stuck_in p (Shutdown restart) version cell names h = absurd h
  stuck_in p (Migrate to weights) version cell names h = let (g, is, admitted, first, named) = h.1 in (g, is, first, named)

  stuck_by : (p : Progress) (host : ℕ) (request : Request) (version cell : ℕ) (names : List (List ℕ))
      → IsOpening meaning hosts (Refused host request (Stuck version cell names)) ⊎ MayCome meaning hosts p (Refused host request (Stuck version cell names)) → NamesStuck meaning p.served version cell names
  stuck_by p host request version cell names (inl h) = absurd h
  stuck_by p host request version cell names (inr h) = stuck_in p request.ask version cell names h.2

  pub stuck : (journal before : List Entry) (host : ℕ) (request : Request) (version cell : ℕ) (names : List (List ℕ)) → IsLegal meaning hosts journal
      → Has journal before (Refused host request (Stuck version cell names)) → NamesStuck meaning (progress_of before).served version cell names
  stuck journal before host request version cell names legal has = stuck_by (progress_of before) host request version cell names (came_there journal before (Refused host request (Stuck version cell names)) legal has)

  -- ---- who is packed or on the way could go

  abbrev pub CouldGo : Progress → Phase → Type 0
  CouldGo p settled = Unit {0}
  CouldGo p (sealed request to) = IsMove (λ asked weights. (to ≡ asked) × MayGo meaning hosts p asked weights) request.ask
  CouldGo p (arriving request to) = IsMove (λ asked weights. (to ≡ asked) × MayGo meaning hosts p asked weights) request.ask

  -- what is asked about a move looks at the owner, at what was served and at whether the session is dead alone
  went_on : (ask : Ask) (p q : Progress) (to : ℕ) → q.owner ≡ p.owner → q.served ≡ p.served → q.dead ≡ p.dead
      → IsMove (λ asked weights. (to ≡ asked) × MayGo meaning hosts p asked weights) ask → IsMove (λ asked weights. (to ≡ asked) × MayGo meaning hosts q asked weights) ask
  went_on (Execute code silent store) p q to o s d h = absurd h
  went_on Info p q to o s d h = absurd h
  went_on (Complete code) p q to o s d h = absurd h
  went_on (Shutdown restart) p q to o s d h = absurd h
  went_on (Migrate asked weights) p q to o s d (same, ((alive, other, there), graph)) =
      (same, ((d ∙ alive, λ e. other (e ∙ o), there), subst (λ z. (g : Graph) × meaning.IsGraph z g × AreAdmitted g weights × ((version cell : ℕ) → ¬ IsStuck g version cell)) (sym s) graph))

  moved_could : (p : Progress) (phase : Phase) (to : ℕ) → CouldGo p phase → MayBeMoved meaning hosts phase to → CouldGo (record p { phase = moved phase }) (moved phase)
  moved_could p settled to h may = absurd may
  moved_could p (sealed request host) to h may = went_on request.ask p (record p { phase = arriving request host }) host refl refl refl h
  moved_could p (arriving request host) to h may = absurd may

  could_after : (p : Progress) (e : Entry) → CouldGo p p.phase → MayCome meaning hosts p e → CouldGo (after p e) (after p e).phase
  could_after p (Opened host request channel) h may = absurd may
  could_after p (Ran host request draws reply) h may = subst (CouldGo (after p (Ran host request draws reply))) (sym may.0) tt
  could_after p (Died host request count cause) h may = subst (CouldGo (after p (Died host request count cause))) (sym may.0) tt
  could_after p (Dead host request count) h may = h
  could_after p (Sealed host request to) h may = went_on request.ask p (after p (Sealed host request to)) to refl refl refl may.2
  could_after p (Moved to) h may = moved_could p p.phase to h may
  could_after p (Adopted from to request certified objects) h may = tt
  could_after p (Refused host request reason) h may = h
  could_after p (Resumed host request) h may = tt

  all_could : (p : Progress) (before rest : List Entry) (e : Entry) → CouldGo p p.phase → AllMayCome meaning hosts p (before ++ e ∷ rest) → CouldGo (all_after p before) (all_after p before).phase
  all_could p [] rest e h may = h
  all_could p (x ∷ before) rest e h may = all_could (after p x) before rest e (could_after p x h may.0) may.1

  opening_could : (e : Entry) → IsOpening meaning hosts e → CouldGo (after before_all e) (after before_all e).phase
  opening_could (Opened host request channel) h = tt
  opening_could (Ran host request draws reply) h = absurd h
  opening_could (Died host request count cause) h = absurd h
  opening_could (Dead host request count) h = absurd h
  opening_could (Sealed host request to) h = absurd h
  opening_could (Moved to) h = absurd h
  opening_could (Adopted from to request certified objects) h = absurd h
  opening_could (Refused host request reason) h = absurd h
  opening_could (Resumed host request) h = absurd h

  could_there : (journal before : List Entry) (e : Entry) → IsLegal meaning hosts journal → Has journal before e → CouldGo (progress_of before) (progress_of before).phase
  could_there journal [] e legal has = tt
  could_there journal (first ∷ before) e legal (rest, is) =
      let parts = subst (IsLegal meaning hosts) is legal in all_could (after before_all first) before rest e (opening_could first parts.0) parts.1

  -- ---- a plan that none undercuts

  module _ (one_graph : (served : List Served) (g h : Graph) → meaning.IsGraph served g → meaning.IsGraph served h → g ≡ h)
      (graphs : (served : List Served) (g : Graph) → meaning.IsGraph served g → IsGraph g)
      (none_less : (g : Graph) (w : Weights) (c : Certified) (p : Plan) → IsGraph g → AreAdmitted g w → IsCertified g w c → NamesOf g p → IsFeasible g p → c.cost ≤ cost g w p) where
    best : (p : Progress) (ask : Ask) (to : ℕ) (certified : Certified) → IsMove (λ asked weights. (to ≡ asked) × MayGo meaning hosts p asked weights) ask
        → IsMove (λ _ weights. (g : Graph) × meaning.IsGraph p.served g × IsCertified g weights certified) ask → HasBestPlan meaning p.served ask certified
    best p (Execute code silent store) to certified h k = absurd h
    best p Info to certified h k = absurd h
    best p (Complete code) to certified h k = absurd h
    best p (Shutdown restart) to certified h k = absurd h
    best p (Migrate asked weights) to certified (same, (can, (g, is, admitted, free))) (h, also, plan) =
        let one = one_graph p.served g h is also in
        let fits = subst (λ z. AreAdmitted z weights) one admitted in
        (h, also, plan, λ other named feasible. none_less h weights certified other (graphs p.served h also) fits plan named feasible)

    adopted_in : (p : Progress) (phase : Phase) (from to : ℕ) (request : Request) (certified : Certified) (objects : ℕ) → CouldGo p phase
        → MayBeAdopted meaning hosts p phase from to request certified objects → HasBestPlan meaning p.served request.ask certified × meaning.HasObjects p.served objects
    adopted_in p settled from to request certified objects h may = absurd may
    adopted_in p (sealed asked host) from to request certified objects h may = absurd may
    adopted_in p (arriving asked host) from to request certified objects h (origin, target, same, plan, all) =
        (subst (λ (r : Request). HasBestPlan meaning p.served r.ask certified) (sym same) (best p asked.ask host certified h plan), all)

    adopted_by : (p : Progress) (from to : ℕ) (request : Request) (certified : Certified) (objects : ℕ) → CouldGo p p.phase
        → IsOpening meaning hosts (Adopted from to request certified objects) ⊎ MayCome meaning hosts p (Adopted from to request certified objects)
        → HasBestPlan meaning p.served request.ask certified × meaning.HasObjects p.served objects
    adopted_by p from to request certified objects h (inl k) = absurd k
    adopted_by p from to request certified objects h (inr k) = adopted_in p p.phase from to request certified objects h k

    pub adopted : (journal before : List Entry) (from to : ℕ) (request : Request) (certified : Certified) (objects : ℕ) → IsLegal meaning hosts journal
        → Has journal before (Adopted from to request certified objects) → HasBestPlan meaning (progress_of before).served request.ask certified × meaning.HasObjects (progress_of before).served objects
    adopted journal before from to request certified objects legal has =
        adopted_by (progress_of before) from to request certified objects (could_there journal before (Adopted from to request certified objects) legal has)
        (came_there journal before (Adopted from to request certified objects) legal has)
