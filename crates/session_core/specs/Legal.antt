-- Which journals are legal histories of a session.
use Rattle.std.specs.Prelude.{◌≡◌, ◌≢◌, ℕ, ◌<◌, ◌≤◌, Bool, true, false, ◌||◌, List, [], ◌∷◌, ◌++◌, filter, Option, Some, None}
use Rattle.graph_model.specs.declared.graph.Graph.{Graph}
use Rattle.graph_model.specs.declared.graph.Version.{Version}
use Rattle.graph_model.specs.declared.plan.Weights.{Weights}
use Rattle.graph_model.specs.declared.plan.Certified.{Certified}
use Rattle.graph_model.specs.Graphs.{VersionAt, IsStuck, IsFirstStuck}
use Rattle.graph_model.specs.declared.plan.Plan.{Plan}
use Rattle.graph_model.specs.Plans.{NamesOf, IsFeasible, AreAdmitted, cost}
use Rattle.graph_model.specs.Networks.{IsCertified}
use Rattle.plan_model.specs.Weighing.{IsWeightFault}
use Rattle.session_core.specs.declared.request.Ask.{Ask}
use Rattle.session_core.specs.declared.request.Request.{Request}
use Rattle.session_core.specs.declared.entry.MoveRefusal.{MoveRefusal}
use Rattle.session_core.specs.declared.entry.MoveRefusal.TheVariants.{Stuck, SameHost, UnknownHost, BadWeights, DeadKernel}
use Rattle.session_core.specs.declared.entry.DiedCause.{DiedCause}
use Rattle.session_core.specs.declared.entry.DiedCause.TheVariants.{OutOfMemory, TooMany}
use Rattle.session_core.specs.declared.entry.Entry.{Entry}
use Rattle.session_core.specs.declared.entry.Entry.TheVariants.{Opened, Ran, Died, Dead, Sealed, Moved, Adopted, Refused, Resumed}
use Rattle.session_core.specs.Asks.{is_end, IsWork, IsMove, is_main, is_control}
use Rattle.session_core.specs.Meanings.{Served, Meaning, more}

-- ---- how far a journal has come

-- where the session is: with its owner, packed for a host at this request, or on its way to that host
pub data Phase : Type 0 where
  settled : Phase
  sealed : Request → ℕ → Phase
  arriving : Request → ℕ → Phase

pub record Progress : Type 0 where
  -- the host that owns the session, or owned it last
  pub owner : ℕ
  pub phase : Phase
  -- what was served so far, restarts included
  pub served : List Served
  pub dead : Bool

abbrev pub moved : Phase → Phase
moved settled = settled
moved (sealed request to) = arriving request to
moved (arriving request to) = arriving request to

-- one entry more
abbrev pub after : Progress → Entry → Progress
after p (Opened host request channel) = record { owner = host; phase = settled; served = []; dead = false }
after p (Ran host request draws reply) = record p { served = more p.served request.ask draws; dead = p.dead || is_end request.ask }
after p (Died host request count cause) = record p { dead = true }
after p (Dead host request count) = p
after p (Sealed host request to) = record p { phase = sealed request to }
after p (Moved to) = record p { phase = moved p.phase }
after p (Adopted from to request certified objects) = record p { owner = to; phase = settled }
after p (Refused host request reason) = p
after p (Resumed host request) = record p { phase = settled }

abbrev pub all_after : Progress → List Entry → Progress
all_after p [] = p
all_after p (e ∷ es) = all_after (after p e) es

abbrev pub before_all : Progress
before_all = record { owner = 0; phase = settled; served = []; dead = false }

abbrev pub progress_of : List Entry → Progress
progress_of es = all_after before_all es

-- the owner: none while the session is packed or on its way
abbrev pub owner_in : Phase → ℕ → Option ℕ
owner_in settled host = Some host
owner_in (sealed request to) host = None
owner_in (arriving request to) host = None

abbrev pub owner_after : List Entry → Option ℕ
owner_after es = owner_in (progress_of es).phase (progress_of es).owner

-- ---- which entry may come

module _ (meaning : Meaning) (hosts : ℕ) where
  -- the session is alive, and the host is another one that is there
  abbrev pub CanGo : Progress → ℕ → Type 0
  CanGo p to = (p.dead ≡ false) × (to ≢ p.owner) × (to < hosts)

  -- the first reason why it doesn't move
  abbrev pub IsReason : Progress → ℕ → Weights → MoveRefusal → Type 0
  IsReason p to weights DeadKernel = p.dead ≡ true
  IsReason p to weights SameHost = (p.dead ≡ false) × (to ≡ p.owner)
  IsReason p to weights (UnknownHost host) = (p.dead ≡ false) × (to ≢ p.owner) × (hosts ≤ to) × (host ≡ to)
  IsReason p to weights (BadWeights fault) = CanGo p to × ((g : Graph) × meaning.IsGraph p.served g × IsWeightFault g weights fault)
  IsReason p to weights (Stuck version cell names) = CanGo p to × ((g : Graph) × meaning.IsGraph p.served g × AreAdmitted g weights
      × IsFirstStuck g version cell × ((x : Version) × VersionAt g version x × (names ≡ x.names)))

  -- no reason holds but perhaps the last
  abbrev pub MayTry : Progress → ℕ → Weights → Type 0
  MayTry p to weights = CanGo p to × ((g : Graph) × meaning.IsGraph p.served g × AreAdmitted g weights)

  -- no reason holds
  abbrev pub MayGo : Progress → ℕ → Weights → Type 0
  MayGo p to weights = CanGo p to × ((g : Graph) × meaning.IsGraph p.served g × AreAdmitted g weights × ((version cell : ℕ) → ¬ IsStuck g version cell))

  abbrev pub IsCause : Progress → Ask → DiedCause → Type 0
  IsCause p ask OutOfMemory = Unit {0}
  IsCause p ask (TooMany which draws) = meaning.Passes p.served ask draws which

  -- the plan is certified for the graph of what was served, under these weights
  abbrev pub HasPlan : Progress → Certified → Weights → Type 0
  HasPlan p certified weights = (g : Graph) × meaning.IsGraph p.served g × IsCertified g weights certified

  abbrev pub MayBeMoved : Phase → ℕ → Type 0
  MayBeMoved settled to = ⊥
  MayBeMoved (sealed request host) to = to ≡ host
  MayBeMoved (arriving request host) to = ⊥

  abbrev pub MayBeAdopted : Progress → Phase → ℕ → ℕ → Request → Certified → ℕ → Type 0
  MayBeAdopted p settled from to request certified objects = ⊥
  MayBeAdopted p (sealed asked host) from to request certified objects = ⊥
  MayBeAdopted p (arriving asked host) from to request certified objects = (from ≡ p.owner) × (to ≡ host) × (request ≡ asked)
      × IsMove (λ _ weights. HasPlan p certified weights) asked.ask × meaning.HasObjects p.served objects

  abbrev pub MayBeResumed : Progress → Phase → ℕ → Request → Type 0
  MayBeResumed p settled host request = (host ≡ p.owner) × IsMove (MayTry p) request.ask
  MayBeResumed p (sealed asked to) host request = ⊥
  MayBeResumed p (arriving asked to) host request = (host ≡ p.owner) × (request ≡ asked)

  abbrev pub MayCome : Progress → Entry → Type 0
  MayCome p (Opened host request channel) = ⊥
  MayCome p (Ran host request draws reply) = (p.phase ≡ settled) × (p.dead ≡ false) × (host ≡ p.owner) × IsWork request.ask
      × (reply ≡ meaning.answer p.served request.ask draws) × meaning.IsRun (more p.served request.ask draws)
  MayCome p (Died host request count cause) = (p.phase ≡ settled) × (p.dead ≡ false) × (host ≡ p.owner) × IsWork request.ask
      × (count ≡ meaning.count p.served) × IsCause p request.ask cause
  MayCome p (Dead host request count) = (p.phase ≡ settled) × (p.dead ≡ true) × (host ≡ p.owner) × IsWork request.ask × (count ≡ meaning.count p.served)
  MayCome p (Sealed host request to) = (p.phase ≡ settled) × (host ≡ p.owner) × IsMove (λ asked weights. (to ≡ asked) × MayGo p asked weights) request.ask
  MayCome p (Moved to) = MayBeMoved p.phase to
  MayCome p (Adopted from to request certified objects) = MayBeAdopted p p.phase from to request certified objects
  MayCome p (Refused host request reason) = (p.phase ≡ settled) × (host ≡ p.owner) × IsMove (λ to weights. IsReason p to weights reason) request.ask
  MayCome p (Resumed host request) = MayBeResumed p p.phase host request

  abbrev pub AllMayCome : Progress → List Entry → Type 0
  AllMayCome p [] = Unit {0}
  AllMayCome p (e ∷ es) = MayCome p e × AllMayCome (after p e) es

  -- it begins with its opening on a host that is there, and each later entry may come where it is
  abbrev pub IsOpening : Entry → Type 0
  IsOpening (Opened host request channel) = host < hosts
  IsOpening (Ran host request draws reply) = ⊥
  IsOpening (Died host request count cause) = ⊥
  IsOpening (Dead host request count) = ⊥
  IsOpening (Sealed host request to) = ⊥
  IsOpening (Moved to) = ⊥
  IsOpening (Adopted from to request certified objects) = ⊥
  IsOpening (Refused host request reason) = ⊥
  IsOpening (Resumed host request) = ⊥

  abbrev pub IsLegal : List Entry → Type 0
  IsLegal [] = ⊥
  IsLegal (e ∷ es) = IsOpening e × AllMayCome (after before_all e) es

-- ---- which requests a journal answers

-- a resumed request is answered here if it wasn't sealed before
abbrev pub if_settled : Phase → Request → List Request
if_settled settled request = request ∷ []
if_settled (sealed asked to) request = []
if_settled (arriving asked to) request = []

abbrev pub asked_by : Phase → Entry → List Request
asked_by phase (Opened host request channel) = []
asked_by phase (Ran host request draws reply) = request ∷ []
asked_by phase (Died host request count cause) = request ∷ []
asked_by phase (Dead host request count) = request ∷ []
asked_by phase (Sealed host request to) = request ∷ []
asked_by phase (Moved to) = []
asked_by phase (Adopted from to request certified objects) = []
asked_by phase (Refused host request reason) = request ∷ []
asked_by phase (Resumed host request) = if_settled phase request

abbrev pub asked_after : Progress → List Entry → List Request
asked_after p [] = []
asked_after p (e ∷ es) = asked_by p.phase e ++ asked_after (after p e) es

abbrev pub asked : List Entry → List Request
asked es = asked_after before_all es

-- those of the main list, and those of the control list
abbrev pub main_asked : List Entry → List Request
main_asked es = filter is_main (asked es)

abbrev pub control_asked : List Entry → List Request
control_asked es = filter is_control (asked es)

-- the plan of the move is certified for the graph of what was served, and no feasible plan costs less
abbrev pub HasBestPlan : Meaning → List Served → Ask → Certified → Type 0
HasBestPlan meaning served ask certified = IsMove (λ _ weights. (g : Graph) × meaning.IsGraph served g × IsCertified g weights certified
    × ((plan : Plan) → NamesOf g plan → IsFeasible g plan → certified.cost ≤ cost g weights plan)) ask

-- the version is active, holds a handle and can't be copied, and the cell, which it needs, drew and can't run again
abbrev pub NamesStuck : Meaning → List Served → ℕ → ℕ → List (List ℕ) → Type 0
NamesStuck meaning served version cell names = (g : Graph) × meaning.IsGraph served g × IsFirstStuck g version cell × ((x : Version) × VersionAt g version x × (names ≡ x.names))
