-- Where a session's owner is, and what the calls of a slot do.
use Rattle.std.specs.Prelude.{◌≡◌, ◌≢◌, ◌==◌, [], ◌∷◌, MatchOption, ℕ, cond, Bool, false, List, ⊤, Option, Result, None, Ok, Err}
use Rattle.nb_outside.specs.declared.feed.Drawn.{Drawn}
use Rattle.nb_outside.specs.Feeds.{Seen}
use Rattle.session_core.specs.declared.request.Header.{Header}
use Rattle.session_core.specs.declared.request.Channel.{Channel}
use Rattle.session_core.specs.declared.entry.Entry.TheVariants.{Opened, Moved}
use Rattle.session_core.specs.Legal.{progress_of, sealed, arriving}
use Rattle.session_queues.specs.declared.items.MainItem.TheVariants.{Opening}
use Rattle.session_queues.specs.declared.shared.SharedQueues.{SharedQueues}
use Rattle.session_queues.specs.Passes.{Producer, IsPassOf}
use Rattle.session_queues.specs.Ends.{opened_ends, nothing_pushed, gathered}
use Rattle.session_gate.specs.Facts.{Holds, Away, IsGiven, IsIn, IsSettled, OwesNone, IsBare, owner_of, HasNoted}
use Rattle.session_gate.specs.declared.slot.Custody.{Custody}
use Rattle.session_gate.specs.declared.slot.Custody.TheVariants.{Unopened, In, Out, Sealed}
use Rattle.session_gate.specs.declared.slot.Take.{Take}
use Rattle.session_gate.specs.declared.slot.Take.TheVariants as take

module _ {E F : Type 0} where
  -- it is a session of the name, settled, and owes nothing; the producers' lists are elsewhere
  abbrev pub IsAtRest : ℕ → List SharedQueues → (ℕ → Option (List Drawn)) → (F → Seen) → Holds E F → Type 0
  IsAtRest hosts queues gives seen h = IsIn hosts queues gives seen h × IsSettled h × OwesNone h × IsBare h

  -- the parcel ends with Sealed
  abbrev pub IsSealedUp : ℕ → List SharedQueues → (ℕ → Option (List Drawn)) → (F → Seen) → Away E F → Type 0
  IsSealedUp hosts queues gives seen p = IsIn hosts queues gives seen p.held × ((progress_of p.held.entries).phase ≡ sealed p.again p.to) × OwesNone p.held × IsBare p.held

  abbrev pub IsInOrder : ℕ → List SharedQueues → (ℕ → Option (List Drawn)) → (F → Seen) → Custody E F → Type 0
  IsInOrder hosts queues gives seen Unopened = ⊤
  IsInOrder hosts queues gives seen (In h) = IsAtRest hosts queues gives seen h
  IsInOrder hosts queues gives seen Out = ⊤
  IsInOrder hosts queues gives seen (Sealed p) = IsSealedUp hosts queues gives seen p

  -- the session of this number is there, sealed or not
  abbrev pub is_of : Custody E F → ℕ → Bool
  is_of Unopened number = false
  is_of (In h) number = h.number == number
  is_of Out number = false
  is_of (Sealed p) number = p.held.number == number

  -- this holds of the queues of whoever is there
  abbrev pub HasQueues : (SharedQueues → Type 0) → Custody E F → Type 0
  HasQueues P Unopened = ⊤
  HasQueues P (In h) = P h.ends.queues
  HasQueues P Out = ⊤
  HasQueues P (Sealed p) = P p.held.ends.queues

  -- an owner is there, and this holds of it
  abbrev pub HasOwner : (Holds E F → Type 0) → Custody E F → Type 0
  HasOwner P Unopened = ⊥
  HasOwner P (In h) = P h
  HasOwner P Out = ⊥
  HasOwner P (Sealed p) = ⊥

  -- if an owner is there, the pass is of its session
  abbrev pub IsPassHere : Custody E F → Producer → Type 0
  IsPassHere Unopened pass = ⊤
  IsPassHere (In h) pass = IsPassOf h.ends.queues pass
  IsPassHere Out pass = ⊤
  IsPassHere (Sealed p) pass = ⊤

  -- the parcel came to its host, and owes nothing; the producers' lists are elsewhere
  abbrev pub IsCollected : ℕ → List SharedQueues → (ℕ → Option (List Drawn)) → (F → Seen) → Away E F → Type 0
  IsCollected hosts queues gives seen p = IsIn hosts queues gives seen p.held × ((progress_of p.held.entries).phase ≡ arriving p.again p.to) × OwesNone p.held × IsBare p.held

  -- the owner at the end: it is at rest, of the session with these queues and this number, has the lists of this pass, and the feed
  -- of its kernel
  abbrev pub IsFinished : ℕ → SharedQueues → ℕ → Producer → (ℕ → Option (List Drawn)) → (F → Seen) → Holds E F → Type 0
  IsFinished hosts queues number pass gives seen h = IsSettled h × OwesNone h × (h.ends.queues ≡ queues) × (h.number ≡ number) × (h.hosts ≡ hosts)
      × (h.ends.main.lists ≡ pass.main.lists) × (h.ends.main.given ≡ pass.main.given)
      × (h.ends.control.lists ≡ pass.control.lists) × (h.ends.control.given ≡ pass.control.given) × IsGiven gives seen h

  -- nobody is there
  abbrev pub IsFree : Custody E F → Type 0
  IsFree Unopened = ⊤
  IsFree (In h) = ⊥
  IsFree Out = ⊤
  IsFree (Sealed p) = ⊥

  -- what a host that takes the session gets, and what is left
  abbrev pub took : Custody E F → ℕ → Take E F × Custody E F
  took Unopened host = (take.Unopened, Unopened)
  took (In h) host = cond (owner_of h == host) (take.Taken h, Out) (take.Elsewhere (owner_of h), In h)
  took Out host = (take.Out, Out)
  took (Sealed p) host = (take.Sealed p.to, Sealed p)

  -- if a lease was taken, this holds of it
  abbrev pub OnTaken : (Holds E F → Type 0) → Take E F → Type 0
  OnTaken P (take.Taken h) = P h
  OnTaken P (take.Elsewhere owner) = ⊤
  OnTaken P take.Unopened = ⊤
  OnTaken P take.Out = ⊤
  OnTaken P (take.Sealed to) = ⊤

  -- what a host that collects the session gets, and what is left
  abbrev pub Collects : Custody E F → ℕ → Option (Away E F) → Custody E F → Type 0
  Collects Unopened host r s = (r ≡ None) × (s ≡ Unopened)
  Collects (In h) host r s = (r ≡ None) × (s ≡ In h)
  Collects Out host r s = (r ≡ None) × (s ≡ Out)
  Collects (Sealed p) host r s = MatchOption r ((p.to ≢ host) × (s ≡ Sealed p))
      (λ q. (p.to ≡ host) × (s ≡ Out) × HasNoted p.held q.held (Moved host) × (q ≡ record p { held = q.held }))

  -- what a caller that holds a pass gets at the end, and what it gets back
  abbrev pub Finishes : Custody E F → Producer → Result (Holds E F) (Custody E F × Producer) → Type 0
  Finishes (In h) pass r = r ≡ Ok (record h { ends = gathered h.ends pass })
  Finishes Unopened pass r = r ≡ Err (Unopened, pass)
  Finishes Out pass r = r ≡ Err (Out, pass)
  Finishes (Sealed p) pass r = r ≡ Err (Sealed p, pass)

-- a session that was just opened
pub record IsNew {E F : Type 0} (engine : E) (feed : F) (queues : SharedQueues) (number kernel hosts host : ℕ) (request : Header) (channel : Channel) (h : Holds E F) : Type 0 where
  pub engine_is : h.engine ≡ engine
  pub feed_is : h.feed ≡ feed
  pub entries_are : h.entries ≡ Opened host request channel ∷ []
  pub ends_are : h.ends ≡ opened_ends queues (Opening kernel host request channel)
  pub out_is : h.out ≡ nothing_pushed queues
  pub number_is : h.number ≡ number
  pub kernel_is : h.kernel ≡ kernel
  pub hosts_are : h.hosts ≡ hosts
