-- What a link gave and was sent.
use Rattle.std.specs.Prelude.{◌≡◌, ◌≤◌, ◌⊎◌, Bool, true, false, List, ◌∷◌, ◌++◌, ℕ, Option, Some, None}
use Rattle.nb_outside.specs.Counts.{HasRisen}
use Rattle.nb_links.specs.Lines.{Line, Adds}
use Rattle.node_serve.specs.Units.{AllOf, FrontOf}

-- it was sent the first of these bytes
abbrev pub AddsFront : Option Line → Option Line → List ℕ → Type 0
AddsFront old new bytes = (front : List ℕ) × (back : List ℕ) × (bytes ≡ front ++ back) × Adds old new front

-- on the way: the front is sent, and this is left
pub record SendsSoFar (old new : Option Line) (bytes rest : List ℕ) : Type 0 where
  pub done : List ℕ
  pub parts : bytes ≡ done ++ rest
  pub adds : Adds old new done

-- it gave these bytes, the first of those that it had left, and was sent those; a link that tells nothing goes on telling nothing
abbrev pub WentOn : Option Line → Option Line → List ℕ → List ℕ → Type 0
WentOn None new taken sent = new ≡ None
WentOn (Some line) new taken sent = (rest : List ℕ) × (line.left ≡ taken ++ rest) × (new ≡ Some (record { gave = line.gave ++ taken; left = rest; sent = line.sent ++ sent }))

-- what it has left, if it tells that
abbrev pub left_of : Option Line → Option (List ℕ)
left_of None = None
left_of (Some line) = Some line.left

-- ---- a link that is sent nothing more once it met a fault

-- what it tells, how many faults it met, and whether it is cut off for one
pub record Wire : Type 0 where
  pub line : Option Line
  pub faults : ℕ
  pub cut : Bool

abbrev pub wire : Option Line → ℕ → Bool → Wire
wire line faults cut = record { line = line; faults = faults; cut = cut }

-- the bytes were sent, or the first of them and then it was cut off, or it was before
abbrev pub Says : Bool → Bool → Option Line → Option Line → List ℕ → Type 0
Says true cut old new bytes = (cut ≡ true) × (new ≡ old)
Says false true old new bytes = AddsFront old new bytes
Says false false old new bytes = Adds old new bytes

-- it is cut off for a fault alone
pub record Tells (old new : Wire) (bytes : List ℕ) : Type 0 where
  pub says : Says old.cut new.cut old.line new.line bytes
  pub stays : old.faults ≤ new.faults
  pub risen : new.cut ≡ true → (old.cut ≡ true) ⊎ HasRisen old.faults new.faults

-- memory ran out: perhaps the first of the bytes were sent, but nothing if it was cut off before
pub record TellsFront (old new : Wire) (bytes : List ℕ) : Type 0 where
  pub says : Says old.cut true old.line new.line bytes
  pub stays : old.faults ≤ new.faults

-- by whether memory sufficed
abbrev pub TellsWhile : Bool → Wire → Wire → List ℕ → Type 0
TellsWhile true old new bytes = Tells old new bytes
TellsWhile false old new bytes = TellsFront old new bytes

-- all of these units were sent, or the first bytes of that if it is cut off
abbrev pub Sends : Bool → List (List (List ℕ)) → List ℕ → Type 0
Sends true lists sent = FrontOf lists sent
Sends false lists sent = AllOf lists sent

-- since the start these bytes were taken, and these units sent
pub record IsSending (start now : Wire) (taken : List ℕ) (lists : List (List (List ℕ))) : Type 0 where
  pub sent : List ℕ
  pub went : WentOn start.line now.line taken sent
  pub sends : Sends now.cut lists sent
  pub stays : start.faults ≤ now.faults
  pub risen : now.cut ≡ true → HasRisen start.faults now.faults
  pub kept : start.cut ≡ true → now.cut ≡ true

-- since the start these bytes were taken, and the first bytes of these units sent
pub record HasSentFront (start now : Wire) (taken : List ℕ) (lists : List (List (List ℕ))) : Type 0 where
  pub sent : List ℕ
  pub went : WentOn start.line now.line taken sent
  pub front : FrontOf lists sent
  pub stays : start.faults ≤ now.faults

-- by whether memory sufficed
abbrev pub SendsWhile : Bool → Wire → Wire → List ℕ → List (List (List ℕ)) → Type 0
SendsWhile true start now taken lists = IsSending start now taken lists
SendsWhile false start now taken lists = HasSentFront start now taken lists

-- Whatever else was sent since any start: of one of the lists these units were sent, and now those. Memory sufficed before, or not, and
-- then.
abbrev pub SendsOn : Bool → Bool → Wire → Wire → List (List ℕ) → List (List ℕ) → Type 0
SendsOn before then old new units later = (start : Wire) (taken : List ℕ) (lists others : List (List (List ℕ)))
    → SendsWhile before start old taken (lists ++ units ∷ others) → SendsWhile then start new taken (lists ++ later ∷ others)
