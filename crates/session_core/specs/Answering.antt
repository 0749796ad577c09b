-- Which entry of a journal answers which request.
use Rattle.std.specs.Prelude.{◌≡◌, ℕ, Bool, true, false, List, [], ◌∷◌, ◌++◌, length, filter, Some}
use Rattle.std.specs.List.{AllByRecursion}
use Rattle.session_core.specs.declared.request.Request.{Request}
use Rattle.session_core.specs.declared.entry.Entry.{Entry}
use Rattle.session_core.specs.Asks.{is_move}
use Rattle.session_core.specs.declared.entry.Entry.TheVariants.{Opened, Ran, Died, Dead, Sealed, Moved, Adopted, Refused, Resumed}
use Rattle.session_core.specs.Legal.{Phase, settled, sealed, arriving, progress_of, owner_after, asked_by, asked}

abbrev pub is_away : Phase → Bool
is_away settled = false
is_away (sealed request to) = true
is_away (arriving request to) = true

-- the host that did what the entry says, or at which it begins
abbrev pub host_of : Entry → ℕ
host_of (Opened host request channel) = host
host_of (Ran host request draws reply) = host
host_of (Died host request count cause) = host
host_of (Dead host request count) = host
host_of (Sealed host request to) = host
host_of (Moved to) = to
host_of (Adopted from to request certified objects) = to
host_of (Refused host request reason) = host
host_of (Resumed host request) = host

-- the entry after these answers this request, which is the k-th of its list
pub record AnswersNext (in_list : Request → Bool) (before : List Entry) (e : Entry) (k : ℕ) (r : Request) : Type 0 where
  pub asks : asked_by (progress_of before).phase e ≡ r ∷ []
  pub listed : in_list r ≡ true
  pub number : length (filter in_list (asked before)) ≡ k

-- the journal has this entry after these
abbrev pub Has : List Entry → List Entry → Entry → Type 0
Has journal before e = (rest : List Entry) × (journal ≡ before ++ e ∷ rest)

-- one entry of the journal, and no other, answers this request, which is the k-th of its list; and its host owned the
-- session then
pub record IsRunOnce (in_list : Request → Bool) (journal : List Entry) (k : ℕ) (r : Request) : Type 0 where
  pub before : List Entry
  pub entry : Entry
  pub has : Has journal before entry
  pub answers : AnswersNext in_list before entry k r
  pub by_owner : owner_after before ≡ Some (host_of entry)
  pub once : (others : List Entry) (other : Entry) (s : Request) → Has journal others other → AnswersNext in_list others other k s → (others ≡ before) × (other ≡ entry)

-- none of these requests asks to move
abbrev pub NoneMoves : List Request → Type 0
NoneMoves rs = AllByRecursion (λ r. is_move r.ask ≡ false) rs
