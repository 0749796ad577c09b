-- What a ruled queue keeps, and what each pass knows of it.
use Rattle.std.specs.Prelude.{◌≡◌, ◌≢◌, ℕ, ◌+◌, ◌≤◌, ◌<◌, ◌==◌, ◌⊎◌, Bool, true, false, List, [], ◌∷◌, ◌++◌, filter, map, ⊤}
use mathlib.Core.Option.{some}
use lib.ListN.{get_elem?}
use Rattle.ruled_queue.specs.declared.rule.View.{View}

module _ {T : Type 0} where
  -- the list l is kept under the number n
  abbrev pub Keeps : ℕ → List T → List (ℕ × List T) → Type 0
  Keeps n l [] = ⊥
  Keeps n l (e ∷ es) = ((e.0 ≡ n) × (e.1 ≡ l)) ⊎ Keeps n l es

  abbrev pub knows : Bool → List T → List (ℕ × List T) → ℕ → View T
  knows pops popped lists given = record { pops = pops; popped = popped; lists = lists; given = given; looks = 0 }

  -- the pass that a queue is made with: it pops and has number 0, and no other number was given
  abbrev pub first_view : View T
  first_view = knows true [] ((0, []) ∷ []) 1

  -- a pass that was joined into another
  abbrev pub spent_view : View T
  spent_view = knows false [] [] 0

  -- what the consumer and the producer know once they are parted
  abbrev pub consumer_part : View T → View T
  consumer_part v = record (knows true v.popped [] 0) { looks = v.looks }

  abbrev pub producer_part : View T → View T
  producer_part v = knows false [] v.lists v.given

  -- the next number is given to another pass
  abbrev pub gave_number : View T → View T
  gave_number v = record v { given = v.given + 1 }

  abbrev pub next_number : View T → View T
  next_number v = knows false [] ((v.given, []) ∷ []) 0

  -- a producer's lists are taken in
  abbrev pub joined : View T → View T → View T
  joined v w = record v { lists = v.lists ++ w.lists; given = v.given + w.given }

  -- it found the queue empty once more
  abbrev pub looked : View T → View T
  looked v = record v { looks = v.looks + 1 }

  -- what no pass knows
  abbrev pub impossible : View T
  impossible = knows true [] ((0, []) ∷ (1, []) ∷ []) 1

  abbrev pub took : View T → T → View T
  took v x = record v { popped = v.popped ++ x ∷ [] }

  -- this holds of each item
  abbrev pub Each : (T → Type 0) → List T → Type 0
  Each P [] = ⊤
  Each P (x ∷ xs) = P x × Each P xs

  -- only the first item may open
  abbrev pub OnlyFirstOpens : (T → Bool) → List T → Type 0
  OnlyFirstOpens opens [] = ⊤
  OnlyFirstOpens opens (x ∷ xs) = Each (λ y. opens y ≡ false) xs

module _ {T : Type 0} (number : T → ℕ) where
  -- the items of one number, in order
  abbrev pub of : ℕ → List T → List T
  of n items = filter (λ (x : T). number x == n) items

  -- the list of the item's number grows by it
  abbrev pub grow : T → ℕ × List T → ℕ × List T
  grow x e = (e.0, e.1 ++ of e.0 (x ∷ []))

  abbrev pub grown : View T → T → View T
  grown v x = record v { lists = map (grow x) v.lists }

  -- what one pass knows is true
  pub record Fits (reader : ℕ) (popped : List T) (given : ℕ) (all : List T) (seat : ℕ → ℕ) (pass : ℕ) (v : View T) : Type 0 where
    pub pops : v.pops ≡ true → (pass ≡ reader) × (v.popped ≡ popped)
    pub keeps : (n : ℕ) (l : List T) → Keeps n l v.lists → (seat n ≡ pass) × (l ≡ of n all) × (n < given)
    pub gives : 0 < v.given → (v.given ≡ given) × (seat 0 ≡ pass)

  module _ (IsFit : T → Type 0) (opens : T → Bool) where
    -- What was popped and then what is queued, filtered by each number that was given, is the list kept under that number, and
    -- exactly one pass keeps it. Each item is fit for the queue, and only the first may open.
    pub record Kept (items : List T) (views : List (View T)) : Type 0 where
      pub reader : ℕ
      pub popped : List T
      pub given : ℕ
      pub seat : ℕ → ℕ
      pub fits : (pass : ℕ) (v : View T) → get_elem? views pass ≡ some v → Fits reader popped given (popped ++ items) seat pass v
      pub there : (n : ℕ) → n < given → (v : View T) × (l : List T) × (get_elem? views (seat n) ≡ some v) × Keeps n l v.lists
      pub later : (n : ℕ) → given ≤ n → of n (popped ++ items) ≡ []
      pub fit : Each IsFit (popped ++ items)
      pub opening : OnlyFirstOpens opens (popped ++ items)

    -- The item is fit, and opens only if it is the first. It is the next of its own number's list, as far as the pass keeps
    -- that, and its number was given.
    pub record Took (v : View T) (x : T) (w : View T) : Type 0 where
      pub now : w ≡ took v x
      pub next : (l : List T) → Keeps (number x) l v.lists → (rest : List T) × (l ≡ of (number x) v.popped ++ x ∷ rest)
      pub known : 0 < v.given → number x < v.given
      pub fit : IsFit x
      pub opening : v.popped ≢ [] → opens x ≡ false

    -- a pass may push the item: it keeps the item's number, and the item opens only if nothing was pushed yet
    pub record MayPush (v : View T) (x : T) : Type 0 where
      pub keeps : (l : List T) × Keeps (number x) l v.lists
      pub fit : IsFit x
      pub opening : (opens x ≡ false) ⊎ (v ≡ first_view)

  -- what is queued of each number is what the pass keeps of it and has not popped
  pub record Waits (v : View T) (items : List T) : Type 0 where
    pub of_each : (n : ℕ) (l : List T) → Keeps n l v.lists → l ≡ of n (v.popped ++ items)
    pub later : 0 < v.given → (n : ℕ) → v.given ≤ n → of n (v.popped ++ items) ≡ []
