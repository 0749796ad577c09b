-- Steps of reading: what is read at a spot, and where the next step goes on, or why it can't be read. A step is over any kind of spots S
-- and of faults E.
use Rattle.std.specs.Prelude.{ℕ, zero, suc, List, [], ◌∷◌, ◌++◌, Result, Ok, Err}

abbrev pub Answer : Type 0 → Type 0 → Type 0 → Type 0
Answer S E A = Result (A × S) E

abbrev pub Read : Type 0 → Type 0 → Type 0 → Type 0
Read S E A = S → Answer S E A

abbrev pub pure : {S E A : Type 0} → A → Read S E A
pure a spot = Ok (a, spot)

abbrev pub fail : {S E A : Type 0} → E → Read S E A
fail fault spot = Err fault

abbrev pub after : {S E A B : Type 0} → Answer S E A → (A → Read S E B) → Answer S E B
after (Ok read) next = next read.0 read.1
after (Err fault) next = Err fault

infixl 10 ◌>>=◌
abbrev pub ◌>>=◌ : {S E A B : Type 0} → Read S E A → (A → Read S E B) → Read S E B
m >>= next = λ spot. after (m spot) next

-- n turns, each of which adds to what was read before it
abbrev pub turns : {S E A : Type 0} → (A → Read S E A) → ℕ → A → Read S E A
turns turn zero before = pure before
turns turn (suc n) before = turn before >>= λ now. turns turn n now

-- n steps, each of which knows what the steps before it read
abbrev pub more : {S E A : Type 0} → (List A → Read S E A) → ℕ → List A → Read S E (List A)
more step zero before = pure before
more step (suc n) before = step before >>= λ a. more step n (before ++ a ∷ [])

abbrev pub one_more : {S E A : Type 0} → Read S E A → List A → Read S E (List A)
one_more item before = item >>= λ a. pure (before ++ a ∷ [])

-- n items
abbrev pub many : {S E A : Type 0} → Read S E A → ℕ → Read S E (List A)
many item n = turns (one_more item) n []
