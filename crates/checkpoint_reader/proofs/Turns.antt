-- The turns of a loop that reads n items of one kind.
use Rattle.std.proofs.Common.{◌≡◌, ℕ, suc, ◌+◌, ◌-◌, ◌<◌, ◌≤◌, List, [], ◌∷◌, ◌++◌, Result, Ok, Err, refl, sym, ap, ◌∙◌, subst, arith}
use Rattle.std.specs.Prelude.{true}
use Rattle.checkpoint_reader.specs.declared.fault.CheckpointFault.{CheckpointFault}
use Rattle.checkpoint_reader.specs.declared.fault.CheckpointFault.TheVariants.{OutOfMemory, BadMagic, BadVersion, Cut, Part, Graph, PlanDisagrees, Trailing, BadField}
use Rattle.checkpoint_reader.specs.Reads.{Answer, Read, pure, after, turns, one_more, tells, told}

one_turn : {A : Type 0} (turn : A → Read A) (n i : ℕ) (before : A) (at : ℕ) → i < n
    → turns turn (n - i) before at ≡ after (turn before at) (λ now. turns turn (n - (i + 1)) now)
one_turn turn n i before at l = let e : n - i ≡ suc (n - (i + 1)) = omega arith in ap (λ (k : ℕ). turns turn k before at) e

-- what was read with the first turns, and what the others then read
pub turn_goes : {A : Type 0} (turn : A → Read A) (n i : ℕ) (before now : A) (at next : ℕ) (whole : Answer A) → i < n
    → turns turn (n - i) before at ≡ whole → turn before at ≡ Ok (now, next) → turns turn (n - (i + 1)) now next ≡ whole
turn_goes {A = A} turn n i before now at next whole l inv e =
    sym (one_turn turn n i before at l ∙ ap (λ (r : Answer A). after r (λ now. turns turn (n - (i + 1)) now)) e) ∙ inv

pub turn_fails : {A : Type 0} (turn : A → Read A) (n i : ℕ) (before : A) (at : ℕ) (fault : CheckpointFault) (whole : Answer A) → i < n
    → turns turn (n - i) before at ≡ whole → turn before at ≡ Err fault → whole ≡ Err fault
turn_fails {A = A} turn n i before at fault whole l inv e =
    sym inv ∙ (one_turn turn n i before at l ∙ ap (λ (r : Answer A). after r (λ now. turns turn (n - (i + 1)) now)) e)

pub turns_end : {A : Type 0} (turn : A → Read A) (n i : ℕ) (before : A) (at : ℕ) (whole : Answer A) → n ≤ i
    → turns turn (n - i) before at ≡ whole → whole ≡ Ok (before, at)
turns_end turn n i before at whole l inv = let e : n - i ≡ 0 = omega arith in sym inv ∙ ap (λ (k : ℕ). turns turn k before at) e

pub turns_begin : {A : Type 0} (turn : A → Read A) (n : ℕ) (before none : A) (at : ℕ) → before ≡ none → turns turn (n - 0) before at ≡ turns turn n none at
turns_begin {A = A} turn n before none at is =
    let e : n - 0 ≡ n = omega arith in ap (λ (k : ℕ). turns turn k before at) e ∙ ap (λ (a : A). turns turn n a at) is

-- an item that was read goes last
pub item_reads : {A : Type 0} (item : Read A) (n i : ℕ) (before now : List A) (a : A) (at next : ℕ) (whole : Answer (List A)) → i < n
    → turns (one_more item) (n - i) before at ≡ whole → item at ≡ Ok (a, next) → now ≡ before ++ a ∷ [] → turns (one_more item) (n - (i + 1)) now next ≡ whole
item_reads {A = A} item n i before now a at next whole l inv e put =
    ap (λ (xs : List A). turns (one_more item) (n - (i + 1)) xs next) put
    ∙ turn_goes (one_more item) n i before (before ++ a ∷ []) at next whole l inv (ap (λ (r : Answer A). after r (λ a. pure (before ++ a ∷ []))) e)

abbrev pub refused : (A : Type 0) → CheckpointFault → Result A CheckpointFault
refused A fault = Err fault

-- whether a fault tells anything doesn't depend on what was to be read
pub tells_any : (A B : Type 0) (fault : CheckpointFault) → tells (refused A fault) ≡ true → tells (refused B fault) ≡ true
tells_any A B OutOfMemory h = h
tells_any A B BadMagic h = refl
tells_any A B (BadVersion n) h = refl
tells_any A B (Cut at) h = refl
tells_any A B (Part at fault) h = refl
tells_any A B (Graph fault) h = refl
tells_any A B (PlanDisagrees item) h = refl
tells_any A B (Trailing at) h = refl
tells_any A B (BadField at) h = refl

-- a turn that fails ends the loop with its fault
pub failed_turn : {A : Type 0} (turn : A → Read A) (n i : ℕ) (before : A) (at now : ℕ) (fault : CheckpointFault) (result : Result A CheckpointFault) (whole : Answer A) → i < n
    → turns turn (n - i) before at ≡ whole → result ≡ refused A fault → tells result ≡ true → (tells (refused A fault) ≡ true → turn before at ≡ told (refused A fault) now)
    → whole ≡ told result now
failed_turn {A = A} turn n i before at now fault result whole l inv is t fails =
    let same : tells (refused A fault) ≡ true = subst (λ (r : Result A CheckpointFault). tells r ≡ true) is t in
    turn_fails turn n i before at fault whole l inv (fails same) ∙ ap (λ (r : Result A CheckpointFault). told r now) (sym is)

-- an item that fails ends the loop with its fault
pub failed_item : {A : Type 0} (item : Read A) (n i : ℕ) (before : List A) (at now : ℕ) (fault : CheckpointFault) (result : Result (List A) CheckpointFault) (whole : Answer (List A)) → i < n
    → turns (one_more item) (n - i) before at ≡ whole → result ≡ refused (List A) fault → tells result ≡ true → (tells (refused A fault) ≡ true → item at ≡ told (refused A fault) now)
    → whole ≡ told result now
failed_item {A = A} item n i before at now fault result whole l inv is t fails =
    failed_turn (one_more item) n i before at now fault result whole l inv is t
    (λ same. ap (λ (r : Answer A). after r (λ a. pure (before ++ a ∷ []))) (fails (tells_any (List A) A fault same)))
