-- What a session's feed gave, as its journal goes on.
use Rattle.std.proofs.Common.{◌≡◌, ℕ, zero, suc, ◌<◌, true, false, ◌⊎◌, inl, inr, List, [], ◌∷◌, ◌++◌, append_assoc, append-nil, refl, sym, ap, ◌∙◌, subst, Option, Some, None, Err, arith}
use Rattle.std.specs.Prelude.{replicate}
use Rattle.std.specs.List.{AllByRecursion}
use Rattle.std.proofs.lemmas.List.Concat.{flat_map-append}
use Rattle.nb_outside.specs.declared.feed.Drawn.{Drawn}
use Rattle.nb_outside.specs.declared.feed.Drawn.TheVariants.{Failed}
use Rattle.nb_outside.specs.Feeds.{Seen, HasAll, AreTaken, Fed}
use Rattle.nb_outside.proofs.Feeding.{fed_none, fed_more}
use Rattle.session_core.specs.declared.request.Request.{Request}
use Rattle.session_core.specs.declared.entry.DiedCause.{DiedCause}
use Rattle.session_core.specs.declared.entry.DiedCause.TheVariants.{OutOfMemory, TooMany}
use Rattle.session_core.specs.declared.entry.Entry.{Entry}
use Rattle.session_core.specs.declared.entry.Entry.TheVariants.{Opened, Ran, Died, Dead, Sealed, Moved, Adopted, Refused, Resumed}
use Rattle.session_core.specs.declared.engine.RunFault.{RunFault}
use Rattle.session_core.specs.declared.engine.RunFault.TheVariants as run
use Rattle.session_core.specs.Engines.{HasDrawn}
use Rattle.session_core.specs.Legal.{progress_of}
use Rattle.session_core.specs.Stepping.{cause_of, GoesOn}
use Rattle.session_core.specs.Feeding.{drawn_by, drawn_in, TellsDraws, Drew, AreFirstAnswers, HasFed}
use Rattle.session_core.proofs.Progressing.{progress_more}

-- ---- one entry more

pub drawn_more : (old new : List Entry) (e : Entry) → new ≡ old ++ e ∷ [] → drawn_in new ≡ drawn_in old ++ drawn_by e
drawn_more old new e is = ap drawn_in is ∙ flat_map-append drawn_by old (e ∷ []) ∙ ap (λ ds. drawn_in old ++ ds) (append-nil (drawn_by e))

-- one that draws nothing
pub drawn_still : (old new : List Entry) (e : Entry) → new ≡ old ++ e ∷ [] → drawn_by e ≡ [] → drawn_in new ≡ drawn_in old
drawn_still old new e is none = drawn_more old new e is ∙ ap (λ ds. drawn_in old ++ ds) none ∙ append-nil (drawn_in old)

told_before : (old more : List Entry) → AllByRecursion TellsDraws (old ++ more) → AllByRecursion TellsDraws old
told_before [] more told = tt
told_before (e ∷ old) more told = (told.0, told_before old more told.1)

told_last : (old : List Entry) (e : Entry) → AllByRecursion TellsDraws (old ++ e ∷ []) → TellsDraws e
told_last [] e told = told.0
told_last (x ∷ old) e told = told_last old e told.1

-- a death for want of memory, or one that tells
abbrev pub IsUntold : Entry → Type 0
IsUntold e = (host : ℕ) × (request : Request) × (count : ℕ) × (e ≡ Died host request count OutOfMemory)

untold_or_told : (e : Entry) → IsUntold e ⊎ TellsDraws e
untold_or_told (Opened host request channel) = inr tt
untold_or_told (Ran host request draws reply) = inr tt
untold_or_told (Died host request count OutOfMemory) = inl (host, request, count, refl)
untold_or_told (Died host request count (TooMany which draws)) = inr tt
untold_or_told (Dead host request count) = inr tt
untold_or_told (Sealed host request to) = inr tt
untold_or_told (Moved to) = inr tt
untold_or_told (Adopted from to request certified objects) = inr tt
untold_or_told (Refused host request reason) = inr tt
untold_or_told (Resumed host request) = inr tt

-- what was taken for a death by this fault
pub drew_at_fault : (fault : RunFault) (cause : DiedCause) (host : ℕ) (request : Request) (count : ℕ) (old new : Seen) → HasDrawn (Err fault) old new → cause ≡ cause_of fault
    → Drew (Died host request count cause) old new
drew_at_fault run.OutOfMemory cause host request count old new h is = subst (λ z. Drew (Died host request count z) old new) (sym is) (h.0, h.1, λ told. absurd told)
drew_at_fault (run.TooMany which draws) cause host request count old new h is = subst (λ z. Drew (Died host request count z) old new) (sym is) (draws, h, λ _. refl)

-- ---- what was taken from a feed

-- for a new session
pub fed_first : (answers : Option (List Drawn)) (entries : List Entry) (seen : Seen) → seen.made ≡ answers → HasAll seen → drawn_in entries ≡ [] → HasFed answers entries seen
fed_first answers entries seen made all none = record {
  start = seen;
  made = made;
  all = all;
  lost = [];
  fed = subst (λ ds. Fed seen (ds ++ []) seen) (sym none) (fed_none seen);
  none_lost = λ _. refl;
  all_told = λ _. refl;
}

-- nothing was drawn
pub fed_still : (answers : Option (List Drawn)) (old new : List Entry) (seen : Seen) → GoesOn old new → drawn_in new ≡ drawn_in old → (progress_of new).dead ≡ (progress_of old).dead
    → HasFed answers old seen → HasFed answers new seen
fed_still answers old new seen goes_on drawn dead h = record {
  start = h.start;
  made = h.made;
  all = h.all;
  lost = h.lost;
  fed = subst (λ ds. Fed h.start (ds ++ h.lost) seen) (sym drawn) h.fed;
  none_lost = λ alive. h.none_lost (sym dead ∙ alive);
  all_told = λ told. h.all_told (told_before old goes_on.0 (subst (AllByRecursion TellsDraws) goes_on.1 told));
}

-- while a session is alive, what its entries say is all that was taken
fed_alive : (answers : Option (List Drawn)) (old : List Entry) (draws : List Drawn) (seen now : Seen) (h : HasFed answers old seen) → (progress_of old).dead ≡ false → Fed seen draws now
    → Fed h.start (drawn_in old ++ draws) now
fed_alive answers old draws seen now h alive fed =
    subst (λ ds. Fed h.start (ds ++ draws) now) (ap (λ ds. drawn_in old ++ ds) (h.none_lost alive) ∙ append-nil (drawn_in old))
    (fed_more h.start seen now (drawn_in old ++ h.lost) draws h.fed fed)

-- an entry came that says what was drawn for it
fed_told : (answers : Option (List Drawn)) (old new : List Entry) (e : Entry) (seen now : Seen) → new ≡ old ++ e ∷ [] → (progress_of old).dead ≡ false → Fed seen (drawn_by e) now
    → HasFed answers old seen → HasFed answers new now
fed_told answers old new e seen now is alive fed h = record {
  start = h.start;
  made = h.made;
  all = h.all;
  lost = [];
  fed = subst (λ ds. Fed h.start ds now) (sym (append-nil (drawn_in new) ∙ drawn_more old new e is)) (fed_alive answers old (drawn_by e) seen now h alive fed);
  none_lost = λ _. refl;
  all_told = λ _. refl;
}

-- the session died for want of memory
fed_untold : (answers : Option (List Drawn)) (old new : List Entry) (host : ℕ) (request : Request) (count : ℕ) (draws : List Drawn) (seen now : Seen)
    → new ≡ old ++ Died host request count OutOfMemory ∷ [] → (progress_of old).dead ≡ false → Fed seen draws now → HasFed answers old seen → HasFed answers new now
fed_untold answers old new host request count draws seen now is alive fed h = let e = Died host request count OutOfMemory in record {
  start = h.start;
  made = h.made;
  all = h.all;
  lost = draws;
  fed = subst (λ ds. Fed h.start (ds ++ draws) now) (sym (drawn_still old new e is refl)) (fed_alive answers old draws seen now h alive fed);
  none_lost = λ living. let never : true ≡ false = sym (ap (λ es. (progress_of es).dead) is ∙ ap (λ p. p.dead) (progress_more old e)) ∙ living in cc;
  all_told = λ told. absurd (told_last old e (subst (AllByRecursion TellsDraws) is told));
}

fed_either : (answers : Option (List Drawn)) (old new : List Entry) (e : Entry) (seen now : Seen) → IsUntold e ⊎ TellsDraws e → new ≡ old ++ e ∷ [] → (progress_of old).dead ≡ false
    → Drew e seen now → HasFed answers old seen → HasFed answers new now
fed_either answers old new e seen now (inl (host, request, count, same)) is alive drew h =
    fed_untold answers old new host request count drew.0 seen now (is ∙ ap (λ x. old ++ x ∷ []) same) alive drew.1 h
fed_either answers old new e seen now (inr told) is alive drew h = fed_told answers old new e seen now is alive (subst (λ ds. Fed seen ds now) (drew.2 told) drew.1) h

-- an entry came for which this was taken
pub fed_by : (answers : Option (List Drawn)) (old new : List Entry) (e : Entry) (seen now : Seen) → new ≡ old ++ e ∷ [] → (progress_of old).dead ≡ false
    → Drew e seen now → HasFed answers old seen → HasFed answers new now
fed_by answers old new e seen now is alive drew h = fed_either answers old new e seen now (untold_or_told e) is alive drew h

-- ---- the feed's answers

first_of : (answers draws lost more given : List Drawn) (n : ℕ) → answers ≡ given ++ more → draws ++ lost ≡ given ++ replicate n Failed → (0 < n → more ≡ [])
    → AreFirstAnswers (Some answers) draws
first_of answers draws lost more given zero a d none =
    (lost ++ more, 0, append-nil answers ∙ a ∙ ap (λ z. z ++ more) (sym (append-nil given) ∙ sym d) ∙ append_assoc draws lost more)
first_of answers draws lost more given (suc n) a d none =
    (lost, suc n, ap (λ z. z ++ replicate (suc n) Failed) (a ∙ ap (λ z. given ++ z) (none (omega arith)) ∙ append-nil given) ∙ sym d)

first_taken : (answers made left : Option (List Drawn)) (draws lost : List Drawn) → made ≡ answers → AreTaken made (draws ++ lost) left → AreFirstAnswers answers draws
first_taken None made left draws lost is taken = tt
first_taken (Some answers) made left draws lost is taken =
    let (more, is_left, t) = subst (λ m. AreTaken m (draws ++ lost) left) is taken in
    first_of answers draws lost more t.given t.failures t.answers_are t.drawn_are t.none_left

-- what the entries say was drawn are the feed's first answers
pub first_answers : (answers : Option (List Drawn)) (entries : List Entry) (seen : Seen) → HasFed answers entries seen → AreFirstAnswers answers (drawn_in entries)
first_answers answers entries seen h = first_taken answers h.start.left seen.left (drawn_in entries) h.lost (h.all ∙ h.made) h.fed.left
