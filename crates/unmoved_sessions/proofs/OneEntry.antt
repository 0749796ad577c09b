-- In a session that isn't short of memory, one entry may come that answers the next request, but for the certificate of a move.
use Rattle.std.proofs.Common.{◌≡◌, ◌≢◌, ℕ, ◌<◌, Bool, true, false, List, [], ◌∷◌, ◌++◌, refl, sym, ap, ◌∙◌, subst}
use Rattle.nb_outside.specs.declared.feed.Drawn.{Drawn}
use Rattle.graph_model.specs.declared.plan.Certified.{Certified}
use Rattle.graph_model.specs.declared.plan.Tally.{Tally}
use Rattle.graph_model.specs.declared.plan.Weights.{Weights}
use Rattle.session_core.specs.declared.request.Ask.{Ask}
use Rattle.session_core.specs.declared.request.Ask.TheVariants.{Execute, Info, Complete, Shutdown, Migrate}
use Rattle.session_core.specs.declared.request.Request.{Request}
use Rattle.session_core.specs.declared.reply.Reply.{Reply}
use Rattle.session_core.specs.declared.entry.DiedCause.{DiedCause}
use Rattle.session_core.specs.declared.entry.DiedCause.TheVariants.{OutOfMemory, TooMany}
use Rattle.session_core.specs.declared.entry.MoveRefusal.{MoveRefusal}
use Rattle.session_core.specs.declared.entry.Entry.{Entry}
use Rattle.session_core.specs.declared.entry.Entry.TheVariants.{Opened, Ran, Died, Dead, Sealed, Moved, Adopted, Refused, Resumed}
use Rattle.session_core.specs.Asks.{IsWork, IsMove}
use Rattle.session_core.specs.Meanings.{Served, Meaning, more}
use Rattle.session_core.specs.Feeding.{drawn_by}
use Rattle.session_core.specs.Legal.{Phase, settled, sealed, arriving, Progress, IsReason, MayGo, IsCause, MayBeMoved, MayBeAdopted, MayBeResumed, MayCome, asked_by}
use Rattle.unmoved_sessions.specs.Alike.{HadMemory, IsAlike}
use Rattle.unmoved_sessions.proofs.OneWay.{IsOneWay}
use Rattle.unmoved_sessions.proofs.OneReason.{one_reason, no_reason}

-- a move is no work
not_both : (P : ℕ → Weights → Type 0) (ask : Ask) → IsWork ask → IsMove P ask → ⊥
not_both P (Execute code silent store) work moves = moves
not_both P Info work moves = moves
not_both P (Complete code) work moves = moves
not_both P (Shutdown restart) work moves = moves
not_both P (Migrate to weights) work moves = work

-- the same of two requests that are one
one_is_both : (P : ℕ → Weights → Type 0) (r s : Request) → r ≡ s → IsWork r.ask → IsMove P s.ask → ⊥
one_is_both P r s same work moves = not_both P s.ask (subst (λ (q : Request). IsWork q.ask) same work) moves

dead_and_alive : (dead : Bool) → dead ≡ true → dead ≡ false → ⊥
dead_and_alive dead one two = cc

same_first : (r s : Request) (rs ss : List Request) → r ∷ rs ≡ s ∷ ss → r ≡ s
same_first r s rs ss is = cc

-- ---- equal entries

ran_is : (h k owner : ℕ) (r s : Request) (d e : List Drawn) (reply other answered : Reply) → h ≡ owner → k ≡ owner → r ≡ s → d ≡ e → reply ≡ answered → other ≡ answered → Ran k s e other ≡ Ran h r d reply
ran_is h k owner r s d e reply other answered one two three four five six = cc

died_is : (h k owner : ℕ) (r s : Request) (n m count : ℕ) (d e : List Drawn) (w v : Tally) → h ≡ owner → k ≡ owner → r ≡ s → n ≡ count → m ≡ count → d ≡ e → w ≡ v → Died k s m (TooMany v e) ≡ Died h r n (TooMany w d)
died_is h k owner r s n m count d e w v one two three four five six seven = cc

dead_is : (h k owner : ℕ) (r s : Request) (n m count : ℕ) → h ≡ owner → k ≡ owner → r ≡ s → n ≡ count → m ≡ count → Dead k s m ≡ Dead h r n
dead_is h k owner r s n m count one two three four five = cc

sealed_is : (h k owner : ℕ) (r s : Request) (to other : ℕ) → h ≡ owner → k ≡ owner → r ≡ s → to ≡ other → Sealed k s other ≡ Sealed h r to
sealed_is h k owner r s to other one two three four = cc

refused_is : (h k owner : ℕ) (r s : Request) (why other : MoveRefusal) → h ≡ owner → k ≡ owner → r ≡ s → why ≡ other → Refused k s other ≡ Refused h r why
refused_is h k owner r s why other one two three four = cc

module _ (meaning : Meaning) (hosts : ℕ) (way : IsOneWay meaning) (p : Progress) where
  -- ---- what a move may say

  one_target : (ask : Ask) (to other : ℕ) → IsMove (λ asked weights. (to ≡ asked) × MayGo meaning hosts p asked weights) ask → IsMove (λ asked weights. (other ≡ asked) × MayGo meaning hosts p asked weights) ask → to ≡ other
  one_target (Execute code silent store) to other one two = absurd one
  one_target Info to other one two = absurd one
  one_target (Complete code) to other one two = absurd one
  one_target (Shutdown restart) to other one two = absurd one
  one_target (Migrate asked weights) to other one two = one.0 ∙ sym two.0

  goes_or_stays : (ask : Ask) (to : ℕ) (why : MoveRefusal) → IsMove (λ asked weights. (to ≡ asked) × MayGo meaning hosts p asked weights) ask → IsMove (λ asked weights. IsReason meaning hosts p asked weights why) ask → ⊥
  goes_or_stays (Execute code silent store) to why one two = one
  goes_or_stays Info to why one two = one
  goes_or_stays (Complete code) to why one two = one
  goes_or_stays (Shutdown restart) to why one two = one
  goes_or_stays (Migrate asked weights) to why one two = no_reason meaning hosts way p asked weights why one.1 two

  one_refusal : (ask : Ask) (why other : MoveRefusal) → IsMove (λ asked weights. IsReason meaning hosts p asked weights why) ask → IsMove (λ asked weights. IsReason meaning hosts p asked weights other) ask → why ≡ other
  one_refusal (Execute code silent store) why other one two = absurd one
  one_refusal Info why other one two = absurd one
  one_refusal (Complete code) why other one two = absurd one
  one_refusal (Shutdown restart) why other one two = absurd one
  one_refusal (Migrate asked weights) why other one two = one_reason meaning hosts way p asked weights why other one two

  -- ---- of a session that is with its owner

  module _ (here : p.phase ≡ settled) where
    not_moved : (to : ℕ) → MayBeMoved meaning hosts p.phase to → ⊥
    not_moved to may = subst (λ (phase : Phase). MayBeMoved meaning hosts phase to) here may

    not_adopted : (from to : ℕ) (r : Request) (by : Certified) (objects : ℕ) → MayBeAdopted meaning hosts p p.phase from to r by objects → ⊥
    not_adopted from to r by objects may = subst (λ (phase : Phase). MayBeAdopted meaning hosts p phase from to r by objects) here may

    ran_alike : (h : ℕ) (r : Request) (d : List Drawn) (reply : Reply) (f : Entry) (rs ss : List Request) (x y : List Drawn) → MayCome meaning hosts p (Ran h r d reply) → MayCome meaning hosts p f
        → HadMemory f → r ∷ rs ≡ asked_by settled f ++ ss → d ++ x ≡ drawn_by f ++ y → IsAlike (Ran h r d reply) f
    ran_alike h r d reply (Opened k header channel) rs ss x y one two had asks drew = absurd two
    ran_alike h r d reply (Ran k s e other) rs ss x y (phase, alive, host, work, says, run) (phase_too, alive_too, host_too, work_too, says_too, run_too) had asks drew =
        let same = same_first r s rs ss asks in
        let runs : meaning.IsRun (more p.served r.ask e) = subst (λ (q : Request). meaning.IsRun (more p.served q.ask e)) (sym same) run_too in
        let draws = way.served p.served r.ask d e x y run runs drew in
        ran_is h k p.owner r s d e reply other (meaning.answer p.served r.ask d) host host_too same draws says
        (says_too ∙ (ap (λ (q : Request). meaning.answer p.served q.ask e) (sym same) ∙ ap (meaning.answer p.served r.ask) (sym draws)))
    ran_alike h r d reply (Died k s count OutOfMemory) rs ss x y one two had asks drew = absurd had
    ran_alike h r d reply (Died k s count (TooMany which e)) rs ss x y (phase, alive, host, work, says, run) (phase_too, alive_too, host_too, work_too, count_is, full) had asks drew =
        let same = same_first r s rs ss asks in
        absurd (way.fits p.served r.ask d e x y which run (subst (λ (q : Request). meaning.Passes p.served q.ask e which) (sym same) full) drew)
    ran_alike h r d reply (Dead k s count) rs ss x y one two had asks drew = absurd (dead_and_alive p.dead two.1 one.1)
    ran_alike h r d reply (Sealed k s to) rs ss x y one two had asks drew = absurd (one_is_both _ r s (same_first r s rs ss asks) one.3 two.2)
    ran_alike h r d reply (Moved to) rs ss x y one two had asks drew = absurd (not_moved to two)
    ran_alike h r d reply (Adopted from to s by objects) rs ss x y one two had asks drew = absurd (not_adopted from to s by objects two)
    ran_alike h r d reply (Refused k s why) rs ss x y one two had asks drew = absurd (one_is_both _ r s (same_first r s rs ss asks) one.3 two.2)
    ran_alike h r d reply (Resumed k s) rs ss x y one two had asks drew = absurd had

    died_alike : (h : ℕ) (r : Request) (n : ℕ) (w : Tally) (d : List Drawn) (f : Entry) (rs ss : List Request) (x y : List Drawn) → MayCome meaning hosts p (Died h r n (TooMany w d)) → MayCome meaning hosts p f
        → HadMemory f → r ∷ rs ≡ asked_by settled f ++ ss → d ++ x ≡ drawn_by f ++ y → IsAlike (Died h r n (TooMany w d)) f
    died_alike h r n w d (Opened k header channel) rs ss x y one two had asks drew = absurd two
    died_alike h r n w d (Ran k s e other) rs ss x y (phase, alive, host, work, count_is, full) (phase_too, alive_too, host_too, work_too, says_too, run) had asks drew =
        let same = same_first r s rs ss asks in
        absurd (way.fits p.served r.ask e d y x w (subst (λ (q : Request). meaning.IsRun (more p.served q.ask e)) (sym same) run) full (sym drew))
    died_alike h r n w d (Died k s m OutOfMemory) rs ss x y one two had asks drew = absurd had
    died_alike h r n w d (Died k s m (TooMany v e)) rs ss x y (phase, alive, host, work, count_is, full) (phase_too, alive_too, host_too, work_too, count_too, full_too) had asks drew =
        let same = same_first r s rs ss asks in
        let draws = way.full p.served r.ask d e x y w v full (subst (λ (q : Request). meaning.Passes p.served q.ask e v) (sym same) full_too) drew in
        died_is h k p.owner r s n m (meaning.count p.served) d e w v host host_too same count_is count_too draws.0 draws.1
    died_alike h r n w d (Dead k s count) rs ss x y one two had asks drew = absurd (dead_and_alive p.dead two.1 one.1)
    died_alike h r n w d (Sealed k s to) rs ss x y one two had asks drew = absurd (one_is_both _ r s (same_first r s rs ss asks) one.3 two.2)
    died_alike h r n w d (Moved to) rs ss x y one two had asks drew = absurd (not_moved to two)
    died_alike h r n w d (Adopted from to s by objects) rs ss x y one two had asks drew = absurd (not_adopted from to s by objects two)
    died_alike h r n w d (Refused k s why) rs ss x y one two had asks drew = absurd (one_is_both _ r s (same_first r s rs ss asks) one.3 two.2)
    died_alike h r n w d (Resumed k s) rs ss x y one two had asks drew = absurd had

    dead_alike : (h : ℕ) (r : Request) (n : ℕ) (f : Entry) (rs ss : List Request) → MayCome meaning hosts p (Dead h r n) → MayCome meaning hosts p f
        → HadMemory f → r ∷ rs ≡ asked_by settled f ++ ss → IsAlike (Dead h r n) f
    dead_alike h r n (Opened k header channel) rs ss one two had asks = absurd two
    dead_alike h r n (Ran k s e other) rs ss one two had asks = absurd (dead_and_alive p.dead one.1 two.1)
    dead_alike h r n (Died k s m cause) rs ss one two had asks = absurd (dead_and_alive p.dead one.1 two.1)
    dead_alike h r n (Dead k s m) rs ss (phase, died, host, work, count_is) (phase_too, died_too, host_too, work_too, count_too) had asks =
        dead_is h k p.owner r s n m (meaning.count p.served) host host_too (same_first r s rs ss asks) count_is count_too
    dead_alike h r n (Sealed k s to) rs ss one two had asks = absurd (one_is_both _ r s (same_first r s rs ss asks) one.3 two.2)
    dead_alike h r n (Moved to) rs ss one two had asks = absurd (not_moved to two)
    dead_alike h r n (Adopted from to s by objects) rs ss one two had asks = absurd (not_adopted from to s by objects two)
    dead_alike h r n (Refused k s why) rs ss one two had asks = absurd (one_is_both _ r s (same_first r s rs ss asks) one.3 two.2)
    dead_alike h r n (Resumed k s) rs ss one two had asks = absurd had

    sealed_alike : (h : ℕ) (r : Request) (to : ℕ) (f : Entry) (rs ss : List Request) → MayCome meaning hosts p (Sealed h r to) → MayCome meaning hosts p f
        → HadMemory f → r ∷ rs ≡ asked_by settled f ++ ss → IsAlike (Sealed h r to) f
    sealed_alike h r to (Opened k header channel) rs ss one two had asks = absurd two
    sealed_alike h r to (Ran k s e other) rs ss one two had asks = absurd (one_is_both _ s r (sym (same_first r s rs ss asks)) two.3 one.2)
    sealed_alike h r to (Died k s m cause) rs ss one two had asks = absurd (one_is_both _ s r (sym (same_first r s rs ss asks)) two.3 one.2)
    sealed_alike h r to (Dead k s m) rs ss one two had asks = absurd (one_is_both _ s r (sym (same_first r s rs ss asks)) two.3 one.2)
    sealed_alike h r to (Sealed k s other) rs ss (phase, host, goes) (phase_too, host_too, goes_too) had asks =
        let same = same_first r s rs ss asks in
        let target = one_target r.ask to other goes (subst (λ (q : Request). IsMove (λ asked weights. (other ≡ asked) × MayGo meaning hosts p asked weights) q.ask) (sym same) goes_too) in
        sealed_is h k p.owner r s to other host host_too same target
    sealed_alike h r to (Moved other) rs ss one two had asks = absurd (not_moved other two)
    sealed_alike h r to (Adopted from other s by objects) rs ss one two had asks = absurd (not_adopted from other s by objects two)
    sealed_alike h r to (Refused k s why) rs ss (phase, host, goes) (phase_too, host_too, stays) had asks =
        let same = same_first r s rs ss asks in
        absurd (goes_or_stays r.ask to why goes (subst (λ (q : Request). IsMove (λ asked weights. IsReason meaning hosts p asked weights why) q.ask) (sym same) stays))
    sealed_alike h r to (Resumed k s) rs ss one two had asks = absurd had

    refused_alike : (h : ℕ) (r : Request) (why : MoveRefusal) (f : Entry) (rs ss : List Request) → MayCome meaning hosts p (Refused h r why) → MayCome meaning hosts p f
        → HadMemory f → r ∷ rs ≡ asked_by settled f ++ ss → IsAlike (Refused h r why) f
    refused_alike h r why (Opened k header channel) rs ss one two had asks = absurd two
    refused_alike h r why (Ran k s e other) rs ss one two had asks = absurd (one_is_both _ s r (sym (same_first r s rs ss asks)) two.3 one.2)
    refused_alike h r why (Died k s m cause) rs ss one two had asks = absurd (one_is_both _ s r (sym (same_first r s rs ss asks)) two.3 one.2)
    refused_alike h r why (Dead k s m) rs ss one two had asks = absurd (one_is_both _ s r (sym (same_first r s rs ss asks)) two.3 one.2)
    refused_alike h r why (Sealed k s to) rs ss (phase, host, stays) (phase_too, host_too, goes) had asks =
        let same = same_first r s rs ss asks in
        absurd (goes_or_stays r.ask to why (subst (λ (q : Request). IsMove (λ asked weights. (to ≡ asked) × MayGo meaning hosts p asked weights) q.ask) (sym same) goes) stays)
    refused_alike h r why (Moved to) rs ss one two had asks = absurd (not_moved to two)
    refused_alike h r why (Adopted from to s by objects) rs ss one two had asks = absurd (not_adopted from to s by objects two)
    refused_alike h r why (Refused k s other) rs ss (phase, host, stays) (phase_too, host_too, stays_too) had asks =
        let same = same_first r s rs ss asks in
        let reason = one_refusal r.ask why other stays (subst (λ (q : Request). IsMove (λ asked weights. IsReason meaning hosts p asked weights other) q.ask) (sym same) stays_too) in
        refused_is h k p.owner r s why other host host_too same reason
    refused_alike h r why (Resumed k s) rs ss one two had asks = absurd had

    pub settled_alike : (e f : Entry) (rs ss : List Request) (x y : List Drawn) → MayCome meaning hosts p e → MayCome meaning hosts p f → HadMemory e → HadMemory f
        → asked_by settled e ++ rs ≡ asked_by settled f ++ ss → drawn_by e ++ x ≡ drawn_by f ++ y → IsAlike e f
    settled_alike (Opened h header channel) f rs ss x y one two had had_too asks drew = absurd one
    settled_alike (Ran h r d reply) f rs ss x y one two had had_too asks drew = ran_alike h r d reply f rs ss x y one two had_too asks drew
    settled_alike (Died h r n OutOfMemory) f rs ss x y one two had had_too asks drew = absurd had
    settled_alike (Died h r n (TooMany w d)) f rs ss x y one two had had_too asks drew = died_alike h r n w d f rs ss x y one two had_too asks drew
    settled_alike (Dead h r n) f rs ss x y one two had had_too asks drew = dead_alike h r n f rs ss one two had_too asks
    settled_alike (Sealed h r to) f rs ss x y one two had had_too asks drew = sealed_alike h r to f rs ss one two had_too asks
    settled_alike (Moved to) f rs ss x y one two had had_too asks drew = absurd (not_moved to one)
    settled_alike (Adopted from to r by objects) f rs ss x y one two had had_too asks drew = absurd (not_adopted from to r by objects one)
    settled_alike (Refused h r why) f rs ss x y one two had had_too asks drew = refused_alike h r why f rs ss one two had_too asks
    settled_alike (Resumed h r) f rs ss x y one two had had_too asks drew = absurd had

    -- each answers a request
    pub settled_asks : (e : Entry) → MayCome meaning hosts p e → HadMemory e → (r : Request) × (asked_by settled e ≡ r ∷ [])
    settled_asks (Opened h header channel) one had = absurd one
    settled_asks (Ran h r d reply) one had = (r, refl)
    settled_asks (Died h r n cause) one had = (r, refl)
    settled_asks (Dead h r n) one had = (r, refl)
    settled_asks (Sealed h r to) one had = (r, refl)
    settled_asks (Moved to) one had = absurd (not_moved to one)
    settled_asks (Adopted from to r by objects) one had = absurd (not_adopted from to r by objects one)
    settled_asks (Refused h r why) one had = (r, refl)
    settled_asks (Resumed h r) one had = absurd had
