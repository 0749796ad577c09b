-- What a journal has if nothing but cells is asked: a run for each cell, until it dies.
use Rattle.std.proofs.Common.{◌≡◌, ℕ, Bool, true, false, ◌||◌, List, [], ◌∷◌, refl, sym, ap, ◌∙◌, subst, ◌⊎◌, inl, inr}
use Rattle.std.specs.Prelude.{filter}
use Rattle.std.specs.List.{AllByRecursion}
use Rattle.nb_outside.specs.declared.feed.Drawn.{Drawn}
use Rattle.session_core.specs.declared.request.Header.{Header}
use Rattle.session_core.specs.declared.request.Channel.{Channel}
use Rattle.session_core.specs.declared.request.Request.{Request}
use Rattle.session_core.specs.declared.reply.Reply.{Reply}
use Rattle.session_core.specs.declared.entry.DiedCause.{DiedCause}
use Rattle.session_core.specs.declared.entry.MoveRefusal.{MoveRefusal}
use Rattle.session_core.specs.declared.entry.Entry.{Entry}
use Rattle.session_core.specs.declared.entry.Entry.TheVariants.{Opened, Ran, Died, Dead, Sealed, Moved, Adopted, Refused, Resumed}
use Rattle.session_core.specs.Asks.{IsMove, is_end, is_main, is_control}
use Rattle.session_core.specs.Meanings.{Served, Meaning, more}
use Rattle.session_core.specs.Legal.{settled, Progress, MayTry, IsReason, MayGo, AllMayCome, IsLegal, asked_after, asked, main_asked, control_asked}
use Rattle.unmoved_sessions.specs.Cells.{AsksCell, DiesAt, StaysDead}
use Rattle.unmoved_sessions.proofs.Asked.{no_move, same_list}

-- with its owner, after what was served
abbrev at : ℕ → List Served → Bool → Progress
at host served dead = record { owner = host; phase = settled; served = served; dead = dead }

-- each request ran on this host, in order, after what was served, until the session died
abbrev pub AllRan : Meaning → ℕ → List Served → List Request → List Entry → Type 0
AllRan meaning host served [] [] = Unit {0}
AllRan meaning host served [] (e ∷ es) = ⊥
AllRan meaning host served (r ∷ rs) [] = ⊥
AllRan meaning host served (r ∷ rs) (e ∷ es) = ((draws : List Drawn) × (e ≡ Ran host r draws (meaning.answer served r.ask draws))
    × meaning.IsRun (more served r.ask draws) × AllRan meaning host (more served r.ask draws) rs es)
    ⊎ (DiesAt host (meaning.count served) r e × StaysDead host (meaning.count served) rs es)

ran_is : (host h : ℕ) (r : Request) (draws : List Drawn) (reply answered : Reply) → h ≡ host → reply ≡ answered → Ran h r draws reply ≡ Ran host r draws answered
ran_is host h r draws reply answered same is = cc

died_is : (host h : ℕ) (r : Request) (count known : ℕ) (cause : DiedCause) → h ≡ host → count ≡ known → Died h r count cause ≡ Died host r known cause
died_is host h r count known cause same is = cc

dead_is : (host h : ℕ) (r : Request) (count known : ℕ) → h ≡ host → count ≡ known → Dead h r count ≡ Dead host r known
dead_is host h r count known same is = cc

stays_alive : (dead : Bool) (r : Request) → dead ≡ false → AsksCell r → dead || is_end r.ask ≡ false
stays_alive dead r alive (code, is) = ap (λ b. b || is_end r.ask) alive ∙ ap is_end is

module _ (meaning : Meaning) (hosts : ℕ) where
  -- a cell is none of these
  not_sealed : (p : Progress) (r : Request) (to : ℕ) → AsksCell r → IsMove (λ asked weights. (to ≡ asked) × MayGo meaning hosts p asked weights) r.ask → ⊥
  not_sealed p r to cell moves = no_move (λ asked weights. (to ≡ asked) × MayGo meaning hosts p asked weights) r cell moves

  not_refused : (p : Progress) (r : Request) (reason : MoveRefusal) → AsksCell r → IsMove (λ to weights. IsReason meaning hosts p to weights reason) r.ask → ⊥
  not_refused p r reason cell moves = no_move (λ to weights. IsReason meaning hosts p to weights reason) r cell moves

  not_resumed : (p : Progress) (r : Request) → AsksCell r → IsMove (MayTry meaning hosts p) r.ask → ⊥
  not_resumed p r cell moves = no_move (MayTry meaning hosts p) r cell moves

  all_dead : (host : ℕ) (served : List Served) (dead : Bool) (es : List Entry) → dead ≡ true → AllMayCome meaning hosts (at host served dead) es
      → AllByRecursion AsksCell (asked_after (at host served dead) es) → StaysDead host (meaning.count served) (asked_after (at host served dead) es) es
  all_dead host served dead [] died may cells = tt
  all_dead host served dead (Opened h request channel ∷ es) died may cells = absurd may.0
  all_dead host served dead (Ran h request draws reply ∷ es) died ((phase, alive, same, work, is, run), may) cells = let no : ⊥ = cc in absurd no
  all_dead host served dead (Died h request count cause ∷ es) died ((phase, alive, same, work, is, why), may) cells = let no : ⊥ = cc in absurd no
  all_dead host served dead (Dead h request count ∷ es) died ((phase, was_dead, same, work, is), may) cells =
      (dead_is host h request count (meaning.count served) same is, all_dead host served dead es died may cells.1)
  all_dead host served dead (Sealed h request to ∷ es) died ((phase, same, moves), may) cells = absurd (not_sealed (at host served dead) request to cells.0 moves)
  all_dead host served dead (Moved to ∷ es) died may cells = absurd may.0
  all_dead host served dead (Adopted from to request certified objects ∷ es) died may cells = absurd may.0
  all_dead host served dead (Refused h request reason ∷ es) died ((phase, same, moves), may) cells = absurd (not_refused (at host served dead) request reason cells.0 moves)
  all_dead host served dead (Resumed h request ∷ es) died ((same, moves), may) cells = absurd (not_resumed (at host served dead) request cells.0 moves)

  all_ran : (host : ℕ) (served : List Served) (dead : Bool) (es : List Entry) → dead ≡ false → AllMayCome meaning hosts (at host served dead) es
      → AllByRecursion AsksCell (asked_after (at host served dead) es) → AllRan meaning host served (asked_after (at host served dead) es) es
  all_ran host served dead [] alive may cells = tt
  all_ran host served dead (Opened h request channel ∷ es) alive may cells = absurd may.0
  all_ran host served dead (Ran h request draws reply ∷ es) alive ((phase, was_alive, same, work, is, run), may) cells =
      inl (
        draws,
        ran_is host h request draws reply (meaning.answer served request.ask draws) same is,
        run,
        all_ran host (more served request.ask draws) (dead || is_end request.ask) es (stays_alive dead request alive cells.0) may cells.1,
      )
  all_ran host served dead (Died h request count cause ∷ es) alive ((phase, was_alive, same, work, is, why), may) cells =
      inr ((cause, died_is host h request count (meaning.count served) cause same is), all_dead host served true es refl may cells.1)
  all_ran host served dead (Dead h request count ∷ es) alive ((phase, died, same, work, is), may) cells = let no : ⊥ = cc in absurd no
  all_ran host served dead (Sealed h request to ∷ es) alive ((phase, same, moves), may) cells = absurd (not_sealed (at host served dead) request to cells.0 moves)
  all_ran host served dead (Moved to ∷ es) alive may cells = absurd may.0
  all_ran host served dead (Adopted from to request certified objects ∷ es) alive may cells = absurd may.0
  all_ran host served dead (Refused h request reason ∷ es) alive ((phase, same, moves), may) cells = absurd (not_refused (at host served dead) request reason cells.0 moves)
  all_ran host served dead (Resumed h request ∷ es) alive ((same, moves), may) cells = absurd (not_resumed (at host served dead) request cells.0 moves)

  -- a journal that begins so and answers these requests
  after_opening : (host : ℕ) (header : Header) (channel : Channel) (requests : List Request) (entries : List Entry) → IsLegal meaning hosts (Opened host header channel ∷ entries)
      → asked (Opened host header channel ∷ entries) ≡ requests → AllByRecursion AsksCell requests → AllRan meaning host [] requests entries
  after_opening host header channel requests entries legal is cells =
      subst (λ (rs : List Request). AllRan meaning host [] rs entries) is (all_ran host [] false entries refl legal.1 (subst (AllByRecursion AsksCell) (sym is) cells))

  pub journal_ran : (host : ℕ) (header : Header) (channel : Channel) (requests : List Request) (es entries : List Entry) → IsLegal meaning hosts es
      → es ≡ Opened host header channel ∷ entries → main_asked es ≡ filter is_main requests → control_asked es ≡ filter is_control requests
      → AllByRecursion AsksCell requests → AllRan meaning host [] requests entries
  journal_ran host header channel requests es entries legal begins main control cells =
      after_opening host header channel requests entries (subst (IsLegal meaning hosts) begins legal)
      (ap asked (sym begins) ∙ same_list (asked es) requests cells main control) cells
