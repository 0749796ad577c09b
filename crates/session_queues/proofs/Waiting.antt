-- All that is queued is popped.
use Rattle.std.proofs.Common.{◌≡◌, ℕ, Bool, true, false, true≢false, List, [], ◌∷◌, ◌++◌, append_assoc, append-nil, sym, ap, ◌∙◌, subst}
use Rattle.std.specs.Prelude.{MatchBool}
use Rattle.ruled_queue.specs.declared.rule.View.{View}
use Rattle.ruled_queue.specs.Rule.{of, took, Took, Waits}

module _ {T : Type 0} where
  -- it popped these more
  abbrev pub PoppedOn : View T → View T → Type 0
  PoppedOn v w = (items : List T) × (w ≡ record v { popped = v.popped ++ items })

  with_popped : View T → List T → View T
  with_popped v popped = record v { popped = popped }

  pub none_popped : (v : View T) → PoppedOn v v
  unfolding with_popped
  none_popped v = ([], ap (with_popped v) (sym (append-nil v.popped)))

  module _ (number : T → ℕ) (IsFit : T → Type 0) (opens : T → Bool) where
    -- what a pop tells
    abbrev pub PopTells : Bool → View T → View T → Type 0
    PopTells r v w = MatchBool r ((x : T) × Took number IsFit opens v x w) ((w ≡ v) × Waits number v [])

    pub popped_more : (r : Bool) (v w u : View T) → PopTells r w u → PoppedOn v w → PoppedOn v u
    unfolding with_popped
    popped_more false v w u h on = (on.0, h.0 ∙ on.1)
    popped_more true v w u h on =
        (on.0 ++ h.0 ∷ [], h.1.now ∙ ap (λ z. took z h.0) on.1 ∙ ap (with_popped v) (append_assoc v.popped on.0 (h.0 ∷ [])))

    pub consumer_still : (r : Bool) (w u : View T) → PopTells r w u → w.pops ≡ true → u.pops ≡ true
    consumer_still false w u h pops = ap (λ (z : View T). z.pops) h.0 ∙ pops
    consumer_still true w u h pops = ap (λ (z : View T). z.pops) h.1.now ∙ pops

    -- once it finds nothing more, those were all
    pub all_waited : (r : Bool) (v w u : View T) → r ≡ false → PopTells r w u → PoppedOn v w → (items : List T) × Waits number v items
    unfolding with_popped
    all_waited true v w u none h on = absurd (true≢false none)
    all_waited false v w u none h on =
        let end : Waits number (with_popped v (v.popped ++ on.0)) [] = subst (λ z. Waits number z []) on.1 h.1 in (
          on.0,
          record {
            of_each = λ n l keeps. end.of_each n l keeps ∙ ap (of number n) (append-nil (v.popped ++ on.0));
            later = λ some n past. ap (of number n) (sym (append-nil (v.popped ++ on.0))) ∙ end.later some n past;
          },
        )
