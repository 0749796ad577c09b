-- In a session that isn't short of memory, one list of entries may come that answers these requests, but for the certificates of moves.
use Rattle.std.proofs.Common.{◌≡◌, ℕ, List, [], ◌∷◌, ◌++◌, append_assoc, refl, sym, ap, ◌∙◌, subst}
use Rattle.std.proofs.lemmas.List.{append_cancel_left}
use Rattle.nb_outside.specs.declared.feed.Drawn.{Drawn}
use Rattle.graph_model.specs.declared.plan.Certified.{Certified}
use Rattle.session_core.specs.declared.request.Request.{Request}
use Rattle.session_core.specs.declared.entry.Entry.{Entry}
use Rattle.session_core.specs.declared.entry.Entry.TheVariants.{Opened, Ran, Died, Dead, Sealed, Moved, Adopted, Refused, Resumed}
use Rattle.session_core.specs.Meanings.{Meaning}
use Rattle.session_core.specs.Feeding.{drawn_by, drawn_in}
use Rattle.session_core.specs.Legal.{Phase, settled, sealed, arriving, Progress, after, all_after, MayBeMoved, MayBeAdopted, MayBeResumed, MayCome, AllMayCome, asked_by, asked_after}
use Rattle.unmoved_sessions.specs.Alike.{HadMemory, HadMemoryThroughout, IsAlike, AreAlike}
use Rattle.unmoved_sessions.proofs.OneWay.{IsOneWay}
use Rattle.unmoved_sessions.proofs.OneEntry.{settled_alike, settled_asks}

-- ---- entries that are alike

-- what doesn't look at certificates is the same of entries that are alike
pub alike_same : {X : Type 0} (g : Entry → X)
    → ((from to : ℕ) (r : Request) (by other : Certified) (objects : ℕ) → g (Adopted from to r by objects) ≡ g (Adopted from to r other objects)) → (e f : Entry) → IsAlike e f → g e ≡ g f
alike_same g blind (Opened h header channel) f is = ap g (sym is)
alike_same g blind (Ran h r d reply) f is = ap g (sym is)
alike_same g blind (Died h r n cause) f is = ap g (sym is)
alike_same g blind (Dead h r n) f is = ap g (sym is)
alike_same g blind (Sealed h r to) f is = ap g (sym is)
alike_same g blind (Moved to) f is = ap g (sym is)
alike_same g blind (Adopted from to r by objects) f (other, is) = blind from to r by other objects ∙ ap g (sym is)
alike_same g blind (Refused h r why) f is = ap g (sym is)
alike_same g blind (Resumed h r) f is = ap g (sym is)

alike_after : (p : Progress) (e f : Entry) → IsAlike e f → after p e ≡ after p f
alike_after p e f is = alike_same (after p) (λ from to r by other objects. refl) e f is

alike_asks : (phase : Phase) (e f : Entry) → IsAlike e f → asked_by phase e ≡ asked_by phase f
alike_asks phase e f is = alike_same (asked_by phase) (λ from to r by other objects. refl) e f is

alike_draws : (e f : Entry) → IsAlike e f → drawn_by e ≡ drawn_by f
alike_draws e f is = alike_same drawn_by (λ from to r by other objects. refl) e f is

moved_alike : (to : ℕ) (e f : Entry) → e ≡ Moved to → f ≡ Moved to → IsAlike e f
moved_alike to e f one two = subst (λ (z : Entry). IsAlike z f) (sym one) two

adopted_alike : (from to : ℕ) (r : Request) (by other : Certified) (n m : ℕ) (e f : Entry) → e ≡ Adopted from to r by n → f ≡ Adopted from to r other m → n ≡ m → IsAlike e f
adopted_alike from to r by other n m e f one two same =
    subst (λ (z : Entry). IsAlike z f) (sym one) (other, two ∙ ap (λ (k : ℕ). Adopted from to r other k) (sym same))

some_left : (r : Request) (rs ss : List Request) → ss ≡ r ∷ [] → ss ++ rs ≡ [] → ⊥
some_left r rs ss is none = let all : (r ∷ []) ++ rs ≡ [] = ap (λ z. z ++ rs) (sym is) ∙ none in cc

phases_differ : (phase : Phase) (r : Request) (to : ℕ) → phase ≡ settled → phase ≡ sealed r to → ⊥
phases_differ phase r to one two = cc

arriving_differs : (phase : Phase) (r : Request) (to : ℕ) → phase ≡ settled → phase ≡ arriving r to → ⊥
arriving_differs phase r to one two = cc

adopted_is : (from to host owner : ℕ) (r asked : Request) (by : Certified) (n : ℕ) → from ≡ owner → to ≡ host → r ≡ asked → Adopted from to r by n ≡ Adopted owner host asked by n
adopted_is from to host owner r asked by n one two three = cc

module _ (meaning : Meaning) (hosts : ℕ) (way : IsOneWay meaning) where
  -- ---- on the way to another host

  sealed_goes : (p : Progress) (r : Request) (to : ℕ) → p.phase ≡ sealed r to → (e : Entry) → MayCome meaning hosts p e → e ≡ Moved to
  sealed_goes p r to is (Opened h header channel) may = absurd may
  sealed_goes p r to is (Ran h s d reply) may = absurd (phases_differ p.phase r to may.0 is)
  sealed_goes p r to is (Died h s n cause) may = absurd (phases_differ p.phase r to may.0 is)
  sealed_goes p r to is (Dead h s n) may = absurd (phases_differ p.phase r to may.0 is)
  sealed_goes p r to is (Sealed h s other) may = absurd (phases_differ p.phase r to may.0 is)
  sealed_goes p r to is (Moved other) may = ap Moved (subst (λ (phase : Phase). MayBeMoved meaning hosts phase other) is may)
  sealed_goes p r to is (Adopted from other s by n) may = absurd (subst (λ (phase : Phase). MayBeAdopted meaning hosts p phase from other s by n) is may)
  sealed_goes p r to is (Refused h s why) may = absurd (phases_differ p.phase r to may.0 is)
  sealed_goes p r to is (Resumed h s) may = absurd (subst (λ (phase : Phase). MayBeResumed meaning hosts p phase h s) is may)

  -- the session goes on there
  abbrev GoesOnAt : Progress → Request → ℕ → Entry → Type 0
  GoesOnAt p r to e = (by : Certified) × (n : ℕ) × (e ≡ Adopted p.owner to r by n) × meaning.HasObjects p.served n

  arriving_goes : (p : Progress) (r : Request) (to : ℕ) → p.phase ≡ arriving r to → (e : Entry) → MayCome meaning hosts p e → HadMemory e → GoesOnAt p r to e
  arriving_goes p r to is (Opened h header channel) may had = absurd may
  arriving_goes p r to is (Ran h s d reply) may had = absurd (arriving_differs p.phase r to may.0 is)
  arriving_goes p r to is (Died h s n cause) may had = absurd (arriving_differs p.phase r to may.0 is)
  arriving_goes p r to is (Dead h s n) may had = absurd (arriving_differs p.phase r to may.0 is)
  arriving_goes p r to is (Sealed h s other) may had = absurd (arriving_differs p.phase r to may.0 is)
  arriving_goes p r to is (Moved other) may had = absurd (subst (λ (phase : Phase). MayBeMoved meaning hosts phase other) is may)
  arriving_goes p r to is (Adopted from other s by n) may had =
      let there = subst (λ (phase : Phase). MayBeAdopted meaning hosts p phase from other s by n) is may in
      (by, n, adopted_is from other to p.owner s r by n there.0 there.1 there.2, there.4)
  arriving_goes p r to is (Refused h s why) may had = absurd (arriving_differs p.phase r to may.0 is)
  arriving_goes p r to is (Resumed h s) may had = absurd had

  -- ---- one entry

  one_entry : (p : Progress) (phase : Phase) → p.phase ≡ phase → (e f : Entry) (rs ss : List Request) (x y : List Drawn) → MayCome meaning hosts p e → MayCome meaning hosts p f → HadMemory e → HadMemory f
      → asked_by phase e ++ rs ≡ asked_by phase f ++ ss → drawn_by e ++ x ≡ drawn_by f ++ y → IsAlike e f
  one_entry p settled is e f rs ss x y one two had had_too asks drew = settled_alike meaning hosts way p is e f rs ss x y one two had had_too asks drew
  one_entry p (sealed r to) is e f rs ss x y one two had had_too asks drew = moved_alike to e f (sealed_goes p r to is e one) (sealed_goes p r to is f two)
  one_entry p (arriving r to) is e f rs ss x y one two had had_too asks drew =
      let (by, n, here, all) = arriving_goes p r to is e one had in
      let (other, m, there, again) = arriving_goes p r to is f two had_too in
      adopted_alike p.owner to r by other n m e f here there (way.objects p.served n m all again)

  -- a session that is with its owner ends where no request is left
  none_more : (p : Progress) → p.phase ≡ settled → (e : Entry) (rs : List Request) → MayCome meaning hosts p e → HadMemory e → asked_by p.phase e ++ rs ≡ [] → ⊥
  none_more p here e rs may had none =
      let (r, is) = settled_asks meaning hosts way p here e may had in
      some_left r rs (asked_by settled e) is (subst (λ (phase : Phase). asked_by phase e ++ rs ≡ []) here none)

  -- ---- all of them

  pub one_list : (p : Progress) (es fs : List Entry) (m n : List Drawn) → AllMayCome meaning hosts p es → AllMayCome meaning hosts p fs → asked_after p es ≡ asked_after p fs
      → (all_after p es).phase ≡ settled → (all_after p fs).phase ≡ settled → HadMemoryThroughout es → HadMemoryThroughout fs → drawn_in es ++ m ≡ drawn_in fs ++ n → AreAlike es fs
  one_list p [] [] m n one two asks ends ends_too had had_too drew = tt
  one_list p [] (f ∷ fs) m n one two asks ends ends_too had had_too drew = absurd (none_more p ends f (asked_after (after p f) fs) two.0 had_too.0 (sym asks))
  one_list p (e ∷ es) [] m n one two asks ends ends_too had had_too drew = absurd (none_more p ends_too e (asked_after (after p e) es) one.0 had.0 asks)
  one_list p (e ∷ es) (f ∷ fs) m n one two asks ends ends_too had had_too drew =
      let drawn : drawn_by e ++ (drawn_in es ++ m) ≡ drawn_by f ++ (drawn_in fs ++ n) = sym (append_assoc (drawn_by e) (drawn_in es) m) ∙ (drew ∙ append_assoc (drawn_by f) (drawn_in fs) n) in
      let alike = one_entry p p.phase refl e f (asked_after (after p e) es) (asked_after (after p f) fs) (drawn_in es ++ m) (drawn_in fs ++ n) one.0 two.0 had.0 had_too.0 asks drawn in
      let same = alike_after p e f alike in
      let asked_first = ap (λ z. z ++ asked_after (after p f) fs) (alike_asks p.phase e f alike) in
      let asked_rest = append_cancel_left (asked_by p.phase e) (asked_after (after p e) es) (asked_after (after p f) fs) (asks ∙ sym asked_first) in
      let drawn_first = ap (λ z. z ++ (drawn_in fs ++ n)) (alike_draws e f alike) in
      let drawn_rest = append_cancel_left (drawn_by e) (drawn_in es ++ m) (drawn_in fs ++ n) (drawn ∙ sym drawn_first) in (
        alike,
        one_list (after p e) es fs m n one.1 (subst (λ (q : Progress). AllMayCome meaning hosts q fs) (sym same) two.1)
            (asked_rest ∙ ap (λ (q : Progress). asked_after q fs) (sym same)) ends (subst (λ (q : Progress). (all_after q fs).phase ≡ settled) (sym same) ends_too) had.1 had_too.1 drawn_rest,
      )
