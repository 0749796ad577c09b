-- Links that came at a door, one after the other.
use Rattle.std.proofs.Common.{◌≡◌, ◌≢◌, ℕ, suc, ◌+◌, ◌<◌, List, [], ◌∷◌, ◌++◌, length, Option, Some, None, refl, sym, ap, ◌∙◌, subst, append_assoc, arith, inl, inr}
use Rattle.std.proofs.lemmas.List.{length-append, append-nil}
use Rattle.std.proofs.lemmas.List.Elements.{All-append, All-cons, All-nil}
use Rattle.nb_outside.specs.Counts.{HasRisen}
use Rattle.session_core.specs.Meanings.{Meaning}
use Rattle.nb_links.specs.Lines.{Line, IsFresh}
use Rattle.nb_links.specs.Doors.{Passed, Comes, ComesFresh, IsOut, TakesBack}
use Rattle.reply_frames.specs.declared.node.NodeError.{NodeError}
use Rattle.node_run.specs.Journals.{ServedSession}
use Rattle.node_serve.specs.declared.report.LinkEnd.{LinkEnd}
use Rattle.node_serve.specs.declared.report.LinkEnd.TheVariants.{LinkFault}
use Rattle.node_serve.specs.Links.{HasServed}
use Rattle.node_serve.specs.Sent.{WentOn, left_of}
use Rattle.node_serve.specs.Doors.{untold, IsServedLink, IsServed, Back, LinksServed}

-- counts that are equal, and lists
same_passed : {L : Type 0} (m n : ℕ) (xs ys : List L) → m ≡ n → xs ≡ ys → (let p : Passed L = record { came = m; back = xs } in p) ≡ record { came = n; back = ys }
same_passed {L} m n xs ys counts lists =
    ap (λ (k : ℕ). let p : Passed L = record { came = k; back = xs } in p) counts ∙ ap (λ (zs : List L). let p : Passed L = record { came = n; back = zs } in p) lists

risen : (now : ℕ) → HasRisen 0 now → now ≢ 0
risen now (inl more) none = let no : ⊥ = omega (arith, more, none) in no
risen now (inr many) none = let no : ⊥ = omega (arith, many, none) in no

module _ (meaning : Meaning) where
  pub served_told : (old new : Option Line) (faults now : ℕ) (end : LinkEnd) (errors : List NodeError) (runs : List ServedSession) (taken sent : List ℕ)
      → WentOn old new taken sent → HasServed meaning 3 untold end taken (left_of new) sent errors runs → (end ≡ LinkFault → HasRisen faults now) → IsServed meaning old faults new now
  served_told old new faults now end errors runs taken sent went has fault = (end, errors, runs, taken, sent, went, has, fault)

  -- and then it is closed
  pub served_closed : (old new last : Option Line) (faults now then : ℕ) → IsServed meaning old faults new now → last ≡ new → then ≡ now → IsServed meaning old faults last then
  served_closed old new last faults now then served same still =
      subst (λ (n : ℕ). IsServed meaning old faults last n) (sym still) (subst (λ (o : Option Line). IsServed meaning old faults o now) (sym same) served)

  -- a link that came fresh and was served
  served_fresh : (old new : Option Line) (faults now : ℕ) (line : Line) → old ≡ Some line → IsFresh line → faults ≡ 0 → IsServed meaning old faults new now → IsServedLink meaning new now
  served_fresh old new faults now line is fresh none (end, errors, runs, taken, sent, went, has, fault) =
      let told = subst (λ (o : Option Line). WentOn o new taken sent) is went in
      let left : left_of new ≡ Some told.0 = ap left_of told.2 in
      let gave : taken ≡ line.gave ++ taken = ap (λ (bs : List ℕ). bs ++ taken) (sym fresh.0) in
      let was : sent ≡ line.sent ++ sent = ap (λ (bs : List ℕ). bs ++ sent) (sym fresh.1) in
      let one = subst (λ (l : Option (List ℕ)). HasServed meaning 3 untold end taken l sent errors runs) left has in
      let two = subst (λ (bs : List ℕ). HasServed meaning 3 untold end bs (Some told.0) sent errors runs) gave one in
      let three = subst (λ (bs : List ℕ). HasServed meaning 3 untold end (line.gave ++ taken) (Some told.0) bs errors runs) was two in
      subst (λ (o : Option Line). IsServedLink meaning o now) (sym told.2) (end, errors, runs, three, λ e. risen now (subst (λ (n : ℕ). HasRisen n now) none (fault e)))

  -- one that tells nothing goes on telling nothing
  served_untold : (old new : Option Line) (faults now : ℕ) → old ≡ None → IsServed meaning old faults new now → IsServedLink meaning new now
  served_untold old new faults now is (end, errors, runs, taken, sent, went, has, fault) =
      subst (λ (o : Option Line). IsServedLink meaning o now) (sym (subst (λ (o : Option Line). WentOn o new taken sent) is went)) tt

  module _ {L : Type 0} (line : L → Option Line) (faults : L → ℕ) where
    served_came : (passed : Passed L) (old new : Option Line) (before now : ℕ) → ComesFresh (Some passed) old before → IsServed meaning old before new now → IsServedLink meaning new now
    served_came passed None new before now fresh served = served_untold None new before now refl served
    served_came passed (Some l) new before now fresh served = served_fresh (Some l) new before now l refl fresh.0 fresh.1 served

    abbrev Served : L → Type 0
    Served l = IsServedLink meaning (line l) (faults l)

    -- none came
    pub none_came : (wanted status : ℕ) (old : Option (Passed L)) → (status ≡ 0 → 0 ≡ wanted) → LinksServed meaning line faults wanted status old old
    none_came wanted status None all = refl
    none_came wanted status (Some p) all = (
      p,
      refl,
      record {
        links = [];
        back = same_passed p.came (p.came + 0) p.back (p.back ++ []) (omega arith) (sym (append-nil p.back));
        all = all;
        served = λ other. All-nil Served;
      },
    )

    module _ (passed then : Passed L) (link : L) (wanted s t : ℕ) (b : Back meaning line faults wanted s (record passed { came = suc passed.came }) then) where
      came_on : then.came ≡ passed.came + length (b.links ++ link ∷ [])
      came_on = let c : then.came ≡ suc passed.came + length b.links = ap (λ (p : Passed L). p.came) b.back in omega (arith, c, length-append b.links (link ∷ []))

      back_on : then.back ++ link ∷ [] ≡ passed.back ++ (b.links ++ link ∷ [])
      back_on = let c : then.back ≡ passed.back ++ b.links = ap (λ (p : Passed L). p.back) b.back in ap (λ (ls : List L). ls ++ link ∷ []) c ∙ append_assoc passed.back b.links (link ∷ [])

      more_wanted : length b.links ≡ wanted → length (b.links ++ link ∷ []) ≡ suc wanted
      more_wanted is = omega (arith, is, length-append b.links (link ∷ []))

      -- and then a link that came before them was taken back
      back_more : (t ≡ 0 → s ≡ 0) → (t ≢ 5 → s ≢ 5) → (t ≢ 5 → Served link) → Back meaning line faults (suc wanted) t passed (record then { back = then.back ++ link ∷ [] })
      back_more whole other served = record {
        links = b.links ++ link ∷ [];
        back = same_passed then.came (passed.came + length (b.links ++ link ∷ [])) (then.back ++ link ∷ []) (passed.back ++ (b.links ++ link ∷ [])) came_on back_on;
        all = λ is. more_wanted (b.all (whole is));
        served = λ is. All-append Served b.links (link ∷ []) (b.served (other is)) (All-cons Served link [] (served is) (All-nil Served));
      }

    out : (passed then : Passed L) (wanted s : ℕ) → Back meaning line faults wanted s (record passed { came = suc passed.came }) then → length passed.back < suc passed.came → length then.back < then.came
    out passed then wanted s b few =
        let c : then.came ≡ suc passed.came + length b.links = ap (λ (p : Passed L). p.came) b.back in
        let l : length then.back ≡ length passed.back + length b.links = ap (λ (p : Passed L). length p.back) b.back ∙ length-append passed.back b.links in
        omega (arith, few, c, l)

    -- a link came, others came after it, and it was taken back
    pub one_more : (old mid new last : Option (Passed L)) (before after : L) (wanted s t : ℕ) → Comes old mid → ComesFresh old (line before) (faults before)
        → LinksServed meaning line faults wanted s mid new → TakesBack new last after → (t ≡ 0 → s ≡ 0) → (t ≢ 5 → s ≢ 5)
        → (t ≢ 5 → IsServed meaning (line before) (faults before) (line after) (faults after)) → LinksServed meaning line faults (suc wanted) t old last
    one_more None mid new last before after wanted s t comes fresh others back whole other served =
        let still : new ≡ None = subst (λ (o : Option (Passed L)). LinksServed meaning line faults wanted s o new) comes others in
        subst (λ (o : Option (Passed L)). TakesBack o last after) still back
    one_more (Some passed) mid new last before after wanted s t comes fresh others back whole other served =
        let told = subst (λ (o : Option (Passed L)). LinksServed meaning line faults wanted s o new) comes others in
        let taken = subst (λ (o : Option (Passed L)). TakesBack o last after) told.1 back in (
          record told.0 { back = told.0.back ++ after ∷ [] },
          taken,
          back_more passed told.0 after wanted s t told.2 whole other (λ is. served_came passed (line before) (line after) (faults before) (faults after) fresh (served is)),
        )

    -- once others came and were taken back, it is still to be
    pub still_out : (old mid new : Option (Passed L)) (wanted s : ℕ) → Comes old mid → IsOut mid → LinksServed meaning line faults wanted s mid new → IsOut new
    still_out None mid new wanted s comes is others = subst IsOut (sym (subst (λ (o : Option (Passed L)). LinksServed meaning line faults wanted s o new) comes others)) tt
    still_out (Some passed) mid new wanted s comes is others =
        let told = subst (λ (o : Option (Passed L)). LinksServed meaning line faults wanted s o new) comes others in
        subst IsOut (sym told.1) (out passed told.0 wanted s told.2 (subst IsOut comes is))
