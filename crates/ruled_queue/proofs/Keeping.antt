-- Each step of a queue keeps its rule.
use Rattle.std.proofs.Common.{◌≡◌, ◌≢◌, ◌⊎◌, ◌+◌, ◌<◌, ◌≤◌, ◌==◌, ℕ, zero, suc, Bool, cond, true, false, true≢false, List, [], ◌∷◌, ◌++◌, map, length, set, sym, refl, ap, ap₂, ◌∙◌, subst, inl, inr, ⊎_elim, append_assoc, append-nil, length-append, eq-eqb, ne_eqb, arith}
use Rattle.std.proofs.lemmas.List.Elements.{filter-append}
use Rattle.std.proofs.lemmas.Bool.{cases_lt}
use Rattle.std.proofs.Math.Decide.{ℕ_discrete}
use Rattle.std.proofs.Math.Logic.{dite}
use mathlib.Core.Option.{some, some-injective, some-ne-none}
use lib.ListN.{get_elem?}
use Rattle.crossbeam_queue.specs.Fifo.{Pushes, Pops, Forks, Merges, Learns}
use Rattle.crossbeam_queue.proofs.Lists.{at_set, set_else, at_longer, at_last}
use Rattle.ruled_queue.specs.declared.rule.View.{View}
use Rattle.ruled_queue.specs.Rule.{of, Keeps, Fits, Kept, knows, first_view, spent_view, impossible, grow, grown, looked, took, Took, MayPush, Waits, Each, OnlyFirstOpens}

module _ {T : Type 0} where
  keeps_either : (n : ℕ) (l : List T) (es fs : List (ℕ × List T)) → Keeps n l (es ++ fs) → Keeps n l es ⊎ Keeps n l fs
  keeps_either n l [] fs h = inr h
  keeps_either n l (e ∷ es) fs h = ⊎_elim (λ (t : (e.0 ≡ n) × (e.1 ≡ l)). inl (inl t)) (λ (t : Keeps n l (es ++ fs)). ⊎_elim (λ a. inl (inr a)) (λ b. inr b) (keeps_either n l es fs t)) h

  pub keeps_left : (n : ℕ) (l : List T) (es fs : List (ℕ × List T)) → Keeps n l es → Keeps n l (es ++ fs)
  keeps_left n l [] fs h = absurd h
  keeps_left n l (e ∷ es) fs h = ⊎_elim (λ (t : (e.0 ≡ n) × (e.1 ≡ l)). inl t) (λ (t : Keeps n l es). inr (keeps_left n l es fs t)) h

  pub keeps_right : (n : ℕ) (l : List T) (es fs : List (ℕ × List T)) → Keeps n l fs → Keeps n l (es ++ fs)
  keeps_right n l [] fs h = h
  keeps_right n l (e ∷ es) fs h = inr (keeps_right n l es fs h)

  set_there : (l : List (View T)) (i : ℕ) (a b : View T) → get_elem? l i ≡ some a → get_elem? (set l i b) i ≡ some b
  set_there [] i a b e = absurd (some-ne-none a (sym e))
  set_there (x ∷ xs) zero a b e = refl
  set_there (x ∷ xs) (suc i) a b e = set_there xs i a b e

  at_more : (l : List (View T)) (a b : View T) (j : ℕ) → get_elem? (l ++ a ∷ []) j ≡ some b → (get_elem? l j ≡ some b) ⊎ ((j ≡ length l) × (a ≡ b))
  at_more [] a b zero e = inr (refl, some-injective a b e)
  at_more [] a b (suc j) e = absurd (some-ne-none b (sym e))
  at_more (x ∷ xs) a b zero e = inl e
  at_more (x ∷ xs) a b (suc j) e = ⊎_elim (λ t. inl t) (λ t. inr (ap suc t.0, t.1)) (at_more xs a b j e)

  abbrev All : (ℕ → View T → Type 0) → List (View T) → Type 0
  All F views = (pass : ℕ) (v : View T) → get_elem? views pass ≡ some v → F pass v

  all_set : (F : ℕ → View T → Type 0) (views : List (View T)) (pass : ℕ) (w : View T) → F pass w → ((j : ℕ) (u : View T) → j ≢ pass → get_elem? views j ≡ some u → F j u) → All F (set views pass w)
  all_set F views pass w mine others j u e = ⊎_elim (λ (x : (j ≡ pass) × (w ≡ u)). subst (λ (y : ℕ × View T). F y.0 y.1) (λ i. (sym x.0 i, x.1 i)) mine)
      (λ (x : (j ≢ pass) × (get_elem? views j ≡ some u)). others j u x.0 x.1) (at_set views pass j w u e)

  abbrev There : List (View T) → ℕ → ℕ → Type 0
  There views n place = (v : View T) × (l : List T) × (get_elem? views place ≡ some v) × Keeps n l v.lists

  there_set : (views : List (View T)) (pass : ℕ) (v w : View T) (n place : ℕ) → get_elem? views pass ≡ some v → ((l : List T) → Keeps n l v.lists → (k : List T) × Keeps n k w.lists) → There views n place → There (set views pass w) n place
  there_set views pass v w n place at f t = dite (ℕ_discrete place pass)
      (λ e. let same : t.0 ≡ v = some-injective t.0 v (sym t.2 ∙ (ap (get_elem? views) e ∙ at)) in
      let r = f t.1 (subst (λ (u : View T). Keeps n t.1 u.lists) same t.3) in (w, r.0, ap (get_elem? (set views pass w)) e ∙ set_there views pass v w at, r.1))
      (λ other. (t.0, t.1, set_else views pass place w other ∙ t.2, t.3))

  pub cons_is_not_nil : (x : T) (xs : List T) → x ∷ xs ≡ [] → ⊥
  cons_is_not_nil x xs h = cc

  -- an item more, and an item within
  pub each_more : (P : T → Type 0) (xs : List T) (x : T) → Each P xs → P x → Each P (xs ++ x ∷ [])
  each_more P [] x h p = (p, tt)
  each_more P (y ∷ xs) x h p = (h.0, each_more P xs x h.1 p)

  pub each_at : (P : T → Type 0) (xs ys : List T) (x : T) → Each P (xs ++ x ∷ ys) → P x
  each_at P [] ys x h = h.0
  each_at P (y ∷ xs) ys x h = each_at P xs ys x h.1

  only_more : (opens : T → Bool) (xs : List T) (x : T) → OnlyFirstOpens opens xs → (opens x ≡ false) ⊎ (xs ≡ []) → OnlyFirstOpens opens (xs ++ x ∷ [])
  only_more opens [] x h o = tt
  only_more opens (y ∷ xs) x h o = each_more (λ z. opens z ≡ false) xs x h (⊎_elim (λ e. e) (λ (e : y ∷ xs ≡ []). absurd (cons_is_not_nil y xs e)) o)

  only_at : (opens : T → Bool) (xs ys : List T) (x : T) → OnlyFirstOpens opens (xs ++ x ∷ ys) → xs ≢ [] → opens x ≡ false
  only_at opens [] ys x h n = absurd (n refl)
  only_at opens (y ∷ xs) ys x h n = each_at (λ z. opens z ≡ false) xs ys x h

module _ {T : Type 0} (number : T → ℕ) where
  of_append : (n : ℕ) (xs ys : List T) → of number n (xs ++ ys) ≡ of number n xs ++ of number n ys
  of_append n xs ys = filter-append (λ (x : T). number x == n) xs ys

  of_own : (x : T) (xs : List T) → of number (number x) (x ∷ xs) ≡ x ∷ of number (number x) xs
  of_own x xs = ap (λ b. cond b (x ∷ of number (number x) xs) (of number (number x) xs)) (eq-eqb (number x) (number x) refl)

  of_other : (n : ℕ) (x : T) → number x ≢ n → of number n (x ∷ []) ≡ []
  of_other n x h = ap (λ b. cond b (x ∷ []) []) (ne_eqb (number x) n h)

  keeps_grow : (x : T) (n : ℕ) (l : List T) (es : List (ℕ × List T)) → Keeps n l (map (grow number x) es) → (k : List T) × Keeps n k es × (l ≡ k ++ of number n (x ∷ []))
  keeps_grow x n l [] h = absurd h
  keeps_grow x n l (e ∷ es) h = ⊎_elim (λ (t : (e.0 ≡ n) × (e.1 ++ of number e.0 (x ∷ []) ≡ l)). (e.1, inl (t.0, refl), sym t.1 ∙ ap (λ m. e.1 ++ of number m (x ∷ [])) t.0))
      (λ (t : Keeps n l (map (grow number x) es)). let r = keeps_grow x n l es t in (r.0, inr r.1, r.2)) h

  pub grow_keeps : (x : T) (n : ℕ) (l : List T) (es : List (ℕ × List T)) → Keeps n l es → Keeps n (l ++ of number n (x ∷ [])) (map (grow number x) es)
  grow_keeps x n l [] h = absurd h
  grow_keeps x n l (e ∷ es) h = ⊎_elim (λ (t : (e.0 ≡ n) × (e.1 ≡ l)). inl (t.0, ap₂ (λ k m. k ++ of number m (x ∷ [])) t.1 t.0))
      (λ (t : Keeps n l es). inr (grow_keeps x n l es t)) h

  -- if no number has an item, there is none
  none_of_all : (xs : List T) → ((n : ℕ) → of number n xs ≡ []) → xs ≡ []
  none_of_all [] h = refl
  none_of_all (x ∷ xs) h = absurd (cons_is_not_nil x (of number (number x) xs) (sym (of_own x xs) ∙ h (number x)))

  -- the first pass knows that nothing was pushed yet
  nothing_yet : (reader : ℕ) (popped : List T) (given : ℕ) (all : List T) (seat : ℕ → ℕ) (pass : ℕ) (v : View T) → Fits number reader popped given all seat pass v → ((n : ℕ) → given ≤ n → of number n all ≡ []) → v ≡ first_view → all ≡ []
  nothing_yet reader popped given all seat pass v mine later is =
      let one : v.given ≡ 1 = ap (λ (u : View T). u.given) is in
      let same = (mine.gives (omega arith)).0 in
      none_of_all all (λ n. ⊎_elim
      (λ (lt : n < 1). sym ((mine.keeps n [] (subst (λ (u : View T). Keeps n [] u.lists) (sym is) (inl (omega arith, refl)))).1))
      (λ (le : 1 ≤ n). later n (omega arith)) (cases_lt n 1))

  module _ (IsFit : T → Type 0) (opens : T → Bool) where
    begun : Fits number 0 [] 1 [] (λ _. 0) 0 (knows true [] ((0, []) ∷ []) 1)
    begun = record {
      pops = λ _. (refl, refl);
      keeps = λ n l k. ⊎_elim (λ (t : (0 ≡ n) × ([] ≡ l)). (refl, sym t.1, omega arith)) (λ (t : ⊥). absurd t) k;
      gives = λ _. (refl, refl);
    }

    pub begins : Kept number IsFit opens [] (first_view ∷ [])
    begins = let first : View T = knows true [] ((0, []) ∷ []) 1 in record {
      reader = 0;
      popped = [];
      given = 1;
      seat = λ _. 0;
      fits = all_set (Fits number 0 [] 1 [] (λ _. 0)) (first ∷ []) 0 first begun (λ j u other e. ⊎_elim (λ (t : get_elem? [] j ≡ some u). absurd (some-ne-none u (sym t))) (λ (t : (j ≡ 0) × (first ≡ u)). absurd (other t.0)) (at_more [] first u j e));
      there = λ n lt. (first, [], refl, inl (omega arith, refl));
      later = λ n le. refl;
      fit = tt;
      opening = tt;
    }

    pub pushes : (n pass : ℕ) (v : View T) (x : T) → MayPush number IsFit opens v x → Pushes (Kept number IsFit opens) n pass v x (λ w. w ≡ grown number v x)
    pushes n pass v x may items views _ h at =
        let own = may.keeps in
        let w : View T = grown number v x in
        let all : List T = h.popped ++ (items ++ x ∷ []) in
        let mine = h.fits pass v at in
        let here = mine.keeps (number x) own.0 own.1 in
        let more : (m : ℕ) → of number m all ≡ of number m (h.popped ++ items) ++ of number m (x ∷ []) = λ m. ap (of number m) (sym (append_assoc h.popped items (x ∷ []))) ∙ of_append m (h.popped ++ items) (x ∷ []) in
        let still : (m : ℕ) → number x ≢ m → of number m all ≡ of number m (h.popped ++ items) = λ m other. more m ∙ (ap (λ t. of number m (h.popped ++ items) ++ t) (of_other m x other) ∙ append-nil (of number m (h.popped ++ items))) in
        let F : ℕ → View T → Type 0 = Fits number h.reader h.popped h.given all h.seat in
        let my : F pass w = record {
          pops = mine.pops;
          keeps = λ m l k. let r = keeps_grow x m l v.lists k in let o = mine.keeps m r.0 r.1 in (o.0, r.2 ∙ (ap (λ t. t ++ of number m (x ∷ [])) o.1 ∙ sym (more m)), o.2);
          gives = mine.gives;
        } in
        let others : (j : ℕ) (u : View T) → j ≢ pass → get_elem? views j ≡ some u → F j u = λ j u other e. let theirs = h.fits j u e in record {
          pops = theirs.pops;
          keeps = λ m l k. let o = theirs.keeps m l k in (o.0, o.1 ∙ sym (still m (λ is. other (sym o.0 ∙ (ap h.seat (sym is) ∙ here.0)))), o.2);
          gives = theirs.gives;
        } in (
          w,
          record {
            reader = h.reader;
            popped = h.popped;
            given = h.given;
            seat = h.seat;
            fits = all_set F views pass w my others;
            there = λ m lt. there_set views pass v w m (h.seat m) at (λ l k. (l ++ of number m (x ∷ []), grow_keeps x m l v.lists k)) (h.there m lt);
            later = λ m le. still m (λ is. let lt = here.2 in omega arith) ∙ h.later m le;
            fit = subst (Each IsFit) (append_assoc h.popped items (x ∷ [])) (each_more IsFit (h.popped ++ items) x h.fit may.fit);
            opening = subst (OnlyFirstOpens opens) (append_assoc h.popped items (x ∷ [])) (only_more opens (h.popped ++ items) x h.opening (⊎_elim (λ o. inl o) (λ (is : v ≡ first_view). inr (nothing_yet h.reader h.popped h.given (h.popped ++ items) h.seat pass v mine h.later is)) may.opening));
          },
          refl,
        )

    pub takes : (pass : ℕ) (v : View T) → v.pops ≡ true → Pops (Kept number IsFit opens) pass v (Took number IsFit opens v)
    takes pass v may x items views h at =
        let w : View T = took v x in
        let f : ℕ = number x in
        let popped : List T = h.popped ++ x ∷ [] in
        let all : List T = popped ++ items in
        let mine = h.fits pass v at in
        let same : all ≡ h.popped ++ x ∷ items = append_assoc h.popped (x ∷ []) items in
        let F : ℕ → View T → Type 0 = Fits number h.reader popped h.given all h.seat in
        let my : F pass w = record {
          pops = λ p. ((mine.pops p).0, ap (λ l. l ++ x ∷ []) (mine.pops p).1);
          keeps = λ m l k. let o = mine.keeps m l k in (o.0, o.1 ∙ ap (of number m) (sym same), o.2);
          gives = mine.gives;
        } in
        let others : (j : ℕ) (u : View T) → j ≢ pass → get_elem? views j ≡ some u → F j u = λ j u other e. let theirs = h.fits j u e in record {
          pops = λ p. absurd (other ((theirs.pops p).0 ∙ sym (mine.pops may).0));
          keeps = λ m l k. let o = theirs.keeps m l k in (o.0, o.1 ∙ ap (of number m) (sym same), o.2);
          gives = theirs.gives;
        } in
        let split : of number f (h.popped ++ x ∷ items) ≡ of number f h.popped ++ x ∷ of number f items = of_append f h.popped (x ∷ items) ∙ ap (λ t. of number f h.popped ++ t) (of_own x items) in (
          w,
          record {
            reader = h.reader;
            popped = popped;
            given = h.given;
            seat = h.seat;
            fits = all_set F views pass w my others;
            there = λ m lt. there_set views pass v w m (h.seat m) at (λ l k. (l, k)) (h.there m lt);
            later = λ m le. ap (of number m) same ∙ h.later m le;
            fit = subst (Each IsFit) (sym same) h.fit;
            opening = subst (OnlyFirstOpens opens) (sym same) h.opening;
          },
          record {
            now = refl;
            next = λ l k. (of number f items, (mine.keeps f l k).1 ∙ (split ∙ ap (λ g. of number f g ++ x ∷ of number f items) (sym (mine.pops may).1)));
            known = λ pos. ⊎_elim (λ (lt : f < v.given). lt)
                (λ (le : v.given ≤ f). let none = sym split ∙ h.later f (let g = (mine.gives pos).0 in omega arith) in
                let long = sym (length-append (of number f h.popped) (x ∷ of number f items)) ∙ ap length none in absurd (omega arith)) (cases_lt f v.given);
            fit = each_at IsFit h.popped items x h.fit;
            opening = λ some. only_at opens h.popped items x h.opening (λ e. some ((mine.pops may).1 ∙ e));
          },
        )

    pub learns : (pass : ℕ) (v : View T) → v.pops ≡ true → Learns (Kept number IsFit opens) pass v (Waits number v)
    learns pass v may items views h at = let mine = h.fits pass v at in let same : h.popped ≡ v.popped = sym (mine.pops may).1 in record {
      of_each = λ n l k. (mine.keeps n l k).1 ∙ ap (λ g. of number n (g ++ items)) same;
      later = λ pos n le. ap (λ g. of number n (g ++ items)) (sym same) ∙ h.later n (let g = (mine.gives pos).0 in omega arith);
    }

    pub forks_roles : (pass : ℕ) (v : View T) → v.pops ≡ true → Forks (Kept number IsFit opens) pass v (knows false [] v.lists v.given) (record (knows true v.popped [] 0) { looks = v.looks })
    forks_roles pass v may items views h at =
        let l : View T = knows false [] v.lists v.given in
        let r : View T = record (knows true v.popped [] 0) { looks = v.looks } in
        let mine = h.fits pass v at in
        let vs : List (View T) = set views pass l in
        let all : List T = h.popped ++ items in
        let F : ℕ → View T → Type 0 = Fits number (length vs) h.popped h.given all h.seat in
        let old : All F vs = all_set F views pass l (record { pops = λ p. absurd (true≢false (sym p)); keeps = mine.keeps; gives = mine.gives })
        (λ j u other e. let theirs = h.fits j u e in record { pops = λ p. absurd (other ((theirs.pops p).0 ∙ sym (mine.pops may).0)); keeps = theirs.keeps; gives = theirs.gives }) in
        let new : F (length vs) r = record { pops = λ _. (refl, (mine.pops may).1); keeps = λ m k h'. absurd h'; gives = λ pos. absurd (omega arith) } in
        record {
          reader = length vs;
          popped = h.popped;
          given = h.given;
          seat = h.seat;
          fits = λ j u e. ⊎_elim (λ x. old j u x) (λ (x : (j ≡ length vs) × (r ≡ u)). subst (λ (y : ℕ × View T). F y.0 y.1) (λ i. (sym x.0 i, x.1 i)) new) (at_more vs r u j e);
          there = λ m lt. let t = there_set views pass v l m (h.seat m) at (λ k h'. (k, h')) (h.there m lt) in (t.0, t.1, at_longer vs (r ∷ []) (h.seat m) t.0 t.2, t.3);
          later = h.later;
          fit = h.fit;
          opening = h.opening;
        }

    pub forks_number : (pass : ℕ) (v : View T) → 0 < v.given → Forks (Kept number IsFit opens) pass v (record v { given = v.given + 1 }) (knows false [] ((v.given, []) ∷ []) 0)
    forks_number pass v first items views h at =
        let l : View T = record v { given = v.given + 1 } in
        let r : View T = knows false [] ((v.given, []) ∷ []) 0 in
        let mine = h.fits pass v at in
        let zero_here = mine.gives first in
        let vs : List (View T) = set views pass l in
        let all : List T = h.popped ++ items in
        let seat : ℕ → ℕ = λ m. cond (m == h.given) (length vs) (h.seat m) in
        let kept : (m : ℕ) → m < h.given → seat m ≡ h.seat m = λ m lt. ap (λ b. cond b (length vs) (h.seat m)) (ne_eqb m h.given (λ e. omega arith)) in
        let given_there : seat h.given ≡ length vs = ap (λ b. cond b (length vs) (h.seat h.given)) (eq-eqb h.given h.given refl) in
        let F : ℕ → View T → Type 0 = Fits number h.reader h.popped (h.given + 1) all seat in
        let keeps : (j : ℕ) (u : View T) → get_elem? views j ≡ some u → (m : ℕ) (k : List T) → Keeps m k u.lists → (seat m ≡ j) × (k ≡ of number m all) × (m < h.given + 1) =
        λ j u e m k h'. let o = (h.fits j u e).keeps m k h' in let lt = o.2 in (kept m lt ∙ o.0, o.1, omega arith) in
        let seat_zero : seat 0 ≡ h.seat 0 = kept 0 (let g = zero_here.0 in omega arith) in
        let old : All F vs = all_set F views pass l (record { pops = mine.pops; keeps = keeps pass v at; gives = λ _. (ap (λ n. n + 1) zero_here.0, seat_zero ∙ zero_here.1) })
        (λ j u other e. let theirs = h.fits j u e in record { pops = theirs.pops; keeps = keeps j u e; gives = λ pos. absurd (other (sym (theirs.gives pos).1 ∙ zero_here.1)) }) in
        let new : F (length vs) r = record {
          pops = λ p. absurd (true≢false (sym p));
          keeps = λ m k h'. ⊎_elim (λ (t : (v.given ≡ m) × ([] ≡ k)). let is : h.given ≡ m = sym zero_here.0 ∙ t.0 in (ap seat (sym is) ∙ given_there, sym t.1 ∙ sym (h.later m (omega arith)), omega arith)) (λ (t : ⊥). absurd t) h';
          gives = λ pos. absurd (omega arith);
        } in
        record {
          reader = h.reader;
          popped = h.popped;
          given = h.given + 1;
          seat = seat;
          fits = λ j u e. ⊎_elim (λ x. old j u x) (λ (x : (j ≡ length vs) × (r ≡ u)). subst (λ (y : ℕ × View T). F y.0 y.1) (λ i. (sym x.0 i, x.1 i)) new) (at_more vs r u j e);
          there = λ m lt. ⊎_elim
              (λ (low : m < h.given). let t = there_set views pass v l m (h.seat m) at (λ k h'. (k, h')) (h.there m low) in
              subst (λ (place : ℕ). There (vs ++ r ∷ []) m place) (sym (kept m low)) (t.0, t.1, at_longer vs (r ∷ []) (h.seat m) t.0 t.2, t.3))
              (λ (le : h.given ≤ m). let is : h.given ≡ m = omega arith in
              (r, [], ap (get_elem? (vs ++ r ∷ [])) (ap seat (sym is) ∙ given_there) ∙ at_last vs r (length vs) refl, inl (zero_here.0 ∙ is, refl))) (cases_lt m h.given);
          later = λ m le. h.later m (omega arith);
          fit = h.fit;
          opening = h.opening;
        }

    pub merges : (pass : ℕ) (v : View T) (other : ℕ) (w : View T) → w.pops ≡ false → Merges (Kept number IsFit opens) pass v other w (record v { lists = v.lists ++ w.lists; given = v.given + w.given }) (knows false [] [] 0)
    merges pass v other w plain items views h at two at' =
        let both : View T = record v { lists = v.lists ++ w.lists; given = v.given + w.given } in
        let spent : View T = knows false [] [] 0 in
        let vs : List (View T) = set views pass both in
        let was : get_elem? views other ≡ some w = ⊎_elim (λ x. absurd (two x.0)) (λ x. x.1) (at_set views pass other both w at') in
        let mine = h.fits pass v at in
        let theirs = h.fits other w was in
        let all : List T = h.popped ++ items in
        let seat : ℕ → ℕ = λ m. cond (h.seat m == other) pass (h.seat m) in
        let moved : (m : ℕ) → h.seat m ≡ other → seat m ≡ pass = λ m e. ap (λ b. cond b pass (h.seat m)) (eq-eqb (h.seat m) other e) in
        let kept : (m : ℕ) → h.seat m ≢ other → seat m ≡ h.seat m = λ m n. ap (λ b. cond b pass (h.seat m)) (ne_eqb (h.seat m) other n) in
        let mine_kept : (m : ℕ) → h.seat m ≡ pass → seat m ≡ pass = λ m e. kept m (λ x. two (sym x ∙ e)) ∙ e in
        let F : ℕ → View T → Type 0 = Fits number h.reader h.popped h.given all seat in
        let G : ℕ → View T → Type 0 = λ j u. j ≢ other → F j u in
        let now : All G vs = all_set G views pass both
        (λ _. record {
          pops = mine.pops;
          keeps = λ m l k. ⊎_elim (λ a. let o = mine.keeps m l a in (mine_kept m o.0, o.1, o.2)) (λ b. let o = theirs.keeps m l b in (moved m o.0, o.1, o.2)) (keeps_either m l v.lists w.lists k);
          gives = λ pos. ⊎_elim
              (λ (a : 0 < v.given). let g = mine.gives a in ⊎_elim (λ (b : 0 < w.given). absurd (two (sym (theirs.gives b).1 ∙ g.1))) (λ (b : w.given ≤ 0). (let p = g.0 in omega arith, mine_kept 0 g.1)) (cases_lt 0 w.given))
              (λ (a : v.given ≤ 0). let g = theirs.gives (omega arith) in (let p = g.0 in omega arith, moved 0 g.1)) (cases_lt 0 v.given);
        })
        (λ j u apart e not. let us = h.fits j u e in record {
          pops = us.pops;
          keeps = λ m l k. let o = us.keeps m l k in (kept m (λ x. not (sym o.0 ∙ x)) ∙ o.0, o.1, o.2);
          gives = λ pos. let g = us.gives pos in (g.0, kept 0 (λ x. not (sym g.1 ∙ x)) ∙ g.1);
        }) in
        record {
          reader = h.reader;
          popped = h.popped;
          given = h.given;
          seat = seat;
          fits = all_set F vs other spent (record { pops = λ p. absurd (true≢false (sym p)); keeps = λ m l k. absurd k; gives = λ pos. absurd (omega arith) }) (λ j u apart e. now j u e apart);
          there = λ m lt. let t = h.there m lt in
              let both_at : get_elem? (set vs other spent) pass ≡ some both = set_else vs other pass spent (λ e. two (sym e)) ∙ set_there views pass v both at in
              dite (ℕ_discrete (h.seat m) other)
              (λ e. let is : t.0 ≡ w = some-injective t.0 w (sym t.2 ∙ (ap (get_elem? views) e ∙ was)) in
              (both, t.1, ap (get_elem? (set vs other spent)) (moved m e) ∙ both_at, keeps_right m t.1 v.lists w.lists (subst (λ (u : View T). Keeps m t.1 u.lists) is t.3)))
              (λ n. let r = there_set views pass v both m (h.seat m) at (λ l k. (l, keeps_left m l v.lists w.lists k)) t in
              subst (λ (place : ℕ). There (set vs other spent) m place) (sym (kept m n)) (r.0, r.1, set_else vs other (h.seat m) spent n ∙ r.2, r.3));
          later = h.later;
          fit = h.fit;
          opening = h.opening;
        }

    -- a pass that knows nothing may be split off
    pub forks_spent : (pass : ℕ) (v : View T) → Forks (Kept number IsFit opens) pass v v spent_view
    forks_spent pass v items views h at =
        let vs : List (View T) = set views pass v in
        let F : ℕ → View T → Type 0 = Fits number h.reader h.popped h.given (h.popped ++ items) h.seat in
        let old : All F vs = all_set F views pass v (h.fits pass v at) (λ j u other e. h.fits j u e) in
        let new : F (length vs) spent_view = record { pops = λ p. absurd (true≢false (sym p)); keeps = λ m l k. absurd k; gives = λ pos. absurd (omega arith) } in
        record {
          reader = h.reader;
          popped = h.popped;
          given = h.given;
          seat = h.seat;
          fits = λ j u e. ⊎_elim (λ x. old j u x) (λ (x : (j ≡ length vs) × (spent_view ≡ u)). subst (λ (y : ℕ × View T). F y.0 y.1) (λ i. (sym x.0 i, x.1 i)) new) (at_more vs spent_view u j e);
          there = λ m lt. let t = there_set views pass v v m (h.seat m) at (λ k h'. (k, h')) (h.there m lt) in (t.0, t.1, at_longer vs (spent_view ∷ []) (h.seat m) t.0 t.2, t.3);
          later = h.later;
          fit = h.fit;
          opening = h.opening;
        }

    -- and taken in again as an empty look
    pub merges_spent : (pass : ℕ) (v : View T) (other : ℕ) (w : View T) → w ≡ spent_view → Merges (Kept number IsFit opens) pass v other w (looked v) spent_view
    merges_spent pass v other w is items views h at two at' =
        let both : View T = looked v in
        let vs : List (View T) = set views pass both in
        let was : get_elem? views other ≡ some w = ⊎_elim (λ x. absurd (two x.0)) (λ x. x.1) (at_set views pass other both w at') in
        let mine = h.fits pass v at in
        let F : ℕ → View T → Type 0 = Fits number h.reader h.popped h.given (h.popped ++ items) h.seat in
        let now : All F vs = all_set F views pass both (record { pops = mine.pops; keeps = mine.keeps; gives = mine.gives }) (λ j u apart e. h.fits j u e) in
        record {
          reader = h.reader;
          popped = h.popped;
          given = h.given;
          seat = h.seat;
          fits = all_set F vs other spent_view (record { pops = λ p. absurd (true≢false (sym p)); keeps = λ m l k. absurd k; gives = λ pos. absurd (omega arith) }) (λ j u apart e. now j u e);
          there = λ m lt.
              let t = there_set views pass v both m (h.seat m) at (λ l k. (l, k)) (h.there m lt) in
              there_set vs other w spent_view m (h.seat m) at' (λ l k. absurd (subst (λ (u : View T). Keeps m l u.lists) is k)) t;
          later = h.later;
          fit = h.fit;
          opening = h.opening;
        }

    -- two consumers never meet
    pub meets : (pass : ℕ) (v : View T) (other : ℕ) (w : View T) → v.pops ≡ true → w.pops ≡ true → Merges (Kept number IsFit opens) pass v other w impossible spent_view
    meets pass v other w one two items views h at apart at' =
        let was : get_elem? views other ≡ some w = ⊎_elim (λ x. absurd (apart x.0)) (λ x. x.1) (at_set views pass other impossible w at') in
        absurd (apart (((h.fits other w was).pops two).0 ∙ sym ((h.fits pass v at).pops one).0))

    no_view : (items : List T) (views : List (View T)) (pass : ℕ) (v : View T) → v ≡ impossible → Kept number IsFit opens items views → get_elem? views pass ≡ some v → ⊥
    no_view items views pass v is h at =
        let fits = h.fits pass v at in
        let keeps : Keeps 1 [] v.lists = subst (λ (u : View T). Keeps 1 [] u.lists) (sym is) (inr (inl (refl, refl))) in
        let few = (fits.keeps 1 [] keeps).2 in
        let one : v.given ≡ 1 = ap (λ (u : View T). u.given) is in
        let same = (fits.gives (omega arith)).0 in
        omega arith

    pub never_pops : (pass : ℕ) (v : View T) → v ≡ impossible → Pops (Kept number IsFit opens) pass v (λ x w. ⊥)
    never_pops pass v is x items views h at = absurd (no_view (x ∷ items) views pass v is h at)

    pub never_learns : (pass : ℕ) (v : View T) → v ≡ impossible → Learns (Kept number IsFit opens) pass v (λ items. ⊥)
    never_learns pass v is items views h at = no_view items views pass v is h at
