-- Which entry of a journal answers which request.
use Rattle.std.proofs.Common.{◌≡◌, ℕ, zero, suc, ◌+◌, ◌<◌, ◌≤◌, Bool, true, false, ◌⊎◌, inl, inr, List, [], ◌∷◌, ◌++◌, length, Some, refl, sym, ap, ◌∙◌, subst, append_assoc, arith}
use Rattle.std.specs.Prelude.{filter, slice_get}
use Rattle.std.proofs.lemmas.List.{length-append}
use Rattle.std.proofs.lemmas.List.Elements.{filter-append}
use Rattle.session_core.specs.declared.request.Request.{Request}
use Rattle.session_core.specs.declared.entry.Entry.{Entry}
use Rattle.session_core.specs.declared.entry.Entry.TheVariants.{Opened, Ran, Died, Dead, Sealed, Moved, Adopted, Refused, Resumed}
use Rattle.session_core.specs.Meanings.{Meaning}
use Rattle.session_core.specs.Legal.{Phase, settled, sealed, arriving, Progress, after, all_after, before_all, progress_of, owner_in, owner_after, MayCome, MayBeResumed, AllMayCome, IsLegal, if_settled, asked_by, asked_after, asked}
use Rattle.session_core.specs.Answering.{host_of, AnswersNext, Has, IsRunOnce}
use Rattle.session_core.proofs.Progressing.{progress_more, asked_more}
use Rattle.session_core.proofs.Happening.{filter_yes, filter_no}

-- ---- an entry answers one request or none

if_settled_one : (phase : Phase) (request : Request) → (if_settled phase request ≡ []) ⊎ ((r : Request) × (if_settled phase request ≡ r ∷ []))
if_settled_one settled request = inr (request, refl)
if_settled_one (sealed asked to) request = inl refl
if_settled_one (arriving asked to) request = inl refl

one_or_none : (phase : Phase) (e : Entry) → (asked_by phase e ≡ []) ⊎ ((r : Request) × (asked_by phase e ≡ r ∷ []))
one_or_none phase (Opened host request channel) = inl refl
one_or_none phase (Ran host request draws reply) = inr (request, refl)
one_or_none phase (Died host request count cause) = inr (request, refl)
one_or_none phase (Dead host request count) = inr (request, refl)
one_or_none phase (Sealed host request to) = inr (request, refl)
one_or_none phase (Moved to) = inl refl
one_or_none phase (Adopted from to request certified objects) = inl refl
one_or_none phase (Refused host request reason) = inr (request, refl)
one_or_none phase (Resumed host request) = if_settled_one phase request

-- ---- the entry that answers the k-th request

module _ (in_list : Request → Bool) where
  abbrev pub Found : List Entry → ℕ → Request → Type 0
  Found journal k r = (before : List Entry) × (e : Entry) × Has journal before e × AnswersNext in_list before e k r

  -- one entry later
  later : (done : List Entry) (e : Entry) (es : List Entry) (k : ℕ) (r : Request) → Found ((done ++ e ∷ []) ++ es) k r → Found (done ++ e ∷ es) k r
  later done e es k r f = subst (λ z. Found z k r) (append_assoc done (e ∷ []) es) f

  count_more : (done : List Entry) (e : Entry) (rs : List Request) (n : ℕ) → asked_by (progress_of done).phase e ≡ rs → length (filter in_list (asked done)) ≡ n
      → length (filter in_list (asked (done ++ e ∷ []))) ≡ n + length (filter in_list rs)
  count_more done e rs n is count =
      ap (λ z. length (filter in_list z)) (asked_more done e ∙ ap (λ z. asked done ++ z) is) ∙ ap length (filter-append in_list (asked done) rs)
      ∙ length-append (filter in_list (asked done)) (filter in_list rs) ∙ ap (λ m. m + length (filter in_list rs)) count

  next_of : (done : List Entry) (e : Entry) (es : List Entry) → asked_after (after (progress_of done) e) es ≡ asked_after (progress_of (done ++ e ∷ [])) es
  next_of done e es = ap (λ p. asked_after p es) (sym (progress_more done e))

  abbrev pub Goes : List Entry → Entry → List Entry → Request → Type 0
  Goes done e es r = (m i : ℕ) → length (filter in_list (asked (done ++ e ∷ []))) ≡ m
      → slice_get (filter in_list (asked_after (progress_of (done ++ e ∷ [])) es)) i ≡ Some r → Found ((done ++ e ∷ []) ++ es) (m + i) r

  -- an entry that answers nothing of this list is passed over
  pass : (done : List Entry) (e : Entry) (es : List Entry) (rs : List Request) (n j : ℕ) (r : Request) → length (filter in_list (asked done)) ≡ n
      → Goes done e es r → asked_by (progress_of done).phase e ≡ rs → filter in_list rs ≡ []
      → slice_get (filter in_list (asked_by (progress_of done).phase e ++ asked_after (after (progress_of done) e) es)) j ≡ Some r → Found (done ++ e ∷ es) (n + j) r
  pass done e es rs n j r count goes is none here =
      let more = asked_after (after (progress_of done) e) es in
      let same : filter in_list (asked_by (progress_of done).phase e ++ more) ≡ filter in_list (asked_after (progress_of (done ++ e ∷ [])) es) =
      ap (λ z. filter in_list (z ++ more)) is ∙ filter-append in_list rs more ∙ ap (λ z. z ++ filter in_list more) none ∙ ap (filter in_list) (next_of done e es) in
      later done e es (n + j) r (goes n j (count_more done e rs n is count ∙ ap (λ z. n + length z) none ∙ omega arith) (subst (λ z. slice_get z j ≡ Some r) same here))

  -- an entry that answers a request of this list is the one, or counts
  take : (done : List Entry) (e : Entry) (es : List Entry) (x : Request) (n j : ℕ) (r : Request) → length (filter in_list (asked done)) ≡ n
      → Goes done e es r → asked_by (progress_of done).phase e ≡ x ∷ [] → in_list x ≡ true
      → slice_get (x ∷ filter in_list (asked_after (progress_of (done ++ e ∷ [])) es)) j ≡ Some r → Found (done ++ e ∷ es) (n + j) r
  take done e es x n zero r count goes is listed here =
      let same : x ≡ r = cc in
      (done, e, (es, refl), record { asks = is ∙ ap (λ z. z ∷ []) same; listed = subst (λ z. in_list z ≡ true) same listed; number = omega (arith, count) })
  take done e es x n (suc j) r count goes is listed here =
      subst (λ k. Found (done ++ e ∷ es) k r) (omega arith) (later done e es ((n + 1) + j) r (goes (n + 1) j
      (count_more done e (x ∷ []) n is count ∙ ap (λ z. n + length z) (filter_yes in_list x [] listed) ∙ omega arith) here))

  by_test : (done : List Entry) (e : Entry) (es : List Entry) (x : Request) (n j : ℕ) (r : Request) (b : Bool) → length (filter in_list (asked done)) ≡ n
      → Goes done e es r → asked_by (progress_of done).phase e ≡ x ∷ [] → in_list x ≡ b
      → slice_get (filter in_list (asked_by (progress_of done).phase e ++ asked_after (after (progress_of done) e) es)) j ≡ Some r → Found (done ++ e ∷ es) (n + j) r
  by_test done e es x n j r false count goes is other here = pass done e es (x ∷ []) n j r count goes is (filter_no in_list x [] other) here
  by_test done e es x n j r true count goes is listed here =
      let more = asked_after (after (progress_of done) e) es in
      let same : filter in_list (asked_by (progress_of done).phase e ++ more) ≡ x ∷ filter in_list (asked_after (progress_of (done ++ e ∷ [])) es) =
      ap (λ z. filter in_list (z ++ more)) is ∙ filter_yes in_list x more listed ∙ ap (λ z. x ∷ filter in_list z) (next_of done e es) in
      take done e es x n j r count goes is listed (subst (λ z. slice_get z j ≡ Some r) same here)

  find_by : (done : List Entry) (e : Entry) (es : List Entry) (n j : ℕ) (r : Request) → length (filter in_list (asked done)) ≡ n → Goes done e es r
      → slice_get (filter in_list (asked_by (progress_of done).phase e ++ asked_after (after (progress_of done) e) es)) j ≡ Some r
      → (asked_by (progress_of done).phase e ≡ []) ⊎ ((x : Request) × (asked_by (progress_of done).phase e ≡ x ∷ [])) → Found (done ++ e ∷ es) (n + j) r
  find_by done e es n j r count goes here (inl none) = pass done e es [] n j r count goes none refl here
  find_by done e es n j r count goes here (inr (x, is)) = by_test done e es x n j r (in_list x) count goes is refl here

  pub find : (done es : List Entry) (n j : ℕ) (r : Request) → length (filter in_list (asked done)) ≡ n
      → slice_get (filter in_list (asked_after (progress_of done) es)) j ≡ Some r → Found (done ++ es) (n + j) r
  find done [] n j r count here = let no : ⊥ = cc in absurd no
  find done (e ∷ es) n j r count here = find_by done e es n j r count (λ m i more at. find (done ++ e ∷ []) es m i r more at) here (one_or_none (progress_of done).phase e)

  pub found : (journal : List Entry) (k : ℕ) (r : Request) → slice_get (filter in_list (asked journal)) k ≡ Some r → Found journal k r
  found journal k r here = subst (λ n. Found journal n r) (omega arith) (find [] journal 0 k r refl here)

  -- ---- no other entry answers it

  asked_append : (p : Progress) (xs ys : List Entry) → asked_after p (xs ++ ys) ≡ asked_after p xs ++ asked_after (all_after p xs) ys
  asked_append p [] ys = refl
  asked_append p (x ∷ xs) ys = ap (λ z. asked_by p.phase x ++ z) (asked_append (after p x) xs ys) ∙ sym (append_assoc (asked_by p.phase x) (asked_after (after p x) xs) (asked_after (all_after (after p x) xs) ys))

  beyond : (before mid : List Entry) (e : Entry) (k : ℕ) (r : Request) → AnswersNext in_list before e k r → k < length (filter in_list (asked (before ++ e ∷ mid)))
  beyond before mid e k r a =
      let more = asked_after (after (progress_of before) e) mid in
      let is : filter in_list (asked (before ++ e ∷ mid)) ≡ filter in_list (asked before) ++ (r ∷ filter in_list more) =
      ap (filter in_list) (asked_append before_all before (e ∷ mid)) ∙ filter-append in_list (asked before) (asked_by (progress_of before).phase e ++ more)
      ∙ ap (λ z. filter in_list (asked before) ++ z) (ap (λ z. filter in_list (z ++ more)) a.asks ∙ filter_yes in_list r more a.listed) in
      let count : length (filter in_list (asked (before ++ e ∷ mid))) ≡ k + suc (length (filter in_list more)) =
      ap length is ∙ length-append (filter in_list (asked before)) (r ∷ filter in_list more) ∙ ap (λ n. n + suc (length (filter in_list more))) a.number in
      omega (arith, count)

with_head : (x y : Entry) (xs ys : List Entry) (a b : Entry) → x ≡ y → ((xs ≡ ys) × (a ≡ b)) ⊎ (((mid : List Entry) × (ys ≡ xs ++ a ∷ mid)) ⊎ ((mid : List Entry) × (xs ≡ ys ++ b ∷ mid)))
    → ((x ∷ xs ≡ y ∷ ys) × (a ≡ b)) ⊎ (((mid : List Entry) × (y ∷ ys ≡ (x ∷ xs) ++ a ∷ mid)) ⊎ ((mid : List Entry) × (x ∷ xs ≡ (y ∷ ys) ++ b ∷ mid)))
with_head x y xs ys a b head (inl same) = let tail = same.0 in inl (cc, same.1)
with_head x y xs ys a b head (inr (inl (mid, tail))) = inr (inl (mid, cc))
with_head x y xs ys a b head (inr (inr (mid, tail))) = inr (inr (mid, cc))

same_or_beyond : (xs ys : List Entry) (a b : Entry) (rs ss : List Entry) → xs ++ a ∷ rs ≡ ys ++ b ∷ ss
    → ((xs ≡ ys) × (a ≡ b)) ⊎ (((mid : List Entry) × (ys ≡ xs ++ a ∷ mid)) ⊎ ((mid : List Entry) × (xs ≡ ys ++ b ∷ mid)))
same_or_beyond [] [] a b rs ss e = inl (refl, cc)
same_or_beyond [] (y ∷ ys) a b rs ss e = let same : y ≡ a = cc in inr (inl (ys, ap (λ z. z ∷ ys) same))
same_or_beyond (x ∷ xs) [] a b rs ss e = let same : x ≡ b = cc in inr (inr (xs, ap (λ z. z ∷ xs) same))
same_or_beyond (x ∷ xs) (y ∷ ys) a b rs ss e =
    let head : x ≡ y = cc in let tail : xs ++ a ∷ rs ≡ ys ++ b ∷ ss = cc in
    with_head x y xs ys a b head (same_or_beyond xs ys a b rs ss tail)

only_one : (in_list : Request → Bool) (before others : List Entry) (e other : Entry) (k : ℕ) (r s : Request) → AnswersNext in_list before e k r → AnswersNext in_list others other k s
    → ((before ≡ others) × (e ≡ other)) ⊎ (((mid : List Entry) × (others ≡ before ++ e ∷ mid)) ⊎ ((mid : List Entry) × (before ≡ others ++ other ∷ mid))) → (others ≡ before) × (other ≡ e)
only_one in_list before others e other k r s a b (inl same) = (sym same.0, sym same.1)
only_one in_list before others e other k r s a b (inr (inl (mid, is))) =
    let less = subst (λ z. k < length (filter in_list (asked z))) (sym is) (beyond in_list before mid e k r a) in absurd (omega (arith, less, b.number))
only_one in_list before others e other k r s a b (inr (inr (mid, is))) =
    let less = subst (λ z. k < length (filter in_list (asked z))) (sym is) (beyond in_list others mid other k s b) in absurd (omega (arith, less, a.number))

-- ---- by the owner then

module _ (meaning : Meaning) (hosts : ℕ) where
  come_at : (p : Progress) (before rest : List Entry) (e : Entry) → AllMayCome meaning hosts p (before ++ e ∷ rest) → MayCome meaning hosts (all_after p before) e
  come_at p [] rest e h = h.0
  come_at p (x ∷ before) rest e h = come_at (after p x) before rest e h.1

  -- what a legal journal has after its opening could come there
  pub came : (journal before : List Entry) (e first : Entry) → IsLegal meaning hosts journal → Has journal (first ∷ before) e → MayCome meaning hosts (progress_of (first ∷ before)) e
  came journal before e first legal (rest, is) = come_at (after before_all first) before rest e (subst (IsLegal meaning hosts) is legal).1

  resumed_owner : (p : Progress) (phase : Phase) (host : ℕ) (request r : Request) → p.phase ≡ phase → MayBeResumed meaning hosts p phase host request → if_settled phase request ≡ r ∷ []
      → owner_in p.phase p.owner ≡ Some host
  resumed_owner p settled host request r is may asks = ap (λ z. owner_in z p.owner) is ∙ ap Some (sym may.0)
  resumed_owner p (sealed asked to) host request r is may asks = absurd may
  resumed_owner p (arriving asked to) host request r is may asks = let no : ⊥ = cc in absurd no

  owns : (p : Progress) (host : ℕ) → p.phase ≡ settled → host ≡ p.owner → owner_in p.phase p.owner ≡ Some host
  owns p host is same = ap (λ z. owner_in z p.owner) is ∙ ap Some (sym same)

  asks_owner : (p : Progress) (e : Entry) (r : Request) → MayCome meaning hosts p e → asked_by p.phase e ≡ r ∷ [] → owner_in p.phase p.owner ≡ Some (host_of e)
  asks_owner p (Opened host request channel) r may asks = absurd may
  asks_owner p (Ran host request draws reply) r may asks = owns p host may.0 may.2
  asks_owner p (Died host request count cause) r may asks = owns p host may.0 may.2
  asks_owner p (Dead host request count) r may asks = owns p host may.0 may.2
  asks_owner p (Sealed host request to) r may asks = owns p host may.0 may.1
  asks_owner p (Moved to) r may asks = let no : ⊥ = cc in absurd no
  asks_owner p (Adopted from to request certified objects) r may asks = let no : ⊥ = cc in absurd no
  asks_owner p (Refused host request reason) r may asks = owns p host may.0 may.1
  asks_owner p (Resumed host request) r may asks = resumed_owner p p.phase host request r refl may asks

  opening_asks_none : (e : Entry) (es : List Entry) (r : Request) → IsLegal meaning hosts (e ∷ es) → asked_by settled e ≡ r ∷ [] → ⊥
  opening_asks_none (Opened host request channel) es r h asks = cc
  opening_asks_none (Ran host request draws reply) es r h asks = absurd h.0
  opening_asks_none (Died host request count cause) es r h asks = absurd h.0
  opening_asks_none (Dead host request count) es r h asks = absurd h.0
  opening_asks_none (Sealed host request to) es r h asks = absurd h.0
  opening_asks_none (Moved to) es r h asks = absurd h.0
  opening_asks_none (Adopted from to request certified objects) es r h asks = absurd h.0
  opening_asks_none (Refused host request reason) es r h asks = absurd h.0
  opening_asks_none (Resumed host request) es r h asks = absurd h.0

  owner_then : (journal before : List Entry) (e : Entry) (r : Request) → IsLegal meaning hosts journal → Has journal before e → asked_by (progress_of before).phase e ≡ r ∷ []
      → owner_after before ≡ Some (host_of e)
  owner_then journal [] e r legal (rest, is) asks = absurd (opening_asks_none e rest r (subst (IsLegal meaning hosts) is legal) asks)
  owner_then journal (first ∷ before) e r legal has asks = asks_owner (progress_of (first ∷ before)) e r (came journal before e first legal has) asks

  pub run_once : (in_list : Request → Bool) (journal : List Entry) (k : ℕ) (r : Request) → IsLegal meaning hosts journal → slice_get (filter in_list (asked journal)) k ≡ Some r
      → IsRunOnce in_list journal k r
  run_once in_list journal k r legal here =
      let (before, e, has, answers) = found in_list journal k r here in record {
        before = before;
        entry = e;
        has = has;
        answers = answers;
        by_owner = owner_then journal before e r legal has answers.asks;
        once = λ others other s there also. only_one in_list before others e other k r s answers also
            (same_or_beyond before others e other has.0 there.0 (sym has.1 ∙ there.1));
      }

-- ---- what was admitted first is answered first

slice_get_front : (xs ys : List Request) (k : ℕ) → k < length xs → slice_get (xs ++ ys) k ≡ slice_get xs k
slice_get_front [] ys k h = absurd (omega (arith, h))
slice_get_front (x ∷ xs) ys zero h = refl
slice_get_front (x ∷ xs) ys (suc k) h = slice_get_front xs ys k (omega (arith, h))

pub answered_in_order : (all xs ys : List Request) (k : ℕ) → all ≡ xs ++ ys → k < length xs → slice_get xs k ≡ slice_get all k
answered_in_order all xs ys k is h = sym (slice_get_front xs ys k h) ∙ ap (λ z. slice_get z k) (sym is)

later_one : (x : Request) (xs : List Request) (k : ℕ) (r : Request) → (length xs ≤ k) ⊎ (slice_get xs k ≡ Some r) → (length (x ∷ xs) ≤ suc k) ⊎ (slice_get (x ∷ xs) (suc k) ≡ Some r)
later_one x xs k r (inl h) = inl (omega (arith, h))
later_one x xs k r (inr h) = inr h

pub waits_or_answered : (all xs ys : List Request) (k : ℕ) (r : Request) → all ≡ xs ++ ys → slice_get all k ≡ Some r → (length xs ≤ k) ⊎ (slice_get xs k ≡ Some r)
waits_or_answered all [] ys k r is here = inl (omega arith)
waits_or_answered all (x ∷ xs) ys zero r is here = inr (ap (λ z. slice_get z 0) (sym is) ∙ here)
waits_or_answered all (x ∷ xs) ys (suc k) r is here = later_one x xs k r (waits_or_answered (xs ++ ys) xs ys k r refl (ap (λ z. slice_get z (suc k)) (sym is) ∙ here))

module _ (meaning : Meaning) (hosts : ℕ) where
  by_case : (in_list : Request → Bool) (journal : List Entry) (k : ℕ) (r : Request) → IsLegal meaning hosts journal
      → (length (filter in_list (asked journal)) ≤ k) ⊎ (slice_get (filter in_list (asked journal)) k ≡ Some r)
      → (length (filter in_list (asked journal)) ≤ k) ⊎ IsRunOnce in_list journal k r
  by_case in_list journal k r legal (inl waits) = inl waits
  by_case in_list journal k r legal (inr here) = inr (run_once meaning hosts in_list journal k r legal here)

  pub waits_or_run_once : (in_list : Request → Bool) (journal : List Entry) (all waiting : List Request) (k : ℕ) (r : Request) → IsLegal meaning hosts journal
      → all ≡ filter in_list (asked journal) ++ waiting → slice_get all k ≡ Some r
      → (length (filter in_list (asked journal)) ≤ k) ⊎ IsRunOnce in_list journal k r
  waits_or_run_once in_list journal all waiting k r legal is here =
      by_case in_list journal k r legal (waits_or_answered all (filter in_list (asked journal)) waiting k r is here)
