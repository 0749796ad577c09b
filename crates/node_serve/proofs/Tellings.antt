-- Which unit an error, or an entry that was read, is.
use Rattle.std.proofs.Common.{◌≡◌, ℕ, zero, suc, ◌+◌, ◌≤◌, ◌<◌, List, [], ◌∷◌, ◌++◌, length, map, take, drop, Some, inl, inr, refl, sym, ap, ◌∙◌, subst, append_assoc, append-nil, arith}
use Rattle.std.specs.Prelude.{slice_get, slice_set}
use Rattle.std.specs.List.{AllByRecursion}
use Rattle.std.proofs.lemmas.List.{take-append-drop}
use Rattle.session_core.specs.declared.entry.Entry.{Entry}
use Rattle.session_queues.specs.Ends.{OnOut}
use Rattle.reply_frames.specs.declared.node.NodeError.{NodeError}
use Rattle.reply_frames.specs.Nodes.{frame_of}
use Rattle.reply_frames.specs.Replies.{entry_frames, entry_length}
use Rattle.node_run.specs.declared.open_session.OpenSession.{OpenSession}
use Rattle.node_run.specs.declared.open_session.NextEntry.{NextEntry}
use Rattle.node_run.specs.Unsent.{entries_of, read_of, frames_in, IsCounted, AreCounted, IsUnread, AreKept, HasRead, HasNumbered, with_entry}
use Rattle.node_serve.specs.Interleaving.{IsPutTo, AreFronts}
use Rattle.node_serve.specs.Units.{error_units, entry_units, number_after, read_units, unit_of}
use Rattle.node_serve.proofs.Fronts.{fronts_all}

-- ---- errors

errors_more : (first : ℕ) (errors : List NodeError) (e : NodeError) → error_units first (errors ++ e ∷ []) ≡ error_units first errors ++ frame_of (first + length errors) e ∷ []
errors_more first [] e = let same : first ≡ first + 0 = omega arith in ap (λ n. frame_of n e ∷ []) same
errors_more first (d ∷ errors) e =
    let same : first + 1 + length errors ≡ first + suc (length errors) = omega arith in
    ap (λ z. frame_of first d ∷ z) (errors_more (first + 1) errors e ∙ ap (λ n. error_units (first + 1) errors ++ frame_of n e ∷ []) same)

take_next : {X : Type 0} (xs : List X) (n : ℕ) (x : X) → slice_get xs n ≡ Some x → take (suc n) xs ≡ take n xs ++ x ∷ []
take_next [] n x there = cc
take_next (y ∷ xs) zero x there = let is : Some y ≡ Some x = there in let same : y ≡ x = cc in ap (λ z. z ∷ []) same
take_next (y ∷ xs) (suc n) x there = ap (λ z. y ∷ z) (take_next xs n x there)

take_few : {X : Type 0} (xs : List X) (n : ℕ) → n ≤ length xs → length (take n xs) ≡ n
take_few xs zero few = refl
take_few [] (suc n) few = absurd (omega arith)
take_few (x ∷ xs) (suc n) few = let less : n ≤ length xs = omega arith in ap suc (take_few xs n less)

pub take_front : {X : Type 0} (xs more : List X) (n : ℕ) → n ≤ length xs → take n (xs ++ more) ≡ take n xs
take_front xs more zero few = refl
take_front [] more (suc n) few = absurd (omega arith)
take_front (x ∷ xs) more (suc n) few = let less : n ≤ length xs = omega arith in ap (λ z. x ∷ z) (take_front xs more n less)

pub error_next : (errors : List NodeError) (told next running : ℕ) (e : NodeError) → slice_get errors told ≡ Some e → told < length errors → next ≡ told + 1 → running ≡ told + 1
    → error_units 1 (take next errors) ≡ error_units 1 (take told errors) ++ frame_of running e ∷ []
error_next errors told next running e there within is number =
    let same : next ≡ suc told = omega (arith, is) in
    let few : told ≤ length errors = omega arith in
    let size = take_few errors told few in
    let running_is : 1 + length (take told errors) ≡ running = omega (arith, size, number) in
    ap (λ n. error_units 1 (take n errors)) same ∙ ap (error_units 1) (take_next errors told e there) ∙ errors_more 1 (take told errors) e
    ∙ ap (λ n. error_units 1 (take told errors) ++ frame_of n e ∷ []) running_is

errors_both : (first : ℕ) (errors more : List NodeError) → error_units first (errors ++ more) ≡ error_units first errors ++ error_units (first + length errors) more
errors_both first [] more = let same : first ≡ first + 0 = omega arith in ap (λ n. error_units n more) same
errors_both first (d ∷ errors) more =
    let same : first + 1 + length errors ≡ first + suc (length errors) = omega arith in
    ap (λ z. frame_of first d ∷ z) (errors_both (first + 1) errors more ∙ ap (λ n. error_units (first + 1) errors ++ error_units n more) same)

-- those of the first errors are the front of all
pub errors_front : (n : ℕ) (errors : List NodeError) → (more : List (List ℕ)) × (error_units 1 errors ≡ error_units 1 (take n errors) ++ more)
errors_front n errors = (
  error_units (1 + length (take n errors)) (drop n errors),
  ap (error_units 1) (sym (take-append-drop n errors)) ∙ errors_both 1 (take n errors) (drop n errors),
)

-- and those of more
pub errors_front_of : (n : ℕ) (errors later : List NodeError) → ((more : List NodeError) × (later ≡ errors ++ more)) → (more : List (List ℕ)) × (error_units 1 later ≡ error_units 1 (take n errors) ++ more)
errors_front_of n errors later goes =
    let front = errors_front n errors in (
      front.0 ++ error_units (1 + length errors) goes.0,
      ap (error_units 1) goes.1 ∙ errors_both 1 errors goes.0 ∙ ap (λ z. z ++ error_units (1 + length errors) goes.0) front.1
          ∙ append_assoc (error_units 1 (take n errors)) front.0 (error_units (1 + length errors) goes.0),
    )

-- ---- entries

frames_more : (es : List Entry) (e : Entry) → frames_in (es ++ e ∷ []) ≡ frames_in es + entry_length e
frames_more [] e = omega arith
frames_more (d ∷ es) e = let rest = frames_more es e in omega (arith, rest)

entries_more : (kernel first : ℕ) (es : List Entry) (e : Entry) → entry_units kernel first (es ++ e ∷ []) ≡ entry_units kernel first es ++ entry_frames kernel e (first + frames_in es) ∷ []
entries_more kernel first [] e = let same : first ≡ first + 0 = omega arith in ap (λ n. entry_frames kernel e n ∷ []) same
entries_more kernel first (d ∷ es) e =
    let same : first + entry_length d + frames_in es ≡ first + (entry_length d + frames_in es) = omega arith in
    ap (λ z. entry_frames kernel d first ∷ z) (entries_more kernel (first + entry_length d) es e ∙ ap (λ n. entry_units kernel (first + entry_length d) es ++ entry_frames kernel e n ∷ []) same)

entries_both : (kernel first : ℕ) (es more : List Entry) → entry_units kernel first (es ++ more) ≡ entry_units kernel first es ++ entry_units kernel (first + frames_in es) more
entries_both kernel first [] more = let same : first ≡ first + 0 = omega arith in ap (λ n. entry_units kernel n more) same
entries_both kernel first (d ∷ es) more =
    let same : first + entry_length d + frames_in es ≡ first + (entry_length d + frames_in es) = omega arith in
    ap (λ z. entry_frames kernel d first ∷ z) (entries_both kernel (first + entry_length d) es more ∙ ap (λ n. entry_units kernel (first + entry_length d) es ++ entry_units kernel n more) same)

-- those of the first entries are the front of all
pub entries_front : (kernel : ℕ) (es more : List Entry) → (others : List (List ℕ)) × (entry_units kernel 1 (es ++ more) ≡ entry_units kernel 1 es ++ others)
entries_front kernel es more = (entry_units kernel (1 + frames_in es) more, entries_both kernel 1 es more)

-- at the next index
pub entry_next : (kernel running at next : ℕ) (es : List Entry) (e : Entry) → slice_get es at ≡ Some e → next ≡ at + 1 → running ≡ 1 + frames_in (take at es)
    → entry_units kernel 1 (take next es) ≡ entry_units kernel 1 (take at es) ++ entry_frames kernel e running ∷ []
entry_next kernel running at next es e there is number =
    let same : next ≡ suc at = omega (arith, is) in
    ap (λ n. entry_units kernel 1 (take n es)) same ∙ ap (entry_units kernel 1) (take_next es at e there) ∙ entries_more kernel 1 (take at es) e
    ∙ ap (λ n. entry_units kernel 1 (take at es) ++ entry_frames kernel e n ∷ []) (sym number)

pub number_next : (running later at next : ℕ) (es : List Entry) (e : Entry) → slice_get es at ≡ Some e → next ≡ at + 1 → running ≡ 1 + frames_in (take at es) → later ≡ running + entry_length e → later ≡ 1 + frames_in (take next es)
number_next running later at next es e there is number after =
    let same : next ≡ suc at = omega (arith, is) in
    let more = ap frames_in (take_next es at e there) ∙ frames_more (take at es) e in
    let all = ap (λ n. frames_in (take n es)) same in
    omega (arith, number, after, more, all)

-- ---- the next entry of an open session

-- it is put at the end of its session's
put_set : (os : List OpenSession) (at : ℕ) (o p : OpenSession) (u : List ℕ) → slice_get os at ≡ Some o → read_units p ≡ read_units o ++ u ∷ [] → IsPutTo (map read_units os) u (map read_units (slice_set os at p))
put_set [] at o p u there is = cc
put_set (q ∷ os) zero o p u there is =
    let here : Some q ≡ Some o = there in
    let same : o ≡ q = cc in
    inl (ap (λ z. z ∷ map read_units os) (is ∙ ap (λ x. read_units x ++ u ∷ []) same))
put_set (q ∷ os) (suc at) o p u there is = inr (map read_units (slice_set os at p), put_set os at o p u there is, refl)

counted_set : (os : List OpenSession) (at : ℕ) (p : OpenSession) → AreCounted os → IsCounted p → AreCounted (slice_set os at p)
counted_set [] at p are is = tt
counted_set (q ∷ os) zero p are is = (is, are.1)
counted_set (q ∷ os) (suc at) p are is = (are.0, counted_set os at p are.1 is)

counted_at : (os : List OpenSession) (at : ℕ) (o : OpenSession) → AreCounted os → slice_get os at ≡ Some o → IsCounted o
counted_at [] at o are there = cc
counted_at (q ∷ os) zero o are there = let here : Some q ≡ Some o = there in let same : q ≡ o = cc in subst IsCounted same are.0
counted_at (q ∷ os) (suc at) o are there = counted_at os at o are.1 there

get_set : {X : Type 0} (xs : List X) (at : ℕ) (x y : X) → slice_get xs at ≡ Some x → slice_get (slice_set xs at y) at ≡ Some y
get_set [] at x y there = cc
get_set (z ∷ xs) zero x y there = refl
get_set (z ∷ xs) (suc at) x y there = get_set xs at x y there

set_twice : {X : Type 0} (xs : List X) (at : ℕ) (x y : X) → slice_set (slice_set xs at x) at y ≡ slice_set xs at y
set_twice [] at x y = refl
set_twice (z ∷ xs) zero x y = refl
set_twice (z ∷ xs) (suc at) x y = ap (λ l. z ∷ l) (set_twice xs at x y)

some_same : {X : Type 0} (x y : X) → Some x ≡ Some y → x ≡ y
some_same x y is = cc

next_by : (old mid new : List OpenSession) (at later : ℕ) (next : NextEntry) (o : OpenSession) (out : OnOut) (u : List ℕ) → slice_get old at ≡ Some o → o.reader ≡ Some out → next.kernel ≡ o.kernel → next.first ≡ o.next
    → mid ≡ slice_set old at (record o { reader = Some (with_entry out next.entry) }) → HasNumbered mid at later new → AreCounted old
    → u ≡ entry_frames next.kernel next.entry next.first → later ≡ next.first + entry_length next.entry → IsPutTo (map read_units old) u (map read_units new) × AreCounted new
next_by old mid new at later next o out u there is_read kernel first is (s, here, set) counted bytes number =
    let p : OpenSession = record o { reader = Some (with_entry out next.entry) } in
    let q : OpenSession = record p { next = later } in
    let found : slice_get mid at ≡ Some p = ap (λ l. slice_get l at) is ∙ get_set old at o p there in
    let same : s ≡ p = some_same s p (sym here ∙ found) in
    let all : new ≡ slice_set old at q =
    set ∙ ap (λ (x : OpenSession). slice_set mid at (record x { next = later })) same ∙ ap (λ l. slice_set l at q) is ∙ set_twice old at p q in
    let before : read_of o ≡ out.entries = ap entries_of is_read in
    let count : o.next ≡ 1 + frames_in out.entries = counted_at old at o counted there ∙ ap (λ es. 1 + frames_in es) before in
    let more : read_units q ≡ read_units o ++ u ∷ [] =
    entries_more o.kernel 1 out.entries next.entry
    ∙ ap (λ n. entry_units o.kernel 1 out.entries ++ entry_frames o.kernel next.entry n ∷ []) (sym count ∙ sym first)
    ∙ ap (λ k. entry_units o.kernel 1 out.entries ++ entry_frames k next.entry next.first ∷ []) (sym kernel)
    ∙ ap (λ b. entry_units o.kernel 1 out.entries ++ b ∷ []) (sym bytes)
    ∙ ap (λ es. entry_units o.kernel 1 es ++ u ∷ []) (sym before) in
    let grown = frames_more out.entries next.entry in
    let right : IsCounted q = omega (arith, number, first, count, grown) in
    (subst (λ l. IsPutTo (map read_units old) u (map read_units l)) (sym all) (put_set old at o q u there more), subst AreCounted (sym all) (counted_set old at q counted right))

pub next_entry : (old mid new : List OpenSession) (at later : ℕ) (next : NextEntry) (u : List ℕ) → HasRead old at next mid → HasNumbered mid at later new → AreCounted old
    → u ≡ unit_of next → later ≡ number_after next → IsPutTo (map read_units old) u (map read_units new) × AreCounted new
unfolding unit_of number_after
next_entry old mid new at later next u h set counted bytes number =
    next_by old mid new at later next h.session h.out u h.there h.is_read h.kernel h.first h.is set counted bytes number

-- what is read of a session makes its list longer
fronts_set : (os : List OpenSession) (at : ℕ) (o p : OpenSession) → slice_get os at ≡ Some o → ((more : List (List ℕ)) × (read_units p ≡ read_units o ++ more)) → AreFronts (map read_units os) (map read_units (slice_set os at p))
fronts_set [] at o p there goes = tt
fronts_set (q ∷ os) zero o p there goes =
    let here : Some q ≡ Some o = there in
    let same : o ≡ q = cc in
    ((goes.0, goes.1 ∙ ap (λ x. read_units x ++ goes.0) same), fronts_all (map read_units os))
fronts_set (q ∷ os) (suc at) o p there goes = (([], sym (append-nil (read_units q))), fronts_set os at o p there goes)

pub fronts_read : (old new : List OpenSession) (at : ℕ) (next : NextEntry) → HasRead old at next new → AreFronts (map read_units old) (map read_units new)
fronts_read old new at next h =
    let o = h.session in
    let p : OpenSession = record o { reader = Some (with_entry h.out next.entry) } in
    let before : read_of o ≡ h.out.entries = ap entries_of h.is_read in
    let goes = entries_front o.kernel h.out.entries (next.entry ∷ []) in
    subst (λ l. AreFronts (map read_units old) (map read_units l)) (sym h.is)
    (fronts_set old at o p h.there (goes.0, goes.1 ∙ ap (λ es. entry_units o.kernel 1 es ++ goes.0) (sym before)))

-- ---- new sessions

unread_units : (o : OpenSession) → IsUnread o → read_units o ≡ []
unread_units o is = ap (λ es. entry_units o.kernel 1 es) is.0

unread_counted : (o : OpenSession) → IsUnread o → IsCounted o
unread_counted o is = let none = ap frames_in is.0 in let one = is.1 in omega (arith, none, one)

pub record GoOn (os later : List OpenSession) : Type 0 where
  pub others : List (List (List ℕ))
  pub units : map read_units later ≡ map read_units os ++ others
  pub empty : AllByRecursion (λ (l : List (List ℕ)). l ≡ []) others
  pub counted : AreCounted os → AreCounted later

unread_on : (later : List OpenSession) → AllByRecursion IsUnread later → AllByRecursion (λ (l : List (List ℕ)). l ≡ []) (map read_units later) × AreCounted later
unread_on [] are = (tt, tt)
unread_on (l ∷ later) are =
    let rest = unread_on later are.1 in
    ((unread_units l are.0, rest.0), (unread_counted l are.0, rest.1))

same_units : (o l : OpenSession) → l.kernel ≡ o.kernel → l.reader ≡ o.reader → read_units l ≡ read_units o
same_units o l kernel reader = ap (λ k. entry_units k 1 (read_of l)) kernel ∙ ap (λ r. entry_units o.kernel 1 (entries_of r)) reader

same_counted : (o l : OpenSession) → l.reader ≡ o.reader → l.next ≡ o.next → IsCounted o → IsCounted l
same_counted o l reader next is = next ∙ is ∙ ap (λ r. 1 + frames_in (entries_of r)) (sym reader)

pub kept_on : (os later : List OpenSession) → AreKept os later → GoOn os later
kept_on [] later kept =
    let all = unread_on later kept in
    record { others = map read_units later; units = refl; empty = all.0; counted = λ are. all.1 }
kept_on (o ∷ os) [] kept = absurd kept
kept_on (o ∷ os) (l ∷ later) kept =
    let rest = kept_on os later kept.1 in
    record {
      others = rest.others;
      units = ap (λ z. z ∷ map read_units later) (same_units o l kept.0.0 kept.0.1) ∙ ap (λ z. read_units o ∷ z) rest.units;
      empty = rest.empty;
      counted = λ are. (same_counted o l kept.0.1 kept.0.2 are.0, rest.counted are.1);
    }
