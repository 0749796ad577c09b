-- The frame law: what a cell does depends on the names that it looks up, and on its draws, alone.
use Rattle.std.proofs.Common.{◌≡◌, ℕ, ◌-◌, ◌<◌, ◌≤◌, List, [], ◌++◌, length, Option, Some, None, Result, Ok, Err, refl, ap, ◌⊎◌, inl, inr, ◌∙◌, sym, subst, arith}
use Rattle.std.specs.Prelude.{Contains, slice_get}
use Rattle.nb_outside.specs.declared.feed.Drawn.{Drawn}
use Rattle.std.proofs.lemmas.Option.{slice_get_within, slice_get_past, slice_get-get_or, none-some}
use Rattle.std.proofs.lemmas.List.Elements.{Contains-append_left, Contains-append_right, Contains-append_cases}
use Rattle.py_tree.specs.declared.statements.Stmt.{Stmt}
use Rattle.py_heap.specs.declared.heap.Object.TheVariants as object
use Rattle.py_heap.specs.declared.state.State.{State}
use Rattle.py_heap.specs.Reaching.{Reach}
use Rattle.py_machine.specs.Marked.{IsIn}
use Rattle.py_machine.specs.Runs.{Name, Stop, start}
use Rattle.py_meaning.specs.Cells.{outcome}
use Rattle.py_meaning.specs.Meaning.{cell}
use Rattle.py_laws.specs.Same.{Pairs, HasPair, ValuesMatch, ObjectsMatch, BothOrNone, Both, SameBy, Same, Every, SameStates}
use Rattle.py_laws.specs.Framed.{OrBound, Spares, Framed, Renamed}
use Rattle.py_laws.proofs.Matching.{BothOrNone-more, IsWithin, Turned, more_value, more_object}
use Rattle.py_laws.proofs.Pairing.{new_pairs, to_new, from_new}
use Rattle.py_laws.proofs.Sameness.{same_by_agreeing, same_by_turned}
use Rattle.py_laws.proofs.Sparing.{Spared, spared}
use Rattle.py_laws.proofs.Members.{no_name, no_number}
use Rattle.py_laws.proofs.Partners.{reach_partner}
use Rattle.py_laws.proofs.Narrowing.{Narrow, reached_same}
use Rattle.py_laws.proofs.Rules.{no_rules, any_body}
use Rattle.py_laws.proofs.Respecting.{Setting, Paired, Alike, ResultsMatch, Ends, Equal}
use Rattle.py_laws.proofs.LeastActs.{left_one, right_one}
use Rattle.py_laws.proofs.Constructs.{cell_respects}

-- ---- the start

both_there : {A : Type 0} (M : A → A → Type 0) (o u : Option A) → Both M o u → (x : A) × (y : A) × (o ≡ Some x) × (u ≡ Some y)
both_there M (Some x) (Some y) h = (x, y, refl, refl)
both_there M (Some x) None h = absurd h
both_there M None u h = absurd h

pub to_slots : {A : Type 0} (M N : A → A → Type 0) → ((x y : A) → M x y → N x y) → (o u : Option A) → Both M o u → BothOrNone N o u
to_slots M N k (Some x) (Some y) h = k x y h
to_slots M N k (Some x) None h = absurd h
to_slots M N k None u h = absurd h

from_slots : {A : Type 0} (M : A → A → Type 0) (o u : Option A) (x : A) → o ≡ Some x → BothOrNone M o u → Both M o u
from_slots M (Some x) (Some y) z e h = h
from_slots M None u z e h = absurd (none-some z e)
from_slots M (Some x) None z e h = absurd h

pub live_pair : (ps : ℕ → ℕ → Type 0) (named : Name → Type 0) (s t : State) → SameBy ps named s t → (a b : ℕ) → ps a b → (a < length s.heap) × (b < length t.heap)
live_pair ps named s t h a b p =
    let w = both_there (ObjectsMatch ps) (slice_get s.heap a) (slice_get t.heap b) (h.objects a b p) in
    (slice_get_within s.heap a w.0 w.2, slice_get_within t.heap b w.1 w.3)

pub same_result : {A : Type 0} (r q : Result A Stop) → ResultsMatch Equal r q → r ≡ q
same_result (Ok a) (Ok b) h = ap (λ z. Ok z) h
same_result (Err e) (Err f) h = ap (λ z. Err z) h
same_result (Ok a) (Err f) h = absurd h
same_result (Err e) (Ok b) h = absurd h

-- ---- two runs of a cell

module _ (named : Name → Type 0) (body : List Stmt) (draws : List Drawn) (s t : State) (meters : s.meter ≡ t.meter) (looks : (name : Name) → IsIn (outcome body s draws).1.marks.looked name → named name) where
  -- no mark goes and no object does
  left_spared : Spared (start s) (outcome body s draws).1
  left_spared = spared (cell body) draws (start s)

  pub grows : length s.heap ≤ length (outcome body s draws).1.state.heap
  grows = left_spared.long

  module _ (ps : ℕ → ℕ → Type 0) (h : SameBy ps named s t) where
    abbrev pub setting : Setting
    setting = record { named = named; base = ps; lefts = length s.heap; rights = length t.heap; most = length (outcome body s draws).1.state.heap - length s.heap; one = h.pairs; old = live_pair ps named s t h; rules = no_rules }

    abbrev pub All : ℕ → ℕ → Type 0
    All = Paired setting

    pub begins : Alike setting (start s) (start t)
    begins = record {
      counts = record { steps = refl; printed = refl; meter = meters; drawn = refl };
      marks = record { looked = refl; bound = refl; changed = λ a i. absurd (no_number a i); changed_back = λ b i. absurd (no_number b i); drew = refl };
      frame = tt;
      names = λ name w. elim w [ inl n ↦ BothOrNone-more (ValuesMatch ps) (ValuesMatch All) (more_value ps All (λ a b p. inl p)) _ _ (h.names name n) | inr none ↦ absurd (no_name name none) ];
      heaps = record {
        objects = λ a b w. elim w [
          | inl p ↦ to_slots (ObjectsMatch ps) (ObjectsMatch All) (more_object ps All (λ a b p. inl p)) _ _ (h.objects a b p)
          | inr p ↦ rw (slice_get_past s.heap a (omega (arith, p.2)), slice_get_past t.heap b (omega (arith, p.3))) tt
        ];
        added = 0;
        left_size = omega arith;
        right_size = omega arith;
      };
      may = λ x v e. tt;
      known = λ x w. tt;
      fit = λ a o e. tt;
    }

    pub ended : Ends setting Equal (outcome body s draws) (outcome body t draws)
    ended = (cell_respects setting body (any_body body)).ends draws (start s) (start t) begins (record { looks = looks; size = omega (arith, grows) })

    live_at_end : (a b : ℕ) → All a b → a < length (outcome body s draws).1.state.heap
    live_at_end a b (inl p) = omega (arith, (live_pair ps named s t h a b p).0, grows)
    live_at_end a b (inr p) = omega (arith, p.1, p.2, grows)

    -- the end states are the same over the names and those bound
    pub ended_same : SameBy All (OrBound named (outcome body s draws).1) (outcome body s draws).1.state (outcome body t draws).1.state
    ended_same = record {
      pairs = record { left = left_one setting; right = right_one setting };
      names = ended.alike.names;
      objects = λ a b p. from_slots (ObjectsMatch All) _ _ _ (slice_get-get_or (outcome body s draws).1.state.heap a (object.List []) (live_at_end a b p)) (ended.alike.heaps.objects a b p);
    }

  -- ---- the pairs as a list

  module _ (by : Pairs) (h : SameBy (HasPair by) named s t) where
    abbrev Ended : ℕ → ℕ → Type 0
    Ended = All (HasPair by) h

    pub listed : Pairs
    listed = new_pairs (length s.heap) (length t.heap) (length (outcome body s draws).1.state.heap - length s.heap) ++ by

    pub to_list : IsWithin Ended (HasPair listed)
    unfolding listed
    to_list a b (inl p) = Contains-append_right (new_pairs _ _ _) by (a, b) p
    to_list a b (inr p) = Contains-append_left (new_pairs _ _ _) by (a, b) (to_new _ _ _ p.0 a b p.1 p.2 p.3)

    pub from_list : IsWithin (HasPair listed) Ended
    unfolding listed
    from_list a b k = elim (Contains-append_cases (new_pairs _ _ _) by (a, b) k) [ inl p ↦ inr (from_new _ _ _ a b p) | inr p ↦ inl p ]

    pub listed_same : SameBy (HasPair listed) (OrBound named (outcome body s draws).1) (outcome body s draws).1.state (outcome body t draws).1.state
    listed_same = same_by_agreeing Ended (HasPair listed) _ _ _ to_list from_list (ended_same (HasPair by) h)

-- ---- what is changed was reached, or is new; and what the names and those bound reach at the end

module _ (names : List Name) (body : List Stmt) (draws : List Drawn) (s t : State) (meters : s.meter ≡ t.meter) (looks : (name : Name) → IsIn (outcome body s draws).1.marks.looked name → Contains names name)
    (ps : ℕ → ℕ → Type 0) (h : SameBy ps (Contains names) s t) where
  abbrev Reached : ℕ → ℕ → Type 0
  Reached = Narrow ps (Reach s names) (Reach t names)

  near : SameBy Reached (Contains names) s t
  near = reached_same ps names s t h

  abbrev Near : ℕ → ℕ → Type 0
  Near = All (Contains names) body draws s t meters looks Reached near

  near_ended : Ends (setting (Contains names) body draws s t meters looks Reached near) Equal (outcome body s draws) (outcome body t draws)
  near_ended = ended (Contains names) body draws s t meters looks Reached near

  near_same : SameBy Near (OrBound (Contains names) (outcome body s draws).1) (outcome body s draws).1.state (outcome body t draws).1.state
  near_same = ended_same (Contains names) body draws s t meters looks Reached near

  left_reached : (a b : ℕ) → Near a b → Reach s names a ⊎ (length s.heap ≤ a)
  left_reached a b (inl p) = inl p.1
  left_reached a b (inr p) = inr (omega (arith, p.2))

  right_reached : (a b : ℕ) → Near a b → Reach t names b ⊎ (length t.heap ≤ b)
  right_reached a b (inl p) = inl p.2
  right_reached a b (inr p) = inr (omega (arith, p.3))

  bound_in_both : (name : Name) → OrBound (Contains names) (outcome body t draws).1 name → OrBound (Contains names) (outcome body s draws).1 name
  bound_in_both name (inl n) = inl n
  bound_in_both name (inr i) = inr (subst (λ k. IsIn k name) (sym near_ended.alike.marks.bound) i)

  pub spares_left : Spares names s (outcome body s draws).1
  spares_left =
      let k : Spared (start s) (outcome body s draws).1 = spared (cell body) draws (start s) in
      record {
        values = k.names;
        reached = λ a i. let w = near_ended.alike.marks.changed a i in left_reached a w.0 w.1;
        objects = k.objects;
        count = k.count;
        fenced = λ name n at r. let w = reach_partner Near _ _ _ near_same name n at r in left_reached at w.0 w.1;
      }

  pub spares_right : Spares names t (outcome body t draws).1
  spares_right =
      let k : Spared (start t) (outcome body t draws).1 = spared (cell body) draws (start t) in
      record {
        values = k.names;
        reached = λ b i. let w = near_ended.alike.marks.changed_back b i in right_reached w.0 b w.1;
        objects = k.objects;
        count = k.count;
        fenced = λ name n at r. let w = reach_partner (Turned Near) _ _ _ (same_by_turned Near _ _ _ near_same) name (bound_in_both name n) at r in right_reached w.0 at w.1;
      }

-- ---- the law

unfoldable pub framed_by : (names : List Name) (body : List Stmt) (draws : List Drawn) (s t : State) (by : Pairs) → SameBy (HasPair by) (Contains names) s t → s.meter ≡ t.meter
    → ((name : Name) → IsIn (outcome body s draws).1.marks.looked name → Contains names name) → Framed names s t (outcome body s draws) (outcome body t draws)
framed_by names body draws s t by same meters looks =
    let ps : (ℕ → ℕ → Type 0) = HasPair by in
    let o = ended (Contains names) body draws s t meters looks ps same in
    let to = to_list (Contains names) body draws s t meters looks by same in
    record {
      result = same_result _ _ o.result;
      printed = o.alike.counts.printed;
      steps = o.alike.counts.steps;
      meter = o.alike.counts.meter;
      drawn = o.alike.counts.drawn;
      looked = o.alike.marks.looked;
      bound = o.alike.marks.bound;
      drew = o.alike.marks.drew;
      pairs = listed (Contains names) body draws s t meters looks by same;
      states = listed_same (Contains names) body draws s t meters looks by same;
      changed = λ a k. let w = o.alike.marks.changed a k in (w.0, to a w.0 w.1, w.2);
      changed_back = λ b k. let w = o.alike.marks.changed_back b k in (w.0, to w.0 b w.1, w.2);
      left = spares_left names body draws s t meters looks ps same;
      right = spares_right names body draws s t meters looks ps same;
    }

pub framed : (names : List Name) (body : List Stmt) (draws : List Drawn) (s t : State) → Same (Contains names) s t → s.meter ≡ t.meter
    → ((name : Name) → IsIn (outcome body s draws).1.marks.looked name → Contains names name) → Framed names s t (outcome body s draws) (outcome body t draws)
framed names body draws s t same meters looks = framed_by names body draws s t same.by same.same meters looks

-- ---- the same with all names

pub renamed : (body : List Stmt) (draws : List Drawn) (s t : State) → SameStates s t → Renamed (outcome body s draws) (outcome body t draws)
renamed body draws s t same =
    let by : Pairs = same.names.by in
    let h : SameBy (HasPair by) Every s t = same.names.same in
    let looks : (name : Name) → IsIn (outcome body s draws).1.marks.looked name → Every name = λ name l. tt in
    let o = ended Every body draws s t same.meter looks (HasPair by) h in
    let end = listed_same Every body draws s t same.meter looks by h in
    let left : Spared (start s) (outcome body s draws).1 = spared (cell body) draws (start s) in
    let right : Spared (start t) (outcome body t draws).1 = spared (cell body) draws (start t) in
    record {
      result = same_result _ _ o.result;
      printed = o.alike.counts.printed;
      steps = o.alike.counts.steps;
      drawn = o.alike.counts.drawn;
      looked = o.alike.marks.looked;
      bound = o.alike.marks.bound;
      drew = o.alike.marks.drew;
      states = record {
        names = record {
          by = listed Every body draws s t same.meter looks by h;
          same = record { pairs = end.pairs; names = λ name n. end.names name (inl tt); objects = end.objects };
        };
        count = left.count ∙ same.count ∙ sym right.count;
        meter = o.alike.counts.meter;
      };
    }
