-- A cell repeats in a state with the versions that it read, by the frame law over their names and the names missed.
use Rattle.std.proofs.Common.{◌≡◌, ℕ, zero, suc, ◌-◌, ◌<◌, ◌≤◌, true, false, List, [], ◌∷◌, ◌++◌, length, Option, Some, None, refl, sym, ap, ◌∙◌, ◌⊎◌, inl, inr, subst, arith}
use Rattle.std.specs.Prelude.{Contains, slice_get}
use Rattle.std.specs.List.{flat_map}
use Rattle.std.specs.FinMap as finite
use Rattle.std.proofs.lemmas.Bool.{cases_Bool, cases_eq, cases_lt}
use Rattle.std.proofs.lemmas.List.Elements.{Contains-append_left, Contains-append_right, Contains-append_cases}
use Rattle.py_tree.specs.declared.statements.Stmt.{Stmt}
use Rattle.py_heap.specs.declared.state.State.{State}
use Rattle.py_heap.specs.References.{IsClosed}
use Rattle.py_heap.specs.Reaching.{Reach}
use Rattle.py_heap.specs.Reaching as reaching
use Rattle.py_machine.specs.Runs.{Name, Outcome}
use Rattle.py_machine.specs.declared.marks.Marks.{Marks}
use Rattle.py_machine.specs.Marked.{IsIn}
use Rattle.py_meaning.specs.Cells.{outcome, Asks}
use Rattle.py_laws.specs.Same.{HasPair, SameBy, Same, SameWithin}
use Rattle.py_laws.specs.Framed.{Framed}
use Rattle.py_laws.proofs.Sameness.{same_itself, same_by_turned}
use Rattle.py_laws.proofs.Matching.{Turned}
use Rattle.py_laws.proofs.Framing.{framed}
use Rattle.py_laws.proofs.Agreeing.{framed_agreeing}
use Rattle.py_laws.proofs.Joining.{reached_only, joined}
use Rattle.py_laws.proofs.Reached.{has_number}
use Rattle.py_laws.proofs.Partners.{none_in, one_in, first_in, later_in, reach_partner}
use Rattle.graph_model.specs.declared.graph.CellRecord.{CellRecord}
use Rattle.graph_model.specs.declared.graph.Version.{Version}
use Rattle.graph_model.specs.declared.graph.Graph.{Graph}
use Rattle.graph_model.specs.Graphs.{VersionAt}
use Rattle.graph_model.specs.Faults.{Ascends}
use Rattle.graph_model.proofs.Lookups.{same_version}
use Rattle.linked_parts.specs.Parts.{HasValue, HasNone, Reaches, Linked, itself, shared, back, on, IsPart, Apart}
use Rattle.linked_parts.proofs.Names.{none_reaches}
use Rattle.run_graph.specs.Histories.{Run, Looks, Binds, Changes, IsKept, IsWritten, HoldsAfter, IsRecord, IsHistory}
use Rattle.run_graph.specs.Soundness.{IsRun, TreeReader, statements, done_by, begun, done, Follows, AreTheParts, StandsIn, HasItsReads, IsElsewhere, Repeats, RepeatsFromItsReads}
use Rattle.run_graph.proofs.Lists.{alone, cons_cases, in_flat, from_flat, has_name, is_bound}
use Rattle.run_graph.proofs.Reached.{reach_from_one, reach_by_one, has_value, not_both}
use Rattle.run_graph.proofs.Kept.{in_part_value, part_apart, kept_not_written}
use Rattle.run_graph.proofs.Holding.{left_cases, the_parts}
use Rattle.run_graph.proofs.Checking.{value_bound}
use Rattle.run_graph.proofs.Standing.{within_nothing}
use Rattle.run_graph.proofs.Fencing as fencing

-- ---- lists of numbers that ascend, and short lists

tail_ascends : (n : ℕ) (ns : List ℕ) → Ascends (λ a b. a < b) (n ∷ ns) → Ascends (λ a b. a < b) ns
tail_ascends n [] a = tt
tail_ascends n (m ∷ ns) a = a.1

below_all : (n : ℕ) (ns : List ℕ) → Ascends (λ a b. a < b) (n ∷ ns) → (m : ℕ) → Contains ns m → n < m
below_all n [] a m h = absurd (none_in m h)
below_all n (k ∷ ns) a m h = elim (cons_cases k ns m h) [
  | inl e ↦ let l = a.0 in omega (arith, l, e)
  | inr more ↦ let l = a.0 in let f = below_all k ns a.1 m more in omega (arith, l, f)
]

-- whether one of the cells up to a number bound a name
ever_bound : (r : Run) (z : Name) (n : ℕ) → ((e : ℕ) × (e < n) × Binds r e z) ⊎ ((e : ℕ) → e < n → ¬ Binds r e z)
ever_bound r z zero = inr (λ e l b. let none : ⊥ = omega (arith, l) in none)
ever_bound r z (suc n) = elim (is_bound r n z) [
  | inl b ↦ inl (n, omega arith, b)
  | inr not_now ↦ elim (ever_bound r z n) [
    | inl w ↦ inl (w.0, let l = w.1 in omega (arith, l), w.2)
    | inr never ↦ inr (λ e l b. elim (cases_eq e n) [
      | inl same ↦ not_now (subst (λ m. Binds r m z) same b)
      | inr other ↦ never e (omega (arith, l, other)) b
    ])
  ]
]

-- the count doesn't matter

closed_counted : (s : State) (n : ℕ) → IsClosed s → IsClosed (record s { count = n })
closed_counted s n k = record { names = k.names; objects = k.objects }

reach_uncounted : (s : State) (n : ℕ) (names : List Name) (at : ℕ) → Reach (record s { count = n }) names at → Reach s names at
reach_uncounted s n names i (reaching.named z at k q) = reaching.named z at k q
reach_uncounted s n names i (reaching.held from at q k) = reaching.held from at (reach_uncounted s n names from q) k

counted_same : (s t : State) (n : ℕ) (ps : ℕ → ℕ → Type 0) (named : Name → Type 0) → SameBy ps named s t → SameBy ps named (record s { count = n }) t
counted_same s t n ps named h = record { pairs = h.pairs; names = h.names; objects = h.objects }

names_in : Option Version → List Name
names_in None = []
names_in (Some y) = y.names

module _ (r : Run) (g : Graph) (run : IsRun r) (h : IsHistory r g) (c : ℕ) (l : c < r.cells)
    (x : CellRecord) (record_of : IsRecord r g c x) where
  abbrev Before : State
  Before = r.state c

  abbrev After : State
  After = r.state (suc c)

  inv : AreTheParts r g c
  inv = the_parts r run g h c (omega (arith, l))

  inv_after : AreTheParts r g (suc c)
  inv_after = the_parts r run g h (suc c) (omega (arith, l))

  -- ---- the names that the cell needs: those of the versions that it read, and those that it missed

  names_at : ℕ → List Name
  names_at v = names_in (slice_get g.versions (v - 1))

  names_at_is : (v : ℕ) (y : Version) → VersionAt g v y → names_at v ≡ y.names
  unfolding names_at names_in
  names_at_is v y at = ap names_in at.1

  abbrev needed : List Name
  needed = flat_map names_at x.reads ++ x.missing

  in_read : (v : ℕ) (y : Version) → Contains x.reads v → VersionAt g v y → (z : Name) → Contains y.names z → Contains needed z
  in_read v y p at z q = Contains-append_left (flat_map names_at x.reads) x.missing z
      (in_flat names_at x.reads v z p (subst (λ ns. Contains ns z) (sym (names_at_is v y at)) q))

  abbrev InRead : Name → Type 0
  InRead z = (v : ℕ) × (y : Version) × Contains x.reads v × HoldsAfter g c v y × Contains y.names z

  needed_cases : (z : Name) → Contains needed z → InRead z ⊎ Contains x.missing z
  needed_cases z n = elim (Contains-append_cases (flat_map names_at x.reads) x.missing z n) [
    | inl f ↦
        let w = from_flat names_at x.reads z f in
        let k = (record_of.reads w.0).0 w.1 in
        inl (w.0, k.0, w.1, k.1, subst (λ ns. Contains ns z) (names_at_is w.0 k.0 k.1.at) w.2)
    | inr m ↦ inr m
  ]

  missing_none : (z : Name) → Contains x.missing z → HasNone Before z
  missing_none z m = elim (has_value Before z) [
    | inr none ↦ none
    | inl value ↦ let w = value_bound r run c z value in absurd (((record_of.missing z).0 m).1 w.0 w.1 w.2)
  ]

  holds_apart : (v : ℕ) (y : Version) → HoldsAfter g c v y → Apart Before y.names
  holds_apart v y k = elim (cases_Bool y.absent) [
    | inr there ↦ part_apart Before y.names (inv.are_parts v y k there)
    | inl gone ↦ λ at q z out rz.
        let d = inv.are_deleted v y k gone in
        let w = reach_from_one Before y.names at q in
        none_reaches Before w.0 (subst (HasNone Before) (one_in d.0 w.0 (subst (λ ns. Contains ns w.0) d.1 w.1)) d.2) at w.2
  ]

  -- what the cell looked up, it needs
  looks : (z : Name) → Looks r c z → Contains needed z
  looks z k = elim (ever_bound r z c) [
    | inr never ↦ Contains-append_right (flat_map names_at x.reads) x.missing z ((record_of.missing z).1 (k, never))
    | inl b ↦ elim (has_value Before z) [
      | inl value ↦ let w = inv.all_parts z value in in_read w.0 w.1 ((record_of.reads w.0).1 (w.1, w.2, z, w.4, inl k)) w.2.at z w.4
      | inr none ↦ let w = inv.all_deleted z b.0 b.1 b.2 none in in_read w.0 w.1 ((record_of.reads w.0).1 (w.1, w.2, z, w.4, inl k)) w.2.at z w.4
    ]
  ]

  -- the state before the cell has what it needs, so the premise can be met
  pub own_reads : HasItsReads r g c x Before
  own_reads = record {
    closed = run.closed c;
    meter = sym record_of.meter;
    reads = λ v y p at.
        let w = (record_of.reads v).0 p in
        let same : w.0 ≡ y = same_version g v w.0 y w.1.at at in
        (same_itself Before (run.closed c) (Contains y.names), holds_apart v y (subst (HoldsAfter g c v) same w.1));
    missing = missing_none;
  }

  -- ---- inside are the names needed and the names bound

  abbrev Inside : Name → Type 0
  Inside z = Contains needed z ⊎ Binds r c z

  is_inside : (z : Name) → Inside z ⊎ (¬ Inside z)
  is_inside z = elim (has_name needed z) [
    | inl n ↦ inl (inl n)
    | inr out ↦ elim (is_bound r c z) [ inl b ↦ inl (inr b) | inr free ↦ inr (λ w. elim w [ inl n ↦ out n | inr b ↦ free b ]) ]
  ]

  -- if the versions read are apart and the names missed have no value, a name outside reaches nothing that is needed
  outside : (S : State) → ((v : ℕ) (y : Version) → Contains x.reads v → HoldsAfter g c v y → Apart S y.names) → ((z : Name) → Contains x.missing z → HasNone S z)
      → (z : Name) → ¬ Inside z → (at : ℕ) → Reaches S z at → ¬ Reach S needed at
  outside S aparts none z out at q n =
      let w = reach_from_one S needed at n in
      elim (needed_cases w.0 w.1) [
        | inl k ↦ aparts k.0 k.1 k.2 k.3 at (reach_by_one S k.1.names w.0 at k.4 w.2) z (λ m. out (inl (in_read k.0 k.1 k.2 k.3.at z m))) q
        | inr m ↦ none_reaches S w.0 (none w.0 m) at w.2
      ]

  module _ (read : TreeReader) (follows : Follows read r) where
    -- ---- the cell in the run

    abbrev Begun : State
    Begun = begun r c

    abbrev body : List Stmt
    body = statements (read (r.code (suc c)))

    abbrev o : Outcome (Option (List ℕ))
    o = done read r c

    looks_then : (z : Name) → IsIn o.1.marks.looked z → Contains needed z
    looks_then z k = looks z (subst (λ (m : Marks). IsIn m.looked z) (sym (follows.marks c)) k)

    binds_then : (z : Name) → Binds r c z → IsIn o.1.marks.bound z
    binds_then z b = subst (λ (m : Marks). IsIn m.bound z) (follows.marks c) b

    own_frame : Framed needed Begun Begun o o
    own_frame = framed needed body (r.draws (suc c)) Begun Begun (same_itself Begun (closed_counted Before (r.counts (suc c)) (run.closed c)) (Contains needed)) refl looks_then

    uncounted : (at : ℕ) → Reach Begun needed at ⊎ (length Before.heap ≤ at) → Reach Before needed at ⊎ (length Before.heap ≤ at)
    uncounted at (inl q) = inl (reach_uncounted Before (r.counts (suc c)) needed at q)
    uncounted at (inr new) = inr new

    fence : (z : Name) → Inside z → (at : ℕ) → Reaches After z at → Reach Before needed at ⊎ (length Before.heap ≤ at)
    fence z i at q = uncounted at (own_frame.left.fenced z (elim i [ inl n ↦ inl n | inr b ↦ inr (binds_then z b) ]) at (subst (λ S. Reaches S z at) (follows.state c) q))

    changed_near : (at : ℕ) → Changes r c at → Reach Before needed at ⊎ (length Before.heap ≤ at)
    changed_near at k = uncounted at (own_frame.left.reached at (subst (λ (m : Marks). IsIn m.changed at) (follows.marks c) k))

    abbrev ChangedHere : ℕ → Type 0
    ChangedHere at = Changes r c at

    outside_values : (z : Name) → ¬ Inside z → finite.get After.globals z ≡ finite.get Before.globals z
    outside_values z out = run.values c z (λ b. out (inr b))

    outside_here : (z : Name) → ¬ Inside z → (at : ℕ) → Reaches Before z at → ¬ Reach Before needed at
    outside_here = outside Before (λ v y p k. holds_apart v y k) missing_none

    unchanged : (z : Name) → ¬ Inside z → (at : ℕ) → Reaches Before z at → ¬ Changes r c at
    unchanged = fencing.unchanged Before After (run.closed c) needed Inside ChangedHere outside_values (run.objects c) changed_near fence outside_here

    to_end : (z : Name) → ¬ Inside z → (at : ℕ) → Reaches Before z at → Reaches After z at
    to_end = fencing.to_end Before After (run.closed c) needed Inside ChangedHere outside_values (run.objects c) changed_near fence outside_here

    from_end : (z : Name) → ¬ Inside z → (at : ℕ) → Reaches After z at → Reaches Before z at
    from_end = fencing.from_end Before After (run.closed c) needed Inside ChangedHere outside_values (run.objects c) changed_near fence outside_here

    apart_at_end : (z : Name) → ¬ Inside z → (y : Name) → Inside y → (at : ℕ) → Reaches After z at → ¬ Reaches After y at
    apart_at_end = fencing.apart_at_end Before After (run.closed c) needed Inside ChangedHere outside_values (run.objects c) changed_near fence outside_here

    -- ---- a part with no name inside is kept

    module _ (ps : List Name) (part : IsPart Before ps) (out : (z : Name) → Contains ps z → ¬ Inside z) where
      linked_on : (a b : Name) → Linked Before a b → Contains ps a → Linked After a b
      linked_on _ _ (itself a value) p = itself a (value.0, outside_values a (out a p) ∙ value.1)
      linked_on _ _ (shared a b at q s) p =
          let m : Contains ps b = (part.linked a b p).1 (shared a b at q s) in
          shared a b at (to_end a (out a p) at q) (to_end b (out b m) at s)
      linked_on _ _ (back a b k) p = back a b (linked_on a b k ((part.linked b a p).1 (back a b k)))
      linked_on _ _ (on a b d j k) p = on a b d (linked_on a b j p) (linked_on b d k ((part.linked a b p).1 j))

      met_inside : (a b : Name) (at : ℕ) → Reaches After a at → Reaches After b at → Contains ps a → Contains ps b
      met_inside a b at q s p = elim (is_inside b) [
        | inl i ↦ absurd (apart_at_end a (out a p) b i at q s)
        | inr free ↦ (part.linked a b p).1 (shared a b at (from_end a (out a p) at q) (from_end b free at s))
      ]

      linked_within : (a b : Name) → Linked After a b → (Contains ps a → Contains ps b) × (Contains ps b → Contains ps a)
      linked_within _ _ (itself a value) = (λ p. p, λ p. p)
      linked_within _ _ (shared a b at q s) = (met_inside a b at q s, met_inside b a at s q)
      linked_within _ _ (back a b k) = let w = linked_within a b k in (w.1, w.0)
      linked_within _ _ (on a b d j k) = let v = linked_within a b j in let w = linked_within b d k in (λ p. w.0 (v.0 p), λ p. v.1 (w.1 p))

      part_still : IsPart After ps
      part_still = record {
        ascends = part.ascends;
        some = part.some;
        linked = λ a b p. (λ q. linked_on a b ((part.linked a b p).0 q) p, λ k. (linked_within a b k).0 p);
      }

      part_kept : IsKept r c ps
      part_kept = record {
        names_stay = λ z p b. out z p (inr b);
        objects_stay = λ at q.
            let w = reach_from_one After ps at q in
            unchanged w.0 (out w.0 w.1) at (from_end w.0 (out w.0 w.1) at w.2);
        before = part;
      }

    -- ---- each name of a part that the cell wrote is inside

    -- a version that holds and wasn't read has no name inside, if one of its names isn't inside
    unread_outside : (v : ℕ) (y : Version) → HoldsAfter g c v y → y.absent ≡ false → ¬ Contains x.reads v → (z : Name) → Contains y.names z → ¬ Inside z
        → (w : Name) → Contains y.names w → ¬ Inside w
    unread_outside v y k there unread z p out w q (inl n) = elim (needed_cases w n) [
      | inl i ↦
          let e : i.0 ≡ v = inv.disjoint i.0 v i.1 y w i.3 k i.4 q in
          unread (subst (λ m. Contains x.reads m) e i.2)
      | inr m ↦ not_both Before w (in_part_value Before y.names (inv.are_parts v y k there) w q) (missing_none w m)
    ]
    unread_outside v y k there unread z p out w q (inr b) = elim (cases_lt 1 (length y.names)) [
      | inl two ↦ unread ((record_of.reads v).1 (y, k, w, q, inr (b, two)))
      | inr one ↦ out (inr (subst (λ m. Binds r c m) (alone y.names w z one q p) b))
    ]

    written_inside : (ps : List Name) → IsPart After ps → IsWritten r c ps → (z : Name) → Contains ps z → Inside z
    written_inside ps part written z p = elim (is_inside z) [
      | inl i ↦ i
      | inr out ↦
          let now = in_part_value After ps part z p in
          let value : HasValue Before z = (now.0, sym (outside_values z out) ∙ now.1) in
          let w = inv.all_parts z value in
          let y : Version = w.1 in
          let before : IsPart Before y.names = inv.are_parts w.0 y w.2 w.3 in
          elim (has_number x.reads w.0) [
            | inl read ↦ absurd (out (inl (in_read w.0 y read w.2.at z w.4)))
            | inr unread ↦
                let free : (m : Name) → Contains y.names m → ¬ Inside m = unread_outside w.0 y w.2 w.3 unread z w.4 out in
                absurd (kept_not_written r c y.names ps (part_kept y.names before free) (part_still y.names before free) part z w.4 p written)
          ]
    ]

    -- what holds after the cell, or is left by it, keeps its objects to itself
    abbrev KeepsToItself : List Name → Type 0
    KeepsToItself ps = (p z : Name) (at : ℕ) → Contains ps p → Reaches After p at → Reaches After z at → Contains ps z

    part_to_itself : (ps : List Name) → IsPart After ps → KeepsToItself ps
    part_to_itself ps part p z at m q s = (part.linked p z m).1 (shared p z at q s)

    none_to_itself : (ps : List Name) (d : Name) → ps ≡ d ∷ [] → HasNone After d → KeepsToItself ps
    none_to_itself ps d e none p z at m q s =
        absurd (none_reaches After p (subst (HasNone After) (one_in d p (subst (λ ns. Contains ns p) e m)) none) at q)

    -- ---- from another state

    module _ (t : State) (need : HasItsReads r g c x t) (quiet : x.drew ≡ false) where
      abbrev u : Outcome (Option (List ℕ))
      u = outcome body t []

      abbrev End : State
      End = u.1.state

      aparts_there : (v : ℕ) (y : Version) → Contains x.reads v → HoldsAfter g c v y → Apart t y.names
      aparts_there v y p k = (need.reads v y p k.at).1

      -- the versions read are the same, one by one and so together
      one_same : (v : ℕ) (y : Version) → Contains x.reads v → VersionAt g v y → SameWithin (names_at v) Before t
      one_same v y p at = reached_only (names_at v) Before t (run.closed c) need.closed
          (subst (λ ns. Same (Contains ns) Before t) (sym (names_at_is v y at)) (need.reads v y p at).0)

      -- names of other versions read are outside
      not_shared : (v : ℕ) (vs : List ℕ) → Ascends (λ a b. a < b) (v ∷ vs) → ((w : ℕ) → Contains (v ∷ vs) w → Contains x.reads w)
          → (z : Name) → Contains (flat_map names_at vs) z → ¬ Contains (names_at v) z
      not_shared v vs ascends all z m n =
          let w = from_flat names_at vs z m in
          let i = (record_of.reads v).0 (all v (first_in v vs)) in
          let j = (record_of.reads w.0).0 (all w.0 (later_in v vs w.0 w.1)) in
          let e : v ≡ w.0 = inv.disjoint v w.0 i.0 j.0 z i.1 j.1 (subst (λ ns. Contains ns z) (names_at_is v i.0 i.1.at) n) (subst (λ ns. Contains ns z) (names_at_is w.0 j.0 j.1.at) w.2) in
          let less : v < w.0 = below_all v vs ascends w.0 w.1 in
          omega (arith, e, less)

      apart_lists : (S : State) (ns ms : List Name) → Apart S ns → ((z : Name) → Contains ms z → ¬ Contains ns z) → (at : ℕ) → Reach S ns at → ¬ Reach S ms at
      apart_lists S ns ms apart other at q m = let w = reach_from_one S ms at m in apart at q w.0 (other w.0 w.1) w.2

      reads_same : (vs : List ℕ) → Ascends (λ a b. a < b) vs → ((v : ℕ) → Contains vs v → Contains x.reads v) → SameWithin (flat_map names_at vs) Before t
      reads_same [] ascends all = within_nothing [] Before t (λ z n. absurd (none_in z n)) (λ z n. absurd (none_in z n))
      reads_same (v ∷ vs) ascends all =
          let p : Contains x.reads v = all v (first_in v vs) in
          let k = (record_of.reads v).0 p in
          let y : Version = k.0 in
          let e : y.names ≡ names_at v = sym (names_at_is v y k.1.at) in
          let other = not_shared v vs ascends all in
          joined Before t (names_at v) (flat_map names_at vs) (one_same v y p k.1.at)
          (reads_same vs (tail_ascends v vs ascends) (λ w q. all w (later_in v vs w q)))
          (apart_lists Before (names_at v) (flat_map names_at vs) (subst (λ ns. Apart Before ns) e (holds_apart v y k.1)) other)
          (apart_lists t (names_at v) (flat_map names_at vs) (subst (λ ns. Apart t ns) e (aparts_there v y p k.1)) other)

      none_reached : (S : State) → ((z : Name) → Contains x.missing z → HasNone S z) → (at : ℕ) → ¬ Reach S x.missing at
      none_reached S none at q = let w = reach_from_one S x.missing at q in none_reaches S w.0 (none w.0 w.1) at w.2

      all_same : SameWithin needed Before t
      all_same = joined Before t (flat_map names_at x.reads) x.missing
          (reads_same x.reads record_of.reads_ascend (λ v p. p)) (within_nothing x.missing Before t missing_none need.missing)
          (λ at q m. none_reached Before missing_none at m) (λ at q m. none_reached t need.missing at m)

      ends_here : Asks o → ⊥
      ends_here = (follows.uses c l).ends

      -- it didn't draw, so that it may be given any draws
      drew_not : o.1.marks.drew ≡ true → r.draws (suc c) ≡ []
      drew_not e =
          let recorded : x.drew ≡ o.1.marks.drew = record_of.drew ∙ ap (λ (m : Marks). m.drew) (follows.marks c) in
          let none : ⊥ = cc (e, recorded, quiet) in absurd none

      frame : Framed needed Begun t o u
      frame = framed_agreeing needed body (r.draws (suc c)) [] Begun t
          (record { by = all_same.by; same = counted_same Before t (r.counts (suc c)) (HasPair all_same.by) (Contains needed) all_same.same })
          (sym (need.meter ∙ record_of.meter)) looks_then ends_here drew_not

      -- ---- what the frame law gives, in the words of the run

      abbrev By : ℕ → ℕ → Type 0
      By = HasPair frame.pairs

      ends : SameBy By Inside After End
      ends = subst (λ S. SameBy By Inside S End) (sym (follows.state c))
          (subst (λ (m : Marks). SameBy By (λ z. Contains needed z ⊎ IsIn m.bound z) o.1.state End) (sym (follows.marks c)) frame.states)

      bound_here : (z : Name) → IsIn u.1.marks.bound z → Binds r c z
      bound_here z b = subst (λ (m : Marks). IsIn m.bound z) (sym (follows.marks c)) (subst (λ s. IsIn s z) (sym frame.bound) b)

      bound_there : (z : Name) → Binds r c z → IsIn u.1.marks.bound z
      bound_there z b = subst (λ s. IsIn s z) frame.bound (binds_then z b)

      fence_there : (z : Name) → Inside z → (at : ℕ) → Reaches End z at → Reach t needed at ⊎ (length t.heap ≤ at)
      fence_there z i at q = frame.right.fenced z (elim i [ inl n ↦ inl n | inr b ↦ inr (bound_there z b) ]) at q

      abbrev ChangedThere : ℕ → Type 0
      ChangedThere at = IsIn u.1.marks.changed at

      values_there : (z : Name) → ¬ Inside z → finite.get End.globals z ≡ finite.get t.globals z
      values_there z out = frame.right.values z (λ b. out (inr (bound_here z b)))

      outside_there : (z : Name) → ¬ Inside z → (at : ℕ) → Reaches t z at → ¬ Reach t needed at
      outside_there = outside t aparts_there need.missing

      apart_there : (z : Name) → ¬ Inside z → (y : Name) → Inside y → (at : ℕ) → Reaches End z at → ¬ Reaches End y at
      apart_there = fencing.apart_at_end t End need.closed needed Inside ChangedThere values_there frame.right.objects frame.right.reached fence_there outside_there

      object_there : (z : Name) → ¬ Inside z → (at : ℕ) → Reaches t z at → slice_get End.heap at ≡ slice_get t.heap at
      object_there = fencing.same_object t End need.closed needed Inside ChangedThere values_there frame.right.objects frame.right.reached fence_there outside_there

      -- ---- names inside that keep their objects to themselves are at the end as in the run, and apart

      standing : (ps : List Name) → ((z : Name) → Contains ps z → Inside z) → KeepsToItself ps → StandsIn After End ps
      standing ps inside own = (
        record { by = frame.pairs; same = record { pairs = ends.pairs; names = λ z p. ends.names z (inside z p); objects = ends.objects } },
        λ at q z out rz.
            let w = reach_from_one End ps at q in
            elim (is_inside z) [
              | inr free ↦ apart_there z free w.0 (inside w.0 w.1) at rz w.2
              | inl i ↦
                  let turned : SameBy (Turned By) Inside End After = same_by_turned By Inside After End ends in
                  let a = reach_partner (Turned By) Inside End After turned w.0 (inside w.0 w.1) at w.2 in
                  let b = reach_partner (Turned By) Inside End After turned z i at rz in
                  let e : b.0 ≡ a.0 = ends.pairs.right b.0 a.0 at b.1 a.1 in
                  out (own w.0 z a.0 w.1 a.2 (subst (λ n. Reaches After z n) e b.2))
            ],
      )

      wrote : (v : ℕ) (y : Version) → VersionAt g v y → y.writer ≡ suc c → StandsIn After End y.names
      wrote v y at e = elim (left_cases r run g h v y at c e) [
        | inl a ↦ standing y.names (written_inside y.names a.1 a.2) (part_to_itself y.names a.1)
        | inr a ↦ standing y.names (λ z p. inr (subst (λ m. Binds r c m) (one_in a.1 z (subst (λ ns. Contains ns z) a.2 p)) a.3.0)) (none_to_itself y.names a.1 a.2 a.3.1)
      ]

      read_stands : (v : ℕ) (y : Version) → Contains x.reads v → HoldsAfter g (suc c) v y → StandsIn After End y.names
      read_stands v y p k = standing y.names (λ z q. inl (in_read v y p k.at z q)) (elim (cases_Bool y.absent) [
        | inr there ↦ part_to_itself y.names (inv_after.are_parts v y k there)
        | inl gone ↦ let d = inv_after.are_deleted v y k gone in none_to_itself y.names d.0 d.1 d.2
      ])

      -- ---- a name elsewhere

      elsewhere_unbound : (z : Name) → IsElsewhere g c x z → ¬ Binds r c z
      elsewhere_unbound z elsewhere b = elim (has_value After z) [
        | inl value ↦ let w = h.parts c z l value in elim w.3 [
          | inl kept ↦ kept.names_stay z w.1 b
          | inr a ↦ elsewhere a.0 a.1 a.2 (inr a.3) (subst (λ ns. Contains ns z) (sym a.4) w.1)
        ]
        | inr none ↦ let a = h.deleted c z l (b, none) in elsewhere a.0 a.1 a.2 (inr a.3) (subst (λ ns. Contains ns z) (sym a.4) (first_in z []))
      ]

      repeats : Repeats r g c x t o u
      repeats = record {
        ends = λ e. ends_here (frame.result ∙ e);
        result = frame.result;
        printed = frame.printed;
        steps = record_of.steps ∙ (follows.steps c ∙ frame.steps);
        meter = frame.meter;
        wrote = wrote;
        read = read_stands;
        names_stay = λ z elsewhere. frame.right.values z (λ b. elsewhere_unbound z elsewhere (bound_here z b));
        objects_stay = λ z elsewhere at q. elim (has_name needed z) [
          | inl n ↦ elim (needed_cases z n) [
            | inl k ↦ absurd (elsewhere k.0 k.1 k.3.at (inl k.2) k.4)
            | inr m ↦ absurd (none_reaches t z (need.missing z m) at q)
          ]
          | inr out ↦ object_there z (λ w. elim w [ inl n ↦ out n | inr b ↦ elsewhere_unbound z elsewhere b ]) at q
        ];
      }

pub repeats_from_its_reads : (read : TreeReader) (r : Run) (g : Graph) → IsRun r → Follows read r → IsHistory r g → (c : ℕ) → c < r.cells → RepeatsFromItsReads read r g c
repeats_from_its_reads read r g run follows h c l = λ x t at quiet need.
    let i = h.records c x at in
    subst (λ code. Repeats r g c x t (done read r c) (done_by read code t [])) (sym i.code) (repeats r g run h c l x i read follows t need quiet)
