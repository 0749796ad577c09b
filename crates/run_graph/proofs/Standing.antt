-- A version that holds after a cell is as after its writer.
use Rattle.std.proofs.Common.{◌≡◌, ℕ, zero, suc, ◌≤◌, true, false, List, [], Option, None, sym, inl, inr, subst, arith}
use Rattle.std.specs.Prelude.{Contains, slice_get}
use Rattle.std.specs.FinMap as finite
use Rattle.std.proofs.lemmas.Bool.{cases_Bool}
use Rattle.py_value.specs.declared.value.Value.{Value}
use Rattle.py_heap.specs.declared.state.State.{State}
use Rattle.py_heap.specs.Reaching.{Reach}
use Rattle.py_machine.specs.Runs.{Name}
use Rattle.py_laws.specs.Same.{HasPair, ValuesMatch, ObjectsMatch, BothOrNone, Both, Same, SameWithin}
use Rattle.py_laws.proofs.Pairing.{no_pair}
use Rattle.py_laws.proofs.Partners.{one_in}
use Rattle.py_laws.proofs.Sameness.{same_itself, same_through}
use Rattle.py_laws.proofs.Joining.{reached_only}
use Rattle.graph_model.specs.declared.graph.Version.{Version}
use Rattle.graph_model.specs.declared.graph.Graph.{Graph}
use Rattle.linked_parts.specs.Parts.{HasNone}
use Rattle.run_graph.specs.Histories.{Run, IsKept, HoldsAfter, IsHistory}
use Rattle.run_graph.specs.Soundness.{IsRun, Spares, StandsAsWritten}
use Rattle.run_graph.proofs.Kept.{spares_of, kept_value, kept_object, kept_forth}
use Rattle.run_graph.proofs.Holding.{left_deleted, new_or_old, still_part, the_parts}

-- ---- two states are the same over names that have no value in either

none_matches : (M : Value → Value → Type 0) (o u : Option Value) → o ≡ None → u ≡ None → BothOrNone M o u
none_matches M o u e f = subst (λ z. BothOrNone M z u) (sym e) (subst (λ z. BothOrNone M None z) (sym f) tt)

pub same_nothing : (s t : State) (named : Name → Type 0) → ((x : Name) → named x → HasNone s x) → ((x : Name) → named x → HasNone t x) → Same named s t
same_nothing s t named none none_too = record {
  by = [];
  same = record {
    pairs = record { left = λ a b c p q. absurd (no_pair a b p); right = λ a b c p q. absurd (no_pair a c p) };
    names = λ x n. none_matches (ValuesMatch (HasPair [])) _ _ (none x n) (none_too x n);
    objects = λ a b p. absurd (no_pair a b p);
  };
}

pub within_nothing : (names : List Name) (s t : State) → ((x : Name) → Contains names x → HasNone s x) → ((x : Name) → Contains names x → HasNone t x) → SameWithin names s t
unfolding same_nothing
within_nothing names s t none none_too = record {
  by = [];
  same = (same_nothing s t (Contains names) none none_too).same;
  left = λ a b p. absurd (no_pair a b p);
  right = λ a b p. absurd (no_pair a b p);
}

-- ---- over a part that the cell kept

module _ (r : Run) (c : ℕ) (spares : Spares r c) (names : List Name) (k : IsKept r c names) where
  abbrev Before : State
  Before = r.state c

  abbrev After : State
  After = r.state (suc c)

  -- the state before is the same as itself, by pairs of what the names reach
  own : SameWithin names Before Before
  own = reached_only names Before Before spares.closed spares.closed (same_itself Before spares.closed (Contains names))

  abbrev By : ℕ → ℕ → Type 0
  By = HasPair own.by

  pub same_kept : Same (Contains names) Before After
  same_kept = record {
    by = own.by;
    same = record {
      pairs = own.same.pairs;
      names = λ x n. subst (λ o. BothOrNone (ValuesMatch By) (finite.get Before.globals x) o) (sym (kept_value r c spares names k x n)) (own.same.names x n);
      objects = λ a b p.
          let reached : Reach Before names b = own.right a b p in
          let stays = kept_object r c spares names k b reached (kept_forth r c spares names k b reached) in
          subst (λ o. Both (ObjectsMatch By) (slice_get Before.heap a) o) (sym stays) (own.same.objects a b p);
    };
  }

-- ---- over what holds

module _ (r : Run) (run : IsRun r) (g : Graph) (h : IsHistory r g) where
  present : (c : ℕ) → c ≤ r.cells → (v : ℕ) (x : Version) → HoldsAfter g c v x → x.absent ≡ false → Same (Contains x.names) (r.state x.writer) (r.state c)
  present zero l v x k there =
      let w = h.versions v x k.at in
      let e = w.1 in
      let m = k.written in
      let no : ⊥ = omega (arith, e, m) in
      absurd no
  present (suc c) l v x k there = elim (new_or_old r run g h c (omega (arith, l)) v x k) [
    | inl e ↦ subst (λ n. Same (Contains x.names) (r.state n) (r.state (suc c))) (sym e) (same_itself (r.state (suc c)) (run.closed (suc c)) (Contains x.names))
    | inr old ↦ same_through (Contains x.names) (r.state x.writer) (r.state c) (r.state (suc c)) (present c (omega (arith, l)) v x old there)
        (same_kept r c (spares_of r run c) x.names (still_part r run g h c (omega (arith, l)) (the_parts r run g h c (omega (arith, l))) v x k old there).1)
  ]

  absent : (c : ℕ) → c ≤ r.cells → (v : ℕ) (x : Version) → HoldsAfter g c v x → x.absent ≡ true → Same (Contains x.names) (r.state x.writer) (r.state c)
  absent c l v x k gone =
      let w = h.versions v x k.at in
      let first = left_deleted r run g h v x k.at w.0 w.1 gone in
      let now = (the_parts r run g h c l).are_deleted v x k gone in
      let S : State = r.state x.writer in
      let first_none : HasNone S first.0 = subst (λ n. HasNone (r.state n) first.0) (sym w.1) first.2.1 in
      same_nothing S (r.state c) (Contains x.names)
      (λ y m. subst (HasNone S) (one_in first.0 y (subst (λ ns. Contains ns y) first.1 m)) first_none)
      (λ y m. subst (HasNone (r.state c)) (one_in now.0 y (subst (λ ns. Contains ns y) now.1 m)) now.2)

  pub stands : (c : ℕ) → c ≤ r.cells → StandsAsWritten r g c
  stands c l v x k = elim (cases_Bool x.absent) [ inl gone ↦ absent c l v x k gone | inr there ↦ present c l v x k there ]
