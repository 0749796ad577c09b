-- At the end of the walk every name is as in the run, and so the active versions are the parts.
use Rattle.std.proofs.Common.{◌≡◌, ℕ, true, List, Option, Some, None, refl, sym, ◌∙◌, inl, inr, subst, arith}
use Rattle.std.specs.Prelude.{Contains, ◌↔◌}
use Rattle.std.proofs.lemmas.Option.{none-some}
use Rattle.py_value.specs.declared.value.Value.{Value}
use Rattle.py_heap.specs.declared.state.State.{State}
use Rattle.py_heap.specs.References.{IsClosed}
use Rattle.py_machine.specs.Runs.{Name}
use Rattle.py_laws.specs.Same.{HasPair, ValuesMatch, BothOrNone, Same, Every}
use Rattle.py_laws.proofs.Partners.{one_in, reach_partner}
use Rattle.py_laws.proofs.Sameness.{same_turned, same_through}
use Rattle.graph_model.specs.declared.graph.Version.{Version}
use Rattle.graph_model.specs.declared.graph.Graph.{Graph}
use Rattle.graph_model.specs.declared.plan.Plan.{Plan}
use Rattle.graph_model.specs.Graphs.{IsActive}
use Rattle.graph_model.specs.Plans.{IsFeasible}
use Rattle.linked_parts.specs.Parts.{HasValue, HasNone, Reaches, Linked, itself, shared, back, on, IsPart}
use Rattle.run_graph.specs.Parts.{HasHandle}
use Rattle.run_graph.specs.Histories.{Run, HoldsAfter, IsHistory}
use Rattle.run_graph.specs.Soundness.{IsRun, AreTheParts}
use Rattle.run_graph.proofs.Reached.{has_value}
use Rattle.run_graph.proofs.Holding.{writer_within, the_parts}
use Rattle.run_graph.proofs.Standing.{stands}
use Rattle.run_graph.proofs.Weighing.{handles_alike}
use Rattle.run_graph.proofs.Checking.{value_bound}
use Rattle.replay_laws.specs.Standing.{IsGivenBack, IsGood}
use Rattle.replay_laws.specs.Restored.{with_tallies, HasVersions, TellsAlike, IsRestored}
use Rattle.replay_laws.proofs.Times.{held_of, held_apart}
use Rattle.replay_laws.proofs.Joining.{same_everywhere}

-- ---- what states that are the same have in common

none_on : (M : Value → Value → Type 0) (o u : Option Value) → BothOrNone M o u → o ≡ None → u ≡ None
none_on M o None h e = refl
none_on M None (Some w) h e = absurd h
none_on M (Some v) (Some w) h e = absurd (none-some v (sym e))

none_back : (M : Value → Value → Type 0) (o u : Option Value) → BothOrNone M o u → u ≡ None → o ≡ None
none_back M None u h e = refl
none_back M (Some v) None h e = absurd h
none_back M (Some v) (Some w) h e = absurd (none-some w (sym e))

module _ (s t : State) (h : Same Every s t) where
  pub no_value_on : (x : Name) → HasNone s x → HasNone t x
  no_value_on x none = none_on (ValuesMatch (HasPair h.by)) _ _ (h.same.names x tt) none

  pub no_value_back : (x : Name) → HasNone t x → HasNone s x
  no_value_back x none = none_back (ValuesMatch (HasPair h.by)) _ _ (h.same.names x tt) none

  pub value_on : (x : Name) → HasValue s x → HasValue t x
  value_on x v = elim (has_value t x) [ inl w ↦ w | inr none ↦ absurd (none-some v.0 (sym (no_value_back x none) ∙ v.1)) ]

  pub linked_alike : (x y : Name) → Linked s x y → Linked t x y
  linked_alike _ _ (itself x v) = itself x (value_on x v)
  linked_alike _ _ (shared x y at p q) =
      let a = reach_partner (HasPair h.by) Every s t h.same x tt at p in
      let b = reach_partner (HasPair h.by) Every s t h.same y tt at q in
      shared x y a.0 a.2 (subst (Reaches t y) (h.same.pairs.left at b.0 a.0 b.1 a.1) b.2)
  linked_alike _ _ (back x y l) = back x y (linked_alike x y l)
  linked_alike _ _ (on x y z l m) = on x y z (linked_alike x y l) (linked_alike y z m)

  pub same_over : (names : List Name) → Same (Contains names) s t
  same_over names = record { by = h.by; same = record { pairs = h.same.pairs; names = λ x n. h.same.names x tt; objects = h.same.objects } }

pub part_alike : (s t : State) → Same Every s t → (names : List Name) → IsPart s names → IsPart t names
part_alike s t h names part = record {
  ascends = part.ascends;
  some = part.some;
  linked = λ x y n. (λ m. linked_alike s t h x y ((part.linked x y n).0 m), λ l. (part.linked x y n).1 (linked_alike t s (same_turned Every s t h) x y l));
}

-- the count and the meter don't matter
pub without_tallies : (s t : State) → Same Every s (with_tallies s t) → Same Every s t
without_tallies s t h = record { by = h.by; same = record { pairs = h.same.pairs; names = h.same.names; objects = h.same.objects } }

-- ---- the end

module _ (r : Run) (run : IsRun r) (g : Graph) (h : IsHistory r g) where
  abbrev Last : State
  Last = r.state r.cells

  abbrev the_last : AreTheParts r g r.cells
  the_last = the_parts r run g h r.cells (omega arith)

  pub holds : (v : ℕ) (x : Version) → IsActive g v x → HoldsAfter g r.cells v x
  holds v x active = record { at = active.0; written = (writer_within r run g h v x active.0).1; stands = inl active.1 }

  pub active : (v : ℕ) (x : Version) → HoldsAfter g r.cells v x → IsActive g v x
  active v x k = (
    k.at,
    elim (h.replaced v x k.at) [
      | inl a ↦ a.0
      | inr f ↦
          let l = (writer_within r run g h f.0.1 f.0.2 f.0.4).1 in
          let e = f.0.5 in
          elim k.stands [ inl z ↦ z | inr more ↦ let none : ⊥ = omega (arith, l, e, more) in absurd none ]
    ],
  )

  module _ (t : State) (same : Same Every Last t) where
    same_written : (v : ℕ) (x : Version) → IsActive g v x → Same (Contains x.names) (r.state x.writer) t
    same_written v x a = same_through (Contains x.names) (r.state x.writer) Last t (stands r run g h r.cells (omega arith) v x (holds v x a)) (same_over Last t same x.names)

    handle_alike : (v : ℕ) (x : Version) → IsActive g v x → (x.handle ≡ true) ↔ HasHandle t x.names
    handle_alike v x a =
        let w = (h.weights v x a.0).0 in
        let k = handles_alike x.names (r.state x.writer) t (same_written v x a) in
        (λ e. k.0 (w.0 e), λ q. w.1 (k.1 q))

    pub has_versions : HasVersions g t
    has_versions = record {
      are_parts = λ v x a there. part_alike Last t same x.names (the_last.are_parts v x (holds v x a) there);
      all_parts = λ name value.
          let w = the_last.all_parts name (value_on t Last (same_turned Every Last t same) name value) in
          (w.0, w.1, active w.0 w.1 w.2, w.3, w.4);
      handles = handle_alike;
      are_absent = λ v x a gone name p.
          let d = the_last.are_deleted v x (holds v x a) gone in
          no_value_on Last t same name (subst (HasNone Last) (one_in d.0 name (subst (λ ns. Contains ns name) d.1 p)) d.2);
    }

    pub has_sizes : (size : List Name → State → ℕ) → TellsAlike size → IsClosed t → ((c : ℕ) (names : List Name) → r.size c names ≡ size names (r.state c)) → (v : ℕ) (x : Version) → IsActive g v x → x.size ≡ size x.names t
    has_sizes size tells closed is v x a = (h.weights v x a.0).1 ∙ (is x.writer x.names ∙ tells x.names (r.state x.writer) t (run.closed x.writer) closed (same_written v x a))

  module _ (p : Plan) (feasible : IsFeasible g p) (t : State) (good : IsGood r g r.cells (IsGivenBack p) t) where
    -- a name of no active version was bound by no cell
    unheld : (z : Name) → ((v : ℕ) (x : Version) → IsActive g v x → ¬ Contains x.names z) → HasNone Last z × HasNone t z
    unheld z out = (
      elim (has_value Last z) [
        | inr none ↦ none
        | inl value ↦
            let b = value_bound r run r.cells z value in
            let w = held_of r run g h r.cells (omega arith) z b.0 b.1 b.2 in
            absurd (out w.0 w.1 (active w.0 w.1 w.2) w.3)
      ],
      good.never z (λ e less b. let w = held_of r run g h r.cells (omega arith) z e less b in out w.0 w.1 (active w.0 w.1 w.2) w.3),
    )

    end_same : Same Every Last t
    end_same =
        same_everywhere g Last t (run.closed r.cells) good.closed
        (λ v x a. (good.stands v x (holds v x a) (feasible.covered v x a)).0)
        (λ v x a. held_apart r run g h r.cells (omega arith) v x (holds v x a))
        (λ v x a. (good.stands v x (holds v x a) (feasible.covered v x a)).1)
        (λ u v x y name a b m n. the_last.disjoint u v x y name (holds u x a) (holds v y b) m n)
        unheld

    pub restored : IsRestored g Last t
    restored = record {
      closed = good.closed;
      same = record {
        names = record { by = end_same.by; same = record { pairs = end_same.same.pairs; names = end_same.same.names; objects = end_same.same.objects } };
        count = refl;
        meter = refl;
      };
      none = λ name. (no_value_on Last t end_same name, no_value_back Last t end_same name);
      versions = has_versions t end_same;
    }
