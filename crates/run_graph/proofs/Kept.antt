-- Parts: apart from each other, alike if they meet, and kept by a cell.
use Rattle.std.proofs.Common.{◌≡◌, ℕ, suc, List, sym, ◌∙◌, inl, inr}
use Rattle.std.specs.Prelude.{Contains, slice_get}
use Rattle.std.specs.FinMap as finite
use Rattle.py_heap.specs.declared.state.State.{State}
use Rattle.py_heap.specs.Reaching.{Reach}
use Rattle.py_machine.specs.Runs.{Name}
use Rattle.py_laws.proofs.Reached.{reach_more, reached_live}
use Rattle.linked_parts.specs.Parts.{HasValue, shared, IsPart, Apart}
use Rattle.linked_parts.proofs.Names.{linked_values}
use Rattle.run_graph.specs.Histories.{Run, IsKept, IsWritten}
use Rattle.run_graph.specs.Soundness.{IsRun, Spares}
use Rattle.run_graph.proofs.Reached.{reach_from_one, reach_forth}

-- ---- a name in a part has a value

pub in_part_value : (s : State) (names : List Name) → IsPart s names → (x : Name) → Contains names x → HasValue s x
in_part_value s names p x c = (linked_values s x x ((p.linked x x c).0 c)).0

-- ---- two parts with a common name have the same names

pub same_part : (s : State) (ps qs : List Name) → IsPart s ps → IsPart s qs → (x : Name) → Contains ps x → Contains qs x → (y : Name) → Contains ps y → Contains qs y
same_part s ps qs p q x c d y e = (q.linked x y d).1 ((p.linked x y c).0 e)

-- what has the names of a part is one
pub part_again : (s t : State) (ps qs : List Name) → IsPart s ps → IsPart t qs → ((x : Name) → Contains ps x → Contains qs x) → ((x : Name) → Contains qs x → Contains ps x) → IsPart t ps
part_again s t ps qs p q to from = record {
  ascends = p.ascends;
  some = p.some;
  linked = λ x y c. (λ d. (q.linked x y (to x c)).0 (to y d), λ l. from y ((q.linked x y (to x c)).1 l));
}

-- a part is apart
pub part_apart : (s : State) (names : List Name) → IsPart s names → Apart s names
part_apart s names p at r x out rx =
    let w = reach_from_one s names at r in
    out ((p.linked w.0 x w.1).1 (shared w.0 x at w.2 rx))

-- ---- a part that a cell kept

pub spares_of : (r : Run) → IsRun r → (c : ℕ) → Spares r c
spares_of r run c = record { closed = run.closed c; values = run.values c; objects = run.objects c }

module _ (r : Run) (c : ℕ) (spares : Spares r c) (names : List Name) (k : IsKept r c names) where
  pub kept_value : (x : Name) → Contains names x → finite.get (r.state (suc c)).globals x ≡ finite.get (r.state c).globals x
  kept_value x h = spares.values x (k.names_stay x h)

  pub kept_object : (at : ℕ) → Reach (r.state c) names at → Reach (r.state (suc c)) names at → slice_get (r.state (suc c)).heap at ≡ slice_get (r.state c).heap at
  kept_object at before after = spares.objects at (reached_live (r.state c) spares.closed names at before) (k.objects_stay at after)

  pub kept_forth : (at : ℕ) → Reach (r.state c) names at → Reach (r.state (suc c)) names at
  kept_forth = reach_forth (r.state c) (r.state (suc c)) names kept_value kept_object

  pub value_before : (x : Name) → Contains names x → HasValue (r.state (suc c)) x → HasValue (r.state c) x
  value_before x h v = (v.0, sym (kept_value x h) ∙ v.1)

-- ---- kept isn't written

pub kept_not_written : (r : Run) (c : ℕ) (ps qs : List Name) → IsKept r c ps → IsPart (r.state (suc c)) ps → IsPart (r.state (suc c)) qs → (x : Name) → Contains ps x → Contains qs x → ¬ IsWritten r c qs
kept_not_written r c ps qs k p q x c_p c_q (inl h) = k.names_stay h.0 (same_part _ qs ps q p x c_q c_p h.0 h.1) h.2
kept_not_written r c ps qs k p q x c_p c_q (inr (inl h)) = k.objects_stay h.0 (reach_more _ qs ps (same_part _ qs ps q p x c_q c_p) h.0 h.1) h.2
kept_not_written r c ps qs k p q x c_p c_q (inr (inr h)) =
    h (part_again (r.state (suc c)) (r.state c) qs ps q k.before (same_part _ qs ps q p x c_q c_p) (same_part _ ps qs p q x c_p c_q))
