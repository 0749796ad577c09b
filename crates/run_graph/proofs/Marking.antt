-- What a cell leaves, by its marks: the frame law over the names that it looked up, of the state against itself.
use Rattle.std.proofs.Common.{ℕ, ◌≤◌, List, length, refl, sym, ◌∙◌, ◌⊎◌, inl, inr}
use Rattle.std.specs.Prelude.{Contains}
use Rattle.std.specs.Ordering.{nat_cmp}
use Rattle.std.specs.Cmp.{eq_by_cmp_equiv}
use Rattle.std.specs.Cmp.Lexicographic.{slice_cmp, nat_list_cmp_total}
use Rattle.std.specs.FinMap as finite
use Rattle.std.proofs.lemmas.Map.Views.{Contains-from_any, list_any-from_Contains}
use Rattle.nb_outside.specs.declared.feed.Drawn.{Drawn}
use Rattle.py_tree.specs.declared.statements.Stmt.{Stmt}
use Rattle.py_heap.specs.declared.state.State.{State}
use Rattle.py_heap.specs.References.{IsClosed}
use Rattle.py_heap.specs.Reaching.{Reach}
use Rattle.py_machine.specs.declared.machine.Machine.{Machine}
use Rattle.py_machine.specs.Marked.{SetOf, IsIn}
use Rattle.py_machine.specs.Runs.{Name}
use Rattle.py_meaning.specs.Cells.{outcome, end_state}
use Rattle.py_laws.specs.Framed.{Spares}
use Rattle.py_laws.proofs.Sameness.{same_itself}
use Rattle.py_laws.proofs.Framing.{framed}
use Rattle.linked_parts.specs.After.{WasLooked, IsAfter}
use Rattle.linked_parts.proofs.Names.{same_name}
use Rattle.run_graph.proofs.Reached.{reach_from_one}

-- ---- a set of names as a list

abbrev members : SetOf (slice_cmp nat_cmp) → List Name
members names = finite.keys names

to_members : (names : SetOf (slice_cmp nat_cmp)) (x : Name) → IsIn names x → Contains (members names) x
to_members names x i = Contains-from_any same_name x (members names) (sym (finite.contains_key-keys names x) ∙ i.is)

from_members : (names : SetOf (slice_cmp nat_cmp)) (x : Name) → Contains (members names) x → IsIn names x
from_members names x h = record {
  is = finite.contains_key-keys names x ∙ list_any-from_Contains (eq_by_cmp_equiv nat_list_cmp_total) x (members names) h;
}

-- ---- what lies outside of what these names reach is spared

module _ (s : State) (m : Machine) (l : Spares (members m.marks.looked) s m) where
  was_looked : (at : ℕ) → Reach s (members m.marks.looked) at ⊎ (length s.heap ≤ at) → WasLooked s m.marks at
  was_looked at (inl r) = let w = reach_from_one s (members m.marks.looked) at r in inl (w.0, from_members m.marks.looked w.0 w.1, w.2)
  was_looked at (inr new) = inr new

  after_by : IsAfter s m.marks m.state
  after_by = record {
    values = λ name free. l.values name free;
    objects = λ at old free. l.objects at old free;
    changed = λ at i. was_looked at (l.reached at i);
    fenced = λ name n at r. elim n [
      | inl i ↦ was_looked at (l.fenced name (inl (to_members m.marks.looked name i)) at r)
      | inr b ↦ was_looked at (l.fenced name (inr b) at r)
    ];
  }

pub is_after : (body : List Stmt) (s : State) (draws : List Drawn) → IsClosed s → IsAfter s (outcome body s draws).1.marks (end_state body s draws)
is_after body s draws closed = after_by s (outcome body s draws).1
    (framed (members (outcome body s draws).1.marks.looked) body draws s s (same_itself s closed (Contains (members (outcome body s draws).1.marks.looked))) refl
    (to_members (outcome body s draws).1.marks.looked)).left
