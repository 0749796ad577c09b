-- The pairs of the end states are of objects that the names reached, or of new ones.
use Rattle.std.proofs.Common.{◌≡◌, List, inl, inr, arith}
use Rattle.std.specs.Prelude.{Contains}
use Rattle.nb_outside.specs.declared.feed.Drawn.{Drawn}
use Rattle.py_tree.specs.declared.statements.Stmt.{Stmt}
use Rattle.py_heap.specs.declared.state.State.{State}
use Rattle.py_heap.specs.References.{IsClosed}
use Rattle.py_machine.specs.Marked.{IsIn}
use Rattle.py_machine.specs.Runs.{Name}
use Rattle.py_meaning.specs.Cells.{outcome}
use Rattle.py_laws.specs.Same.{Same, SameWithin}
use Rattle.py_laws.specs.Framed.{FramedWithin}
use Rattle.py_laws.proofs.Framing.{framed_by, from_list}
use Rattle.py_laws.proofs.Joining.{reached_only}

pub framed_within : (names : List Name) (body : List Stmt) (draws : List Drawn) (s t : State) → IsClosed s → IsClosed t → Same (Contains names) s t → s.meter ≡ t.meter
    → ((name : Name) → IsIn (outcome body s draws).1.marks.looked name → Contains names name) → FramedWithin names s t (outcome body s draws) (outcome body t draws)
unfolding framed_by
framed_within names body draws s t closed_s closed_t same meters looks =
    let w : SameWithin names s t = reached_only names s t closed_s closed_t same in
    record {
      framed = framed_by names body draws s t w.by w.same meters looks;
      within = λ a b p. elim (from_list (Contains names) body draws s t meters looks w.by w.same a b p) [
        | inl old ↦ inl (w.left a b old, w.right a b old)
        | inr new ↦ inr (omega (arith, new.2), omega (arith, new.3))
      ];
    }
