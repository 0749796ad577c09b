-- A cell of two runs that does the same in states that are the same: it writes, reads and misses the same, so that it makes
-- the same of a graph.
use Rattle.std.proofs.Common.{◌≡◌, ℕ, suc, ◌<◌, List, sym, ap, ◌∙◌, inl, inr, subst, arith}
use Rattle.std.specs.Prelude.{◌↔◌}
use Rattle.py_heap.specs.declared.state.State.{State}
use Rattle.py_heap.specs.References.{IsClosed}
use Rattle.py_heap.specs.Reaching.{Reach}
use Rattle.py_machine.specs.declared.marks.Marks.{Marks}
use Rattle.py_machine.specs.Marked.{IsIn}
use Rattle.py_machine.specs.Runs.{Name}
use Rattle.py_laws.specs.Same.{Same, Every}
use Rattle.py_laws.proofs.Sameness.{same_turned, same_itself}
use Rattle.graph_model.specs.declared.graph.CellRecord.{CellRecord}
use Rattle.graph_model.specs.declared.graph.Version.{Version}
use Rattle.graph_model.specs.declared.graph.Graph.{Graph}
use Rattle.graph_model.specs.Graphs.{CellAt, VersionAt}
use Rattle.graph_model.proofs.Lookups.{cell_within}
use Rattle.linked_parts.specs.Parts.{HasValue, IsPart}
use Rattle.run_graph.specs.Histories.{Run, Looks, Binds, IsKept, IsWritten, IsDeleted, IsLeft, IsWeighed, IsRead, IsMissed, IsUnwritten, IsRecordWith, IsHistory}
use Rattle.run_graph.specs.Growing.{IsNext}
use Rattle.run_graph.proofs.Weighing.{handles_alike}
use Rattle.replay_laws.proofs.Ending.{no_value_on, value_on, same_over, part_alike}

-- an object that the names reach was changed
abbrev pub HasChanged : State → Marks → List Name → Type 0
HasChanged s marks names = (at : ℕ) × Reach s names at × IsIn marks.changed at

-- the cell after cell c
pub record Alike (r q : Run) (c : ℕ) : Type 0 where
  pub before : Same Every (r.state c) (q.state c)
  pub meter : (r.state c).meter ≡ (q.state c).meter
  pub after : Same Every (r.state (suc c)) (q.state (suc c))
  pub looked : (r.marks (suc c)).looked ≡ (q.marks (suc c)).looked
  pub bound : (r.marks (suc c)).bound ≡ (q.marks (suc c)).bound
  pub drew : (r.marks (suc c)).drew ≡ (q.marks (suc c)).drew
  pub changed : (names : List Name) → HasChanged (r.state (suc c)) (r.marks (suc c)) names → HasChanged (q.state (suc c)) (q.marks (suc c)) names
  pub changed_back : (names : List Name) → HasChanged (q.state (suc c)) (q.marks (suc c)) names → HasChanged (r.state (suc c)) (r.marks (suc c)) names
  pub code : r.code (suc c) ≡ q.code (suc c)
  pub steps : r.steps (suc c) ≡ q.steps (suc c)
  pub sizes : (names : List Name) → r.size (suc c) names ≡ q.size (suc c) names

pub alike_turned : (r q : Run) (c : ℕ) → Alike r q c → Alike q r c
alike_turned r q c a = record {
  before = same_turned Every (r.state c) (q.state c) a.before;
  meter = sym a.meter;
  after = same_turned Every (r.state (suc c)) (q.state (suc c)) a.after;
  looked = sym a.looked;
  bound = sym a.bound;
  drew = sym a.drew;
  changed = a.changed_back;
  changed_back = a.changed;
  code = sym a.code;
  steps = sym a.steps;
  sizes = λ names. sym (a.sizes names);
}

pub changed_equal : (s t : State) (m n : Marks) (names : List Name) → s ≡ t → m ≡ n → HasChanged s m names → HasChanged t n names
changed_equal s t m n names e f w = subst (λ k. HasChanged t k names) f (subst (λ k. HasChanged k m names) e w)

-- a cell that is equal
pub alike_equal : (r q : Run) (c : ℕ) → IsClosed (r.state c) → IsClosed (r.state (suc c)) → r.state c ≡ q.state c → r.state (suc c) ≡ q.state (suc c) → r.marks (suc c) ≡ q.marks (suc c)
    → r.code (suc c) ≡ q.code (suc c) → r.steps (suc c) ≡ q.steps (suc c) → ((names : List Name) → r.size (suc c) names ≡ q.size (suc c) names) → Alike r q c
alike_equal r q c closed closed_after before after marks code steps sizes = record {
  before = subst (Same Every (r.state c)) before (same_itself (r.state c) closed Every);
  meter = ap (λ (s : State). s.meter) before;
  after = subst (Same Every (r.state (suc c))) after (same_itself (r.state (suc c)) closed_after Every);
  looked = ap (λ (m : Marks). m.looked) marks;
  bound = ap (λ (m : Marks). m.bound) marks;
  drew = ap (λ (m : Marks). m.drew) marks;
  changed = λ names. changed_equal (r.state (suc c)) (q.state (suc c)) (r.marks (suc c)) (q.marks (suc c)) names after marks;
  changed_back = λ names. changed_equal (q.state (suc c)) (r.state (suc c)) (q.marks (suc c)) (r.marks (suc c)) names (sym after) (sym marks);
  code = code;
  steps = steps;
  sizes = sizes;
}

-- ---- from one run to the other

module _ (r q : Run) (c : ℕ) (a : Alike r q c) where
  pub binds_on : (x : Name) → Binds r c x → Binds q c x
  binds_on x b = subst (λ s. IsIn s x) a.bound b

  pub binds_back : (x : Name) → Binds q c x → Binds r c x
  binds_back x b = subst (λ s. IsIn s x) (sym a.bound) b

  pub looks_on : (x : Name) → Looks r c x → Looks q c x
  looks_on x l = subst (λ s. IsIn s x) a.looked l

  pub kept_on : (names : List Name) → IsKept r c names → IsKept q c names
  kept_on names k = record {
    names_stay = λ x n b. k.names_stay x n (binds_back x b);
    objects_stay = λ at reach changed. let w = a.changed_back names (at, reach, changed) in k.objects_stay w.0 w.1 w.2;
    before = part_alike (r.state c) (q.state c) a.before names k.before;
  }

  written_on : (names : List Name) → IsWritten r c names → IsWritten q c names
  written_on names (inl w) = inl (w.0, w.1, binds_on w.0 w.2)
  written_on names (inr (inl w)) = inr (inl (a.changed names w))
  written_on names (inr (inr none)) = inr (inr (λ part. none (part_alike (q.state c) (r.state c) (same_turned Every (r.state c) (q.state c) a.before) names part)))

  pub part_after : (names : List Name) → IsPart (r.state (suc c)) names → IsPart (q.state (suc c)) names
  part_after = part_alike (r.state (suc c)) (q.state (suc c)) a.after

  pub value_after : (x : Name) → HasValue (r.state (suc c)) x → HasValue (q.state (suc c)) x
  value_after = value_on (r.state (suc c)) (q.state (suc c)) a.after

  pub deleted_on : (x : Name) → IsDeleted r c x → IsDeleted q c x
  deleted_on x d = (binds_on x d.0, no_value_on (r.state (suc c)) (q.state (suc c)) a.after x d.1)

  pub left_on : (x : Version) → IsLeft r c x → IsLeft q c x
  left_on x (inl w) = inl (w.0, part_after x.names w.1, written_on x.names w.2)
  left_on x (inr w) = inr (w.0, w.1, w.2, deleted_on w.1 w.3)

  pub weighed_on : (x : Version) → IsWeighed r (suc c) x → IsWeighed q (suc c) x
  weighed_on x w =
      let k = handles_alike x.names (r.state (suc c)) (q.state (suc c)) (same_over (r.state (suc c)) (q.state (suc c)) a.after x.names) in
      ((λ e. k.0 (w.0.0 e), λ h. w.0.1 (k.1 h)), w.1 ∙ a.sizes x.names)

  read_on : (g : Graph) (v : ℕ) → IsRead r g c v → IsRead q g c v
  read_on g v (x, holds, name, n, inl l) = (x, holds, name, n, inl (looks_on name l))
  read_on g v (x, holds, name, n, inr b) = (x, holds, name, n, inr (binds_on name b.0, b.1))

pub record_on : (r q : Run) (c : ℕ) → Alike r q c → (MissedHere MissedThere : Name → Type 0) → ((x : Name) → MissedHere x ↔ MissedThere x) → (g : Graph) (x : CellRecord)
    → IsRecordWith MissedHere r g c x → IsRecordWith MissedThere q g c x
record_on r q c a MissedHere MissedThere missed g x h = record {
  code = h.code ∙ a.code;
  meter = h.meter ∙ a.meter;
  steps = h.steps ∙ a.steps;
  drew = h.drew ∙ a.drew;
  reads_ascend = h.reads_ascend;
  reads = λ v. (λ k. read_on r q c a g v ((h.reads v).0 k), λ k. (h.reads v).1 (read_on q r c (alike_turned r q c a) g v k));
  missing_ascends = h.missing_ascends;
  missing = λ name. (λ k. (missed name).0 ((h.missing name).0 k), λ k. (h.missing name).1 ((missed name).1 k));
}

-- ---- what the cell makes of a graph

pub next_on : (r q : Run) (c : ℕ) → Alike r q c → (g k : Graph) → IsNext r c g k → IsNext q c g k
next_on r q c a g k n = record {
  cell = n.cell;
  cells = n.cells;
  is_record = record_on r q c a (IsUnwritten r g c) (IsUnwritten q g c)
      (λ x. (λ w. (looks_on r q c a x w.0, w.1), λ w. (looks_on q r c (alike_turned r q c a) x w.0, w.1))) g n.cell n.is_record;
  olds = n.olds;
  news = n.news;
  versions = n.versions;
  aged = n.aged;
  ascend = n.ascend;
  left = λ x i. let w = n.left x i in (w.0, w.1, left_on r q c a x w.2, weighed_on r q c a x w.3);
  parts = λ x value.
      let w = n.parts x (value_after q r c (alike_turned r q c a) x value) in
      (w.0, w.1, part_after r q c a w.0 w.2, elim w.3 [ inl kept ↦ inl (kept_on r q c a w.0 kept) | inr new ↦ inr new ]);
  deleted = λ x d. n.deleted x (deleted_on q r c (alike_turned r q c a) x d);
}

-- ---- a history

module _ (r q : Run) (cells : r.cells ≡ q.cells) (all : (c : ℕ) → c < r.cells → Alike r q c) (g : Graph) (h : IsHistory r g) where
  missed_on : (c : ℕ) → c < r.cells → (x : Name) → IsMissed r c x ↔ IsMissed q c x
  missed_on c l x = (
    λ w. (looks_on r q c (all c l) x w.0, λ e less b. w.1 e less (binds_back r q e (all e (omega (arith, l, less))) x b)),
    λ w. (looks_on q r c (alike_turned r q c (all c l)) x w.0, λ e less b. w.1 e less (binds_on r q e (all e (omega (arith, l, less))) x b)),
  )

  below : (c : ℕ) (x : CellRecord) → CellAt g (suc c) x → c < r.cells
  below c x at = let w = (cell_within g (suc c) x at).1 in let e = h.cells in omega (arith, w, e)

  there : (c : ℕ) → c < q.cells → c < r.cells
  there c l = omega (arith, l, cells)

  back : (c : ℕ) (l : c < q.cells) → Alike q r c
  back c l = alike_turned r q c (all c (there c l))

  weights_on : (v : ℕ) (x : Version) → VersionAt g v x → IsWeighed q x.writer x
  weights_on v x at =
      let w = h.versions v x at in
      let here : IsWeighed r (suc w.0) x = subst (λ n. IsWeighed r n x) w.1 (h.weights v x at) in
      subst (λ n. IsWeighed q n x) (sym w.1) (weighed_on r q w.0 (all w.0 w.2) x here)

  pub history_on : IsHistory q g
  history_on = record {
    cells = h.cells ∙ cells;
    records = λ c x at. let l = below c x at in record_on r q c (all c l) (IsMissed r c) (IsMissed q c) (missed_on c l) g x (h.records c x at);
    versions = λ v x at. let w = h.versions v x at in let l = w.2 in (w.0, w.1, omega (arith, l, cells), left_on r q w.0 (all w.0 w.2) x w.3);
    order = h.order;
    replaced = h.replaced;
    weights = weights_on;
    parts = λ c x l value.
        let k = there c l in
        let w = h.parts c x k (value_after q r c (back c l) x value) in
        (w.0, w.1, part_after r q c (all c k) w.0 w.2, elim w.3 [ inl kept ↦ inl (kept_on r q c (all c k) w.0 kept) | inr is ↦ inr is ]);
    deleted = λ c x l d. h.deleted c x (there c l) (deleted_on q r c (back c l) x d);
  }
