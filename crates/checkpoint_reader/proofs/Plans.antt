-- What was read is a plan of its graph, if no copied version is unlike its part.
use Rattle.std.proofs.Common.{◌≡◌, ℕ, ◌-◌, ◌<◌, ◌≤◌, List, length, Some, None, inl, inr, arith}
use Rattle.std.specs.Prelude.{slice_get}
use Rattle.std.proofs.lemmas.Option.{slice_get_cases}
use Rattle.graph_model.specs.Plans.{NamesOf}
use Rattle.checkpoint_reader.specs.declared.fields.Fields.{Fields}
use Rattle.checkpoint_reader.specs.Judging.{graph_of, plan_of}
use Rattle.checkpoint_reader.specs.Numbered.{AreFields}

stands_at : {X : Type 0} (xs : List X) (m : ℕ) → 0 < m → m ≤ length xs → (x : X) × (slice_get xs (m - 1) ≡ Some x)
stands_at xs m above within = elim (slice_get_cases xs (m - 1)).1 [
  | inl found ↦ (found.0, found.2)
  | inr past ↦ absurd (let l = past.0 in omega (arith, above, within, l))
]

pub names_of : (read : Fields) → AreFields read → read.versions.unlike ≡ None → NamesOf (graph_of read) (plan_of read)
names_of read a u = record {
  copied_ascends = a.versions.copied.ascend;
  rerun_ascends = a.cells.rerun.ascend;
  copied = λ v c. let x = a.versions.active u v c in (x.0, (((a.versions.copied.within v c).0, x.1), x.2));
  rerun = λ m c. let p = a.cells.rerun.within m c in let x = stands_at read.cells.records m p.0 p.1 in (x.0, (p.0, x.1));
}
