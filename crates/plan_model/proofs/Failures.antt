-- Feasibility by its failing items.
use Rattle.std.proofs.Common.{◌≡◌, ℕ, true, inl, inr}
use Rattle.std.specs.Prelude.{Contains}
use Rattle.std.proofs.lemmas.Bool.{false_from_ne_true}
use Rattle.graph_model.specs.declared.graph.CellRecord.{CellRecord}
use Rattle.graph_model.specs.declared.graph.Graph.{Graph}
use Rattle.graph_model.specs.declared.plan.Plan.{Plan}
use Rattle.graph_model.specs.Graphs.{CellAt}
use Rattle.graph_model.specs.Faults.{Never}
use Rattle.graph_model.specs.Plans.{IsFeasible}
use Rattle.graph_model.proofs.Lookups.{of_cell}
use Rattle.plan_model.specs.Failing.{FailsVersion, FailsCell, RerunFails}
use Rattle.plan_model.proofs.Deciding.{decided}

pub rerun_fails_cell : (g : Graph) (p : Plan) (c : ℕ) (x : CellRecord) → CellAt g c x → Contains p.rerun c → RerunFails g p.rerun x → FailsCell g p c
rerun_fails_cell g p c x at r f = (
  x,
  at,
  r,
  elim f [
    | inl l ↦ inl (l.2.0, (x, l.0, l.2.1.0, at, l.1, l.2.1.1, l.2.1.2, l.2.1.3), l.2.2)
    | inr d ↦ inr d
  ],
)

pub cell_fails_rerun : (g : Graph) (p : Plan) (c : ℕ) (x : CellRecord) → CellAt g c x → FailsCell g p c → Contains p.rerun c × RerunFails g p.rerun x
cell_fails_rerun g p c x at f = (
  f.2,
  elim f.3 [
    | inl l ↦
        let o = l.1 in
        let Q : CellRecord → Type 0 = λ y. Contains y.reads o.1 in
        inl (o.1, of_cell Q g c x o.0 at o.3 o.4, (l.0, (o.2, o.5, o.6, o.7), l.2))
    | inr d ↦ let Q : CellRecord → Type 0 = λ y. y.drew ≡ true in inr (of_cell Q g c x f.0 at f.1 d)
  ],
)

pub nothing_fails : (g : Graph) (p : Plan) → Never (FailsVersion g p) → Never (FailsCell g p) → IsFeasible g p
nothing_fails g p v c = record {
  covered = λ n x a. elim (decided p.copied n) [
    | inl h ↦ inl h
    | inr h ↦ elim (decided p.rerun x.writer) [
      | inl i ↦ inr i
      | inr i ↦ absurd (v n (x, a.0, inl (a.1, h, i)))
    ]
  ];
  closed = λ m w r o. elim (decided p.rerun w) [
    | inl h ↦ h
    | inr h ↦ absurd (c m (o.0, o.3, r, inl (w, o, h)))
  ];
  no_handle = λ n x h at. false_from_ne_true x.handle (λ e. v n (x, at, inr (h, e)));
  no_draw = λ m x h at. false_from_ne_true x.drew (λ e. c m (x, at, h, inr e));
}
