use Rattle.std.proofs.Common.{◌∙◌, ap, Err, Some, [], refl}
use Rattle.nb_outside.proofs.Feeding.{fed_none}
use Rattle.py_machine.specs.Runs.{start}
use Rattle.py_meaning.specs.Meaning.{cell}
use Rattle.py_meaning.specs.declared.end.CellError.TheVariants.{Raised}
use Rattle.py_meaning.proofs.Telling.{failed_rises}
use Rattle.py_kernel.proofs.Ending.{fed_start, end_is, state_is, uses_up}
use Rattle.py_kernel.proofs.cell.run_cell.Goals as goal
use Rattle.py_kernel.proofs.cell.run_cell.Goals.{in-Ok, in-Err-Raised, in-Err-DrawFailed}

pub returns-in_err-machine-clause-taken : goal.returns-in_err-machine-clause-taken
returns-in_err-machine-clause-taken g c = ([], fed_none (g.F.Feed.seen c.args.feed.now))

pub returns-in-Err-OutOfMemory-clause-taken : goal.returns-in-Err-OutOfMemory-clause-taken
returns-in-Err-OutOfMemory-clause-taken g c = (c.cell-outcome.new.machine.drawn, c.cell-outcome.ensures.fed (g.F.Feed.seen c.args.feed.now) (fed_start _ _ _ c.in_ok-machine.ensures))

pub returns-clause-fed : goal.returns-clause-fed
returns-clause-fed g c = c.cell-outcome.ensures.fed (g.F.Feed.seen c.args.feed.now) (fed_start _ _ _ c.in_ok-machine.ensures)

pub returns-clause-taken : goal.returns-clause-taken
returns-clause-taken g c = (c.cell-outcome.new.machine.drawn, c.cell-outcome.ensures.fed (g.F.Feed.seen c.args.feed.now) (fed_start _ _ _ c.in_ok-machine.ensures))

pub returns-clause-end : goal.returns-clause-end
returns-clause-end g c =
    let begins = c.in_ok-machine.ensures ∙ ap start c.replace.ensures.value in
    rw c.into_marks.ensures (elim c.match-outcome.branch [
      | in-Ok w ↦
          let is = w.in-Ok.is in
          let fields = w.result-is in
          end_is c.args.body.now c.args.state.now c.in_ok-machine.machine c.cell-outcome.new.machine c.cell-outcome.result _ _ begins c.cell-outcome.ensures.runs (rw is refl)
          (rw is (ap (λ p. p.0) fields)) (rw is (ap (λ p. p.1) fields))
      | in-Err-Raised w ↦
          let is = w.in-Err-Raised.is ∙ ap (λ z. Err z) w.in-Err-Raised.field-0-is in
          let fields = w.result-is in
          end_is c.args.body.now c.args.state.now c.in_ok-machine.machine c.cell-outcome.new.machine c.cell-outcome.result _ _ begins c.cell-outcome.ensures.runs (rw is refl)
          (rw is (ap (λ p. p.0) fields)) (rw is (ap (λ p. p.1) fields ∙ ap (λ e. Some (Raised e)) w.into_inner.ensures))
      | in-Err-DrawFailed w ↦
          let is = w.in-Err-DrawFailed.is ∙ ap (λ z. Err z) w.in-Err-DrawFailed.field-0-is in
          let fields = w.result-is in
          end_is c.args.body.now c.args.state.now c.in_ok-machine.machine c.cell-outcome.new.machine c.cell-outcome.result _ _ begins c.cell-outcome.ensures.runs (rw is refl)
          (rw is (ap (λ p. p.0) fields)) (rw is (ap (λ p. p.1) fields))
    ])

pub returns-clause-feed_error : goal.returns-clause-feed_error
returns-clause-feed_error g c = λ x. elim c.match-outcome.branch [
  | in-Ok w ↦ let e = ap (λ p. p.1) w.result-is in absurd (let none : ⊥ = cc (e, x) in none)
  | in-Err-Raised w ↦ let e = ap (λ p. p.1) w.result-is in absurd (let none : ⊥ = cc (e, x) in none)
  | in-Err-DrawFailed w ↦
      failed_rises (cell c.args.body.now) _ c.cell-outcome.new.machine c.cell-outcome.result _ _ (w.in-Err-DrawFailed.is ∙ ap (λ z. Err z) w.in-Err-DrawFailed.field-0-is) c.cell-outcome.ensures.runs
      (c.cell-outcome.ensures.fed (g.F.Feed.seen c.args.feed.now) (fed_start _ _ _ c.in_ok-machine.ensures))
]

pub returns-clause-state : goal.returns-clause-state
returns-clause-state g c =
    let begins = c.in_ok-machine.ensures ∙ ap start c.replace.ensures.value in
    elim c.match-outcome.branch [
      | in-Ok w ↦
          let is = w.in-Ok.is in
          state_is c.args.body.now c.args.state.now c.in_ok-machine.machine c.cell-outcome.new.machine c.cell-outcome.result begins c.cell-outcome.ensures.runs (rw is refl)
      | in-Err-Raised w ↦
          let is = w.in-Err-Raised.is ∙ ap (λ z. Err z) w.in-Err-Raised.field-0-is in
          state_is c.args.body.now c.args.state.now c.in_ok-machine.machine c.cell-outcome.new.machine c.cell-outcome.result begins c.cell-outcome.ensures.runs (rw is refl)
      | in-Err-DrawFailed w ↦
          let is = w.in-Err-DrawFailed.is ∙ ap (λ z. Err z) w.in-Err-DrawFailed.field-0-is in
          state_is c.args.body.now c.args.state.now c.in_ok-machine.machine c.cell-outcome.new.machine c.cell-outcome.result begins c.cell-outcome.ensures.runs (rw is refl)
    ]

pub returns-clause-used : goal.returns-clause-used
returns-clause-used g c =
    let begins = c.in_ok-machine.ensures ∙ ap start c.replace.ensures.value in
    elim c.match-outcome.branch [
      | in-Ok w ↦
          let is = w.in-Ok.is in
          uses_up c.args.body.now c.args.state.now c.in_ok-machine.machine c.cell-outcome.new.machine c.cell-outcome.result begins c.cell-outcome.ensures.runs (rw is refl)
      | in-Err-Raised w ↦
          let is = w.in-Err-Raised.is ∙ ap (λ z. Err z) w.in-Err-Raised.field-0-is in
          uses_up c.args.body.now c.args.state.now c.in_ok-machine.machine c.cell-outcome.new.machine c.cell-outcome.result begins c.cell-outcome.ensures.runs (rw is refl)
      | in-Err-DrawFailed w ↦
          let is = w.in-Err-DrawFailed.is ∙ ap (λ z. Err z) w.in-Err-DrawFailed.field-0-is in
          uses_up c.args.body.now c.args.state.now c.in_ok-machine.machine c.cell-outcome.new.machine c.cell-outcome.result begins c.cell-outcome.ensures.runs (rw is refl)
    ]
