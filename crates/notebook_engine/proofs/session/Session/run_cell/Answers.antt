use Rattle.std.proofs.Common.{◌≡◌, ℕ, ◌+◌, ◌<◌, ◌^◌, cond, List, [], ◌∷◌, ◌++◌, sym, ap, ◌∙◌, subst}
use Rattle.nb_outside.specs.declared.feed.Drawn.{Drawn}
use Rattle.py_heap.specs.declared.state.State.{State}
use Rattle.py_heap.specs.References.{IsClosed}
use Rattle.py_machine.specs.declared.marks.Marks.{Marks}
use Rattle.py_meaning.specs.declared.end.CellEnd.{CellEnd}
use Rattle.py_meaning.specs.Cells.{UsesUp, outcome, end, end_state}
use Rattle.py_laws.proofs.Closing.{closed_after}
use Rattle.notebook_engine.proofs.Counted.{cell_counts}
use Rattle.run_graph.specs.RunLists.{ListedCell, raised}
use Rattle.run_graph.specs.Soundness.{statements}
use Rattle.every_history.specs.Reading.{read}
use Rattle.graph_model.specs.declared.plan.Tally.{Tally}
use Rattle.linked_parts.specs.Parts.{ArePartsOf}
use Rattle.history_graph.specs.Touched.{Records}
use Rattle.history_graph.specs.Ends.{Makes}
use Rattle.history_graph.specs.declared.history.History.{History}
use Rattle.history_graph.specs.Tallies.{OnTally, IsOver, IsFirstOver}
use Rattle.part_bytes.specs.Sizing.{size_of}
use Rattle.replay_laws.specs.Sessions.{StandsFor}
use Rattle.restore_run.specs.Usable.{IsUsableSession}
use Rattle.notebook_meaning.specs.Cells.{recorded}
use Rattle.notebook_meaning.specs.Lists.{Fills}
use Rattle.notebook_meaning.proofs.Lists.{codes_more}
use Rattle.notebook_meaning.proofs.Recorded.{is_code}
use Rattle.notebook_engine.proofs.Grown.{may_run, grown}
use Rattle.notebook_engine.proofs.Passing.{one_number, one_draws, fills, all_fit}
use Rattle.notebook_engine.proofs.Answered.{answered}
use Rattle.notebook_engine.proofs.Lasting.{lasts}
use Rattle.notebook_engine.proofs.session.Session.run_cell.Goals as goal

pub end_cell-requires : goal.end_cell-requires
end_cell-requires g c =
    let body = statements (read c.args.code.now) in
    let draws = c.in-Ok.ran.0.draws in
    let before : State = record c.args.self.now.kernel.state { count = c.args.self.now.kernel.state.count + cond c.args.counted 1 0 } in
    let closed = c.requires.usable.valid.closed in
    let ran : c.run_code.new.kernel.state ≡ end_state body before draws = c.in-Ok.ensures.state ∙ ap (λ (s : State). end_state body s draws) c.raise.ensures.state in
    subst IsClosed (sym (c.state-state.ensures ∙ ran)) (closed_after body draws before (record { names = closed.names; objects = closed.objects }))

pub returns-in-Ok-reply_of-clause-ran : goal.returns-in-Ok-reply_of-clause-ran
returns-in-Ok-reply_of-clause-ran g c = λ cells h.
    let code = c.args.code.now in
    let body = statements (read code) in
    let draws = c.in-Ok.ran.0.draws in
    let t : State = c.args.self.now.kernel.state in
    let e : ListedCell = record { code = recorded code; draws = draws; counted = c.args.counted } in
    let s : State = c.state-state.result.now in
    let ran = c.in-Ok.ensures in
    let uses : UsesUp body (raised e t) draws = subst (λ (z : State). UsesUp body z draws) c.raise.ensures.state ran.uses in
    let ended : c.in-Ok.ran.0 ≡ end body (raised e t) draws = ran.end ∙ ap (λ (z : State). end body z draws) c.raise.ensures.state in
    let state : s ≡ end_state body (raised e t) draws = c.state-state.ensures ∙ ran.state ∙ ap (λ (z : State). end_state body z draws) c.raise.ensures.state in
    let counts : (raised e t).count ≡ s.count = sym (ap (λ (z : State). z.count) state ∙ cell_counts body (raised e t) draws) in
    let closed : IsClosed s = subst IsClosed (sym state) (closed_after body draws (raised e t) (record { names = h.session.closed.names; objects = h.session.closed.objects })) in
    let taken : c.in-Ok.ran.0.marks ≡ (outcome body (raised e t) draws).1.marks = ap (λ (z : CellEnd). z.marks) ended in
    let few : s.count < 2 ^ 32 = subst (λ (n : ℕ). n < 2 ^ 32) c.count_in-count.ensures.value c.count_in-count.ensures.small in
    let made = c.in-Ok-end_cell.ensures in
    let none : (which : Tally) → ¬ IsOver c.args.self.now.history s (recorded code) c.in-Ok.ran.0.marks which =
    subst (λ (text : List ℕ). (which : Tally) → ¬ IsOver c.args.self.now.history s text c.in-Ok.ran.0.marks which) c.cut_at.ensures.front (made.fits t h.parts) in
    let makes : Makes s (recorded code) c.meter-meter.result c.in-Ok.ran.0.steps c.in-Ok.ran.0.marks c.args.self.now.history c.end_cell.new.self =
    subst (λ (text : List ℕ). Makes s text c.meter-meter.result c.in-Ok.ran.0.steps c.in-Ok.ran.0.marks c.args.self.now.history c.end_cell.new.self) c.cut_at.ensures.front made.next in
    record {
      may = may_run cells t code c.utf8.code draws c.args.counted c.args.self.now.history.graph h.session uses
          (all_fit cells t code c.utf8.code draws c.args.counted c.args.self.now.history h.session h.parts uses s c.in-Ok.ran.0.marks state taken few none);
      holds = record {
        session = subst (λ (z : State). StandsFor read size_of (cells ++ e ∷ []) c.end_cell.new.self.graph z) c.state-state.ensures
            (grown cells t s code c.utf8.code draws c.args.counted c.args.self.now.history c.end_cell.new.self c.meter-meter.result c.in-Ok.ran.0.steps c.in-Ok.ran.0.marks
            h.session h.parts uses state (c.meter-meter.ensures.value ∙ ap (λ (z : State). z.meter) c.state.ensures) (ap (λ (z : CellEnd). z.steps) ended) taken closed makes);
        parts = subst (λ (z : State). ArePartsOf z c.end_cell.new.self.parts) c.state-state.ensures made.parts;
        few_cells = made.few.0;
        few_versions = made.few.1;
        codes = codes_more cells e h.codes (is_code code c.utf8.code);
      };
      reply_is = c.in-Ok-reply_of.ensures ∙ answered cells c.args.self.now.history.graph t h.session code c.utf8.code draws c.args.counted c.args.silent
          c.count_in-count.result c.in-Ok.ran.1 c.in-Ok.ran.0.printed c.in-Ok.ran.0.result c.in-Ok.ran.0.error
          (c.count_in-count.ensures.value ∙ sym counts) ran.fault (ap (λ (z : CellEnd). z.printed) ended) (ap (λ (z : CellEnd). z.result) ended) (ap (λ (z : CellEnd). z.error) ended);
    }

pub returns-in-Ok-reply_of-clause-usable : goal.returns-in-Ok-reply_of-clause-usable
returns-in-Ok-reply_of-clause-usable g c =
    let code = c.args.code.now in
    let body = statements (read code) in
    let draws = c.in-Ok.ran.0.draws in
    let t : State = c.args.self.now.kernel.state in
    let e : ListedCell = record { code = recorded code; draws = draws; counted = c.args.counted } in
    let s : State = c.state-state.result.now in
    let marks : Marks = c.in-Ok.ran.0.marks in
    let ran = c.in-Ok.ensures in
    let ended : c.in-Ok.ran.0 ≡ end body (raised e t) draws = ran.end ∙ ap (λ (z : State). end body z draws) c.raise.ensures.state in
    let state : s ≡ end_state body (raised e t) draws = c.state-state.ensures ∙ ran.state ∙ ap (λ (z : State). end_state body z draws) c.raise.ensures.state in
    let made = c.in-Ok-end_cell.ensures in
    let recording : Records c.args.self.now.history.graph (recorded code) c.meter-meter.result c.in-Ok.ran.0.steps marks c.end_cell.new.self.graph =
    subst (λ (text : List ℕ). Records c.args.self.now.history.graph text c.meter-meter.result c.in-Ok.ran.0.steps marks c.end_cell.new.self.graph) c.cut_at.ensures.front made.recorded in
    subst (λ (z : State). IsUsableSession z c.end_cell.new.self) c.state-state.ensures
    (lasts t s c.args.self.now.history c.end_cell.new.self code c.utf8.code draws c.args.counted c.meter-meter.result c.in-Ok.ran.0.steps marks c.requires.usable state
    (c.meter-meter.ensures.value ∙ ap (λ (z : State). z.meter) c.state.ensures) (ap (λ (z : CellEnd). z.steps) ended) (ap (λ (z : CellEnd). z.marks) ended) made.stays recording)

pub returns-in-Err-TooMany-clause-passes : goal.returns-in-Err-TooMany-clause-passes
returns-in-Err-TooMany-clause-passes g c = λ which draws same cells h.
    let code = c.args.code.now in
    let body = statements (read code) in
    let drew : List Drawn = c.in-Ok.ran.0.draws in
    let t : State = c.args.self.now.kernel.state in
    let e : ListedCell = record { code = recorded code; draws = drew; counted = c.args.counted } in
    let s : State = c.state-state.result.now in
    let marks : Marks = c.in-Ok.ran.0.marks in
    let ran = c.in-Ok.ensures in
    let uses : UsesUp body (raised e t) drew = subst (λ (z : State). UsesUp body z drew) c.raise.ensures.state ran.uses in
    let ended : c.in-Ok.ran.0 ≡ end body (raised e t) drew = ran.end ∙ ap (λ (z : State). end body z drew) c.raise.ensures.state in
    let state : s ≡ end_state body (raised e t) drew = c.state-state.ensures ∙ ran.state ∙ ap (λ (z : State). end_state body z drew) c.raise.ensures.state in
    let taken : marks ≡ (outcome body (raised e t) drew).1.marks = ap (λ (z : CellEnd). z.marks) ended in
    let few : s.count < 2 ^ 32 = subst (λ (n : ℕ). n < 2 ^ 32) c.count_in-count.ensures.value c.count_in-count.ensures.small in
    let old : History = c.args.self.now.history in
    let number : Tally = c.in-Err-TooMany.which in
    let told : OnTally (λ w. (z : State) → ArePartsOf z old.parts → IsFirstOver old s c.cut_at.result.0.now marks w) c.in-Err-TooMany.field-0 = c.in-Err-TooMany.ensures.too_many in
    let over : IsFirstOver old s c.cut_at.result.0.now marks number =
    subst (λ f. OnTally (λ w. (z : State) → ArePartsOf z old.parts → IsFirstOver old s c.cut_at.result.0.now marks w) f) c.in-Err-TooMany.field-0-is told t h.parts in
    let first : Fills cells e number = fills cells t code c.utf8.code drew c.args.counted old h.session h.parts uses s marks state taken few number
    (subst (λ (text : List ℕ). IsFirstOver old s text marks number) c.cut_at.ensures.front over) in
    let is : number ≡ which = sym c.in-Err-TooMany.which-is ∙ one_number _ which drew draws same in
    subst (λ (d : List Drawn). Fills cells (record { code = recorded code; draws = d; counted = c.args.counted }) which) (one_draws _ which drew draws same)
    (subst (λ (w : Tally). Fills cells e w) is first)
