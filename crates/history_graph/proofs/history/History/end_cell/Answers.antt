use Rattle.std.proofs.Common.{◌≡◌, ℕ, ◌+◌, ◌<◌, ◌^◌, List, Some, None, length, ap, sym, ◌∙◌, subst}
use Rattle.std.specs.Prelude.{Contains}
use Rattle.std.specs.FinMap as finite
use Rattle.std.proofs.lemmas.Result.{err_from_is_err_and}
use Rattle.py_heap.specs.declared.state.State.{State}
use Rattle.graph_model.specs.declared.graph.Graph.{Graph}
use Rattle.graph_model.specs.declared.plan.Tally.{Tally}
use Rattle.linked_parts.specs.Parts.{ArePartsOf}
use Rattle.history_graph.specs.Active.{AreActive}
use Rattle.history_graph.specs.Left.{AreOfLeft}
use Rattle.history_graph.specs.Grown.{IsGrown}
use Rattle.history_graph.specs.Texts.{HasManyTexts}
use Rattle.history_graph.specs.Room.{IsFirstWith}
use Rattle.history_graph.specs.Histories.{HistoryView}
use Rattle.history_graph.specs.Tallies.{OnTally, IsOver, IsFirstOver}
use Rattle.history_graph.specs.Touched.{Records, IsRecordOf}
use Rattle.history_graph.specs.Ends.{Makes, LedTo}
use Rattle.history_graph.specs.Usable.{IsUsableHistory}
use Rattle.history_graph.proofs.Ending.{Ended, is_next}
use Rattle.history_graph.proofs.Leaving.{news_hold}
use Rattle.history_graph.proofs.Judging.{all_fit, first_over, small}
use Rattle.history_graph.proofs.Staying.{stays}
use Rattle.history_graph.proofs.Told.{long_over, room_at, few_news, few_then}
use Rattle.history_graph.proofs.history.History.end_cell.Goals as goal

-- what contracts see of the history before the cell are the fields that were opened: c.self.view_is

pub returns-in-Some-clause-too_many : goal.returns-in-Some-clause-too_many
returns-in-Some-clause-too_many c = subst (λ (old : HistoryView). (u : State) → ArePartsOf u old.parts → IsFirstOver old c.args.state.now c.args.code.now c.args.marks.now c.in-Some.tally) c.self.view_is (λ u before.
    let h : HistoryView = record { graph = c.self.inside.graph; parts = c.self.inside.parts } in
    let s = c.args.state.now in
    let heads = c.in_ok-heads.heads in
    first_over h s c.args.code.now c.args.marks.now c.in_ok-parts.parts c.in_ok-parts.ensures heads (c.in_ok-heads.ensures.heads u before) c.in-Some.tally
    (room_at (length h.graph.cells) (length h.graph.versions) c.len.result (length (finite.keys s.globals)) (length (finite.keys heads)) (HasManyTexts h.graph s c.args.code.now) c.in_ok-tally.field-0 (Some c.in-Some.tally)
    (c.len.ensures ∙ ap (λ (ns : List (List ℕ)). length ns) c.in_ok-names.ensures) c.in-Some.is c.in_ok-tally.ensures))

pub returns-in_err-news-clause-too_many : goal.returns-in_err-news-clause-too_many
returns-in_err-news-clause-too_many c =
    let h : HistoryView = record { graph = c.self.inside.graph; parts = c.self.inside.parts } in
    let s = c.args.state.now in
    let heads = c.in_ok-heads.heads in
    let room : IsFirstWith (length h.graph.cells) (length h.graph.versions) (length (finite.keys heads)) (length (finite.keys s.globals)) (HasManyTexts h.graph s c.args.code.now) None =
    room_at (length h.graph.cells) (length h.graph.versions) c.len.result (length (finite.keys s.globals)) (length (finite.keys heads)) (HasManyTexts h.graph s c.args.code.now) c.in_ok-tally.field-0 None
    (c.len.ensures ∙ ap (λ (ns : List (List ℕ)). length ns) c.in_ok-names.ensures) c.in_default.is c.in_ok-tally.ensures in
    let p = err_from_is_err_and c.from_residual-in_err-news.result c.from_residual-in_err-news.ensures.1 in
    let told = long_over h s c.args.code.now c.args.marks.now c.in_ok-parts.parts c.in_ok-parts.ensures heads c.in_ok-heads.ensures.heads room c.in_err-news.field-0.0 c.in_err-news.ensures.err in
    rw (p.1, p.2)
    (subst (λ (old : HistoryView). OnTally (λ t. (u : State) → ArePartsOf u old.parts → IsFirstOver old s c.args.code.now c.args.marks.now t) c.in_err-news.field-0.0) c.self.view_is told)

pub record_of-requires : goal.record_of-requires
record_of-requires c =
    subst (λ (g : Graph). AreActive g c.as_slice.result.now) (sym (c.graph-graph.ensures ∙ c.take_active.ensures.same))
    (subst (λ (ns : List ℕ). AreActive c.self.inside.graph ns) (sym c.as_slice.ensures) c.in_ok-active.ensures.active)

pub grow-requires-clause-active : goal.grow-requires-clause-active
grow-requires-clause-active c = subst (λ (g : Graph). AreActive g c.in_ok-active.active) (sym c.take_active.ensures.same) c.in_ok-active.ensures.active

pub grow-requires-clause-news : goal.grow-requires-clause-news
grow-requires-clause-news c =
    news_hold c.args.state.now c.in_ok-parts.parts (c.len-2.result + 1) c.in_ok-heads.heads c.as_slice-2.result.now c.in_ok-news.news c.in_ok-news.ensures.ok

pub grow-requires-clause-few : goal.grow-requires-clause-few
grow-requires-clause-few c =
    let h : HistoryView = record { graph = c.self.inside.graph; parts = c.self.inside.parts } in
    let s = c.args.state.now in
    let heads = c.in_ok-heads.heads in
    let keys : c.as_slice-2.result.now ≡ finite.keys heads = c.as_slice-2.ensures ∙ c.in_ok-names.ensures in
    let room : IsFirstWith (length h.graph.cells) (length h.graph.versions) (length (finite.keys heads)) (length (finite.keys s.globals)) (HasManyTexts h.graph s c.args.code.now) None =
    room_at (length h.graph.cells) (length h.graph.versions) c.len.result (length (finite.keys s.globals)) (length (finite.keys heads)) (HasManyTexts h.graph s c.args.code.now) c.in_ok-tally.field-0 None
    (c.len.ensures ∙ ap (λ (ns : List (List ℕ)). length ns) c.in_ok-names.ensures) c.in_default.is c.in_ok-tally.ensures in
    subst (λ (g : Graph). length g.versions + length c.in_ok-news.news < 2 ^ 32) (sym c.take_active.ensures.same)
    (few_news s c.in_ok-parts.parts (c.len-2.result + 1) (length h.graph.cells) (length h.graph.versions) (length (finite.keys s.globals)) heads c.in_ok-news.news room.0
    (subst (λ (ns : List (List ℕ)). AreOfLeft s c.in_ok-parts.parts (c.len-2.result + 1) heads ns c.in_ok-news.news) keys c.in_ok-news.ensures.ok))

pub returns-clause-next : goal.returns-clause-next
returns-clause-next c =
    let h : HistoryView = record { graph = c.self.inside.graph; parts = c.self.inside.parts } in
    let s = c.args.state.now in
    let heads = c.in_ok-heads.heads in
    let graph : c.graph-graph.result.now ≡ h.graph = c.graph-graph.ensures ∙ c.take_active.ensures.same in
    let cells : c.len-2.result + 1 ≡ length h.graph.cells + 1 = ap (λ m. m + 1) (c.len-2.ensures ∙ ap (λ (g : Graph). length g.cells) graph) in
    let keys : c.as_slice-2.result.now ≡ finite.keys heads = c.as_slice-2.ensures ∙ c.in_ok-names.ensures in
    let ended : Ended h s c.args.code.now c.args.meter c.args.steps c.args.marks.now c.grow.new.self = record {
      now = c.in_ok-parts.parts;
      are = c.in_ok-parts.ensures;
      heads = heads;
      left = c.in_ok-heads.ensures.heads;
      cell = c.in_ok-cell.cell;
      recorded = subst (λ (g : Graph). IsRecordOf g c.args.code.now c.args.meter c.args.steps c.args.marks.now c.in_ok-cell.cell) graph c.in_ok-cell.ensures;
      news = c.in_ok-news.news;
      made = subst (λ (m : ℕ). AreOfLeft s c.in_ok-parts.parts m heads (finite.keys heads) c.in_ok-news.news) cells
          (subst (λ (ns : List (List ℕ)). AreOfLeft s c.in_ok-parts.parts (c.len-2.result + 1) heads ns c.in_ok-news.news) keys c.in_ok-news.ensures.ok);
      grown = subst (λ (g : Graph). IsGrown (length h.graph.cells + 1) c.in_ok-cell.cell c.in_ok-news.news g c.grow.new.self) c.take_active.ensures.same
          (subst (λ (m : ℕ). IsGrown m c.in_ok-cell.cell c.in_ok-news.news c.take_active.new.self c.grow.new.self) cells c.in_ok-grow.ensures.ok);
    } in
    subst (λ (old : HistoryView). Makes s c.args.code.now c.args.meter c.args.steps c.args.marks.now old (record { graph = c.grow.new.self; parts = c.in_ok-parts.parts })) c.self.view_is
    (λ r n is stands. is_next r n h s c.args.code.now c.args.meter c.args.steps c.args.marks.now c.grow.new.self ended is stands)

pub returns-clause-recorded : goal.returns-clause-recorded
returns-clause-recorded c =
    let h : HistoryView = record { graph = c.self.inside.graph; parts = c.self.inside.parts } in
    let graph : c.graph-graph.result.now ≡ h.graph = c.graph-graph.ensures ∙ c.take_active.ensures.same in
    let grown : IsGrown (c.len-2.result + 1) c.in_ok-cell.cell c.in_ok-news.news h.graph c.grow.new.self =
    subst (λ (g : Graph). IsGrown (c.len-2.result + 1) c.in_ok-cell.cell c.in_ok-news.news g c.grow.new.self) c.take_active.ensures.same c.in_ok-grow.ensures.ok in
    subst (λ (old : HistoryView). Records old.graph c.args.code.now c.args.meter c.args.steps c.args.marks.now c.grow.new.self) c.self.view_is
    (c.in_ok-cell.cell, grown.cells, subst (λ (g : Graph). IsRecordOf g c.args.code.now c.args.meter c.args.steps c.args.marks.now c.in_ok-cell.cell) graph c.in_ok-cell.ensures)

pub returns-clause-fits : goal.returns-clause-fits
returns-clause-fits c = subst (λ (old : HistoryView). (u : State) → ArePartsOf u old.parts → (t : Tally) → ¬ IsOver old c.args.state.now c.args.code.now c.args.marks.now t) c.self.view_is (λ u before.
    let h : HistoryView = record { graph = c.self.inside.graph; parts = c.self.inside.parts } in
    let s = c.args.state.now in
    let marks = c.args.marks.now in
    let now = c.in_ok-parts.parts in
    let heads = c.in_ok-heads.heads in
    let left = c.in_ok-heads.ensures.heads u before in
    let keys : c.as_slice-2.result.now ≡ finite.keys heads = c.as_slice-2.ensures ∙ c.in_ok-names.ensures in
    let room : IsFirstWith (length h.graph.cells) (length h.graph.versions) (length (finite.keys heads)) (length (finite.keys s.globals)) (HasManyTexts h.graph s c.args.code.now) None =
    room_at (length h.graph.cells) (length h.graph.versions) c.len.result (length (finite.keys s.globals)) (length (finite.keys heads)) (HasManyTexts h.graph s c.args.code.now) c.in_ok-tally.field-0 None
    (c.len.ensures ∙ ap (λ (ns : List (List ℕ)). length ns) c.in_ok-names.ensures) c.in_default.is c.in_ok-tally.ensures in
    all_fit h s c.args.code.now marks now c.in_ok-parts.ensures heads left room
    (small h s c.args.code.now marks now c.in_ok-parts.ensures heads left (c.len-2.result + 1) c.in_ok-news.news
    (subst (λ (ns : List (List ℕ)). AreOfLeft s now (c.len-2.result + 1) heads ns c.in_ok-news.news) keys c.in_ok-news.ensures.ok)))

pub returns-clause-few : goal.returns-clause-few
returns-clause-few c =
    let h : HistoryView = record { graph = c.self.inside.graph; parts = c.self.inside.parts } in
    let s = c.args.state.now in
    let heads = c.in_ok-heads.heads in
    let keys : c.as_slice-2.result.now ≡ finite.keys heads = c.as_slice-2.ensures ∙ c.in_ok-names.ensures in
    let room : IsFirstWith (length h.graph.cells) (length h.graph.versions) (length (finite.keys heads)) (length (finite.keys s.globals)) (HasManyTexts h.graph s c.args.code.now) None =
    room_at (length h.graph.cells) (length h.graph.versions) c.len.result (length (finite.keys s.globals)) (length (finite.keys heads)) (HasManyTexts h.graph s c.args.code.now) c.in_ok-tally.field-0 None
    (c.len.ensures ∙ ap (λ (ns : List (List ℕ)). length ns) c.in_ok-names.ensures) c.in_default.is c.in_ok-tally.ensures in
    few_then s c.in_ok-parts.parts (c.len-2.result + 1) (length (finite.keys s.globals)) heads c.in_ok-cell.cell c.in_ok-news.news h.graph c.grow.new.self room.0
    (subst (λ (ns : List (List ℕ)). AreOfLeft s c.in_ok-parts.parts (c.len-2.result + 1) heads ns c.in_ok-news.news) keys c.in_ok-news.ensures.ok)
    (subst (λ (g : Graph). IsGrown (c.len-2.result + 1) c.in_ok-cell.cell c.in_ok-news.news g c.grow.new.self) c.take_active.ensures.same c.in_ok-grow.ensures.ok)

pub returns-clause-stays : goal.returns-clause-stays
returns-clause-stays c = λ before usable led.
    let few = returns-clause-few c in
    record {
      tells = stays c.args.self.now before c.args.state.now c.args.code.now c.args.meter c.args.steps c.args.marks.now usable.parts usable.tells led c.requires c.grow.new.self (returns-clause-next c) few.0 few.1;
      parts = c.in_ok-parts.ensures;
    }
