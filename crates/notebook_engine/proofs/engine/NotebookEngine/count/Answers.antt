use Rattle.std.proofs.Common.{ap, sym, ◌∙◌}
use Rattle.py_heap.specs.declared.state.State.{State}
use Rattle.notebook_engine.specs.declared.session.Session.{Session}
use Rattle.notebook_engine.proofs.engine.NotebookEngine.count.Goals as goal

pub returns : goal.returns
returns c = λ served h.
    let state = c.state.ensures ∙ ap (λ (s : Session). s.kernel.state) c.self.view_is in
    c.count.ensures ∙ (ap (λ (s : State). s.count) state ∙ sym h.1.session.same.count)
