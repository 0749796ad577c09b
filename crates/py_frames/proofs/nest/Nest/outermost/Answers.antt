use Rattle.std.proofs.Common.{slice_get, ap, ◌∙◌}
use Rattle.py_frames.proofs.Nested.{first_outermost}
use Rattle.py_frames.proofs.nest.Nest.outermost.Goals as goal

pub returns : goal.returns
returns g c =
    let items = c.self.inside.outermost_first.items in
    rw (← c.self.view_is) (c.first.ensures.value ∙ ap (λ xs. slice_get xs 0) c.deref.ensures.value ∙ first_outermost items)
