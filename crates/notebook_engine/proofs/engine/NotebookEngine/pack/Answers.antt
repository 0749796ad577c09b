use Rattle.std.proofs.Common.{List, subst}
use Rattle.session_core.specs.Meanings.{Served}
use Rattle.session_core.specs.Engines.{Packs}
use Rattle.notebook_meaning.specs.Notebooks.{notebooks}
use Rattle.notebook_engine.specs.declared.session.Session.{Session}
use Rattle.notebook_engine.specs.Holding.{StandsForAsks}
use Rattle.notebook_engine.proofs.engine.NotebookEngine.pack.Goals as goal

pub returns : goal.returns
returns c = λ served h no_end.
    subst (λ (s : Session). StandsForAsks s served → Packs notebooks served c.args.weights.now c.packed.result) c.self.view_is (c.packed.ensures served) h
