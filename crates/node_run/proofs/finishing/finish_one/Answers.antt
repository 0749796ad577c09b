use Rattle.std.proofs.Common.{List, sym, subst}
use Rattle.session_core.specs.declared.entry.Entry.{Entry}
use Rattle.session_core.specs.Legal.{IsLegal}
use Rattle.node_run.specs.Journals.{IsJournalOf}
use Rattle.node_run.proofs.Serving.{is_journal}
use Rattle.node_run.proofs.finishing.finish_one.Goals as goal

pub returns : goal.returns
returns g c = λ s is.
    let m = g.E.Engine.meaning in
    let h = c.finish-lease.result.0 in
    let a = c.into_alone-served.ensures.alone in
    let legal = subst (λ n. IsLegal m n h.entries) a.1 (subst (λ (es : List Entry). IsLegal m c.into_alone-served.result.0.hosts es) a.0 c.is_legal.ensures) in
    let journal = is_journal g.F.Feed.seen m g.N.Name.hosts g.N.Name.gives c.args.cell.0 c.args.cell.1 s c.args.session h is c.finish-lease.ensures.finished
    (c.finish-lease.ensures.all c.if-not-all.false) legal c.into_alone-served.ensures.fed in
    (is.kernel, subst (λ (es : List Entry). IsJournalOf m g.N.Name.hosts (g.N.Name.gives s.kernel) s es) (sym a.0) journal)
