use Rattle.std.proofs.Common.{◌≡◌, ◌++◌, ◌∷◌, [], inl, sym, ap, ◌∙◌, subst}
use Rattle.session_core.specs.declared.entry.Entry.TheVariants.{Sealed, Moved, Adopted}
use Rattle.session_core.specs.Legal.{progress_of}
use Rattle.session_core.specs.Meanings.{IsPacked}
use Rattle.session_core.proofs.steps.go.Goals as goal

pub returns-in-Ok : goal.returns-in-Ok
returns-in-Ok g c =
    let es = c.args.journal.now.entries in
    let made = c.in-Ok.ensures.stands (progress_of es).served c.args.packed.certified.plan
    (subst (IsPacked g.E.Engine.meaning (progress_of es).served c.args.packed.certified.plan) (sym c.as_slice.ensures) c.requires.packed) in
    let all = c.push-in-Ok.ensures.entries ∙ ap (λ z. z ++ Adopted c.settled_owner-host.result c.args.to c.args.requests.1 c.args.packed.certified c.in-Ok.objects ∷ [])
    (c.push-2.ensures.entries ∙ ap (λ z. z ++ Moved c.args.to ∷ []) c.push.ensures.entries) in
    inl (
      c.in-Ok.objects,
      made.1,
      (made.0, c.in-Ok.ensures.host),
      subst (λ h. c.push-in-Ok.new.self.entries ≡ ((es ++ Sealed h c.args.requests.0 c.args.to ∷ []) ++ Moved c.args.to ∷ []) ++ Adopted h c.args.to c.args.requests.1 c.args.packed.certified c.in-Ok.objects ∷ [])
          c.settled_owner-host.ensures all,
    )
