use Rattle.std.proofs.Common.{◌≡◌, ◌∙◌, ℕ, List, ap, subst, IfOk}
use Rattle.std.specs.Prelude.{map, take}
use Rattle.std.proofs.lemmas.List.{take_min}
use Rattle.serde_json.specs.Data.{string}
use Rattle.serde_json.specs.View.{view}
use Rattle.reply_frames.proofs.replies.names_said.Goals as goal

pub returns : goal.returns
returns c =
    let names = c.args.names.now in
    subst (λ (ns : List (List ℕ)). IfOk c.items_of.result (λ items. map view items.items ≡ map string ns))
    (c.split_at.ensures.front ∙ ap (λ n. take n names) c.min-most.ensures ∙ take_min 1000 names) c.items_of.ensures
