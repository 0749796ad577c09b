use Rattle.std.proofs.Common.{rules, ◌≡◌, ◌∙◌, sym, ap}
use Rattle.std.specs.List.{flat_map, list_all}
use Rattle.py_value.specs.Reprs.{is_plain, escaped}
use Rattle.py_value.proofs.Escapes.{shown_plain, shown_more}
use Rattle.py_value.proofs.repr.push_shown.Goals as goal

pub returns-then-are_plain : goal.returns-then-are_plain
returns-then-are_plain c =
    let plain : flat_map (escaped c.args.quote) c.args.text.now ≡ c.args.text.now =
    shown_plain c.args.quote c.args.text.now (ap (list_all (is_plain c.args.quote)) (sym c.as_bytes.ensures.value) ∙ sym c.are_plain.ensures ∙ c.if-are_plain.true) in
    rw plain search rules

pub loop-c-preserved : goal.loop-c-preserved
loop-c-preserved c = shown_more _ _ _ _ _ _ c.loop-c.invariant c.in_ok-push_escaped.ensures
