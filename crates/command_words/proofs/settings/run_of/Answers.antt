use Rattle.std.proofs.Common.{◌∙◌, ap, map, rules, string_bytes, subst, sym}
use Rattle.clap.specs.Words.{App, HasKind, fault_of, first_of, first_value, found_of, is_simple, is_simple_and_free, matches_of}
use Rattle.clap.proofs.WalkLemmas.{first_value-rows}
use Rattle.command_words.specs.declared.settings.Kind.TheVariants as kind
use Rattle.command_words.specs.Line.{label_of}
use Rattle.command_words.proofs.Line.{is_free, is_ours}
use Rattle.command_words.proofs.RunWords.{as_read, no_words, none_hyphens, run_clean, some_hyphens}
use Rattle.command_words.proofs.Runs.{no_run}
use Rattle.command_words.proofs.settings.run_of.Goals as goal

pub returns-then-has_hyphens : goal.returns-then-has_hyphens
returns-then-has_hyphens c =
    let words = map string_bytes c.args.words.now in
    no_run words (λ h w is. some_hyphens string_bytes c.args.words.now (sym c.has_hyphens.ensures ∙ c.if-has_hyphens.true) (run_clean words h w is))

pub returns-in-Ok : goal.returns-in-Ok
returns-in-Ok c =
    let words = map string_bytes c.args.words.now in
    let app = c.in_ok-line_of_run.ensures in
    let rows = (c.in-Ok.ensures.matches (ap is_simple app ∙ is_ours)).0 ∙ ap (λ (a : App). matches_of a words) app in
    let passes = sym (ap (λ (a : App). fault_of a words) app) ∙ c.in-Ok.ensures.kinds (ap is_simple_and_free app ∙ is_free) in
    as_read c.run_with.result words
    (first_value (found_of c.in-Ok.matches) (label_of kind.Hosts)) (first_value (found_of c.in-Ok.matches) (label_of kind.Workers))
    (first_value-rows (found_of c.in-Ok.matches) (label_of kind.Hosts) ∙ ap (first_of (label_of kind.Hosts)) rows)
    (first_value-rows (found_of c.in-Ok.matches) (label_of kind.Workers) ∙ ap (first_of (label_of kind.Workers)) rows)
    (none_hyphens string_bytes c.args.words.now (sym c.has_hyphens.ensures ∙ c.if-has_hyphens.false))
    passes c.run_with.ensures

pub returns-in-Err-2 : goal.returns-in-Err-2
returns-in-Err-2 c =
    let words = map string_bytes c.args.words.now in
    let app = c.in_ok-line_of_run.ensures in
    no_words words c.in-Err-2.field-0 (subst (λ (a : App). HasKind (fault_of a words) c.in-Err-2.field-0) app (c.in-Err-2.ensures.kinds (ap is_simple_and_free app ∙ is_free))) (search rules)
