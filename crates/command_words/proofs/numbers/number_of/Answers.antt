use Rattle.std.proofs.Common.{subst, sym, ◌∙◌, arith}
use Rattle.std.specs.Prelude.{List, ℕ, ◌≡◌, ◌≢◌, ◌≤◌, get_or, length}
use Rattle.std.proofs.lemmas.Bool.{false≢true}
use Rattle.command_words.specs.Beginning.{IsNone}
use Rattle.command_words.specs.Grammar.{IsWithin}
use Rattle.command_words.proofs.Digits.{none_of, none_read, no_other, some_read}
use Rattle.command_words.proofs.numbers.number_of.Goals as goal

pub returns-then-not-is_plain : goal.returns-then-not-is_plain
returns-then-not-is_plain c = λ n within is.
    none_of c.args.word.now (subst IsNone c.as_bytes.ensures.value (c.is_plain.ensures.no c.if-not-is_plain.true)) n (omega (arith, within.1)) is

pub returns-in-Ok : goal.returns-in-Ok
returns-in-Ok c =
    let plain = subst (λ (bs : List ℕ). (get_or bs 0 0 ≢ 43) × (get_or bs 0 0 ≡ 48 → length bs ≤ 1)) c.as_bytes.ensures.value (c.is_plain.ensures.yes c.if-not-is_plain.false) in
    (c.is_within.ensures.0 c.if-is_within.true, some_read c.args.word.now c.parse.result c.parse.ensures.value.0 c.in-Ok.n c.in-Ok.is plain.0 plain.1)

pub returns-in_default : goal.returns-in_default
returns-in_default c = λ n within is.
    let same = no_other c.args.word.now c.parse.result c.parse.ensures.value.0 c.in-Ok.n c.in-Ok.is n (omega (arith, within.1)) is in
    false≢true (sym c.if-is_within.false ∙ c.is_within.ensures.1 (subst (IsWithin c.args.least c.args.most) same within))

pub returns-in_default-2 : goal.returns-in_default-2
returns-in_default-2 c = λ n within is. none_read c.args.word.now c.parse.result c.parse.ensures.value.0 c.in_default.field-0 c.in_default.is n (omega (arith, within.1)) is
