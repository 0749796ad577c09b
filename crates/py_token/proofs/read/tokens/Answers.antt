use Rattle.std.proofs.Common.{◌≡◌, ◌+◌, ◌++◌, ◌∙◌, Ok, sym, ap, subst, arith, drop, length-drop}
use Rattle.std.proofs.lemmas.Result.{err_from_is_err_and}
use Rattle.py_token.specs.Lines.{before, read, ended, tokens_of}
use Rattle.py_token.specs.Gives.{Fails}
use Rattle.py_token.proofs.Reading.{read_start, ends_at, fails, turn_given, turn_fits, read_turn, read_end}
use Rattle.py_token.proofs.Covers.{covers}
use Rattle.py_token.proofs.Ends.{ends_well, fails_within}
use Rattle.py_token.proofs.read.tokens.Goals as goal

pub turn-requires-clause-text : goal.turn-requires-clause-text
turn-requires-clause-text c = ends_at c.as_bytes-bytes.result.now c.loop-at.at c.as_bytes-bytes.ensures.utf8

pub loop-at-init : goal.loop-at-init
loop-at-init c = record {
  within = omega arith;
  few = omega (arith, ap (λ l. l.brackets) c.in_ok-line.ensures);
  rest = read_start c.as_bytes-bytes.result.now c.in_ok-line.line c.new-all.result c.in_ok-line.ensures c.new-all.ensures;
}

pub returns-in_err-tokens : goal.returns-in_err-tokens
returns-in_err-tokens c =
    let p = err_from_is_err_and c.from_residual-in_err-tokens.result c.from_residual-in_err-tokens.ensures.1 in
    let fault = fails c.in_err-tokens.field-0.0 c.as_bytes-bytes.result.now c.loop-at.at c.loop-at.line c.loop-at.all c.loop-at-test.true c.in_err-tokens.ensures c.loop-at.invariant.rest in
    let exact = subst (λ code. Fails c.in_err-tokens.field-0.0 (tokens_of code)) c.as_bytes-bytes.ensures.value fault in
    record {
      exact = rw (p.1, p.2) exact;
      cover = rw (p.1) tt;
      ends = rw (p.1) tt;
      within = rw (p.1, p.2) (fails_within c.in_err-tokens.field-0.0 c.args.code.now exact);
    }

pub loop-at-smaller : goal.loop-at-smaller
loop-at-smaller c =
    let bytes = c.as_bytes-bytes.result.now in
    let fits = turn_fits bytes c.loop-at.at c.loop-at.line c.in_ok-tokens.field-0 c.loop-at-test.true (turn_given bytes c.loop-at.at c.loop-at.line _ c.in_ok-tokens.ensures) in
    omega (arith, length-drop c.loop-at.at bytes)

pub loop-at-preserved : goal.loop-at-preserved
loop-at-preserved c =
    let bytes = c.as_bytes-bytes.result.now in
    let given = turn_given bytes c.loop-at.at c.loop-at.line _ c.in_ok-tokens.ensures in
    let fits = turn_fits bytes c.loop-at.at c.loop-at.line c.in_ok-tokens.field-0 c.loop-at-test.true given in
    record {
      within = omega (arith, length-drop c.loop-at.at bytes);
      few = omega (arith, c.loop-at.invariant.few);
      rest = subst (λ all. before all (read 0 (c.loop-at.at + c.in_ok-tokens.field-0.width) c.in_ok-tokens.field-0.line (drop (c.loop-at.at + c.in_ok-tokens.field-0.width) bytes)) ≡ tokens_of bytes)
          (sym c.in_ok-append.ensures) (read_turn bytes c.loop-at.at c.loop-at.line c.in_ok-tokens.field-0 c.loop-at.all c.loop-at-test.true given c.loop-at.invariant.rest);
    }

pub returns : goal.returns
returns c =
    let bytes = c.as_bytes-bytes.result.now in
    let read_all = read_end bytes c.loop-at.at c.loop-at.line c.loop-at.all c.loop-at-test.false c.loop-at.invariant.rest in
    let whole : c.append-2.new.all ≡ c.loop-at.all ++ ended c.loop-at.at c.loop-at.line = c.in_ok-append-2.ensures ∙ ap (λ last. c.loop-at.all ++ last) c.in_ok-last.ensures in
    let exact : tokens_of c.args.code.now ≡ Ok c.append-2.new.all = ap tokens_of (sym c.as_bytes-bytes.ensures.value) ∙ read_all ∙ ap Ok (sym whole) in
    record {
      exact = exact;
      cover = covers c.args.code.now c.append-2.new.all exact;
      ends = ends_well c.args.code.now c.append-2.new.all exact;
      within = tt;
    }
