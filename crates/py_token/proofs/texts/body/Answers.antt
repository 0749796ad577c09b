use Rattle.std.proofs.Common.{◌≡◌, zero, ◌+◌, Some, length, drop, get_or, sym, ◌∙◌, subst, arith, length-drop}
use Rattle.py_token.specs.declared.pieces.Piece.TheVariants.{Quote, LineEnd, Bad, Plain, Escaped}
use Rattle.py_token.specs.Lexemes.{body}
use Rattle.py_token.specs.Bodies.{read_on, IsWithin}
use Rattle.py_token.proofs.Quoted.{same_piece, ends_closed, ends_open, goes_bad, goes_plain, goes_escaped, ends_text, escape_within, body_within}
use Rattle.py_token.proofs.texts.body.Goals as goal

pub returns-in-Quote-clause-value : goal.returns-in-Quote-clause-value
returns-in-Quote-clause-value c =
    let bytes = c.args.bytes.now in
    c.closed.ensures ∙ ends_closed c.args.quote bytes c.loop-at.written c.loop-at.bad c.loop-at.at c.loop-at-test.true c.loop-at.invariant.rest (same_piece Quote c.args.quote bytes c.loop-at.at c.in-Quote.ensures)

pub returns-in-Quote-clause-within : goal.returns-in-Quote-clause-within
returns-in-Quote-clause-within c =
    let bytes = c.args.bytes.now in
    let value = c.closed.ensures ∙ ends_closed c.args.quote bytes c.loop-at.written c.loop-at.bad c.loop-at.at c.loop-at-test.true c.loop-at.invariant.rest (same_piece Quote c.args.quote bytes c.loop-at.at c.in-Quote.ensures) in
    subst (λ b. IsWithin b (length bytes)) (sym value) (body_within c.args.quote zero bytes)

pub returns-in-LineEnd-clause-value : goal.returns-in-LineEnd-clause-value
returns-in-LineEnd-clause-value c =
    let bytes = c.args.bytes.now in
    ends_open c.args.quote bytes c.loop-at.written c.loop-at.bad c.loop-at.at c.loop-at-test.true c.loop-at.invariant.rest (same_piece LineEnd c.args.quote bytes c.loop-at.at c.in-LineEnd.ensures)

pub loop-at-preserved-in-Bad : goal.loop-at-preserved-in-Bad
loop-at-preserved-in-Bad c =
    let bytes = c.args.bytes.now in
    let at = c.loop-at.at in
    record {
      within = omega arith;
      rest = subst (λ p. read_on c.loop-at.written (Some p) (at + 1) (body c.args.quote zero (drop (at + 1) bytes)) ≡ body c.args.quote zero bytes) (sym c.unwrap_or.ensures)
          (goes_bad c.args.quote bytes c.loop-at.written c.loop-at.bad at c.loop-at-test.true c.loop-at.invariant.rest (same_piece Bad c.args.quote bytes at c.in-Bad.ensures));
    }

pub loop-at-preserved-in-Plain : goal.loop-at-preserved-in-Plain
loop-at-preserved-in-Plain c =
    let bytes = c.args.bytes.now in
    let at = c.loop-at.at in
    let pushed = c.in_ok-push-in-Plain.ensures.ok in
    record {
      within = omega arith;
      rest = subst (λ w. read_on w c.loop-at.bad (at + 1) (body c.args.quote zero (drop (at + 1) bytes)) ≡ body c.args.quote zero bytes) (sym pushed)
          (goes_plain c.args.quote bytes c.loop-at.written c.loop-at.bad at c.loop-at-test.true c.loop-at.invariant.rest c.in-Plain.byte (same_piece (Plain c.in-Plain.byte) c.args.quote bytes at c.in-Plain.ensures));
    }

pub overflow_add-at-in-Escaped : goal.overflow_add-at-in-Escaped
overflow_add-at-in-Escaped c =
    let bytes = c.args.bytes.now in
    let at = c.loop-at.at in
    let within = escape_within c.args.quote (get_or bytes at 0) (drop (at + 1) bytes) c.in-Escaped.escape (same_piece (Escaped c.in-Escaped.escape) c.args.quote bytes at c.in-Escaped.ensures) in
    omega (arith, within, length-drop (at + 1) bytes)

pub overflow_add-at-in-Escaped-2 : goal.overflow_add-at-in-Escaped-2
overflow_add-at-in-Escaped-2 c =
    let bytes = c.args.bytes.now in
    let at = c.loop-at.at in
    let within = escape_within c.args.quote (get_or bytes at 0) (drop (at + 1) bytes) c.in-Escaped.escape (same_piece (Escaped c.in-Escaped.escape) c.args.quote bytes at c.in-Escaped.ensures) in
    omega (arith, within, length-drop (at + 1) bytes)

pub loop-at-preserved : goal.loop-at-preserved
loop-at-preserved c =
    let bytes = c.args.bytes.now in
    let at = c.loop-at.at in
    let e = c.in-Escaped.escape in
    let there = same_piece (Escaped e) c.args.quote bytes at c.in-Escaped.ensures in
    let escape_fits = escape_within c.args.quote (get_or bytes at 0) (drop (at + 1) bytes) e there in
    let pushed = c.in_ok-push_character-in-Escaped.ensures in
    record {
      within = omega (arith, escape_fits, length-drop (at + 1) bytes);
      rest = subst (λ w. read_on w c.loop-at.bad (at + (1 + e.width)) (body c.args.quote zero (drop (at + (1 + e.width)) bytes)) ≡ body c.args.quote zero bytes) (sym pushed)
          (goes_escaped c.args.quote bytes c.loop-at.written c.loop-at.bad at c.loop-at-test.true c.loop-at.invariant.rest e there);
    }

pub returns-clause-value : goal.returns-clause-value
returns-clause-value c = ends_text c.args.quote c.args.bytes.now c.loop-at.written c.loop-at.bad c.loop-at.at c.loop-at-test.false c.loop-at.invariant.rest
