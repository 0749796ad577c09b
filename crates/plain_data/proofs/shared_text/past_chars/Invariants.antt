use Rattle.std.proofs.Common.{◌≡◌, drop}
use Rattle.std.specs.Str.{chars, encode_utf8_all}
use Rattle.plain_data.proofs.shared_text.past_chars.Given as goal

abbrev pub invariant-loop : goal.invariant-loop
invariant-loop l = l.rest.rest.now ≡ encode_utf8_all (drop l.counter (chars l.text))
