use Rattle.std.proofs.Common.{rules, length, sym, ap}
use Rattle.std.proofs.lemmas.Str.{chars-IsAscii, chars_from_encodes}
use Rattle.plain_data.proofs.shared_text.count_chars.Goals as goal

pub returns-then-is_ascii : goal.returns-then-is_ascii
returns-then-is_ascii c = ap length (sym (chars-IsAscii c.args.text.now (c.requires c.if-is_ascii.true)))

pub returns : goal.returns
returns c = search (rules, chars_from_encodes)
