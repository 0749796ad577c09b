use Rattle.std.proofs.Common.{◌≤◌, ◌+◌, length, refl, arith}
use Rattle.py_show.proofs.Limiting.{one_more, some_past, all_told, surely_fits}
use Rattle.py_show.proofs.quoted.quoted_fits.Goals as goal

pub returns-then-text-room : goal.returns-then-text-room
returns-then-text-room c = surely_fits c.args.text.now c.args.room c.if-room-ge2.true c.if-text-room.true

pub returns-then-len-room : goal.returns-then-len-room
returns-then-len-room c =
    let counted = one_more c.as_bytes-byte-items.result.now c.loop-byte.byte-index c.loop-byte.len c.escaped_len-len.result c.quote_of-quote.result _
    c.loop-byte.invariant.counted c.loop-byte-test.true refl c.escaped_len-len.ensures.value in
    some_past c.args.text.now (c.loop-byte.byte-index + 1) (c.loop-byte.len + c.escaped_len-len.result) c.args.room
    (rw (c.quote_of-quote.ensures, c.as_bytes-byte-items.ensures.value) at counted) c.if-len-room.true

pub returns : goal.returns
returns c =
    let all : length c.as_bytes-byte-items.result.now ≤ c.loop-byte.byte-index = omega arith in
    all_told c.args.text.now c.loop-byte.byte-index c.loop-byte.len c.args.room _
    (rw (c.quote_of-quote.ensures, c.as_bytes-byte-items.ensures.value) at c.loop-byte.invariant.counted)
    (rw c.as_bytes-byte-items.ensures.value at all) refl
