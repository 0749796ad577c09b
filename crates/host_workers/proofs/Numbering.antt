-- The numbers of cells.
use Rattle.std.specs.Prelude.{Result, Err, is_err, OnOk}
use Rattle.std.proofs.Common.{◌≡◌, ◌+◌, ℕ, zero, suc, true, false, Ok, List, [], ◌∷◌, ◌++◌, length, sym, ap, ◌∙◌, Some, slice_get, arith}
use Rattle.session_queues.specs.declared.shared.SharedQueues.{SharedQueues}
use Rattle.host_workers.specs.Tables.{AreNumbered}

pub numbered_more : (n : ℕ) (cells : List (SharedQueues × ℕ)) (cell : SharedQueues × ℕ) → AreNumbered n cells → cell.1 ≡ n + length cells → AreNumbered n (cells ++ cell ∷ [])
numbered_more n [] cell h is = ((let same = is in omega arith), tt)
numbered_more n (c ∷ cells) cell h is = (h.0, numbered_more (n + 1) cells cell h.1 (let same = is in omega arith))

pub numbered_at : (n : ℕ) (cells : List (SharedQueues × ℕ)) (i : ℕ) (cell : SharedQueues × ℕ) → AreNumbered n cells → slice_get cells i ≡ Some cell → cell.1 ≡ n + i
numbered_at n [] i cell h is = cc
numbered_at n (c ∷ cells) zero cell h is = let same : Some c ≡ Some cell = is in let also : c ≡ cell = cc in ap (λ x. x.1) (sym also) ∙ (let first = h.0 in omega arith)
numbered_at n (c ∷ cells) (suc i) cell h is = let rest = numbered_at (n + 1) cells i cell h.1 is in omega arith

-- what holds where a call succeeds, after it did
pub ok_gives : {A B : Type 0} → (r : Result A B) (P : Type 0) → is_err r ≡ false → OnOk r P → P
ok_gives (Ok a) P is h = h
ok_gives (Err e) P is h = let never : true ≡ false = is in cc
