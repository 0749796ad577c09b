-- What a poll of a link over memory gives is what is taken of its bytes.
use Rattle.std.proofs.Common.{◌≡◌, ℕ, ◌+◌, ◌≤◌, List, ◌++◌, length, take, drop}
use Rattle.std.proofs.lemmas.List.{take-append-drop, length-take-le}
use Rattle.std.proofs.Math.Seq.{take-append-add, take-append_seam}

-- a list that goes on with this part at some place, up to the end of the part
pub taken : {X : Type 0} (at : ℕ) (xs part rest : List X) → at ≤ length xs → drop at xs ≡ part ++ rest → take (at + length part) xs ≡ take at xs ++ part
taken at xs part rest within parted =
    let split = take-append-drop at xs in
    let front : length (take at xs) ≡ at = length-take-le at xs within in
    let added = take-append-add (take at xs) (drop at xs) (length part) in
    let seam : take (length part) (drop at xs) ≡ part = rw parted (take-append_seam part rest) in
    rw (front, seam, split) at added
