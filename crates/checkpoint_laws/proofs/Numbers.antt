-- n bytes are those of the number that they are read as.
use Rattle.std.proofs.Common.{◌≡◌, ℕ, zero, suc, ◌+◌, ◌*◌, ◌/◌, ◌<◌, ◌^◌, List, [], ◌∷◌, length, sym, ap, ◌∙◌, arith}
use Rattle.std.specs.Prelude.{slice_index}
use Rattle.std.specs.Int.{byte_at}
use Rattle.std.proofs.Math.Nat.{add_left_cancel, div-eq_of_lt, mod-lt, mul-add-div_right, one-le-pow}
use Rattle.std.proofs.lemmas.List.{append-nil, nil_from_length}
use Rattle.byteorder.specs.Endian.{big_from, big_number, big_bytes}
use Rattle.byteorder.specs.Numbers.{big_from-cons, big_from-lt, big_number-reads_back, length-bytes_high_first}

-- a list of bytes
abbrev pub IsBytes : List ℕ → Type 0
IsBytes xs = (k : ℕ) → slice_index xs k < 256

same_digit : (p b c y z : ℕ) → zero < p → y < p → z < p → b * p + y ≡ c * p + z → b ≡ c
same_digit p b c y z some l m e =
    let left : (b * p + y) / p ≡ b + y / p = mul-add-div_right some b y in
    let right : (c * p + z) / p ≡ c + z / p = mul-add-div_right some c z in
    let none : y / p ≡ 0 = div-eq_of_lt l in
    let nothing : z / p ≡ 0 = div-eq_of_lt m in
    let both : b + y / p ≡ c + z / p = sym left ∙ (ap (λ (n : ℕ). n / p) e ∙ right) in
    let clear : b + 0 ≡ c + 0 = sym (ap (λ (n : ℕ). b + n) none) ∙ (both ∙ ap (λ (n : ℕ). c + n) nothing) in
    omega (arith, clear)

some_power : (n : ℕ) → zero < 256 ^ n
some_power n = let h = one-le-pow n 256 (omega arith) in omega arith

-- no two lists of n bytes are one number
same_bytes : (n : ℕ) (xs ys : List ℕ) → length xs ≡ n → length ys ≡ n → IsBytes xs → IsBytes ys → big_from 0 n xs ≡ big_from 0 n ys → xs ≡ ys
same_bytes zero xs ys s t h k e = nil_from_length xs s ∙ sym (nil_from_length ys t)
same_bytes (suc n) [] ys s t h k e = absurd (omega (arith, s))
same_bytes (suc n) (x ∷ xs) [] s t h k e = absurd (omega (arith, t))
same_bytes (suc n) (x ∷ xs) (y ∷ ys) s t h k e =
    let low : big_from 0 n xs < 256 ^ n = big_from-lt 0 n xs (λ i. h (suc i)) in
    let under : big_from 0 n ys < 256 ^ n = big_from-lt 0 n ys (λ i. k (suc i)) in
    let joined : x * 256 ^ n + big_from 0 n xs ≡ y * 256 ^ n + big_from 0 n ys =
    ap (λ (r : ℕ). x * 256 ^ n + r) (sym (big_from-cons 0 n x xs)) ∙ (e ∙ ap (λ (r : ℕ). y * 256 ^ n + r) (big_from-cons 0 n y ys)) in
    let one : x ≡ y = same_digit (256 ^ n) x y (big_from 0 n xs) (big_from 0 n ys) (some_power n) low under joined in
    let rest : big_from 0 n xs ≡ big_from 0 n ys = add_left_cancel (y * 256 ^ n) (ap (λ (d : ℕ). d * 256 ^ n + big_from 0 n xs) (sym one) ∙ joined) in
    let size : length xs ≡ n = omega (arith, s) in
    let other : length ys ≡ n = omega (arith, t) in
    ap (λ (d : ℕ). d ∷ xs) one ∙ ap (λ (zs : List ℕ). y ∷ zs) (same_bytes n xs ys size other (λ i. h (suc i)) (λ i. k (suc i)) rest)

byte_small : (k x : ℕ) → byte_at k x < 256
byte_small zero x = mod-lt x (omega arith)
byte_small (suc k) x = mod-lt (x / 256 ^ suc k) (omega arith)

bytes_small : (n x k : ℕ) → slice_index (big_bytes n x) k < 256
bytes_small zero x k = omega arith
bytes_small (suc n) x zero = byte_small n x
bytes_small (suc n) x (suc k) = bytes_small n x k

pub bytes_back : (n : ℕ) (xs : List ℕ) → length xs ≡ n → IsBytes xs → big_bytes n (big_number n xs) ≡ xs
bytes_back n xs size small =
    let x : ℕ = big_number n xs in
    let low : x < 256 ^ n = big_from-lt 0 n xs small in
    let again : big_from 0 n (big_bytes n x) ≡ x = ap (big_from 0 n) (sym (append-nil (big_bytes n x))) ∙ big_number-reads_back n x [] low in
    same_bytes n (big_bytes n x) xs (length-bytes_high_first n x) size (bytes_small n x) small again
