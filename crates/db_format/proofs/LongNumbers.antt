-- Numbers of eight bytes, and how far numbers of bytes reach.
use Rattle.std.proofs.Common.{◌≡◌, ℕ, ◌^◌, ◌<◌, ◌≤◌, List, ◌++◌, length, get_or, take, drop, refl, sym, ap, ◌∙◌, arith, inl, inr}
use Rattle.std.specs.Int.{w64, to_le_bytes}
use Rattle.std.proofs.lemmas.Bool.{cases_lt}
use Rattle.std.proofs.lemmas.List.{take-append-drop, length-take, length-take-le, get_or-take, get_or_past}
use Rattle.std.proofs.lemmas.Nat.{le_bytes_8}
use Rattle.item_frame.specs.Reading.{number}
use Rattle.item_frame.proofs.Numbers.{IsBytes}
use Rattle.db_format.specs.Numbers.{long_number}

IsBytes-take : (n : ℕ) (bytes : List ℕ) → IsBytes bytes → IsBytes (take n bytes)
IsBytes-take n bytes fit i =
    elim (cases_lt i n) [
      | inl below ↦ rw (get_or-take n bytes i 0 below) (fit i)
      | inr above ↦ rw (get_or_past (take n bytes) i 0 (omega (arith, length-take n bytes))) (omega arith)
    ]

-- a number is spelled as its bytes, which the rest follows
pub long_number_then : (bytes : List ℕ) → IsBytes bytes → 8 ≤ length bytes → bytes ≡ to_le_bytes w64 (long_number bytes) ++ drop 8 bytes
long_number_then bytes fit long =
    let spelled : to_le_bytes w64 (long_number bytes) ≡ take 8 bytes =
    le_bytes_8 (take 8 bytes) (long_number bytes) (length-take-le 8 bytes long) (IsBytes-take 8 bytes fit) refl in
    sym (ap (λ (front : List ℕ). front ++ drop 8 bytes) spelled ∙ take-append-drop 8 bytes)

pub number_fits : (bytes : List ℕ) → IsBytes bytes → number bytes < 2 ^ 32
number_fits bytes fit =
    let small = IsBytes-take 4 bytes fit in
    omega (arith, small 0, small 1, small 2, small 3)

pub long_number_fits : (bytes : List ℕ) → IsBytes bytes → long_number bytes < 2 ^ 64
long_number_fits bytes fit =
    let small = IsBytes-take 8 bytes fit in
    omega (arith, small 0, small 1, small 2, small 3, small 4, small 5, small 6, small 7)
