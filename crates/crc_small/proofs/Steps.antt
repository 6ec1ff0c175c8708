-- A byte at once is its bits one by one, and eight bytes at once are what each comes to alone.
use Rattle.std.proofs.Common.{◌≡◌, ℕ, zero, suc, ◌+◌, ◌*◌, ◌/◌, ◌%◌, ◌^◌, ◌<◌, Bool, true, false, cond, eqb, List, [], ◌∷◌, length, get_or, refl, sym, ap, ◌∙◌, arith, fold}
use Rattle.std.specs.Prelude.{bit_xor, bit_and}
use Rattle.std.proofs.lemmas.Nat.{and_mask, from_le_bytes-to_le_bytes_8, xor_comm, xor_shr, xor_mod}
use Rattle.std.specs.Int.{w64, bytes_low_first, from_le_bytes, to_le_bytes}
use lib.Bits.{xor_assoc, xor_zero_l, xor_zero_r, xor_self, xor_shifted}
use Rattle.crc_small.specs.Sum.{polynomial, bit_step, bits, byte_step, state_after}
use Rattle.crc_small.specs.Tables.{shift, shifts}

half_xor : (a b : ℕ) → bit_xor a b / 2 ≡ bit_xor (a / 2) (b / 2)
half_xor a b = xor_shr a b 1

low_xor : (a b : ℕ) → bit_xor a b % 2 ≡ bit_xor (a % 2) (b % 2)
low_xor a b = xor_mod a b 1

-- a choice is the same to both sides of an exclusive or
moved : (a b : ℕ) (t : Bool) → bit_xor (cond t a (bit_xor a polynomial)) b ≡ cond t (bit_xor a b) (bit_xor (bit_xor a b) polynomial)
moved a b true = refl
moved a b false = xor_assoc a polynomial b ∙ ap (λ (n : ℕ). bit_xor a n) (xor_comm polynomial b) ∙ sym (xor_assoc a b polynomial)

-- two bits are equal where their exclusive or is 0
same_bits : (m n : ℕ) → m < 2 → n < 2 → eqb m n ≡ eqb (bit_xor m n) 0
same_bits zero zero p q = refl
same_bits zero (suc zero) p q = refl
same_bits (suc zero) zero p q = refl
same_bits (suc zero) (suc zero) p q = refl
same_bits zero (suc (suc n)) p q = absurd (omega arith)
same_bits (suc zero) (suc (suc n)) p q = absurd (omega arith)
same_bits (suc (suc m)) n p q = absurd (omega arith)

bit_at_once : (s b : ℕ) → bit_xor (bit_step s (b % 2)) (b / 2) ≡ shift (bit_xor s b)
bit_at_once s b =
    moved (s / 2) (b / 2) (eqb (s % 2) (b % 2))
    ∙ ap (λ (t : Bool). cond t (bit_xor (s / 2) (b / 2)) (bit_xor (bit_xor (s / 2) (b / 2)) polynomial)) (same_bits (s % 2) (b % 2) (omega arith) (omega arith))
    ∙ rw (half_xor s b, low_xor s b) refl

halves : ℕ → ℕ → ℕ
halves zero b = b
halves (suc n) b = halves n (b / 2)

at_once : (n s b : ℕ) → bit_xor (fold bit_step s (bits n b)) (halves n b) ≡ shifts n (bit_xor s b)
unfolding halves shifts
at_once zero s b = refl
at_once (suc n) s b = at_once n (bit_step s (b % 2)) (b / 2) ∙ ap (shifts n) (bit_at_once s b)

-- a byte goes into the state, and eight steps follow
pub byte_step_is : (s b : ℕ) → b < 256 → byte_step s b ≡ shifts 8 (bit_xor s b)
unfolding byte_step halves
byte_step_is s b lt =
    let none : halves 8 b ≡ 0 = omega arith in
    sym (ap (λ (n : ℕ). bit_xor (byte_step s b) n) none ∙ xor_zero_r (byte_step s b)) ∙ at_once 8 s b

-- one step by a half and a lowest bit
stepped : ℕ → ℕ → ℕ
stepped half low = cond (eqb low 0) half (bit_xor half polynomial)

stepped_xor : (h k m n : ℕ) → m < 2 → n < 2 → stepped (bit_xor h k) (bit_xor m n) ≡ bit_xor (stepped h m) (stepped k n)
unfolding stepped
stepped_xor h k zero zero p q = refl
stepped_xor h k zero (suc zero) p q = xor_assoc h k polynomial
stepped_xor h k (suc zero) zero p q = sym (moved h k false)
stepped_xor h k (suc zero) (suc zero) p q =
    sym (xor_zero_r (bit_xor h k))
    ∙ ap (λ (n : ℕ). bit_xor (bit_xor h k) n) (sym (xor_self polynomial))
    ∙ sym (xor_assoc (bit_xor h k) polynomial polynomial)
    ∙ ap (λ (n : ℕ). bit_xor n polynomial) (sym (moved h k false))
    ∙ xor_assoc (bit_xor h polynomial) k polynomial
stepped_xor h k zero (suc (suc n)) p q = absurd (omega arith)
stepped_xor h k (suc zero) (suc (suc n)) p q = absurd (omega arith)
stepped_xor h k (suc (suc m)) n p q = absurd (omega arith)

shift_xor : (a b : ℕ) → shift (bit_xor a b) ≡ bit_xor (shift a) (shift b)
unfolding stepped
shift_xor a b = rw (half_xor a b, low_xor a b) (stepped_xor (a / 2) (b / 2) (a % 2) (b % 2) (omega arith) (omega arith))

-- the steps of an exclusive or are those of its sides
shifts_xor : (n a b : ℕ) → shifts n (bit_xor a b) ≡ bit_xor (shifts n a) (shifts n b)
unfolding shifts
shifts_xor zero a b = refl
shifts_xor (suc n) a b = ap (shifts n) (shift_xor a b) ∙ shifts_xor n (shift a) (shift b)

shifts-add : (m n k x : ℕ) → k ≡ m + n → shifts k x ≡ shifts n (shifts m x)
unfolding shifts
shifts-add zero n k x e = let same : k ≡ n = omega arith in ap (λ (j : ℕ). shifts j x) same
shifts-add (suc m) n zero x e = absurd (omega arith)
shifts-add (suc m) n (suc k) x e = shifts-add m n k (shift x) (omega arith)

shift_double : (v : ℕ) → shift (v * 2) ≡ v
shift_double v =
    let low : v * 2 % 2 ≡ 0 = omega arith in
    let half : v * 2 / 2 ≡ v = omega arith in
    rw (low, half) refl

doubled : ℕ → ℕ → ℕ
doubled zero v = v
doubled (suc n) v = doubled n v * 2

shifts_doubled : (n v : ℕ) → shifts n (doubled n v) ≡ v
unfolding doubled shifts
shifts_doubled zero v = refl
shifts_doubled (suc n) v = ap (shifts n) (shift_double (doubled n v)) ∙ shifts_doubled n v

-- what lies above a byte comes down by eight steps
shifts_above : (v : ℕ) → shifts 8 (v * 256) ≡ v
unfolding doubled
shifts_above v = let up : v * 256 ≡ doubled 8 v = omega arith in ap (shifts 8) up ∙ shifts_doubled 8 v

-- a byte and what lies above it have no bit in common
apart : (b v : ℕ) → b < 256 → b + 256 * v ≡ bit_xor b (v * 256)
apart b v lt = sym (xor_comm b (v * 256) ∙ xor_shifted v 8 b (omega arith) ∙ omega arith)

-- a byte at once is eight steps of the low byte, and the rest of the state moved down
pub byte_at_once : (s b : ℕ) → b < 256 → byte_step s b ≡ bit_xor (shifts 8 (bit_and (bit_xor s b) 255)) (s / 256)
byte_at_once s b lt =
    let x = bit_xor s b in
    let low : bit_and x 255 ≡ x % 256 = and_mask x 8 in
    let split : x ≡ x % 256 + 256 * (x / 256) = omega arith in
    let parts : x ≡ bit_xor (x % 256) (x / 256 * 256) = split ∙ apart (x % 256) (x / 256) (omega arith) in
    let high : x / 256 ≡ s / 256 = xor_shr s b 8 ∙ ap (λ (n : ℕ). bit_xor (s / 256) n) (omega arith) ∙ xor_zero_r (s / 256) in
    byte_step_is s b lt
    ∙ ap (shifts 8) parts
    ∙ shifts_xor 8 (x % 256) (x / 256 * 256)
    ∙ ap (λ (n : ℕ). bit_xor (shifts 8 (x % 256)) n) (shifts_above (x / 256) ∙ high)
    ∙ ap (λ (n : ℕ). bit_xor (shifts 8 n) (s / 256)) (sym low)

-- the number that bytes spell, the lowest first
pub little : List ℕ → ℕ
little [] = 0
little (b ∷ bs) = b + 256 * little bs

-- all bytes go into the state at once, and eight steps follow for each
pub bytes_at_once : (s : ℕ) (bs : List ℕ) → ((i : ℕ) → get_or bs i 0 < 256) → state_after s bs ≡ shifts (8 * length bs) (bit_xor s (little bs))
unfolding little shifts
bytes_at_once s [] h = sym (xor_zero_r s)
bytes_at_once s (b ∷ bs) h =
    bytes_at_once (byte_step s b) bs (λ i. h (suc i))
    ∙ ap (shifts (8 * length bs)) (
    ap (λ (n : ℕ). bit_xor n (little bs)) (byte_step_is s b (h 0))
    ∙ ap (λ (n : ℕ). bit_xor (shifts 8 (bit_xor s b)) n) (sym (shifts_above (little bs)))
    ∙ sym (shifts_xor 8 (bit_xor s b) (little bs * 256))
    ∙ ap (shifts 8) (xor_assoc s b (little bs * 256) ∙ ap (λ (n : ℕ). bit_xor s n) (sym (apart b (little bs) (h 0)))))
    ∙ sym (shifts-add 8 (8 * length bs) (8 * length (b ∷ bs)) (bit_xor s (b + 256 * little bs)) (omega arith))

-- what each byte comes to alone, put together from the last
pub entries : List ℕ → ℕ
entries [] = 0
entries (b ∷ bs) = bit_xor (entries bs) (shifts (8 * suc (length bs)) b)

-- the steps of a number are those of each of its bytes
pub entries_is : (bs : List ℕ) → ((i : ℕ) → get_or bs i 0 < 256) → shifts (8 * length bs) (little bs) ≡ entries bs
unfolding little entries shifts
entries_is [] h = refl
entries_is (b ∷ bs) h =
    ap (shifts (8 * suc (length bs))) (apart b (little bs) (h 0))
    ∙ shifts_xor (8 * suc (length bs)) b (little bs * 256)
    ∙ xor_comm (shifts (8 * suc (length bs)) b) (shifts (8 * suc (length bs)) (little bs * 256))
    ∙ ap (λ (n : ℕ). bit_xor n (shifts (8 * suc (length bs)) b)) (
    shifts-add 8 (8 * length bs) (8 * suc (length bs)) (little bs * 256) (omega arith)
    ∙ ap (shifts (8 * length bs)) (shifts_above (little bs))
    ∙ entries_is bs (λ i. h (suc i)))

-- eight bytes, as std has their number
little_is : (bs : List ℕ) → length bs ≡ 8 → from_le_bytes w64 bs ≡ little bs
unfolding little
little_is (b0 ∷ b1 ∷ b2 ∷ b3 ∷ b4 ∷ b5 ∷ b6 ∷ b7 ∷ []) e = omega arith
little_is _ e = absurd (omega arith)

-- the parts of a number are bytes
parts_small : (count from word i : ℕ) → get_or (bytes_low_first from count word) i 0 < 256
parts_small zero from word i = omega arith
parts_small (suc count) zero word zero = omega arith
parts_small (suc count) (suc from) word zero = omega arith
parts_small (suc count) from word (suc i) = parts_small count (suc from) word i

-- what eight bytes come to, written out
entries_written : (bs : List ℕ) → length bs ≡ 8 → entries bs ≡ bit_xor (bit_xor (bit_xor (bit_xor (bit_xor (bit_xor (bit_xor (shifts 8 (get_or bs 7 0)) (shifts 16 (get_or bs 6 0))) (shifts 24 (get_or bs 5 0))) (shifts 32 (get_or bs 4 0))) (shifts 40 (get_or bs 3 0))) (shifts 48 (get_or bs 2 0))) (shifts 56 (get_or bs 1 0))) (shifts 64 (get_or bs 0 0))
unfolding entries
entries_written (b0 ∷ b1 ∷ b2 ∷ b3 ∷ b4 ∷ b5 ∷ b6 ∷ b7 ∷ []) e = rw (xor_zero_l (shifts 8 b7)) refl
entries_written _ e = absurd (omega arith)

-- eight bytes at once: the parts of the number that they and the state make, each alone
pub eight_at_once : (s word : ℕ) (bs parts : List ℕ) → length bs ≡ 8 → ((i : ℕ) → get_or bs i 0 < 256) → word ≡ bit_xor s (from_le_bytes w64 bs) → word < 2 ^ 64 → parts ≡ to_le_bytes w64 word → state_after s bs ≡ bit_xor (bit_xor (bit_xor (bit_xor (bit_xor (bit_xor (bit_xor (shifts 8 (get_or parts 7 0)) (shifts 16 (get_or parts 6 0))) (shifts 24 (get_or parts 5 0))) (shifts 32 (get_or parts 4 0))) (shifts 40 (get_or parts 3 0))) (shifts 48 (get_or parts 2 0))) (shifts 56 (get_or parts 1 0))) (shifts 64 (get_or parts 0 0))
eight_at_once s word bs parts whole bytes is lt spelled =
    let eight : length parts ≡ 8 = ap (length {A = ℕ}) spelled in
    let number : little parts ≡ word = sym (little_is parts eight) ∙ ap (from_le_bytes w64) spelled ∙ from_le_bytes-to_le_bytes_8 word lt in
    let small : (i : ℕ) → get_or parts i 0 < 256 = λ i. let at : get_or parts i 0 ≡ get_or (to_le_bytes w64 word) i 0 = ap (λ (l : List ℕ). get_or l i 0) spelled in omega (arith, parts_small 8 0 word i) in
    bytes_at_once s bs bytes
    ∙ ap (shifts (8 * length bs)) (ap (λ (n : ℕ). bit_xor s n) (sym (little_is bs whole)) ∙ sym is ∙ sym number)
    ∙ ap (λ (n : ℕ). shifts (8 * n) (little parts)) (whole ∙ sym eight)
    ∙ entries_is parts small
    ∙ entries_written parts eight
