-- The flags of a driver's blob, behind the size of a pointer.
use Rattle.std.proofs.Common.{◌≡◌, ℕ, zero, suc, ◌-◌, ◌<◌, ◌≤◌, List, [], ◌∷◌, ◌++◌, length, get_or, take, drop, sym, ap, ◌∙◌, arith}
use Rattle.std.proofs.Math.Seq.{take-length}
use Rattle.std.specs.Int.{w64, to_le_bytes, from_le_bytes}
use Rattle.std.specs.Array.{IsFirstChunk}
use Rattle.std.proofs.lemmas.List.{length-take-le, take-append-drop}
use Rattle.std.proofs.lemmas.Nat.{le_bytes_8}
use Rattle.cache_types.specs.Front.{HasFlags}

bytes-take : (n : ℕ) (xs : List ℕ) → ((i : ℕ) → get_or xs i 0 < 256) → (i : ℕ) → get_or (take n xs) i 0 < 256
bytes-take zero xs fit i = omega arith
bytes-take (suc n) [] fit i = omega arith
bytes-take (suc n) (x ∷ xs) fit zero = fit 0
bytes-take (suc n) (x ∷ xs) fit (suc i) = bytes-take n xs (λ k. fit (suc k)) i

pub flags_read : (bytes chunk : List ℕ) (flags : ℕ) → ((i : ℕ) → get_or bytes i 0 < 256) → 1 ≤ length bytes → get_or bytes 0 0 ≡ 8 → IsFirstChunk (take (length bytes - 1) (drop 1 bytes)) chunk 8 → flags ≡ from_le_bytes w64 chunk → HasFlags bytes flags (drop 9 bytes)
flags_read [] chunk flags fit some first begins read = absurd (omega arith)
flags_read (x ∷ xs) chunk flags fit some first begins read =
    let size : length (x ∷ xs) - 1 ≡ length xs = omega arith in
    let all : take (length (x ∷ xs) - 1) xs ≡ xs = ap (λ (n : ℕ). take n xs) size ∙ take-length xs in
    let enough : 8 ≤ length xs = omega (arith, begins.enough, ap length all) in
    let chunk_is : chunk ≡ take 8 xs = begins.same ∙ ap (take 8) all in
    let eight : length (take 8 xs) ≡ 8 = length-take-le 8 xs enough in
    let back : to_le_bytes w64 flags ≡ take 8 xs = le_bytes_8 (take 8 xs) flags eight (bytes-take 8 xs (λ i. fit (suc i))) (read ∙ ap (from_le_bytes w64) chunk_is) in
    ap (λ (n : ℕ). n ∷ xs) first ∙ ap (λ (rest : List ℕ). 8 ∷ rest) (sym (take-append-drop 8 xs) ∙ ap (λ (front : List ℕ). front ++ drop 8 xs) (sym back))
