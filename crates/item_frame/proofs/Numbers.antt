-- Bytes, and the numbers in them.
use Rattle.std.proofs.Common.{◌≡◌, ℕ, ◌+◌, ◌^◌, ◌<◌, ◌≤◌, Bool, true, false, not, ◌||◌, cond, List, ◌++◌, length, get_or, take, drop, Result, Ok, Err, refl, sym, ap, ◌∙◌, arith, inl, inr}
use Rattle.std.specs.Int.{w32, from_le_bytes, to_le_bytes}
use Rattle.std.proofs.lemmas.Bool.{cases_lt}
use Rattle.std.proofs.lemmas.List.{drop-drop, take_at, drop_at, take-append-drop, length-take, length-take-le, get_or-drop, get_or-take, get_or_past}
use Rattle.std.proofs.lemmas.Nat.{le_bytes_4, from_le_bytes-to_le_bytes_4}
use Rattle.item_frame.specs.declared.refusal.ItemRefusal.{ItemRefusal}
use Rattle.item_frame.specs.Reading.{number}

-- each number of the list is a byte
abbrev pub IsBytes : List ℕ → Type 0
IsBytes bytes = (i : ℕ) → get_or bytes i 0 < 256

pub IsBytes-drop : (n : ℕ) (bytes : List ℕ) → IsBytes bytes → IsBytes (drop n bytes)
IsBytes-drop n bytes fit i = rw get_or-drop (fit (n + i))

IsBytes-take : (n : ℕ) (bytes : List ℕ) → IsBytes bytes → IsBytes (take n bytes)
IsBytes-take n bytes fit i =
    elim (cases_lt i n) [
      | inl below ↦ rw (get_or-take n bytes i 0 below) (fit i)
      | inr above ↦ rw (get_or_past (take n bytes) i 0 (omega (arith, length-take n bytes))) (omega arith)
    ]

-- a number is spelled as its bytes, which the rest follows
pub number_then : (bytes : List ℕ) → IsBytes bytes → 4 ≤ length bytes → bytes ≡ to_le_bytes w32 (number bytes) ++ drop 4 bytes
number_then bytes fit long =
    let spelled : to_le_bytes w32 (number bytes) ≡ take 4 bytes =
    le_bytes_4 (take 4 bytes) (number bytes) (length-take-le 4 bytes long) (IsBytes-take 4 bytes fit) refl in
    sym (ap (λ (front : List ℕ). front ++ drop 4 bytes) spelled ∙ take-append-drop 4 bytes)

pub number_again : (n : ℕ) (rest : List ℕ) → n < 2 ^ 32 → number (to_le_bytes w32 n ++ rest) ≡ n
number_again n rest fits = ap (from_le_bytes w32) (take_at (to_le_bytes w32 n) rest 4 refl) ∙ from_le_bytes-to_le_bytes_4 n fits

pub after_number : (n : ℕ) (rest : List ℕ) → drop 4 (to_le_bytes w32 n ++ rest) ≡ rest
after_number n rest = drop_at (to_le_bytes w32 n) rest 4 refl

pub drop_4_4 : (bytes : List ℕ) → drop 4 (drop 4 bytes) ≡ drop 8 bytes
drop_4_4 bytes = drop-drop 4 4 bytes

-- ---- tests

-- no refusal came, so its test failed
pub passed : {A : Type 0} (test : Bool) (refusal : ItemRefusal) (rest : Result A ItemRefusal) (x : A) → cond test (Err refusal) rest ≡ Ok x → (test ≡ false) × (rest ≡ Ok x)
passed true refusal rest x e = absurd cc
passed false refusal rest x e = (refl, e)

pub or_false : (a b : Bool) → (a || b) ≡ false → (a ≡ false) × (b ≡ false)
or_false false b e = (refl, e)
or_false true b e = absurd cc

pub not_false : (a : Bool) → not a ≡ false → a ≡ true
not_false true e = refl
not_false false e = absurd cc

-- a blob that was read
abbrev pub blob_read : List ℕ → Result (List ℕ) ItemRefusal
blob_read blob = Ok blob

pub same_blob : (a b : List ℕ) → blob_read a ≡ blob_read b → a ≡ b
same_blob a b e = cc
