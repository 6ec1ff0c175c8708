-- The first refusal of the table is what reading from left to right gives.
use Rattle.std.proofs.Common.{◌≡◌, ◌≢◌, ℕ, ◌+◌, ◌-◌, ◌*◌, ◌≤◌, Bool, true, false, not, ◌&&◌, ◌||◌, cond, eqb, ltb, List, length, drop, Option, Some, None, Result, Ok, Err, refl, sym, ap, ◌∙◌, arith}
use Rattle.std.specs.Prelude.{nat_eq}
use Rattle.std.specs.List.{starts_with}
use Rattle.std.specs.Result.{result_err}
use Rattle.std.proofs.lemmas.Bool.{eqb-true, ltb-false}
use Rattle.std.proofs.lemmas.Bool.Decides.{nat_tests}
use Rattle.std.proofs.lemmas.List.{drop-drop, length-drop}
use Rattle.cache_types.specs.declared.limits.TheConstants.{MAX_KEYS, MAX_BLOB}
use Rattle.crc_small.specs.Sum.{Sum}
use Rattle.item_frame.specs.declared.refusal.ItemRefusal.{ItemRefusal}
use Rattle.item_frame.specs.declared.refusal.ItemRefusal.TheVariants.{Short, OtherDriver, BadType, BadCount, BadSize, BadSum, NoMemory}
use Rattle.item_frame.specs.Reading.{number, payload_at, keys_at, body_at, rest_at, next_at, item_at}
use Rattle.item_frame.specs.Refusals.{number_at, is_short, has_other_driver, has_bad_type, has_bad_count, has_bad_size, has_bad_sum, first_refusal}

-- the size and the checksum, by the bytes from the checksum, from the size and from the payload on
abbrev fields : List ℕ → List ℕ → List ℕ → Option ItemRefusal
fields sum size payload =
    cond (not (eqb (number size) (length payload)) || ltb MAX_BLOB (number size)) (Some BadSize) (cond (not (eqb (number sum) (Sum payload))) (Some BadSum) None)

-- the same with the checksum at a place
abbrev fields_at : ℕ → List ℕ → Option ItemRefusal
fields_at place bytes = fields (drop place bytes) (drop (place + 4) bytes) (drop (place + 8) bytes)

payload_refusal : (place : ℕ) (bytes : List ℕ) → result_err (payload_at (drop place bytes)) ≡ fields_at place bytes
unfolding payload_at
payload_refusal place bytes =
    let sum = drop place bytes in
    by_tests (not (eqb (number (drop 4 sum)) (length (drop 8 sum))) || ltb MAX_BLOB (number (drop 4 sum))) (not (eqb (number sum) (Sum (drop 8 sum)))) (drop 8 sum)
    ∙ ap (λ (size : List ℕ). fields sum size (drop 8 sum)) (drop-drop 4 place bytes) ∙ ap (λ (payload : List ℕ). fields sum (drop (place + 4) bytes) payload) (drop-drop 8 place bytes)
  where
    by_tests : (a b : Bool) (payload : List ℕ) → result_err (cond a (Err BadSize) (cond b (Err BadSum) (Ok payload))) ≡ cond a (Some BadSize) (cond b (Some BadSum) None)
    by_tests true b payload = refl
    by_tests false true payload = refl
    by_tests false false payload = refl

same_room : (m p k : ℕ) → p ≤ m → ltb (m - p) k ≡ ltb m (p + k)
same_room m p k le = grind (arith, nat_tests)

keys_refusal : (place : ℕ) (bytes : List ℕ) → place ≤ length bytes
    → result_err (keys_at (drop place bytes))
    ≡ cond (ltb MAX_KEYS (number_at place bytes) || ltb (length bytes) (place + (12 + 20 * number_at place bytes))) (Some BadCount) (fields_at (place + (4 + 20 * number_at place bytes)) bytes)
unfolding keys_at
keys_refusal place bytes le =
    let n = number_at place bytes in
    let room : ltb (length (drop place bytes)) (12 + 20 * n) ≡ ltb (length bytes) (place + (12 + 20 * n)) =
    ap (λ (k : ℕ). ltb k (12 + 20 * n)) (length-drop place bytes) ∙ same_room (length bytes) place (12 + 20 * n) le in
    by_test (ltb MAX_KEYS n || ltb (length (drop place bytes)) (12 + 20 * n)) (payload_at (drop (4 + 20 * n) (drop place bytes)))
    ∙ ap (λ (b : Bool). cond (ltb MAX_KEYS n || b) (Some BadCount) (result_err (payload_at (drop (4 + 20 * n) (drop place bytes))))) room
    ∙ ap (λ (x : List ℕ). cond (ltb MAX_KEYS n || ltb (length bytes) (place + (12 + 20 * n))) (Some BadCount) (result_err (payload_at x))) (drop-drop (4 + 20 * n) place bytes)
    ∙ ap (λ (o : Option ItemRefusal). cond (ltb MAX_KEYS n || ltb (length bytes) (place + (12 + 20 * n))) (Some BadCount) o) (payload_refusal (place + (4 + 20 * n)) bytes)
  where
    by_test : (a : Bool) (r : Result (List ℕ) ItemRefusal) → result_err (cond a (Err BadCount) r) ≡ cond a (Some BadCount) (result_err r)
    by_test true r = refl
    by_test false r = refl

-- the table from the type on
abbrev body_refusal : ℕ → List ℕ → Option ItemRefusal
body_refusal start bytes =
    cond (not (eqb (number_at start bytes) 0) && not (eqb (number_at start bytes) 1)) (Some BadType)
    (cond (eqb (number_at start bytes) 1 && (ltb MAX_KEYS (number_at (start + 4) bytes) || ltb (length bytes) (start + 16 + 20 * number_at (start + 4) bytes))) (Some BadCount)
    (fields_at (cond (eqb (number_at start bytes) 1) (start + 8 + 20 * number_at (start + 4) bytes) (start + 4)) bytes))

body_refuses : (start : ℕ) (bytes : List ℕ) → start + 12 ≤ length bytes → result_err (body_at (drop start bytes)) ≡ body_refusal start bytes
unfolding body_at
body_refuses start bytes long = by_kind (eqb (number_at start bytes) 0) (eqb (number_at start bytes) 1) refl refl
  where
    by_kind : (a b : Bool) → eqb (number_at start bytes) 0 ≡ a → eqb (number_at start bytes) 1 ≡ b
        → result_err (cond a (payload_at (drop 4 (drop start bytes))) (cond b (keys_at (drop 4 (drop start bytes))) (Err BadType)))
        ≡ cond (not a && not b) (Some BadType)
        (cond (b && (ltb MAX_KEYS (number_at (start + 4) bytes) || ltb (length bytes) (start + 16 + 20 * number_at (start + 4) bytes))) (Some BadCount)
        (fields_at (cond b (start + 8 + 20 * number_at (start + 4) bytes) (start + 4)) bytes))
    by_kind true true e f =
        let zero : number_at start bytes ≡ 0 = eqb-true _ _ e in
        let one : number_at start bytes ≡ 1 = eqb-true _ _ f in
        absurd (omega (arith, zero, one))
    by_kind true false e f = ap (λ (x : List ℕ). result_err (payload_at x)) (drop-drop 4 start bytes) ∙ payload_refusal (start + 4) bytes
    by_kind false true e f =
        let n = number_at (start + 4) bytes in
        let room : start + 4 + (12 + 20 * n) ≡ start + 16 + 20 * n = omega arith in
        let place : start + 4 + (4 + 20 * n) ≡ start + 8 + 20 * n = omega arith in
        ap (λ (x : List ℕ). result_err (keys_at x)) (drop-drop 4 start bytes)
        ∙ keys_refusal (start + 4) bytes (omega arith)
        ∙ ap (λ (k : ℕ). cond (ltb MAX_KEYS n || ltb (length bytes) k) (Some BadCount) (fields_at (start + 4 + (4 + 20 * n)) bytes)) room
        ∙ ap (λ (k : ℕ). cond (ltb MAX_KEYS n || ltb (length bytes) (start + 16 + 20 * n)) (Some BadCount) (fields_at k bytes)) place
    by_kind false false e f = refl

-- the table and the reading refuse the same, for the same cause
pub first_refusal_is : (front bytes : List ℕ) → first_refusal front bytes ≡ result_err (item_at front bytes)
unfolding rest_at
first_refusal_is front bytes = by_front (ltb (length bytes) (length front + 12)) (not (starts_with nat_eq bytes front)) refl
  where
    by_front : (a b : Bool) → ltb (length bytes) (length front + 12) ≡ a
        → cond a (Some Short) (cond b (Some OtherDriver) (body_refusal (length front) bytes))
        ≡ result_err (next_at (cond a (Err Short) (cond b (Err OtherDriver) (Ok (drop (length front) bytes)))) body_at)
    by_front true b e = refl
    by_front false true e = refl
    by_front false false e = sym (body_refuses (length front) bytes (ltb-false _ _ e))

-- the table knows nothing of memory
pub first_refusal_no_memory : (front bytes : List ℕ) → first_refusal front bytes ≢ Some NoMemory
first_refusal_no_memory front bytes =
    by_tests (is_short front bytes) (has_other_driver front bytes) (has_bad_type front bytes) (has_bad_count front bytes) (has_bad_size front bytes) (has_bad_sum front bytes)
  where
    by_tests : (a b c d e f : Bool)
        → cond a (Some Short) (cond b (Some OtherDriver) (cond c (Some BadType) (cond d (Some BadCount) (cond e (Some BadSize) (cond f (Some BadSum) None))))) ≢ Some NoMemory
    by_tests true b c d e f = λ h. cc
    by_tests false true c d e f = λ h. cc
    by_tests false false true d e f = λ h. cc
    by_tests false false false true e f = λ h. cc
    by_tests false false false false true f = λ h. cc
    by_tests false false false false false true = λ h. cc
    by_tests false false false false false false = λ h. cc
