-- What is spelled as an item is read.
use Rattle.std.proofs.Common.{◌≡◌, ℕ, ◌+◌, ◌*◌, ◌^◌, ◌<◌, ◌≤◌, true, false, eqb, ltb, List, ◌++◌, length, take, drop, Result, Ok, refl, sym, ap, ◌∙◌, append_assoc, arith}
use Rattle.std.specs.Prelude.{nat_eq}
use Rattle.std.specs.List.{starts_with}
use Rattle.std.specs.Cmp.Lexicographic.{bytes_decides}
use Rattle.std.specs.Int.{w32, to_le_bytes}
use Rattle.std.proofs.lemmas.Bool.{le-ltb, eq-eqb}
use Rattle.std.proofs.lemmas.List.{drop-drop, take_at, drop_at, length-append}
use Rattle.cache_types.specs.declared.limits.TheConstants.{MAX_KEYS, MAX_BLOB}
use Rattle.cache_types.specs.declared.key.Key.{Key}
use Rattle.cache_types.specs.declared.meta.Meta.{Meta}
use Rattle.cache_types.specs.declared.meta.Meta.TheVariants.{Unknown, Glsl}
use Rattle.crc_small.specs.Sum.{Sum}
use Rattle.item_frame.specs.declared.refusal.ItemRefusal.{ItemRefusal}
use Rattle.item_frame.specs.Item.{meta_bytes, payload_bytes, IsMeta}
use Rattle.item_frame.specs.Reading.{number, payload_at, keys_at, body_at, next_at, rest_at, item_at, keys_in, meta_at}
use Rattle.item_frame.proofs.Numbers.{blob_read, number_again, after_number, drop_4_4}
use Rattle.item_frame.proofs.KeysLaws.{flat, AreWhole, length-flat, keys_in-flat}

pub Sum_fits : (blob : List ℕ) → Sum blob < 2 ^ 32
Sum_fits blob = omega arith

payload_again : (blob : List ℕ) → length blob ≤ MAX_BLOB → payload_at (payload_bytes blob) ≡ Ok blob
unfolding payload_at
payload_again blob small =
    let bytes = payload_bytes blob in
    let rest : drop 4 bytes ≡ to_le_bytes w32 (length blob) ++ blob = after_number (Sum blob) (to_le_bytes w32 (length blob) ++ blob) in
    let size : number (drop 4 bytes) ≡ length blob = ap number rest ∙ number_again (length blob) blob (omega arith) in
    let tail : drop 8 bytes ≡ blob = sym (drop_4_4 bytes) ∙ ap (drop 4) rest ∙ after_number (length blob) blob in
    let same : eqb (number (drop 4 bytes)) (length (drop 8 bytes)) ≡ true = eq-eqb _ _ (size ∙ sym (ap length tail)) in
    let fits : ltb MAX_BLOB (number (drop 4 bytes)) ≡ false = le-ltb _ _ (omega (arith, size)) in
    let sums : eqb (number bytes) (Sum (drop 8 bytes)) ≡ true = eq-eqb _ _ (number_again (Sum blob) (to_le_bytes w32 (length blob) ++ blob) (Sum_fits blob) ∙ sym (ap Sum tail)) in
    rw (same, fits, sums) (ap blob_read tail)

keys_again : (keys : List Key) (blob : List ℕ) → length keys ≤ MAX_KEYS → AreWhole keys → length blob ≤ MAX_BLOB
    → keys_at (to_le_bytes w32 (length keys) ++ (flat keys ++ payload_bytes blob)) ≡ Ok blob
unfolding keys_at
keys_again keys blob few whole small =
    let n = length keys in
    let rest = flat keys ++ payload_bytes blob in
    let bytes = to_le_bytes w32 n ++ rest in
    let count : number bytes ≡ n = number_again n rest (omega arith) in
    let flat_len : length (flat keys) ≡ 20 * n = length-flat keys whole in
    let len : length bytes ≡ 12 + 20 * n + length blob = omega (arith, length-append (flat keys) (payload_bytes blob), flat_len) in
    let not_many : ltb MAX_KEYS (number bytes) ≡ false = le-ltb _ _ (omega (arith, count)) in
    let room : ltb (length bytes) (12 + 20 * number bytes) ≡ false = le-ltb _ _ (omega (arith, len, count)) in
    let tail : drop (4 + 20 * number bytes) bytes ≡ payload_bytes blob =
    sym (drop-drop (20 * number bytes) 4 bytes) ∙ ap (drop (20 * number bytes)) (after_number n rest) ∙ drop_at (flat keys) (payload_bytes blob) (20 * number bytes) (omega (arith, count, flat_len)) in
    rw (not_many, room) (ap payload_at tail ∙ payload_again blob small)

-- Each step over plain variables: at the bytes themselves the definitions would compute to single cells.
unknown_step : (bytes : List ℕ) → number bytes ≡ 0 → body_at bytes ≡ payload_at (drop 4 bytes)
unfolding body_at
unknown_step bytes e = rw (eq-eqb (number bytes) 0 e) refl

glsl_step : (bytes : List ℕ) → number bytes ≡ 1 → body_at bytes ≡ keys_at (drop 4 bytes)
unfolding body_at
glsl_step bytes e =
    let other : eqb (number bytes) 0 ≡ false = rw e refl in
    rw (other, eq-eqb (number bytes) 1 e) refl

-- the front is passed
pub front_again : (front rest : List ℕ) → 12 ≤ length rest → rest_at front (front ++ rest) ≡ Ok rest
unfolding rest_at
front_again front rest long =
    let sized : ltb (length (front ++ rest)) (length front + 12) ≡ false = le-ltb _ _ (omega (arith, length-append front rest)) in
    let begins : starts_with nat_eq (front ++ rest) front ≡ true = (bytes_decides front (take (length front) (front ++ rest))).1 (sym (take_at front rest (length front) refl)) in
    rw (sized, begins) (ap blob_read (drop_at front rest (length front) refl))

-- what stands behind the type of a GLSL item
abbrev behind : List Key → List ℕ → List ℕ
behind keys tail = to_le_bytes w32 (length keys) ++ (flat keys ++ tail)

regrouped : (keys : List Key) (tail : List ℕ) → meta_bytes (Glsl keys) ++ tail ≡ to_le_bytes w32 1 ++ behind keys tail
regrouped keys tail =
    let head = to_le_bytes w32 (length keys) in
    append_assoc (to_le_bytes w32 1) (head ++ flat keys) tail ∙ ap (λ (x : List ℕ). to_le_bytes w32 1 ++ x) (append_assoc head (flat keys) tail)

pub body_again : (meta : Meta) (blob : List ℕ) → IsMeta meta → length blob ≤ MAX_BLOB → body_at (meta_bytes meta ++ payload_bytes blob) ≡ Ok blob
body_again Unknown blob fits small =
    unknown_step (to_le_bytes w32 0 ++ payload_bytes blob) (number_again 0 (payload_bytes blob) (omega arith)) ∙ ap payload_at (after_number 0 (payload_bytes blob)) ∙ payload_again blob small
body_again (Glsl keys) blob fits small =
    let rest = behind keys (payload_bytes blob) in
    ap body_at (regrouped keys (payload_bytes blob)) ∙ glsl_step (to_le_bytes w32 1 ++ rest) (number_again 1 rest (omega arith)) ∙ ap keys_at (after_number 1 rest) ∙ keys_again keys blob fits.0 fits.1 small

pub length-meta : (meta : Meta) → 4 ≤ length (meta_bytes meta)
length-meta Unknown = omega arith
length-meta (Glsl keys) = omega (arith, length-append (to_le_bytes w32 (length keys)) (flat keys))

-- what is spelled so is read
pub item_again : (front : List ℕ) (meta : Meta) (blob : List ℕ) → IsMeta meta → length blob ≤ MAX_BLOB → item_at front (front ++ (meta_bytes meta ++ payload_bytes blob)) ≡ Ok blob
item_again front meta blob fits small =
    let body = meta_bytes meta ++ payload_bytes blob in
    let fronted = front_again front body (omega (arith, length-append (meta_bytes meta) (payload_bytes blob), length-meta meta)) in
    ap (λ (r : Result (List ℕ) ItemRefusal). next_at r body_at) fronted ∙ body_again meta blob fits small

-- ---- the meta

no_meta : (bytes : List ℕ) → number bytes ≡ 0 → meta_at bytes ≡ Unknown
unfolding meta_at
no_meta bytes e = rw (eq-eqb (number bytes) 0 e) refl

some_meta : (bytes : List ℕ) → number bytes ≡ 1 → meta_at bytes ≡ Glsl (keys_in (take (20 * number (drop 4 bytes)) (drop 8 bytes)))
unfolding meta_at
some_meta bytes e = let other : eqb (number bytes) 0 ≡ false = rw e refl in rw other refl

-- the meta that is spelled is read
pub meta_again : (meta : Meta) (tail : List ℕ) → IsMeta meta → meta_at (meta_bytes meta ++ tail) ≡ meta
meta_again Unknown tail fits = no_meta (to_le_bytes w32 0 ++ tail) (number_again 0 tail (omega arith))
meta_again (Glsl keys) tail fits =
    let bytes = to_le_bytes w32 1 ++ behind keys tail in
    let n = length keys in
    let second : drop 4 bytes ≡ behind keys tail = after_number 1 (behind keys tail) in
    let count : number (drop 4 bytes) ≡ n = ap number second ∙ number_again n (flat keys ++ tail) (omega (arith, fits.0)) in
    let third : drop 8 bytes ≡ flat keys ++ tail = sym (drop_4_4 bytes) ∙ ap (drop 4) second ∙ after_number n (flat keys ++ tail) in
    let part : take (20 * number (drop 4 bytes)) (drop 8 bytes) ≡ flat keys =
    ap (λ (x : List ℕ). take (20 * number (drop 4 bytes)) x) third ∙ take_at (flat keys) tail (20 * number (drop 4 bytes)) (omega (arith, count, length-flat keys fits.1)) in
    ap meta_at (regrouped keys tail) ∙ some_meta bytes (number_again 1 (behind keys tail) (omega arith)) ∙ ap (λ (x : List ℕ). Glsl (keys_in x)) part ∙ ap Glsl (keys_in-flat keys fits.1)
