-- What is read as an item is spelled so.
use Rattle.std.proofs.Common.{◌≡◌, ◌≢◌, ℕ, ◌+◌, ◌*◌, ◌≤◌, Bool, true, false, not, ◌||◌, cond, eqb, ltb, List, ◌++◌, length, take, drop, Ok, Err, refl, sym, ap, subst, ◌∙◌, append_assoc, arith}
use Rattle.std.specs.Prelude.{nat_eq, IsOk}
use Rattle.std.specs.List.{starts_with}
use Rattle.std.specs.Cmp.Lexicographic.{bytes_decides}
use Rattle.std.specs.Int.{w32, to_le_bytes}
use Rattle.std.proofs.lemmas.Bool.{ltb-false, eqb-true}
use Rattle.std.proofs.lemmas.List.{drop-drop, take_all, take-append-drop, length-take-le, length-drop}
use Rattle.cache_types.specs.declared.limits.TheConstants.{MAX_KEYS, MAX_BLOB}
use Rattle.cache_types.specs.declared.key.Key.{Key}
use Rattle.cache_types.specs.declared.meta.Meta.{Meta}
use Rattle.cache_types.specs.declared.meta.Meta.TheVariants.{Unknown, Glsl}
use Rattle.crc_small.specs.Sum.{Sum}
use Rattle.item_frame.specs.declared.refusal.ItemRefusal.TheVariants.{BadType, BadCount}
use Rattle.item_frame.specs.Item.{meta_bytes, payload_bytes, IsMeta}
use Rattle.item_frame.specs.Reading.{number, payload_at, keys_at, body_at, rest_at, keys_in, keys_from, meta_at}
use Rattle.item_frame.proofs.Numbers.{IsBytes, IsBytes-drop, number_then, drop_4_4, passed, or_false, not_false, same_blob}
use Rattle.item_frame.proofs.KeysLaws.{flat, keys_in_is, length-keys_from, AreWhole-keys_from, flat-keys_from}

-- what stands behind the driver keys blob
pub record IsBody (bytes : List ℕ) (meta : Meta) (blob : List ℕ) : Type 0 where
  pub fits : IsMeta meta
  pub size : length blob ≤ MAX_BLOB
  pub whole : bytes ≡ meta_bytes meta ++ payload_bytes blob

payload_takes : (bytes blob : List ℕ) → IsBytes bytes → 8 ≤ length bytes → payload_at bytes ≡ Ok blob → (bytes ≡ payload_bytes blob) × (length blob ≤ MAX_BLOB)
unfolding payload_at
payload_takes bytes blob fit long reads =
    let rest = drop 4 bytes in
    let payload = drop 8 bytes in
    let sized = passed (not (eqb (number rest) (length payload)) || ltb MAX_BLOB (number rest)) _ _ blob reads in
    let summed = passed (not (eqb (number bytes) (Sum payload))) _ _ blob sized.1 in
    let in_size = or_false _ _ sized.0 in
    let size : number rest ≡ length payload = eqb-true _ _ (not_false _ in_size.0) in
    let small : number rest ≤ MAX_BLOB = ltb-false _ _ in_size.1 in
    let sum : number bytes ≡ Sum payload = eqb-true _ _ (not_false _ summed.0) in
    let blob_is : payload ≡ blob = same_blob _ _ summed.1 in
    let second : rest ≡ to_le_bytes w32 (length payload) ++ payload =
    number_then rest (IsBytes-drop 4 bytes fit) (omega (arith, length-drop 4 bytes)) ∙ ap (λ (x : List ℕ). to_le_bytes w32 (number rest) ++ x) (drop_4_4 bytes) ∙ ap (λ (n : ℕ). to_le_bytes w32 n ++ payload) size in
    let whole : bytes ≡ payload_bytes payload =
    number_then bytes fit (omega arith) ∙ ap (λ (n : ℕ). to_le_bytes w32 n ++ rest) sum ∙ ap (λ (x : List ℕ). to_le_bytes w32 (Sum payload) ++ x) second in
    (whole ∙ ap payload_bytes blob_is, subst (λ (x : List ℕ). length x ≤ MAX_BLOB) blob_is (omega (arith, size, small)))

keys_take : (bytes blob : List ℕ) → IsBytes bytes → 8 ≤ length bytes → keys_at bytes ≡ Ok blob
    → IsBody (to_le_bytes w32 1 ++ bytes) (Glsl (keys_in (take (20 * number bytes) (drop 4 bytes)))) blob
unfolding keys_at
keys_take bytes blob fit eight reads =
    let n = number bytes in
    let rest = drop 4 bytes in
    let part = take (20 * n) rest in
    let counted = passed (ltb MAX_KEYS n || ltb (length bytes) (12 + 20 * n)) _ _ blob reads in
    let in_count = or_false _ _ counted.0 in
    let few : n ≤ MAX_KEYS = ltb-false _ _ in_count.0 in
    let long : 12 + 20 * n ≤ length bytes = ltb-false _ _ in_count.1 in
    let tail = drop (4 + 20 * n) bytes in
    let behind = payload_takes tail blob (IsBytes-drop (4 + 20 * n) bytes fit) (omega (arith, length-drop (4 + 20 * n) bytes)) counted.1 in
    let part_len : length part ≡ 20 * n = length-take-le (20 * n) rest (omega (arith, length-drop 4 bytes)) in
    let keys_are : keys_in part ≡ keys_from n part = keys_in_is n part part_len in
    let count : length (keys_from n part) ≡ n = length-keys_from n part in
    let spelled : part ≡ flat (keys_from n part) = sym (flat-keys_from n part ∙ take_all (20 * n) part (omega (arith, part_len))) in
    let parts : rest ≡ flat (keys_from n part) ++ payload_bytes blob =
    sym (take-append-drop (20 * n) rest) ∙ ap (λ (x : List ℕ). x ++ drop (20 * n) rest) spelled ∙ ap (λ (x : List ℕ). flat (keys_from n part) ++ x) (drop-drop (20 * n) 4 bytes ∙ behind.0) in
    let body : bytes ≡ to_le_bytes w32 (length (keys_from n part)) ++ (flat (keys_from n part) ++ payload_bytes blob) =
    number_then bytes fit (omega arith) ∙ ap (λ (k : ℕ). to_le_bytes w32 k ++ rest) (sym count) ∙ ap (λ (x : List ℕ). to_le_bytes w32 (length (keys_from n part)) ++ x) parts in
    let made : IsBody (to_le_bytes w32 1 ++ bytes) (Glsl (keys_from n part)) blob = record {
      fits = (omega (arith, few, count), AreWhole-keys_from n part (omega (arith, part_len)));
      size = behind.1;
      whole = ap (λ (x : List ℕ). to_le_bytes w32 1 ++ x) (body ∙ sym (append_assoc (to_le_bytes w32 (length (keys_from n part))) (flat (keys_from n part)) (payload_bytes blob))) ∙ sym (append_assoc (to_le_bytes w32 1) (to_le_bytes w32 (length (keys_from n part)) ++ flat (keys_from n part)) (payload_bytes blob));
    } in
    subst (λ (keys : List Key). IsBody (to_le_bytes w32 1 ++ bytes) (Glsl keys) blob) (sym keys_are) made

pub body_takes : (bytes blob : List ℕ) → IsBytes bytes → 12 ≤ length bytes → body_at bytes ≡ Ok blob → IsBody bytes (meta_at bytes) blob
unfolding body_at meta_at
body_takes bytes blob fit long reads = by_kind (eqb (number bytes) 0) (eqb (number bytes) 1) refl refl reads
  where
    rest : List ℕ
    rest = drop 4 bytes

    keys : List Key
    keys = keys_in (take (20 * number (drop 4 bytes)) (drop 8 bytes))

    by_kind : (a b : Bool) → eqb (number bytes) 0 ≡ a → eqb (number bytes) 1 ≡ b → cond a (payload_at (drop 4 bytes)) (cond b (keys_at (drop 4 bytes)) (Err BadType)) ≡ Ok blob
        → IsBody bytes (cond a Unknown (Glsl (keys_in (take (20 * number (drop 4 bytes)) (drop 8 bytes))))) blob
    by_kind true b e f h =
        let behind = payload_takes (drop 4 bytes) blob (IsBytes-drop 4 bytes fit) (omega (arith, length-drop 4 bytes)) h in
        record {
          fits = tt;
          size = behind.1;
          whole = number_then bytes fit (omega arith) ∙ ap (λ (n : ℕ). to_le_bytes w32 n ++ drop 4 bytes) (eqb-true _ _ e) ∙ ap (λ (x : List ℕ). to_le_bytes w32 0 ++ x) behind.0;
        }
    by_kind false true e f h =
        let is : to_le_bytes w32 1 ++ drop 4 bytes ≡ bytes = sym (number_then bytes fit (omega arith) ∙ ap (λ (n : ℕ). to_le_bytes w32 n ++ drop 4 bytes) (eqb-true _ _ f)) in
        let body = keys_take (drop 4 bytes) blob (IsBytes-drop 4 bytes fit) (omega (arith, length-drop 4 bytes)) h in
        let placed = subst (λ (x : List ℕ). IsBody (to_le_bytes w32 1 ++ drop 4 bytes) (Glsl (keys_in (take (20 * number (drop 4 bytes)) x))) blob) (drop_4_4 bytes) body in
        subst (λ (x : List ℕ). IsBody x (Glsl (keys_in (take (20 * number (drop 4 bytes)) (drop 8 bytes)))) blob) is placed
    by_kind false false e f h = absurd cc

-- what stands behind this front
pub front_takes : (front bytes rest : List ℕ) → rest_at front bytes ≡ Ok rest → (bytes ≡ front ++ rest) × (12 ≤ length rest) × (rest ≡ drop (length front) bytes)
unfolding rest_at
front_takes front bytes rest reads =
    let sized = passed (ltb (length bytes) (length front + 12)) _ _ rest reads in
    let fronted = passed (not (starts_with nat_eq bytes front)) _ _ rest sized.1 in
    let long : length front + 12 ≤ length bytes = ltb-false _ _ sized.0 in
    let front_is : front ≡ take (length front) bytes = (bytes_decides front (take (length front) bytes)).0 (not_false _ fronted.0) in
    let rest_is : drop (length front) bytes ≡ rest = same_blob _ _ fronted.1 in
    let whole : bytes ≡ front ++ rest =
    sym (take-append-drop (length front) bytes) ∙ ap (λ (x : List ℕ). x ++ drop (length front) bytes) (sym front_is) ∙ ap (λ (x : List ℕ). front ++ x) rest_is in
    (whole, omega (arith, ap length rest_is, length-drop (length front) bytes), sym rest_is)

-- in a body that reads and isn't of type 0, all keys are there
pub keys_fit : (bytes : List ℕ) → 12 ≤ length bytes → IsOk (body_at bytes) → number bytes ≢ 0 → 8 + 20 * number (drop 4 bytes) ≤ length bytes
unfolding body_at keys_at
keys_fit bytes long right other = by_kind (eqb (number bytes) 0) (eqb (number bytes) 1) refl right
  where
    by_count : (a b : Bool) → ltb (length (drop 4 bytes)) (12 + 20 * number (drop 4 bytes)) ≡ b → IsOk (cond (a || b) (Err BadCount) (payload_at (drop (4 + 20 * number (drop 4 bytes)) (drop 4 bytes)))) → 8 + 20 * number (drop 4 bytes) ≤ length bytes
    by_count true b e h = absurd cc
    by_count false true e h = absurd cc
    by_count false false e h = omega (arith, ltb-false _ _ e, length-drop 4 bytes)

    by_kind : (a b : Bool) → eqb (number bytes) 0 ≡ a → IsOk (cond a (payload_at (drop 4 bytes)) (cond b (keys_at (drop 4 bytes)) (Err BadType))) → 8 + 20 * number (drop 4 bytes) ≤ length bytes
    by_kind true b e h = absurd (other (eqb-true _ _ e))
    by_kind false true e h = by_count (ltb MAX_KEYS (number (drop 4 bytes))) (ltb (length (drop 4 bytes)) (12 + 20 * number (drop 4 bytes))) refl h
    by_kind false false e h = absurd cc
