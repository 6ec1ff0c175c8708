-- Keys and their bytes, one after another.
use Rattle.std.proofs.Common.{◌≡◌, ℕ, zero, suc, ◌+◌, ◌*◌, ◌/◌, ◌≤◌, List, [], ◌∷◌, ◌++◌, length, take, drop, refl, sym, ap, ◌∙◌, append_assoc, take-add, arith}
use Rattle.std.specs.List.{flat_map, AllByRecursion}
use Rattle.std.proofs.lemmas.List.{append-nil, take_at, drop_at, length-append, length-take-le, length-drop}
use Rattle.cache_types.specs.declared.key.Key.{Key}
use Rattle.item_frame.specs.Reading.{keys_from, keys_in}

abbrev pub flat : List Key → List ℕ
flat keys = flat_map (λ key. key.bytes) keys

-- each key has all its bytes
abbrev pub AreWhole : List Key → Type 0
AreWhole keys = AllByRecursion (λ key. length key.bytes ≡ 20) keys

pub keys_in_is : (n : ℕ) (bytes : List ℕ) → length bytes ≡ 20 * n → keys_in bytes ≡ keys_from n bytes
keys_in_is n bytes e =
    let count : length bytes / 20 ≡ n = omega arith in
    ap (λ (k : ℕ). keys_from k bytes) count

pub length-keys_from : (n : ℕ) (bytes : List ℕ) → length (keys_from n bytes) ≡ n
unfolding keys_from
length-keys_from zero bytes = refl
length-keys_from (suc n) bytes = ap suc (length-keys_from n (drop 20 bytes))

pub AreWhole-keys_from : (n : ℕ) (bytes : List ℕ) → 20 * n ≤ length bytes → AreWhole (keys_from n bytes)
unfolding keys_from
AreWhole-keys_from zero bytes long = tt
AreWhole-keys_from (suc n) bytes long = (length-take-le 20 bytes (omega arith), AreWhole-keys_from n (drop 20 bytes) (omega (arith, length-drop 20 bytes)))

pub flat-keys_from : (n : ℕ) (bytes : List ℕ) → flat (keys_from n bytes) ≡ take (20 * n) bytes
unfolding keys_from
flat-keys_from zero bytes = refl
flat-keys_from (suc n) bytes =
    let more : 20 * suc n ≡ 20 + 20 * n = omega arith in
    ap (λ (rest : List ℕ). take 20 bytes ++ rest) (flat-keys_from n (drop 20 bytes)) ∙ sym (ap (λ (k : ℕ). take k bytes) more ∙ take-add 20 (20 * n) bytes)

pub length-flat : (keys : List Key) → AreWhole keys → length (flat keys) ≡ 20 * length keys
length-flat [] whole = refl
length-flat (key ∷ keys) whole = omega (arith, length-append key.bytes (flat keys), whole.0, length-flat keys whole.1)

-- keys that were written are read
pub keys_from-flat : (keys : List Key) → AreWhole keys → keys_from (length keys) (flat keys) ≡ keys
unfolding keys_from
keys_from-flat [] whole = refl
keys_from-flat (key ∷ keys) whole =
    let first : take 20 (key.bytes ++ flat keys) ≡ key.bytes = take_at key.bytes (flat keys) 20 whole.0 in
    let rest : drop 20 (key.bytes ++ flat keys) ≡ flat keys = drop_at key.bytes (flat keys) 20 whole.0 in
    rw (first, rest) (ap (λ (more : List Key). key ∷ more) (keys_from-flat keys whole.1))

pub keys_in-flat : (keys : List Key) → AreWhole keys → keys_in (flat keys) ≡ keys
keys_in-flat keys whole = keys_in_is (length keys) (flat keys) (length-flat keys whole) ∙ keys_from-flat keys whole

-- one key more: what a loop over the keys keeps
pub keys_in_more : (bytes : List ℕ) → 20 ≤ length bytes → keys_in bytes ≡ record { bytes = take 20 bytes } ∷ keys_in (drop 20 bytes)
unfolding keys_from
keys_in_more bytes long =
    let count : length bytes / 20 ≡ suc (length (drop 20 bytes) / 20) = omega (arith, length-drop 20 bytes) in
    ap (λ (k : ℕ). keys_from k bytes) count

pub keys_in_none : (bytes : List ℕ) → suc (length bytes) ≤ 20 → keys_in bytes ≡ []
unfolding keys_from
keys_in_none bytes short =
    let count : length bytes / 20 ≡ 0 = omega arith in
    ap (λ (k : ℕ). keys_from k bytes) count

-- one turn of a loop over the keys
pub keys_in_step : (before after whole : List Key) (key more rest : List ℕ) → after ≡ before ++ record { bytes = key } ∷ [] → key ≡ take 20 rest → more ≡ drop 20 rest → 20 ≤ length rest
    → before ++ keys_in rest ≡ whole → after ++ keys_in more ≡ whole
keys_in_step before after whole key more rest pushed front back long so_far =
    ap (λ (keys : List Key). keys ++ keys_in more) pushed
    ∙ append_assoc before (record { bytes = key } ∷ []) (keys_in more)
    ∙ ap (λ (k : List ℕ). before ++ record { bytes = k } ∷ keys_in more) front
    ∙ ap (λ (x : List ℕ). before ++ record { bytes = take 20 rest } ∷ keys_in x) back
    ∙ ap (λ (keys : List Key). before ++ keys) (sym (keys_in_more rest long)) ∙ so_far

-- and its end
pub keys_in_end : (keys whole : List Key) (rest : List ℕ) → suc (length rest) ≤ 20 → keys ++ keys_in rest ≡ whole → keys ≡ whole
keys_in_end keys whole rest short so_far = sym (append-nil keys) ∙ ap (λ (x : List Key). keys ++ x) (sym (keys_in_none rest short)) ∙ so_far
