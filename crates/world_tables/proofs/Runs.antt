-- Bytes that are written one after another.
use Rattle.std.proofs.Common.{◌≡◌, ◌<◌, ◌∙◌, ℕ, zero, suc, ◌+◌, List, [], ◌∷◌, ◌++◌, length, get_or, take, refl, ap, sym, arith}
use Rattle.cache_types.specs.declared.seat.Who.{Who}
use Rattle.file_log.specs.declared.item.LogItem.{LogItem}
use Rattle.file_log.specs.declared.item.LogItem.TheVariants.{Byte}
use Rattle.file_log.specs.Exchange.{byte_items}

-- one byte more
pub byte_items-more : (who : Who) (slot at n : ℕ) (values : List ℕ) (value : ℕ) → at + length values ≡ n → byte_items who slot at (values ++ value ∷ []) ≡ byte_items who slot at values ++ Byte who slot n value ∷ []
byte_items-more who slot at n [] value e = let f : at ≡ n = omega (arith, e) in ap (λ (k : ℕ). Byte who slot k value ∷ []) f
byte_items-more who slot at n (v ∷ values) value e = ap (λ (log : List LogItem). Byte who slot at v ∷ log) (byte_items-more who slot (at + 1) n values value (omega (arith, e)))

pub length-byte_items : (who : Who) (slot at : ℕ) (values : List ℕ) → length (byte_items who slot at values) ≡ length values
length-byte_items who slot at [] = refl
length-byte_items who slot at (value ∷ values) = omega (arith, length-byte_items who slot (at + 1) values)

-- one byte more of a list of them
pub byte_items-next : (who : Who) (slot at n m : ℕ) (values : List ℕ) → n < length values → m ≡ n + 1 → byte_items who slot at (take m values) ≡ byte_items who slot at (take n values) ++ Byte who slot (at + n) (get_or values n 0) ∷ []
byte_items-next who slot at n m [] less e = absurd (omega (arith, less))
byte_items-next who slot at n zero (value ∷ values) less e = absurd (omega (arith, e))
byte_items-next who slot at zero (suc m) (value ∷ values) less e =
    let none : m ≡ 0 = omega (arith, e) in
    let here : at ≡ at + 0 = omega arith in
    ap (λ (k : ℕ). Byte who slot at value ∷ byte_items who slot (at + 1) (take k values)) none ∙ ap (λ (k : ℕ). Byte who slot k value ∷ []) here
byte_items-next who slot at (suc n) (suc m) (value ∷ values) less e =
    let there : at + 1 + n ≡ at + suc n = omega arith in
    ap (λ (log : List LogItem). Byte who slot at value ∷ log)
    (byte_items-next who slot (at + 1) n m values (omega (arith, less)) (omega (arith, e)) ∙ ap (λ (k : ℕ). byte_items who slot (at + 1) (take n values) ++ Byte who slot k (get_or values n 0) ∷ []) there)

-- the first of them
pub byte_items-take : (who : Who) (slot at n : ℕ) (values : List ℕ) → byte_items who slot at (take n values) ≡ take n (byte_items who slot at values)
byte_items-take who slot at zero values = ap (λ (vs : List ℕ). byte_items who slot at vs) (none values) ∙ sym (none (byte_items who slot at values))
  where
    none : {A : Type 0} (xs : List A) → take zero xs ≡ []
    none [] = refl
    none (x ∷ xs) = refl
byte_items-take who slot at (suc n) [] = refl
byte_items-take who slot at (suc n) (value ∷ values) = ap (λ (log : List LogItem). Byte who slot at value ∷ log) (byte_items-take who slot (at + 1) n values)
