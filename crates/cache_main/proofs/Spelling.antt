-- Keys that stand between commas.
use Rattle.std.proofs.Common.{◌≡◌, ◌+◌, ◌<◌, ℕ, List, [], ◌∷◌, ◌++◌, length, get_or, map, take, Result, Ok, zero, suc, refl, sym, ap, subst, ◌∙◌, arith}
use Rattle.std.specs.List.{AllByRecursion}
use Rattle.std.proofs.lemmas.List.{take_more, map-append}
use Rattle.hex.specs.declared.error.FromHexError.{FromHexError}
use Rattle.hex.specs.Hex.{decode_of}
use Rattle.cache_key.specs.Digits.{IsKeyText, Spells}
use Rattle.cache_types.specs.declared.key.Key.{Key}
use Rattle.cache_main.specs.Keys.{SpellEach}

abbrev pub AllKeys : List (List ℕ) → Type 0
AllKeys texts = AllByRecursion IsKeyText texts

-- the texts are keys, and spell these
pub record AreSpelled (texts : List (List ℕ)) (keys : List Key) : Type 0 where
  pub good : AllKeys texts
  pub spell : SpellEach texts keys

pub none_spelled : AreSpelled [] []
none_spelled = record { good = tt; spell = refl }

one_more : (texts : List (List ℕ)) (text : List ℕ) → AllKeys texts → IsKeyText text → AllKeys (texts ++ text ∷ [])
one_more [] text all is = (is, tt)
one_more (t ∷ texts) text all is = (all.0, one_more texts text all.1 is)

-- the bytes of a key, as a text that spells it decodes
abbrev bytes_ok : Key → Result (List ℕ) FromHexError
bytes_ok key = Ok key.bytes

spell_more : (texts : List (List ℕ)) (text : List ℕ) (keys : List Key) (key : Key) → SpellEach texts keys → Spells text key → SpellEach (texts ++ text ∷ []) (keys ++ key ∷ [])
spell_more texts text keys key each spells =
    let left = map-append decode_of texts (text ∷ []) in
    let right = map-append bytes_ok keys (key ∷ []) in
    left ∙ ap (λ (rs : List (Result (List ℕ) FromHexError)). rs ++ decode_of text ∷ []) each ∙ ap (λ (r : Result (List ℕ) FromHexError). map bytes_ok keys ++ r ∷ []) spells ∙ sym right

pub spelled_more : (parts : List (List ℕ)) (n m : ℕ) (keys : List Key) (piece : List ℕ) (key : Key) → n < length parts → piece ≡ get_or parts n piece → m ≡ n + 1 → IsKeyText piece → Spells piece key
    → AreSpelled (take n parts) keys → AreSpelled (take m parts) (keys ++ key ∷ [])
spelled_more parts n m keys piece key within at next is spells before =
    let whole : take n parts ++ piece ∷ [] ≡ take m parts = ap (λ (p : List ℕ). take n parts ++ p ∷ []) at ∙ sym (take_more parts n piece within) ∙ ap (λ (k : ℕ). take k parts) (sym next) in
    subst (λ (texts : List (List ℕ)). AreSpelled texts (keys ++ key ∷ [])) whole (record { good = one_more (take n parts) piece before.good is; spell = spell_more (take n parts) piece keys key before.spell spells })

-- each of some keys is one
key_at : (texts : List (List ℕ)) (n : ℕ) (d : List ℕ) → AllKeys texts → n < length texts → IsKeyText (get_or texts n d)
key_at [] n d all within = absurd (omega arith)
key_at (t ∷ texts) zero d all within = all.0
key_at (t ∷ texts) (suc n) d all within = key_at texts n d all.1 (omega arith)

pub not_all : (texts : List (List ℕ)) (n : ℕ) (text : List ℕ) → n < length texts → text ≡ get_or texts n text → (IsKeyText text → ⊥) → AllKeys texts → ⊥
not_all texts n text within at is_not all = is_not (subst IsKeyText (sym at) (key_at texts n text all within))
