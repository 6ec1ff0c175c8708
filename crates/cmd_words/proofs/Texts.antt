-- Texts as tests and as facts.
use Rattle.std.proofs.Common.{◌≡◌, ◌≢◌, ℕ, Bool, true, false, not, ◌&&◌, ◌==◌, List, [], ◌∷◌, length, refl, sym, ap, ap₂, ◌∙◌, true≢false, ne_eqb, le-leb}
use Rattle.std.specs.Prelude.{bytes_eq}
use Rattle.std.specs.List.{AllByRecursion, list_all}
use Rattle.std.specs.Bool.{Decides}
use Rattle.std.proofs.lemmas.Bool.{and_parts, leb-true, not-true}
use Rattle.std.proofs.lemmas.Bool.Decides.{same_from_decides}
use Rattle.std.proofs.lemmas.Slice.Eq.{bytes_eq-Decides}
use Rattle.cache_types.specs.Driver.{IsDriverText}
use Rattle.cmd_words.specs.Options.{is_driver_text}

-- other texts
pub unlike_text : (name text : List ℕ) → (text ≡ name → ⊥) → bytes_eq name text ≡ false
unlike_text name text other = go (bytes_eq name text) refl
  where
    go : (b : Bool) → bytes_eq name text ≡ b → b ≡ false
    go true e = absurd (other (sym ((bytes_eq-Decides name text).0 e)))
    go false e = refl

no_zero : (text : List ℕ) → list_all (λ byte. not (byte == 0)) text ≡ true → AllByRecursion (λ b. b ≢ 0) text
no_zero [] all = tt
no_zero (byte ∷ text) all =
    let parts = and_parts _ _ all in
    (λ e. true≢false (sym (ne_or byte e) ∙ not-true _ parts.0), no_zero text parts.1)
  where
    ne_or : (byte : ℕ) → byte ≡ 0 → (byte == 0) ≡ true
    ne_or byte e = ap (λ (b : ℕ). b == 0) e

all_nonzero : (text : List ℕ) → AllByRecursion (λ b. b ≢ 0) text → list_all (λ byte. not (byte == 0)) text ≡ true
all_nonzero [] all = refl
all_nonzero (byte ∷ text) all = ap₂ (λ (a b : Bool). not a && b) (ne_eqb byte 0 all.0) (all_nonzero text all.1)

-- a text that can stand in a driver
pub driver_text : (text : List ℕ) → Decides (is_driver_text text) (IsDriverText text)
driver_text text = (
  λ is. let parts = and_parts _ _ is in (leb-true (length text) 255 parts.0, no_zero text parts.1),
  λ is. ap₂ (λ (a b : Bool). a && b) (le-leb (length text) 255 is.0) (all_nonzero text is.1),
)

pub driver_text_is : (text : List ℕ) (told : Bool) → (told ≡ true → IsDriverText text) → (IsDriverText text → told ≡ true) → told ≡ is_driver_text text
driver_text_is text told to from = same_from_decides told (is_driver_text text) (to, from) (driver_text text)
