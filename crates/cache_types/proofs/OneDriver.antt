-- At most one driver's blob stands in front of the same bytes.
use Rattle.std.proofs.Common.{◌≡◌, ◌↔◌, Bool, IsTrue, ◌≢◌, ℕ, List, [], ◌∷◌, ◌++◌, get_or, take, drop, refl, sym, ap, ◌∙◌}
use Rattle.std.specs.Prelude.{nat_eq}
use Rattle.std.specs.List.{AllByRecursion}
use Rattle.std.specs.Cmp.Lexicographic.{pointwise, bytes_decides}
use Rattle.std.specs.Int.{w64, to_le_bytes, from_le_bytes}
use Rattle.std.proofs.lemmas.Nat.{from_le_bytes-to_le_bytes_8}
use Rattle.cache_types.specs.Driver.{DriverKeys, blob_of, IsDriver, Fronts}
use Rattle.cache_types.proofs.Blobs.{blob_parts}

-- what stands before the first zero byte, and behind it
pub zero_split : (a b r s : List ℕ) → AllByRecursion (λ x. x ≢ 0) a → AllByRecursion (λ x. x ≢ 0) b → a ++ (0 ∷ r) ≡ b ++ (0 ∷ s) → (a ≡ b) × (r ≡ s)
zero_split [] [] r s na nb e = (refl, ap (drop 1) e)
zero_split [] (y ∷ b) r s na nb e = absurd (nb.0 (sym (ap (λ (x : List ℕ). get_or x 0 0) e)))
zero_split (x ∷ a) [] r s na nb e = absurd (na.0 (ap (λ (x : List ℕ). get_or x 0 0) e))
zero_split (x ∷ a) (y ∷ b) r s na nb e =
    let rest = zero_split a b r s na.1 nb.1 (ap (drop 1) e) in
    (ap (λ (n : ℕ). n ∷ a) (ap (λ (l : List ℕ). get_or l 0 0) e) ∙ ap (λ (l : List ℕ). y ∷ l) rest.0, rest.1)

-- the same flags stand in front of the same bytes
pub same_flags : (a b : ℕ) (r s : List ℕ) → to_le_bytes w64 a ++ r ≡ to_le_bytes w64 b ++ s → to_le_bytes w64 a ≡ to_le_bytes w64 b
same_flags a b r s e = ap (take 8) e

pub same_driver : (d e : DriverKeys) (r s : List ℕ) → IsDriver d → IsDriver e → blob_of d ++ r ≡ blob_of e ++ s → d ≡ e
same_driver d e r s d_is e_is same =
    let whole = sym (blob_parts d r) ∙ same ∙ blob_parts e s in
    let ids = zero_split d.id e.id _ _ d_is.id.1 e_is.id.1 (ap (drop 1) whole) in
    let gpus = zero_split d.gpu e.gpu _ _ d_is.gpu.1 e_is.gpu.1 ids.1 in
    let bytes = same_flags d.flags e.flags r s (ap (drop 1) gpus.1) in
    let flags = sym (from_le_bytes-to_le_bytes_8 d.flags d_is.flags) ∙ ap (from_le_bytes w64) bytes ∙ from_le_bytes-to_le_bytes_8 e.flags e_is.flags in
    ap (λ (x : List ℕ). record { id = x; gpu = d.gpu; flags = d.flags }) ids.0
    ∙ ap (λ (x : List ℕ). record { id = e.id; gpu = x; flags = d.flags }) gpus.0
    ∙ ap (λ (x : ℕ). record { id = e.id; gpu = e.gpu; flags = x }) flags

pub one_driver : (d e : DriverKeys) (r s : List ℕ) → IsDriver d → IsDriver e → blob_of d ++ r ≡ blob_of e ++ s → blob_of d ≡ blob_of e
one_driver d e r s d_is e_is same = ap blob_of (same_driver d e r s d_is e_is same)

-- the same, of what Fronts says
pub one_front : (bytes : List ℕ) (d e : DriverKeys) → Fronts bytes d → Fronts bytes e → d ≡ e
one_front bytes d e f g = same_driver d e f.rest g.rest f.driver g.driver (sym f.bytes_are ∙ g.bytes_are)

pub same_blob : (d e : DriverKeys) → IsDriver d → IsDriver e → blob_of d ≡ blob_of e → d ≡ e
same_blob d e d_is e_is same = same_driver d e [] [] d_is e_is (ap (λ (x : List ℕ). x ++ []) same)

-- comparing their blobs compares the drivers
pub same_test : (d e : DriverKeys) (x y : List ℕ) (r : Bool) → IsDriver d → IsDriver e → x ≡ blob_of d → y ≡ blob_of e → r ≡ pointwise nat_eq x y → IsTrue r ↔ (d ≡ e)
same_test d e x y r d_is e_is x_is y_is r_is =
    let decides = bytes_decides x y in (
      λ yes. same_blob d e d_is e_is (sym x_is ∙ decides.0 (sym r_is ∙ yes) ∙ y_is),
      λ same. r_is ∙ decides.1 (x_is ∙ ap blob_of same ∙ sym y_is),
    )
