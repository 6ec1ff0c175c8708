-- No item is a proper prefix of another, of whatever driver.
use Rattle.std.proofs.Common.{◌≡◌, ℕ, ◌≤◌, List, [], ◌∷◌, ◌++◌, length, take, drop, refl, sym, ap, ◌∙◌, append_assoc, arith}
use Rattle.std.specs.Int.{w32, from_le_bytes, to_le_bytes}
use Rattle.std.proofs.lemmas.List.{take_at, drop_at, append_cancel_left, length-append}
use Rattle.std.proofs.lemmas.Nat.{from_le_bytes-to_le_bytes_4}
use Rattle.cache_types.specs.declared.limits.TheConstants.{MAX_BLOB}
use Rattle.cache_types.specs.declared.meta.Meta.{Meta}
use Rattle.cache_types.specs.Driver.{DriverKeys, blob_of, IsDriver}
use Rattle.cache_types.proofs.OneDriver.{same_driver}
use Rattle.crc_small.specs.Sum.{Sum}
use Rattle.item_frame.specs.Item.{meta_bytes, payload_bytes, IsMeta}
use Rattle.item_frame.specs.Reading.{meta_at}
use Rattle.item_frame.proofs.ReadBack.{meta_again}

-- fronts of one length
front_split : (a b r s : List ℕ) → length a ≡ length b → a ++ r ≡ b ++ s → (a ≡ b) × (r ≡ s)
front_split a b r s len e = (
  sym (take_at a r (length b) len) ∙ ap (take (length b)) e ∙ take_at b s (length b) refl,
  sym (drop_at a r (length b) len) ∙ ap (drop (length b)) e ∙ drop_at b s (length b) refl,
)

-- bytes begin with the keys blob of one driver at most
one_front : (d e : DriverKeys) (r s : List ℕ) → IsDriver d → IsDriver e → blob_of d ++ r ≡ blob_of e ++ s → (d ≡ e) × (r ≡ s)
one_front d e r s d_is e_is same =
    let driver = same_driver d e r s d_is e_is same in
    (driver, append_cancel_left (blob_of e) r s (sym (ap (λ (x : DriverKeys). blob_of x ++ r) driver) ∙ same))

-- bytes begin with one meta at most
one_meta : (m n : Meta) (r s : List ℕ) → IsMeta m → IsMeta n → meta_bytes m ++ r ≡ meta_bytes n ++ s → r ≡ s
one_meta m n r s m_is n_is same =
    let meta : m ≡ n = sym (meta_again m r m_is) ∙ ap meta_at same ∙ meta_again n s n_is in
    append_cancel_left (meta_bytes n) r s (sym (ap (λ (x : Meta). meta_bytes x ++ r) meta) ∙ same)

no_more : (more : List ℕ) → length more ≡ 0 → more ≡ []
no_more [] e = refl
no_more (x ∷ more) e = absurd (omega (arith, e))

-- nothing stands behind a payload that is whole
one_payload : (a b more : List ℕ) → length a ≤ MAX_BLOB → length b ≤ MAX_BLOB → payload_bytes a ++ more ≡ payload_bytes b → more ≡ []
one_payload a b more a_fits b_fits same =
    let size_a = to_le_bytes w32 (length a) in
    let size_b = to_le_bytes w32 (length b) in
    let sums = front_split (to_le_bytes w32 (Sum a)) (to_le_bytes w32 (Sum b)) ((size_a ++ a) ++ more) (size_b ++ b) refl (sym (append_assoc (to_le_bytes w32 (Sum a)) (size_a ++ a) more) ∙ same) in
    let sizes = front_split size_a size_b (a ++ more) b refl (sym (append_assoc size_a a more) ∙ sums.1) in
    let size : length a ≡ length b =
    sym (from_le_bytes-to_le_bytes_4 (length a) (omega arith)) ∙ ap (from_le_bytes w32) sizes.0 ∙ from_le_bytes-to_le_bytes_4 (length b) (omega arith) in
    no_more more (omega (arith, ap length sizes.1, length-append a more, size))

-- an item that begins with an item is that item
pub one_item : (d e : DriverKeys) (m n : Meta) (a b more : List ℕ) → IsDriver d → IsDriver e → IsMeta m → IsMeta n → length a ≤ MAX_BLOB → length b ≤ MAX_BLOB
    → (blob_of d ++ (meta_bytes m ++ payload_bytes a)) ++ more ≡ blob_of e ++ (meta_bytes n ++ payload_bytes b) → (d ≡ e) × (more ≡ [])
one_item d e m n a b more d_is e_is m_is n_is a_fits b_fits same =
    let fronts = one_front d e ((meta_bytes m ++ payload_bytes a) ++ more) (meta_bytes n ++ payload_bytes b) d_is e_is (sym (append_assoc (blob_of d) (meta_bytes m ++ payload_bytes a) more) ∙ same) in
    let bodies = one_meta m n (payload_bytes a ++ more) (payload_bytes b) m_is n_is (sym (append_assoc (meta_bytes m) (payload_bytes a) more) ∙ fronts.1) in
    (fronts.0, one_payload a b more a_fits b_fits bodies)
