-- The laws of items, for the crates above.
use Rattle.std.proofs.Common.{◌≡◌, ℕ, ◌+◌, ◌-◌, ◌*◌, ◌≤◌, List, [], ◌++◌, length, drop, Result, Ok, Err, refl, sym, ap, subst, ◌∙◌, append_assoc, arith, length-append}
use Rattle.std.specs.Result.{result_err}
use Rattle.std.proofs.lemmas.List.{drop_at, append-nil}
use Rattle.std.specs.Int.{w32, to_le_bytes}
use Rattle.cache_types.specs.declared.key.Key.{Key}
use Rattle.cache_types.specs.declared.limits.TheConstants.{MAX_ITEM}
use Rattle.cache_types.specs.declared.meta.Meta.{Meta}
use Rattle.cache_types.specs.declared.meta.Meta.TheVariants.{Unknown, Glsl}
use Rattle.cache_types.specs.Driver.{DriverKeys, blob_of, IsDriver}
use Rattle.cache_types.proofs.Blobs.{length-blob_of}
use Rattle.item_frame.specs.declared.refusal.ItemRefusal.{ItemRefusal}
use Rattle.crc_small.specs.Sum.{Sum}
use Rattle.item_frame.specs.Item.{meta_bytes, payload_bytes, item_of, IsMeta, ReadsAs, Reads, IsItem, IsOnlyItem}
use Rattle.item_frame.specs.Reading.{body_at, rest_at, next_at, item_at, meta_at}
use Rattle.item_frame.specs.Refusals.{IsWrong}
use Rattle.item_frame.proofs.Numbers.{IsBytes, IsBytes-drop, blob_read, same_blob}
use Rattle.item_frame.proofs.KeysLaws.{flat, length-flat}
use Rattle.item_frame.proofs.Spelled.{front_takes, body_takes}
use Rattle.item_frame.proofs.ReadBack.{item_again, meta_again, length-meta}
use Rattle.item_frame.proofs.Fronts.{one_item}
use Rattle.item_frame.proofs.FirstRefusal.{first_refusal_is}

-- ---- reading and spelling

-- an item with its meta is one with some meta
pub Reads-from_as : (d : DriverKeys) (bytes : List ℕ) (meta : Meta) (blob : List ℕ) → ReadsAs d bytes meta blob → Reads d bytes blob
Reads-from_as d bytes meta blob r = record { meta = meta; fits = r.fits; size = r.size; whole = r.whole }

pub ReadsAs-from_reads : (d : DriverKeys) (bytes blob : List ℕ) (r : Reads d bytes blob) → ReadsAs d bytes r.meta blob
ReadsAs-from_reads d bytes blob r = record { fits = r.fits; size = r.size; whole = r.whole }

-- what is read step by step is an item
pub ReadsAs-from_body_at : (d : DriverKeys) (bytes rest blob : List ℕ) → IsBytes bytes → rest_at (blob_of d) bytes ≡ Ok rest → body_at rest ≡ Ok blob → ReadsAs d bytes (meta_at rest) blob
ReadsAs-from_body_at d bytes rest blob fit fronted reads =
    let front = front_takes (blob_of d) bytes rest fronted in
    let rest_fit : IsBytes rest = subst IsBytes (sym front.2) (IsBytes-drop (length (blob_of d)) bytes fit) in
    let body = body_takes rest blob rest_fit front.1 reads in
    record { fits = body.fits; size = body.size; whole = front.0 ∙ ap (λ (x : List ℕ). blob_of d ++ x) body.whole }

-- what is read is an item
pub Reads-from_item_at : (d : DriverKeys) (bytes blob : List ℕ) → IsBytes bytes → item_at (blob_of d) bytes ≡ Ok blob → Reads d bytes blob
Reads-from_item_at d bytes blob fit reads = by_rest (rest_at (blob_of d) bytes) refl reads
  where
    by_rest : (r : Result (List ℕ) ItemRefusal) → rest_at (blob_of d) bytes ≡ r → next_at r body_at ≡ Ok blob → Reads d bytes blob
    by_rest (Ok rest) e h = Reads-from_as d bytes (meta_at rest) blob (ReadsAs-from_body_at d bytes rest blob fit e h)
    by_rest (Err refusal) e h = absurd cc

-- an item is read
pub item_at-reads : (d : DriverKeys) (bytes blob : List ℕ) → Reads d bytes blob → item_at (blob_of d) bytes ≡ Ok blob
item_at-reads d bytes blob r = ap (item_at (blob_of d)) r.whole ∙ item_again (blob_of d) r.meta blob r.fits r.size

-- bytes that aren't read are no item
pub not_item : (d : DriverKeys) (bytes : List ℕ) (refusal : ItemRefusal) → item_at (blob_of d) bytes ≡ Err refusal → IsItem d bytes → ⊥
not_item d bytes refusal e (blob, r) = clash blob (sym (item_at-reads d bytes blob r) ∙ e)
  where
    clash : (blob : List ℕ) → blob_read blob ≡ Err refusal → ⊥
    clash blob h = cc

-- and the table says why
pub IsWrong-from_item_at : (d : DriverKeys) (bytes : List ℕ) (refusal : ItemRefusal) → item_at (blob_of d) bytes ≡ Err refusal → IsWrong d bytes refusal
IsWrong-from_item_at d bytes refusal e = (first_refusal_is (blob_of d) bytes ∙ ap result_err e, not_item d bytes refusal e)

-- ---- one blob, one meta

pub reads_one : (d : DriverKeys) (bytes a b : List ℕ) → Reads d bytes a → Reads d bytes b → a ≡ b
reads_one d bytes a b r s = same_blob a b (sym (item_at-reads d bytes a r) ∙ item_at-reads d bytes b s)

pub reads_one_meta : (d : DriverKeys) (bytes : List ℕ) (m n : Meta) (a b : List ℕ) → ReadsAs d bytes m a → ReadsAs d bytes n b → m ≡ n
reads_one_meta d bytes m n a b r s = sym (meta_of_item m a r) ∙ meta_of_item n b s
  where
    meta_of_item : (meta : Meta) (blob : List ℕ) → ReadsAs d bytes meta blob → meta_at (drop (length (blob_of d)) bytes) ≡ meta
    meta_of_item meta blob item = ap (λ (x : List ℕ). meta_at (drop (length (blob_of d)) x)) item.whole ∙ ap meta_at (drop_at (blob_of d) (meta_bytes meta ++ payload_bytes blob) (length (blob_of d)) refl) ∙ meta_again meta (payload_bytes blob) item.fits

-- ---- one driver, and nothing behind an item

pub only_item : (d : DriverKeys) (bytes blob : List ℕ) → IsDriver d → Reads d bytes blob → IsOnlyItem d bytes
only_item d bytes blob d_is r = λ e more other e_is s.
    one_item d e r.meta s.meta blob other more d_is e_is r.fits s.fits r.size s.size (sym (ap (λ (x : List ℕ). x ++ more) r.whole) ∙ s.whole)

-- the same bytes read for two drivers: one driver, one blob
pub reads_one_driver : (d e : DriverKeys) (bytes a b : List ℕ) → IsDriver d → IsDriver e → Reads d bytes a → Reads e bytes b → (d ≡ e) × (a ≡ b)
reads_one_driver d e bytes a b d_is e_is r s =
    let only = only_item d bytes a d_is r e [] b e_is (subst (λ (x : List ℕ). Reads e x b) (sym (append-nil bytes)) s) in
    (only.0, reads_one e bytes a b (subst (λ (x : DriverKeys). Reads x bytes a) only.0 r) s)

-- two items of which one begins with the other are one
pub no_proper_prefix : (d e : DriverKeys) (bytes more a b : List ℕ) → IsDriver d → IsDriver e → Reads d bytes a → Reads e (bytes ++ more) b → bytes ++ more ≡ bytes
no_proper_prefix d e bytes more a b d_is e_is r s = ap (λ (x : List ℕ). bytes ++ x) (only_item d bytes a d_is r e more b e_is s).1 ∙ append-nil bytes

-- ---- lengths

pub length-meta_bytes : (keys : List Key) → IsMeta (Glsl keys) → length (meta_bytes (Glsl keys)) ≡ 8 + 20 * length keys
length-meta_bytes keys fits = omega (arith, length-append (to_le_bytes w32 (length keys)) (flat keys), length-flat keys fits.1)

pub length-item_of : (d : DriverKeys) (meta : Meta) (blob : List ℕ) → length (item_of d meta blob) ≡ length (blob_of d) + length (meta_bytes meta) + 8 + length blob
length-item_of d meta blob = omega (arith, length-append (blob_of d) (meta_bytes meta ++ payload_bytes blob), length-append (meta_bytes meta) (payload_bytes blob))

-- no item is shorter than its driver keys blob, a type, a checksum and a size
pub at_least : (d : DriverKeys) (bytes blob : List ℕ) → Reads d bytes blob → length (blob_of d) + 12 + length blob ≤ length bytes
at_least d bytes blob r = omega (arith, ap length r.whole, length-item_of d r.meta blob, length-meta r.meta)

-- nor longer than the longest
pub at_most : (d : DriverKeys) (bytes blob : List ℕ) → IsDriver d → Reads d bytes blob → length bytes ≤ MAX_ITEM
at_most d bytes blob d_is r =
    omega (arith, ap length r.whole, length-item_of d r.meta blob, length-blob_of d, d_is.id.0, d_is.gpu.0, r.size, short r.meta r.fits)
  where
    short : (meta : Meta) → IsMeta meta → length (meta_bytes meta) ≤ 1288
    short Unknown fits = omega arith
    short (Glsl keys) fits = omega (arith, length-meta_bytes keys fits, fits.0)

-- ---- the blob is the last of an item's bytes

last : (head blob : List ℕ) → drop (length (head ++ blob) - length blob) (head ++ blob) ≡ blob
last head blob = drop_at head blob (length (head ++ blob) - length blob) (omega (arith, length-append head blob))

regrouped : (front meta sum size blob : List ℕ) → (front ++ (meta ++ (sum ++ size))) ++ blob ≡ front ++ (meta ++ (sum ++ (size ++ blob)))
regrouped front meta sum size blob = simp append_assoc

last_of_item : (d : DriverKeys) (bytes blob : List ℕ) → Reads d bytes blob → drop (length bytes - length blob) bytes ≡ blob
last_of_item d bytes blob r =
    let head = blob_of d ++ (meta_bytes r.meta ++ (to_le_bytes w32 (Sum blob) ++ to_le_bytes w32 (length blob))) in
    let whole : bytes ≡ head ++ blob = r.whole ∙ sym (regrouped (blob_of d) (meta_bytes r.meta) (to_le_bytes w32 (Sum blob)) (to_le_bytes w32 (length blob)) blob) in
    ap (λ (x : List ℕ). drop (length x - length blob) x) whole ∙ last head blob

-- what stands from there on is read
pub Reads-last : (d : DriverKeys) (bytes blob : List ℕ) → Reads d bytes blob → Reads d bytes (drop (length bytes - length blob) bytes)
Reads-last d bytes blob r = subst (Reads d bytes) (sym (last_of_item d bytes blob r)) r
