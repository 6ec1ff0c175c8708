-- The bytes of an item.
use Rattle.std.specs.Prelude.{◌≡◌, ℕ, ◌≤◌, List, [], ◌++◌, length}
use Rattle.std.specs.List.{flat_map, AllByRecursion}
use Rattle.std.specs.Int.{w32, to_le_bytes}
use Rattle.cache_types.specs.declared.limits.TheConstants.{KEY_LEN, MAX_KEYS, MAX_BLOB}
use Rattle.cache_types.specs.declared.meta.Meta.{Meta}
use Rattle.cache_types.specs.declared.meta.Meta.TheVariants.{Unknown, Glsl}
use Rattle.cache_types.specs.Driver.{DriverKeys, blob_of, IsDriver}
use Rattle.crc_small.specs.Sum.{Sum}

-- the type, 0 or 1; for type 1 then the count of the keys and the keys
abbrev pub meta_bytes : Meta → List ℕ
meta_bytes Unknown = to_le_bytes w32 0
meta_bytes (Glsl keys) = to_le_bytes w32 1 ++ (to_le_bytes w32 (length keys) ++ flat_map (λ key. key.bytes) keys)

-- the CRC-32 of the blob, its size and the blob itself
abbrev pub payload_bytes : List ℕ → List ℕ
payload_bytes blob = to_le_bytes w32 (Sum blob) ++ (to_le_bytes w32 (length blob) ++ blob)

-- the item of a driver, a meta and a blob
abbrev pub item_of : DriverKeys → Meta → List ℕ → List ℕ
item_of d meta blob = blob_of d ++ (meta_bytes meta ++ payload_bytes blob)

-- a meta that an item can have
abbrev pub IsMeta : Meta → Type 0
IsMeta Unknown = Unit {0}
IsMeta (Glsl keys) = (length keys ≤ MAX_KEYS) × AllByRecursion (λ key. length key.bytes ≡ KEY_LEN) keys

-- the bytes are the item of this driver, meta and blob
pub record ReadsAs (d : DriverKeys) (bytes : List ℕ) (meta : Meta) (blob : List ℕ) : Type 0 where
  pub fits : IsMeta meta
  pub size : length blob ≤ MAX_BLOB
  pub whole : bytes ≡ item_of d meta blob

-- the bytes are the item of this driver and blob, with some meta
pub record Reads (d : DriverKeys) (bytes blob : List ℕ) : Type 0 where
  pub meta : Meta
  pub fits : IsMeta meta
  pub size : length blob ≤ MAX_BLOB
  pub whole : bytes ≡ item_of d meta blob

-- the bytes are an item of this driver
abbrev pub IsItem : DriverKeys → List ℕ → Type 0
IsItem d bytes = (blob : List ℕ) × Reads d bytes blob

-- no other driver has an item that begins with the bytes, and no longer bytes are an item of this one
abbrev pub IsOnlyItem : DriverKeys → List ℕ → Type 0
IsOnlyItem d bytes = (e : DriverKeys) (more blob : List ℕ) → IsDriver e → Reads e (bytes ++ more) blob → (d ≡ e) × (more ≡ [])
